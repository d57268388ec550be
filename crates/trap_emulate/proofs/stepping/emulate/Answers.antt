use Rattle.std.proofs.Common.{Option, Result, subst}
use Rattle.base_words.specs.declared.exception.Exception.{Exception}
use Rattle.private_machine.specs.OwnStep.{joined}
use Rattle.private_machine.specs.StepAct.{act_next}
use Rattle.trap_emulate.specs.declared.emulated.EntryWrite.{EntryWrite}
use Rattle.trap_emulate.specs.AtHand.{needed_for}
use Rattle.trap_emulate.specs.Decisions.{Means}
use Rattle.trap_emulate.specs.Deeds.{told_of}
use Rattle.trap_emulate.specs.Emulation.{tried, Emulates}
use Rattle.trap_emulate.specs.GuestView.{machine_of}
use Rattle.trap_emulate.proofs.MakeLemmas.{defers}
use Rattle.trap_emulate.proofs.StepLemmas.{step-expects, step-means, step-made}
use Rattle.trap_emulate.proofs.TrapLemmas.{needed-told}
use Rattle.trap_emulate.proofs.stepping.emulate.Goals as goal

pub decide-requires : goal.decide-requires
decide-requires c =
    let s = c.args.standing.now in
    step-expects s.pages c.args.vcpus.now c.args.devs.now.state.page s.vcpu.0 s.store_needs c.args.cause c.index-vcpus-standing.result c.requires.runs.there c.requires.traps

pub returns-in-Need-clause-does : goal.returns-in-Need-clause-does
returns-in-Need-clause-does c memory disk holds =
    let s = c.args.standing.now in
    let v = s.vcpu.0 in
    let j = joined (machine_of s.pages c.args.vcpus.now c.args.devs.now.state.page memory disk) v in
    let means = step-means s.pages c.args.vcpus.now c.args.devs.now.state.page memory disk v s.store_needs c.args.cause c.index-vcpus-standing.result c.decide.result
    c.requires.runs.there c.requires.traps c.decide.ensures.decides holds in
    let here = subst (Means j v (needed_for s.store_needs c.args.cause) (tried j v) (act_next j v)) c.in-Need.is means in
    let told = needed-told s.store_needs c.args.cause c.in-Need.kind here.1 in
    record { does = here.0; told = told.0; word = told.1.0; read_only = told.1.1 }

pub returns-in-Leave-clause-does : goal.returns-in-Leave-clause-does
returns-in-Leave-clause-does c memory disk holds =
    let s = c.args.standing.now in
    let v = s.vcpu.0 in
    let j = joined (machine_of s.pages c.args.vcpus.now c.args.devs.now.state.page memory disk) v in
    let means = step-means s.pages c.args.vcpus.now c.args.devs.now.state.page memory disk v s.store_needs c.args.cause c.index-vcpus-standing.result c.decide.result
    c.requires.runs.there c.requires.traps c.decide.ensures.decides holds in
    defers j v c.in-Leave.act (subst (Means j v (needed_for s.store_needs c.args.cause) (tried j v) (act_next j v)) c.in-Leave.is means)

pub returns-in-Ok-clause-does : goal.returns-in-Ok-clause-does
returns-in-Ok-clause-does c memory disk holds =
    let s = c.args.standing.now in
    let v = s.vcpu.0 in
    let vcpus = c.args.vcpus.now in
    let page = c.args.devs.now.state.page in
    let m = machine_of s.pages vcpus page memory disk in
    let j = joined m v in
    let new = c.make.new in
    let means = step-means s.pages vcpus page memory disk v s.store_needs c.args.cause c.index-vcpus-standing.result c.decide.result
    c.requires.runs.there c.requires.traps c.decide.ensures.decides holds in
    let here = subst (Means j v (needed_for s.store_needs c.args.cause) (tried j v) (act_next j v)) c.in-Make.is means in
    let made = step-made s.pages c.args.devs.now.state.pages vcpus page memory disk v s.store_needs c.args.cause c.index-vcpus-standing.result c.decide.new.vcpu c.in-Make.deed
    new.vcpus new.devs.state.page c.make.result c.requires.fits.of_pages c.decide.ensures.same here (c.make.ensures.makes memory disk) in
    subst (λ (r : Result (Option EntryWrite) Exception). Emulates m v s.store_needs c.args.cause (machine_of s.pages new.vcpus new.devs.state.page memory disk) (told_of r)) c.in-Ok.is made

pub returns-in-Err-clause-does : goal.returns-in-Err-clause-does
returns-in-Err-clause-does c memory disk holds =
    let s = c.args.standing.now in
    let v = s.vcpu.0 in
    let vcpus = c.args.vcpus.now in
    let page = c.args.devs.now.state.page in
    let m = machine_of s.pages vcpus page memory disk in
    let j = joined m v in
    let new = c.make.new in
    let means = step-means s.pages vcpus page memory disk v s.store_needs c.args.cause c.index-vcpus-standing.result c.decide.result
    c.requires.runs.there c.requires.traps c.decide.ensures.decides holds in
    let here = subst (Means j v (needed_for s.store_needs c.args.cause) (tried j v) (act_next j v)) c.in-Make.is means in
    let made = step-made s.pages c.args.devs.now.state.pages vcpus page memory disk v s.store_needs c.args.cause c.index-vcpus-standing.result c.decide.new.vcpu c.in-Make.deed
    new.vcpus new.devs.state.page c.make.result c.requires.fits.of_pages c.decide.ensures.same here (c.make.ensures.makes memory disk) in
    subst (λ (r : Result (Option EntryWrite) Exception). Emulates m v s.store_needs c.args.cause (machine_of s.pages new.vcpus new.devs.state.page memory disk) (told_of r)) c.in-Err.is made
