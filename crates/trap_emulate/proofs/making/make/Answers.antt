use Rattle.std.proofs.Common.{◌≡◌, ℕ, ◌∙◌, subst}
use Rattle.private_machine.specs.PrivateMachine.{PrivateMachine, on_vcpu}
use Rattle.private_machine.specs.Vcpu.{ticking}
use Rattle.trap_emulate.specs.Deeds.{Tells}
use Rattle.trap_emulate.specs.GuestView.{machine_of}
use Rattle.trap_emulate.proofs.MakeLemmas.{makes}
use Rattle.trap_emulate.proofs.making.make.Goals as goal

pub returns-clause-makes : goal.returns-clause-makes
returns-clause-makes c memory disk =
    let v = c.args.vcpu.0 in
    let pages = c.args.devs.now.state.pages in
    let joins = c.join.new in
    let carried = c.carry_out-outcome.new in
    let outcome = c.carry_out-outcome.result in
    let mid = machine_of pages carried.vcpus carried.devs.state.page memory disk in
    let tells = subst (λ (n : ℕ). Tells (machine_of n joins.vcpus joins.devs.state.page memory disk) v c.args.deed (machine_of n carried.vcpus carried.devs.state.page memory disk) outcome)
    c.join.ensures.fits.of_pages (c.carry_out-outcome.ensures.tells memory disk) in
    let told = subst (λ (j : PrivateMachine). Tells j v c.args.deed mid outcome) (c.join.ensures.joined memory disk) tells in
    let ticked = subst (λ (n : ℕ). machine_of n c.tick.new.vcpus carried.devs.state.page memory disk ≡ on_vcpu (machine_of n carried.vcpus carried.devs.state.page memory disk) v ticking)
    (c.carry_out-outcome.ensures.fits.of_pages ∙ c.join.ensures.fits.of_pages) (c.tick.ensures.ticked memory disk) in
    makes (machine_of pages c.args.vcpus.now c.args.devs.now.state.page memory disk) mid (machine_of pages c.tick.new.vcpus carried.devs.state.page memory disk) v c.args.deed outcome
    c.requires.runs.running told ticked
