-- A step is one from the block that stands beside the virtual processor, and leaves it there.
use Rattle.std.proofs.Common.{◌≡◌, ℕ, ◌<◌, List, Option, None, is_some, length, set, sym, ap, ◌∙◌, subst, get_or, get_or-set_same}
use Rattle.private_machine.specs.declared.register_page.RegBlock.{RegBlock}
use Rattle.isolation_law.specs.GuestState.{processor, block_at}
use Rattle.guest_course.specs.declared.course.Course.{Course}
use Rattle.guest_course.specs.CourseView.{state_of}
use Rattle.guest_course.specs.Failures.{lost_in}
use Rattle.guest_course.specs.Executed.{outcome_at, parts_of, ExecutesOn}
use Rattle.guest_course.proofs.DirectRow.{no-block, block-there, unpaged}
use Rattle.guest_course.proofs.course.Course.stepped.Goals as goal

pub page_of-block-requires-clause-there : goal.page_of-block-requires-clause-there
page_of-block-requires-clause-there c =
    subst (λ (n : ℕ). c.args.vcpu.0 < n) (sym c.requires.sound.sized.blocks) (c.requires.sound.loaded c.args.processor.0 c.args.vcpu.0 c.requires.may.runs.loaded)

pub page_of-block-requires-clause-paged : goal.page_of-block-requires-clause-paged
page_of-block-requires-clause-paged c =
    let s = state_of c.args.self.now in
    let v = c.args.vcpu.0 in
    let going = c.requires.sound.going c.requires.may.goes_on.not_ended in
    block-there s v going.coherent.mirrors (c.requires.sound.loaded c.args.processor.0 v c.requires.may.runs.loaded) ∙ sym c.requires.paged

pub hardware-step-requires-clause-paged : goal.hardware-step-requires-clause-paged
hardware-step-requires-clause-paged c =
    let s = state_of c.args.self.now in
    let v = c.args.vcpu.0 in
    let going = c.requires.sound.going c.requires.may.goes_on.not_ended in
    let some : is_some (block_at s v) ≡ c.args.paged = block-there s v going.coherent.mirrors (c.requires.sound.loaded c.args.processor.0 v c.requires.may.runs.loaded) ∙ sym c.requires.paged in
    sym (ap is_some c.page_of-block.ensures ∙ some)

pub put_page-requires-clause-there : goal.put_page-requires-clause-there
put_page-requires-clause-there c =
    let old = c.args.self.now in
    let v = c.args.vcpu.0 in
    let there : v < length old.blocks.items = subst (λ (n : ℕ). v < n) (sym c.requires.sound.sized.blocks) (c.requires.sound.loaded c.args.processor.0 v c.requires.may.runs.loaded) in
    subst (λ (x : Course). v < length x.blocks.items) (sym c.hardware-step.ensures.same) there

pub put_page-requires-clause-none : goal.put_page-requires-clause-none
put_page-requires-clause-none c = λ off.
    let old = c.args.self.now in
    let mid = c.hardware-step.new.self in
    let v = c.args.vcpu.0 in
    let s = state_of old in
    let going = c.requires.sound.going c.requires.may.goes_on.not_ended in
    let lost = lost_in old.around.site.shape old.dead in
    let tlb = (processor s c.args.processor.0).tlb in
    let none : block_at s v ≡ None = no-block s v going.coherent.mirrors (c.requires.sound.loaded c.args.processor.0 v c.requires.may.runs.loaded) (sym c.requires.paged ∙ off) in
    let first : c.page_of-block.result ≡ None = c.page_of-block.ensures ∙ none in
    let last : block_at (state_of mid) v ≡ None = ap (λ (x : Course). block_at (state_of x) v) c.hardware-step.ensures.same ∙ none in
    let executes : ExecutesOn v (outcome_at lost None old.pmap.pages old.vcpus.items old.devs.state.page v tlb) (parts_of None old) (parts_of c.hardware-step.new.block mid) c.hardware-step.result =
    subst (λ (b : Option RegBlock). ExecutesOn v (outcome_at lost b old.pmap.pages old.vcpus.items old.devs.state.page v tlb) (parts_of b old) (parts_of c.hardware-step.new.block mid) c.hardware-step.result) first c.hardware-step.ensures.executes in
    unpaged lost v old mid c.hardware-step.new.block tlb c.hardware-step.result executes ∙ sym last

pub returns-clause-blocks : goal.returns-clause-blocks
returns-clause-blocks c =
    let old = c.args.self.now in
    let mid = c.hardware-step.new.self in
    let v = c.args.vcpu.0 in
    let block = c.hardware-step.new.block in
    let there : v < length old.blocks.items = subst (λ (n : ℕ). v < n) (sym c.requires.sound.sized.blocks) (c.requires.sound.loaded c.args.processor.0 v c.requires.may.runs.loaded) in
    let same : mid.blocks.items ≡ old.blocks.items = ap (λ (x : Course). x.blocks.items) c.hardware-step.ensures.same in
    let put : c.put_page.new.self.blocks.items ≡ set old.blocks.items v block = c.put_page.ensures.put ∙ ap (λ (l : List (Option RegBlock)). set l v block) same in
    let last : block_at (state_of c.put_page.new.self) v ≡ block = ap (λ (l : List (Option RegBlock)). get_or l v None) put ∙ get_or-set_same old.blocks.items v block None there in
    put ∙ ap (set old.blocks.items v) (sym last)

pub returns-clause-executes : goal.returns-clause-executes
returns-clause-executes c =
    let old = c.args.self.now in
    let mid = c.hardware-step.new.self in
    let v = c.args.vcpu.0 in
    let s = state_of old in
    let block = c.hardware-step.new.block in
    let lost = lost_in old.around.site.shape old.dead in
    let tlb = (processor s c.args.processor.0).tlb in
    let there : v < length old.blocks.items = subst (λ (n : ℕ). v < n) (sym c.requires.sound.sized.blocks) (c.requires.sound.loaded c.args.processor.0 v c.requires.may.runs.loaded) in
    let same : mid.blocks.items ≡ old.blocks.items = ap (λ (x : Course). x.blocks.items) c.hardware-step.ensures.same in
    let put : c.put_page.new.self.blocks.items ≡ set old.blocks.items v block = c.put_page.ensures.put ∙ ap (λ (l : List (Option RegBlock)). set l v block) same in
    let last : block_at (state_of c.put_page.new.self) v ≡ block = ap (λ (l : List (Option RegBlock)). get_or l v None) put ∙ get_or-set_same old.blocks.items v block None there in
    subst (λ (x : Course). ExecutesOn v (outcome_at lost (block_at s v) old.pmap.pages old.vcpus.items old.devs.state.page v tlb) (parts_of (block_at s v) old) (parts_of (block_at (state_of c.put_page.new.self) v) x) c.hardware-step.result) (sym c.put_page.ensures.same)
    (subst (λ (b : Option RegBlock). ExecutesOn v (outcome_at lost (block_at s v) old.pmap.pages old.vcpus.items old.devs.state.page v tlb) (parts_of (block_at s v) old) (parts_of b mid) c.hardware-step.result) (sym last)
    (subst (λ (b : Option RegBlock). ExecutesOn v (outcome_at lost b old.pmap.pages old.vcpus.items old.devs.state.page v tlb) (parts_of b old) (parts_of block mid) c.hardware-step.result) c.page_of-block.ensures c.hardware-step.ensures.executes))
