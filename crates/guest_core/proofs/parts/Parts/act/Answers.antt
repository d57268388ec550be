-- A frame was had, or what the act needs was done without it.
use Rattle.std.proofs.Common.{◌≡◌, ℕ, inr, [], List, Option, Some, None, Ok, sym, ap, ◌∙◌, subst}
use Rattle.base_words.specs.declared.ids.Ppn.{Ppn}
use Rattle.base_words.specs.declared.ids.ProcId.{ProcId}
use Rattle.base_words.specs.declared.ids.VcpuId.{VcpuId}
use Rattle.shootdown.specs.declared.notes.Note.{Note}
use Rattle.guest_course.specs.Acting.{page_used}
use Rattle.guest_course.specs.CourseView.{state_of}
use Rattle.guest_core.specs.GuestCalls.{Leaves, TurnAnswers, processor_of, told_of_turn}
use Rattle.guest_core.specs.GuestView.{guest_of, Monitored, Shared, shared_by}
use Rattle.guest_core.specs.Sharing.{BeginsForStep}
use Rattle.guest_core.specs.TurnParts.{BeginsFor, SharesFirst, StaysButView}
use Rattle.guest_core.proofs.ActingLemmas.{are-again, begun-then, carried-then, leaves-seen, told-err, turns-err, wants-then}
use Rattle.guest_core.proofs.EnterProofs.{quiet-leaves}
use Rattle.guest_core.proofs.parts.Parts.act.Goals as goal

began : (shared : Shared) (old : Monitored) (n p : ProcId) (v : VcpuId) (new : Monitored) (x : Option Ppn) (q : Ppn) → n ≡ p → x ≡ Some q → SharesFirst shared old n v new (Ok x) → BeginsForStep shared old p v q new
began shared old n p v new x q at is first = subst (λ (m : ProcId). BeginsForStep shared old m v q new) at (subst (λ (y : Option Ppn). SharesFirst shared old n v new (Ok y)) is first)

stays : (shared : Shared) (old : Monitored) (n : ProcId) (v : VcpuId) (new : Monitored) (x : Option Ppn) → x ≡ None → SharesFirst shared old n v new (Ok x) → StaysButView shared old v.0 new
stays shared old n v new x is first = subst (λ (y : Option Ppn). SharesFirst shared old n v new (Ok y)) is first

pub returns-in-Some-clause-turns : goal.returns-in-Some-clause-turns
returns-in-Some-clause-turns g c =
    began (shared_by c.args.resources.now) (guest_of c.args.self.now) c.number-processor.result (processor_of c.args.token.now) c.args.vcpu (guest_of c.share_first.new.self) c.in_ok-shared-in-Needs.field-0 c.in-Some.shared
    (ap (λ (n : ℕ). record { 0 = n }) c.number-processor.ensures) c.in-Some.is c.in_ok-shared-in-Needs.ensures.shares

pub returns-in-Some-2-clause-turns : goal.returns-in-Some-2-clause-turns
returns-in-Some-2-clause-turns g c =
    began (shared_by c.args.resources.now) (guest_of c.args.self.now) c.number-processor.result (processor_of c.args.token.now) c.args.vcpu (guest_of c.share_first-in-Free.new.self) c.in_ok-shared-in-Free.field-0 c.in-Some-2.shared
    (ap (λ (n : ℕ). record { 0 = n }) c.number-processor.ensures) c.in-Some-2.is c.in_ok-shared-in-Free.ensures.shares

pub carry_out-requires-clause-shared : goal.carry_out-requires-clause-shared
carry_out-requires-clause-shared g c = are-again (shared_by c.args.resources.now) (guest_of c.args.self.now) (guest_of c.share_first-in-Free.new.self) c.requires.shared c.in_ok-shared-in-Free.ensures.quiet.same

pub returns-in_err-carry_out-in-Free-clause-turns : goal.returns-in_err-carry_out-in-Free-clause-turns
returns-in_err-carry_out-in-Free-clause-turns g c =
    turns-err (shared_by c.args.resources.now) (guest_of c.args.self.now) (processor_of c.args.token.now) c.args.vcpu (guest_of c.carry_out.new.self) c.from_residual-in_err-carry_out-in-Free.result c.from_residual-in_err-carry_out-in-Free.ensures.0
    (wants-then (shared_by c.args.resources.now) (guest_of c.args.self.now) (guest_of c.share_first-in-Free.new.self) (guest_of c.carry_out.new.self) c.args.vcpu.0 (stays (shared_by c.args.resources.now) (guest_of c.args.self.now) c.number-processor.result c.args.vcpu (guest_of c.share_first-in-Free.new.self) c.in_ok-shared-in-Free.field-0 c.in_default-2.is c.in_ok-shared-in-Free.ensures.shares) c.in_err-carry_out-in-Free.ensures.wants)

pub returns-in_err-carry_out-in-Free-clause-leaves : goal.returns-in_err-carry_out-in-Free-clause-leaves
returns-in_err-carry_out-in-Free-clause-leaves g c =
    let none = told-err (processor_of c.args.token.now) c.args.vcpu c.from_residual-in_err-carry_out-in-Free.result c.from_residual-in_err-carry_out-in-Free.ensures.0 in
    subst (λ (told : List Note). Leaves (guest_of c.args.self.now) c.args.token.now told (guest_of c.carry_out.new.self) c.carry_out.new.token) (sym none)
    (leaves-seen (guest_of c.args.self.now) (guest_of c.share_first-in-Free.new.self) (guest_of c.carry_out.new.self) c.args.token.now c.carry_out.new.token [] (stays (shared_by c.args.resources.now) (guest_of c.args.self.now) c.number-processor.result c.args.vcpu (guest_of c.share_first-in-Free.new.self) c.in_ok-shared-in-Free.field-0 c.in_default-2.is c.in_ok-shared-in-Free.ensures.shares).same c.in_err-carry_out-in-Free.ensures.unmade)

pub returns-else-is_own_read-clause-turns : goal.returns-else-is_own_read-clause-turns
returns-else-is_own_read-clause-turns g c =
    subst (λ (p : ProcId). TurnAnswers (shared_by c.args.resources.now) (guest_of c.args.self.now) p c.args.vcpu (guest_of c.meet.new.self) c.meet.result) (ap (λ (n : ℕ). record { 0 = n }) c.number-processor.ensures) c.meet.ensures.turns

pub returns-else-is_own_read-clause-leaves : goal.returns-else-is_own_read-clause-leaves
returns-else-is_own_read-clause-leaves g c =
    let none : told_of_turn (processor_of c.args.token.now) c.args.vcpu (Ok c.meet.result) ≡ [] = subst (λ (p : ProcId). told_of_turn p c.args.vcpu (Ok c.meet.result) ≡ []) (ap (λ (n : ℕ). record { 0 = n }) c.number-processor.ensures) c.meet.ensures.told in
    subst (λ (told : List Note). Leaves (guest_of c.args.self.now) c.args.token.now told (guest_of c.meet.new.self) c.args.token.now) (sym none)
    (quiet-leaves (guest_of c.args.self.now) (guest_of c.meet.new.self) c.args.token.now c.meet.ensures.quiet)

pub returns-in_default-clause-turns : goal.returns-in_default-clause-turns
returns-in_default-clause-turns g c =
    begun-then (shared_by c.args.resources.now) (guest_of c.args.self.now) (guest_of c.share_first.new.self) (guest_of c.begin_read.new.self) (processor_of c.args.token.now) c.args.vcpu c.args.act c.in-Needs.page c.in-Needs.kind c.requires.rest (c.acts_are_at_hand.ensures (state_of c.args.self.now.course) (state_of c.args.self.now.course) c.args.token.now.number c.args.vcpu.0 c.args.act c.requires.left) c.in-Needs.ensures.keeps (stays (shared_by c.args.resources.now) (guest_of c.args.self.now) c.number-processor.result c.args.vcpu (guest_of c.share_first.new.self) c.in_ok-shared-in-Needs.field-0 c.in_default.is c.in_ok-shared-in-Needs.ensures.shares)
    (subst (λ (p : ProcId). BeginsFor (guest_of c.share_first.new.self) p c.in-Needs.page c.in-Needs.kind (guest_of c.begin_read.new.self)) (ap (λ (n : ℕ). record { 0 = n }) c.number-processor.ensures) c.begin_read.ensures.begins)

pub returns-in_ok-carry_out-in-Free-clause-turns : goal.returns-in_ok-carry_out-in-Free-clause-turns
returns-in_ok-carry_out-in-Free-clause-turns g c =
    carried-then (shared_by c.args.resources.now) (guest_of c.args.self.now) (guest_of c.share_first-in-Free.new.self) (guest_of c.carry_out.new.self) (processor_of c.args.token.now) c.args.vcpu c.args.act c.requires.rest (c.acts_are_at_hand.ensures (state_of c.args.self.now.course) (state_of c.args.self.now.course) c.args.token.now.number c.args.vcpu.0 c.args.act c.requires.left) c.in-Free.ensures.keeps (stays (shared_by c.args.resources.now) (guest_of c.args.self.now) c.number-processor.result c.args.vcpu (guest_of c.share_first-in-Free.new.self) c.in_ok-shared-in-Free.field-0 c.in_default-2.is c.in_ok-shared-in-Free.ensures.shares) c.in_ok-carry_out-in-Free.ensures.carries_out

pub meet-requires-clause-meets : goal.meet-requires-clause-meets
meet-requires-clause-meets g c =
    let s = state_of c.args.self.now.course in
    inr (ap page_used (c.acts_are_at_hand.ensures s s c.args.token.now.number c.args.vcpu.0 c.args.act c.requires.left) ∙ c.in-Waits.ensures.keeps.used, c.if-is_own_read.ensures.no)

pub returns-in_err-shared-in-Needs-clause-leaves : goal.returns-in_err-shared-in-Needs-clause-leaves
returns-in_err-shared-in-Needs-clause-leaves g c =
    let none = told-err (processor_of c.args.token.now) c.args.vcpu c.from_residual.result c.from_residual.ensures.0 in
    subst (λ (told : List Note). Leaves (guest_of c.args.self.now) c.args.token.now told (guest_of c.share_first.new.self) c.args.token.now) (sym none)
    (quiet-leaves (guest_of c.args.self.now) (guest_of c.share_first.new.self) c.args.token.now c.share_first.ensures.quiet)

pub returns-in_err-shared-in-Free-clause-leaves : goal.returns-in_err-shared-in-Free-clause-leaves
returns-in_err-shared-in-Free-clause-leaves g c =
    let none = told-err (processor_of c.args.token.now) c.args.vcpu c.from_residual-in_err-shared-in-Free.result c.from_residual-in_err-shared-in-Free.ensures.0 in
    subst (λ (told : List Note). Leaves (guest_of c.args.self.now) c.args.token.now told (guest_of c.share_first-in-Free.new.self) c.args.token.now) (sym none)
    (quiet-leaves (guest_of c.args.self.now) (guest_of c.share_first-in-Free.new.self) c.args.token.now c.share_first-in-Free.ensures.quiet)

pub returns-in_default-clause-leaves : goal.returns-in_default-clause-leaves
returns-in_default-clause-leaves g c =
    let mid = guest_of c.share_first.new.self in
    let same = (stays (shared_by c.args.resources.now) (guest_of c.args.self.now) c.number-processor.result c.args.vcpu mid c.in_ok-shared-in-Needs.field-0 c.in_default.is c.in_ok-shared-in-Needs.ensures.shares).same in
    leaves-seen (guest_of c.args.self.now) mid (guest_of c.begin_read.new.self) c.args.token.now c.args.token.now [] same (quiet-leaves mid (guest_of c.begin_read.new.self) c.args.token.now c.begin_read.ensures.quiet)

pub returns-in_ok-carry_out-in-Free-clause-leaves : goal.returns-in_ok-carry_out-in-Free-clause-leaves
returns-in_ok-carry_out-in-Free-clause-leaves g c =
    let mid = guest_of c.share_first-in-Free.new.self in
    let same = (stays (shared_by c.args.resources.now) (guest_of c.args.self.now) c.number-processor.result c.args.vcpu mid c.in_ok-shared-in-Free.field-0 c.in_default-2.is c.in_ok-shared-in-Free.ensures.shares).same in
    leaves-seen (guest_of c.args.self.now) mid (guest_of c.carry_out.new.self) c.args.token.now c.carry_out.new.token _ same c.in_ok-carry_out-in-Free.ensures.made
