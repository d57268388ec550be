-- The page into which a block comes with an act that was left, by the step at hand.
use Rattle.std.proofs.Common.{◌≡◌, ℕ, ◌==◌, if◌then◌else◌, Bool, true, false, Some, None, sym, ap, ◌∙◌, refl}
use Rattle.std.proofs.lemmas.Option.{same_Some}
use Rattle.private_machine.specs.DeviceAct.{ReadsDisk}
use Rattle.private_machine.specs.Devices.{may_send}
use Rattle.guest_devs.specs.declared.act.DevAct.{DevAct}
use Rattle.guest_devs.specs.declared.act.DevAct.TheVariants as acts
use Rattle.isolation_law.specs.Content.{content}
use Rattle.isolation_law.specs.GuestState.{GuestState}
use Rattle.isolation_law.specs.StepAct.{at_hand}
use Rattle.guest_course.specs.EmulateCalls.{LeavesAct}
use Rattle.guest_course.specs.Tasks.{read_page}
use Rattle.guest_course.proofs.CommandRows.{command-does, acts_by, status}
use Rattle.guest_course.proofs.HurdleLemmas.{never-some}
use Rattle.guest_course.proofs.SendRows.{send-does, sends_if}
use Rattle.guest_course.proofs.TaskRows.{set_by}

pub read-at-hand : (s : GuestState) (p v q : ℕ) (act : DevAct) → LeavesAct s p v act s → read_page s v act ≡ Some q → (b : ℕ) × (at_hand s v ≡ ReadsDisk b q)
read-at-hand s p v q acts.Done left is = absurd (never-some q is)
read-at-hand s p v q acts.DiskRead left is = by (status s v 1 == 0) refl is
  where
    by : (done : Bool) → (status s v 1 == 0) ≡ done → (if done then Some (set_by s v).page else None) ≡ Some q → (b : ℕ) × (at_hand s v ≡ ReadsDisk b q)
    by true e is = ((set_by s v).block, command-does s v 1 left.defers.leaves ∙ ap (acts_by (set_by s v) 1) e ∙ ap (ReadsDisk (set_by s v).block) (same_Some (set_by s v).page q is))
    by false e is = absurd (never-some q is)
read-at-hand s p v q acts.DiskWrite left is = absurd (never-some q is)
read-at-hand s p v q (acts.Send to) left is = absurd (never-some q is)

-- what each act does with a page where it reads no block
same-page : (a b q r : ℕ) → ReadsDisk a q ≡ ReadsDisk b r → q ≡ r
same-page a b q r e = cc

read-by : (s : GuestState) (v b q : ℕ) (done : Bool) → acts_by (set_by s v) 1 done ≡ ReadsDisk b q → (if done then Some (set_by s v).page else None) ≡ Some q
read-by s v b q true e = ap Some (same-page (set_by s v).block b (set_by s v).page q e)
read-by s v b q false e = cc

written-never : (s : GuestState) (v b q : ℕ) (done : Bool) → acts_by (set_by s v) 2 done ≡ ReadsDisk b q → ⊥
written-never s v b q true e = cc
written-never s v b q false e = cc

sent-never : (s : GuestState) (v to b q : ℕ) (may : Bool) → sends_if (set_by s v) to may ≡ ReadsDisk b q → ⊥
sent-never s v to b q true e = cc
sent-never s v to b q false e = cc

pub read-back : (s : GuestState) (p v b q : ℕ) (act : DevAct) → LeavesAct s p v act s → at_hand s v ≡ ReadsDisk b q → read_page s v act ≡ Some q
read-back s p v b q acts.Done left is = absurd left.defers.leaves
read-back s p v b q acts.DiskRead left is = read-by s v b q (status s v 1 == 0) (sym (command-does s v 1 left.defers.leaves) ∙ is)
read-back s p v b q acts.DiskWrite left is = absurd (written-never s v b q (status s v 2 == 0) (sym (command-does s v 2 left.defers.leaves) ∙ is))
read-back s p v b q (acts.Send to) left is = absurd (sent-never s v to b q (may_send (content s) (set_by s v)) (sym (send-does s v to left.defers.leaves) ∙ is))
