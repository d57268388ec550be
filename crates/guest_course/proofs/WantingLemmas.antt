-- The step at hand of an act for which memory may be wanting.
use Rattle.std.proofs.Common.{◌≡◌, ℕ, ◌==◌, sym, ap, ◌∙◌, subst}
use Rattle.private_machine.specs.DeviceAct.{Act, WritesDisk, SendsPage}
use Rattle.guest_devs.specs.declared.act.DevAct.{DevAct}
use Rattle.guest_devs.specs.declared.act.DevAct.TheVariants as acts
use Rattle.isolation_law.specs.GuestState.{GuestState}
use Rattle.isolation_law.specs.StepAct.{at_hand}
use Rattle.guest_course.specs.EmulateCalls.{LeavesAct}
use Rattle.guest_course.specs.Wanting.{TakesMemory, MayWant}
use Rattle.guest_course.proofs.CommandRows.{command-does, acts_by}
use Rattle.guest_course.proofs.SendRows.{send-does, sends_if}
use Rattle.guest_course.proofs.TaskRows.{set_by}

takes : (a b : Act) → a ≡ b → TakesMemory b → TakesMemory a
takes a b same is = subst TakesMemory (sym same) is

pub takes-memory : (s t : GuestState) (p v : ℕ) (act : DevAct) → LeavesAct s p v act t → MayWant s v act → TakesMemory (at_hand s v)
takes-memory s t p v acts.Done left may = absurd may
takes-memory s t p v acts.DiskRead left may = absurd may
takes-memory s t p v acts.DiskWrite left may =
    takes (at_hand s v) (WritesDisk (set_by s v).block (set_by s v).page) (command-does s v 2 left.defers.leaves ∙ ap (λ (n : ℕ). acts_by (set_by s v) 2 (n == 0)) may) tt
takes-memory s t p v (acts.Send to) left may =
    takes (at_hand s v) (SendsPage (set_by s v).send_page (set_by s v).send_length to) (send-does s v to left.defers.leaves ∙ ap (sends_if (set_by s v) to) may) tt
