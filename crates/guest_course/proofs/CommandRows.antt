-- A disk command is the row of its step, whatever its status.
use Rattle.std.proofs.Common.{◌≡◌, ℕ, ◌==◌, not, if◌then◌else◌, Bool, true, false, Some, None, Ok, length, refl, sym, ap, ◌∙◌, subst}
use Rattle.std.proofs.lemmas.Bool.{eqb-true}
use Rattle.base_words.specs.declared.moves.MoveKind.TheVariants.{Collapse, Break}
use Rattle.base_words.specs.declared.device.Transfer.{Transfer}
use Rattle.base_words.specs.declared.device.DeviceRegister.TheVariants.{DiskCommand}
use Rattle.base_words.specs.Coprocessor.{interrupts}
use Rattle.private_machine.specs.DeviceAct.{Act, ReadsDisk, WritesDisk, NoAct}
use Rattle.private_machine.specs.DevicePage.{transfer_of}
use Rattle.private_machine.specs.Devices.{disk_status, transferred, with_status_of, commanded}
use Rattle.private_machine.specs.OwnStep.{joined, attempted}
use Rattle.private_machine.specs.PrivateMachine.{PrivateMachine, vcpu}
use Rattle.trap_emulate.specs.Emulation.{Stores}
use Rattle.isolation_law.specs.GuestState.{GuestState, page}
use Rattle.isolation_law.specs.Content.{content}
use Rattle.isolation_law.specs.Needs.{none_of, for_change}
use Rattle.isolation_law.specs.StepAct.{at_hand}
use Rattle.isolation_law.specs.StepRows.{IsEmulated}
use Rattle.guest_course.specs.declared.task.Task.{Task}
use Rattle.guest_course.specs.declared.task.Task.TheVariants as tasks
use Rattle.guest_course.specs.CourseRules.{IsWritable}
use Rattle.guest_course.specs.Tasks.{read_task, write_task, IsThere, MayRead}
use Rattle.guest_course.proofs.TaskRows.{passed_by, joined-pages, joined-disk, joined-transfer, EmulatesBy, left-row, Ticks, set_by}

-- the status of a disk command is the same once the input has joined and the instruction is passed
same-status : (m n : PrivateMachine) (t u : Transfer) (command : ℕ) → n.disk ≡ m.disk → n.pages ≡ m.pages → u ≡ t → disk_status n u command ≡ disk_status m t command
same-status m n t u command disk pages is = λ i. disk_status (record m { disk = disk i; pages = pages i }) (is i) command

-- the status of its command
abbrev pub status : GuestState → ℕ → ℕ → ℕ
status s v command = disk_status (content s) (set_by s v) command

-- where such a command leads, and what it does with a page
abbrev pub acts_by : Transfer → ℕ → Bool → Act
acts_by t command done = if not done then NoAct else if command == 1 then ReadsDisk t.block t.page else WritesDisk t.block t.page

pub command-leads : (s : GuestState) (v command : ℕ) → Stores (joined (content s) v) v (attempted (joined (content s) v) v) (at_hand s v) command DiskCommand
    → attempted (joined (content s) v) v ≡ Ok (commanded (passed_by (content s) v) v (set_by s v) command (status s v command))
command-leads s v command stores =
    let m = content s in
    let n = passed_by m v in
    let same = joined-transfer m v in
    let there = same-status m n (set_by s v) (transfer_of n.devices v) command (joined-disk m v) (joined-pages m v) same in
    stores.leads ∙ (λ i. Ok (commanded n v (same i) command (there i)))

pub command-does : (s : GuestState) (v command : ℕ) → Stores (joined (content s) v) v (attempted (joined (content s) v) v) (at_hand s v) command DiskCommand
    → at_hand s v ≡ acts_by (set_by s v) command (status s v command == 0)
command-does s v command stores =
    let m = content s in
    let j = joined m v in
    let same = joined-transfer m v in
    let here = same-status m j (set_by s v) (transfer_of j.devices v) command (joined-disk m v) (joined-pages m v) same in
    stores.does ∙ (λ i. acts_by (same i) command (here i == 0))

-- a command that isn't carried out
refused-row : (s : GuestState) (p v command : ℕ) → Ticks → IsEmulated s p v → interrupts (vcpu (joined (content s) v) v).cp0 ≡ false
    → Stores (joined (content s) v) v (attempted (joined (content s) v) v) (at_hand s v) command DiskCommand
    → (status s v command == 0) ≡ false → EmulatesBy s p v (tasks.Refuse (status s v command))
refused-row s p v command ticks traps off stores is =
    let m = content s in
    let n = passed_by m v in
    let leads = command-leads s v command stores ∙ ap (λ (b : Bool). Ok (with_status_of v (status s v command) (if b then transferred n (set_by s v) command else n))) is in
    let hand = command-does s v command stores ∙ ap (acts_by (set_by s v) command) is in
    left-row s _ p v NoAct _ traps (ticks m v _ traps.runs.running off leads) hand refl refl

-- a page whose bytes may change needs no move for it
pub needs-none : (s : GuestState) (q : ℕ) → IsWritable (page s q) → for_change s q ≡ None
needs-none s q may = λ i. if may.own i then Some (record { page = q; kind = Break; operation = None })
    else if none_of (may.single i) then None else Some (record { page = q; kind = Collapse; operation = None })

read-row : (s : GuestState) (p v : ℕ) → Ticks → IsEmulated s p v → interrupts (vcpu (joined (content s) v) v).cp0 ≡ false
    → Stores (joined (content s) v) v (attempted (joined (content s) v) v) (at_hand s v) 1 DiskCommand
    → IsWritable (page s (set_by s v).page) → (status s v 1 == 0) ≡ true → EmulatesBy s p v (tasks.Read (set_by s v).block (record { 0 = (set_by s v).page }))
read-row s p v ticks traps off stores may is =
    let m = content s in
    let n = passed_by m v in
    let t = set_by s v in
    let leads = command-leads s v 1 stores ∙ ap (λ (k : ℕ). Ok (commanded n v t 1 k)) (eqb-true (status s v 1) 0 is) in
    let hand = command-does s v 1 stores ∙ ap (acts_by t 1) is in
    left-row s _ p v (ReadsDisk t.block t.page) _ traps (ticks m v _ traps.runs.running off leads) hand (needs-none s t.page may) refl

write-row : (s : GuestState) (p v : ℕ) → Ticks → IsEmulated s p v → interrupts (vcpu (joined (content s) v) v).cp0 ≡ false
    → Stores (joined (content s) v) v (attempted (joined (content s) v) v) (at_hand s v) 2 DiskCommand
    → (status s v 2 == 0) ≡ true → EmulatesBy s p v (tasks.Write (set_by s v).block (record { 0 = (set_by s v).page }))
write-row s p v ticks traps off stores is =
    let m = content s in
    let n = passed_by m v in
    let t = set_by s v in
    let leads = command-leads s v 2 stores ∙ ap (λ (k : ℕ). Ok (commanded n v t 2 k)) (eqb-true (status s v 2) 0 is) in
    let hand = command-does s v 2 stores ∙ ap (acts_by t 2) is in
    left-row s _ p v (WritesDisk t.block t.page) _ traps (ticks m v _ traps.runs.running off leads) hand refl refl

-- a read and a write, whatever their status
pub read-task-row : (s : GuestState) (p v : ℕ) (task : Task) → Ticks → IsEmulated s p v → interrupts (vcpu (joined (content s) v) v).cp0 ≡ false
    → Stores (joined (content s) v) v (attempted (joined (content s) v) v) (at_hand s v) 1 DiskCommand
    → MayRead s.pages task → IsThere (length s.disk) (length s.pages) task → task ≡ read_task (set_by s v) (status s v 1) → EmulatesBy s p v task
read-task-row s p v task ticks traps off stores may there is = by (status s v 1 == 0) refl is
  where
    by : (b : Bool) → (status s v 1 == 0) ≡ b → task ≡ (if b then tasks.Read (set_by s v).block (record { 0 = (set_by s v).page }) else tasks.Refuse (status s v 1)) → EmulatesBy s p v task
    by true e is =
        subst (λ (x : Task). EmulatesBy s p v x) (sym is) (read-row s p v ticks traps off stores (subst (MayRead s.pages) is may) e)
    by false e is = subst (λ (x : Task). EmulatesBy s p v x) (sym is) (refused-row s p v 1 ticks traps off stores e)

pub write-task-row : (s : GuestState) (p v : ℕ) (task : Task) → Ticks → IsEmulated s p v → interrupts (vcpu (joined (content s) v) v).cp0 ≡ false
    → Stores (joined (content s) v) v (attempted (joined (content s) v) v) (at_hand s v) 2 DiskCommand
    → task ≡ write_task (set_by s v) (status s v 2) → EmulatesBy s p v task
write-task-row s p v task ticks traps off stores is = by (status s v 2 == 0) refl is
  where
    by : (b : Bool) → (status s v 2 == 0) ≡ b → task ≡ (if b then tasks.Write (set_by s v).block (record { 0 = (set_by s v).page }) else tasks.Refuse (status s v 2)) → EmulatesBy s p v task
    by true e is = subst (λ (x : Task). EmulatesBy s p v x) (sym is) (write-row s p v ticks traps off stores e)
    by false e is = subst (λ (x : Task). EmulatesBy s p v x) (sym is) (refused-row s p v 2 ticks traps off stores e)
