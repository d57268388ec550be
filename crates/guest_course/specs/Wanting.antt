-- For which steps memory may be wanting.
use Rattle.std.specs.Prelude.{◌≡◌, ℕ, true}
use Rattle.private_machine.specs.DeviceAct.{Act, StoresTo, ReadsDisk, WritesDisk, SendsPage, WritesEntry, NoAct}
use Rattle.private_machine.specs.DevicePage.{transfer_of}
use Rattle.private_machine.specs.Devices.{disk_status, may_send}
use Rattle.guest_devs.specs.declared.act.DevAct.{DevAct}
use Rattle.guest_devs.specs.declared.act.DevAct.TheVariants as acts
use Rattle.guest_course.specs.declared.task.Task.{Task}
use Rattle.guest_course.specs.declared.task.Task.TheVariants as tasks
use Rattle.isolation_law.specs.Content.{content}
use Rattle.isolation_law.specs.GuestState.{GuestState}

-- a block comes into a page, or a page goes into a block, or a packet is sent
abbrev pub TakesMemory : Act → Type 0
TakesMemory (StoresTo q) = ⊥
TakesMemory (ReadsDisk block q) = Unit {0}
TakesMemory (WritesDisk block q) = Unit {0}
TakesMemory (SendsPage q length to) = Unit {0}
TakesMemory (WritesEntry index) = ⊥
TakesMemory NoAct = ⊥

-- an act that is left is a disk write that is carried out, or a send that is made
abbrev pub MayWant : GuestState → ℕ → DevAct → Type 0
MayWant s v acts.Done = ⊥
MayWant s v acts.DiskRead = ⊥
MayWant s v acts.DiskWrite = disk_status (content s) (transfer_of s.devices v) 2 ≡ 0
MayWant s v (acts.Send to) = may_send (content s) (transfer_of s.devices v) ≡ true

-- a page goes into a block
abbrev pub Writes : Task → Type 0
Writes (tasks.Refuse status) = ⊥
Writes (tasks.Read block q) = ⊥
Writes (tasks.Write block q) = Unit {0}
Writes (tasks.Take q) = ⊥
Writes (tasks.Send parcel) = ⊥
Writes tasks.Skip = ⊥
