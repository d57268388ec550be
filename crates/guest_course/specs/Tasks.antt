-- What is to be done for an act that was left, and what it makes of a guest's parts.
use Rattle.std.specs.Prelude.{◌≡◌, ◌<◌, ℕ, ◌==◌, if◌then◌else◌, true, false, List, [], ◌∷◌, ◌++◌, map, take, Option, Some, None, slice_index_or, slice_set}
use Rattle.base_words.specs.declared.device.Transfer.{Transfer}
use Rattle.base_words.specs.declared.ids.CellId.{CellId}
use Rattle.private_machine.specs.declared.vcpu.Vcpu.{Vcpu}
use Rattle.private_machine.specs.Backing.{Page, page_at, with_first}
use Rattle.private_machine.specs.DevicePage.{DevicePage, transfer_of}
use Rattle.private_machine.specs.DeviceRegisters.{with_status}
use Rattle.private_machine.specs.Devices.{disk_status, with_sent, may_send}
use Rattle.private_machine.specs.Disk.{Block, no_block, block_now}
use Rattle.private_machine.specs.Links.{unlinked_page}
use Rattle.cow_disk.specs.DiskCalls.{written}
use Rattle.guest_devs.specs.declared.act.DevAct.{DevAct}
use Rattle.guest_devs.specs.declared.act.DevAct.TheVariants as acts
use Rattle.isolation_law.specs.Surroundings.{cell_of_frame}
use Rattle.isolation_law.specs.GuestState.{GuestState, page}
use Rattle.isolation_law.specs.Content.{content}
use Rattle.guest_course.specs.CourseRules.{IsWritable}
use Rattle.guest_course.specs.declared.task.Parcel.{Parcel}
use Rattle.guest_course.specs.declared.task.Task.{Task}
use Rattle.guest_course.specs.declared.task.Task.TheVariants as tasks

-- an act that is left
abbrev pub IsLeft : DevAct → Type 0
IsLeft acts.Done = ⊥
IsLeft acts.DiskRead = Unit {0}
IsLeft acts.DiskWrite = Unit {0}
IsLeft (acts.Send to) = Unit {0}

-- the packet of a send: the first bytes of the page that the virtual processor has set, and the cell of its master
pub record IsParcel (s : GuestState) (v to : ℕ) (parcel : Parcel) : Type 0 where
  pub may : may_send (content s) (transfer_of s.devices v) ≡ true
  pub to_is : parcel.to ≡ to
  pub bytes_are : parcel.bytes ≡ take (transfer_of s.devices v).send_length (page s (transfer_of s.devices v).send_page).master.bytes
  pub cell_is : parcel.cell.0 ≡ cell_of_frame s.around (page s (transfer_of s.devices v).send_page).master.frame

-- a send has a packet where it may be made
abbrev pub IsSend : GuestState → ℕ → ℕ → Task → Type 0
IsSend s v to (tasks.Refuse status) = ⊥
IsSend s v to (tasks.Read block q) = ⊥
IsSend s v to (tasks.Write block q) = ⊥
IsSend s v to (tasks.Take q) = ⊥
IsSend s v to (tasks.Send parcel) = IsParcel s v to parcel
IsSend s v to tasks.Skip = may_send (content s) (transfer_of s.devices v) ≡ false

-- a disk command of this status: it is carried out where the status is 0
abbrev pub read_task : Transfer → ℕ → Task
read_task t status = if status == 0 then tasks.Read t.block (record { 0 = t.page }) else tasks.Refuse status

abbrev pub write_task : Transfer → ℕ → Task
write_task t status = if status == 0 then tasks.Write t.block (record { 0 = t.page }) else tasks.Refuse status

-- what is to be done
abbrev pub IsTask : GuestState → ℕ → DevAct → Task → Type 0
IsTask s v acts.Done task = ⊥
IsTask s v acts.DiskRead task = task ≡ read_task (transfer_of s.devices v) (disk_status (content s) (transfer_of s.devices v) 1)
IsTask s v acts.DiskWrite task = task ≡ write_task (transfer_of s.devices v) (disk_status (content s) (transfer_of s.devices v) 2)
IsTask s v (acts.Send to) task = IsSend s v to task

-- the block and the page of a disk command that is carried out are there
abbrev pub IsThere : ℕ → ℕ → Task → Type 0
IsThere blocks pages (tasks.Refuse status) = Unit {0}
IsThere blocks pages (tasks.Read block q) = (block < blocks) × (q.0 < pages)
IsThere blocks pages (tasks.Write block q) = (block < blocks) × (q.0 < pages)
IsThere blocks pages (tasks.Take q) = q.0 < pages
IsThere blocks pages (tasks.Send parcel) = Unit {0}
IsThere blocks pages tasks.Skip = Unit {0}

-- a page into which a block comes may change
abbrev pub MayRead : List Page → Task → Type 0
MayRead pages (tasks.Refuse status) = Unit {0}
MayRead pages (tasks.Read block q) = IsWritable (page_at pages q.0)
MayRead pages (tasks.Write block q) = Unit {0}
MayRead pages (tasks.Take q) = Unit {0}
MayRead pages (tasks.Send parcel) = Unit {0}
MayRead pages tasks.Skip = Unit {0}

-- the page into which a block comes with an act, if one does
abbrev pub read_page : GuestState → ℕ → DevAct → Option ℕ
read_page s v acts.Done = None
read_page s v acts.DiskRead = if disk_status (content s) (transfer_of s.devices v) 1 == 0 then Some (transfer_of s.devices v).page else None
read_page s v acts.DiskWrite = None
read_page s v (acts.Send to) = None

-- no page is in the way of an act: that into which a block comes may change
abbrev pub IsClear : GuestState → ℕ → DevAct → Type 0
IsClear s v act = (q : ℕ) → read_page s v act ≡ Some q → IsWritable (page s q)

-- the device page, and the cells of what was sent
abbrev pub done_page : ℕ → Task → DevicePage → DevicePage
done_page v (tasks.Refuse status) d = with_status v status d
done_page v (tasks.Read block q) d = with_status v 0 d
done_page v (tasks.Write block q) d = with_status v 0 d
done_page v (tasks.Take q) d = with_status v 0 d
done_page v (tasks.Send parcel) d = with_sent d parcel.to parcel.bytes
done_page v tasks.Skip d = d

abbrev pub done_cells : Task → List CellId → List CellId
done_cells (tasks.Refuse status) cells = cells
done_cells (tasks.Read block q) cells = cells
done_cells (tasks.Write block q) cells = cells
done_cells (tasks.Take q) cells = cells
done_cells (tasks.Send parcel) cells = cells ++ parcel.cell ∷ []
done_cells tasks.Skip cells = cells

-- a block that is read comes into the page, and nobody links a line of it any more; nor of one into which a block comes without being
-- copied
abbrev pub done_pages : List Block → Task → List Page → List Page
done_pages disk (tasks.Refuse status) pages = pages
done_pages disk (tasks.Read block q) pages = slice_set pages q.0 (with_first (block_now (slice_index_or disk block no_block)) (page_at pages q.0))
done_pages disk (tasks.Write block q) pages = pages
done_pages disk (tasks.Take q) pages = pages
done_pages disk (tasks.Send parcel) pages = pages
done_pages disk tasks.Skip pages = pages

abbrev pub done_vcpus : Task → List Vcpu → List Vcpu
done_vcpus (tasks.Refuse status) vcpus = vcpus
done_vcpus (tasks.Read block q) vcpus = map (unlinked_page q.0) vcpus
done_vcpus (tasks.Write block q) vcpus = vcpus
done_vcpus (tasks.Take q) vcpus = map (unlinked_page q.0) vcpus
done_vcpus (tasks.Send parcel) vcpus = vcpus
done_vcpus tasks.Skip vcpus = vcpus

-- a page that is written stands over the block
abbrev pub done_disk : List Page → Task → List Block → List Block
done_disk pages (tasks.Refuse status) disk = disk
done_disk pages (tasks.Read block q) disk = disk
done_disk pages (tasks.Write block q) disk = written disk block (page_at pages q.0).master.bytes
done_disk pages (tasks.Take q) disk = disk
done_disk pages (tasks.Send parcel) disk = disk
done_disk pages tasks.Skip disk = disk
