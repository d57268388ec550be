-- What an act that was left does with a page, and the operations for which pages are taken shared.
use Rattle.std.specs.Prelude.{◌≡◌, ℕ, ◌==◌, if◌then◌else◌, List, Bool, Option, Some, None}
use Rattle.base_words.specs.Membership.{HasNone}
use Rattle.private_machine.specs.Backing.{Copy, TakesShared}
use Rattle.private_machine.specs.DeviceAct.{Act, StoresTo, ReadsDisk, WritesDisk, SendsPage, WritesEntry, NoAct}
use Rattle.private_machine.specs.DevicePage.{transfer_of}
use Rattle.private_machine.specs.Devices.{disk_status, may_send}
use Rattle.private_machine.specs.Operation.{Packet, ReadsBlock, Delivers}
use Rattle.guest_devs.specs.declared.act.DevAct.{DevAct}
use Rattle.guest_devs.specs.declared.act.DevAct.TheVariants as acts
use Rattle.isolation_law.specs.Content.{content}
use Rattle.isolation_law.specs.GuestState.{GuestState, page, block, hand_place, operation_of}
use Rattle.isolation_law.specs.StepAct.{at_hand}

-- what an act does with a page: a disk command that is carried out, or a send that is made
abbrev pub act_of : GuestState → ℕ → DevAct → Act
act_of s v acts.Done = NoAct
act_of s v acts.DiskRead = if disk_status (content s) (transfer_of s.devices v) 1 == 0 then ReadsDisk (transfer_of s.devices v).block (transfer_of s.devices v).page else NoAct
act_of s v acts.DiskWrite = if disk_status (content s) (transfer_of s.devices v) 2 == 0 then WritesDisk (transfer_of s.devices v).block (transfer_of s.devices v).page else NoAct
act_of s v (acts.Send to) = if may_send (content s) (transfer_of s.devices v) then SendsPage (transfer_of s.devices v).send_page (transfer_of s.devices v).send_length to else NoAct

-- the page into which a block comes, or from which one or a packet comes
abbrev pub page_used : Act → Option ℕ
page_used (StoresTo q) = None
page_used (ReadsDisk b q) = Some q
page_used (WritesDisk b q) = Some q
page_used (SendsPage q length to) = Some q
page_used (WritesEntry index) = None
page_used NoAct = None

-- the page has a move that takes it shared, and for which nobody waits
pub record IsTaken (s : GuestState) (q : ℕ) : Type 0 where
  pub target : Copy
  pub waiting : List Bool
  pub open_move : (page s q).move ≡ Some (record { change = TakesShared target; waiting = waiting })
  pub nobody : HasNone waiting

-- the step at hand is the disk read for which its page is taken shared, and the guest hasn't written the block since
pub record IsOwnRead (s : GuestState) (v q : ℕ) : Type 0 where
  pub taken : IsTaken s q
  pub block_read : ℕ
  pub reads : at_hand s v ≡ ReadsDisk block_read q
  pub its_own : operation_of s q ≡ Some (ReadsBlock v block_read)
  pub unwritten : (block s block_read).overlay ≡ None

-- a page is taken shared for the packet in hand
pub record IsOwnDelivery (s : GuestState) (q : ℕ) : Type 0 where
  pub taken : IsTaken s q
  pub kept : Packet
  pub its_own : operation_of s q ≡ Some (Delivers (hand_place s) kept)
