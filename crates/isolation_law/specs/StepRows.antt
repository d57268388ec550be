-- Steps of a virtual processor: through the TLB, or by the monitor's hand.
use Rattle.std.specs.Prelude.{◌≡◌, ℕ, Bool, false, List, [], ◌∷◌, ◌++◌, Some, None, Ok, Err, slice_set}
use Rattle.base_words.specs.Membership.{HasNone}
use Rattle.base_words.specs.Halves.{without_pair}
use Rattle.base_words.specs.Tlb.{page_pair, entry_read}
use Rattle.private_machine.specs.Vcpu.{held_entry}
use Rattle.private_machine.specs.Backing.{Copy, TakesShared, with_first}
use Rattle.private_machine.specs.Operation.{ReadsBlock}
use Rattle.private_machine.specs.HardwareStep.{Trap, Done}
use Rattle.private_machine.specs.OwnStep.{own_step}
use Rattle.private_machine.specs.PageMove.{taken, spares_taken}
use Rattle.private_machine.specs.RegisterPage.{has_page, block_for}
use Rattle.private_machine.specs.SecondLevel.{seconds_without_pair}
use Rattle.isolation_law.specs.Surroundings.{cell_of_frame}
use Rattle.isolation_law.specs.GuestState.{GuestState, page, processor, block, second_level, vcpu_of, with_block, with_page, with_tlb, with_second_level, operation_of, with_operation}
use Rattle.private_machine.specs.Disk.{block_now}
use Rattle.isolation_law.specs.Content.{content, with_own}
use Rattle.isolation_law.specs.DirectStep.{direct}
use Rattle.isolation_law.specs.Dues.{cleared}
use Rattle.isolation_law.specs.Needs.{needed, for_lost}
use Rattle.isolation_law.specs.Phases.{GoesOn, Runs, MayAct}
use Rattle.isolation_law.specs.StepAct.{at_hand}
use Rattle.private_machine.specs.DeviceAct.{Act, StoresTo, ReadsDisk, WritesDisk, SendsPage, WritesEntry, NoAct}
use Rattle.private_machine.specs.TrapAccess.{trapped_access}
use Rattle.isolation_law.specs.Traps.{step_on, is_granted}

-- The processor makes the step by itself.
pub record Steps (s : GuestState) (p v : ℕ) (t : GuestState) : Type 0 where
  pub goes_on : GoesOn s
  pub runs : Runs s p v
  pub may_act : MayAct s p
  pub done : Done
  pub does : step_on s p v ≡ Ok done
  pub after : t ≡ direct s p v done

-- The monitor makes a step where the hardware traps, but not for an access that the guest grants on memory: that one gets
-- its half, or its move; nor where a dead frame was reached whose page has still to be collapsed.
pub record IsEmulated (s : GuestState) (p v : ℕ) : Type 0 where
  pub goes_on : GoesOn s
  pub runs : Runs s p v
  pub may_act : MayAct s p
  pub trap : Trap
  pub traps : step_on s p v ≡ Err trap
  pub is_no_access : is_granted s v (trapped_access trap) ≡ false
  pub kept : for_lost s trap ≡ None

-- no halves of a processor and no second-level entries of a virtual processor for a pair of pages
abbrev pub pair_dropped : ℕ → ℕ → ℕ → GuestState → GuestState
pair_dropped p v pair s =
    with_second_level (with_tlb s p (without_pair pair (processor s p).tlb)) v (seconds_without_pair pair (second_level s v))

abbrev pub old_pair : GuestState → ℕ → ℕ → ℕ
old_pair s v index = page_pair (entry_read (vcpu_of s v).tlb index).hi

abbrev pub new_pair : GuestState → ℕ → ℕ
new_pair s v = page_pair (held_entry (vcpu_of s v).cp0).hi

-- what the monitor's parts become: a page that is read is read from its master, one that is replaced is written there
abbrev pub act_done : GuestState → ℕ → ℕ → Act → GuestState
act_done s p v (StoresTo q) = s
act_done s p v (ReadsDisk b q) = with_page s q (with_first (block_now (block s b)) (page s q))
act_done s p v (WritesDisk b q) = record s { disk = slice_set s.disk b (record (block s b) { overlay = Some (page s q).master.bytes }) }
act_done s p v (SendsPage q length to) = record s { sent_from = s.sent_from ++ cell_of_frame s.around (page s q).master.frame ∷ [] }
act_done s p v (WritesEntry index) = pair_dropped p v (new_pair s v) (pair_dropped p v (old_pair s v index) s)
act_done s p v NoAct = s

-- the register page of a virtual processor shows again what its registers read
abbrev pub shown_again : ℕ → GuestState → GuestState
shown_again v s = with_block v (block_for (has_page s.around.profile) (vcpu_of s v).cp0) s

-- what is left by an emulated step
abbrev pub emulated : GuestState → ℕ → ℕ → GuestState
emulated s p v = shown_again v (with_own (own_step (content s) v) (act_done s p v (at_hand s v)))

-- A step that needs no move, be it to share or to copy.
pub record Emulates (s : GuestState) (p v : ℕ) (t : GuestState) : Type 0 where
  pub traps : IsEmulated s p v
  pub shares : Bool
  pub needs_nothing : needed s v shares (at_hand s v) ≡ None
  pub after : t ≡ emulated s p v

-- the page's move ends, and the shared frame is its master
abbrev pub taken_shared : ℕ → Copy → GuestState → GuestState
taken_shared q target s =
    cleared q (with_operation q None (record (with_page s q (taken target (page s q))) { spares = spares_taken (page s q) s.spares }))

-- A disk read ends the move that was for it, and the guest hasn't written the block.
pub record EndsRead (s : GuestState) (p v : ℕ) (t : GuestState) : Type 0 where
  pub traps : IsEmulated s p v
  pub q : ℕ
  pub b : ℕ
  pub reads : at_hand s v ≡ ReadsDisk b q
  pub target : Copy
  pub waiting : List Bool
  pub open_move : (page s q).move ≡ Some (record { change = TakesShared target; waiting = waiting })
  pub its_own : operation_of s q ≡ Some (ReadsBlock v b)
  pub nobody_waits : HasNone waiting
  pub unwritten : (block s b).overlay ≡ None
  pub after : t ≡ shown_again v (with_own (own_step (content s) v) (taken_shared q target s))
