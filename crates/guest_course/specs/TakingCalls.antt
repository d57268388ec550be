-- Pages that are taken shared, over the parts of a guest.
use Rattle.std.specs.Prelude.{◌≡◌, ◌⊎◌, ℕ, ◌/◌, ◌<◌, Ok, true, false, length, Option, Some, None}
use Rattle.std.specs.Option.{option_and_then}
use Rattle.base_words.specs.declared.frame.SharedFrame.{SharedFrame}
use Rattle.base_words.specs.declared.exception.Use.TheVariants.{Fetch}
use Rattle.base_words.specs.declared.place.Place.TheVariants.{Memory}
use Rattle.private_machine.specs.DeviceAct.{ReadsDisk}
use Rattle.private_machine.specs.Operation.{Operation as Purpose, ReadsBlock, Delivers}
use Rattle.pmap_table.specs.Frames.{shared_copy_of}
use Rattle.private_machine.specs.OwnStep.{led}
use Rattle.guest_devs.specs.declared.act.DevAct.{DevAct}
use Rattle.isolation_law.specs.Content.{content}
use Rattle.isolation_law.specs.GuestState.{GuestState, vcpu_of, hand_place}
use Rattle.isolation_law.specs.Needs.{may_share_block}
use Rattle.wire_queue.specs.Packets.{Handed, packet_of}
use Rattle.wire_queue.specs.declared.packet.WirePacket.{WirePacket}
use Rattle.guest_course.specs.Acting.{act_of}
use Rattle.guest_course.specs.declared.course.Course.{Course}
use Rattle.guest_course.specs.declared.operation.Delivery.{Delivery}
use Rattle.guest_course.specs.declared.operation.Operation.TheVariants as operations
use Rattle.guest_course.specs.CourseView.{hand_of, purpose, state_of}

-- the frame that the packet in hand hands on, if there is one
abbrev pub whole_of : WirePacket → Option Handed
whole_of packet = (packet_of packet).whole

abbrev pub handed_in : Course → Option Handed
handed_in c = option_and_then whole_of c.hand

-- the place of the packet for which a page is taken shared, if it is for one
abbrev pub place_of : Option Purpose → Option ℕ
place_of None = None
place_of (Some (ReadsBlock v block)) = None
place_of (Some (Delivers place packet)) = Some place

-- the page has the instruction at hand
pub record HasCode (s : GuestState) (v q : ℕ) : Type 0 where
  pub offset : ℕ
  pub leads : led (content s) v 4 Fetch (vcpu_of s v).registers.pc ≡ Ok (Memory offset)
  pub page_is : q ≡ offset / 4096

-- An act reads this block into the page, and may take the page shared for it: the guest hasn't written the block, its home cell lives, and
-- the page hasn't the read's own instruction, which could never be made as long as its page has a move.
pub record SharesBlock (s : GuestState) (v : ℕ) (act : DevAct) (b q : ℕ) : Type 0 where
  pub reads : act_of s v act ≡ ReadsDisk b q
  pub may : may_share_block s b ≡ true
  pub is_block : b < length s.disk
  pub is_page : q < length s.pages
  pub no_code : HasCode s v q → ⊥

-- it reads none, or one that can't be shared so
abbrev pub SharesNoBlock : GuestState → ℕ → DevAct → Type 0
SharesNoBlock s v act = (b q : ℕ) → act_of s v act ≡ ReadsDisk b q → (may_share_block s b ≡ false) ⊎ HasCode s v q

-- the packet in hand hands on this frame, and a page is taken shared for it so
pub record HandsOn (c : Course) (target : SharedFrame) (delivery : Delivery) : Type 0 where
  pub packet : WirePacket
  pub in_hand : c.hand ≡ Some packet
  pub handed : whole_of packet ≡ Some (record { frame = target.number.0; generation = target.generation })
  pub whole : length (hand_of packet).bytes ≡ 4096
  pub bytes : (shared_copy_of target).bytes ≡ (hand_of packet).bytes
  pub is_for : purpose (operations.Delivers delivery) ≡ Delivers (hand_place (state_of c)) (hand_of packet)
