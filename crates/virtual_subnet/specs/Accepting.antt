-- What becomes of a packet that was taken from a wire.
use Rattle.std.specs.Prelude.{◌≡◌, ℕ, ◌<◌, List, Bool, Some, None}
use Rattle.base_words.specs.Limits.{most_cells}
use Rattle.base_words.specs.Membership.{IsMember}
use Rattle.frame_words.specs.FrameWords.{frame_word}
use Rattle.frame_words.specs.Sharing.{SharedBy}
use Rattle.frame_words.specs.Refusals.{ShareAdds}
use Rattle.frame_words.specs.declared.view.View.{View}
use Rattle.frame_words.specs.declared.answers.Share.{Share}
use Rattle.frame_words.specs.declared.answers.Share.TheVariants as share
use Rattle.wire_queue.specs.Packets.{Handed, Packet}
use Rattle.virtual_subnet.specs.declared.answers.Accept.{Accept}
use Rattle.virtual_subnet.specs.declared.answers.Accept.TheVariants.{Discarded, Copied, Remapped}
use Rattle.virtual_subnet.specs.declared.answers.CopyCause.TheVariants as cause

-- a cell is among those that failed
abbrev pub HasFailed : List Bool → ℕ → Type 0
HasFailed dead cell = (cell < most_cells) × IsMember dead cell

-- a frame that the packet hands on is one of so many
abbrev pub HasFrameBelow : ℕ → Packet → Type 0
HasFrameBelow frames packet = (handed : Handed) → packet.whole ≡ Some handed → handed.frame < frames

-- the packet's cell has not failed, the packet hands on a frame, and `share` of it under the packet's generation answered this
pub record Asks (dead : List Bool) (packet : Packet) (old : View) (answer : Share) (new : View) : Type 0 where
  pub lives : HasFailed dead packet.cell → ⊥
  pub handed : Handed
  pub whole : packet.whole ≡ Some handed
  pub shared : SharedBy old (frame_word handed.frame) handed.generation answer new
  pub adds : ShareAdds old (frame_word handed.frame) handed.generation answer new

-- the packet's cell has failed, and the holder's view stays
pub record Discards (dead : List Bool) (packet : Packet) (old : View) (cell : ℕ) (new : View) : Type 0 where
  pub failed : HasFailed dead packet.cell
  pub named : cell ≡ packet.cell
  pub same : new ≡ old

-- the packet's cell has not failed, the packet hands on no frame, and the holder's view stays
pub record FindsPlain (dead : List Bool) (packet : Packet) (old new : View) : Type 0 where
  pub lives : HasFailed dead packet.cell → ⊥
  pub plain : packet.whole ≡ None
  pub same : new ≡ old

-- what each answer says: by the cells that failed, the packet, and the holder's views before and after
abbrev pub Accepts : List Bool → Packet → View → Accept → View → Type 0
Accepts dead packet old (Discarded cell) new = Discards dead packet old cell.0 new
Accepts dead packet old (Copied cause.Plain) new = FindsPlain dead packet old new
Accepts dead packet old (Copied (cause.Gone seen)) new = Asks dead packet old (share.Gone seen) new
Accepts dead packet old (Copied (cause.Many seen)) new = Asks dead packet old (share.Many seen) new
Accepts dead packet old Remapped new = Asks dead packet old share.Shared new
