-- The packet that an offer makes.
use Rattle.std.specs.Prelude.{ℕ, ◌==◌, if◌then◌else◌, List, Option, None, take}
use Rattle.base_words.specs.declared.frame.SharedFrame.{SharedFrame}
use Rattle.wire_queue.specs.Packets.{Handed, Packet}

-- a shared frame, as a packet hands it on
abbrev pub handed_of : SharedFrame → Handed
handed_of frame = record { frame = frame.number.0; generation = frame.generation }

-- what a packet of so many bytes hands on: the frame in which its page lies, where it is the whole page
abbrev pub handed_on : ℕ → Option Handed → Option Handed
handed_on length shared = if length == 4096 then shared else None

-- the packet of the first bytes of a page that lies on this cell, and in this frame, where others may hold it too
abbrev pub offered : List ℕ → ℕ → Option Handed → ℕ → ℕ → Packet
offered page length shared cell from = record {
  from = from;
  length = length;
  cell = cell;
  whole = handed_on length shared;
  bytes = take length page;
}
