-- Whose a wire is, and which packets go on it.
use Rattle.std.specs.Prelude.{◌≡◌, ℕ, ◌/◌, ◌≤◌, List, [], Some, slice_get}
use Rattle.base_words.specs.declared.ids.CellId.{CellId}
use Rattle.base_words.specs.declared.frame.Shape.{Shape}
use Rattle.wire_queue.specs.declared.terms.Terms.{Terms}
use Rattle.wire_queue.specs.Packets.{Handed, Packet}

-- the terms by a shape and the home cell of each guest
abbrev pub terms_of : Shape → List CellId → Terms
terms_of shape homes = record { frames = shape.frames; cells = shape.cells; homes = homes }

-- a wire's sender and receiver, and its terms
pub record Line : Type 0 where
  pub from : ℕ
  pub to : ℕ
  pub terms : Terms

abbrev pub line_of : ℕ → ℕ → Shape → List CellId → Line
line_of from to shape homes = record { from = from; to = to; terms = terms_of shape homes }

abbrev pub no_line : Line
no_line = record { from = 0; to = 0; terms = record { frames = 0; cells = []; homes = [] } }

-- a frame lies on a cell: frames are numbered node by node
abbrev pub LiesOn : Terms → ℕ → ℕ → Type 0
LiesOn terms frame cell = slice_get terms.cells (frame / terms.frames) ≡ Some (record { 0 = cell })

-- a cell is a guest's home
abbrev pub IsHome : Terms → ℕ → ℕ → Type 0
IsHome terms guest cell = slice_get terms.homes guest ≡ Some (record { 0 = cell })

-- a packet that hands on a frame is a whole page, and its frame lies on its cell, which is the receiver's home
pub record FitsWhole (line : Line) (packet : Packet) (handed : Handed) : Type 0 where
  pub full : packet.length ≡ 4096
  pub lies : LiesOn line.terms handed.frame packet.cell
  pub home : IsHome line.terms line.to packet.cell

-- a packet goes on a wire: it is its sender's, and has 1 to 4096 bytes
pub record Fits (line : Line) (packet : Packet) : Type 0 where
  pub sender : packet.from ≡ line.from
  pub some : 1 ≤ packet.length
  pub few : packet.length ≤ 4096
  pub whole : (handed : Handed) → packet.whole ≡ Some handed → FitsWhole line packet handed
