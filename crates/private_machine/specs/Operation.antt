-- What a page is taken shared for.
use Rattle.std.specs.Prelude.{ℕ, List}

-- a packet for the guest: its sender, the cell of the frame that it was sent from, and its bytes
pub record Packet : Type 0 where
  pub from : ℕ
  pub cell : ℕ
  pub bytes : List ℕ

-- what a page is taken shared for: a virtual processor's read of a block, or a packet, which is told by its place among all
-- that came to hand
pub data Operation : Type 0 where
  ReadsBlock : (vcpu block : ℕ) → Operation
  Delivers : (place : ℕ) → Packet → Operation
