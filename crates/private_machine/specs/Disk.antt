-- The blocks of a guest's disk: as they were given, and as the guest wrote them.
use Rattle.std.specs.Prelude.{ℕ, List, [], Option, None, unwrap_or}

-- a block: as it was given, and as the guest wrote it
pub record Block : Type 0 where
  pub given : List ℕ
  pub overlay : Option (List ℕ)

-- what stands past the last
abbrev pub no_block : Block
no_block = record { given = []; overlay = None }

-- a block that the guest hasn't written
abbrev pub as_given : List ℕ → Block
as_given bytes = record { given = bytes; overlay = None }

-- a block as the guest reads it
abbrev pub block_now : Block → List ℕ
block_now b = unwrap_or b.overlay b.given
