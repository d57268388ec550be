-- Who holds the frames of the caches.
use Rattle.std.specs.Prelude.{List, [], ◌∷◌}
use Rattle.frame_words.specs.Holders.{Holding, IsMade, MadeTable}
use Rattle.cow_disk.specs.Giving.{AreBelow, HoldsFrames}
use Rattle.cow_disk.specs.IndexView.{Index}

-- a holder of this table has each frame of an index once, and nothing else
pub record IsHeld (table : MadeTable) (index : Index) (holder : Holding) : Type 0 where
  pub made : IsMade table holder
  pub holds : HoldsFrames holder.view index.frames
  pub below : AreBelow table.terms.frames index.frames

-- each index has such a holder, in order
abbrev pub AreHeld : MadeTable → List Index → List Holding → Type 0
AreHeld table [] [] = Unit {0}
AreHeld table (index ∷ indexes) (holder ∷ holders) = IsHeld table index holder × AreHeld table indexes holders
AreHeld table indexes holders = ⊥
