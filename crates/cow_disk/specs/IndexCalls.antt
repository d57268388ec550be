-- What becomes of a block that is to be kept.
use Rattle.std.specs.Prelude.{◌≡◌, ◌≢◌, ℕ, ◌<◌, List, [], ◌∷◌, ◌++◌, length, slice_get, Some, None, Result, Ok, Err}
use Rattle.std.specs.declared.alloc.AllocError.{AllocError}
use Rattle.base_words.specs.declared.frame.SharedFrame.{SharedFrame}
use Rattle.cow_disk.specs.IndexView.{Index, copy_in, found}
use Rattle.cow_disk.specs.declared.index.CacheFrame.{CacheFrame}
use Rattle.cow_disk.specs.declared.index.Keep.{Keep}
use Rattle.cow_disk.specs.declared.index.Keep.TheVariants as answer

-- there was no entry for it, and a copy of it lies in the next frame
pub record KeepsNext (old : Index) (disk block : ℕ) (bytes : List ℕ) (frame : SharedFrame) (new : Index) : Type 0 where
  pub unknown : found old.entries disk block ≡ None
  pub place : CacheFrame
  pub next : slice_get old.frames (length old.entries) ≡ Some place
  pub is_it : copy_in frame ≡ record { frame = place.number.0; generation = place.generation; bytes = bytes }
  pub after : new ≡ record old { entries = old.entries ++ record { disk = disk; block = block; copy = copy_in frame } ∷ [] }

-- a frame is left, and there is an entry for it
pub record IsKnown (old : Index) (disk block : ℕ) (new : Index) : Type 0 where
  pub known : found old.entries disk block ≢ None
  pub left : length old.entries < length old.frames
  pub same : new ≡ old

-- all frames are used
pub record IsFull (old : Index) (count : ℕ) (new : Index) : Type 0 where
  pub entries : count ≡ length old.entries
  pub frames : count ≡ length old.frames
  pub same : new ≡ old

abbrev pub KeepsBlock : Index → ℕ → ℕ → List ℕ → Result Keep AllocError → Index → Type 0
KeepsBlock old disk block bytes (Ok (answer.Kept frame)) new = KeepsNext old disk block bytes frame new
KeepsBlock old disk block bytes (Ok answer.Known) new = IsKnown old disk block new
KeepsBlock old disk block bytes (Ok (answer.CacheFull count)) new = IsFull old count new
KeepsBlock old disk block bytes (Err e) new = new ≡ old
