-- What a read of a file by name may answer.
use Rattle.std.specs.Prelude.{◌≡◌, ℕ, ◌≤◌, ◌<◌, List, length, Result, Ok, Err}
use Rattle.outside_io.specs.declared.shelf.ShelfFault.{ShelfFault}
use Rattle.outside_io.specs.declared.shelf.ShelfFault.TheVariants.{Failed, Long, Memory}
use Rattle.base_words.specs.Counts.{Rose}

-- what a shelf tells of a name: nothing, that it holds no such file, or the file's bytes
pub data Told : Type 0 where
  Untold : Told
  Absent : Told
  Holds : List ℕ → Told

-- a shelf: what it tells of each name, how often it has failed, and the name of the last read that failed
pub record ShelfView : Type 0 where
  pub told : List ℕ → Told
  pub faults : ℕ
  pub failed : List ℕ

-- these may be the bytes of a file: they are, where the shelf tells of it
abbrev pub MayBe : Told → List ℕ → Type 0
MayBe Untold bytes = Unit {0}
MayBe Absent bytes = ⊥
MayBe (Holds held) bytes = bytes ≡ held

-- no fault is counted, and the failed name stays
pub record IsCalm (old new : ShelfView) : Type 0 where
  pub faults : new.faults ≡ old.faults
  pub failed : new.failed ≡ old.failed

-- the file's bytes, at most so many
pub record IsRead (old new : ShelfView) (name bytes : List ℕ) (most : ℕ) : Type 0 where
  pub held : MayBe (old.told name) bytes
  pub fits : length bytes ≤ most
  pub calm : IsCalm old new

-- the file is longer
pub record IsLong (old new : ShelfView) (name : List ℕ) (most : ℕ) : Type 0 where
  pub bytes : List ℕ
  pub held : MayBe (old.told name) bytes
  pub longer : most < length bytes
  pub calm : IsCalm old new

-- the shelf failed, and says at which name
pub record IsFailed (old new : ShelfView) (name : List ℕ) : Type 0 where
  pub rose : Rose old.faults new.faults
  pub named : new.failed ≡ name

-- what a read of at most so many bytes does, by its answer
abbrev pub Reads : ShelfView → ShelfView → List ℕ → ℕ → Result (List ℕ) ShelfFault → Type 0
Reads old new name most (Ok bytes) = IsRead old new name bytes most
Reads old new name most (Err Long) = IsLong old new name most
Reads old new name most (Err Failed) = IsFailed old new name
Reads old new name most (Err Memory) = IsCalm old new
