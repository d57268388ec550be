-- Files in memory, whose reads fail as a list says.
use Rattle.std.specs.Prelude.{◌≡◌, ◌≢◌, ◌⊎◌, ℕ, ◌≤◌, ◌<◌, length, List, [], ◌∷◌, bytes_eq, if◌then◌else◌, Contains, Result, Ok, Err}
use Rattle.outside_io.specs.declared.memory.HeldFile.{HeldFile}
use Rattle.outside_io.specs.declared.shelf.ShelfFault.{ShelfFault}
use Rattle.outside_io.specs.declared.shelf.ShelfFault.TheVariants.{Failed, Long, Memory}
use Rattle.base_words.specs.Counts.{counted}
use Rattle.outside_io.specs.Reading.{Told, Absent, Holds, ShelfView}

-- a shelf in memory: its files, the calls that fail, how many were made, and what the last faults left
pub record ShelfState : Type 0 where
  pub files : List HeldFile
  pub fails : List ℕ
  pub calls : ℕ
  pub faults : ℕ
  pub failed : List ℕ

-- what a list of files tells of a name: the bytes of the first file of that name
abbrev pub told_by : List HeldFile → List ℕ → Told
told_by [] name = Absent
told_by (file ∷ files) name = if bytes_eq file.name name then Holds file.bytes else told_by files name

abbrev pub shelf_view : ShelfState → ShelfView
shelf_view s = record { told = told_by s.files; faults = s.faults; failed = s.failed }

-- the next read has to fail: the list names the call, or no file has the name
abbrev pub MustFail : ShelfState → List ℕ → Type 0
MustFail s name = Contains s.fails (counted s.calls) ⊎ (told_by s.files name ≡ Absent)

-- a read fails exactly where it has to; memory may be wanting anywhere
abbrev pub Fails : ShelfState → List ℕ → Result (List ℕ) ShelfFault → Type 0
Fails old name (Ok bytes) = ¬ MustFail old name
Fails old name (Err Failed) = MustFail old name
Fails old name (Err Long) = ¬ MustFail old name
Fails old name (Err Memory) = Unit {0}

-- where the list names no call, no read of a name that is held fails
abbrev pub NeverFails : ShelfState → List ℕ → Result (List ℕ) ShelfFault → Type 0
NeverFails old name result = old.fails ≡ [] → told_by old.files name ≢ Absent → result ≢ Err Failed

-- a shelf after one more call
abbrev pub called : ShelfState → ShelfState
called s = record s { calls = counted s.calls }

-- what a read leaves: each is counted, and a failed one is a fault at its name
abbrev pub Leaves : ShelfState → ShelfState → List ℕ → Result (List ℕ) ShelfFault → Type 0
Leaves old new name (Ok bytes) = new ≡ called old
Leaves old new name (Err Failed) = new ≡ record (called old) { faults = counted old.faults; failed = name }
Leaves old new name (Err Long) = new ≡ called old
Leaves old new name (Err Memory) = new ≡ called old

-- a fault is counted at a name, unless memory is wanting for the name
abbrev pub Misses : ShelfState → ShelfState → List ℕ → Result (List ℕ) ShelfFault → Type 0
Misses old new name (Ok bytes) = ⊥
Misses old new name (Err Failed) = new ≡ record old { faults = counted old.faults; failed = name }
Misses old new name (Err Long) = ⊥
Misses old new name (Err Memory) = new ≡ old

-- a copy of some bytes, unless they are more than `most`
abbrev pub Copies : List ℕ → ℕ → Result (List ℕ) ShelfFault → Type 0
Copies held most (Ok bytes) = (bytes ≡ held) × (length held ≤ most)
Copies held most (Err Failed) = ⊥
Copies held most (Err Long) = most < length held
Copies held most (Err Memory) = Unit {0}
