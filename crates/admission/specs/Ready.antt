-- What holds of each job that is admitted, and what a call that reads files says of it.
use Rattle.std.specs.Prelude.{◌≡◌, ◌≤◌, List, ℕ, length, None, Some, Result, Ok, Err, ◌⊎◌}
use Rattle.outside_io.specs.Reading.{ShelfView, MayBe, Absent, IsCalm}
use Rattle.machine_desc.specs.Accepted.{IsDescribed}
use Rattle.machine_desc.specs.Described.{described_seen}
use Rattle.admission.specs.declared.faults.Fault.{Fault}
use Rattle.admission.specs.declared.faults.Refusal.{Refusal}
use Rattle.admission.specs.declared.faults.Refusal.TheVariants.{Fault as Faulty, Memory as NoMemory}
use Rattle.admission.specs.declared.setup.Setup.{Setup}
use Rattle.admission.specs.declared.setup.Job.{Job}
use Rattle.admission.specs.declared.setup.Job.TheVariants.{Monitored, Alone, Print, Litmus, Listing}
use Rattle.admission.specs.Chain.{Files}
use Rattle.admission.specs.Jobs.{short_in}
use Rattle.admission.specs.Stages.{FailedAt, IsCaused, Gives}
use Rattle.admission.specs.Started.{AreStarted}
use Rattle.admission.specs.Views.{starts_of}

-- the description is within its bounds; each guest has an image and the number of its disk, and starts from these; and each cell and
-- each guest gets its frames
pub record IsSetup (setup : Setup) : Type 0 where
  pub described : IsDescribed setup.machine setup.plan
  pub images : length setup.images ≡ length setup.machine.guests
  pub numbers : length setup.numbers ≡ length setup.machine.guests
  pub started : AreStarted setup.machine.guests (starts_of setup)
  pub served : short_in (described_seen setup.machine setup.plan) ≡ None

-- of a litmus file, and of what is printed, nothing is asked
abbrev pub IsReady : Job → Type 0
IsReady (Monitored setup sums) = IsSetup setup
IsReady (Alone setup) = IsSetup setup
IsReady (Print made) = Unit {0}
IsReady (Litmus bytes) = Unit {0}
IsReady (Listing assembled) = Unit {0}

-- these files are what a shelf gave: it tells no other bytes, and what has none isn't there or failed
pub record AreGiven (old new : ShelfView) (files : Files) : Type 0 where
  pub held : (name bytes : List ℕ) → files name ≡ Some bytes → MayBe (old.told name) bytes
  pub missing : (name : List ℕ) → files name ≡ None → FailedAt old new name ⊎ (old.told name ≡ Absent)

-- which reads failed, by an answer; want of memory says nothing of them
abbrev pub CausedBy : {A : Type 0} → ShelfView → ShelfView → Result A Refusal → Type 0
CausedBy old new (Ok x) = IsCalm old new
CausedBy old new (Err (Faulty fault)) = IsCaused old new fault
CausedBy old new (Err NoMemory) = Unit {0}

-- there are files that the shelf gave, of which the answer gives what the chain does
pub record ReadsAs {A : Type 0} (old new : ShelfView) (chain : Files → Result A Fault) (answer : Result A Refusal) : Type 0 where
  pub files : Files
  pub given : AreGiven old new files
  pub caused : CausedBy old new answer
  pub told : new.told ≡ old.told
  pub counts : old.faults ≤ new.faults
  pub gives : Gives answer (chain files)
