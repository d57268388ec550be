-- Which frames a guest comes to hold and lets go of.
use Rattle.std.specs.Prelude.{◌≡◌, ℕ, ◌+◌, Bool, List, count_by}
use Rattle.private_machine.specs.Backing.{Copy}
use Rattle.isolation_law.specs.GuestState.{GuestState}
use Rattle.isolation_law.specs.CellUse.{held}

-- of these frames and generations
abbrev pub count_of : (ℕ → ℕ → Bool) → List Copy → ℕ
count_of test cs = count_by (λ c. test c.frame c.generation) cs

-- from one state to another some frames are gained and some dropped
pub record Exchanged (s t : GuestState) (gained dropped : List Copy) : Type 0 where
  pub balance : (test : ℕ → ℕ → Bool) → count_of test (held t) + count_of test dropped ≡ count_of test (held s) + count_of test gained
