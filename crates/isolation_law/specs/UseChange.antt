-- Which frames a guest comes to use, and which it uses no longer.
use Rattle.std.specs.Prelude.{◌≡◌, ℕ, ◌+◌, Bool, List}
use Rattle.private_machine.specs.Backing.{Copy, Change, Page}
use Rattle.private_machine.specs.PageMove.{gained, untied, untied_taken}
use Rattle.isolation_law.specs.GuestState.{GuestState}
use Rattle.isolation_law.specs.CellUse.{used_frames}
use Rattle.isolation_law.specs.Exchange.{count_of}

-- from one state to another some frames join those that are used, and some leave them
pub record UseChanged (s t : GuestState) (joining leaving : List Copy) : Type 0 where
  pub balance : (test : ℕ → ℕ → Bool) → count_of test (used_frames t) + count_of test leaving ≡ count_of test (used_frames s) + count_of test joining

-- with the begin of a move: what is gained
abbrev pub joining : Change → List Copy
joining change = gained change

-- with the end of a move: the master where another takes its place, and the target of a replicate, which ties to no cell as a replica
abbrev pub leaving : Page → Change → List Copy
leaving g change = untied g change

-- with the operation for which a page was taken shared: the master, but an own one becomes a spare
abbrev pub leaving_taken : Page → List Copy
leaving_taken g = untied_taken g
