-- What a look into another's deque does.
use Rattle.std.specs.Prelude.{◌≡◌, ℕ, ◌+◌}
use Rattle.run_balance.specs.Owners.{GotOne, GotNone, KnowsAsMuch, reached_of}
use Rattle.run_balance.specs.declared.owner.Owner.{Owner}
use Rattle.run_balance.specs.declared.owner.Found.{Found}
use Rattle.run_balance.specs.declared.owner.Found.TheVariants.{Item, Nothing, Over}

abbrev pub FoundAt : ℕ → ℕ → Found → Owner → Owner → Type 0
FoundAt at from (Item item) old new = GotOne at item old new × KnowsAsMuch old new
FoundAt at from Nothing old new = GotNone old new × KnowsAsMuch old new
FoundAt at from Over old new = GotNone old new × (reached_of new from ≡ at + 1)
