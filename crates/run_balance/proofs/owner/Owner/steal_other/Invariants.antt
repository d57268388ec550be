use Rattle.std.proofs.Common.{◌≡◌, ℕ, List}
use Rattle.run_balance.specs.Owners.{IsOf, GotNone, IsSameOwner, reached_of}
use Rattle.run_balance.specs.Deques.{deques_of}
use Rattle.run_balance.proofs.owner.Owner.steal_other.Given as goal

abbrev pub invariant-loop-at : goal.invariant-loop-at
invariant-loop-at l = record {
  kept : (shares : List (List (List ℕ))) → IsOf (deques_of l.deals) shares l.initial.self → IsOf (deques_of l.deals) shares l.self;
  same : IsSameOwner l.initial.self l.self;
  got : GotNone l.initial.self l.self;
  first : reached_of l.self l.from.0 ≡ l.at;
}
