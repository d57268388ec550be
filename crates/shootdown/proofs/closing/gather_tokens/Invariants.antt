use Rattle.std.proofs.Common.{◌≡◌, ◌++◌, map, All}
use Rattle.std.specs.Vec.Iter.{into_iter_items}
use Rattle.shootdown.specs.Notes.{Token}
use Rattle.shootdown.specs.Steps.{token_list}
use Rattle.shootdown.proofs.closing.gather_tokens.Given as goal

abbrev pub invariant-loop-token : goal.invariant-loop-token
invariant-loop-token l =
    (goal.iterator-loop-token).can_next l.token-iterator
    × (goal.iterator-loop-token).is_finite l.token-iterator
    × (l.place.table_id ≡ l.initial.place.table_id)
    × (l.place.me.0.tokens ++ map token_list (into_iter_items l.token-iterator) ≡ l.initial.place.me.0.tokens ++ map token_list (into_iter_items l.fn.tokens))
    × (l.place.me.0.seats ≡ l.initial.place.me.0.seats)
    × All (λ (t : Token). t.board ≡ l.word.table_id) (into_iter_items l.token-iterator)
