use Rattle.std.proofs.Common.{◌≡◌, ◌-◌, []}
use Rattle.shootdown.specs.Making.{rest_of, numbered, fresh_token}
use Rattle.shootdown.proofs.making.cut_tokens.Given as goal

abbrev pub invariant-loop-number : goal.invariant-loop-number
invariant-loop-number l =
    (l.all.table_id ≡ l.initial.all.table_id)
    × (l.all.me ≡ (rest_of l.number (l.fn.counts.tokens - l.number) 0 l.fn.counts.seats, []))
    × (l.tokens.items ≡ numbered (fresh_token l.initial.all.table_id) 0 l.number)
