use Rattle.std.proofs.Common.{◌≡◌, ◌≤◌, ◌<◌, ℕ, length, Some, slice_get, slice_index_or, sym, subst, arith}
use Rattle.std.proofs.lemmas.Option.{slice_get-get_or}
use Rattle.run_balance.specs.Gathering.{HasDeque, IsSettled}
use Rattle.run_balance.specs.declared.deals.Gate.{Gate}
use Rattle.run_balance.proofs.Closes.{has_deque, closes_more, are_dealt, same_taken}
use Rattle.run_balance.proofs.gathering.settle_all.Goals as goal

pub gather-requires : goal.gather-requires
gather-requires c =
    let gates = c.args.gates.now in
    let gate : Gate = slice_index_or gates c.loop-place.place c.index-gates-place.result in
    let at : slice_get gates c.loop-place.place ≡ Some gate = slice_get-get_or gates c.loop-place.place c.index-gates-place.result (let e : c.loop-place.place < length gates = omega arith in e) in
    subst (λ (p : ℕ). HasDeque c.loop-place.place p c.loop-place.owners) (sym c.number.ensures)
    (has_deque gates c.requires.all.0 c.args.owners.now c.loop-place.owners c.loop-place.place gate c.requires.all.1 c.loop-place.invariant at)

pub loop-place-preserved : goal.loop-place-preserved
loop-place-preserved c =
    let gates = c.args.gates.now in
    let gate : Gate = slice_index_or gates c.loop-place.place c.index-gates-place.result in
    let at : slice_get gates c.loop-place.place ≡ Some gate = slice_get-get_or gates c.loop-place.place c.index-gates-place.result (let e : c.loop-place.place < length gates = omega arith in e) in
    closes_more gates c.loop-place.place gate c.args.owners.now c.loop-place.owners c.gather.new.owners c.loop-place.invariant at
    (subst (λ (p : ℕ). IsSettled c.loop-place.place p c.loop-place.owners) c.number.ensures c.gather.ensures.settled) c.gather.ensures.others

pub returns-clause-taken : goal.returns-clause-taken
returns-clause-taken c = same_taken c.args.gates.now c.loop-place.place c.args.owners.now c.loop-place.owners c.loop-place.invariant

pub returns-clause-dealt : goal.returns-clause-dealt
returns-clause-dealt c shares every through =
    are_dealt c.args.gates.now shares c.args.owners.now c.loop-place.owners c.loop-place.place every through c.loop-place.invariant (let e : length c.args.gates.now ≤ c.loop-place.place = omega arith in e)
