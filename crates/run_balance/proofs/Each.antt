-- Each item of a share stands in exactly one owner's list.
use Rattle.std.proofs.Common.{◌≡◌, ℕ, zero, suc, ◌<◌, ◌≤◌, List, [], ◌∷◌, ◌++◌, length, map, take, replicate, sum_by, Some, slice_get, refl, sym, ap, ◌∙◌, subst, arith}
use Rattle.std.proofs.lemmas.List.Sums.{sum_by-cons}
use Rattle.std.proofs.Math.Seq.{take-length}
use Rattle.run_balance.specs.Logs.{Took, mark_of, marks, marks_got}
use Rattle.run_balance.specs.Shares.{flat, whose_at, share_at}
use Rattle.run_balance.specs.Sides.{Deque, side_dealt}
use Rattle.run_balance.specs.Owners.{log_of, taken_from, stretch_of, reached_of, number_of, times}
use Rattle.run_balance.specs.Gathering.{IsSettled, AreAllOf, AreThrough}
use Rattle.run_balance.specs.declared.owner.Owner.{Owner}
use Rattle.run_balance.specs.declared.task.Task.TheVariants.{Item, End}
use Rattle.run_balance.proofs.Numbers.{below_is, one_there, none_there}
use Rattle.run_balance.proofs.Tasks.{marks_placed}
use Rattle.run_balance.proofs.Puts.{put_all}
use Rattle.run_balance.proofs.Steps.{own_side}
use Rattle.run_balance.proofs.Closing.{weight_of, times_got, all_gone}

-- what is the same of each is the same of all
pub sum_alike : (f g : Owner → ℕ) (owners : List Owner) → ((i : ℕ) (o : Owner) → slice_get owners i ≡ Some o → f o ≡ g o) → sum_by f owners ≡ sum_by g owners
sum_alike f g [] all = refl
sum_alike f g (o ∷ owners) all =
    let one = all 0 o refl in let rest = sum_alike f g owners (λ i p at. all (suc i) p at) in let a = sum_by-cons f o owners in let b = sum_by-cons g o owners in omega arith

-- one of them is a part
sum_one : (f : Owner → ℕ) (owners : List Owner) (i : ℕ) (o : Owner) → slice_get owners i ≡ Some o → f o ≤ sum_by f owners
sum_one f [] i o at = absurd (none_there {A = Owner} i o at)
sum_one f (x ∷ owners) zero o at = let same = ap f (one_there (x ∷ owners) 0 o x at refl) in let b = sum_by-cons f x owners in omega arith
sum_one f (x ∷ owners) (suc i) o at = let rest = sum_one f owners i o at in let b = sum_by-cons f x owners in omega arith

pub each_once : (deques : List Deque) (shares : List (List (List ℕ))) (owners : List Owner) (d item : ℕ) → AreAllOf deques shares owners → AreThrough shares owners → d < length (flat shares) → IsSettled d (whose_at (flat shares) d) owners
    → sum_by (λ (o : Owner). times item (taken_from d o)) owners ≡ times item (share_at (flat shares) d)
each_once deques shares owners d item all through less s =
    let line = flat shares in
    let own = s.own in
    let is = (all.each (whose_at line d) own s.there).0 in
    let number : number_of own ≡ whose_at line d = (all.each (whose_at line d) own s.there).1 in
    let inside : d < length deques = (let m = all.many in omega arith) in
    let share = share_at line d in
    let n = length shares in
    let W = λ (o : Owner). sum_by (weight_of item) (log_of o d).got in
    let same = sum_alike (λ (o : Owner). times item (taken_from d o)) W owners (λ i o at.
    let part = (all.each i o at).0.parts d inside in ap (times item) part.items_are ∙ times_got item (log_of o d).got) in
    let taken = s.taken (weight_of item) in
    let past : d < stretch_of own = through (whose_at line d) own s.there d less (sym number) in
    let stretch = (own_side deques line n own d s.stretch is inside s.side).1 in
    let whole : s.stretch.dealt ≡ length share = sym (ap side_dealt s.side) ∙ (is.in_turn d inside (sym number)).over past in
    let put : s.gone ++ s.items ≡ map Item share ++ replicate n End =
    sym s.in_order ∙ stretch.dealer.put ∙ put_all share s.stretch.dealt n whole ∙ ap (λ (l : List ℕ). map Item l ++ replicate n End) (ap (λ (k : ℕ). take k share) whole ∙ take-length share) in
    let marks_all = s.taken (λ (t : Took). mark_of t.task) in
    let ended : marks_got (log_of own d).got ≡ 1 = (is.parts d inside).marks_are ∙ below_is d (reached_of own (whose_at line d)) (subst (λ (k : ℕ). d < reached_of own k) number past) in
    let some = sum_one (λ (o : Owner). sum_by (λ (t : Took). mark_of t.task) (log_of o d).got) owners (whose_at line d) own s.there in
    let marks_gone = marks_placed 0 s.gone in
    let gone = all_gone item 0 n share s.gone s.items put (let e : 1 ≤ marks s.gone = omega arith in e) in
    omega arith
