-- How the deques end, one after the other.
use Rattle.std.proofs.Common.{◌≡◌, ◌≢◌, ℕ, zero, suc, ◌+◌, ◌<◌, ◌≤◌, List, [], ◌∷◌, ◌++◌, length, map, take, drop, sum_by, Some, slice_get, refl, sym, ap, ◌∙◌, subst, arith, ⊎_elim}
use Rattle.std.specs.List.{All}
use Rattle.std.proofs.lemmas.Option.{slice_get_within}
use Rattle.std.proofs.lemmas.List.{length-map}
use Rattle.std.proofs.lemmas.List.Sums.{sum_by-cons}
use lib.Seq.{take-append_seam}
use Rattle.crossbeam_deque.specs.Handles.{worker_deque}
use Rattle.run_balance.specs.Logs.{Took}
use Rattle.run_balance.specs.Shares.{flat, whose_at, share_at}
use Rattle.run_balance.specs.Sides.{Deque, side_at, side_log, IsSide, one_below}
use Rattle.run_balance.specs.Owners.{number_of, reached_of, taken_by, taken_from, log_of, times, AreDealt}
use Rattle.run_balance.specs.Deques.{deque_of}
use Rattle.run_balance.specs.Gathering.{weight_there, IsPassOrNone, AreSameElse, HasDeque, IsSettled, AreAllOf, AreThrough}
use Rattle.run_balance.specs.declared.deals.Gate.{Gate}
use Rattle.run_balance.specs.declared.owner.Owner.{Owner}
use Rattle.run_balance.specs.declared.side.Stretch.{Stretch}
use Rattle.run_balance.specs.declared.side.Side.{Side}
use Rattle.run_balance.specs.declared.side.Side.TheVariants.{Own, Other, Spent}
use Rattle.run_balance.proofs.Numbers.{some_there, one_there, below_next}
use Rattle.run_balance.proofs.Steps.{own_side, own_there}
use Rattle.run_balance.proofs.Each.{each_once}
use Rattle.run_balance.proofs.Closing.{part_in_turn}
use Rattle.run_balance.proofs.InOrder.{whole_in_order}
use Rattle.run_balance.proofs.Totals.{all_once}

-- what is left of an owner as it was, before a deque and those behind it are settled
pub record Remains (place : ℕ) (old new : Owner) : Type 0 where
  pub number : new.number ≡ old.number
  pub taken : new.taken ≡ old.taken
  pub sides_all : length new.sides.items ≡ length old.sides.items
  pub sides : (e : ℕ) → place ≤ e → side_at new.sides.items e ≡ side_at old.sides.items e

pub record Closes (gates : List Gate) (place : ℕ) (all owners : List Owner) : Type 0 where
  pub long : length owners ≡ length all
  pub same : (i : ℕ) (o p : Owner) → slice_get all i ≡ Some o → slice_get owners i ≡ Some p → Remains place o p
  pub settled : (e : ℕ) (g : Gate) → e < place → slice_get gates e ≡ Some g → IsSettled e g.whose.0 all

-- ---- a deque that is to be settled

get_map : (gates : List Gate) (i : ℕ) (g : Gate) → slice_get gates i ≡ Some g → slice_get (map deque_of gates) i ≡ Some (deque_of g)
get_map [] i g at = absurd (Rattle.run_balance.proofs.Numbers.none_there {A = Gate} i g at)
get_map (x ∷ gates) zero g at = ap (λ (y : Gate). Some (deque_of y)) (sym (one_there (x ∷ gates) 0 x g refl at))
get_map (x ∷ gates) (suc i) g at = get_map gates i g at

someone : (deques : List Deque) (shares : List (List (List ℕ))) (all : List Owner) (d : ℕ) → AreAllOf deques shares all → d < length deques → 0 < length all
someone deques [] all d every less = absurd (let m = every.many in omega arith)
someone deques (own ∷ shares) all d every less = let l = every.long in omega arith

-- each deque has an owner
owner_there : (deques : List Deque) (shares : List (List (List ℕ))) (all : List Owner) (d : ℕ) (q : Deque) → AreAllOf deques shares all → slice_get deques d ≡ Some q → (q.whose ≡ whose_at (flat shares) d) × (q.whose < length all)
owner_there deques shares all d q every at =
    let one = some_there all 0 (someone deques shares all d every (slice_get_within deques d q at)) in
    let w = (every.each 0 one.0 one.1).0.whose d q at in
    (w.0, (let a = w.1 in let l = every.long in omega arith))

side_pass : (q : Deque) (share : List ℕ) (owners number : ℕ) (side : Side) → IsSide q share owners number side → q.whose ≢ number → IsPassOrNone q side
side_pass q share owners number (Own s) is apart = absurd (apart is.0)
side_pass q share owners number (Other seat) is apart = (is.1, is.2)
side_pass q share owners number Spent is apart = tt

own_deque : (q : Deque) (share : List ℕ) (owners number : ℕ) (s : Stretch) → IsSide q share owners number (Own s) → worker_deque s.dealer ≡ q.id
own_deque q share owners number s is = is.1

sum_ones : (f : Owner → ℕ) (owners : List Owner) → ((i : ℕ) (o : Owner) → slice_get owners i ≡ Some o → f o ≡ 1) → sum_by f owners ≡ length owners
sum_ones f [] each = refl
sum_ones f (o ∷ owners) each = let one = each 0 o refl in let rest = sum_ones f owners (λ i p at. each (suc i) p at) in let a = sum_by-cons f o owners in omega arith

pub has_deque : (gates : List Gate) (shares : List (List (List ℕ))) (all owners : List Owner) (place : ℕ) (g : Gate) → AreAllOf (map deque_of gates) shares all → Closes gates place all owners → slice_get gates place ≡ Some g → HasDeque place g.whose.0 owners
has_deque gates shares all owners place g every c at =
    let deques = map deque_of gates in
    let line = flat shares in
    let n = length shares in
    let q = deque_of g in
    let there = get_map gates place g at in
    let less = slice_get_within deques place q there in
    let owner = owner_there deques shares all place q every there in
    let here : place ≤ place = omega arith in
    let long = c.long in
    let some = some_there owners q.whose (let a = owner.1 in omega arith) in
    let some0 = some_there all q.whose owner.1 in
    let is = (every.each q.whose some0.0 some0.1).0 in
    let number = (every.each q.whose some0.0 some0.1).1 in
    let mine : whose_at line place ≡ number_of some0.0 = sym owner.0 ∙ sym number in
    let s = own_there deques line n some0.0 place is less mine in
    let r = c.same q.whose some0.0 some.0 some0.1 some.1 in
    let stretch = (own_side deques line n some0.0 place s.0 is less s.1).1 in
    let part = is.parts place less in
    record {
      q = q;
      own = some.0;
      there = some.1;
      inside = let a = r.sides_all in let b = is.sides_all in omega arith;
      stretch = s.0;
      side = r.sides place here ∙ s.1;
      deque = own_deque q (share_at line place) n (number_of some0.0) s.0 (subst (IsSide q (share_at line place) n (number_of some0.0)) s.1 (is.sides place q there));
      deals = stretch.dealer.deals;
      parts = sym (ap (λ (x : Side). (side_log x).parts) s.1) ∙ part.parts;
      passes = stretch.dealer.passes ∙ sym every.long ∙ sym c.long;
      others = λ i o apart at_o.
          let old = some_there all i (let e = slice_get_within owners i o at_o in omega arith) in
          let of = every.each i old.0 old.1 in
          let t = c.same i old.0 o old.1 at_o in
          record {
            inside = let a = t.sides_all in let b = of.0.sides_all in omega arith;
            side = subst (IsPassOrNone q) (sym (t.sides place here)) (side_pass q (share_at line place) n (number_of old.0) (side_at old.0.sides.items place) (of.0.sides place q there) (λ e. apart (sym of.1 ∙ sym e)));
          };
      all_parts = sum_ones (λ (o : Owner). (log_of o place).parts) owners (λ i o at_o.
          let old = some_there all i (let e = slice_get_within owners i o at_o in omega arith) in
          let of = every.each i old.0 old.1 in
          let t = c.same i old.0 o old.1 at_o in
          ap (λ (x : Side). (side_log x).parts) (t.sides place here) ∙ (of.0.parts place less).parts);
    }

-- ---- and is

weight_same : (e : ℕ) (weight : Took → ℕ) (xs ys : List Owner) → length xs ≡ length ys → ((i : ℕ) (x y : Owner) → slice_get xs i ≡ Some x → slice_get ys i ≡ Some y → side_at x.sides.items e ≡ side_at y.sides.items e)
    → weight_there e weight xs ≡ weight_there e weight ys
weight_same e weight [] [] long each = refl
weight_same e weight [] (y ∷ ys) long each = absurd (omega arith)
weight_same e weight (x ∷ xs) [] long each = absurd (omega arith)
weight_same e weight (x ∷ xs) (y ∷ ys) long each =
    let f = λ (o : Owner). sum_by weight (log_of o e).got in
    let one = ap (λ (s : Side). sum_by weight (side_log s).got) (each 0 x y refl refl) in
    let rest = weight_same e weight xs ys (omega arith) (λ i u w at at'. each (suc i) u w at at') in
    let a = sum_by-cons f x xs in let b = sum_by-cons f y ys in
    omega arith

-- what is told of the owners met is told of them as they were
settled_before : (gates : List Gate) (place p : ℕ) (all owners : List Owner) → Closes gates place all owners → IsSettled place p owners → IsSettled place p all
settled_before gates place p all owners c s =
    let here : place ≤ place = omega arith in
    let some0 = some_there all p (let e = slice_get_within owners p s.own s.there in let l = c.long in omega arith) in
    let r = c.same p some0.0 s.own some0.1 s.there in
    record {
      own = some0.0;
      there = some0.1;
      stretch = s.stretch;
      side = sym (r.sides place here) ∙ s.side;
      items = s.items;
      gone = s.gone;
      in_order = s.in_order;
      taken = λ weight. weight_same place weight all owners (sym c.long) (λ i x y at at'. sym ((c.same i x y at at').sides place here)) ∙ s.taken weight;
    }

pub closes_more : (gates : List Gate) (place : ℕ) (g : Gate) (all owners new : List Owner) → Closes gates place all owners → slice_get gates place ≡ Some g → IsSettled place g.whose.0 owners → AreSameElse place owners new → Closes gates (place + 1) all new
closes_more gates place g all owners new c at s k = record {
  long = k.long ∙ c.long;
  same = λ i o q at_o at_q.
      let some = some_there owners i (let e = slice_get_within new i q at_q in let l = k.long in omega arith) in
      let r = c.same i o some.0 at_o some.1 in
      let m = k.each i some.0 q some.1 at_q in record {
        number = m.number ∙ r.number;
        taken = m.taken ∙ r.taken;
        sides_all = m.sides_all ∙ r.sides_all;
        sides = λ e less. m.sides e (λ (z : e ≡ place). absurd (omega arith)) ∙ r.sides e (let z : place ≤ e = omega arith in z);
      };
  settled = λ e f less there. ⊎_elim (λ (z : e < place). c.settled e f z there)
      (λ (z : e ≡ place). subst (λ (x : ℕ × Gate). IsSettled x.0 x.1.whose.0 all) (λ i. (sym z i, sym (one_there gates place g f at (ap (slice_get gates) (sym z) ∙ there)) i))
      (settled_before gates place g.whose.0 all owners c s)) (below_next e place less);
}

pub closes_none : (gates : List Gate) (all : List Owner) → Closes gates 0 all all
closes_none gates all = record {
  long = refl;
  same = λ i o p at at'. let s = one_there all i o p at at' in record {
    number = ap (λ (x : Owner). x.number) s;
    taken = ap (λ (x : Owner). x.taken) s;
    sides_all = ap (λ (x : Owner). length x.sides.items) s;
    sides = λ e _. ap (λ (x : Owner). side_at x.sides.items e) s;
  };
  settled = λ e g less at. absurd (omega arith);
}

-- what is taken is dealt, each once
pub are_dealt : (gates : List Gate) (shares : List (List (List ℕ))) (all owners : List Owner) (place : ℕ) → AreAllOf (map deque_of gates) shares all → AreThrough shares all → Closes gates place all owners → length gates ≤ place → AreDealt shares all
are_dealt gates shares all owners place every through c past =
    let deques = map deque_of gates in
    let line = flat shares in
    let many = every.many in
    let gates_all = length-map gates deque_of in
    let once : (d item : ℕ) → d < length line → sum_by (λ (o : Owner). times item (taken_from d o)) all ≡ times item (share_at line d) =
    λ d item less.
    let some = some_there gates d (let e : d < length gates = omega arith in e) in
    let owner = owner_there deques shares all d (deque_of some.0) every (get_map gates d some.0 some.1) in
    each_once deques shares all d item every through less (subst (λ (p : ℕ). IsSettled d p all) owner.0 (c.settled d some.0 (let e = slice_get_within gates d some.0 some.1 in omega arith) some.1)) in
    record {
      sum = λ item. all_once line item all (λ i o at. (every.each i o at).0.both)
          (λ i o at. subst (λ (n : ℕ). All (λ (d : ℕ). d < n) o.from.items) (sym (every.each i o at).0.many) (every.each i o at).0.froms) (λ d less. once d item less);
      each = once;
      in_turn = λ d i o at less. let is = (every.each i o at).0 in
          part_in_turn (share_at line d) (one_below d (reached_of o (whose_at line d))) (taken_from d o) (log_of o d) (is.parts d (let m = is.many in omega arith));
      whole = λ p i o at few. whole_in_order deques shares p o (every.each i o at).0 few;
    }

lists_same : (all owners : List Owner) → length owners ≡ length all → ((i : ℕ) (o p : Owner) → slice_get all i ≡ Some o → slice_get owners i ≡ Some p → taken_by p ≡ taken_by o) → map taken_by owners ≡ map taken_by all
lists_same [] [] long each = refl
lists_same [] (p ∷ owners) long each = absurd (omega arith)
lists_same (o ∷ all) [] long each = absurd (omega arith)
lists_same (o ∷ all) (p ∷ owners) long each = λ i. each 0 o p refl refl i ∷ lists_same all owners (omega arith) (λ k x y at at'. each (suc k) x y at at') i

-- the lists stay
pub same_taken : (gates : List Gate) (place : ℕ) (all owners : List Owner) → Closes gates place all owners → map taken_by owners ≡ map taken_by all
same_taken gates place all owners c = lists_same all owners c.long (λ i o p at at'. ap (λ v. v.items) (c.same i o p at at').taken)

-- what was written back into a vector
pub written_back : (new old : List Owner) (n : ℕ) → n ≡ length new → take n (new ++ drop (length new) old) ≡ new
written_back new old n same = ap (λ (k : ℕ). take k (new ++ drop (length new) old)) same ∙ take-append_seam new (drop (length new) old)
