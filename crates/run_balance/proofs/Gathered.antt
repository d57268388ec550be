-- How passes are taken in, one after the other.
use Rattle.std.proofs.Common.{◌≡◌, ◌≢◌, ◌⊎◌, ℕ, zero, suc, ◌+◌, ◌<◌, ◌≤◌, List, [], ◌∷◌, ◌++◌, length, take, set, sum_by, Some, slice_get, refl, sym, ap, ◌∙◌, subst, arith, ⊎_elim}
use Rattle.std.proofs.lemmas.List.Sums.{sum_by-cons, sum_by_push, sum_by-append}
use Rattle.crossbeam_deque.specs.Handles.{worker_view, view, SameWorker}
use Rattle.run_balance.specs.Logs.{Logged, joined_log}
use Rattle.run_balance.specs.Rule.{Settled}
use Rattle.run_balance.specs.Ends.{Dealer, Seat}
use Rattle.run_balance.specs.Sides.{Deque, side_at, side_log}
use Rattle.run_balance.specs.Owners.{log_of}
use Rattle.run_balance.specs.Gathering.{IsPassOrNone, HasPass, IsSameElse, AreSameElse, Gathers, HasDeque, IsSettled}
use Rattle.run_balance.specs.declared.owner.Owner.{Owner}
use Rattle.run_balance.specs.declared.side.Stretch.{Stretch}
use Rattle.run_balance.specs.declared.side.Side.{Side}
use Rattle.run_balance.specs.declared.side.Side.TheVariants.{Own, Other, Spent}
use Rattle.run_balance.specs.declared.task.Task.{Task}
use Rattle.run_balance.proofs.Numbers.{get_set, one_there, some_there, none_there}

-- so far the passes of the first owners are taken in
pub record Goes (place : ℕ) (first : Dealer) (all : List Owner) (i : ℕ) (dealer : Dealer) (owners : List Owner) : Type 0 where
  pub same : SameWorker first dealer
  pub gathers : Gathers place (worker_view first) (take i all) (worker_view dealer)
  pub long : length owners ≡ length all
  pub ahead : (j : ℕ) (o : Owner) → i ≤ j → slice_get owners j ≡ Some o → slice_get all j ≡ Some o
  pub behind : (j : ℕ) (o p : Owner) → j < i → slice_get all j ≡ Some o → slice_get owners j ≡ Some p → IsSameElse place o p

pub same_else : (place : ℕ) (o : Owner) → IsSameElse place o o
same_else place o = record { number = refl; reached = refl; taken = refl; from = refl; sides_all = refl; sides = λ e _. refl }

pub else_trans : (place : ℕ) (o p q : Owner) → IsSameElse place o p → IsSameElse place p q → IsSameElse place o q
else_trans place o p q a b = record {
  number = b.number ∙ a.number;
  reached = b.reached ∙ a.reached;
  taken = b.taken ∙ a.taken;
  from = b.from ∙ a.from;
  sides_all = b.sides_all ∙ a.sides_all;
  sides = λ e apart. b.sides e apart ∙ a.sides e apart;
}

pub gathers_none : (place : ℕ) (v : Logged) → Gathers place v [] v
gathers_none place v = record { deals = refl; passes = refl; put = refl; parts = omega arith; got = λ weight. omega arith }

pub goes_none : (place : ℕ) (dealer : Dealer) (all : List Owner) → SameWorker dealer dealer → Goes place dealer all 0 dealer all
goes_none place dealer all same = record {
  same = same;
  gathers = gathers_none place (worker_view dealer);
  long = refl;
  ahead = λ j o less at. at;
  behind = λ j o p less at at'. absurd (omega arith);
}

-- an owner without a pass there
gathers_nobody : (place : ℕ) (v w : Logged) (owners : List Owner) (o : Owner) → Gathers place v owners w → side_at o.sides.items place ≡ Spent → Gathers place v (owners ++ o ∷ []) w
gathers_nobody place v w owners o g none = record {
  deals = g.deals;
  passes = g.passes;
  put = g.put;
  parts = let a = sum_by_push (λ (x : Owner). (log_of x place).parts) owners o in let e = g.parts in
      let z : (log_of o place).parts ≡ 0 = ap (λ (x : Side). (side_log x).parts) none in omega arith;
  got = λ weight. let a = sum_by_push (λ (x : Owner). sum_by weight (log_of x place).got) owners o in let e = g.got weight in
      let z : sum_by weight (log_of o place).got ≡ 0 = ap (λ (x : Side). sum_by weight (side_log x).got) none in omega arith;
}

-- one with a pass
gathers_one : (place : ℕ) (v w x : Logged) (owners : List Owner) (o : Owner) (seat : Seat) → Gathers place v owners w → side_at o.sides.items place ≡ Other seat → x ≡ joined_log w (view seat) → Gathers place v (owners ++ o ∷ []) x
gathers_one place v w x owners o seat g at is = record {
  deals = ap (λ (y : Logged). y.deals) is ∙ g.deals;
  passes = ap (λ (y : Logged). y.passes) is ∙ g.passes;
  put = ap (λ (y : Logged). y.put) is ∙ g.put;
  parts = let a = sum_by_push (λ (y : Owner). (log_of y place).parts) owners o in let e = g.parts in
      let z : (log_of o place).parts ≡ (view seat).parts = ap (λ (y : Side). (side_log y).parts) at in
      let b : x.parts ≡ w.parts + (view seat).parts = ap (λ (y : Logged). y.parts) is in omega arith;
  got = λ weight. let a = sum_by_push (λ (y : Owner). sum_by weight (log_of y place).got) owners o in let e = g.got weight in
      let z : sum_by weight (log_of o place).got ≡ sum_by weight (view seat).got = ap (λ (y : Side). sum_by weight (side_log y).got) at in
      let b : sum_by weight x.got ≡ sum_by weight (w.got ++ (view seat).got) = ap (λ (y : Logged). sum_by weight y.got) is in
      let c = sum_by-append weight w.got (view seat).got in omega arith;
}

take_next : (all : List Owner) (i : ℕ) (o : Owner) → slice_get all i ≡ Some o → take (i + 1) all ≡ take i all ++ o ∷ []
take_next [] i o at = absurd (none_there {A = Owner} i o at)
take_next (x ∷ all) zero o at = ap (λ (y : Owner). y ∷ []) (one_there (x ∷ all) 0 o x at refl)
take_next (x ∷ all) (suc i) o at = ap (λ (n : ℕ). take n (x ∷ all)) (let e : suc i + 1 ≡ suc (i + 1) = omega arith in e) ∙ ap (λ (l : List Owner). x ∷ l) (take_next all i o at)

goes_on : (place : ℕ) (first : Dealer) (all : List Owner) (i : ℕ) (dealer next : Dealer) (owners : List Owner) (o p : Owner) → Goes place first all i dealer owners → slice_get owners i ≡ Some o → IsSameElse place o p
    → SameWorker first next → Gathers place (worker_view first) (take i all ++ o ∷ []) (worker_view next) → Goes place first all (i + 1) next (set owners i p)
goes_on place first all i dealer next owners o p g at same worker gathers =
    let was : slice_get all i ≡ Some o = g.ahead i o (let e : i ≤ i = omega arith in e) at in record {
      same = worker;
      gathers = subst (λ (l : List Owner). Gathers place (worker_view first) l (worker_view next)) (sym (take_next all i o was)) gathers;
      long = Rattle.std.proofs.Common.length-set owners i p ∙ g.long;
      ahead = λ j x less there. ⊎_elim (λ (s : (j ≡ i) × (p ≡ x)). absurd (let e = s.0 in omega arith)) (λ (s : (j ≢ i) × (slice_get owners j ≡ Some x)). g.ahead j x (let e : i ≤ j = omega arith in e) s.1) (get_set owners i p j x there);
      behind = λ j x y less there there'.
          ⊎_elim (λ (s : (j ≡ i) × (p ≡ y)). subst (λ (z : Owner × Owner). IsSameElse place z.0 z.1) (λ k. (sym (one_there all j o x (ap (slice_get all) s.0 ∙ was) there) k, s.1 k)) same)
          (λ (s : (j ≢ i) × (slice_get owners j ≡ Some y)). let less' : j < i = (let e = s.0 in omega arith) in g.behind j x y less' there s.1) (get_set owners i p j y there');
    }

-- one more pass
pub goes_seat : (place : ℕ) (first : Dealer) (all : List Owner) (i : ℕ) (dealer next : Dealer) (owners : List Owner) (o p : Owner) (seat : Seat) → Goes place first all i dealer owners → slice_get owners i ≡ Some o → IsSameElse place o p
    → side_at o.sides.items place ≡ Other seat → SameWorker first next → worker_view next ≡ joined_log (worker_view dealer) (view seat) → Goes place first all (i + 1) next (set owners i p)
goes_seat place first all i dealer next owners o p seat g at same side worker is =
    goes_on place first all i dealer next owners o p g at same worker (gathers_one place (worker_view first) (worker_view dealer) (worker_view next) (take i all) o seat g.gathers side is)

-- or none
pub goes_past : (place : ℕ) (first : Dealer) (all : List Owner) (i : ℕ) (dealer : Dealer) (owners : List Owner) (o p : Owner) → Goes place first all i dealer owners → slice_get owners i ≡ Some o → IsSameElse place o p
    → side_at o.sides.items place ≡ Spent → Goes place first all (i + 1) dealer (set owners i p)
goes_past place first all i dealer owners o p g at same side =
    goes_on place first all i dealer dealer owners o p g at same g.same (gathers_nobody place (worker_view first) (worker_view dealer) (take i all) o g.gathers side)

pub goes_all : (place : ℕ) (first : Dealer) (all : List Owner) (i : ℕ) (dealer : Dealer) (owners : List Owner) → Goes place first all i dealer owners → length all ≤ i → Gathers place (worker_view first) all (worker_view dealer) × AreSameElse place all owners
goes_all place first all i dealer owners g past = (
  subst (λ (l : List Owner). Gathers place (worker_view first) l (worker_view dealer)) (Rattle.std.proofs.lemmas.List.take_all i all past) g.gathers,
  record { long = g.long; each = λ j o p at at'. g.behind j o p (let e = Rattle.std.proofs.lemmas.Option.slice_get_within all j o at in omega arith) at at' },
)

-- what isn't a pass is none
pub none_of : (q : Deque) (side : Side) → IsPassOrNone q side → ((seat : Seat) → side ≢ Other seat) → side ≡ Spent
none_of q (Own s) is not = absurd is
none_of q (Other seat) is not = absurd (not seat refl)
none_of q Spent is not = refl

-- what was taken out of its place
pub else_spent : (place : ℕ) (o p : Owner) → place < length o.sides.items → p.sides.items ≡ set o.sides.items place Spent → p.number ≡ o.number → p.reached ≡ o.reached → p.taken ≡ o.taken → p.from ≡ o.from
    → IsSameElse place o p × (side_at p.sides.items place ≡ Spent)
else_spent place o p less s n r t f = (
  record {
    number = n;
    reached = r;
    taken = t;
    from = f;
    sides_all = ap length s ∙ Rattle.std.proofs.Common.length-set o.sides.items place Spent;
    sides = λ e apart. Rattle.run_balance.proofs.Numbers.set_else o.sides.items p.sides.items place e Spent Spent s apart;
  },
  Rattle.run_balance.proofs.Numbers.set_here o.sides.items p.sides.items place Spent Spent s less,
)

pub worker_trans : (a b c : Dealer) → SameWorker a b → SameWorker b c → SameWorker a c
worker_trans a b c x y = (y.0 ∙ x.0, y.1 ∙ x.1, y.2 ∙ x.2, (let e = x.3 in let f = y.3 in omega arith))

abbrev pub stretch_or : Stretch → Side → Stretch
stretch_or d (Own s) = s
stretch_or d (Other seat) = d
stretch_or d Spent = d

-- ---- a deque at its end

sum_set : (f : Owner → ℕ) (owners : List Owner) (p : ℕ) (own later : Owner) → slice_get owners p ≡ Some own → sum_by f (set owners p later) + f own ≡ sum_by f owners + f later
sum_set f [] p own later at = absurd (none_there {A = Owner} p own at)
sum_set f (x ∷ owners) zero own later at = let same = ap f (one_there (x ∷ owners) 0 own x at refl) in let a = sum_by-cons f later owners in let b = sum_by-cons f x owners in omega arith
sum_set f (x ∷ owners) (suc p) own later at = let rest = sum_set f owners p own later at in let a = sum_by-cons f x (set owners p later) in let b = sum_by-cons f x owners in omega arith

-- the others have passes where the owner's own end is taken out
pub all_passes : (place p : ℕ) (owners : List Owner) (later : Owner) → (h : HasDeque place p owners) → IsSameElse place h.own later → side_at later.sides.items place ≡ Spent
    → (i : ℕ) (o : Owner) → slice_get (set owners p later) i ≡ Some o → HasPass h.q place o
all_passes place p owners later h same spent i o at =
    ⊎_elim (λ (s : (i ≡ p) × (later ≡ o)). subst (HasPass h.q place) s.1 (record { inside = let a = same.sides_all in let b = h.inside in omega arith; side = subst (IsPassOrNone h.q) (sym spent) tt }))
    (λ (s : (i ≢ p) × (slice_get owners i ≡ Some o)). h.others i o s.0 s.1) (get_set owners p later i o at)

pub all_parts : (place p : ℕ) (owners : List Owner) (later : Owner) (v : Logged) → (h : HasDeque place p owners) → side_at later.sides.items place ≡ Spent → Gathers place (worker_view h.stretch.dealer) (set owners p later) v → v.parts ≡ v.passes
all_parts place p owners later v h spent g =
    let a = sum_set (λ (o : Owner). (log_of o place).parts) owners p h.own later h.there in
    let b : (log_of later place).parts ≡ 0 = ap (λ (s : Side). (side_log s).parts) spent in
    let c : (log_of h.own place).parts ≡ 1 = ap (λ (s : Side). (side_log s).parts) h.side ∙ h.parts in
    let d = h.all_parts in let e = g.parts in let f = g.passes in let k = h.passes in let l = h.parts in
    omega arith

pub settled_of : (place p : ℕ) (owners : List Owner) (later : Owner) (v : Logged) (items : List Task) → (h : HasDeque place p owners) → side_at later.sides.items place ≡ Spent → Gathers place (worker_view h.stretch.dealer) (set owners p later) v → Settled v items
    → IsSettled place p owners
settled_of place p owners later v items h spent g s = record {
  own = h.own;
  there = h.there;
  stretch = h.stretch;
  side = h.side;
  items = items;
  gone = s.gone;
  in_order = sym g.put ∙ s.in_order;
  taken = λ weight.
      let a = sum_set (λ (o : Owner). sum_by weight (log_of o place).got) owners p h.own later h.there in
      let b : sum_by weight (log_of later place).got ≡ 0 = ap (λ (s : Side). sum_by weight (side_log s).got) spent in
      let c : sum_by weight (log_of h.own place).got ≡ sum_by weight (worker_view h.stretch.dealer).got = ap (λ (s : Side). sum_by weight (side_log s).got) h.side in
      let d = g.got weight in let e = s.taken weight in
      omega arith;
}

pub same_after : (place p : ℕ) (owners new : List Owner) (own later : Owner) → slice_get owners p ≡ Some own → IsSameElse place own later → AreSameElse place (set owners p later) new → AreSameElse place owners new
same_after place p owners new own later there same after = record {
  long = after.long ∙ Rattle.std.proofs.Common.length-set owners p later;
  each = λ i o q at at'.
      let some = some_there (set owners p later) i (let e = Rattle.std.proofs.lemmas.Option.slice_get_within owners i o at in let l = Rattle.std.proofs.Common.length-set owners p later in omega arith) in
      ⊎_elim (λ (s : (i ≡ p) × (later ≡ some.0)). else_trans place o some.0 q (subst (λ (z : Owner × Owner). IsSameElse place z.0 z.1) (λ k. (sym (one_there owners i own o (ap (slice_get owners) s.0 ∙ there) at) k, s.1 k)) same) (after.each i some.0 q some.1 at'))
      (λ (s : (i ≢ p) × (slice_get owners i ≡ Some some.0)). subst (λ (z : Owner). IsSameElse place z q) (one_there owners i o some.0 at s.1) (after.each i some.0 q some.1 at')) (get_set owners p later i some.0 some.1);
}
