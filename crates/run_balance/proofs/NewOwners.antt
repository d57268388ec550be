-- New owners.
use Rattle.std.proofs.Common.{◌≡◌, ◌≢◌, ◌⊎◌, ◌==◌, ℕ, zero, suc, ◌+◌, ◌<◌, ◌≤◌, Bool, true, false, List, [], ◌∷◌, ◌++◌, length, map, set, length-set, sum_by, Some, slice_get, slice_index_or, vec_capacity, refl, sym, ap, ◌∙◌, subst, arith, inl, inr, ⊎_elim, eqb-true, eq-eqb, true≢false}
use Rattle.std.specs.Prelude.{Vec}
use Rattle.std.specs.List.{All}
use Rattle.std.specs.declared.alloc.Global.{Global}
use Rattle.std.proofs.lemmas.Option.{slice_get_within}
use Rattle.std.proofs.lemmas.List.{length-map, length_push}
use Rattle.std.proofs.lemmas.List.Elements.{All-nil}
use Rattle.std.proofs.lemmas.List.Sums.{sum_by-cons}
use Rattle.crossbeam_deque.specs.Handles.{view, worker_view}
use Rattle.run_balance.specs.Logs.{Took, Logged, marks_got, items_got}
use Rattle.run_balance.specs.Rule.{FitsAt}
use Rattle.run_balance.specs.Ends.{Dealer}
use Rattle.run_balance.specs.Shares.{Share, flat, whose_at, share_at, first_of}
use Rattle.run_balance.specs.Sides.{Deque, put_of, side_at, side_log, side_dealt, IsStretch, IsSide, items_from, AreRising, IsPart}
use Rattle.run_balance.specs.Owners.{number_of, reached_of, stretch_of, taken_from, log_of, sum_to, total_of, AreInLine, IsOwner, IsFresh}
use Rattle.run_balance.specs.Making.{IsNew, AreMade, deque_made, count_made, IsRowSide, IsRow, AreRows, passes_after, IsBare, AreBare, IsPlaced, ArePlaced, HavePlaces, AreNewOwners}
use Rattle.run_balance.specs.Gathering.{AreAllOf}
use Rattle.run_balance.specs.declared.making.Made.{Made}
use Rattle.run_balance.specs.declared.owner.Owner.{Owner}
use Rattle.run_balance.specs.declared.side.Stretch.{Stretch}
use Rattle.run_balance.specs.declared.side.Side.{Side}
use Rattle.run_balance.specs.declared.side.Side.TheVariants.{Own, Other, Spent}
use Rattle.run_balance.proofs.Numbers.{past_or, below_not, below_next, set_here, set_else, some_there, one_there, none_there, get_set}
use Rattle.run_balance.proofs.Lines.{first_below}
use Rattle.run_balance.proofs.Steps.{past_side}
use Rattle.run_balance.proofs.NewDeques.{passes_end, get_push}

-- ---- owners with their passes

pub bare_none : (shares : List (List (List ℕ))) (most : ℕ) → AreBare shares most [] []
bare_none shares most = record { long = refl; each = λ i row o at at'. absurd (none_there {A = Owner} i o at') }

pub bare_more : (shares : List (List (List ℕ))) (most : ℕ) (rows : List (Vec Side Global)) (owners : List Owner) (row : Vec Side Global) (o : Owner) → AreBare shares most rows owners → IsBare shares most (length owners) row o → AreBare shares most (rows ++ row ∷ []) (owners ++ o ∷ [])
bare_more shares most rows owners row o a is =
    let long = a.long in record {
      long = length_push owners o ∙ ap (λ (n : ℕ). n + 1) a.long ∙ sym (length_push rows row);
      each = λ i r p at at'.
          ⊎_elim (λ (s : slice_get owners i ≡ Some p).
          ⊎_elim (λ (t : slice_get rows i ≡ Some r). a.each i r p t s) (λ (t : (i ≡ length rows) × (row ≡ r)). absurd (let e = t.0 in let f = slice_get_within owners i p s in omega arith)) (get_push rows row i r at))
          (λ (s : (i ≡ length owners) × (o ≡ p)).
          ⊎_elim (λ (t : slice_get rows i ≡ Some r). absurd (let e = s.0 in let f = slice_get_within rows i r t in omega arith))
          (λ (t : (i ≡ length rows) × (row ≡ r)). subst (λ (z : ℕ × Vec Side Global × Owner). IsBare shares most z.0 z.1 z.2) (λ j. (sym s.0 j, t.1 j, s.1 j)) is) (get_push rows row i r at)) (get_push owners o i p at');
    }

-- ---- stretches are put in place

pub placed_none : (made : List Made) (owners : List Owner) → ArePlaced made 0 owners owners
placed_none made owners = record {
  long = refl;
  each = λ i o p at at'. let s = one_there owners i o p at at' in record {
    number = ap (λ (x : Owner). x.number) s;
    reached = ap (λ (x : Owner). x.reached) s;
    taken = ap (λ (x : Owner). x.taken) s;
    from = ap (λ (x : Owner). x.from) s;
    sides_all = ap (λ (x : Owner). length x.sides.items) s;
    own = λ d m less at_m whose. absurd (omega arith);
    other = λ d m at_m whose. ap (λ (x : Owner). side_at x.sides.items d) s;
  };
}

pub placed_more : (made : List Made) (count : ℕ) (old owners : List Owner) (m : Made) (own later : Owner) → ArePlaced made count old owners → slice_get made count ≡ Some m → slice_get owners m.whose.0 ≡ Some own
    → later.number ≡ own.number → later.reached ≡ own.reached → later.taken ≡ own.taken → later.from ≡ own.from → count < length own.sides.items → later.sides.items ≡ set own.sides.items count (Own m.stretch)
    → ArePlaced made (count + 1) old (set owners m.whose.0 later)
placed_more made count old owners m own later a at_m there number reached taken from less set_is =
    let w = m.whose.0 in record {
      long = length-set owners w later ∙ a.long;
      each = λ i o p at at'.
          ⊎_elim (λ (s : (i ≡ w) × (later ≡ p)).
          let was = a.each i o own at (ap (slice_get owners) s.0 ∙ there) in
          subst (λ (z : Owner). IsPlaced made (count + 1) i o z) s.1 (record {
            number = number ∙ was.number;
            reached = reached ∙ was.reached;
            taken = taken ∙ was.taken;
            from = from ∙ was.from;
            sides_all = ap length set_is ∙ length-set own.sides.items count (Own m.stretch) ∙ was.sides_all;
            own = λ d x less_d at_x whose.
                ⊎_elim (λ (z : d < count). set_else own.sides.items later.sides.items count d (Own m.stretch) Spent set_is (λ e. absurd (omega arith)) ∙ was.own d x z at_x whose)
                (λ (z : d ≡ count). ap (λ (k : ℕ). side_at later.sides.items k) z ∙ set_here own.sides.items later.sides.items count (Own m.stretch) Spent set_is less
                ∙ ap (λ (y : Made). Own y.stretch) (sym (one_there made count m x at_m (ap (slice_get made) (sym z) ∙ at_x)))) (below_next d count less_d);
            other = λ d x at_x whose. set_else own.sides.items later.sides.items count d (Own m.stretch) Spent set_is
                (λ (z : d ≡ count). whose (ap (λ (y : Made). y.whose.0) (one_there made count m x at_m (ap (slice_get made) (sym z) ∙ at_x)) ∙ sym s.0)) ∙ was.other d x at_x whose;
          }))
          (λ (s : (i ≢ w) × (slice_get owners i ≡ Some p)).
          let was = a.each i o p at s.1 in record {
            number = was.number;
            reached = was.reached;
            taken = was.taken;
            from = was.from;
            sides_all = was.sides_all;
            own = λ d x less_d at_x whose.
                ⊎_elim (λ (z : d < count). was.own d x z at_x whose)
                (λ (z : d ≡ count). absurd (s.0 (sym whose ∙ ap (λ (y : Made). y.whose.0) (one_there made count m x at_m (ap (slice_get made) (sym z) ∙ at_x))))) (below_next d count less_d);
            other = was.other;
          }) (get_set owners w later i p at');
    }

-- ---- a new owner

same_by : (a b : ℕ) (t : Bool) → (a == b) ≡ t → (a ≡ b) ⊎ (a ≢ b)
same_by a b true is = inl (eqb-true a b is)
same_by a b false is = inr (λ e. true≢false (sym (eq-eqb a b e) ∙ is))

pub same_or : (a b : ℕ) → (a ≡ b) ⊎ (a ≢ b)
same_or a b = same_by a b (a == b) refl

pub get_map_made : (made : List Made) (i : ℕ) (m : Made) → slice_get made i ≡ Some m → slice_get (map deque_made made) i ≡ Some (deque_made m)
get_map_made [] i m at = absurd (none_there {A = Made} i m at)
get_map_made (x ∷ made) zero m at = ap (λ (y : Made). Some (deque_made y)) (sym (one_there (x ∷ made) 0 x m refl at))
get_map_made (x ∷ made) (suc i) m at = get_map_made made i m at

fresh_part : (share : List ℕ) (v : Logged) → v.parts ≡ 1 → v.share ≡ share → v.got ≡ [] → IsPart share 0 [] v
fresh_part share v parts share_is none = record {
  parts = parts;
  share_is = share_is;
  marks_are = ap marks_got none;
  items_are = sym (ap items_got none);
  rising = subst (AreRising 0) (sym none) tt;
  fit = subst (All (λ (t : Took). FitsAt share t.place t.task)) (sym none) (All-nil (λ (t : Took). FitsAt share t.place t.task));
}

fresh_stretch : (share : List ℕ) (owners passes : ℕ) (s : Stretch) → IsNew share owners passes s → passes ≡ owners → IsStretch share owners s
fresh_stretch share owners passes s is all = record {
  count = is.count;
  dealt = let e = is.dealt in omega arith;
  dealer = record {
    deals = ap (λ (v : Logged). v.deals) is.view_is;
    passes = ap (λ (v : Logged). v.passes) is.view_is ∙ all;
    put = ap (λ (v : Logged). v.put) is.view_is ∙ ap (λ (n : ℕ). put_of share n owners) (sym is.dealt);
    first = is.first;
    index = let b = is.index in let e = ap (λ (v : Logged). length v.put) is.view_is in omega arith;
    room = is.room;
  };
}

row_side : (m : Made) (share : List ℕ) (owners number : ℕ) (side : Side) → m.whose.0 ≢ number → IsRowSide m.stretch.dealer side → IsSide (deque_made m) share owners number side
row_side m share owners number (Own s) apart is = absurd is
row_side m share owners number (Other seat) apart is = (apart, is.0, ap (λ (v : Logged). v.deals) is.1)
row_side m share owners number Spent apart is = absurd is

row_part : (share : List ℕ) (x : Dealer) (side : Side) → (worker_view x).share ≡ share → IsRowSide x side → IsPart share 0 [] (side_log side)
row_part share x (Own s) same is = absurd is
row_part share x (Other seat) same is = fresh_part share (view seat) (ap (λ (v : Logged). v.parts) is.1) (ap (λ (v : Logged). v.share) is.1 ∙ same) (ap (λ (v : Logged). v.got) is.1)
row_part share x Spent same is = absurd is

row_dealt : (x : Dealer) (side : Side) → IsRowSide x side → side_dealt side ≡ 0
row_dealt x (Own s) is = absurd is
row_dealt x (Other seat) is = refl
row_dealt x Spent is = refl

-- what it has of one deque
record HasNew (share : List ℕ) (owners number : ℕ) (m : Made) (side : Side) : Type 0 where
  pub is_side : IsSide (deque_made m) share owners number side
  pub part : IsPart share 0 [] (side_log side)
  pub dealt : side_dealt side ≡ 0

has_new : (line : List Share) (owners i d : ℕ) (made : List Made) (m : Made) (row : Vec Side Global) (o p : Owner) → AreMade line owners (passes_after owners) made → IsRow i made row.items → o.sides ≡ row → IsPlaced made (length made) i o p → slice_get made d ≡ Some m
    → whose_at line d < owners → HasNew (share_at line d) owners i m (side_at p.sides.items d)
has_new line owners i d made m row o p a is_row sides placed at few =
    let share = share_at line d in
    let is = a.each d m at in
    ⊎_elim (λ (mine : m.whose.0 ≡ i).
    let here = placed.own d m (slice_get_within made d m at) at mine in
    subst (HasNew share owners i m) (sym here) (record {
      is_side = (mine, refl, fresh_stretch share owners (passes_after owners (whose_at line d)) m.stretch is.new (passes_end owners (whose_at line d) few));
      part = fresh_part share (worker_view m.stretch.dealer) (ap (λ (v : Logged). v.parts) is.new.view_is) (ap (λ (v : Logged). v.share) is.new.view_is) (ap (λ (v : Logged). v.got) is.new.view_is);
      dealt = is.new.dealt;
    }))
    (λ (apart : m.whose.0 ≢ i).
    let r = is_row.each d m at apart in
    subst (HasNew share owners i m) (sym (placed.other d m at apart ∙ ap (λ (v : Vec Side Global). side_at v.items d) sides)) (record {
      is_side = row_side m share owners i (side_at row.items d) apart r;
      part = row_part share m.stretch.dealer (side_at row.items d) (ap (λ (v : Logged). v.share) is.new.view_is) r;
      dealt = row_dealt m.stretch.dealer (side_at row.items d) r;
    }))
    (same_or m.whose.0 i)

pub is_fresh : (shares : List (List (List ℕ))) (made : List Made) (most i : ℕ) (row : Vec Side Global) (o p : Owner) → AreMade (flat shares) (length shares) (passes_after (length shares)) made → IsRow i made row.items → IsBare shares most i row o
    → IsPlaced made (length made) i o p → i < length shares → total_of (flat shares) ≤ most → IsFresh (map deque_made made) shares i p
is_fresh shares made most i row o p a is_row bare placed few enough =
    let line = flat shares in
    let n = length shares in
    let deques = map deque_made made in
    let many : length deques ≡ length made = length-map made deque_made in
    let long = a.long in
    let number : number_of p ≡ i = ap (λ x. x.0) placed.number ∙ bare.number in
    let firsts : (w : ℕ) → w < n → reached_of p w ≡ first_of shares w = λ w less. ap (λ (v : Vec ℕ Global). slice_index_or v.items w 0) placed.reached ∙ bare.firsts.each w less in
    let none_taken : p.taken.items ≡ [] = ap (λ (v : Vec ℕ Global). v.items) placed.taken ∙ bare.taken in
    let none_from : p.from.items ≡ [] = ap (λ (v : Vec ℕ Global). v.items) placed.from ∙ bare.from in
    let nothing : (d : ℕ) → taken_from d p ≡ [] = λ d. (λ j. items_from d (none_from j) (none_taken j)) in
    let stretch : stretch_of p ≡ first_of shares i = ap (reached_of p) number ∙ firsts i few in
    let new = λ (d : ℕ) (less : d < length made). let m = some_there made d less in
    has_new line n i d made m.0 row o p a is_row bare.sides placed m.1 (first_below shares d (let e : d < length line = omega arith in e)).0 in
    let cap : vec_capacity p.taken ≡ vec_capacity o.taken = ap (λ (v : Vec ℕ Global). vec_capacity v) placed.taken in
    let cap' : vec_capacity p.from ≡ vec_capacity o.from = ap (λ (v : Vec ℕ Global). vec_capacity v) placed.from in
    let is : IsOwner deques line n p = record {
      many = sym long ∙ sym many;
      number = omega arith;
      reached_all = ap (λ (v : Vec ℕ Global). length v.items) placed.reached ∙ bare.firsts.long;
      sides_all = placed.sides_all ∙ ap (λ (v : Vec Side Global). length v.items) bare.sides ∙ is_row.long ∙ sym many;
      whose = λ d q at.
          let m = some_there made d (let e = slice_get_within deques d q at in omega arith) in
          let same : q ≡ deque_made m.0 = one_there deques d (deque_made m.0) q (get_map_made made d m.0 m.1) at in
          let w = first_below shares d (let e = slice_get_within deques d q at in let f : d < length line = omega arith in f) in
          let x = (a.each d m.0 m.1).whose in
          subst (λ (z : Deque). (z.whose ≡ whose_at line d) × (z.whose < n)) (sym same) (x, (let y = w.0 in omega arith));
      sides = λ d q at.
          let less : d < length made = (let e = slice_get_within deques d q at in omega arith) in
          let m = some_there made d less in
          let same : q ≡ deque_made m.0 = one_there deques d (deque_made m.0) q (get_map_made made d m.0 m.1) at in
          subst (λ (z : Deque × ℕ). IsSide z.0 (share_at line d) n z.1 (side_at p.sides.items d)) (λ j. (sym same j, sym number j)) (new d less).is_side;
      parts = λ d less.
          let f = first_below shares d (let e : d < length line = omega arith in e) in
          let r = firsts (whose_at line d) f.0 in
          let below = f.1 in
          subst (λ (x : ℕ × List ℕ). IsPart (share_at line d) x.0 x.1 (log_of p d)) (λ j. (sym (below_not d (reached_of p (whose_at line d)) (let e : reached_of p (whose_at line d) ≤ d = omega arith in e)) j, sym (nothing d) j))
          (new d (let e : d < length made = omega arith in e)).part;
      in_turn = λ d less mine.
          let f = first_below shares d (let e : d < length line = omega arith in e) in
          let below = f.1 in
          let w = ap (first_of shares) (mine ∙ number) in
          record { over = λ past. absurd (omega arith); ahead = λ _. (new d (let e : d < length made = omega arith in e)).dealt };
      both = ap length none_from ∙ sym (ap length none_taken);
      froms = subst (All (λ (d : ℕ). d < length deques)) (sym none_from) (All-nil (λ (d : ℕ). d < length deques));
      in_line = λ w. subst (AreInLine line w 0) (sym none_from) tt;
      so_far = subst (All (λ (d : ℕ). d ≤ reached_of p (whose_at line d))) (sym none_from) (All-nil (λ (d : ℕ). d ≤ reached_of p (whose_at line d)));
      room = let e = bare.room in omega arith;
      room_from = let e = bare.room_from in omega arith;
    } in
    record {
      is = is;
      number_is = number;
      at_first = stretch ∙ (let e : first_of shares i ≡ first_of shares i + 0 = omega arith in e);
      nothing_dealt = ⊎_elim (λ (less : stretch_of p < length made). (new (stretch_of p) less).dealt)
          (λ (past : length made ≤ stretch_of p). ap side_dealt (past_side p.sides.items (stretch_of p) (let e = is.sides_all in omega arith))) (past_or (stretch_of p) (length made));
      nothing_taken = none_taken;
    }

-- a sum by numbers, from the first one on
pub sum_to_first : (n : ℕ) (f : ℕ → ℕ) → sum_to (suc n) f ≡ f 0 + sum_to n (λ d. f (suc d))
sum_to_first zero f = omega arith
sum_to_first (suc n) f = let rest = sum_to_first n f in omega arith

sum_counts : (made : List Made) (f : ℕ → ℕ) → ((d : ℕ) (m : Made) → slice_get made d ≡ Some m → count_made m ≡ f d) → sum_to (length made) f ≡ sum_by count_made made
sum_counts [] f each = refl
sum_counts (m ∷ made) f each =
    let rest = sum_counts made (λ d. f (suc d)) (λ d x at. each (suc d) x at) in
    let one = each 0 m refl in
    let a = sum_to_first (length made) f in
    let b = sum_by-cons count_made m made in
    omega arith

-- how many items there are, by stretches and by places
pub total_made : (line : List Share) (owners : ℕ) (passes : ℕ → ℕ) (made : List Made) → AreMade line owners passes made → total_of line ≡ sum_by count_made made
total_made line owners passes made a =
    ap (λ (n : ℕ). sum_to n (λ d. length (share_at line d))) (sym a.long) ∙ sum_counts made (λ d. length (share_at line d)) (λ d m at. (a.each d m at).new.count)

-- what stands behind others
stands : (before : List Made) (m : Made) (ahead : List Made) → slice_get (before ++ m ∷ ahead) (length before) ≡ Some m
stands [] m ahead = refl
stands (x ∷ before) m ahead = stands before m ahead

pub at_yielded : (made before : List Made) (m : Made) (ahead : List Made) → made ≡ before ++ m ∷ ahead → slice_get made (length before) ≡ Some m
at_yielded made before m ahead is = ap (λ (l : List Made). slice_get l (length before)) is ∙ stands before m ahead

-- an owner has a place for the next stretch
pub room_there : (made : List Made) (count : ℕ) (old owners : List Owner) (m : Made) (own : Owner) → HavePlaces made old → ArePlaced made count old owners → slice_get made count ≡ Some m → slice_get owners m.whose.0 ≡ Some own → count < length own.sides.items
room_there made count old owners m own h a at there =
    let long = a.long in
    let some = some_there old m.whose.0 (h.whose count m at) in
    let is = a.each m.whose.0 some.0 own some.1 there in
    let x = is.sides_all in
    let y = h.sides m.whose.0 some.0 some.1 in
    let z = slice_get_within made count m at in
    omega arith

-- ---- all of them

pub have_places : (shares : List (List (List ℕ))) (passes : ℕ → ℕ) (made : List Made) (rows : List (Vec Side Global)) (most : ℕ) (owners : List Owner) → AreMade (flat shares) (length shares) passes made → AreRows (length shares) made rows → AreBare shares most rows owners
    → HavePlaces made owners
have_places shares passes made rows most owners a r b =
    let long = a.long in
    let rows_all = r.long in
    let owners_all = b.long in record {
      whose = λ d m at. let w = first_below shares d (let e = slice_get_within made d m at in omega arith) in let few = w.0 in let is = (a.each d m at).whose in omega arith;
      sides = λ i o at.
          let row = some_there rows i (let e = slice_get_within owners i o at in omega arith) in
          ap (λ (v : Vec Side Global). length v.items) (b.each i row.0 o row.1 at).sides ∙ (r.each i row.0 row.1).long;
    }

pub all_new : (shares : List (List (List ℕ))) (made : List Made) (rows : List (Vec Side Global)) (most : ℕ) (bare owners : List Owner) → AreMade (flat shares) (length shares) (passes_after (length shares)) made → AreRows (length shares) made rows
    → AreBare shares most rows bare → ArePlaced made (length made) bare owners → total_of (flat shares) ≤ most → AreNewOwners (map deque_made made) shares owners
all_new shares made rows most bare owners a r b placed enough i o at =
    let rows_all = r.long in
    let bare_all = b.long in
    let all = placed.long in
    let inside : i < length owners = slice_get_within owners i o at in
    let old = some_there bare i (omega arith) in
    let row = some_there rows i (omega arith) in
    is_fresh shares made most i row.0 old.0 o a (r.each i row.0 row.1) (b.each i row.0 old.0 row.1 old.1) (placed.each i old.0 o old.1 at) (omega arith) enough

pub all_of : (shares : List (List (List ℕ))) (passes : ℕ → ℕ) (made : List Made) (rows : List (Vec Side Global)) (most : ℕ) (bare owners : List Owner) → AreMade (flat shares) (length shares) passes made → AreRows (length shares) made rows
    → AreBare shares most rows bare → ArePlaced made (length made) bare owners → AreNewOwners (map deque_made made) shares owners → AreAllOf (map deque_made made) shares owners
all_of shares passes made rows most bare owners a r b placed new = record {
  long = placed.long ∙ b.long ∙ r.long;
  many = sym a.long ∙ sym (length-map made deque_made);
  each = λ i o at. let f = new i o at in (f.is, f.number_is);
}
