-- What an owner took of its own stretches stands in the order of its whole share.
use Rattle.std.proofs.Common.{◌≡◌, ◌≢◌, ℕ, zero, suc, ◌+◌, ◌<◌, ◌≤◌, ◌==◌, Bool, true, false, if◌then◌else◌, List, [], ◌∷◌, ◌++◌, length, map, Option, Some, None, slice_get, slice_index_or, refl, sym, ap, ◌∙◌, subst, arith, ⊎_elim, eqb-true, eq-eqb, ne_eqb, true≢false}
use Rattle.std.specs.List.{All}
use Rattle.std.proofs.lemmas.Option.{slice_get_within}
use Rattle.std.proofs.lemmas.List.Elements.{All-head, All-tail, All-weaker}
use Rattle.run_balance.specs.Shares.{Share, flat, whose_at, share_at, first_of, deque_no, stretches_of, joined}
use Rattle.run_balance.specs.Sides.{Deque, items_from, one_below}
use Rattle.run_balance.specs.Owners.{number_of, reached_of, log_of, taken_from, taken_of, items_of_processor, AreInLine, IsOf, IsPartOf, AreRisingPlaces}
use Rattle.run_balance.specs.declared.owner.Owner.{Owner}
use Rattle.run_balance.proofs.Numbers.{past_or, below_is, below_not}
use Rattle.run_balance.proofs.Lines.{stands_there, stands_within, first_below}
use Rattle.run_balance.proofs.Closing.{part_in_turn}

-- ---- parts of lists one behind the other

get_front : (xs ys : List ℕ) (p a : ℕ) → slice_get xs p ≡ Some a → slice_get (xs ++ ys) p ≡ Some a
get_front [] ys p a at = absurd cc
get_front (x ∷ xs) ys zero a at = at
get_front (x ∷ xs) ys (suc p) a at = get_front xs ys p a at

get_back : (xs ys : List ℕ) (k : ℕ) → slice_get (xs ++ ys) (length xs + k) ≡ slice_get ys k
get_back [] ys k = ap (slice_get ys) (let e : 0 + k ≡ k = omega arith in e)
get_back (x ∷ xs) ys k = ap (slice_get (x ∷ xs ++ ys)) (let e : suc (length xs) + k ≡ suc (length xs + k) = omega arith in e) ∙ get_back xs ys k

shift_rising : (n from k : ℕ) (qs : List ℕ) → from ≤ n + k → AreRisingPlaces k qs → AreRisingPlaces from (map (λ (q : ℕ). n + q) qs)
shift_rising n from k [] less rising = tt
shift_rising n from k (q ∷ qs) less rising = ((let e = rising.0 in omega arith), shift_rising n (suc (n + q)) (suc q) qs (omega arith) rising.1)

shift_are : (xs ys qs : List ℕ) → map (λ (p : ℕ). slice_get (xs ++ ys) p) (map (λ (q : ℕ). length xs + q) qs) ≡ map (λ (q : ℕ). slice_get ys q) qs
shift_are xs ys [] = refl
shift_are xs ys (q ∷ qs) = λ i. get_back xs ys q i ∷ shift_are xs ys qs i

abbrev first_or : Option ℕ → List (Option ℕ) → Option ℕ
first_or d [] = d
first_or d (x ∷ xs) = x

abbrev rest_of : List (Option ℕ) → List (Option ℕ)
rest_of [] = []
rest_of (x ∷ xs) = xs

join : (xs ys : List ℕ) (from : ℕ) (ps cs qs bs : List ℕ) → AreRisingPlaces from ps → map (λ (p : ℕ). slice_get xs p) ps ≡ map Some cs → AreRisingPlaces 0 qs → map (λ (q : ℕ). slice_get ys q) qs ≡ map Some bs → from ≤ length xs
    → AreRisingPlaces from (ps ++ map (λ (q : ℕ). length xs + q) qs) × (map (λ (p : ℕ). slice_get (xs ++ ys) p) (ps ++ map (λ (q : ℕ). length xs + q) qs) ≡ map Some (cs ++ bs))
join xs ys from [] [] qs bs rising are rising' are' less = (shift_rising (length xs) from 0 qs (omega arith) rising', shift_are xs ys qs ∙ are')
join xs ys from [] (a ∷ cs) qs bs rising are rising' are' less = absurd cc
join xs ys from (p ∷ ps) [] qs bs rising are rising' are' less = absurd cc
join xs ys from (p ∷ ps) (a ∷ cs) qs bs rising are rising' are' less =
    let at : slice_get xs p ≡ Some a = ap (first_or None) are in
    let rest = join xs ys (suc p) ps cs qs bs rising.1 (ap rest_of are) rising' are' (let e = slice_get_within xs p a at in omega arith) in
    ((rising.0, rest.0), (λ i. get_front xs ys p a at i ∷ rest.1 i))

part_join : (xs ys cs bs : List ℕ) → IsPartOf xs cs → IsPartOf ys bs → IsPartOf (xs ++ ys) (cs ++ bs)
part_join xs ys cs bs a b =
    let j = join xs ys 0 a.places cs b.places bs a.rising a.are b.rising b.are (omega arith) in
    record { places = a.places ++ map (λ (q : ℕ). length xs + q) b.places; rising = j.0; are = j.1 }

-- ---- the own items from a deque on

abbrev put_if : ℕ → ℕ → List ℕ → List ℕ
put_if zero item items = item ∷ items
put_if (suc n) item items = items

abbrev own_from : List Share → ℕ → ℕ → List ℕ → List ℕ → List ℕ
own_from line p low (d ∷ froms) (item ∷ items) = if whose_at line d == p then put_if (one_below d low) item (own_from line p low froms items) else own_from line p low froms items
own_from line p low froms items = []

own_all : (line : List Share) (p low : ℕ) (froms items : List ℕ) → ((d : ℕ) → d < length line → whose_at line d ≡ p → low ≤ d) → All (λ (d : ℕ). d < length line) froms → items_of_processor line p froms items ≡ own_from line p low froms items
own_all line p low [] items few all = refl
own_all line p low (d ∷ froms) [] few all = refl
own_all line p low (d ∷ froms) (item ∷ items) few all =
    let P = λ (d : ℕ). d < length line in
    let rest = own_all line p low froms items few (All-tail P d froms all) in
    one (whose_at line d == p) refl rest
  where
    one : (b : Bool) → (whose_at line d == p) ≡ b → items_of_processor line p froms items ≡ own_from line p low froms items → (if b then item ∷ items_of_processor line p froms items else items_of_processor line p froms items) ≡ (if b then put_if (one_below d low) item (own_from line p low froms items) else own_from line p low froms items)
    one true is rest = ap (λ (l : List ℕ). item ∷ l) rest ∙ ap (λ (n : ℕ). put_if n item (own_from line p low froms items)) (sym (below_not d low (few d (All-head (λ (d : ℕ). d < length line) d froms all) (eqb-true (whose_at line d) p is))))
    one false is rest = rest

end_one : (line : List Share) (p low d item : ℕ) (rest : List ℕ) → (whose_at line d ≡ p → d < low) → rest ≡ [] → (b : Bool) → (whose_at line d == p) ≡ b → (if b then put_if (one_below d low) item rest else rest) ≡ []
end_one line p low d item rest less none true is = ap (λ (n : ℕ). put_if n item rest) (below_is d low (less (eqb-true (whose_at line d) p is))) ∙ none
end_one line p low d item rest less none false is = none

-- all of them are before a deque
own_end : (line : List Share) (p low : ℕ) (froms items : List ℕ) → All (λ (d : ℕ). whose_at line d ≡ p → d < low) froms → own_from line p low froms items ≡ []
own_end line p low [] items all = refl
own_end line p low (d ∷ froms) [] all = refl
own_end line p low (d ∷ froms) (item ∷ items) all =
    let P = λ (d : ℕ). whose_at line d ≡ p → d < low in
    end_one line p low d item (own_from line p low froms items) (All-head P d froms all) (own_end line p low froms items (All-tail P d froms all)) (whose_at line d == p) refl

-- nothing of a deque stands behind later ones
later_low : (b : Bool) (lo low d : ℕ) → lo < low → (b ≡ true → low ≤ d) → lo < (if b then d else low)
later_low true lo low d less own = let e = own refl in omega arith
later_low false lo low d less own = less

none_from : (line : List Share) (p lo low : ℕ) (froms items : List ℕ) → AreInLine line p low froms → lo < low → whose_at line lo ≡ p → items_from lo froms items ≡ []
none_from line p lo low [] items in_line less mine = refl
none_from line p lo low (d ∷ froms) [] in_line less mine = refl
none_from line p lo low (d ∷ froms) (item ∷ items) in_line less mine =
    let apart : d ≢ lo = λ (e : d ≡ lo). absurd (let f = in_line.0 (ap (whose_at line) e ∙ mine) in omega arith) in
    ap (λ (b : Bool). if b then item ∷ items_from lo froms items else items_from lo froms items) (ne_eqb d lo apart)
    ∙ none_from line p lo (if whose_at line d == p then d else low) froms items in_line.1 (later_low (whose_at line d == p) lo low d less (λ is. in_line.0 (eqb-true (whose_at line d) p is))) mine

abbrev Splits : Bool → Bool → ℕ → ℕ → ℕ → List ℕ → List ℕ → List ℕ → Type 0
Splits own same n m item r s t = (if own then put_if n item r else r) ≡ (if same then item ∷ s else s) ++ (if own then put_if m item t else t)

split_one : (line : List Share) (p lo d item : ℕ) (r s t : List ℕ) → whose_at line lo ≡ p → r ≡ s ++ t → (whose_at line d ≡ p → lo < d → s ≡ []) → (b : Bool) → (whose_at line d == p) ≡ b → Splits b (d == lo) (one_below d lo) (one_below d (suc lo)) item r s t
split_one line p lo d item r s t mine rest none false is =
    let apart : d ≢ lo = λ (e : d ≡ lo). absurd (true≢false (sym (eq-eqb (whose_at line d) p (ap (whose_at line) e ∙ mine)) ∙ is)) in
    subst (λ (same : Bool). Splits false same (one_below d lo) (one_below d (suc lo)) item r s t) (sym (ne_eqb d lo apart)) rest
split_one line p lo d item r s t mine rest none true is =
    ⊎_elim (λ (z : d < lo).
    subst (λ (x : Bool × ℕ × ℕ). Splits true x.0 x.1 x.2 item r s t) (λ i. (sym (ne_eqb d lo (λ e. absurd (omega arith))) i, sym (below_is d lo z) i, sym (below_is d (suc lo) (let y : d < suc lo = omega arith in y)) i)) rest)
    (λ (z : lo ≤ d). ⊎_elim (λ (y : d < suc lo).
    subst (λ (x : Bool × ℕ × ℕ). Splits true x.0 x.1 x.2 item r s t) (λ i. (sym (eq-eqb d lo (let e : d ≡ lo = omega arith in e)) i, sym (below_not d lo z) i, sym (below_is d (suc lo) y) i)) (ap (λ (l : List ℕ). item ∷ l) rest))
    (λ (y : suc lo ≤ d).
    let nothing = none (eqb-true (whose_at line d) p is) (let e : lo < d = omega arith in e) in
    subst (λ (x : Bool × ℕ × ℕ). Splits true x.0 x.1 x.2 item r s t) (λ i. (sym (ne_eqb d lo (λ e. absurd (omega arith))) i, sym (below_not d lo z) i, sym (below_not d (suc lo) y) i))
    (ap (λ (l : List ℕ). item ∷ l) (rest ∙ ap (λ (l : List ℕ). l ++ t) nothing) ∙ ap (λ (l : List ℕ). l ++ item ∷ t) (sym nothing)))
    (past_or d (suc lo))) (past_or d lo)

split : (line : List Share) (p lo low : ℕ) (froms items : List ℕ) → whose_at line lo ≡ p → AreInLine line p low froms → own_from line p lo froms items ≡ items_from lo froms items ++ own_from line p (suc lo) froms items
split line p lo low [] items mine in_line = refl
split line p lo low (d ∷ froms) [] mine in_line = refl
split line p lo low (d ∷ froms) (item ∷ items) mine in_line =
    split_one line p lo d item (own_from line p lo froms items) (items_from lo froms items) (own_from line p (suc lo) froms items) mine
    (split line p lo (if whose_at line d == p then d else low) froms items mine in_line.1)
    (λ own less. none_from line p lo d froms items (subst (λ (b : Bool). AreInLine line p (if b then d else low) froms) (eq-eqb (whose_at line d) p own) in_line.1) less mine)
    (whose_at line d == p) refl

stack : (line : List Share) (p lo : ℕ) (own : List (List ℕ)) (froms items : List ℕ) → AreInLine line p 0 froms
    → ((k : ℕ) → k < length own → (whose_at line (lo + k) ≡ p) × IsPartOf (slice_index_or own k []) (items_from (lo + k) froms items))
    → All (λ (d : ℕ). whose_at line d ≡ p → d < lo + length own) froms → IsPartOf (joined own) (own_from line p lo froms items)
stack line p lo [] froms items in_line each all =
    subst (IsPartOf []) (sym (own_end line p lo froms items (subst (λ (n : ℕ). All (λ (d : ℕ). whose_at line d ≡ p → d < n) froms) (let e : lo + length {A = List ℕ} [] ≡ lo = omega arith in e) all))) (record { places = []; rising = tt; are = refl })
stack line p lo (x ∷ own) froms items in_line each all =
    let here : lo + 0 ≡ lo = omega arith in
    let first = each 0 (omega arith) in
    subst (IsPartOf (x ++ joined own)) (sym (split line p lo 0 froms items (ap (whose_at line) (sym here) ∙ first.0) in_line))
    (part_join x (joined own) (items_from lo froms items) (own_from line p (suc lo) froms items) (subst (λ (n : ℕ). IsPartOf x (items_from n froms items)) here first.1)
    (stack line p (suc lo) own froms items in_line
    (λ k less. subst (λ (n : ℕ). (whose_at line n ≡ p) × IsPartOf (slice_index_or own k []) (items_from n froms items)) (let e : lo + suc k ≡ suc lo + k = omega arith in e) (each (suc k) (omega arith)))
    (subst (λ (n : ℕ). All (λ (d : ℕ). whose_at line d ≡ p → d < n) froms) (let e : lo + length (x ∷ own) ≡ suc lo + length own = omega arith in e) all)))

pub whole_in_order : (deques : List Deque) (shares : List (List (List ℕ))) (p : ℕ) (o : Owner) → IsOf deques shares o → p < length shares → IsPartOf (joined (stretches_of shares p)) (taken_of shares p o)
whole_in_order deques shares p o is few =
    let line = flat shares in
    let own = stretches_of shares p in
    let froms : List ℕ = o.from.items in
    let many = is.many in
    let inside = subst (λ (n : ℕ). All (λ (d : ℕ). d < n) froms) (sym many) is.froms in
    subst (IsPartOf (joined own)) (sym (own_all line p (first_of shares p) froms o.taken.items
    (λ d less mine. let f = (first_below shares d less).1 in let e = ap (first_of shares) mine in let z : first_of shares p ≤ d = omega arith in z) inside))
    (stack line p (first_of shares p) own froms o.taken.items (is.in_line p)
    (λ k less. let s = stands_there shares p k few less in let d = deque_no shares p k in
    let within = s.inside in (
      s.whose,
      subst (λ (share : List ℕ). IsPartOf share (taken_from d o)) s.items
          (part_in_turn (share_at line d) (one_below d (reached_of o (whose_at line d))) (taken_from d o) (log_of o d) (is.parts d (let e : d < length deques = omega arith in e))),
    ))
    (All-weaker (λ (d : ℕ). d < length line) (λ (d : ℕ). whose_at line d ≡ p → d < first_of shares p + length own)
    (λ (d : ℕ) (less : d < length line) (mine : whose_at line d ≡ p).
    let w = stands_within shares d less in
    let same : w.0 ≡ p = sym w.5 ∙ mine in
    let k = w.3 in
    let is_no = w.4 in
    let a = ap (first_of shares) same in
    let b = ap (λ (n : ℕ). length (stretches_of shares n)) same in
    let z : d < first_of shares p + length own = omega arith in z) froms inside))
