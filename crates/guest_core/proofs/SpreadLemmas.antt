-- Frames that lie on different nodes are few: no more than there are nodes, and fewer where a node has none of them.
use Rattle.std.proofs.Common.{◌≡◌, ℕ, zero, suc, ◌*◌, ◌<◌, ◌≤◌, ◌||◌, eqb, Bool, true, false, List, [], ◌∷◌, ◌++◌, length, map, get_or, refl, sym, ◌∙◌, subst, inl, inr, ⊎_elim, length-append, append_assoc, arith}
use Rattle.std.proofs.lemmas.Bool.{eq-eqb, eqb-true, ne_eqb, false≢true}
use Rattle.std.proofs.lemmas.List.{length-map}
use Rattle.std.proofs.lemmas.Map.Keys.{IsDistinct-cons, IsDistinct-from_apart}
use Rattle.std.proofs.lemmas.Map.Steps.{length-le_from_distinct_below}
use Rattle.std.proofs.lemmas.Nat.{div_below}
use Rattle.std.specs.List.{IsDistinct, AllByRecursion, list_any}
use Rattle.std.specs.Prelude.{Option, Some, None, flat_map, option_and_then, option_to_list}
use Rattle.base_words.specs.Membership.{Has}
use Rattle.private_machine.specs.Backing.{Copy, Page, no_page, copies, lies_on, node_of_frame}
use Rattle.private_machine.specs.PageMove.{held_for, held_in, target_in}
use Rattle.isolation_law.specs.Holdings.{AllDifferent, coming_to, nodes_of}
use Rattle.isolation_law.specs.Surroundings.{Surroundings}
use Rattle.guest_core.specs.Holding.{frames_around}

-- ---- different numbers

-- none of these is this number
none-is : (n : ℕ) (ns : List ℕ) → (Has ns n → ⊥) → AllByRecursion (λ m. eqb n m ≡ false) ns
none-is n [] isnt = tt
none-is n (m ∷ ns) isnt = (ne_eqb n m (λ e. isnt (inl (sym e))), none-is n ns (λ has. isnt (inr has)))

distinct : (ns : List ℕ) → AllDifferent ns → IsDistinct eqb ns
distinct [] all = IsDistinct-from_apart eqb [] (λ i j d before within. absurd (omega arith))
distinct (n ∷ ns) all = IsDistinct-cons eqb n ns (none-is n ns all.0) (distinct ns all.1)

-- a number that a search finds is among them
found-has : (n : ℕ) (ns : List ℕ) → list_any (eqb n) ns ≡ true → Has ns n
found-has n [] found = absurd (false≢true found)
found-has n (m ∷ ns) found = by (eqb n m) refl (found-has n ns) found
  where
    by : (b : Bool) → eqb n m ≡ b → (list_any (eqb n) ns ≡ true → Has ns n) → (b || list_any (eqb n) ns) ≡ true → Has (m ∷ ns) n
    by true is later found = inl (sym (eqb-true n m is))
    by false is later found = inr (later found)

-- different numbers below a bound are no more than it
pub different-below : (ns : List ℕ) (most : ℕ) → AllDifferent ns → ((n : ℕ) → Has ns n → n < most) → length ns ≤ most
different-below ns most all low = length-le_from_distinct_below ns most (distinct ns all) (λ n found. low n (found-has n ns found))

-- ---- frames on different nodes

pub has-left : {A : Type 0} (xs ys : List A) (x : A) → Has xs x → Has (xs ++ ys) x
has-left [] ys x has = absurd has
has-left (y ∷ xs) ys x has = ⊎_elim (λ (is : y ≡ x). inl is) (λ (later : Has xs x). inr (has-left xs ys x later)) has

pub has-right : {A : Type 0} (xs ys : List A) (x : A) → Has ys x → Has (xs ++ ys) x
has-right [] ys x has = has
has-right (y ∷ xs) ys x has = inr (has-right xs ys x has)

abbrev node-in : ℕ → Copy → ℕ
node-in frames c = node_of_frame frames c.frame

-- a node of some copies is that of one of them
node-has : (frames : ℕ) (cs : List Copy) (n : ℕ) → Has (map (node-in frames) cs) n → (c : Copy) × Has cs c × (node-in frames c ≡ n)
node-has frames [] n has = absurd has
node-has frames (c ∷ cs) n has = ⊎_elim
    (λ (is : node-in frames c ≡ n). (c, inl refl, is))
    (λ (later : Has (map (node-in frames) cs) n). let x = node-has frames cs n later in (x.0, inr x.1, x.2))
    has

has-node : (frames : ℕ) (cs ds : List Copy) (n : ℕ) → Has (map (node-in frames) cs) n → Has (map (node-in frames) (cs ++ ds)) n
has-node frames [] ds n has = absurd has
has-node frames (c ∷ cs) ds n has = ⊎_elim
    (λ (is : node-in frames c ≡ n). inl is)
    (λ (later : Has (map (node-in frames) cs) n). inr (has-node frames cs ds n later))
    has

-- the first of some copies on different nodes lie on different nodes
first-different : (frames : ℕ) (cs ds : List Copy) → AllDifferent (map (node-in frames) (cs ++ ds)) → AllDifferent (map (node-in frames) cs)
first-different frames [] ds all = tt
first-different frames (c ∷ cs) ds all = (λ has. all.0 (has-node frames cs ds (node-in frames c) has), first-different frames cs ds all.1)

-- so many nodes, each with so many frames, on which these copies lie
abbrev pub LieWithin : Surroundings → List Copy → Type 0
LieWithin w cs = (c : Copy) → Has cs c → c.frame < frames_around w

node-low : (w : Surroundings) (cs : List Copy) (n : ℕ) → 0 < w.frames → LieWithin w cs → Has (map (node-in w.frames) cs) n → n < length w.nodes
node-low w cs n some within has =
    let x = node-has w.frames cs n has in
    subst (λ (m : ℕ). m < length w.nodes) x.2 (div_below x.0.frame w.frames (length w.nodes) some (within x.0 x.1))

-- a page has no more frames than there are nodes
pub few-copies : (w : Surroundings) (g : Page) → 0 < w.frames → LieWithin w (copies g) → AllDifferent (nodes_of w g) → length (copies g) ≤ length w.nodes
few-copies w g some within all =
    let few = different-below (map (node-in w.frames) (copies g)) (length w.nodes) (first-different w.frames (copies g) (coming_to g.move) all) (λ n has. node-low w (copies g) n some within has) in
    let long = length-map (copies g) (node-in w.frames) in omega arith

-- a node on which no copy lies is none of theirs
away : (frames node : ℕ) (cs : List Copy) → list_any (lies_on frames node) cs ≡ false → Has (map (node-in frames) cs) node → ⊥
away frames node [] none has = absurd has
away frames node (c ∷ cs) none has = by (lies_on frames node c) refl (away frames node cs) none
  where
    by : (b : Bool) → lies_on frames node c ≡ b → (list_any (lies_on frames node) cs ≡ false → Has (map (node-in frames) cs) node → ⊥) → (b || list_any (lies_on frames node) cs) ≡ false → ⊥
    by true is later none = false≢true (sym none)
    by false is later none = ⊎_elim
        (λ (here : node-in frames c ≡ node). false≢true (sym is ∙ eq-eqb (node-in frames c) node here))
        (λ (there : Has (map (node-in frames) cs) node). later none there)
        has

-- a page has fewer frames where this node has none of them
pub fewer-copies : (w : Surroundings) (g : Page) (node : ℕ) → 0 < w.frames → node < length w.nodes → list_any (lies_on w.frames node) (copies g) ≡ false → LieWithin w (copies g) → AllDifferent (nodes_of w g) → length (copies g) < length w.nodes
fewer-copies w g node some lt none within all =
    let nodes = map (node-in w.frames) (copies g) in
    let few = different-below (node ∷ nodes) (length w.nodes) (away w.frames node (copies g) none, first-different w.frames (copies g) (coming_to g.move) all)
    (λ n has. ⊎_elim (λ (is : node ≡ n). subst (λ (m : ℕ). m < length w.nodes) is lt) (λ (later : Has nodes n). node-low w (copies g) n some within later) has) in
    let long = length-map (copies g) (node-in w.frames) in omega arith

-- ---- the frames of a guest

-- the frames of a page are among those of all
pub page-has : (pages : List Page) (spares : List Copy) (q : ℕ) (c : Copy) → q < length pages → Has (copies (get_or pages q no_page)) c → Has (held_in pages spares) c
page-has [] spares q c lt has = absurd (omega arith)
page-has (g ∷ pages) spares zero c lt has = has-left (held_for g ++ flat_map held_for pages) spares c (has-left (held_for g) (flat_map held_for pages) c (has-left (copies g) _ c has))
page-has (g ∷ pages) spares (suc q) c lt has =
    let later = page-has pages spares q c (omega arith) has in
    subst (λ (l : List Copy). Has l c) (sym (behind g pages spares)) (has-right (held_for g) (held_in pages spares) c later)
  where
    behind : (g : Page) (pages : List Page) (spares : List Copy) → held_in (g ∷ pages) spares ≡ held_for g ++ held_in pages spares
    behind g pages spares = append_assoc (held_for g) (flat_map held_for pages) spares

-- those of all pages are at most nine for each
pub few-held : (w : Surroundings) (pages : List Page) → 0 < w.frames → length w.nodes ≤ 8 → ((q : ℕ) (c : Copy) → q < length pages → Has (copies (get_or pages q no_page)) c → c.frame < frames_around w)
    → ((q : ℕ) → q < length pages → AllDifferent (nodes_of w (get_or pages q no_page))) → length (flat_map held_for pages) ≤ 9 * length pages
few-held w [] some few within all = omega arith
few-held w (g ∷ pages) some few within all =
    let here = few-copies w g some (λ c has. within 0 c (omega arith) has) (all 0 (omega arith)) in
    let later = few-held w pages some few (λ q c lt has. within (suc q) c (omega arith) has) (λ q lt. all (suc q) (omega arith)) in
    let split = length-append (held_for g) (flat_map held_for pages) in
    let own = length-append (copies g) (option_to_list (option_and_then target_in g.move)) in
    let one = at-most-one (option_and_then target_in g.move) in omega arith
  where
    at-most-one : (o : Option Copy) → length (option_to_list o) ≤ 1
    at-most-one None = omega arith
    at-most-one (Some c) = omega arith
