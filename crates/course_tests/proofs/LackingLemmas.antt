-- Pages that have nothing to do with a frame hold no copy of it.
use Rattle.std.proofs.Common.{◌≡◌, ◌≢◌, ℕ, suc, ◌<◌, List, [], ◌∷◌, ◌++◌, None, Option, length, ap, ◌∙◌, subst, ⊎_elim, arith}
use Rattle.std.specs.Prelude.{flat_map, option_to_list}
use Rattle.std.specs.Option.{option_and_then}
use Rattle.std.proofs.lemmas.List.{append-nil}
use Rattle.base_words.specs.Membership.{Has}
use Rattle.private_machine.specs.Backing.{Copy, Move, Page}
use Rattle.private_machine.specs.PageMove.{held_for, held_in, target_in}
use Rattle.course_tests.specs.Lacking.{LacksFrame}

-- a page without replicas and a move holds its master alone
alone : (g : Page) → g.replicas ≡ [] → g.move ≡ None → held_for g ≡ g.master ∷ []
alone g single rests =
    ap (λ (cs : List Copy). (g.master ∷ cs) ++ option_to_list (option_and_then target_in g.move)) single
    ∙ ap (λ (m : Option Move). (g.master ∷ []) ++ option_to_list (option_and_then target_in m)) rests

none-of : (pages : List Page) (frame : ℕ) → ((q : ℕ) → q < length pages → LacksFrame frame pages q) → (c : Copy) → Has (flat_map held_for pages) c → c.frame ≢ frame
none-of [] frame lack c has = absurd has
none-of (g ∷ pages) frame lack c has =
    let first = lack 0 (omega arith) in
    let held : flat_map held_for (g ∷ pages) ≡ g.master ∷ flat_map held_for pages = ap (λ (cs : List Copy). cs ++ flat_map held_for pages) (alone g first.single first.rests) in
    ⊎_elim
    (λ (is : g.master ≡ c) (same : c.frame ≡ frame). first.other (ap (λ (x : Copy). x.frame) is ∙ same))
    (λ (later : Has (flat_map held_for pages) c). none-of pages frame (λ q lt. let next = lack (suc q) (omega (arith, lt)) in record { other = next.other; single = next.single; rests = next.rests }) c later)
    (subst (λ (cs : List Copy). Has cs c) held has)

pub foreign : (pages : List Page) (spares : List Copy) (frame : ℕ) → spares ≡ [] → ((q : ℕ) → q < length pages → LacksFrame frame pages q) → (c : Copy) → Has (held_in pages spares) c → c.frame ≢ frame
foreign pages spares frame none lack c has =
    none-of pages frame lack c (subst (λ (cs : List Copy). Has cs c) (ap (λ (cs : List Copy). flat_map held_for pages ++ cs) none ∙ append-nil (flat_map held_for pages)) has)
