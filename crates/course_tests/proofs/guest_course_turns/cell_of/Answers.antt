-- The cell of the node of the processor.
use Rattle.std.proofs.Common.{◌≡◌, ℕ, zero, suc, ◌+◌, ◌<◌, List, [], ◌∷◌, length, get_or, sym, ap, ◌∙◌, subst, arith, map, refl}
use Rattle.std.proofs.lemmas.List.{length-map}
use Rattle.base_words.specs.declared.ids.CellId.{CellId}
use Rattle.isolation_law.specs.Surroundings.{Surroundings, cell_of_node}
use Rattle.guest_course.specs.declared.place.Place.{Place}
use Rattle.guest_course.specs.CourseRules.{AllStand, StandsAt}
use Rattle.guest_course.specs.CourseView.{surroundings}
use Rattle.course_tests.proofs.guest_course_turns.cell_of.Goals as goal

-- the cell of a node, as a number
cell-at : (cells : List CellId) (n : ℕ) → (get_or cells n (record { 0 = 0 })).0 ≡ get_or (map (λ (c : CellId). c.0) cells) n 0
cell-at [] n = refl
cell-at (c ∷ cells) zero = refl
cell-at (c ∷ cells) (suc n) = cell-at cells n

-- each of these processors, counted from o, stands where it was told
stands-at : (w : Surroundings) (o p : ℕ) (places : List Place) (d : Place) → p < length places → AllStand w o places → StandsAt w (o + p) (get_or places p d)
stands-at w o p [] d lt all = absurd (omega arith)
stands-at w o zero (x ∷ places) d lt all = subst (λ (n : ℕ). StandsAt w n x) (let e : o ≡ o + 0 = omega arith in e) all.0
stands-at w o (suc p) (x ∷ places) d lt all = subst (λ (n : ℕ). StandsAt w n (get_or places p d)) (let e : suc o + p ≡ o + suc p = omega arith in e) (stands-at w (suc o) p places d (omega arith) all.1)

-- this one
stands : (w : Surroundings) (p : ℕ) (places : List Place) (place : Place) → p < length places → AllStand w 0 places → place ≡ get_or places p place → StandsAt w p place
stands w p places place lt all is =
    subst (λ (x : Place). StandsAt w p x) (sym is) (subst (λ (n : ℕ). StandsAt w n (get_or places p place)) (let e : 0 + p ≡ p = omega arith in e) (stands-at w 0 p places place lt all))

pub bounds-as_slice-node : goal.bounds-as_slice-node
bounds-as_slice-node c =
    let around = c.args.course.now.around in
    let at = stands (surroundings around) c.args.processor.0 c.args.course.now.places.items c.index.result.now c.requires.is_processor c.requires.places c.index.ensures in
    let long = length-map around.site.shape.cells (λ (x : CellId). x.0) in
    omega (arith, at.is_node, long, ap length c.as_slice.ensures)

pub returns : goal.returns
returns c =
    let around = c.args.course.now.around in
    let at = stands (surroundings around) c.args.processor.0 c.args.course.now.places.items c.index.result.now c.requires.is_processor c.requires.places c.index.ensures in
    let node = c.index.result.now.node.0 in
    ap (λ (l : List CellId). (get_or l node (record { 0 = 0 })).0) c.as_slice.ensures ∙ cell-at around.site.shape.cells node ∙ ap (cell_of_node (surroundings around)) at.node
