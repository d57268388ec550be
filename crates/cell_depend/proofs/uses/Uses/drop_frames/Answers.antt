-- Each cell has no frames in the end, and as many cells are counted.
use Rattle.std.proofs.Common.{◌≡◌, ℕ, ◌≤◌, List, ◌++◌, length, map, take, drop, get_or, ap, ◌∙◌, arith}
use Rattle.std.specs.Vec.{with_items}
use Rattle.std.proofs.lemmas.List.{take_all, drop_all, append-nil, get_or_default, length-map, with_items_is}
use Rattle.std.proofs.lemmas.List.Edits.{map_over_more}
use Rattle.cell_depend.specs.declared.uses.CellCount.{CellCount}
use Rattle.cell_depend.specs.Counters.{UsesState, no_use, without_frames}
use Rattle.cell_depend.proofs.uses.Uses.drop_frames.Goals as goal

-- at the loop's end
all_mapped : (f : CellCount → CellCount) (xs now : List CellCount) (i : ℕ) → length xs ≤ i → now ≡ map f (take i xs) ++ drop i xs → now ≡ map f xs
all_mapped f xs now i past is =
    is ∙ ap (λ ys. map f ys ++ drop i xs) (take_all i xs past) ∙ ap (λ ys. map f xs ++ ys) (drop_all i xs past) ∙ append-nil (map f xs)

pub loop-count-preserved : goal.loop-count-preserved
loop-count-preserved c =
    let now = c.loop-count.count-items in
    let i = c.loop-count.count-index in
    map_over_more (λ (count : CellCount). record count { frames = 0 }) c.deref_mut-count-items.result.now now i (get_or now i no_use) (omega arith) c.loop-count.invariant (get_or_default now i no_use _ (omega (arith, c.loop-count.auto.count-items)))

-- the counts at the end
left : (c : goal.After-self-1) → (with_items c.self.inside.counts c.loop-count.count-items).items ≡ map (λ (count : CellCount). record count { frames = 0 }) c.self.inside.counts.items
left c =
    let f : CellCount → CellCount = λ count. record count { frames = 0 } in
    with_items_is c.self.inside.counts c.loop-count.count-items (omega (arith, c.self.inside.counts.ok.0, ap length c.deref_mut-count-items.ensures.value))
    ∙ all_mapped f c.deref_mut-count-items.result.now c.loop-count.count-items c.loop-count.count-index c.loop-count-test.false c.loop-count.invariant
    ∙ ap (map f) c.deref_mut-count-items.ensures.value

pub returns : goal.returns
returns c = ap (λ (counts : List CellCount). let s : UsesState = record { counts = counts; dead = c.self.inside.dead } in s) (left c) ∙ ap without_frames c.self.view_is

pub invariant_of-self : goal.invariant_of-self
invariant_of-self c = omega (arith, ap length (left c), length-map c.self.inside.counts.items (λ (count : CellCount). record count { frames = 0 }), c.self.invariant)
