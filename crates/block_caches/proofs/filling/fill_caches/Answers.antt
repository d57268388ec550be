use Rattle.std.proofs.Common.{rules, ◌≡◌, ℕ, ◌+◌, ◌<◌, ◌++◌, ◌∷◌, [], ◌∙◌, sym, ap, subst, arith, length, List, append_assoc}
use Rattle.std.specs.Vec.Iter.{into_iter_items}
use Rattle.std.proofs.lemmas.List.{append-nil, drop_all, map-append}
use Rattle.frame_words.specs.Holders.{Holding, MadeTable}
use Rattle.node_frames.specs.Layout.{Layout}
use Rattle.node_frames.specs.Left.{Left}
use Rattle.cow_disk.specs.IndexView.{Index}
use Rattle.boot_frames.specs.Claims.{cache_claims}
use Rattle.boot_frames.specs.Lots.{ServesAll}
use Rattle.boot_frames.specs.declared.lots.Lot.{Lot}
use Rattle.block_caches.specs.Filling.{AreCaches, disks_seen}
use Rattle.block_caches.specs.Holding.{AreHeld}
use Rattle.block_caches.proofs.Cells.{AreCellLots, are-caches, are-held, holders_of, index_for, indexes_for, indexes_for-push, length-indexes_for}
use Rattle.block_caches.proofs.filling.fill_caches.Goals as goal

pub loop-lot-preserved : goal.loop-lot-preserved
loop-lot-preserved c =
    let i = c.loop-lot.invariant in
    let numbers = c.args.numbers in
    let disks = disks_seen c.args.disks.now in
    let so_far = c.loop-lot.yielded in
    let lot = c.in-Some.lot in
    let index = c.in_ok-index_of.field-0 in
    let indexes : c.push.new.self.items ≡ c.loop-lot.indexes.items ++ index ∷ [] = search rules in
    let holders : c.push-in-loop-lot.new.self.items ≡ c.loop-lot.holders.items ++ lot.holder ∷ [] = search rules in
    let number : c.len.result ≡ length c.loop-lot.indexes.items = search rules in
    let count : c.len.result ≡ 0 + length so_far = number ∙ ap (λ (l : List Index). length l) i.2 ∙ length-indexes_for numbers disks 0 so_far ∙ omega arith in
    let own : index ≡ index_for numbers disks c.len.result lot = c.in_ok-index_of.ensures in (
      tt,
      tt,
      indexes
          ∙ ap (λ (l : List Index). l ++ index ∷ []) i.2
          ∙ ap (λ (x : Index). indexes_for numbers disks 0 so_far ++ x ∷ []) (own ∙ ap (λ n. index_for numbers disks n lot) count)
          ∙ sym (indexes_for-push numbers disks 0 so_far lot),
      holders ∙ ap (λ (l : List Holding). l ++ lot.holder ∷ []) i.3 ∙ sym (map-append (λ (l : Lot). l.holder) so_far (lot ∷ [])),
      append_assoc so_far (lot ∷ []) _ ∙ ap (λ (l : List Lot). so_far ++ l) (sym c.in-Some.ensures.steps.0) ∙ i.4,
    )

-- at the end all lots have come
pub returns : goal.returns
returns c =
    let i = c.loop-lot.invariant in
    let numbers = c.args.numbers in
    let disks = disks_seen c.args.disks.now in
    let lots = c.args.lots.items in
    let left_over = into_iter_items c.loop-lot.lot-iterator in
    let ended : left_over ≡ [] = drop_all 0 left_over (let none : length left_over ≡ 0 = sym c.loop-lot.lot-iterator.rest.ok.0 ∙ c.in-None.ensures.steps.0 in omega (arith, none)) in
    let all : c.loop-lot.yielded ≡ lots = sym (append-nil c.loop-lot.yielded) ∙ ap (λ (l : List Lot). c.loop-lot.yielded ++ l) (sym ended) ∙ i.4 in
    let indexes = i.2 ∙ ap (λ (l : List Lot). indexes_for numbers disks 0 l) all in
    let holders = i.3 ∙ ap (λ (l : List Lot). holders_of l) all in
    let each : (table : MadeTable) (layout : Layout) (left : Left) (cache cells : ℕ) → 0 < layout.frames → ServesAll table layout left (cache_claims cache 0 cells) lots → AreCellLots table layout left cache lots =
    λ table layout left cache cells some served cell lot at.
    let serves = c.each_cell_has_its_lot.ensures.each table layout left cache cells lots served cell lot at in
    record {
      serves = serves;
      frames = c.a_lot_holds_its_frames.ensures.frames table layout _ _ lot serves;
      loans = c.a_lot_holds_its_frames.ensures.loans table layout _ _ lot serves;
      inside = c.a_cache_lies_in_its_cell.ensures.inside table layout _ cache cell lot some serves;
    } in
    record {
      caches = λ table layout left cache cells few some served.
          subst (AreCaches table.terms layout left cache cells numbers disks) (sym indexes)
          (are-caches table layout left cache cells numbers disks lots few (c.each_cell_has_its_lot.ensures.all table layout left cache cells lots served) (each table layout left cache cells some served));
      held = λ table layout left cache cells few some served.
          subst (λ (l : List Index). AreHeld table l c.loop-lot.holders.items) (sym indexes)
          (subst (AreHeld table (indexes_for numbers disks 0 lots)) (sym holders)
          (are-held table layout left cache numbers disks lots (each table layout left cache cells some served)));
    }
