use Rattle.std.proofs.Common.{List, [], ◌∷◌, sym, ap, ◌∙◌, arith, take}
use Rattle.std.proofs.lemmas.Option.{slice_get_within}
use Rattle.cow_disk.specs.IndexView.{Index, found}
use Rattle.cow_disk.specs.IndexCalls.{KeepsNext, IsKnown, IsFull}
use Rattle.block_caches.specs.Filling.{Wanted, blocks_in, kept_with, numbered}
use Rattle.block_caches.proofs.Kept.{kept_with-append, kept_with-full, kept_with-next}
use Rattle.block_caches.proofs.Lower.{found-next}
use Rattle.block_caches.proofs.Numbered.{bytes-at, numbered-next, numbered-rest}
use Rattle.block_caches.proofs.filling.keep_disk.Goals as goal

-- each block is new to the index
pub unreachable-requires-in-Known : goal.unreachable-requires-in-Known
unreachable-requires-in-Known c =
    let block = c.loop-block.block in
    let blocks = blocks_in c.args.disk.now in
    let within = slice_get_within blocks block c.in-Some.page.now (bytes-at c.args.disk.now block c.in-Some.page.now c.in-Some.ensures) in
    let known : IsKnown c.loop-block.index c.args.number block c.keep.new.self = rw c.in-Known.is at c.in_ok-keep.ensures in
    known.known
    (ap (λ (i : Index). found i.entries c.args.number block) c.loop-block.invariant
    ∙ found-next c.args.index.now c.args.number block blocks (omega (arith, within)) c.requires.new)

-- the frames are used up, and further blocks change nothing
pub returns-in-CacheFull : goal.returns-in-CacheFull
returns-in-CacheFull c =
    let number = c.args.number in
    let old = c.args.index.now in
    let blocks = blocks_in c.args.disk.now in
    let front = numbered number 0 (take c.loop-block.block blocks) in
    let full : IsFull c.loop-block.index c.in-CacheFull.field-0 c.keep.new.self = rw c.in-CacheFull.is at c.in_ok-keep.ensures in
    sym
    (ap (λ (l : List Wanted). kept_with l old) (numbered-rest number c.loop-block.block blocks)
    ∙ kept_with-append front _ old
    ∙ ap (kept_with _) (sym c.loop-block.invariant)
    ∙ kept_with-full _ c.loop-block.index c.keep.new.self c.in-CacheFull.field-0 full)

pub loop-block-preserved : goal.loop-block-preserved
loop-block-preserved c =
    let number = c.args.number in
    let old = c.args.index.now in
    let block = c.loop-block.block in
    let bytes = c.in-Some.page.now in
    let blocks = blocks_in c.args.disk.now in
    let front = numbered number 0 (take block blocks) in
    let here : List Wanted = record { disk = number; block = block; bytes = bytes } ∷ [] in
    let next : KeepsNext c.loop-block.index number block bytes c.in-Kept.field-0 c.keep.new.self = rw c.in-Kept.is at c.in_ok-keep.ensures in
    sym
    (ap (λ (l : List Wanted). kept_with l old) (numbered-next number block blocks bytes (bytes-at c.args.disk.now block bytes c.in-Some.ensures))
    ∙ kept_with-append front here old
    ∙ ap (kept_with here) (sym c.loop-block.invariant)
    ∙ kept_with-next c.loop-block.index c.keep.new.self number block bytes c.in-Kept.field-0 next)
