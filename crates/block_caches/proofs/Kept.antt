-- Blocks that are kept in an index, one after another.
use Rattle.std.proofs.Common.{◌≡◌, ℕ, suc, ◌+◌, ◌≤◌, List, [], ◌∷◌, ◌++◌, drop, length, Some, refl, sym, ap, ◌∙◌, arith, append_assoc, length-append}
use Rattle.std.specs.Prelude.{slice_get}
use Rattle.std.proofs.lemmas.List.{append-nil, drop-drop, drop_more, drop_all}
use Rattle.std.proofs.lemmas.Option.{slice_get_within, get_or_from_slice_get}
use Rattle.base_words.specs.declared.frame.SharedFrame.{SharedFrame}
use Rattle.cow_disk.specs.IndexView.{Cached, Index}
use Rattle.cow_disk.specs.IndexCalls.{KeepsNext, IsFull}
use Rattle.cow_disk.specs.declared.index.CacheFrame.{CacheFrame}
use Rattle.block_caches.specs.Filling.{DiskSeen, Wanted, disk_at, kept_in, kept_with, numbered, wanted}

-- where no frame is left, no block is kept
kept_in-no_frames : (blocks : List Wanted) → kept_in blocks [] ≡ []
kept_in-no_frames [] = refl
kept_in-no_frames (w ∷ blocks) = refl

-- further blocks are kept in the frames that are left
kept_in-append : (blocks more : List Wanted) (frames : List CacheFrame) → kept_in (blocks ++ more) frames ≡ kept_in blocks frames ++ kept_in more (drop (length (kept_in blocks frames)) frames)
kept_in-append [] more frames = refl
kept_in-append (w ∷ blocks) more [] = sym (kept_in-no_frames more)
kept_in-append (w ∷ blocks) more (f ∷ frames) =
    ap (λ (l : List Cached). record { disk = w.disk; block = w.block; copy = record { frame = f.number.0; generation = f.generation; bytes = w.bytes } } ∷ l) (kept_in-append blocks more frames)

pub kept_with-append : (blocks more : List Wanted) (index : Index) → kept_with (blocks ++ more) index ≡ kept_with more (kept_with blocks index)
kept_with-append blocks more index =
    let count = length index.entries in
    let kept = kept_in blocks (drop count index.frames) in
    ap (λ (l : List Cached). record index { entries = l })
    (ap (λ (l : List Cached). index.entries ++ l) (kept_in-append blocks more (drop count index.frames))
    ∙ sym (append_assoc index.entries kept _)
    ∙ ap (λ (l : List CacheFrame). (index.entries ++ kept) ++ kept_in more l) (drop-drop (length kept) count index.frames)
    ∙ ap (λ n. (index.entries ++ kept) ++ kept_in more (drop n index.frames)) (sym (length-append index.entries kept)))

pub kept_with-nothing : (index : Index) → kept_with [] index ≡ index
kept_with-nothing index = ap (λ (l : List Cached). record index { entries = l }) (append-nil index.entries)

-- an index whose frames are used up keeps nothing more
pub kept_with-full : (blocks : List Wanted) (index new : Index) (count : ℕ) → IsFull index count new → kept_with blocks index ≡ new
kept_with-full blocks index new count full =
    let used : length index.frames ≤ length index.entries = omega (arith, full.entries, full.frames) in
    ap (λ (l : List CacheFrame). record index { entries = index.entries ++ kept_in blocks l }) (drop_all (length index.entries) index.frames used)
    ∙ ap (λ (l : List Cached). record index { entries = index.entries ++ l }) (kept_in-no_frames blocks)
    ∙ kept_with-nothing index
    ∙ sym full.same

drop-next : (frames : List CacheFrame) (place : ℕ) (f : CacheFrame) → slice_get frames place ≡ Some f → drop place frames ≡ f ∷ drop (place + 1) frames
drop-next frames place f at =
    drop_more frames place f (slice_get_within frames place f at) ∙ ap (λ (g : CacheFrame). g ∷ drop (place + 1) frames) (get_or_from_slice_get frames place f f at)

-- one block more lies in the next frame
pub kept_with-next : (index new : Index) (disk block : ℕ) (bytes : List ℕ) (frame : SharedFrame) → KeepsNext index disk block bytes frame new → kept_with (record { disk = disk; block = block; bytes = bytes } ∷ []) index ≡ new
kept_with-next index new disk block bytes frame next =
    ap (λ (l : List CacheFrame). record index { entries = index.entries ++ kept_in (record { disk = disk; block = block; bytes = bytes } ∷ []) l }) (drop-next index.frames (length index.entries) next.place next.next)
    ∙ ap (λ copy. record index { entries = index.entries ++ record { disk = disk; block = block; copy = copy } ∷ [] }) (sym next.is_it)
    ∙ sym next.after

-- what a cell wants of the next disk is kept, too
pub kept_with-wanted : (cell number : ℕ) (disks : List DiskSeen) (blocks : List (List ℕ)) (first index new : Index) → index ≡ kept_with (wanted cell number disks) first → blocks ≡ disk_at cell number disks → new ≡ kept_with (numbered number 0 blocks) index → new ≡ kept_with (wanted cell (number + 1) disks) first
kept_with-wanted cell number disks blocks first index new so_far own next =
    let more : suc number ≡ number + 1 = omega arith in
    next
    ∙ ap (kept_with (numbered number 0 blocks)) so_far
    ∙ ap (λ (l : List (List ℕ)). kept_with (numbered number 0 l) (kept_with (wanted cell number disks) first)) own
    ∙ sym (kept_with-append (wanted cell number disks) (numbered number 0 (disk_at cell number disks)) first)
    ∙ ap (λ n. kept_with (wanted cell n disks) first) more
