-- Which blocks an index has no entry for: those of a higher disk, and higher ones of the same disk.
use Rattle.std.proofs.Common.{◌≡◌, ℕ, zero, suc, ◌+◌, ◌<◌, ◌≤◌, ◌==◌, ◌&&◌, if◌then◌else◌, Bool, false, List, [], ◌∷◌, ◌++◌, drop, take, length, Some, None, refl, sym, ap, ◌∙◌, subst, arith, ne_eqb}
use Rattle.std.specs.Prelude.{All}
use Rattle.std.proofs.Math.Bool.{and-false}
use Rattle.std.proofs.lemmas.List.{length-take-le}
use Rattle.std.proofs.lemmas.List.Elements.{All-nil, All-cons, All-head, All-tail, All-append, All-weaker}
use Rattle.cow_disk.specs.IndexView.{Cached, Index, found}
use Rattle.cow_disk.specs.declared.index.CacheFrame.{CacheFrame}
use Rattle.block_caches.specs.Filling.{DiskSeen, Wanted, disk_at, kept_in, kept_with, numbered, wanted}
use Rattle.block_caches.proofs.Numbered.{IsBelow, All-numbered}

-- what holds of the numbers of all blocks holds of those of their entries
pub All-kept_in : (P : ℕ → ℕ → Type 0) (blocks : List Wanted) (frames : List CacheFrame) → All (λ (w : Wanted). P w.disk w.block) blocks → All (λ (e : Cached). P e.disk e.block) (kept_in blocks frames)
All-kept_in P [] frames all = All-nil (λ (e : Cached). P e.disk e.block)
All-kept_in P (w ∷ blocks) [] all = All-nil (λ (e : Cached). P e.disk e.block)
All-kept_in P (w ∷ blocks) (f ∷ frames) all =
    let Q = λ (w : Wanted). P w.disk w.block in
    All-cons (λ (e : Cached). P e.disk e.block) _ (kept_in blocks frames) (All-head Q w blocks all) (All-kept_in P blocks frames (All-tail Q w blocks all))

-- all blocks that a cell wants of the disks below a number are of those
pub All-wanted : (cell numbers : ℕ) (disks : List DiskSeen) → All (λ (w : Wanted). w.disk < numbers) (wanted cell numbers disks)
All-wanted cell zero disks = All-nil (λ (w : Wanted). w.disk < zero)
All-wanted cell (suc numbers) disks =
    let blocks = disk_at cell numbers disks in
    let Q = λ (w : Wanted). w.disk < suc numbers in
    All-append Q (wanted cell numbers disks) (numbered numbers 0 blocks)
    (All-weaker (λ (w : Wanted). w.disk < numbers) Q (λ w h. omega arith) (wanted cell numbers disks) (All-wanted cell numbers disks))
    (All-weaker (IsBelow numbers (0 + length blocks)) Q (λ w h. omega (arith, h.0)) (numbered numbers 0 blocks) (All-numbered numbers 0 blocks))

-- where nothing else is kept, so are all entries
pub All-lower : (cell numbers : ℕ) (disks : List DiskSeen) (frames : List CacheFrame) (index : Index) → index ≡ kept_with (wanted cell numbers disks) (record { entries = []; frames = frames }) → All (λ (e : Cached). e.disk < numbers) index.entries
All-lower cell numbers disks frames index kept =
    subst (λ (i : Index). All (λ (e : Cached). e.disk < numbers) i.entries) (sym kept)
    (All-kept_in (λ disk block. disk < numbers) (wanted cell numbers disks) frames (All-wanted cell numbers disks))

-- ---- what is not found

-- the block of these numbers is not that of those
abbrev IsOther : ℕ → ℕ → ℕ → ℕ → Type 0
IsOther disk block d b = ((disk == d) && (block == b)) ≡ false

other-disk : (disk block d b : ℕ) → d < disk → IsOther disk block d b
other-disk disk block d b lower = ap (λ t. t && (block == b)) (ne_eqb disk d (λ e. omega (arith, e)))

other-block : (disk block d b : ℕ) → b < block → IsOther disk block d b
other-block disk block d b lower = ap (λ t. (disk == d) && t) (ne_eqb block b (λ e. omega (arith, e))) ∙ and-false (disk == d)

found-none : (entries : List Cached) (disk block : ℕ) → All (λ (e : Cached). IsOther disk block e.disk e.block) entries → found entries disk block ≡ None
found-none [] disk block all = refl
found-none (e ∷ entries) disk block all =
    let P = λ (e : Cached). IsOther disk block e.disk e.block in
    ap (λ (t : Bool). if t then Some e.copy else found entries disk block) (All-head P e entries all) ∙ found-none entries disk block (All-tail P e entries all)

-- where lower disks and the lower blocks of this one are kept, there is no entry for the next block
pub found-next : (index : Index) (disk block : ℕ) (blocks : List (List ℕ)) → block ≤ length blocks → All (λ (e : Cached). e.disk < disk) index.entries → found (kept_with (numbered disk 0 (take block blocks)) index).entries disk block ≡ None
found-next index disk block blocks within lower =
    let front = take block blocks in
    let count : length front ≡ block = length-take-le block blocks within in
    let frames = drop (length index.entries) index.frames in
    let P = λ (e : Cached). IsOther disk block e.disk e.block in
    let Q = λ (w : Wanted). IsOther disk block w.disk w.block in
    found-none (index.entries ++ kept_in (numbered disk 0 front) frames) disk block
    (All-append P index.entries (kept_in (numbered disk 0 front) frames)
    (All-weaker (λ (e : Cached). e.disk < disk) P (λ e h. other-disk disk block e.disk e.block h) index.entries lower)
    (All-kept_in (IsOther disk block) (numbered disk 0 front) frames
    (All-weaker (IsBelow disk (0 + length front)) Q (λ w h. other-block disk block w.disk w.block (omega (arith, h.1, count))) (numbered disk 0 front) (All-numbered disk 0 front))))
