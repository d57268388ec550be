-- The blocks of a cell's cache lie on that cell.
use Rattle.std.proofs.Common.{◌≡◌, ℕ, zero, suc, ◌+◌, ◌*◌, ◌<◌, List, [], ◌∷◌, ◌++◌, length, map, take, get_or, Option, Some, None, refl, sym, ap, ◌∙◌, subst, arith, append-nil, append_assoc}
use Rattle.std.proofs.lemmas.List.Elements.{All-nil, All-cons}
use Rattle.std.specs.Option.{option_map_or}
use Rattle.std.specs.Prelude.{slice_get, slice_index_or}
use Rattle.base_words.specs.declared.ids.CellId.{CellId}
use Rattle.frame_words.specs.declared.terms.Terms.{Terms}
use Rattle.node_frames.specs.Layout.{Layout}
use Rattle.node_frames.specs.Left.{Left}
use Rattle.cow_disk.specs.IndexView.{Cached, Index}
use Rattle.cow_disk.specs.declared.index.CacheFrame.{CacheFrame}
use Rattle.block_caches.specs.Filling.{AreCaches, DiskSeen, Wanted, kept_in}
use Rattle.isolation_law.specs.Surroundings.{Surroundings, cell_of_frame, home_cell}
use Rattle.guest_course.specs.BootCalls.{given_blocks}
use Rattle.guest_core.specs.Blocks.{no_index, blocks_of, LiesOnCell, LieOnCell}
use Rattle.guest_core.specs.Holding.{frames_around}
use Rattle.guest_boot.specs.Booting.{home_disk, home_disks}
use Rattle.guest_boot.specs.declared.source.Source.{Source}
use Rattle.guest_boot.proofs.LotLemmas.{IsAround}

-- a frame of the machine, on this cell
record LiesIn (w : Surroundings) (cell : ℕ) (f : CacheFrame) : Type 0 where
  pub within : f.number.0 < frames_around w
  pub on_cell : cell_of_frame w f.number.0 ≡ cell

-- so do blocks that are kept in such frames
kept-lie : (w : Surroundings) (cell : ℕ) (blocks : List Wanted) (frames : List CacheFrame) → ((k : ℕ) (f : CacheFrame) → slice_get frames k ≡ Some f → LiesIn w cell f) → LieOnCell w cell (kept_in blocks frames)
kept-lie w cell [] frames lie = All-nil (LiesOnCell w cell)
kept-lie w cell (b ∷ blocks) [] lie = All-nil (LiesOnCell w cell)
kept-lie w cell (b ∷ blocks) (f ∷ frames) lie =
    let first : Cached = record { disk = b.disk; block = b.block; copy = record { frame = f.number.0; generation = f.generation; bytes = b.bytes } } in
    let here = lie 0 f refl in
    All-cons (LiesOnCell w cell) first (kept_in blocks frames) (record { within = here.within; on_cell = here.on_cell }) (kept-lie w cell blocks frames (λ k g at. lie (suc k) g at))

-- the index of a cell, or none past them
index-at : (indexes : List Index) (cell : ℕ) (P : Index → Type 0) → P no_index → ((index : Index) → slice_get indexes cell ≡ Some index → P index) → P (slice_index_or indexes cell no_index)
index-at [] cell P none some = none
index-at (i ∷ indexes) zero P none some = some i refl
index-at (i ∷ indexes) (suc cell) P none some = index-at indexes cell P none some

pub blocks-lie : (terms : Terms) (layout : Layout) (left : Left) (cache cells numbers : ℕ) (disks : List DiskSeen) (indexes : List Index) (home : ℕ) (w : Surroundings) → terms.frames ≡ layout.nodes * layout.frames → IsAround layout home w → AreCaches terms layout left cache cells numbers disks indexes → LieOnCell w (home_cell w) (blocks_of indexes (home_cell w))
blocks-lie terms layout left cache cells numbers disks indexes home w words around are =
    let cell = home_cell w in
    index-at indexes cell (λ (index : Index). LieOnCell w cell index.entries) (All-nil (LiesOnCell w cell)) (λ index at.
    let is = are.each cell index at in
    subst (λ (entries : List Cached). LieOnCell w cell entries) (sym is.entries) (kept-lie w cell _ index.frames (λ k f there.
    let lies = is.frames k f there in record {
      within = subst (λ (n : ℕ). f.number.0 < n) (words ∙ sym around.frames) lies.within;
      on_cell = around.cells f.number.0 ∙ lies.inside;
    })))

-- ---- the disks of the guests

-- those of the first guests
abbrev pub first_disks : ℕ → List CellId → List Source → List DiskSeen
first_disks n homes sources = home_disks (map (λ (c : CellId). c.0) (take n homes)) (take n sources)

-- one guest more
disks-more : (homes : List CellId) (sources : List Source) (n : ℕ) (home : CellId) (source : Source) → n < length homes → n < length sources → first_disks (n + 1) homes sources ≡ first_disks n homes sources ++ home_disk (get_or homes n home).0 (get_or sources n source)
disks-more [] sources n home source few many = absurd (let m : n < 0 = few in omega arith)
disks-more (h ∷ homes) [] n home source few many = absurd (let m : n < 0 = many in omega arith)
disks-more (h ∷ homes) (s ∷ sources) zero home source few many = append-nil (home_disk h.0 s)
disks-more (h ∷ homes) (s ∷ sources) (suc n) home source few many =
    ap (λ (k : ℕ). first_disks k (h ∷ homes) (s ∷ sources)) (let e : suc n + 1 ≡ suc (n + 1) = omega arith in e)
    ∙ ap (λ (l : List DiskSeen). home_disk h.0 s ++ l) (disks-more homes sources n home source (omega arith) (omega arith))
    ∙ sym (append_assoc (home_disk h.0 s) (first_disks n homes sources) (home_disk (get_or homes n home).0 (get_or sources n source)))

-- which has a disk, or has none
pub disk-more : (homes : List CellId) (sources : List Source) (n : ℕ) (home : CellId) (source : Source) (number : ℕ) → n < length homes → n < length sources → source ≡ get_or sources n source → source.number ≡ Some number
    → first_disks (n + 1) homes sources ≡ first_disks n homes sources ++ record { cell = (get_or homes n home).0; number = number; blocks = given_blocks source.disk } ∷ []
disk-more homes sources n home source number few many is has =
    let first = first_disks n homes sources in
    let cell = (get_or homes n home).0 in
    disks-more homes sources n home source few many ∙ ap (λ (s : Source). first ++ home_disk cell s) (sym is)
    ∙ ap (λ (o : Option ℕ). first ++ option_map_or (λ (k : ℕ). record { cell = cell; number = k; blocks = given_blocks source.disk } ∷ []) o []) has

pub no-disk-more : (homes : List CellId) (sources : List Source) (n : ℕ) (source : Source) → n < length homes → n < length sources → source ≡ get_or sources n source → source.number ≡ None → first_disks (n + 1) homes sources ≡ first_disks n homes sources
no-disk-more homes sources n source few many is none =
    let first = first_disks n homes sources in
    let cell = (get_or homes n (record { 0 = 0 })).0 in
    disks-more homes sources n (record { 0 = 0 }) source few many ∙ ap (λ (s : Source). first ++ home_disk cell s) (sym is)
    ∙ ap (λ (o : Option ℕ). first ++ option_map_or (λ (k : ℕ). record { cell = cell; number = k; blocks = given_blocks source.disk } ∷ []) o []) none ∙ append-nil first

take-all : {A : Type 0} (xs : List A) (n : ℕ) → length xs ≡ n → take n xs ≡ xs
take-all [] zero e = refl
take-all [] (suc n) e = refl
take-all (x ∷ xs) zero e = absurd (let m : suc (length xs) ≡ 0 = e in omega arith)
take-all (x ∷ xs) (suc n) e = ap (λ l. x ∷ l) (take-all xs n (omega arith))

-- all guests
pub disks-all : (homes : List CellId) (sources : List Source) (n : ℕ) → length homes ≡ n → length sources ≡ n → first_disks n homes sources ≡ home_disks (map (λ (c : CellId). c.0) homes) sources
disks-all homes sources n e f = λ i. home_disks (map (λ (c : CellId). c.0) (take-all homes n e i)) (take-all sources n f i)
