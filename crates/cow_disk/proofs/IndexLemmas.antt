-- Entries of an index one after another, and frames that are given back.
use Rattle.std.proofs.Common.{is_some, ◌≡◌, ◌≢◌, ℕ, zero, suc, ◌+◌, ◌<◌, ◌==◌, ◌&&◌, if◌then◌else◌, Bool, true, false, cond, List, [], ◌∷◌, ◌++◌, map, drop, length, get_or, refl, sym, ap, ◌∙◌, subst, arith, length-append, Option, Some, None, eq-eqb, inl, inr, ◌⊎◌}
use Rattle.std.specs.Prelude.{slice_get, take, count_by}
use Rattle.std.specs.Borrow.{Bor}
use Rattle.std.proofs.lemmas.Bool.Decides.{eqb_tells}
use Rattle.std.proofs.lemmas.List.{map-append}
use Rattle.std.proofs.lemmas.List.Sums.{sum_by-cons}
use Rattle.std.specs.Option.{option_map, option_copied}
use Rattle.std.specs.Map.{lookup}
use Rattle.base_words.specs.declared.frame.SharedFrame.{SharedFrame}
use Rattle.frame_words.specs.FrameWords.{frame_word, cell_word}
use Rattle.frame_words.specs.Views.{frame_holds, cell_loans, times, without}
use Rattle.frame_words.specs.Taking.{GivesUp}
use Rattle.frame_words.specs.declared.view.StepKind.{StepKind}
use Rattle.frame_words.specs.declared.view.View.{View}
use Rattle.frame_words.proofs.Bags.{without_here, without_else}
use Rattle.cow_disk.specs.IndexView.{copy_in, found}
use Rattle.cow_disk.specs.IndexParts.{cached_of, place_used}
use Rattle.cow_disk.specs.Giving.{is_number, HoldsFrames}
use Rattle.cow_disk.specs.declared.index.BlockId.{BlockId}
use Rattle.cow_disk.specs.declared.index.CacheFrame.{CacheFrame}

pub drop-more : {A : Type 0} (xs : List A) (n : ℕ) (d : A) → n < length xs → drop n xs ≡ get_or xs n d ∷ drop (n + 1) xs
drop-more [] n d l = absurd (let m : n < 0 = l in omega arith)
drop-more (x ∷ xs) zero d l = refl
drop-more (x ∷ xs) (suc n) d l = subst (λ k. drop n xs ≡ get_or xs n d ∷ drop k (x ∷ xs)) (let e : suc (n + 1) ≡ suc n + 1 = omega arith in e) (drop-more xs n d (omega arith))

-- ---- frames that are given back

-- how often a frame is held of which the first is this one
first-of : (v : View) (f : CacheFrame) (frames : List CacheFrame) → HoldsFrames v (f ∷ frames) → (frame : ℕ) → frame_holds v frame ≡ (if f.number.0 == frame then suc 0 else 0) + count_by (is_number frame) frames
first-of v f frames held frame = held.holds frame ∙ sum_by-cons _ f frames

-- the first of the frames is held
pub held-first : (v : View) (f : CacheFrame) (frames : List CacheFrame) → HoldsFrames v (f ∷ frames) → 0 < frame_holds v f.number.0
held-first v f frames held =
    let all = first-of v f frames held f.number.0 in
    let one = ap (λ (b : Bool). if b then suc 0 else 0) (eq-eqb f.number.0 f.number.0 refl) in
    omega (arith, all, one)

-- a frame that is given back is held once less, and all else as before
pub given-one : (v w : View) (kind : StepKind) (f : CacheFrame) (frames : List CacheFrame) → HoldsFrames v (f ∷ frames) → GivesUp v kind (frame_word f.number.0) w → HoldsFrames w frames
given-one v w kind f frames held gives = record {
  holds = λ frame. ap (λ (x : View). frame_holds x frame) gives.after ∙ by frame (eqb_tells f.number.0 frame);
  no_loans = λ cell lt. ap (λ (x : View). cell_loans x cell) gives.after ∙ without_else (frame_word f.number.0) (cell_word cell) v.holds (λ e. absurd (omega (arith, e, lt))) ∙ held.no_loans cell lt;
}
  where
    by : (frame : ℕ) → (((f.number.0 == frame) ≡ true) × (f.number.0 ≡ frame)) ⊎ (((f.number.0 == frame) ≡ false) × (f.number.0 ≢ frame)) → times (frame_word frame) (without (frame_word f.number.0) v.holds) ≡ count_by (is_number frame) frames
    by frame (inl same) =
        let less = without_here (frame_word f.number.0) v.holds (held-first v f frames held) in
        let all = first-of v f frames held f.number.0 in
        let one = ap (λ (b : Bool). if b then suc 0 else 0) (eq-eqb f.number.0 f.number.0 refl) in
        subst (λ (k : ℕ). times (frame_word k) (without (frame_word f.number.0) v.holds) ≡ count_by (is_number k) frames) same.1 (omega (arith, less, all, one))
    by frame (inr other) =
        let all = first-of v f frames held frame in
        let one = ap (λ (b : Bool). if b then suc 0 else 0) other.0 in
        let same = without_else (frame_word f.number.0) (frame_word frame) v.holds (λ e. other.1 (omega (arith, e))) in
        omega (arith, all, one, same)

-- ---- one entry more

take-one : (n : ℕ) (ys : List CacheFrame) (y : CacheFrame) → slice_get ys n ≡ Some y → take n ys ++ y ∷ [] ≡ take (n + 1) ys
take-one n [] y e = absurd cc
take-one zero (z ∷ ys) y e = let same : z ≡ y = cc in ap (λ (x : CacheFrame). x ∷ []) (sym same)
take-one (suc n) (z ∷ ys) y e = ap (λ (l : List CacheFrame). z ∷ l) (take-one n ys y e) ∙ ap (λ (k : ℕ). take k (z ∷ ys)) (let m : suc (n + 1) ≡ suc n + 1 = omega arith in m)

pub fills-one : (entries : List (BlockId × SharedFrame)) (frames : List CacheFrame) (e : BlockId × SharedFrame) → map place_used entries ≡ take (length entries) frames → slice_get frames (length entries) ≡ Some (place_used e) → map place_used (entries ++ e ∷ []) ≡ take (length (entries ++ e ∷ [])) frames
fills-one entries frames e filled next =
    map-append place_used entries (e ∷ [])
    ∙ ap (λ (l : List CacheFrame). l ++ place_used e ∷ []) filled
    ∙ take-one (length entries) frames (place_used e) next
    ∙ ap (λ (k : ℕ). take k frames) (sym (length-append entries (e ∷ [])))

-- ---- what is found

-- what the map has for a block is what is found among its entries
pub looked-up : (test : BlockId → Bool) (disk block : ℕ) → ((id : BlockId) → test id ≡ ((disk == id.disk) && (block == id.block))) → (entries : List (BlockId × SharedFrame)) → option_map copy_in (lookup test entries) ≡ found (map cached_of entries) disk block
looked-up test disk block same [] = refl
looked-up test disk block same (e ∷ entries) = ap (λ (b : Bool). option_map copy_in (cond b (Some e.1) (lookup test entries))) (same e.0) ∙ by ((disk == e.0.disk) && (block == e.0.block)) (looked-up test disk block same entries)
  where
    by : (b : Bool) → option_map copy_in (lookup test entries) ≡ found (map cached_of entries) disk block → option_map copy_in (cond b (Some e.1) (lookup test entries)) ≡ (if b then Some (copy_in e.1) else found (map cached_of entries) disk block)
    by true rest = refl
    by false rest = rest

-- a lent frame as it is seen
pub lent : (o : Option (Bor SharedFrame)) → option_map (λ (f : Bor SharedFrame). copy_in f.now) o ≡ option_map copy_in (option_copied o)
lent None = refl
lent (Some f) = refl

-- whether the map has an entry is whether one is found
pub known-as : (test : BlockId → Bool) (disk block : ℕ) → ((id : BlockId) → test id ≡ ((disk == id.disk) && (block == id.block))) → (entries : List (BlockId × SharedFrame)) → is_some (lookup test entries) ≡ is_some (found (map cached_of entries) disk block)
known-as test disk block same entries = seen (lookup test entries) ∙ ap is_some (looked-up test disk block same entries)
  where
    seen : (o : Option SharedFrame) → is_some o ≡ is_some (option_map copy_in o)
    seen None = refl
    seen (Some f) = refl

-- where none is found the map has none
pub absent-as : (test : BlockId → Bool) (disk block : ℕ) → ((id : BlockId) → test id ≡ ((disk == id.disk) && (block == id.block))) → (entries : List (BlockId × SharedFrame)) → found (map cached_of entries) disk block ≡ None → lookup test entries ≡ None
absent-as test disk block same entries none = by (lookup test entries) (looked-up test disk block same entries ∙ none)
  where
    by : (o : Option SharedFrame) → option_map copy_in o ≡ None → o ≡ None
    by None e = refl
    by (Some f) e = absurd cc
