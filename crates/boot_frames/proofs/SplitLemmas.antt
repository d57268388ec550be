-- A claim's holds go from the first holder to one of its own.
use Rattle.std.proofs.Common.{◌≡◌, ℕ, zero, suc, ◌+◌, ◌<◌, ◌≤◌, ◌==◌, List, [], ◌∷◌, ◌++◌, length, refl, ap, arith, eq-eqb}
use Rattle.std.specs.Prelude.{All, slice_index, slice_index_or}
use Rattle.std.specs.List.{AllZip}
use Rattle.std.proofs.lemmas.List.Elements.{All-head, All-tail}
use Rattle.std.proofs.lemmas.List.FromFn.{get_or-map-range_with_len}
use Rattle.base_words.specs.declared.frame.Frame.{Frame}
use Rattle.node_frames.specs.Layout.{Layout}
use Rattle.frame_words.specs.Splits.{frame_times, HasNamed, KeepsUnnamed}
use Rattle.frame_words.specs.declared.view.View.{View}
use Rattle.boot_frames.specs.Loans.{loans_in, loans_of}
use Rattle.boot_frames.specs.Lots.{Has}
use Rattle.boot_frames.specs.Givings.{times_taken, HasAll}
use Rattle.boot_frames.specs.declared.taken.Taken.{Taken}
use Rattle.boot_frames.proofs.GainLemmas.{one_of}

abbrev pub loans_for : Layout → Taken → List ℕ
loans_for layout t = loans_of layout t.home.0 t.frames

pub loans_each : (layout : Layout) (home : ℕ) (frames : List Frame) (cell : ℕ) → cell < 8 → slice_index (loans_of layout home frames) cell ≡ loans_in layout home frames cell
loans_each layout home frames cell low = get_or-map-range_with_len (loans_in layout home frames) 0 8 cell cell 0 low (omega arith)

-- the first of these holds can be split off
pub has_named : (layout : Layout) (v : View) (t : Taken) (ts : List Taken) → HasAll layout v (t ∷ ts) → HasNamed v t.frames (loans_for layout t)
has_named layout v t ts h = record {
  holds = λ frame. let e = h.frames frame in omega arith;
  lent = λ cell low. let l = loans_each layout t.home.0 t.frames cell low in let e = h.loans cell low in omega arith;
  under = All-head (λ (u : Taken). All (Has v.holds) u.frames) t ts h.under;
  plain = λ cell low any. h.plain cell low (let l = loans_each layout t.home.0 t.frames cell low in let e = h.loans cell low in omega arith);
}

once : (n : ℕ) → one_of (n == n) ≡ 1
once n = ap one_of (eq-eqb n n refl)

-- a frame that is among frames stands there
frame_among : (fs : List Frame) (k : ℕ) (d : Frame) → k < length fs → 0 < frame_times (slice_index_or fs k d).number.0 fs
frame_among [] k d below = absurd (omega arith)
frame_among (f ∷ fs) zero d below =
    let one = once f.number.0 in
    let here : 0 < one_of (f.number.0 == f.number.0) + frame_times f.number.0 fs = omega arith in here
frame_among (f ∷ fs) (suc k) d below = let more = frame_among fs k d (omega arith) in omega arith

times_among : (ts : List Taken) (k : ℕ) (d : Taken) (frame : ℕ) → k < length ts → frame_times frame (slice_index_or ts k d).frames ≤ times_taken frame ts
times_among [] k d frame below = absurd (omega arith)
times_among (t ∷ ts) zero d frame below = omega arith
times_among (t ∷ ts) (suc k) d frame below = let more = times_among ts k d frame (omega arith) in omega arith

-- the others' holds stay with the first holder
pub has_rest : (layout : Layout) (v w : View) (t : Taken) (ts : List Taken) → HasAll layout v (t ∷ ts) → KeepsUnnamed v t.frames (loans_for layout t) w → HasAll layout w ts
has_rest layout v w t ts h k = record {
  frames = λ frame. let a = k.holds frame in let e = h.frames frame in omega arith;
  loans = λ cell low. let a = k.lent cell low in let e = h.loans cell low in let l = loans_each layout t.home.0 t.frames cell low in omega arith;
  under = λ place d below number e inside.
      let u : Taken = slice_index_or ts place d in
      let f : Frame = slice_index_or u.frames number e in
      let here : 0 < frame_times f.number.0 u.frames = frame_among u.frames number e inside in
      let most : frame_times f.number.0 u.frames ≤ times_taken f.number.0 ts = times_among ts place d f.number.0 below in
      let all = h.frames f.number.0 in
      k.stays f.number.0 f.generation (omega arith) (All-tail (λ (x : Taken). All (Has v.holds) x.frames) t ts h.under place d below number e inside);
  plain = λ cell low some.
      let a = k.lent cell low in
      let l = loans_each layout t.home.0 t.frames cell low in
      k.plain cell low (omega arith) (h.plain cell low (omega arith));
}

-- one more of each list
pub zip_push : {X Y : Type 0} (R : X → Y → Type 0) (xs : List X) (ys : List Y) (x : X) (y : Y) → AllZip R xs ys → R x y → AllZip R (xs ++ x ∷ []) (ys ++ y ∷ [])
zip_push R [] [] x y all one = (one, tt)
zip_push R [] (b ∷ ys) x y all one = absurd all
zip_push R (a ∷ xs) [] x y all one = absurd all
zip_push R (a ∷ xs) (b ∷ ys) x y all one = (all.0, zip_push R xs ys x y all.1 one)
