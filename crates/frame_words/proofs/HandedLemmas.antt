-- Frames and loans that are named, as holds, and the other way round.
use Rattle.std.proofs.Common.{◌≡◌, ℕ, zero, suc, ◌+◌, ◌-◌, ◌<◌, ◌≤◌, List, [], ◌∷◌, ◌++◌, length, replicate, get_or, refl, subst, arith, lt_of_not-le}
use Rattle.std.specs.Prelude.{All, Contains}
use Rattle.std.proofs.lemmas.List.Elements.{All-nil, All-cons, All-head, All-tail, All-weaker, All-append, All-replicate, Contains-append_right}
use mathlib.Core.Logic.{dite}
use native.Mathlib.Decide.{dec_le}
use Rattle.base_words.specs.declared.frame.Frame.{Frame}
use Rattle.frame_words.specs.FrameWords.{cell_word, frame_word}
use Rattle.frame_words.specs.Views.{hold, held, times, frame_holds, cell_loans}
use Rattle.frame_words.specs.Splits.{frames_named, loans_from, named, HasHolds, HasFrame, HasLoan, HasNamed, HasOnlyNamed}
use Rattle.frame_words.specs.Steps.{begun_with}
use Rattle.frame_words.specs.declared.view.Hold.{Hold}
use Rattle.frame_words.specs.declared.view.View.{View}
use Rattle.frame_words.proofs.Bags.{times-here}
use Rattle.frame_words.proofs.NamedLemmas.{times-named_frame, times-named_cell}

-- a word is a cell's or a frame's
by_kind : (P : ℕ → Type 0) → ((cell : ℕ) → cell < 8 → P (cell_word cell)) → ((frame : ℕ) → P (frame_word frame)) → (word : ℕ) → P word
by_kind P cells frames word = dite (dec_le 8 word)
    (λ far. subst P (omega arith) (frames (word - 8)))
    (λ near. cells word (lt_of_not-le near))

frames_there : (hs : List Hold) (fs : List Frame) → All (HasFrame hs) fs → All (Contains hs) (frames_named fs)
frames_there hs [] all = All-nil (Contains hs)
frames_there hs (f ∷ fs) all = All-cons (Contains hs) (hold (frame_word f.number.0) f.generation) (frames_named fs) (All-head (HasFrame hs) f fs all) (frames_there hs fs (All-tail (HasFrame hs) f fs all))

loans_there : (hs : List Hold) (from : ℕ) (ns : List ℕ) → ((k : ℕ) → k < length ns → 0 < get_or ns k 0 → HasLoan hs (from + k)) → All (Contains hs) (loans_from from ns)
loans_there hs from [] each = All-nil (Contains hs)
loans_there hs from (n ∷ ns) each = All-append (Contains hs) (replicate n (hold (cell_word from) 0)) (loans_from (from + 1) ns)
    (some n (λ any. subst (HasLoan hs) (omega arith) (each 0 (omega arith) any)))
    (loans_there hs (from + 1) ns (λ k below any. subst (HasLoan hs) (omega arith) (each (suc k) (omega arith) any)))
  where
    some : (n : ℕ) → (0 < n → HasLoan hs from) → All (Contains hs) (replicate n (hold (cell_word from) 0))
    some zero there = All-nil (Contains hs)
    some (suc n) there = All-replicate (Contains hs) (suc n) (hold (cell_word from) 0) (there (omega arith))

pub has_named : (view : View) (fs : List Frame) (ns : List ℕ) → length ns ≤ 8 → HasNamed view fs ns → HasHolds view (named fs ns)
has_named view fs ns few h = record {
  often = by_kind (λ word. times word (named fs ns) ≤ held word view)
      (λ cell low. let n = times-named_cell cell fs ns low in let e = h.lent cell low in omega arith)
      (λ frame. let n = times-named_frame frame fs ns few in let e = h.holds frame in omega arith);
  under = All-append (Contains view.holds) (frames_named fs) (loans_from 0 ns) (frames_there view.holds fs h.under)
      (loans_there view.holds 0 ns (λ k below any. subst (HasLoan view.holds) (omega arith) (h.plain k (omega arith) any)));
}

-- named frames and loans stand among what is named
named_frames : (fs : List Frame) (rest : List Hold) → All (HasFrame (frames_named fs ++ rest)) fs
named_frames [] rest = All-nil (HasFrame rest)
named_frames (f ∷ fs) rest =
    let one = hold (frame_word f.number.0) f.generation in
    All-cons (HasFrame (one ∷ (frames_named fs ++ rest))) f fs (0, omega arith, refl)
    (All-weaker (HasFrame (frames_named fs ++ rest)) (HasFrame (one ∷ (frames_named fs ++ rest)))
    (λ x there. Contains-append_right (one ∷ []) (frames_named fs ++ rest) (hold (frame_word x.number.0) x.generation) there) fs (named_frames fs rest))

named_loans : (from k : ℕ) (ns : List ℕ) → 0 < get_or ns k 0 → HasLoan (loans_from from ns) (from + k)
named_loans from k [] any = absurd (omega arith)
named_loans from zero (zero ∷ ns) any = absurd (omega arith)
named_loans from zero (suc n ∷ ns) any = (0, omega arith, (λ i. hold (from_is i) 0))
  where
    from_is : from ≡ from + 0
    from_is = omega arith
named_loans from (suc k) (n ∷ ns) any =
    Contains-append_right (replicate n (hold (cell_word from) 0)) (loans_from (from + 1) ns) (hold (cell_word (from + suc k)) 0)
    (subst (HasLoan (loans_from (from + 1) ns)) (omega arith) (named_loans (from + 1) k ns any))

pub has_only_named : (fs : List Frame) (ns : List ℕ) → length ns ≤ 8 → HasOnlyNamed (begun_with (named fs ns)) fs ns
has_only_named fs ns few = record {
  holds = λ frame. times-named_frame frame fs ns few;
  lent = λ cell low. times-named_cell cell fs ns low;
  under = named_frames fs (loans_from 0 ns);
  plain = λ cell low any. Contains-append_right (frames_named fs) (loans_from 0 ns) (hold (cell_word cell) 0)
      (subst (HasLoan (loans_from 0 ns)) (omega arith) (named_loans 0 cell ns any));
}

-- a view in which no word is held
pub no_holds : (view : View) → ((frame : ℕ) → frame_holds view frame ≡ 0) → ((cell : ℕ) → cell < 8 → cell_loans view cell ≡ 0) → view.holds ≡ []
no_holds view frames cells = none_held view.holds (by_kind (λ word. held word view ≡ 0) cells frames)
  where
    none_held : (hs : List Hold) → ((word : ℕ) → times word hs ≡ 0) → hs ≡ []
    none_held [] none = refl
    none_held (x ∷ hs) none = absurd (let here = times-here x.word x.generation hs in let e = none x.word in omega arith)
