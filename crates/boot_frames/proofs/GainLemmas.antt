-- What a view gains by one frame after another, and what it has after one claim after another.
use Rattle.std.proofs.Common.{◌≡◌, ℕ, ◌+◌, ◌==◌, if◌then◌else◌, Bool, List, [], ◌∷◌, ◌++◌, ap, subst, arith}
use Rattle.std.specs.Prelude.{All}
use Rattle.std.proofs.lemmas.List.Elements.{All-nil, All-push, All-weaker}
use Rattle.std.proofs.lemmas.List.Sums.{sum_by_push}
use mathlib.Core.Bool.{cond}
use mathlib.Core.Logic.{dite}
use native.Mathlib.Decide.{ℕ_discrete, dec_le}
use Rattle.base_words.specs.declared.frame.Frame.{Frame}
use Rattle.node_frames.specs.Layout.{Layout}
use Rattle.frame_words.specs.FrameWords.{cell_word, frame_word}
use Rattle.frame_words.specs.Views.{hold, times, cell_loans}
use Rattle.frame_words.specs.Splits.{frame_times, HasLoan}
use Rattle.frame_words.specs.declared.view.View.{View}
use Rattle.node_frames.specs.Alone.{Gains}
use Rattle.boot_frames.specs.Loans.{cell_of_frame, is_lent, loans_in}
use Rattle.boot_frames.specs.Lots.{Has}
use Rattle.boot_frames.specs.Gains.{HasPlainLoans, GainsAll}
use Rattle.boot_frames.specs.Givings.{times_taken, loans_taken, HasAll}
use Rattle.boot_frames.specs.declared.taken.Taken.{Taken}
use Rattle.boot_frames.proofs.LoanLemmas.{lent_else, lent_home}

abbrev pub one_of : Bool → ℕ
one_of b = if b then 1 else 0

frame_times-push : (frame : ℕ) (fs : List Frame) (f : Frame) → frame_times frame (fs ++ f ∷ []) ≡ frame_times frame fs + one_of (f.number.0 == frame)
frame_times-push frame [] f = omega arith
frame_times-push frame (x ∷ fs) f = let rest = frame_times-push frame fs f in omega arith

loans_in-push : (layout : Layout) (home cell : ℕ) (fs : List Frame) (f : Frame) → loans_in layout home (fs ++ f ∷ []) cell ≡ loans_in layout home fs cell + one_of (is_lent layout home cell f)
loans_in-push layout home cell fs f = sum_by_push (λ (g : Frame). cond (is_lent layout home cell g) 1 0) fs f

-- the loan of a frame is held as a loan is
plain_loan : (layout : Layout) (home : ℕ) (f : Frame) (v w : View) → Gains layout home f.number.0 f.generation v w → HasPlainLoans v → HasPlainLoans w
plain_loan layout home f v w g plain cell low some =
    let more = g.loans cell low in
    dite (dec_le 1 (cell_loans v cell))
    (λ before. g.stays (hold (cell_word cell) 0) (plain cell low (omega arith)))
    (λ none. dite (ℕ_discrete (cell_of_frame layout f) home)
    (λ inside. let off = ap one_of (lent_home layout home cell f inside) in absurd (omega arith))
    (λ outside. dite (ℕ_discrete (cell_of_frame layout f) cell)
    (λ here. subst (HasLoan w.holds) here (g.lent outside))
    (λ there. let off = ap one_of (lent_else layout home cell f there) in absurd (omega arith))))

pub gains_none : (layout : Layout) (home : ℕ) (v : View) → GainsAll layout home [] v v
gains_none layout home v = record { frames = λ frame. omega arith; loans = λ cell low. omega arith; under = All-nil (Has v.holds); stays = λ h there. there; plain = λ all. all }

pub gains_more : (layout : Layout) (home : ℕ) (fs : List Frame) (f : Frame) (v m w : View) → GainsAll layout home fs v m → Gains layout home f.number.0 f.generation m w → GainsAll layout home (fs ++ f ∷ []) v w
gains_more layout home fs f v m w a g = record {
  frames = λ frame. let before = a.frames frame in let here = g.frames frame in let both = frame_times-push frame fs f in omega arith;
  loans = λ cell low. let before = a.loans cell low in let here = g.loans cell low in let both = loans_in-push layout home cell fs f in omega arith;
  under = All-push (Has w.holds) fs f (All-weaker (Has m.holds) (Has w.holds) (λ x there. g.stays (hold (frame_word x.number.0) x.generation) there) fs a.under) g.under;
  stays = λ h there. g.stays h (a.stays h there);
  plain = λ all. plain_loan layout home f m w g (a.plain all);
}

-- the same for one claim after another
times_taken-push : (frame : ℕ) (ts : List Taken) (t : Taken) → times_taken frame (ts ++ t ∷ []) ≡ times_taken frame ts + frame_times frame t.frames
times_taken-push frame [] t = omega arith
times_taken-push frame (u ∷ ts) t = let rest = times_taken-push frame ts t in omega arith

loans_taken-push : (layout : Layout) (cell : ℕ) (ts : List Taken) (t : Taken) → loans_taken layout cell (ts ++ t ∷ []) ≡ loans_taken layout cell ts + loans_in layout t.home.0 t.frames cell
loans_taken-push layout cell [] t = omega arith
loans_taken-push layout cell (u ∷ ts) t = let rest = loans_taken-push layout cell ts t in omega arith

pub has_nothing : (layout : Layout) (v : View) → v.holds ≡ [] → HasAll layout v []
has_nothing layout v none = record {
  frames = λ frame. ap (λ hs. times (frame_word frame) hs) none;
  loans = λ cell low. ap (λ hs. times (cell_word cell) hs) none;
  under = All-nil (λ (t : Taken). All (Has v.holds) t.frames);
  plain = λ cell low some. let e = ap (λ hs. times (cell_word cell) hs) none in absurd (omega arith);
}

pub has_more : (layout : Layout) (ts : List Taken) (t : Taken) (v w : View) → HasAll layout v ts → GainsAll layout t.home.0 t.frames v w → HasAll layout w (ts ++ t ∷ [])
has_more layout ts t v w h g = record {
  frames = λ frame. let before = h.frames frame in let here = g.frames frame in let both = times_taken-push frame ts t in omega arith;
  loans = λ cell low. let before = h.loans cell low in let here = g.loans cell low in let both = loans_taken-push layout cell ts t in omega arith;
  under = All-push (λ (u : Taken). All (Has w.holds) u.frames) ts t
      (All-weaker (λ (u : Taken). All (Has v.holds) u.frames) (λ (u : Taken). All (Has w.holds) u.frames)
      (λ u there. All-weaker (Has v.holds) (Has w.holds) (λ x held. g.stays (hold (frame_word x.number.0) x.generation) held) u.frames there) ts h.under)
      g.under;
  plain = g.plain h.plain;
}
