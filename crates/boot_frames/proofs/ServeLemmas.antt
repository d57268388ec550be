-- From what was taken and split off to what each claim has.
use Rattle.std.proofs.Common.{◌≡◌, ℕ, ◌+◌, ◌-◌, ◌<◌, List, [], ◌∷◌, replicate, get_or, refl, sym, ap, ◌∙◌, subst, arith}
use Rattle.std.specs.List.{AllZip}
use Rattle.std.proofs.lemmas.List.{get_or-append_right, get_or-replicate, length-replicate}
use Rattle.base_words.specs.declared.frame.Frame.{Frame}
use Rattle.node_frames.specs.Layout.{Layout}
use Rattle.frame_words.specs.FrameRights.{first_view}
use Rattle.frame_words.specs.Holders.{MadeTable}
use Rattle.frame_words.specs.Splits.{named, frame_times}
use Rattle.frame_words.specs.Steps.{begun_with}
use Rattle.frame_words.specs.declared.terms.Terms.{Terms}
use Rattle.node_frames.specs.Left.{Left, left_of, first_left}
use Rattle.boot_frames.specs.Chain.{after_claim}
use Rattle.boot_frames.specs.Loans.{loans_of}
use Rattle.boot_frames.specs.Lots.{AreTaken, Serves, ServesAll, times_given}
use Rattle.boot_frames.specs.Takings.{OnlyTook, TakesFor, TakesForAll}
use Rattle.boot_frames.specs.Givings.{times_taken, Gives}
use Rattle.boot_frames.specs.declared.claims.Claim.{Claim}
use Rattle.boot_frames.specs.declared.lots.Lot.{Lot}
use Rattle.boot_frames.specs.declared.taken.Taken.{Taken}

-- a holder that was just made only took frames, namely none
pub first_only : (terms : Terms) (layout : Layout) → terms.first < 4294967295 → left_of layout terms.lends (first_view terms) ≡ first_left layout terms.lends → OnlyTook terms layout (first_view terms)
first_only terms layout fresh all_left = record {
  alone = refl;
  fresh = fresh;
  once = λ frame. omega arith;
  known = λ frame within unheld.
      let here : frame + 8 - 8 ≡ frame = omega arith in
      get_or-append_right (replicate 8 0) (replicate terms.frames terms.first) 8 (frame + 8) 0 (length-replicate {A = ℕ} 8 0) (omega arith)
      ∙ ap (λ (k : ℕ). get_or (replicate terms.frames terms.first) k 0) here ∙ get_or-replicate terms.frames frame terms.first 0 within;
  most = λ node. let all = full node in omega arith;
  low = λ node k below. let all = full node in absurd (omega arith);
  high = λ node k above below. refl;
}
  where
    full : (node : ℕ) → (left_of layout terms.lends (first_view terms)).frames node ≡ layout.frames
    full node = ap (λ (l : Left). l.frames node) all_left

serves : (table : MadeTable) (layout : Layout) (left : Left) (n : Claim) (t : Taken) (lot : Lot) → TakesFor table.terms layout left n t → Gives table layout t lot → Serves table layout left n lot
serves table layout left n t lot f g = record {
  taken = subst (λ (fs : List Frame). AreTaken table.terms layout left n fs) (sym g.frames) f.frames;
  holds = g.holds ∙ (λ i. begun_with (named (sym g.frames i) (loans_of layout (f.home i) (sym g.frames i))));
  made = g.made;
}

pub serves_all : (table : MadeTable) (layout : Layout) (left : Left) (ns : List Claim) (ts : List Taken) (lots : List Lot) → TakesForAll table.terms layout left ns ts → AllZip (Gives table layout) ts lots → ServesAll table layout left ns lots
serves_all table layout left [] [] [] f g = tt
serves_all table layout left [] [] (lot ∷ lots) f g = absurd g
serves_all table layout left [] (t ∷ ts) lots f g = absurd f
serves_all table layout left (n ∷ ns) [] lots f g = absurd f
serves_all table layout left (n ∷ ns) (t ∷ ts) [] f g = absurd g
serves_all table layout left (n ∷ ns) (t ∷ ts) (lot ∷ lots) f g = (serves table layout left n t lot f.0 g.0, serves_all table layout (after_claim layout n left) ns ts lots f.1 g.1)

pub times_same : (table : MadeTable) (layout : Layout) (ts : List Taken) (lots : List Lot) (frame : ℕ) → AllZip (Gives table layout) ts lots → times_given frame lots ≡ times_taken frame ts
times_same table layout [] [] frame g = refl
times_same table layout [] (lot ∷ lots) frame g = absurd g
times_same table layout (t ∷ ts) [] frame g = absurd g
times_same table layout (t ∷ ts) (lot ∷ lots) frame g =
    let here : frame_times frame lot.frames ≡ frame_times frame t.frames = ap (frame_times frame) g.0.frames in
    let rest = times_same table layout ts lots frame g.1 in omega arith
