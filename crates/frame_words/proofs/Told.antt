-- What the numbers that a call found say of the view that its holder had.
use Rattle.std.proofs.Common.{◌≡◌, ◌≢◌, ◌⊎◌, ℕ, ◌+◌, ◌<◌, Bool, true, false, [], ◌∷◌, if◌then◌else◌, refl, subst, ap, ◌∙◌, arith, eq-eqb, ne_eqb}
use mathlib.Core.Option.{none}
use Rattle.atomic_table.specs.Table.{step}
use Rattle.frame_words.specs.FrameWords.{count, generation, IsShareable}
use Rattle.frame_words.specs.Views.{HeldUnder, seeing, holding, hold, held}
use Rattle.frame_words.specs.Holders.{Holding}
use Rattle.frame_words.specs.Steps.{Own, Fits, Loaded, Added, Given}
use Rattle.frame_words.specs.Taking.{loaded, Changed, FindsHeld, GivesUp}
use Rattle.frame_words.specs.Sharing.{Shares, FindsGone, FindsMany}
use Rattle.frame_words.specs.declared.holder.Holder.TheInside as holder
use Rattle.frame_words.specs.declared.view.View.{View}
use Rattle.frame_words.specs.declared.view.StepKind.{StepKind}
use Rattle.frame_words.specs.declared.view.StepKind.TheVariants.{Load, Share}
use Rattle.frame_words.proofs.WordLemmas.{generation-more}
use Rattle.frame_words.proofs.Moves.{foreign_of}
use Rattle.frame_words.proofs.Parts.{keeps_rest, times_least}
use Rattle.frame_words.proofs.Opened.{Held}

-- what is so of the seat's view and word is so of the holder's
at_model : (P : View → ℕ → Type 0) (h : holder.Inside) (v : Holding) (i j : ℕ) → Held h ≡ v → j ≡ i → P h.seat.me.0 j → P v.view i
at_model P h v i j is same p = subst (λ (x : Holding). P x.view i) is (subst (P h.seat.me.0) same p)

pub finds_gone : (h : holder.Inside) (v : Holding) (slots i j under n : ℕ) (m : Own) → Held h ≡ v → j ≡ i → Loaded (step slots j 0 0 none) h.seat.me n m
    → count n ≢ 4294967295 → (count n ≡ 0) ⊎ (generation n ≢ under) → FindsGone v.view i under n m.0
finds_gone h v slots i j under n m is same told room gone = at_model (λ u k. FindsGone u k under n m.0) h v i j is same record {
  room = omega arith;
  gone = gone;
  foreign = foreign_of h.seat.me.0 j n under told.1 gone;
  after = ap (λ (x : Own). x.0) told.0;
}

pub finds_many : (h : holder.Inside) (v : Holding) (slots i j n : ℕ) (m : Own) → Held h ≡ v → j ≡ i → Loaded (step slots j 0 0 none) h.seat.me n m
    → count n ≡ 4294967295 → FindsMany v.view i n m.0
finds_many h v slots i j n m is same told full = at_model (λ u k. FindsMany u k n m.0) h v i j is same record {
  full = full;
  agrees = told.1.agrees;
  after = ap (λ (x : Own). x.0) told.0;
}

pub finds_held : (h : holder.Inside) (v : Holding) (slots i j n : ℕ) (m : Own) → Held h ≡ v → j ≡ i → Loaded (step slots j 0 0 none) h.seat.me n m
    → 0 < count n → FindsHeld v.view i n m.0
finds_held h v slots i j n m is same told some = at_model (λ u k. FindsHeld u k n m.0) h v i j is same record {
  some = some;
  least = told.1.least;
  agrees = told.1.agrees;
  own = λ alone. let all = told.1.all alone in omega arith;
  after = ap (λ (x : Own). x.0) told.0;
}

not_true : (b : Bool) → (b ≡ true → ⊥) → b ≡ false
not_true true never = absurd (never refl)
not_true false never = refl

-- what the exchange of a share found that finds the number that was loaded, and of one that finds another
pub shares_so : (h : holder.Inside) (v : Holding) (slots i j n under found : ℕ) (m p : Own) → Held h ≡ v → j ≡ i → Loaded (step slots j 0 0 none) h.seat.me n m
    → Added Share (step slots j n (n + 1) none) m found p → IsShareable n under → found ≡ n → Shares v.view i under p.0
shares_so h v slots i j n under found m p is same first swap ok hit = at_model (λ u k. Shares u k under p.0) h v i j is same record {
  seen = n;
  shareable = ok;
  least = first.1.least;
  same = subst (HeldUnder h.seat.me.0 j) ok.same first.1.agrees;
  own = first.1.all;
  after =
      ap (λ (x : Own). x.0) swap.0
      ∙ ap (λ (b : Bool). if b then holding (seeing m.0 Share j found) j (generation (n + 1)) else seeing m.0 Load j found) (eq-eqb found n hit)
      ∙ ap (λ (x : Own). holding (seeing x.0 Share j found) j (generation (n + 1))) first.0
      ∙ ap (λ k. holding (seeing (loaded h.seat.me.0 j n) Share j k) j (generation (n + 1))) hit
      ∙ ap (holding (seeing (loaded h.seat.me.0 j n) Share j n) j) (generation-more n ok.room ∙ ok.same);
}

pub share_changed : (h : holder.Inside) (v : Holding) (slots i j n under found : ℕ) (m p : Own) → Held h ≡ v → j ≡ i → Loaded (step slots j 0 0 none) h.seat.me n m
    → Added Share (step slots j n (n + 1) none) m found p → found ≢ n → Changed v.view i n found p.0
share_changed h v slots i j n under found m p is same first swap apart = at_model (λ u k. Changed u k n found p.0) h v i j is same record {
  other = apart;
  crowd = not_true h.seat.me.0.alone (λ alone.
      let was = ap (λ (x : Own). x.0) first.0 in
      let f = subst (λ (x : View). Fits x j found) was swap.1 in
      let a = first.1.all alone in let b = first.1.known alone in let c = f.all alone in let d = f.known alone in apart (omega arith));
  after =
      ap (λ (x : Own). x.0) swap.0
      ∙ ap (λ (b : Bool). if b then holding (seeing m.0 Share j found) j (generation (n + 1)) else seeing m.0 Load j found) (ne_eqb found n apart)
      ∙ ap (λ (x : Own). seeing x.0 Load j found) first.0;
}

pub gives_up : (h : holder.Inside) (v : Holding) (slots i j n : ℕ) (kind : StepKind) (m : Own) → Held h ≡ v → j ≡ i → Given kind (step slots j 1 0 none) h.seat.me n m
    → 0 < held i v.view → GivesUp v.view kind i m.0
gives_up h v slots i j n kind m is same told some = subst (λ (x : Holding). 0 < held i x.view → GivesUp x.view kind i m.0) is (subst (λ k. 0 < held k h.seat.me.0 → GivesUp h.seat.me.0 kind k m.0) same given) some
  where
    given : 0 < held j h.seat.me.0 → GivesUp h.seat.me.0 kind j m.0
    given some = record {
      seen = n;
      least = told.1.least;
      agrees = told.1.agrees;
      after = ap (λ (x : Own). x.0) told.0;
      rest = keeps_rest h.seat.me.0 (hold j (generation n) ∷ []) m.0 h.agrees (times_least j (generation n) h.seat.me.0 some) (ap (λ (x : Own). x.0.holds) told.0);
    }
