-- What each answer of `share` says: by the numbers that the call found, in order, and the view after.
use Rattle.std.specs.Prelude.{◌≡◌, ◌≢◌, ◌⊎◌, ℕ, ◌<◌, ◌≤◌, true, Contains}
use Rattle.frame_words.specs.FrameWords.{count, generation, IsShareable}
use Rattle.frame_words.specs.Views.{held, hold, seeing, holding, HeldUnder}
use Rattle.frame_words.specs.Taking.{loaded, Changed}
use Rattle.frame_words.specs.declared.view.View.{View}
use Rattle.frame_words.specs.declared.view.StepKind.TheVariants.{Share}
use Rattle.frame_words.specs.declared.answers.Share as sharing
use Rattle.frame_words.specs.declared.answers.Share.TheVariants as shared

-- somebody held the frame under this generation, as each hold of the view was, and one more does
pub record Shares (v : View) (i under : ℕ) (w : View) : Type 0 where
  pub seen : ℕ
  pub shareable : IsShareable seen under
  pub least : held i v ≤ count seen
  pub same : HeldUnder v i under
  pub own : v.alone ≡ true → held i v ≡ count seen
  pub after : w ≡ holding (seeing (loaded v i seen) Share i seen) i under

-- nobody held the frame under this generation, the caller included
pub record FindsGone (v : View) (i under seen : ℕ) (w : View) : Type 0 where
  pub room : count seen < 4294967295
  pub gone : (count seen ≡ 0) ⊎ (generation seen ≢ under)
  pub foreign : Contains v.holds (hold i under) → ⊥
  pub after : w ≡ loaded v i seen

-- the frame's count was at its limit
pub record FindsMany (v : View) (i seen : ℕ) (w : View) : Type 0 where
  pub full : count seen ≡ 4294967295
  pub agrees : HeldUnder v i (generation seen)
  pub after : w ≡ loaded v i seen

-- `share` of the word i under this generation
abbrev pub SharedBy : View → ℕ → ℕ → sharing.Share → View → Type 0
SharedBy v i under shared.Shared w = Shares v i under w
SharedBy v i under (shared.Gone seen) w =
    FindsGone v i under seen w
    ⊎ ((first : ℕ) × IsShareable first under × Changed v i first seen w)
SharedBy v i under (shared.Many seen) w = FindsMany v i seen w
