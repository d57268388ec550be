-- What each answer of `take` says: by the numbers that the call found, in order, and the view after.
use Rattle.std.specs.Prelude.{◌≡◌, ◌≢◌, ◌⊎◌, ℕ, ◌+◌, ◌<◌, ◌≤◌, true, false, [], ◌∷◌, slice_index}
use Rattle.frame_words.specs.FrameWords.{count, generation, IsFree}
use Rattle.frame_words.specs.Views.{held, hold, seeing, dropping, HeldUnder, KeepsRest}
use Rattle.frame_words.specs.Steps.{taken}
use Rattle.frame_words.specs.declared.view.View.{View}
use Rattle.frame_words.specs.declared.view.StepKind.{StepKind}
use Rattle.frame_words.specs.declared.view.StepKind.TheVariants.{Load}
use Rattle.frame_words.specs.declared.answers.Took.{Took}
use Rattle.frame_words.specs.declared.answers.Took.TheVariants as took

-- the view after one load
abbrev pub loaded : View → ℕ → ℕ → View
loaded v i seen = seeing v Load i seen

-- a load of the word found this, and the exchange after it found another number
pub record Changed (v : View) (i first seen : ℕ) (w : View) : Type 0 where
  pub other : seen ≢ first
  pub crowd : v.alone ≡ false
  pub after : w ≡ loaded (loaded v i first) i seen

-- the frame was free, and nobody else held it when it was taken, under its next generation
pub record Takes (v : View) (i g : ℕ) (w : View) : Type 0 where
  pub seen : ℕ
  pub free : IsFree seen
  pub unheld : held i v ≡ 0
  pub next : g ≡ generation seen + 1
  pub known : v.alone ≡ true → slice_index v.known i ≡ generation seen
  pub after : w ≡ taken (loaded v i seen) i seen g

-- somebody held the frame; where the view is alone, its own holder
pub record FindsHeld (v : View) (i seen : ℕ) (w : View) : Type 0 where
  pub some : 0 < count seen
  pub least : held i v ≤ count seen
  pub agrees : HeldUnder v i (generation seen)
  pub own : v.alone ≡ true → 0 < held i v
  pub after : w ≡ loaded v i seen

-- nobody held the frame, and it had its last generation
pub record FindsSpent (v : View) (i seen : ℕ) (w : View) : Type 0 where
  pub none : count seen ≡ 0
  pub last : generation seen ≡ 4294967295
  pub unheld : held i v ≡ 0
  pub known : v.alone ≡ true → slice_index v.known i ≡ 4294967295
  pub after : w ≡ loaded v i seen

-- `take` of the word i
abbrev pub TookBy : View → ℕ → Took → View → Type 0
TookBy v i (took.Took g) w = Takes v i g w
TookBy v i (took.Held seen) w =
    FindsHeld v i seen w
    ⊎ ((first : ℕ) × IsFree first × Changed v i first seen w)
TookBy v i (took.Spent seen) w = FindsSpent v i seen w

-- the view holds the word once less, and all else as before; the step's kind is this
pub record GivesUp (v : View) (kind : StepKind) (i : ℕ) (w : View) : Type 0 where
  pub seen : ℕ
  pub least : held i v ≤ count seen
  pub agrees : HeldUnder v i (generation seen)
  pub after : w ≡ dropping (seeing v kind i seen) i
  pub rest : KeepsRest v (hold i (generation seen) ∷ []) w
