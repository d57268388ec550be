-- What each kind of step tells the holder that makes it: the number that it found, and the view after.
use Rattle.std.specs.Prelude.{◌≡◌, ℕ, ◌<◌, ◌≤◌, ◌==◌, true, false, if◌then◌else◌, List, [], ◌∷◌, ◌++◌, slice_index}
use Rattle.atomic_table.specs.Table.{Me, Step}
use Rattle.frame_words.specs.FrameWords.{count, generation}
use Rattle.frame_words.specs.Views.{held, look, seeing, holding, dropping, knowing, without, HeldUnder, OneGeneration}
use Rattle.frame_words.specs.declared.view.Hold.{Hold}
use Rattle.frame_words.specs.declared.view.View.{View}
use Rattle.frame_words.specs.declared.view.StepKind.{StepKind}
use Rattle.frame_words.specs.declared.view.StepKind.TheVariants.{Load, Take, Split, Join}

abbrev pub Own : Type 0
Own = Me (Unit {0}) View

-- the number found fits what the view knows
pub record Fits (v : View) (i n : ℕ) : Type 0 where
  pub range : n < 18446744073709551616
  pub least : held i v ≤ count n
  pub all : v.alone ≡ true → held i v ≡ count n
  pub known : v.alone ≡ true → slice_index v.known i ≡ generation n
  pub agrees : HeldUnder v i (generation n)

-- the view after a take of the word i, which found this, under this generation
abbrev pub taken : View → ℕ → ℕ → ℕ → View
taken v i seen under = knowing (holding (seeing v Take i seen) i under) i under

-- a step whose view after is w: it holds no word under two generations
abbrev pub Tells : View → Step (Unit {0}) → Own → ℕ → Own → Type 0
Tells w st m n m' = (m' ≡ (w, m.1)) × Fits m.0 st.word n × OneGeneration m'.0.holds

-- an exchange that finds the word that it expects has this view after, and else it was a load
abbrev pub exchanged : View → Step (Unit {0}) → Own → ℕ → View
exchanged w st m n = if n == st.first then w else seeing m.0 Load st.word n

abbrev pub Loaded : Step (Unit {0}) → Own → ℕ → Own → Type 0
Loaded st m n = Tells (seeing m.0 Load st.word n) st m n

abbrev pub Taken : Step (Unit {0}) → Own → ℕ → Own → Type 0
Taken st m n = Tells (exchanged (taken m.0 st.word n (generation st.second)) st m n) st m n

abbrev pub Added : StepKind → Step (Unit {0}) → Own → ℕ → Own → Type 0
Added kind st m n =
    Tells (exchanged (holding (seeing m.0 kind st.word n) st.word (generation st.second)) st m n) st m n

abbrev pub Given : StepKind → Step (Unit {0}) → Own → ℕ → Own → Type 0
Given kind st m n = Tells (dropping (seeing m.0 kind st.word n) st.word) st m n

-- the view that is left when holds go to a new holder
abbrev pub without_all : List Hold → List Hold → List Hold
without_all [] hs = hs
without_all (g ∷ gs) hs = without_all gs (without g.word hs)

abbrev pub left_with : List Hold → View → View
left_with gone v = record {
  holds = without_all gone v.holds;
  alone = false;
  known = v.known;
  looks = v.looks ++ look Split 0 0 ∷ [];
}

-- the view of the new holder
abbrev pub begun_with : List Hold → View
begun_with holds = record { holds = holds; alone = false; known = []; looks = [] }

-- the view after another holder ended
abbrev pub joined : View → View
joined v = record v { looks = v.looks ++ look Join 0 0 ∷ [] }
