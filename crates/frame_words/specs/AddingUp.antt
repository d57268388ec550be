-- How holds and looks add up, for crates whose calls make several steps.
use Rattle.std.specs.Prelude.{◌≡◌, ◌≢◌, ℕ, ◌+◌, List, [], ◌∷◌, ◌++◌}
use Rattle.frame_words.specs.Borrowing.{FindsLimit, BorrowedBy}
use Rattle.frame_words.specs.Refusals.{Refuses, AddsRefusal, IsAtLimit, IsLost}
use Rattle.frame_words.specs.Tails.{looked, AreLoads, GainNothing, borrows_of, repays_of}
use Rattle.frame_words.specs.Views.{hold, look, times, without}
use Rattle.frame_words.specs.declared.answers.Borrow.TheVariants.{Lost}
use Rattle.frame_words.specs.declared.view.Hold.{Hold}
use Rattle.frame_words.specs.declared.view.Look.{Look}
use Rattle.frame_words.specs.declared.view.StepKind.TheVariants.{Load}
use Rattle.frame_words.specs.declared.view.View.{View}

-- one hold more, or one less, counts for its own word alone
pub record HoldsAddUp : Type 0 where
  pub more : (word generation : ℕ) (holds : List Hold) → times word (hold word generation ∷ holds) ≡ times word holds + 1
  pub more_else : (word other generation : ℕ) (holds : List Hold) → other ≢ word → times other (hold word generation ∷ holds) ≡ times other holds
  pub dropped : (word generation : ℕ) (holds : List Hold) → without word (hold word generation ∷ holds) ≡ holds
  pub less_else : (word other : ℕ) (holds : List Hold) → other ≢ word → times other (without word holds) ≡ times other holds

-- what looks are and count, they are and count together
pub record LooksAddUp : Type 0 where
  pub looked_twice : (v : View) (first second : List Look) → looked (looked v first) second ≡ looked v (first ++ second)
  pub loads : (first second : List Look) → AreLoads first → AreLoads second → AreLoads (first ++ second)
  pub nothing : (first second : List Look) → GainNothing first → GainNothing second → GainNothing (first ++ second)
  pub borrows : (word : ℕ) (first second : List Look) → borrows_of word (first ++ second) ≡ borrows_of word first + borrows_of word second
  pub repays : (word : ℕ) (first second : List Look) → repays_of word (first ++ second) ≡ repays_of word first + repays_of word second
  pub loads_gain_nothing : (looks : List Look) → AreLoads looks → GainNothing looks
  pub loads_are_even : (word : ℕ) (looks : List Look) → AreLoads looks → borrows_of word looks ≡ repays_of word looks

-- what looks tell of a word, they tell also where more looks stand behind them, or before them
pub record LooksTell : Type 0 where
  pub refused : (v : View) (word : ℕ) (w : View) → (adds : AddsRefusal v word w) → Refuses adds.looks word
  pub refused_longer : (looks later : List Look) (word : ℕ) → Refuses looks word → Refuses (looks ++ later) word
  pub refused_behind : (before looks : List Look) (word : ℕ) → Refuses looks word → Refuses (before ++ looks) word
  pub limit : (v : View) (word most seen : ℕ) (w : View) → FindsLimit v word most seen w
      → (w ≡ looked v (look Load word seen ∷ [])) × IsAtLimit (look Load word seen ∷ []) word most seen
  pub limit_longer : (looks later : List Look) (word most seen : ℕ) → IsAtLimit looks word most seen → IsAtLimit (looks ++ later) word most seen
  pub limit_behind : (before looks : List Look) (word most seen : ℕ) → borrows_of word before ≡ repays_of word before → IsAtLimit looks word most seen
      → IsAtLimit (before ++ looks) word most seen
  pub lost : (v : View) (word most seen : ℕ) (w : View) → (adds : BorrowedBy v word most (Lost seen) w)
      → (w ≡ looked v (look Load word adds.0 ∷ look Load word seen ∷ [])) × IsLost (look Load word adds.0 ∷ look Load word seen ∷ []) word most seen
  pub lost_longer : (looks later : List Look) (word most seen : ℕ) → IsLost looks word most seen → IsLost (looks ++ later) word most seen
  pub lost_behind : (before looks : List Look) (word most seen : ℕ) → borrows_of word before ≡ repays_of word before → IsLost looks word most seen
      → IsLost (before ++ looks) word most seen
