-- Which looks of a tail show that a frame or a cell refused a `take`, a `share` or a `borrow`.
use Rattle.std.specs.Prelude.{◌≡◌, ◌≢◌, ◌⊎◌, ℕ, ◌<◌, true, List, [], ◌∷◌, ◌++◌, slice_index}
use Rattle.frame_words.specs.FrameWords.{count, generation, IsFree, IsShareable}
use Rattle.frame_words.specs.Views.{look, held, holding}
use Rattle.frame_words.specs.Tails.{looked, AreLoads, Omits, borrows_of, repays_of}
use Rattle.frame_words.specs.declared.view.Look.{Look}
use Rattle.frame_words.specs.declared.view.View.{View}
use Rattle.frame_words.specs.declared.view.StepKind.TheVariants.{Load, Share}
use Rattle.frame_words.specs.declared.answers.Share as sharing
use Rattle.frame_words.specs.declared.answers.Share.TheVariants as shared

-- one `take` of the word that answers Held or Spent: what it saw can't be taken, or changed since
abbrev pub Refusal : ℕ → List Look → Type 0
Refusal word [] = ⊥
Refusal word (l ∷ []) = (l ≡ look Load word l.seen) × ((0 < count l.seen) ⊎ (generation l.seen ≡ 4294967295))
Refusal word (l ∷ m ∷ []) =
    (l ≡ look Load word l.seen) × (m ≡ look Load word m.seen) × IsFree l.seen × (m.seen ≢ l.seen)
Refusal word (l ∷ m ∷ n ∷ ls) = ⊥

-- somewhere among these looks a `take` of the word answers Held or Spent
pub record Refuses (tail : List Look) (word : ℕ) : Type 0 where
  pub before : List Look
  pub looks : List Look
  pub later : List Look
  pub refusal : Refusal word looks
  pub parts : tail ≡ before ++ (looks ++ later)

-- where a view is alone, a word that can't be taken is its own or has had its last generation
abbrev pub IsOwn : View → ℕ → Type 0
IsOwn v i = (0 < held i v) ⊎ (slice_index v.known i ≡ 4294967295)

-- a `take` that answers Held or Spent adds these looks and nothing else
pub record AddsRefusal (v : View) (i : ℕ) (w : View) : Type 0 where
  pub looks : List Look
  pub refusal : Refusal i looks
  pub loads : AreLoads looks
  pub own : v.alone ≡ true → IsOwn v i
  pub after : w ≡ looked v looks

-- one `share` of the word under this generation that answers Gone or Many: nobody held the word so,
-- or its count was at its limit, or what its load saw changed since
abbrev pub ShareRefusal : ℕ → ℕ → List Look → Type 0
ShareRefusal word under [] = ⊥
ShareRefusal word under (l ∷ []) =
    (l ≡ look Load word l.seen)
    × ((count l.seen ≡ 0) ⊎ (generation l.seen ≢ under) ⊎ (count l.seen ≡ 4294967295))
ShareRefusal word under (l ∷ m ∷ []) =
    (l ≡ look Load word l.seen) × (m ≡ look Load word m.seen) × IsShareable l.seen under × (m.seen ≢ l.seen)
ShareRefusal word under (l ∷ m ∷ n ∷ ls) = ⊥

-- among these looks a `share` of the word under this generation answers Gone or Many,
-- and its load is the first look on the word
pub record RefusesShare (tail : List Look) (word under : ℕ) : Type 0 where
  pub before : List Look
  pub looks : List Look
  pub later : List Look
  pub refusal : ShareRefusal word under looks
  pub first : Omits word before
  pub parts : tail ≡ before ++ (looks ++ later)

-- a `share` that answers Gone or Many adds these looks and nothing else
pub record AddsShareRefusal (v : View) (i under : ℕ) (w : View) : Type 0 where
  pub looks : List Look
  pub refusal : ShareRefusal i under looks
  pub loads : AreLoads looks
  pub after : w ≡ looked v looks

-- a `share` that answers Shared adds these looks and a hold under this generation
pub record AddsShare (v : View) (i under : ℕ) (w : View) : Type 0 where
  pub seen : ℕ
  pub shareable : IsShareable seen under
  pub after : w ≡ looked (holding v i under) (look Load i seen ∷ look Share i seen ∷ [])

-- what a `share` of the word under this generation adds to its call's tail
abbrev pub ShareAdds : View → ℕ → ℕ → sharing.Share → View → Type 0
ShareAdds v i under shared.Shared w = AddsShare v i under w
ShareAdds v i under (shared.Gone seen) w = AddsShareRefusal v i under w
ShareAdds v i under (shared.Many seen) w = AddsShareRefusal v i under w

-- somewhere among these looks a `borrow` of the word, of a cell that lends this, finds all lent;
-- by then each borrow of the word is repaid
pub record IsAtLimit (tail : List Look) (word most seen : ℕ) : Type 0 where
  pub before : List Look
  pub later : List Look
  pub full : seen ≡ most
  pub repaid : borrows_of word before ≡ repays_of word before
  pub parts : tail ≡ before ++ look Load word seen ∷ later

-- somewhere among these looks a `borrow` of the word loses against another holder;
-- by then each borrow of the word is repaid
pub record IsLost (tail : List Look) (word most seen : ℕ) : Type 0 where
  pub before : List Look
  pub later : List Look
  pub first : ℕ
  pub below : first < most
  pub other : seen ≢ first
  pub repaid : borrows_of word before ≡ repays_of word before
  pub parts : tail ≡ before ++ look Load word first ∷ look Load word seen ∷ later
