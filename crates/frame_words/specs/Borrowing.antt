-- What each answer of `borrow` says: by the numbers that the call found, in order, and the view after.
use Rattle.std.specs.Prelude.{◌≡◌, ℕ, ◌<◌, ◌≤◌, true}
use Rattle.frame_words.specs.Views.{held, seeing, holding}
use Rattle.frame_words.specs.Taking.{loaded, Changed}
use Rattle.frame_words.specs.declared.view.View.{View}
use Rattle.frame_words.specs.declared.view.StepKind.TheVariants.{Borrow}
use Rattle.frame_words.specs.declared.answers.Borrow as borrowing
use Rattle.frame_words.specs.declared.answers.Borrow.TheVariants as lent

-- the cell lent less than it lends, and lends one more
pub record Lends (v : View) (i most : ℕ) (w : View) : Type 0 where
  pub seen : ℕ
  pub below : seen < most
  pub least : held i v ≤ seen
  pub own : v.alone ≡ true → held i v ≡ seen
  pub after : w ≡ holding (seeing (loaded v i seen) Borrow i seen) i 0

-- the cell lent all that it lends
pub record FindsLimit (v : View) (i most seen : ℕ) (w : View) : Type 0 where
  pub full : seen ≡ most
  pub least : held i v ≤ seen
  pub own : v.alone ≡ true → held i v ≡ seen
  pub after : w ≡ loaded v i seen

-- `borrow` of the word i, of a cell that lends this
abbrev pub BorrowedBy : View → ℕ → ℕ → borrowing.Borrow → View → Type 0
BorrowedBy v i most lent.Lent w = Lends v i most w
BorrowedBy v i most (lent.AtLimit seen) w = FindsLimit v i most seen w
BorrowedBy v i most (lent.Lost seen) w = (first : ℕ) × (first < most) × Changed v i first seen w
