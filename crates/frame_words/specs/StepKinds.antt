-- What a kind of step does to holds and loans, a row a kind.
use Rattle.std.specs.Prelude.{ℕ, Bool, true, false}
use Rattle.frame_words.specs.declared.view.StepKind.{StepKind}
use Rattle.frame_words.specs.declared.view.StepKind.TheVariants.{Load, Take, Share, GiveBack, Borrow, Repay, Split, Join}

-- the step is a load
abbrev pub is_load : StepKind → Bool
is_load Load = true
is_load Take = false
is_load Share = false
is_load GiveBack = false
is_load Borrow = false
is_load Repay = false
is_load Split = false
is_load Join = false

-- the step gains a frame
abbrev pub gains : StepKind → Bool
gains Load = false
gains Take = true
gains Share = true
gains GiveBack = false
gains Borrow = false
gains Repay = false
gains Split = false
gains Join = false

-- what a borrow adds to a number of loans, and what a repay adds to the number paid
abbrev pub lends : StepKind → ℕ
lends Borrow = 1
lends Load = 0
lends Take = 0
lends Share = 0
lends GiveBack = 0
lends Repay = 0
lends Split = 0
lends Join = 0

abbrev pub pays : StepKind → ℕ
pays Repay = 1
pays Load = 0
pays Take = 0
pays Share = 0
pays GiveBack = 0
pays Borrow = 0
pays Split = 0
pays Join = 0
