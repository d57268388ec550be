-- What counts entries: a test that answers by a function.
use Rattle.std.specs.Prelude.{◌≡◌, Bool}
use Rattle.base_words.specs.declared.events.Event.{Event}

-- each answer that a test can give of an entry is the function's
abbrev pub AnswersBy : (Event → Bool → Type 0) → (Event → Bool) → Type 0
AnswersBy answer passes = (e : Event) (r : Bool) → answer e r → r ≡ passes e
