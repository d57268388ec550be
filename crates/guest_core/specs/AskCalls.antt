-- What comes of a move that is asked for.
use Rattle.std.specs.Prelude.{◌≡◌, ℕ, List, Some, Result, OnOk}
use Rattle.std.specs.declared.alloc.AllocError.{AllocError}
use Rattle.base_words.specs.declared.moves.By.{By}
use Rattle.shootdown.specs.Notes.{Token}
use Rattle.isolation_law.specs.GuestState.{due_on}
use Rattle.isolation_law.specs.Parts.{Wish}
use Rattle.isolation_law.specs.Phases.{MayAct}
use Rattle.guest_core.specs.GuestView.{Monitored}
use Rattle.guest_core.specs.GuestCalls.{Leaves, processor_of}
use Rattle.guest_core.specs.MoveCalls.{AsksBy, AsksMove, told_by}
use Rattle.guest_core.specs.declared.answers.Asked.{Asked}

-- Who asked, what came of it, and what was told. The processor may act once what is due on it was asked for.
pub record IsAsked (lends : List ℕ) (home : ℕ) (old : Monitored) (token : Token) (wish : Wish) (new : Monitored) (token_after : Token) (answer : Result Asked AllocError) : Type 0 where
  pub by : By
  pub asker : AsksBy old.state (processor_of token) wish by
  pub asks : AsksMove lends home old (processor_of token) by wish new answer
  pub leaves : Leaves old token (told_by by wish answer) new token_after
  pub acts : due_on old.state token.number ≡ Some wish → OnOk answer (MayAct new.state token.number)
