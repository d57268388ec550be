-- What the policy asks for after a miss, and when it is due.
use Rattle.std.specs.Prelude.{ℕ, Option, Some, None, option_map}
use Rattle.base_words.specs.declared.moves.MoveKind.{MoveKind}
use Rattle.base_words.specs.declared.moves.Policy.{Policy}
use Rattle.private_machine.specs.Policy.{Misses, choice}
use Rattle.isolation_law.specs.Parts.{Wish}

-- the move of a page to the node that the policy chooses after a miss of this node; none: the page stays
abbrev pub chosen : Policy → ℕ → ℕ → Misses → Option Wish
chosen policy q node m = option_map (λ (kind : MoveKind). record { page = q; kind = kind; node = node }) (choice policy node m)

-- a choice other than to stay becomes due
abbrev pub due_after : Option Wish → Option Wish → Option Wish
due_after None due = due
due_after (Some wish) due = Some wish
