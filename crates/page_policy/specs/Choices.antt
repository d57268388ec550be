-- A choice as the kind of the move and the node to which it leads.
use Rattle.std.specs.Prelude.{◌≡◌, Option, Some, None}
use Rattle.base_words.specs.declared.ids.NodeId.{NodeId}
use Rattle.base_words.specs.declared.moves.MoveKind.{MoveKind}
use Rattle.base_words.specs.declared.moves.MoveKind.TheVariants as moves
use Rattle.page_policy.specs.declared.choice.Choice.{Choice}
use Rattle.page_policy.specs.declared.choice.Choice.TheVariants.{Stay, Migrate, Replicate}

-- the kind of the move, or none where the page stays
abbrev pub kind_of : Choice → Option MoveKind
kind_of Stay = None
kind_of (Migrate node) = Some moves.Migrate
kind_of (Replicate node) = Some moves.Replicate

-- a move leads to this node
abbrev pub IsTo : NodeId → Choice → Type 0
IsTo node Stay = Unit {0}
IsTo node (Migrate n) = n ≡ node
IsTo node (Replicate n) = n ≡ node
