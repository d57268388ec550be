-- What fits the run that is named by its guests' starts and its board.
use Rattle.std.specs.Prelude.{◌≡◌, ℕ, ◌<◌, List, length, Some, slice_get}
use Rattle.base_words.specs.Limits.{most_processors}
use Rattle.atomic_table.specs.Seated.{TableId}
use Rattle.shootdown.specs.Notes.{Token}
use Rattle.isolation_law.specs.Parts.{Wish}
use Rattle.isolation_law.specs.Start.{Boot}
use Rattle.guest_core.specs.MoveCalls.{IsPlanned}

-- a token of the run: of its board, and of a processor that each of its guests has, one of the few that a machine may have
pub record Fits (starts : List Boot) (board : TableId) (token : Token) : Type 0 where
  pub board_is : token.board ≡ board
  pub few : token.number < most_processors
  pub is_processor : (g : ℕ) (b : Boot) → slice_get starts g ≡ Some b → token.number < length b.around.processors

-- the guest of that number has this virtual processor
abbrev pub HasVcpu : List Boot → ℕ → ℕ → Type 0
HasVcpu starts g v = (b : Boot) → slice_get starts g ≡ Some b → v < b.vcpus

-- the guest of that number may be asked for this move: it has the page, the machine has the node, and the plan may ask for it
pub record MayAsk (b : Boot) (wish : Wish) : Type 0 where
  pub is_page : wish.page < b.image.pages
  pub is_node : wish.node < length b.around.nodes
  pub planned : IsPlanned b.around wish

abbrev pub MayAskOf : List Boot → ℕ → Wish → Type 0
MayAskOf starts g wish = (b : Boot) → slice_get starts g ≡ Some b → MayAsk b wish
