-- When the policy moves a page: by the misses on it, each a direct access from another node than the frame's.
use Rattle.std.specs.Prelude.{ℕ, ◌==◌, nat_le, if◌then◌else◌, Bool, true, false, not, ◌&&◌, Option, Some, None, List, map, slice_index, slice_set, replicate}
use Rattle.std.specs.List.{list_all}
use Rattle.base_words.specs.Counts.{counted}
use Rattle.base_words.specs.declared.moves.MoveKind.{MoveKind}
use Rattle.base_words.specs.declared.moves.MoveKind.TheVariants.{Migrate, Replicate}
use Rattle.base_words.specs.declared.moves.Policy.{Policy}

-- the misses of a page by node, and whether it was written
pub record Misses : Type 0 where
  pub by_node : List ℕ
  pub written : Bool

abbrev pub no_misses : ℕ → Misses
no_misses nodes = record { by_node = replicate nodes 0; written = false }

-- one miss more of a node; a counter stays at its greatest value
abbrev pub missed : ℕ → Misses → Misses
missed node m = record m { by_node = slice_set m.by_node node (counted (slice_index m.by_node node)) }

-- an access of a node: whether it was a miss, and whether it was a store
abbrev pub noted : Bool → Bool → ℕ → Misses → Misses
noted miss store node m =
    let n = if miss then missed node m else m in
    if store then record n { written = true } else n

-- counters and mark start anew
abbrev pub anew : Misses → Misses
anew m = record { by_node = map (λ n. 0) m.by_node; written = false }

-- all counters but a node's are 0
abbrev pub alone_misses : ℕ → List ℕ → Bool
alone_misses node counts = list_all (λ n. n == 0) (slice_set counts node 0)

-- a threshold of 0 is never reached
abbrev pub reaches : ℕ → ℕ → Bool
reaches threshold count = not (threshold == 0) && nat_le threshold count

-- which move to the node the policy chooses after a miss of this node; none: the page stays
abbrev pub choice : Policy → ℕ → Misses → Option MoveKind
choice policy node m =
    if reaches policy.migrate (slice_index m.by_node node) && alone_misses node m.by_node then Some Migrate
    else if reaches policy.replicate (slice_index m.by_node node) && not m.written then Some Replicate
    else None
