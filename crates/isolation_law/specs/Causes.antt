-- Why a move that the plan or the policy asks for isn't begun.
use Rattle.std.specs.Prelude.{◌≡◌, ◌⊎◌, ℕ, if◌then◌else◌, Bool, true, false, not, ◌&&◌, List, Option, Some, None}
use Rattle.std.specs.List.{list_any}
use Rattle.base_words.specs.declared.events.End.{End}
use Rattle.base_words.specs.declared.moves.MoveKind.{MoveKind}
use Rattle.base_words.specs.declared.moves.MoveKind.TheVariants.{Migrate, Replicate, Collapse, Break, TakeShared, GiveShared}
use Rattle.private_machine.specs.Backing.{Page, copies, lies_on}
use Rattle.isolation_law.specs.Surroundings.{cell_of_node, cell_of_processor}
use Rattle.isolation_law.specs.Parts.{Wish, Shown, Cause, Ended, DeadCell, Shared, Replicated, SameNode, NoReplica, NoFrame}
use Rattle.isolation_law.specs.GuestState.{GuestState, page, is_dead}
use Rattle.isolation_law.specs.Needs.{none_of}

-- by the page, and by what is asked of it
abbrev pub by_migrate : ℕ → ℕ → Page → Option Cause
by_migrate frames node g =
    if not (none_of g.replicas) then Some Replicated
    else if lies_on frames node g.master then Some SameNode
    else None

abbrev pub by_kind : ℕ → MoveKind → ℕ → Page → Option Cause
by_kind frames Migrate node g = by_migrate frames node g
by_kind frames Replicate node g = if list_any (lies_on frames node) (copies g) then Some SameNode else None
by_kind frames Collapse node g = if none_of g.replicas then Some NoReplica else None
by_kind frames Break node g = None
by_kind frames TakeShared node g = None
by_kind frames GiveShared node g = None

abbrev pub by_page : ℕ → MoveKind → ℕ → Page → Option Cause
by_page frames kind node g = if g.shared then Some Shared else by_kind frames kind node g

-- a frame is sought on the asked node
abbrev pub seeks_frame : MoveKind → Bool
seeks_frame Migrate = true
seeks_frame Replicate = true
seeks_frame Collapse = false
seeks_frame Break = false
seeks_frame TakeShared = false
seeks_frame GiveShared = false

-- the asking processor's cell has failed, or that of the node on which a frame is sought
abbrev pub by_cell : GuestState → ℕ → Wish → Option Cause
by_cell s p wish =
    if is_dead s (cell_of_processor s.around p) then Some (DeadCell (cell_of_processor s.around p))
    else if seeks_frame wish.kind && is_dead s (cell_of_node s.around wish.node) then Some (DeadCell (cell_of_node s.around wish.node))
    else by_page s.around.frames wish.kind wish.node (page s wish.page)

abbrev pub by_end : GuestState → ℕ → Wish → Option End → Option Cause
by_end s p wish None = by_cell s p wish
by_end s p wish (Some end) = Some Ended

-- the first cause, in their order, but for the want of a frame
abbrev pub first_cause : GuestState → ℕ → Wish → Option Cause
first_cause s p wish = by_end s p wish s.end

-- the want of a frame comes last, and what the nodes showed is left open
pub record WantsFrame (s : GuestState) (p : ℕ) (wish : Wish) (cause : Cause) : Type 0 where
  pub no_other : first_cause s p wish ≡ None
  pub seeks : seeks_frame wish.kind ≡ true
  pub shown : List Shown
  pub is_it : cause ≡ NoFrame shown

abbrev pub IsCause : GuestState → ℕ → Wish → Cause → Type 0
IsCause s p wish cause = (first_cause s p wish ≡ Some cause) ⊎ WantsFrame s p wish cause
