-- How a move begins that is asked for, by the plan or the policy, or that a page needs before its bytes change.
use Rattle.std.specs.Prelude.{◌≡◌, ℕ, ◌<◌, length, Some, None}
use Rattle.base_words.specs.declared.moves.MoveKind.{MoveKind}
use Rattle.private_machine.specs.Backing.{Copy, Change}
use Rattle.private_machine.specs.Operation.{Operation}
use Rattle.private_machine.specs.PageMove.{kind_of, target_of}
use Rattle.page_policy.specs.Pages.{AreCounters}
use Rattle.isolation_law.specs.GuestState.{GuestState, page}
use Rattle.isolation_law.specs.MoveRows.{Fits, LiesAlive, bytes_for}
use Rattle.isolation_law.specs.Parts.{Wish}
use Rattle.isolation_law.specs.Phases.{GoesOn}
use Rattle.guest_course.specs.declared.course.Course.{Course}

-- a move, and the node for which it is asked for
abbrev pub wish_of : ℕ → Change → ℕ → Wish
wish_of q change node = record { page = q; kind = kind_of change; node = node }

-- a move that is asked for with the guest's home node
abbrev pub home_wish : GuestState → ℕ → MoveKind → Wish
home_wish s q kind = record { page = q; kind = kind; node = s.around.home }

-- a page may begin to be taken shared: it has no move, and the frame has the bytes that come into it
pub record MayTake (s : GuestState) (q : ℕ) (target : Copy) (operation : Operation) : Type 0 where
  pub goes_on : GoesOn s
  pub is_page : q < length s.pages
  pub rests : (page s q).move ≡ None
  pub bytes : target.bytes ≡ bytes_for s operation
  pub lives : LiesAlive s (Some target)

-- a page is there with its counters
pub record HasPage (c : Course) (q : ℕ) : Type 0 where
  pub is_page : q < length c.pmap.pages
  pub counted : AreCounters (length c.pmap.pages) (length c.around.site.shape.cells) c.counters

-- a move of a page may begin: it has none, and its frame fits
pub record MayBegin (s : GuestState) (q : ℕ) (change : Change) (node : ℕ) : Type 0 where
  pub goes_on : GoesOn s
  pub is_page : q < length s.pages
  pub rests : (page s q).move ≡ None
  pub fits : Fits s node change None s.spares
  pub lives : LiesAlive s (target_of change)
