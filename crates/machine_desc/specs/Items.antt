-- The items of a plan: the work, each with all that it names looked up, or the first fault.
use Rattle.std.specs.Prelude.{ℕ, List, Bool, false, ◌==◌, nat_le, if◌then◌else◌, length, take, slice_get, sum_by, codes, Option, Some, None, Ok, Err}
use Rattle.std.specs.List.{list_any}
use Rattle.base_words.specs.declared.ids.CellId.{CellId}
use Rattle.base_words.specs.declared.ids.GuestId.{GuestId}
use Rattle.base_words.specs.declared.ids.NodeId.{NodeId}
use Rattle.base_words.specs.declared.ids.Ppn.{Ppn}
use Rattle.base_words.specs.declared.ids.ProcId.{ProcId}
use Rattle.base_words.specs.declared.ids.VcpuId.{VcpuId}
use Rattle.machine_desc.specs.declared.fault.DescFault.TheVariants as fault
use Rattle.machine_desc.specs.declared.machine.GuestSpec.{GuestSpec}
use Rattle.machine_desc.specs.declared.place.Place.TheVariants as places
use Rattle.machine_desc.specs.declared.plan.Item.{Item}
use Rattle.base_words.specs.declared.moves.MoveKind.{MoveKind}
use Rattle.machine_desc.specs.declared.plan.Item.TheVariants as items
use Rattle.machine_desc.specs.declared.sheet.Sheet.{Sheet}
use Rattle.machine_desc.specs.declared.sheet.Work.{Work}
use Rattle.machine_desc.specs.declared.sheet.Work.TheVariants.{Run, Move, Fail}
use Rattle.machine_desc.specs.Paths.{path}
use Rattle.machine_desc.specs.Reads.{Read, ◌>>=◌, each}
use Rattle.machine_desc.specs.Names.{there}

-- the path of a key of this piece of work
abbrev pub work_key : ℕ → List ℕ → List ℕ
work_key i key = path (places.Work i) key

-- the processor is there
abbrev pub on_processor : Sheet → ℕ → ProcId → Read (Unit {0})
on_processor s i processor = there (work_key i (codes "processor")) (length s.machine.processors) processor.0

-- the guest that was found, if any
abbrev pub guest_from : List ℕ → ℕ → Option GuestSpec → Read GuestSpec
guest_from key n None = Err (fault.Names key n)
guest_from key n (Some guest) = Ok guest

-- the guest that work is for
abbrev pub for_guest : Sheet → ℕ → GuestId → Read GuestSpec
for_guest s i guest = guest_from (work_key i (codes "guest")) guest.0 (slice_get s.guests guest.0)

-- where a move leads: to its node, which is there, or for a collapse to the guest's home
abbrev pub target : Sheet → ℕ → GuestSpec → Option NodeId → Read NodeId
target s i guest None = Ok guest.node
target s i guest (Some node) = there (work_key i (codes "node")) s.machine.nodes node.0 >>= λ _. Ok node

-- this work fails the cell
abbrev pub fails : ℕ → Work → Bool
fails cell (Fail processor failed) = failed.0 == cell
fails cell _ = false

-- the cell is failed by no work before
abbrev pub fails_once : List ℕ → ℕ → List Work → Read (Unit {0})
fails_once key cell before = if list_any (fails cell) before then Err (fault.Twice key cell) else Ok tt

-- a run whose processor, guest and vcpu are there
unfoldable pub run_item : Sheet → ℕ → ProcId → GuestId → VcpuId → ℕ → Read Item
run_item s i processor guest vcpu steps = do
  _ ← on_processor s i processor
  spec ← for_guest s i guest
  _ ← there (work_key i (codes "vcpu")) spec.vcpus vcpu.0
  Ok (items.Run processor guest vcpu steps)

-- a move whose processor, guest, page and node are there
unfoldable pub move_item : Sheet → ℕ → ProcId → GuestId → Ppn → MoveKind → Option NodeId → Read Item
move_item s i processor guest page kind node = do
  _ ← on_processor s i processor
  spec ← for_guest s i guest
  _ ← there (work_key i (codes "page")) spec.pages page.0
  to ← target s i spec node
  Ok (items.Move processor guest page kind to)

-- a failure whose processor and cell are there, and that is the first of the cell
unfoldable pub fail_item : Sheet → ℕ → List Work → ProcId → CellId → Read Item
fail_item s i before processor cell = do
  _ ← on_processor s i processor
  _ ← there (work_key i (codes "cell")) (length s.cells) cell.0
  _ ← fails_once (work_key i (codes "cell")) cell.0 before
  Ok (items.Fail processor cell)

-- a piece of work as an item, by its number and the work before it
abbrev pub item_at : Sheet → ℕ → List Work → Work → Read Item
item_at s i before (Run processor guest vcpu steps) = run_item s i processor guest vcpu steps
item_at s i before (Move processor guest page kind node) = move_item s i processor guest page kind node
item_at s i before (Fail processor cell) = fail_item s i before processor cell

-- all work in order
unfoldable pub items_at : Sheet → Read (List Item)
items_at s = each (λ i w. item_at s i (take i s.work) w) 0 s.work

-- the steps that work asks for
abbrev pub steps_of : Work → ℕ
steps_of (Run processor guest vcpu steps) = steps
steps_of _ = 0

-- their sum
abbrev pub total_steps : List Work → ℕ
total_steps work = sum_by steps_of work

-- no more than 16,000,000 steps
abbrev pub few_steps : ℕ → Read (Unit {0})
few_steps total = if nat_le total 16000000 then Ok tt else Err (fault.Steps total)
