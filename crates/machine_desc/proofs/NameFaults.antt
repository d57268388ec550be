-- No fault of what a description names is want of memory, nor is any of a whole description.
use Rattle.std.proofs.Common.{◌≡◌, ◌≢◌, ℕ, List, length, take, true, false, nat_le, nat_lt, ◌||◌, is_some, if◌then◌else◌, Option, Some, None, Err, codes, subst}
use Rattle.std.specs.Prelude.{slice_get}
use Rattle.std.specs.List.{list_any, range_with_len}
use Rattle.std.specs.Str.{is_utf8}
use Rattle.base_words.specs.declared.ids.GuestId.{GuestId}
use Rattle.base_words.specs.declared.ids.NodeId.{NodeId}
use Rattle.base_words.specs.declared.ids.ProcId.{ProcId}
use Rattle.toml.specs.Data.{Members}
use Rattle.toml.specs.Parse.{parse_document}
use Rattle.machine_desc.specs.declared.fault.DescFault.{DescFault}
use Rattle.machine_desc.specs.declared.fault.DescFault.TheVariants.{Toml, Memory}
use Rattle.machine_desc.specs.declared.machine.GuestSpec.{GuestSpec}
use Rattle.machine_desc.specs.declared.sheet.CellTable.{CellTable}
use Rattle.machine_desc.specs.declared.sheet.InputTable.{InputTable}
use Rattle.machine_desc.specs.declared.sheet.Named.{Named}
use Rattle.machine_desc.specs.declared.sheet.Sheet.{Sheet}
use Rattle.machine_desc.specs.declared.sheet.Work.{Work}
use Rattle.machine_desc.specs.declared.sheet.Work.TheVariants.{Run, Move, Fail}
use Rattle.machine_desc.specs.Reads.{Read}
use Rattle.machine_desc.specs.Shapes.{sheet_at}
use Rattle.machine_desc.specs.Names.{there, processors_named, has_node, cell_with, node_named, cell_named, cells_named, home_from, home, homes, guests_named, input_named}
use Rattle.machine_desc.specs.Items.{work_key, on_processor, guest_from, for_guest, target, fails, fails_once, run_item, move_item, fail_item, item_at, items_at, total_steps, few_steps}
use Rattle.machine_desc.specs.Named.{named_at}
use Rattle.machine_desc.specs.Reading.{read_of}
use Rattle.machine_desc.specs.Described.{sheet_of, description_of}
use Rattle.machine_desc.proofs.FaultsTell.{Tells, Tells-then, Tells-if, Tells-unless, Tells-each, Tells-all}
use Rattle.machine_desc.proofs.TableFaults.{Tells-sheet_at}

Tells-there : (key : List ℕ) (count n : ℕ) → Tells (there key count n)
Tells-there key count n = Tells-if (nat_lt n count) tt _ (λ is. cc)

Tells-processors : (count : ℕ) (processors : List NodeId) → Tells (processors_named count processors)
unfolding processors_named
Tells-processors count processors = Tells-all _ (λ i n. Tells-there _ count n.0) 0 processors

Tells-node : (key : List ℕ) (count : ℕ) (cells : List CellTable) (own : List NodeId) (node : ℕ) → Tells (node_named key count cells own node)
Tells-node key count cells own node =
    Tells-then (there key count node) _ (Tells-there key count node) (λ _. Tells-unless (has_node node own || is_some (cell_with node cells)) tt _ (λ is. cc))

Tells-cell : (count i : ℕ) (cells : List CellTable) (nodes : List NodeId) → Tells (cell_named count i cells nodes)
unfolding cell_named
Tells-cell count i cells nodes = Tells-all _ (λ j n. Tells-node _ count cells (take j nodes) n.0) 0 nodes

Tells-cells : (count : ℕ) (cells : List CellTable) → Tells (cells_named count cells)
unfolding cells_named
Tells-cells count cells = Tells-all _ (λ i cell. Tells-cell count i (take i cells) cell.nodes) 0 cells

Tells-home : (node : ℕ) (found : Option ℕ) → Tells (home_from node found)
Tells-home node None = λ is. cc
Tells-home node (Some cell) = tt

Tells-homes : (count : ℕ) (cells : List CellTable) → Tells (homes count cells)
unfolding homes
Tells-homes count cells = Tells-each _ (λ i node. Tells-home node (cell_with node cells)) 0 (range_with_len 0 count)

Tells-guests : (count : ℕ) (guests : List GuestSpec) → Tells (guests_named count guests)
unfolding guests_named
Tells-guests count guests = Tells-all _ (λ i guest. Tells-there _ count guest.node.0) 0 guests

Tells-input : (count : ℕ) (input : List InputTable) → Tells (input_named count input)
unfolding input_named
Tells-input count input = Tells-all _ (λ i entry. Tells-there _ count entry.guest.0) 0 input

-- ---- work

Tells-guest : (key : List ℕ) (n : ℕ) (found : Option GuestSpec) → Tells (guest_from key n found)
Tells-guest key n None = λ is. cc
Tells-guest key n (Some guest) = tt

Tells-target : (s : Sheet) (i : ℕ) (guest : GuestSpec) (home : Option NodeId) → Tells (target s i guest home)
Tells-target s i guest None = tt
Tells-target s i guest (Some node) = Tells-then (there (work_key i (codes "node")) s.machine.nodes node.0) _ (Tells-there _ s.machine.nodes node.0) (λ _. tt)

module _ (s : Sheet) (i : ℕ) (processor : ProcId) where
  Tells-on : Tells (on_processor s i processor)
  Tells-on = Tells-there _ (length s.machine.processors) processor.0

  Tells-for : (guest : GuestId) → Tells (for_guest s i guest)
  Tells-for guest = Tells-guest _ guest.0 (slice_get s.guests guest.0)

Tells-item : (s : Sheet) (i : ℕ) (before : List Work) (w : Work) → Tells (item_at s i before w)
unfolding run_item move_item fail_item
Tells-item s i before (Run processor guest vcpu steps) =
    Tells-then (on_processor s i processor) _ (Tells-on s i processor) λ _.
    Tells-then (for_guest s i guest) _ (Tells-for s i processor guest) λ spec.
    Tells-then (there (work_key i (codes "vcpu")) spec.vcpus vcpu.0) _ (Tells-there _ spec.vcpus vcpu.0) λ _. tt
Tells-item s i before (Move processor guest page kind home) =
    Tells-then (on_processor s i processor) _ (Tells-on s i processor) λ _.
    Tells-then (for_guest s i guest) _ (Tells-for s i processor guest) λ spec.
    Tells-then (there (work_key i (codes "page")) spec.pages page.0) _ (Tells-there _ spec.pages page.0) λ _.
    Tells-then (target s i spec home) _ (Tells-target s i spec home) λ to. tt
Tells-item s i before (Fail processor cell) =
    Tells-then (on_processor s i processor) _ (Tells-on s i processor) λ _.
    Tells-then (there (work_key i (codes "cell")) (length s.cells) cell.0) _ (Tells-there _ (length s.cells) cell.0) λ _.
    Tells-then (fails_once (work_key i (codes "cell")) cell.0 before) _ (Tells-unless (list_any (fails cell.0) before) tt _ (λ is. cc)) λ _. tt

Tells-items : (s : Sheet) → Tells (items_at s)
unfolding items_at
Tells-items s = Tells-each _ (λ i w. Tells-item s i (take i s.work) w) 0 s.work

-- ---- a whole description

Tells-named : (s : Sheet) → Tells (named_at s)
unfolding named_at
Tells-named s =
    Tells-then (processors_named s.machine.nodes s.machine.processors) _ (Tells-processors s.machine.nodes s.machine.processors) λ _.
    Tells-then (cells_named s.machine.nodes s.cells) _ (Tells-cells s.machine.nodes s.cells) λ _.
    Tells-then (homes s.machine.nodes s.cells) _ (Tells-homes s.machine.nodes s.cells) λ cell_of.
    Tells-then (guests_named s.machine.nodes s.guests) _ (Tells-guests s.machine.nodes s.guests) λ _.
    Tells-then (items_at s) _ (Tells-items s) λ work.
    Tells-then (input_named (length s.guests) s.input) _ (Tells-input (length s.guests) s.input) λ _.
    Tells-then (few_steps (total_steps s.work)) _ (Tells-if (nat_le (total_steps s.work) 16000000) tt _ (λ is. cc)) λ _. tt

Tells-read : (document : Option Members) → Tells (read_of document)
Tells-read None = λ is. cc
Tells-read (Some ms) = Tells-then (sheet_at ms) _ (Tells-sheet_at ms) λ s. Tells-then (named_at s) _ (Tells-named s) λ named. tt

Tells-sheet_of : (bytes : List ℕ) → Tells (sheet_of bytes)
Tells-sheet_of bytes = elim (is_utf8 bytes) as (λ b. Tells (let r : Read (Sheet × Named) = if b then read_of (parse_document bytes) else Err Toml in r)) [
  | true ↦ Tells-read (parse_document bytes)
  | false ↦ λ is. cc
]

Tells-description : (bytes : List ℕ) → Tells (description_of bytes)
unfolding description_of
Tells-description bytes = Tells-then (sheet_of bytes) _ (Tells-sheet_of bytes) λ both. tt

pub description_of-told : (bytes : List ℕ) (fault : DescFault) → description_of bytes ≡ Err fault → fault ≢ Memory
description_of-told bytes fault is = subst Tells is (Tells-description bytes)
