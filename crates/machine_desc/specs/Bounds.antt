-- The bounds of each part of a description: of a guest, of the policy, of the work, and of the input.
use Rattle.std.specs.Prelude.{◌≡◌, ℕ, ◌<◌, ◌≤◌, ◌==◌, List, length, Bool, false, All, slice_get, IfSome}
use Rattle.std.specs.Option.{IsSomeAnd}
use Rattle.std.specs.List.Sorted.{IsNonDecreasingBy}
use Rattle.base_words.specs.declared.ids.CellId.{CellId}
use Rattle.base_words.specs.declared.ids.GuestId.{GuestId}
use Rattle.base_words.specs.declared.ids.NodeId.{NodeId}
use Rattle.base_words.specs.declared.ids.Ppn.{Ppn}
use Rattle.base_words.specs.declared.ids.ProcId.{ProcId}
use Rattle.base_words.specs.declared.ids.VcpuId.{VcpuId}
use Rattle.base_words.specs.declared.input.InputEntry.{InputEntry}
use Rattle.base_words.specs.declared.moves.MoveKind.{MoveKind}
use Rattle.base_words.specs.declared.moves.MoveKind.TheVariants.{Migrate, Replicate, Collapse, Break, TakeShared, GiveShared}
use Rattle.base_words.specs.declared.moves.Policy.{Policy}
use Rattle.machine_desc.specs.declared.machine.GuestSpec.{GuestSpec}
use Rattle.machine_desc.specs.declared.plan.Item.{Item}
use Rattle.machine_desc.specs.declared.plan.Item.TheVariants.{Run, Move, Fail}
use Rattle.machine_desc.specs.Input.{at_of}
use Rattle.machine_desc.specs.Described.{Described}

-- the name of a file
pub record IsName (name : List ℕ) : Type 0 where
  pub some : 0 < length name
  pub few : length name ≤ 255

-- a guest at home on one of so many nodes
pub record IsGuest (nodes : ℕ) (guest : GuestSpec) : Type 0 where
  pub image : IsName guest.image
  pub some_pages : 0 < guest.pages
  pub few_pages : guest.pages ≤ 2048
  pub some_vcpus : 0 < guest.vcpus
  pub few_vcpus : guest.vcpus ≤ 4
  pub home : guest.node.0 < nodes
  pub disk : IfSome guest.disk IsName
  pub some_profile : 0 < guest.profile
  pub few_profiles : guest.profile ≤ 2

pub record IsPolicy (policy : Policy) : Type 0 where
  pub migrate : policy.migrate ≤ 1000000
  pub replicate : policy.replicate ≤ 1000000

-- a run of a virtual processor that the guest has
pub record IsRun (d : Described) (processor : ProcId) (guest : GuestId) (vcpu : VcpuId) (steps : ℕ) : Type 0 where
  pub on : processor.0 < length d.processors
  pub of : IsSomeAnd (slice_get d.guests guest.0) (λ spec. vcpu.0 < spec.vcpus)
  pub few : steps ≤ 16000000

-- where a move of this kind leads: to a node, or for a collapse home
abbrev pub LeadsTo : ℕ → GuestSpec → MoveKind → NodeId → Type 0
LeadsTo nodes guest Migrate node = node.0 < nodes
LeadsTo nodes guest Replicate node = node.0 < nodes
LeadsTo nodes guest Collapse node = node ≡ guest.node
LeadsTo nodes guest Break node = ⊥
LeadsTo nodes guest TakeShared node = ⊥
LeadsTo nodes guest GiveShared node = ⊥

-- a move of a page that the guest has
pub record IsMove (d : Described) (processor : ProcId) (guest : GuestId) (page : Ppn) (kind : MoveKind) (node : NodeId) : Type 0 where
  pub on : processor.0 < length d.processors
  pub of : IsSomeAnd (slice_get d.guests guest.0) (λ spec. page.0 < spec.pages)
  pub to : IsSomeAnd (slice_get d.guests guest.0) (λ spec. LeadsTo d.nodes spec kind node)

-- the failure of a cell that is there
pub record IsFail (d : Described) (processor : ProcId) (cell : CellId) : Type 0 where
  pub on : processor.0 < length d.processors
  pub of : cell.0 < length d.lends

abbrev pub IsItem : Described → Item → Type 0
IsItem d (Run processor guest vcpu steps) = IsRun d processor guest vcpu steps
IsItem d (Move processor guest page kind node) = IsMove d processor guest page kind node
IsItem d (Fail processor cell) = IsFail d processor cell

-- the steps that an item asks for
abbrev pub item_steps : Item → ℕ
item_steps (Run processor guest vcpu steps) = steps
item_steps (Move processor guest page kind node) = 0
item_steps (Fail processor cell) = 0

-- whether an item fails the cell
abbrev pub item_fails : ℕ → Item → Bool
item_fails cell (Run processor guest vcpu steps) = false
item_fails cell (Move processor guest page kind node) = false
item_fails cell (Fail processor failed) = failed.0 == cell

pub record IsEntry (entry : InputEntry) : Type 0 where
  pub early : entry.at ≤ 16000000
  pub some : 0 < length entry.text
  pub few : length entry.text ≤ 1024

-- the input of a guest, in order
pub record IsInput (input : List InputEntry) : Type 0 where
  pub entries : All IsEntry input
  pub in_order : IsNonDecreasingBy at_of input
