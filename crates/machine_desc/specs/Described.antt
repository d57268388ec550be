-- What bytes describe, as a function of them: a machine, the guests on it and what they are to do; else the first fault.
use Rattle.std.specs.Prelude.{ℕ, List, length, map, if◌then◌else◌, Ok, Err}
use Rattle.std.specs.Str.{is_utf8}
use Rattle.base_words.specs.declared.ids.CellId.{CellId}
use Rattle.base_words.specs.declared.ids.NodeId.{NodeId}
use Rattle.base_words.specs.declared.input.InputEntry.{InputEntry}
use Rattle.base_words.specs.declared.moves.Policy.{Policy}
use Rattle.toml.specs.Parse.{parse_document}
use Rattle.machine_desc.specs.declared.fault.DescFault.TheVariants.{Toml}
use Rattle.machine_desc.specs.declared.machine.GuestSpec.{GuestSpec}
use Rattle.machine_desc.specs.declared.machine.Machine.{Machine}
use Rattle.machine_desc.specs.declared.plan.Item.{Item}
use Rattle.machine_desc.specs.declared.plan.Plan.{Plan}
use Rattle.machine_desc.specs.declared.sheet.Named.{Named}
use Rattle.machine_desc.specs.declared.sheet.Sheet.{Sheet}
use Rattle.machine_desc.specs.Reads.{Read, ◌>>=◌}
use Rattle.machine_desc.specs.Input.{inputs_of}
use Rattle.machine_desc.specs.Reading.{read_of}

-- a description: how many nodes of how many frames each, the cell of each node, the node of each processor, what each cell lends,
-- how many shared blocks a cell may keep, the guests, when their pages move, the work in order, and the input of each guest
pub record Described : Type 0 where
  pub nodes : ℕ
  pub frames : ℕ
  pub cells : List CellId
  pub processors : List NodeId
  pub lends : List ℕ
  pub cache : ℕ
  pub guests : List GuestSpec
  pub policy : Policy
  pub items : List Item
  pub input : List (List InputEntry)

-- the machine and the plan, seen so
abbrev pub described_seen : Machine → Plan → Described
described_seen machine plan = record {
  nodes = machine.shape.nodes;
  frames = machine.shape.frames;
  cells = machine.shape.cells;
  processors = machine.processors;
  lends = machine.lends;
  cache = machine.cache;
  guests = machine.guests;
  policy = machine.policy;
  items = plan.items;
  input = plan.input;
}

-- the tables, with all that they name looked up, seen so
abbrev pub described_of : Sheet → Named → Described
described_of s named = record {
  nodes = s.machine.nodes;
  frames = s.machine.frames;
  cells = named.homes;
  processors = s.machine.processors;
  lends = map (λ cell. cell.lend) s.cells;
  cache = s.machine.cache;
  guests = s.guests;
  policy = s.policy;
  items = named.items;
  input = inputs_of (length s.guests) s.input;
}

-- first the bytes have to be text, then a document of TOML, then come the tables and what they name
abbrev pub sheet_of : List ℕ → Read (Sheet × Named)
sheet_of bytes = if is_utf8 bytes then read_of (parse_document bytes) else Err Toml

-- what the bytes describe, or their first fault
unfoldable pub description_of : List ℕ → Read Described
description_of bytes = sheet_of bytes >>= λ both. Ok (described_of both.0 both.1)
