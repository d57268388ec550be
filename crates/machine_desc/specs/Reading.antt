-- What a description is read as: the machine and the plan, or the first fault.
use Rattle.std.specs.Prelude.{◌≡◌, ◌≢◌, List, ℕ, length, map, IsUtf8, Option, Some, None, Result, Ok, Err}
use Rattle.base_words.specs.declared.ids.CellId.{CellId}
use Rattle.toml.specs.Data.{Members}
use Rattle.toml.specs.Parse.{parse_document}
use Rattle.machine_desc.specs.declared.fault.DescFault.{DescFault}
use Rattle.machine_desc.specs.declared.fault.DescFault.TheVariants.{Toml, Memory}
use Rattle.machine_desc.specs.declared.machine.Machine.{Machine}
use Rattle.machine_desc.specs.declared.plan.Item.{Item}
use Rattle.machine_desc.specs.declared.plan.Plan.{Plan}
use Rattle.machine_desc.specs.declared.sheet.Named.{Named}
use Rattle.machine_desc.specs.declared.sheet.Sheet.{Sheet}
use Rattle.machine_desc.specs.Reads.{Read, ◌>>=◌}
use Rattle.machine_desc.specs.Shapes.{sheet_at}
use Rattle.machine_desc.specs.Named.{named_at}
use Rattle.machine_desc.specs.Input.{AreInputs}

-- first the shapes of all tables, then all that they name
abbrev pub described : Members → Read (Sheet × Named)
described ms = sheet_at ms >>= λ sheet. named_at sheet >>= λ named. Ok (sheet, named)

-- first the grammar of TOML
abbrev pub read_of : Option Members → Read (Sheet × Named)
read_of None = Err Toml
read_of (Some ms) = described ms

-- the machine has what the tables say, and the cell of each node
pub record IsMachine (s : Sheet) (homes : List CellId) (machine : Machine) : Type 0 where
  pub nodes : machine.shape.nodes ≡ s.machine.nodes
  pub frames : machine.shape.frames ≡ s.machine.frames
  pub cells : machine.shape.cells ≡ homes
  pub processors : machine.processors ≡ s.machine.processors
  pub lends : machine.lends ≡ map (λ cell. cell.lend) s.cells
  pub cache : machine.cache ≡ s.machine.cache
  pub guests : machine.guests ≡ s.guests
  pub policy : machine.policy ≡ s.policy

-- the plan has the work with all that it names looked up, and the input of each guest
pub record IsPlan (s : Sheet) (work : List Item) (plan : Plan) : Type 0 where
  pub items : plan.items ≡ work
  pub input : AreInputs (length s.guests) s.input plan.input

-- the bytes describe this machine and this plan
pub record Describes (bytes : List ℕ) (machine : Machine) (plan : Plan) : Type 0 where
  pub utf8 : IsUtf8 bytes
  pub sheet : Sheet
  pub named : Named
  pub no_fault : read_of (parse_document bytes) ≡ Ok (sheet, named)
  pub is_machine : IsMachine sheet named.homes machine
  pub is_plan : IsPlan sheet named.items plan

-- this is the first fault of the bytes
pub record HasFault (bytes : List ℕ) (fault : DescFault) : Type 0 where
  pub text : IsUtf8 bytes → read_of (parse_document bytes) ≡ Err fault
  pub other : ¬ IsUtf8 bytes → fault ≡ Toml

-- the answer is the machine and the plan that the bytes describe, or their first fault, or want of memory
abbrev pub Reads : List ℕ → Result (Machine × Plan) DescFault → Type 0
Reads bytes (Ok (machine, plan)) = Describes bytes machine plan
Reads bytes (Err fault) = fault ≢ Memory → HasFault bytes fault
