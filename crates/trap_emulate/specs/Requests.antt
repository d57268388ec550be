-- What the code says of a request and of its access.
use Rattle.std.specs.Prelude.{◌≢◌, Result, Ok, Err}
use Rattle.base_words.specs.declared.effect.Request.{Request}
use Rattle.base_words.specs.declared.effect.Request.TheVariants as asks
use Rattle.base_words.specs.declared.exception.Exception.{Exception}
use Rattle.base_words.specs.declared.regs.Regs.{Regs}
use Rattle.base_words.specs.Instruction.{Effect}
use Rattle.mips_alu.specs.Execution.{passed}
use Rattle.private_machine.specs.Reaching.{Wanted}
use Rattle.trap_emulate.specs.declared.requests.Access.{Access}

-- an instruction raises an exception, or asks something of memory or of coprocessor 0
abbrev pub AsksSomething : Result Effect Exception → Type 0
AsksSomething (Err x) = Unit {0}
AsksSomething (Ok does) = does.request ≢ asks.Nothing

-- a request of coprocessor 0
abbrev pub IsOfCoprocessor : Request → Type 0
IsOfCoprocessor asks.Nothing = ⊥
IsOfCoprocessor (asks.Load kind address target) = ⊥
IsOfCoprocessor (asks.Store kind address value) = ⊥
IsOfCoprocessor (asks.LoadLinked address target) = ⊥
IsOfCoprocessor (asks.StoreConditional address value target) = ⊥
IsOfCoprocessor (asks.ReadCp0 number target) = Unit {0}
IsOfCoprocessor (asks.WriteCp0 number value) = Unit {0}
IsOfCoprocessor (asks.System op) = Unit {0}

-- an instruction's effect, by what it asks
abbrev pub asked_of : Regs → Result Request Exception → Result Effect Exception
asked_of regs (Err x) = Err x
asked_of regs (Ok request) = Ok (record { registers = passed request regs; request = request })

-- an access as the hardware's definition has it
abbrev pub wanted_of : Access → Wanted
wanted_of a = record { purpose = a.purpose; unit = a.unit; address = a.address }
