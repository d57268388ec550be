-- What was written on a register page, as its registers of coprocessor 0 take it.
use Rattle.std.specs.Prelude.{ℕ, ◌==◌, if◌then◌else◌, Option, Some, None}
use Rattle.base_words.specs.declared.coprocessor.Cp0Registers.{Cp0Registers}
use Rattle.base_words.specs.declared.coprocessor.Cp0Register.{Cp0Register}
use Rattle.base_words.specs.declared.coprocessor.Cp0Register.TheVariants.{Index, EntryLo0, EntryLo1, Epc}
use Rattle.base_words.specs.Coprocessor.{writes}
use Rattle.private_machine.specs.declared.register_page.RegBlock.{RegBlock}

-- a register takes its word where it is another than before
abbrev pub taken_if : Cp0Register → ℕ → ℕ → Cp0Registers → Cp0Registers
taken_if register before after c = if after == before then c else writes c register after

abbrev pub taken_back : RegBlock → RegBlock → Cp0Registers → Cp0Registers
taken_back b a c = taken_if Epc b.epc a.epc (taken_if EntryLo1 b.lo1 a.lo1 (taken_if EntryLo0 b.lo0 a.lo0 (taken_if Index b.index a.index c)))

-- what was written on a page that there is, between what it was and what it is
abbrev pub taken_from : Option RegBlock → Option RegBlock → Cp0Registers → Cp0Registers
taken_from (Some before) (Some after) c = taken_back before after c
taken_from (Some before) None c = c
taken_from None after c = c
