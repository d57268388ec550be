-- Where a branch or a jump leads.
use Rattle.std.specs.Prelude.{◌≡◌, ◌*◌, ℕ, Bool, true, false, Some, None, Ok}
use Rattle.base_words.specs.declared.regs.Regs.{Regs}
use Rattle.base_words.specs.declared.effect.Request.TheVariants as asks
use Rattle.base_words.specs.Fields.{sum, sign_extended}
use Rattle.base_words.specs.Instruction.{effect, linked, to_slot}
use Rattle.page_ops.specs.Ops.{instr_of, AsksFor}
use Rattle.page_ops.specs.declared.leading.Lead.{Lead}
use Rattle.page_ops.specs.declared.leading.Lead.TheVariants.{ToSlot, PastSlot, Asks, Nowhere}
use Rattle.page_ops.specs.declared.op.Op.{Op}

-- where a branch leads, taken or not
abbrev pub target : Bool → ℕ → ℕ → ℕ
target true offset pc = sum (sum pc 4) (4 * sign_extended offset)
target false offset pc = sum pc 8

abbrev pub leads_to : Bool → ℕ → ℕ → Lead
leads_to taken offset pc = ToSlot (target taken offset pc)

-- a likely branch that isn't taken passes over its delay slot
abbrev pub leads_likely : Bool → ℕ → ℕ → Lead
leads_likely true offset pc = ToSlot (target true offset pc)
leads_likely false offset pc = PastSlot

-- a register has the address after the delay slot, wherever the program counter stands
pub record HasLinked (old : Regs) (number pc : ℕ) (new : Regs) : Type 0 where
  pub links : linked (record old { pc = pc; slot = None }) number ≡ record new { pc = pc; slot = None }
  pub slot : new.slot ≡ old.slot

-- an instruction at an address, which isn't in a delay slot, leads there, with the link that it leaves; or nothing is done
abbrev pub Leads : Op → Regs → Regs → ℕ → Lead → Type 0
Leads op old new pc (ToSlot to) = (effect (instr_of op) (record old { pc = pc; slot = None }) ≡ Ok (record { registers = to_slot (record new { pc = pc; slot = None }) to; request = asks.Nothing })) × (new.slot ≡ old.slot)
Leads op old new pc PastSlot = (effect (instr_of op) (record old { pc = pc; slot = None }) ≡ Ok (record { registers = record new { pc = sum pc 8; slot = None }; request = asks.Nothing })) × (new.slot ≡ old.slot)
Leads op old new pc (Asks request) = (new ≡ old) × AsksFor op old (Some request)
Leads op old new pc Nowhere = new ≡ old
