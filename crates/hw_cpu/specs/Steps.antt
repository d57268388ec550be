-- What a step of the code is, by the definition of the hardware's step.
use Rattle.std.specs.Prelude.{◌≡◌, ℕ, Bool, true, false, List, Option, None, Result, Ok, Err}
use Rattle.base_words.specs.declared.regs.Regs.{Regs}
use Rattle.base_words.specs.declared.trap.HwStep.{HwStep}
use Rattle.base_words.specs.declared.trap.HwStep.TheVariants as steps
use Rattle.base_words.specs.declared.trap.TrapCause.{TrapCause}
use Rattle.base_words.specs.declared.exception.Use.{Use}
use Rattle.base_words.specs.Place.{Segment, Mapped, Direct, Outside}
use Rattle.base_words.specs.Halves.{Half}
use Rattle.private_machine.specs.declared.register_page.RegBlock.{RegBlock}
use Rattle.private_machine.specs.Backing.{Held}
use Rattle.private_machine.specs.Reaching.{Sight, Wanted, Reached as Place, Lack as Want, NoRange, NoHalf, DeadFrame, NoStore}
use Rattle.private_machine.specs.DirectAccess.{Stepped, Outcome}
use Rattle.hw_cpu.specs.declared.reaching.Reached.{Reached}
use Rattle.hw_cpu.specs.declared.reaching.Wanted.{Wanted as Access}
use Rattle.hw_cpu.specs.declared.reaching.Lack.{Lack}
use Rattle.hw_cpu.specs.declared.reaching.Lack.TheVariants as lacks
use Rattle.hw_cpu.specs.Site.{Site}

-- what a processor goes by, with the register page of what runs, if it has one
abbrev pub sight_of : Bool → ℕ → Bool → List Half → Site → Sight
sight_of user asid line tlb site = record { block = None; user = user; asid = asid; line = line; tlb = tlb; lost = site.lost }

abbrev pub with_page : Option RegBlock → Sight → Sight
with_page block x = record x { block = block }

abbrev pub wanted_at : Use → ℕ → ℕ → Wanted
wanted_at purpose unit address = record { purpose = purpose; unit = unit; address = address }

abbrev pub as_wanted : Access → Wanted
as_wanted w = wanted_at w.purpose w.unit w.address

-- whether a range is one of the mode's
abbrev pub is_within : Segment → Bool
is_within Mapped = true
is_within Direct = true
is_within Outside = false

-- what was reached, or why nothing was, as the definition says it
abbrev pub place_of : Reached → Place
place_of at = record { page = at.page.0; frame = at.frame.0 }

abbrev pub want_of : Lack → Want
want_of lacks.Range = NoRange
want_of lacks.Half = NoHalf
want_of (lacks.Dead at) = DeadFrame (place_of at)
want_of lacks.Store = NoStore

-- no frame is reached
abbrev pub ReachesNone : Result Place Want → Type 0
ReachesNone (Ok at) = ⊥
ReachesNone (Err why) = Unit {0}

-- no frame is reached, and that is why a step traps
pub record Causes (trap : Want → TrapCause) (found : Result Place Want) (cause : TrapCause) : Type 0 where
  pub why : Want
  pub is : found ≡ Err why
  pub told : cause ≡ trap why

-- registers, register page and what can change of the guest, before a step or after it, are what a step leaves
abbrev pub left_by : Regs → Option RegBlock → Held → Stepped
left_by regs block held = record { registers = regs; block = block; held = held }

-- a step leaves what the definition says; a trap changes nothing
abbrev pub Does : Result Outcome TrapCause → Stepped → Stepped → HwStep → Type 0
Does outcome before after (steps.Direct access) = outcome ≡ Ok (record { access = access; after = after })
Does outcome before after (steps.Trap cause) = (outcome ≡ Err cause) × (after ≡ before)
