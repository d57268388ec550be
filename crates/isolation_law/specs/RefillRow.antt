-- A processor's TLB is filled, and with it the second-level TLB.
use Rattle.std.specs.Prelude.{◌≡◌, ℕ, ◌/◌, Bool, false, not, ◌&&◌, List, Some, None, Ok, Err}
use Rattle.base_words.specs.declared.exception.Use.TheVariants.{Store}
use Rattle.base_words.specs.declared.place.Place.TheVariants.{Memory}
use Rattle.base_words.specs.Halves.{Half, Fills}
use Rattle.base_words.specs.Place.{segment}
use Rattle.private_machine.specs.Backing.{nearest}
use Rattle.private_machine.specs.Reaching.{Wanted}
use Rattle.private_machine.specs.HardwareStep.{Trap}
use Rattle.private_machine.specs.OwnStep.{led}
use Rattle.private_machine.specs.PageMove.{named_by}
use Rattle.private_machine.specs.SecondLevel.{Second, put}
use Rattle.private_machine.specs.Everywhere.{is_everywhere}
use Rattle.isolation_law.specs.Surroundings.{node_of_processor}
use Rattle.isolation_law.specs.GuestState.{GuestState, page, processor, second_level, vcpu_of, with_page, with_tlb, with_second_level}
use Rattle.isolation_law.specs.Content.{content}
use Rattle.isolation_law.specs.DirectStep.{lost_frames}
use Rattle.isolation_law.specs.Needs.{none_of}
use Rattle.isolation_law.specs.Phases.{GoesOn, Runs, MayAct}
use Rattle.private_machine.specs.TrapAccess.{missed_access, is_memory}
use Rattle.isolation_law.specs.Traps.{step_on}

-- a store at this address is granted, too
abbrev pub store_granted : GuestState → ℕ → Wanted → Bool
store_granted s v w = is_memory (led (content s) v w.unit Store w.address)

-- the half for an access to a page, and the second-level entry
abbrev pub half_for : GuestState → ℕ → ℕ → Wanted → ℕ → Half
half_for s p v w q =
    let c = vcpu_of s v in record {
      number = w.address / 4096;
      asid = c.cp0.entry_hi.asid;
      global = is_everywhere c.tlb c.cp0.entry_hi.asid w.address (segment false w.address);
      page = q;
      frame = nearest s.around.frames (lost_frames s.around s.dead) (node_of_processor s.around p) (page s q);
      writable = not (page s q).shared && (none_of (page s q).replicas && store_granted s v w);
    }

abbrev pub second_for : GuestState → ℕ → Wanted → ℕ → Second
second_for s v w q =
    let c = vcpu_of s v in record {
      number = w.address / 4096;
      asid = c.cp0.entry_hi.asid;
      global = is_everywhere c.tlb c.cp0.entry_hi.asid w.address (segment false w.address);
      page = q;
      store = store_granted s v w;
    }

-- what is left by a refill that made these halves
abbrev pub refilled : GuestState → ℕ → ℕ → Wanted → ℕ → List Half → GuestState
refilled s p v w q halves =
    with_second_level (with_tlb (with_page s q (named_by p (page s q))) p halves) v (put (second_for s v w q) (second_level s v))

-- An access of a virtual processor misses the TLB, and leads to a page without a move: its half joins.
pub record Refills (s : GuestState) (p : ℕ) (t : GuestState) : Type 0 where
  pub goes_on : GoesOn s
  pub v : ℕ
  pub runs : Runs s p v
  pub may_act : MayAct s p
  pub trap : Trap
  pub traps : step_on s p v ≡ Err trap
  pub access : Wanted
  pub misses : missed_access trap ≡ Some access
  pub offset : ℕ
  pub leads : led (content s) v access.unit access.purpose access.address ≡ Ok (Memory offset)
  pub rests : (page s (offset / 4096)).move ≡ None
  pub halves : List Half
  pub fills : Fills (half_for s p v access (offset / 4096)) (processor s p).tlb halves
  pub after : t ≡ refilled s p v access (offset / 4096) halves
