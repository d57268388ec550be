-- Steps of a virtual processor, one after the other, that leave nothing to note.
use Rattle.std.specs.Prelude.{◌≡◌, ℕ, nat_lt, nat_le, ◌&&◌, ◌||◌, Bool, true, false, not, is_some, List, length, Option, slice_index_or}
use Rattle.base_words.specs.Halves.{Half}
use Rattle.base_words.specs.declared.regs.Regs.{Regs}
use Rattle.private_machine.specs.declared.vcpu.Vcpu.{Vcpu}
use Rattle.private_machine.specs.Vcpu.{no_vcpu, with_registers}
use Rattle.private_machine.specs.Signals.{changed}
use Rattle.private_machine.specs.Ticking.{ticking_often}
use Rattle.private_machine.specs.Backing.{Page, Held}
use Rattle.private_machine.specs.Policy.{Misses}
use Rattle.isolation_law.specs.DirectStep.{relinked}
use Rattle.page_policy.specs.Pages.{misses_of}
use Rattle.hw_cpu.specs.Runs.{RunsOpen}
use Rattle.guest_course.specs.declared.place.Place.{Place}
use Rattle.guest_course.specs.HardwareView.{held_by, sight_at}

-- a frame lies on another node than the processor's
abbrev pub is_far : Place → ℕ → Bool
is_far place frame = nat_lt frame place.first || nat_le place.past frame

-- an access of a page on a frame leaves nothing to note: a load by no miss, a store where the page is marked, too
abbrev pub unnoted_by : Place → List Misses → ℕ → ℕ → Bool → Bool
unnoted_by place counters page frame store =
    not (is_far place frame) && (not store || nat_lt page (length counters) && (misses_of page counters).written)

-- the virtual processors after so many steps of one of them, which left these registers and links
abbrev pub run_vcpus : ℕ → ℕ → Regs → List (Option ℕ) → List Vcpu → List Vcpu
run_vcpus v n regs links vcpus = changed v (λ c. ticking_often n (with_registers regs c)) (relinked links vcpus)

-- so many steps were made, with a TLB of these halves, where these frames are lost
pub record RunsOn (unnoted : ℕ → ℕ → Bool → Bool) (n v : ℕ) (lost : ℕ → Bool) (is_open : Bool) (tlb : List Half) (pages : List Page) (vcpus : List Vcpu) (pages' : List Page) (vcpus' : List Vcpu) : Type 0 where
  pub regs : Regs
  pub held : Held
  pub runs : RunsOpen unnoted n (sight_at lost (slice_index_or vcpus v no_vcpu) false tlb) is_open v (slice_index_or vcpus v no_vcpu).registers (held_by pages vcpus) regs held
  pub pages_are : pages' ≡ held.pages
  pub vcpus_are : vcpus' ≡ run_vcpus v n regs held.links vcpus
