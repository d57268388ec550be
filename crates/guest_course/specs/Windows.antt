-- What steps go by.
use Rattle.std.specs.Prelude.{◌≡◌, ℕ, Bool, false, List, slice_index_or}
use Rattle.base_words.specs.Halves.{Half}
use Rattle.base_words.specs.Coprocessor.{in_user_mode}
use Rattle.private_machine.specs.declared.vcpu.Vcpu.{Vcpu}
use Rattle.private_machine.specs.Vcpu.{no_vcpu}
use Rattle.base_words.specs.declared.exception.Use.TheVariants.{Fetch as fetches}
use Rattle.hw_cpu.specs.KeptPages.{IsKeptPage}
use Rattle.isolation_law.specs.GuestState.{processor}
use Rattle.guest_course.specs.declared.course.Course.{Course}
use Rattle.guest_course.specs.declared.window.Window.{Window}
use Rattle.guest_course.specs.CourseView.{state_of}
use Rattle.guest_course.specs.Failures.{lost_in}
use Rattle.guest_course.specs.HardwareView.{sight_at}

-- the mode and the address space of a virtual processor, and what the fetches of a page reach in them
pub record IsWindow (lost : ℕ → Bool) (c : Vcpu) (tlb : List Half) (window : Window) : Type 0 where
  pub user : window.user ≡ in_user_mode c.cp0.status
  pub asid : window.asid ≡ c.cp0.entry_hi.asid
  pub fetched : IsKeptPage fetches (sight_at lost c false tlb) window.fetched

-- of one that is loaded on a processor
abbrev pub IsWindowOn : Course → ℕ → ℕ → Window → Type 0
IsWindowOn c p v window =
    IsWindow (lost_in c.around.site.shape c.dead) (slice_index_or c.vcpus.items v no_vcpu) (processor (state_of c) p).tlb window
