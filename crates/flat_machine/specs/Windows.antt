-- What a run of steps of one virtual processor goes by.
use Rattle.std.specs.Prelude.{◌≡◌, ℕ, false, ◌+◌, ◌*◌, ◌/◌, ◌%◌, ◌^◌, ◌<◌, ◌≤◌, Option, Some, None, Ok, replicate}
use Rattle.base_words.specs.declared.ids.VcpuId.{VcpuId}
use Rattle.base_words.specs.declared.events.OwnEvent.TheVariants.{Step}
use Rattle.private_machine.specs.PrivateRun.{private_run}
use Rattle.base_words.specs.declared.exception.Use.{Use}
use Rattle.base_words.specs.declared.exception.Use.TheVariants.{Fetch, Load, Store}
use Rattle.base_words.specs.declared.place.Place.TheVariants.{Memory}
use Rattle.base_words.specs.Place.{AddressSpace, place}
use Rattle.private_machine.specs.Vcpu.{space_of}
use Rattle.private_machine.specs.PrivateMachine.{PrivateMachine, vcpu}
use Rattle.guest_devs.specs.Quiet.{AreQuiet}
use Rattle.flat_machine.specs.declared.window.KeptPage.{KeptPage}
use Rattle.flat_machine.specs.declared.window.KeptPages.{KeptPages}
use Rattle.flat_machine.specs.declared.window.Window.{Window}

-- a page of memory to which all accesses of one kind to a virtual page lead, if they are aligned
pub record IsPageOf (purpose : Use) (space : AddressSpace) (pages : ℕ) (page : KeptPage) : Type 0 where
  pub aligned : page.start % 4096 ≡ 0
  pub whole : page.start + 4096 ≤ 4096 * pages
  pub physical : page.start + 4096 ≤ 2 ^ 36
  pub leads : (unit address : ℕ) → address / 4096 ≡ page.number → address % unit ≡ 0 → place space pages unit purpose address ≡ Ok (Memory (page.start + address % 4096))

abbrev pub IsKeptPage : Use → AddressSpace → ℕ → Option KeptPage → Type 0
IsKeptPage purpose space pages None = Unit {0}
IsKeptPage purpose space pages (Some page) = IsPageOf purpose space pages page

-- those of the last accesses
pub record AreKept (space : AddressSpace) (pages : ℕ) (kept : KeptPages) : Type 0 where
  pub fetched : IsKeptPage Fetch space pages kept.fetched
  pub loaded : IsKeptPage Load space pages kept.loaded
  pub stored : IsKeptPage Store space pages kept.stored

-- nothing comes before so many steps, the virtual processor makes them, and the pages are those of its accesses
pub record IsWindow (m : PrivateMachine) (v : ℕ) (w : Window) : Type 0 where
  pub quiet : AreQuiet w.quiet v m.vcpus m.devices
  pub running : 0 < w.quiet → (vcpu m v).halted ≡ false
  pub kept : AreKept (space_of (vcpu m v)) m.pages w.pages

-- an instruction left coprocessor 0, the TLB, the count of the steps, whether it has halted and the devices as they were
pub record Keeps (m : PrivateMachine) (v : ℕ) (n : PrivateMachine) : Type 0 where
  pub cp0 : (vcpu n v).cp0 ≡ (vcpu m v).cp0
  pub tlb : (vcpu n v).tlb ≡ (vcpu m v).tlb
  pub steps : (vcpu n v).steps ≡ (vcpu m v).steps
  pub halted : (vcpu n v).halted ≡ (vcpu m v).halted
  pub devices : n.devices ≡ m.devices
  pub pages : n.pages ≡ m.pages

-- fewer steps than these were made
abbrev pub MadeSome : PrivateMachine → VcpuId → ℕ → PrivateMachine → Type 0
MadeSome m v steps n = (made : ℕ) × (made < steps) × (n ≡ private_run m (replicate made (Step v)))
