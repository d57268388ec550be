-- What holds of a guest that hasn't ended: TLBs, replicas, moves and second-level entries agree with its pages.
use Rattle.isolation_law.specs.PageRules.{sources, Sources, PageRule, needs_spare, BlockRule}
use Rattle.isolation_law.specs.Given.{IsIn, given}
use Rattle.std.specs.Prelude.{◌≡◌, ◌≢◌, ◌⊎◌, ℕ, ◌<◌, ◌≤◌, ◌*◌, Bool, true, false, List, [], length, count_by, map, Option, Some, None, slice_index_or}
use Rattle.base_words.specs.declared.exception.Use.{Use}
use Rattle.base_words.specs.declared.exception.Use.TheVariants.{Load, Store}
use Rattle.base_words.specs.declared.tlb.Entry.{Entry}
use Rattle.base_words.specs.Halves.{Half}
use Rattle.base_words.specs.Membership.{IsMember, Has}
use Rattle.base_words.specs.Place.{segment}
use Rattle.private_machine.specs.Vcpu.{no_vcpu}
use Rattle.private_machine.specs.Backing.{Copy, Page, page_at, copies}
use Rattle.private_machine.specs.Operation.{Packet, Operation}
use Rattle.private_machine.specs.SecondLevel.{Second}
use Rattle.isolation_law.specs.Parts.{Processor}
use Rattle.private_machine.specs.Disk.{no_block}
use Rattle.isolation_law.specs.GuestState.{GuestState, idle}
use Rattle.isolation_law.specs.Mirrors.{Mirrors}
use Rattle.private_machine.specs.Everywhere.{is_everywhere}

-- a half of a processor against its page
pub record HalfOnPage (g : Page) (p : ℕ) (h : Half) : Type 0 where
  pub backed : (c : Copy) × Has (copies g) c × (c.frame ≡ h.frame)
  pub is_mapped : IsMember g.mapped p
  pub alone : h.writable ≡ true → (g.shared ≡ false) × (g.replicas ≡ [])

-- a half against the guest's own TLB, in a guest of so many pages; of one of all address spaces each says the same
pub record HalfInTlb (pages : ℕ) (tlb : List Entry) (h : Half) : Type 0 where
  pub readable : (asid : ℕ) → IsIn h.global h.asid asid → given pages tlb asid Load h.number ≡ Some h.page
  pub granted : h.writable ≡ true → (asid : ℕ) → IsIn h.global h.asid asid → given pages tlb asid Store h.number ≡ Some h.page
  pub alike : h.global ≡ true → (a b : ℕ) (purpose : Use) → given pages tlb a purpose h.number ≡ given pages tlb b purpose h.number

-- why a half isn't writable
abbrev pub IsDenied : ℕ → List Entry → Page → Half → Type 0
IsDenied pages tlb g h = (g.shared ≡ true) ⊎ ((g.replicas ≢ []) ⊎ (given pages tlb h.asid Store h.number ≡ None))

-- a second-level entry against the guest's own TLB; it is global exactly where it may be
abbrev pub store_page : Bool → ℕ → Option ℕ
store_page true q = Some q
store_page false q = None

pub record SecondRule (pages : ℕ) (tlb : List Entry) (e : Second) : Type 0 where
  pub readable : (asid : ℕ) → IsIn e.global e.asid asid → given pages tlb asid Load e.number ≡ Some e.page
  pub stores : (asid : ℕ) → IsIn e.global e.asid asid → given pages tlb asid Store e.number ≡ store_page e.store e.page
  pub everywhere : e.global ≡ is_everywhere tlb e.asid (e.number * 4096) (segment false (e.number * 4096))

abbrev pub tlb_of : List (List Entry) → ℕ → List Entry
tlb_of tlbs v = slice_index_or tlbs v no_vcpu.tlb

-- The rule over the parts that it reads: what pages are taken shared from and for, pages, spares, processors, the guest's own TLBs,
-- second-level entries, and the page that is armed.
pub record Sound (from : Sources) (operations : List (Option Operation)) (pages : List Page) (spares : List Copy) (processors : List Processor) (tlbs : List (List Entry)) (seconds : List (List (Option Second))) (armed : Option ℕ) : Type 0 where
  pub by_page : (q : ℕ) → q < length pages → PageRule from (length processors) (slice_index_or operations q None) (page_at pages q)
  pub as_many : length operations ≡ length pages
  pub within : (p : ℕ) (h : Half) → Has (slice_index_or processors p idle).tlb h → h.page < length pages
  pub on_page : (p : ℕ) (h : Half) → Has (slice_index_or processors p idle).tlb h → HalfOnPage (page_at pages h.page) p h
  pub in_tlb : (p v : ℕ) (h : Half) → Has (slice_index_or processors p idle).tlb h → (slice_index_or processors p idle).loaded ≡ Some v → HalfInTlb (length pages) (tlb_of tlbs v) h
  pub exact : (p v : ℕ) (h : Half) → Has (slice_index_or processors p idle).tlb h → (slice_index_or processors p idle).loaded ≡ Some v → h.writable ≡ false → IsDenied (length pages) (tlb_of tlbs v) (page_at pages h.page) h
  pub empty : (p : ℕ) → (slice_index_or processors p idle).loaded ≡ None → (slice_index_or processors p idle).tlb ≡ []
  pub once : (p r v : ℕ) → (slice_index_or processors p idle).loaded ≡ Some v → (slice_index_or processors r idle).loaded ≡ Some v → p ≡ r
  pub rests : (v : ℕ) (e : Second) → Has (slice_index_or seconds v []) (Some e) → (page_at pages e.page).move ≡ None
  pub by_second : (v : ℕ) (e : Second) → Has (slice_index_or seconds v []) (Some e) → SecondRule (length pages) (tlb_of tlbs v) e
  pub enough : count_by needs_spare pages ≤ length spares
  pub blocks : (b : ℕ) → b < length from.disk → BlockRule (slice_index_or from.disk b no_block)
  pub armed_page : (q : ℕ) → armed ≡ Some q → q < length pages
  pub packet : (x : Packet) → from.hand ≡ Some x → length x.bytes ≤ 4096

abbrev pub Consistent : GuestState → Type 0
Consistent s = Sound (sources s) s.operations s.pages s.spares s.processors (map (λ c. c.tlb) s.vcpus) s.seconds s.devices.armed

-- the same, and the register pages show what the registers read
pub record Coherent (s : GuestState) : Type 0 where
  pub consistent : Consistent s
  pub mirrors : Mirrors s
