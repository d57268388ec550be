-- A second-level entry answers for the guest's own TLB.
use Rattle.std.specs.Prelude.{◌≡◌, ◌≢◌, ℕ, ◌+◌, ◌*◌, ◌/◌, ◌%◌, ◌==◌, true, Some, None, Ok}
use Rattle.base_words.specs.declared.exception.Use.TheVariants.{Fetch, Load, Store}
use Rattle.base_words.specs.declared.place.Place.TheVariants.{Memory}
use Rattle.base_words.specs.Coprocessor.{in_user_mode}
use Rattle.base_words.specs.Membership.{Has}
use Rattle.base_words.specs.Place.{Outside, segment}
use Rattle.private_machine.specs.Reaching.{Wanted}
use Rattle.private_machine.specs.OwnStep.{led}
use Rattle.private_machine.specs.SecondLevel.{Second}
use Rattle.isolation_law.specs.GuestState.{GuestState, page, second_level, vcpu_of}
use Rattle.isolation_law.specs.Content.{content}
use Rattle.isolation_law.specs.Coherence.{Coherent}
use Rattle.isolation_law.specs.Given.{IsIn}
use Rattle.isolation_law.specs.RefillRow.{second_for, store_granted}

-- an entry of a virtual processor is of the page of an aligned address in the mode's ranges, in the address space of now
pub record IsOf (s : GuestState) (v : ℕ) (e : Second) (w : Wanted) : Type 0 where
  pub is_there : Has (second_level s v) (Some e)
  pub number : e.number ≡ w.address / 4096
  pub in_space : IsIn e.global e.asid (vcpu_of s v).cp0.entry_hi.asid
  pub aligned : (w.address % w.unit == 0) ≡ true
  pub in_range : segment (in_user_mode (vcpu_of s v).cp0.status) w.address ≢ Outside

-- then it tells where the address leads, which store is granted, and the entry that a refill puts
pub record Serves (s : GuestState) (v : ℕ) (e : Second) (w : Wanted) : Type 0 where
  pub fetches : led (content s) v w.unit Fetch w.address ≡ Ok (Memory (e.page * 4096 + w.address % 4096))
  pub loads : led (content s) v w.unit Load w.address ≡ Ok (Memory (e.page * 4096 + w.address % 4096))
  pub stores : e.store ≡ true → led (content s) v w.unit Store w.address ≡ Ok (Memory (e.page * 4096 + w.address % 4096))
  pub granted : store_granted s v w ≡ e.store
  pub put_again : second_for s v w e.page ≡ record e { asid = (vcpu_of s v).cp0.entry_hi.asid }
  pub rests : (page s e.page).move ≡ None

abbrev pub SecondServes : Type 0
SecondServes = (s : GuestState) (v : ℕ) (e : Second) (w : Wanted) → Coherent s → IsOf s v e w → Serves s v e w
