-- A second-level entry answers for the guest's own TLB.
use Rattle.std.proofs.Common.{◌≡◌, ℕ, ◌+◌, ◌*◌, ◌/◌, ◌%◌, ◌==◌, Bool, true, false, ◌&&◌, Option, Some, None, Result, Ok, Err, List, length, refl, sym, ap, ◌∙◌, subst}
use Rattle.std.proofs.lemmas.Bool.{eqb-true, and_parts}
use Rattle.std.specs.Prelude.{find, filter}
use Rattle.base_words.specs.declared.exception.Exception.{Exception}
use Rattle.base_words.specs.declared.exception.Use.{Use}
use Rattle.base_words.specs.declared.exception.Use.TheVariants.{Fetch, Load, Store}
use Rattle.base_words.specs.declared.place.Place.{Place}
use Rattle.base_words.specs.declared.place.Place.TheVariants.{Memory, Device}
use Rattle.base_words.specs.declared.tlb.Entry.{Entry}
use Rattle.base_words.specs.Coprocessor.{in_user_mode}
use Rattle.base_words.specs.Place.{Segment, Mapped, Direct, Outside, segment}
use Rattle.base_words.specs.Tlb.{page_pair, matches}
use Rattle.private_machine.specs.Reaching.{Wanted}
use Rattle.private_machine.specs.OwnStep.{led}
use Rattle.private_machine.specs.SecondLevel.{Second}
use Rattle.isolation_law.specs.GuestState.{GuestState, vcpu_of}
use Rattle.isolation_law.specs.Content.{content}
use Rattle.private_machine.specs.TrapAccess.{is_memory}
use Rattle.guest_tlb.specs.Everywhere.{is_global_entry}
use Rattle.private_machine.specs.Everywhere.{is_everywhere}
use Rattle.isolation_law.specs.RefillRow.{store_granted}
use Rattle.isolation_law.specs.Coherence.{SecondRule, store_page, Consistent}
use Rattle.isolation_law.specs.Given.{given, IsIn}
use Rattle.isolation_law.specs.SecondServes.{IsOf, Serves}
use Rattle.isolation_law.proofs.PlaceProofs.{given-place, user-place}
use Rattle.isolation_law.proofs.GlobalProofs.{of_pair, same-everywhere}
use Rattle.isolation_law.proofs.DirectProofs.{given-fetch}
use Rattle.isolation_law.proofs.DirectContent.{tlb-at}
use Rattle.isolation_law.proofs.RefillFacts.{place-given}
use Rattle.isolation_law.proofs.RefillProofs.{everywhere-base}

-- what is everywhere by one address space is everywhere by each
everywhere-each : (tlb : List Entry) (own asid a : ℕ) (g : Segment) → is_everywhere tlb own a g ≡ true → is_everywhere tlb asid a g ≡ true
everywhere-each tlb own asid a Mapped e =
    let both : (is_global_entry (find (matches (page_pair a) own) tlb) ≡ true) × ((length (filter (of_pair (page_pair a)) tlb) == 1) ≡ true) = and_parts (is_global_entry (find (matches (page_pair a) own) tlb)) (length (filter (of_pair (page_pair a)) tlb) == 1) e in
    let one : length (filter (of_pair (page_pair a)) tlb) ≡ 1 = eqb-true (length (filter (of_pair (page_pair a)) tlb)) 1 both.1 in
    let found = same-everywhere (page_pair a) own asid tlb both.0 one in
    ap (λ (o : Option Entry). is_global_entry o && (length (filter (of_pair (page_pair a)) tlb) == 1)) found ∙ e
everywhere-each tlb own asid a Direct e = refl
everywhere-each tlb own asid a Outside e = cc

global-same : (tlb : List Entry) (global : Bool) (own asid a : ℕ) (g : Segment) → global ≡ is_everywhere tlb own a g → IsIn global own asid → is_everywhere tlb asid a g ≡ global
global-same tlb true own asid a g e is = everywhere-each tlb own asid a g (sym e)
global-same tlb false own asid a g e is = ap (λ (n : ℕ). is_everywhere tlb n a g) (sym (eqb-true own asid is)) ∙ sym e

pub second-serves : (s : GuestState) (v : ℕ) (e : Second) (w : Wanted) → Consistent s → IsOf s v e w → Serves s v e w
second-serves s v e w co is =
    let c = vcpu_of s v in
    let user = in_user_mode c.cp0.status in
    let asid = c.cp0.entry_hi.asid in
    let pages = length s.pages in
    let rule : SecondRule pages c.tlb e = subst (λ (l : List Entry). SecondRule pages l e) (tlb-at s.vcpus v) (co.by_second v e is.is_there) in
    let at : (purpose : Use) → given pages c.tlb asid purpose e.number ≡ Some e.page → led (content s) v w.unit purpose w.address ≡ Ok (Memory (e.page * 4096 + w.address % 4096)) = λ purpose known.
    user-place user c.tlb asid pages w.unit purpose w.address is.in_range
    ∙ given-place c.tlb asid pages w.unit purpose w.address e.page is.aligned (subst (λ (n : ℕ). given pages c.tlb asid purpose n ≡ Some e.page) is.number known) in
    let readable = rule.readable asid is.in_space in
    let stores : e.store ≡ true → given pages c.tlb asid Store e.number ≡ Some e.page = λ yes. rule.stores asid is.in_space ∙ ap (λ (b : Bool). store_page b e.page) yes in
    let granted : store_granted s v w ≡ e.store = by e.store refl (λ yes. at Store (stores yes)) (λ off. subst (λ (n : ℕ). given pages c.tlb asid Store n ≡ None) is.number (rule.stores asid is.in_space ∙ ap (λ (b : Bool). store_page b e.page) off)) in
    let global : is_everywhere c.tlb asid w.address (segment false w.address) ≡ e.global =
    everywhere-base c.tlb asid w.address
    ∙ subst (λ (n : ℕ). is_everywhere c.tlb asid (n * 4096) (segment false (n * 4096)) ≡ e.global) is.number (global-same c.tlb e.global e.asid asid (e.number * 4096) (segment false (e.number * 4096)) rule.everywhere is.in_space) in
    record {
      fetches = at Fetch (given-fetch c.tlb asid pages e.number ∙ readable);
      loads = at Load readable;
      stores = λ yes. at Store (stores yes);
      granted = granted;
      put_again = λ i. record { number = sym is.number i; asid = asid; global = global i; page = e.page; store = granted i };
      rests = co.rests v e is.is_there;
    }
  where
    by : (b : Bool) → e.store ≡ b → (e.store ≡ true → led (content s) v w.unit Store w.address ≡ Ok (Memory (e.page * 4096 + w.address % 4096)))
        → (e.store ≡ false → given (length s.pages) (vcpu_of s v).tlb (vcpu_of s v).cp0.entry_hi.asid Store (w.address / 4096) ≡ None) → store_granted s v w ≡ e.store
    by true at there none = ap is_memory (there at) ∙ sym at
    by false at there none = memory (led (content s) v w.unit Store w.address) refl ∙ sym at
      where
        memory : (r : Result Place Exception) → led (content s) v w.unit Store w.address ≡ r → is_memory r ≡ false
        memory (Err x) leads = refl
        memory (Ok (Memory o)) leads = absurd (some-none (o / 4096) (sym (place-given (in_user_mode (vcpu_of s v).cp0.status) (vcpu_of s v).tlb (vcpu_of s v).cp0.entry_hi.asid (length s.pages) w.unit Store w.address o leads) ∙ none at))
          where
            some-none : (k : ℕ) → Some k ≡ None → ⊥
            some-none k e = cc
        memory (Ok (Device o)) leads = refl
