-- A write of an entry of the guest's TLB changes nothing for the pages of other pairs.
use Rattle.std.proofs.Common.{◌≡◌, ◌≢◌, ℕ, zero, suc, ◌*◌, ◌/◌, ◌%◌, ◌<◌, ◌≤◌, ◌==◌, nat_lt, Bool, true, false, not, ◌&&◌, ◌||◌, if◌then◌else◌, cond, ◌⊎◌, inl, inr, ⊎_elim, Option, Some, None, Err, List, [], ◌∷◌, length, map, set, get_or, refl, sym, ap, ◌∙◌, subst, arith, true≢false}
use Rattle.std.specs.Prelude.{find, filter}
use Rattle.std.proofs.lemmas.List.{get_or_past}
use Rattle.std.proofs.lemmas.Bool.{eqb-true, eq-eqb, ltb-true, cases_lt}
use Rattle.base_words.specs.declared.exception.Exception.TheVariants.{AddressError}
use Rattle.base_words.specs.declared.exception.Use.{Use}
use Rattle.base_words.specs.declared.exception.Use.TheVariants.{Load, Store}
use Rattle.base_words.specs.declared.tlb.Entry.{Entry}
use Rattle.base_words.specs.Tlb.{page_pair, address_space, is_global, matches, answer, kept, entry_read, entry_written}
use Rattle.base_words.specs.Place.{Segment, Mapped, Direct, Outside, segment, is_store, through_tlb, translated}
use Rattle.base_words.specs.Halves.{Half, without_pair}
use Rattle.base_words.specs.Membership.{Has}
use Rattle.private_machine.specs.PrivateMachine.{PrivateMachine}
use Rattle.private_machine.specs.SecondLevel.{Second, seconds_without_pair}
use Rattle.private_machine.specs.Vcpu.{no_vcpu}
use Rattle.isolation_law.specs.Coherence.{HalfInTlb, IsDenied, SecondRule, tlb_of, Sound, Consistent}
use Rattle.isolation_law.specs.PageRules.{sources}
use Rattle.isolation_law.specs.Given.{page_of, given, IsIn}
use Rattle.isolation_law.specs.Content.{with_own}
use Rattle.isolation_law.specs.GuestState.{GuestState, idle, page, processor, second_level, with_processor}
use Rattle.isolation_law.specs.Parts.{Processor}
use Rattle.isolation_law.specs.StepRows.{pair_dropped}
use Rattle.isolation_law.proofs.Lists.{Has-filter}
use Rattle.isolation_law.proofs.SecondProofs.{Has-without_pair}
use Rattle.isolation_law.proofs.GlobalProofs.{of_pair}
use Rattle.guest_tlb.specs.Everywhere.{is_global_entry}
use Rattle.private_machine.specs.Everywhere.{is_everywhere}
use Rattle.isolation_law.proofs.Parts.{at_place, coherent_with_processor, coherent_with_second_level}

kept-pair : (e : Entry) → page_pair (kept e).hi ≡ page_pair e.hi
kept-pair e = omega arith

set-other : (es : List Entry) (i : ℕ) (x d : Entry) (pair asid : ℕ) → page_pair (get_or es i d).hi ≢ pair → page_pair x.hi ≢ pair → find (matches pair asid) (set es i x) ≡ find (matches pair asid) es
set-other [] i x d pair asid old new = refl
set-other (y ∷ ys) zero x d pair asid old new =
    (elim (page_pair y.hi == pair) as (λ b. (page_pair y.hi == pair) ≡ b → cond ((page_pair x.hi == pair) && (is_global x || (address_space x.hi == asid))) (Some x) (find (matches pair asid) ys) ≡ cond (b && (is_global y || (address_space y.hi == asid))) (Some y) (find (matches pair asid) ys)) [
      | true ↦ λ e. absurd (old (eqb-true (page_pair y.hi) pair e))
      | false ↦ λ e. (elim (page_pair x.hi == pair) as (λ b. (page_pair x.hi == pair) ≡ b → cond (b && (is_global x || (address_space x.hi == asid))) (Some x) (find (matches pair asid) ys) ≡ find (matches pair asid) ys) [
        | true ↦ λ e. absurd (new (eqb-true (page_pair x.hi) pair e))
        | false ↦ λ e. refl
      ]) refl
    ]) refl
set-other (y ∷ ys) (suc i) x d pair asid old new = ap (λ (o : Option Entry). cond (matches pair asid y) (Some y) o) (set-other ys i x d pair asid old new)

pub written-other : (es : List Entry) (i : ℕ) (e : Entry) (pair asid : ℕ) → page_pair (entry_read es i).hi ≢ pair → page_pair e.hi ≢ pair → find (matches pair asid) (entry_written es i e) ≡ find (matches pair asid) es
written-other es i e pair asid old new =
    elim (nat_lt i (length es)) as (λ b. find (matches pair asid) (if b then set es i (kept e) else es) ≡ find (matches pair asid) es) [
      | true ↦ set-other es i (kept e) (record { hi = 0; lo0 = 0; lo1 = 0 }) pair asid old (λ same. new (sym (kept-pair e) ∙ same))
      | false ↦ refl
    ]

-- what is given reads the TLB only at the address's pair
segment-other : (tlb other : List Entry) (asid pages : ℕ) (purpose : Use) (a : ℕ) (g : Segment) → find (matches (page_pair a) asid) other ≡ find (matches (page_pair a) asid) tlb
    → translated (record { user = false; asid = asid; entries = other }) pages purpose a g ≡ translated (record { user = false; asid = asid; entries = tlb }) pages purpose a g
segment-other tlb other asid pages purpose a Mapped e = ap (λ (o : Option Entry). through_tlb pages purpose a (answer a (is_store purpose) o)) e
segment-other tlb other asid pages purpose a Direct e = refl
segment-other tlb other asid pages purpose a Outside e = refl

given-other : (tlb other : List Entry) (asid pages : ℕ) (purpose : Use) (number : ℕ) → find (matches (page_pair (number * 4096)) asid) other ≡ find (matches (page_pair (number * 4096)) asid) tlb
    → given pages other asid purpose number ≡ given pages tlb asid purpose number
given-other tlb other asid pages purpose number e =
    let a = number * 4096 in
    elim (a % 4096 == 0) as (λ b. page_of (if b then translated (record { user = false; asid = asid; entries = other }) pages purpose a (segment false a) else Err (AddressError purpose a)) ≡ page_of (if b then translated (record { user = false; asid = asid; entries = tlb }) pages purpose a (segment false a) else Err (AddressError purpose a))) [
      | true ↦ ap page_of (segment-other tlb other asid pages purpose a (segment false a) e)
      | false ↦ refl
    ]

not-lt : (a b : ℕ) → b ≤ a → nat_lt a b ≡ false
not-lt a b ge = (elim (nat_lt a b) as (λ c. nat_lt a b ≡ c → c ≡ false) [ true ↦ λ e. absurd (let lt = ltb-true a b e in omega arith) | false ↦ λ e. refl ]) refl

high-outside : (a : ℕ) → 0xE000_0000 ≤ a → segment false a ≡ Outside
high-outside a ge = rw (not-lt a 0x8000_0000 (omega arith), not-lt a 0xC000_0000 (omega arith), not-lt a 0xD000_0000 (omega arith), not-lt a 0xE000_0000 ge) refl

-- a page number of which something is given
given-range : (tlb : List Entry) (asid pages : ℕ) (purpose : Use) (number q : ℕ) → given pages tlb asid purpose number ≡ Some q → number < 0xE0000
given-range tlb asid pages purpose number q e = ⊎_elim (λ (lt : number < 0xE0000). lt) (λ (ge : 0xE0000 ≤ number). absurd (outside (high-outside (number * 4096) (omega arith)))) (cases_lt number 0xE0000)
  where
    none : (b : Bool) → page_of (if b then translated (record { user = false; asid = asid; entries = tlb }) pages purpose (number * 4096) Outside else Err (AddressError purpose (number * 4096))) ≡ Some q → ⊥
    none true e = cc
    none false e = cc

    outside : segment false (number * 4096) ≡ Outside → ⊥
    outside is = none (number * 4096 % 4096 == 0) (subst (λ (g : Segment). page_of (if number * 4096 % 4096 == 0 then translated (record { user = false; asid = asid; entries = tlb }) pages purpose (number * 4096) g else Err (AddressError purpose (number * 4096))) ≡ Some q) is e)

pair-of : (number : ℕ) → number < 0xE0000 → page_pair (number * 4096) ≡ number / 2
pair-of number lt = omega arith

-- what was given of a page of another pair is given after the write
pub given-kept : (tlb : List Entry) (i : ℕ) (e : Entry) (number : ℕ) → number < 0xE0000 → number / 2 ≢ page_pair (entry_read tlb i).hi → number / 2 ≢ page_pair e.hi → (pages asid : ℕ) (purpose : Use) → given pages (entry_written tlb i e) asid purpose number ≡ given pages tlb asid purpose number
given-kept tlb i e number lt old new pages asid purpose =
    let is = pair-of number lt in
    given-other tlb (entry_written tlb i e) asid pages purpose number
    (written-other tlb i e (page_pair (number * 4096)) asid (λ same. old (sym is ∙ sym same)) (λ same. new (sym is ∙ sym same)))

-- and it may be global as before
filter-other : (es : List Entry) (i : ℕ) (x d : Entry) (pair : ℕ) → page_pair (get_or es i d).hi ≢ pair → page_pair x.hi ≢ pair → filter (of_pair pair) (set es i x) ≡ filter (of_pair pair) es
filter-other [] i x d pair old new = refl
filter-other (y ∷ ys) zero x d pair old new =
    (elim (page_pair y.hi == pair) as (λ b. (page_pair y.hi == pair) ≡ b → cond (page_pair x.hi == pair) (x ∷ filter (of_pair pair) ys) (filter (of_pair pair) ys) ≡ cond b (y ∷ filter (of_pair pair) ys) (filter (of_pair pair) ys)) [
      | true ↦ λ e. absurd (old (eqb-true (page_pair y.hi) pair e))
      | false ↦ λ e. (elim (page_pair x.hi == pair) as (λ b. (page_pair x.hi == pair) ≡ b → cond b (x ∷ filter (of_pair pair) ys) (filter (of_pair pair) ys) ≡ filter (of_pair pair) ys) [
        | true ↦ λ e. absurd (new (eqb-true (page_pair x.hi) pair e))
        | false ↦ λ e. refl
      ]) refl
    ]) refl
filter-other (y ∷ ys) (suc i) x d pair old new = ap (λ (l : List Entry). cond (of_pair pair y) (y ∷ l) l) (filter-other ys i x d pair old new)

filter-written : (es : List Entry) (i : ℕ) (e : Entry) (pair : ℕ) → page_pair (entry_read es i).hi ≢ pair → page_pair e.hi ≢ pair → filter (of_pair pair) (entry_written es i e) ≡ filter (of_pair pair) es
filter-written es i e pair old new =
    elim (nat_lt i (length es)) as (λ b. filter (of_pair pair) (if b then set es i (kept e) else es) ≡ filter (of_pair pair) es) [
      | true ↦ filter-other es i (kept e) (record { hi = 0; lo0 = 0; lo1 = 0 }) pair old (λ same. new (sym (kept-pair e) ∙ same))
      | false ↦ refl
    ]

everywhere-other : (tlb other : List Entry) (asid a : ℕ) (g : Segment) → find (matches (page_pair a) asid) other ≡ find (matches (page_pair a) asid) tlb → filter (of_pair (page_pair a)) other ≡ filter (of_pair (page_pair a)) tlb
    → is_everywhere other asid a g ≡ is_everywhere tlb asid a g
everywhere-other tlb other asid a Mapped found same = λ i. is_global_entry (found i) && (length (same i) == 1)
everywhere-other tlb other asid a Direct found same = refl
everywhere-other tlb other asid a Outside found same = refl

pub everywhere-kept : (tlb : List Entry) (i : ℕ) (e : Entry) (number : ℕ) → number < 0xE0000 → number / 2 ≢ page_pair (entry_read tlb i).hi → number / 2 ≢ page_pair e.hi → (asid : ℕ) (g : Segment) → is_everywhere (entry_written tlb i e) asid (number * 4096) g ≡ is_everywhere tlb asid (number * 4096) g
everywhere-kept tlb i e number lt old new asid g =
    let is = pair-of number lt in
    let older : page_pair (entry_read tlb i).hi ≢ page_pair (number * 4096) = λ same. old (sym is ∙ sym same) in
    let newer : page_pair e.hi ≢ page_pair (number * 4096) = λ same. new (sym is ∙ sym same) in
    everywhere-other tlb (entry_written tlb i e) asid (number * 4096) g (written-other tlb i e (page_pair (number * 4096)) asid older newer) (filter-written tlb i e (page_pair (number * 4096)) older newer)

abbrev pub EverywhereSame : GuestState → ℕ → List Entry → ℕ → Type 0
EverywhereSame s v tlb number = (asid : ℕ) → is_everywhere tlb asid (number * 4096) (segment false (number * 4096)) ≡ is_everywhere (tlb_of (map (λ c. c.tlb) s.vcpus) v) asid (number * 4096) (segment false (number * 4096))

-- what was given of a number to a virtual processor is given after its TLB is another
abbrev pub GivenSame : GuestState → ℕ → List Entry → ℕ → Type 0
GivenSame s v tlb number = (asid : ℕ) (purpose : Use) → given (length s.pages) tlb asid purpose number ≡ given (length s.pages) (tlb_of (map (λ c. c.tlb) s.vcpus) v) asid purpose number

half_moved : (s : GuestState) (v : ℕ) (tlb : List Entry) (h : Half) → GivenSame s v tlb h.number → HalfInTlb (length s.pages) (tlb_of (map (λ c. c.tlb) s.vcpus) v) h → HalfInTlb (length s.pages) tlb h
half_moved s v tlb h same old = record {
  readable = λ asid is. same asid Load ∙ old.readable asid is;
  granted = λ writable asid is. same asid Store ∙ old.granted writable asid is;
  alike = λ global a b purpose. same a purpose ∙ old.alike global a b purpose ∙ sym (same b purpose);
}

denied_moved : (s : GuestState) (v : ℕ) (tlb : List Entry) (h : Half) → GivenSame s v tlb h.number → IsDenied (length s.pages) (tlb_of (map (λ c. c.tlb) s.vcpus) v) (page s h.page) h → IsDenied (length s.pages) tlb (page s h.page) h
denied_moved s v tlb h same old = ⊎_elim
    (λ (shared : (page s h.page).shared ≡ true). inl shared)
    (λ (rest : ((page s h.page).replicas ≢ []) ⊎ (given (length s.pages) (tlb_of (map (λ c. c.tlb) s.vcpus) v) h.asid Store h.number ≡ None)). ⊎_elim
    (λ (some : (page s h.page).replicas ≢ []). inr (inl some))
    (λ (none : given (length s.pages) (tlb_of (map (λ c. c.tlb) s.vcpus) v) h.asid Store h.number ≡ None). inr (inr (same h.asid Store ∙ none)))
    rest)
    old

second_moved : (s : GuestState) (v : ℕ) (tlb : List Entry) (e : Second) → GivenSame s v tlb e.number × EverywhereSame s v tlb e.number → SecondRule (length s.pages) (tlb_of (map (λ c. c.tlb) s.vcpus) v) e → SecondRule (length s.pages) tlb e
second_moved s v tlb e same old = record {
  readable = λ asid is. same.0 asid Load ∙ old.readable asid is;
  stores = λ asid is. same.0 asid Store ∙ old.stores asid is;
  everywhere = old.everywhere ∙ sym (same.1 e.asid);
}

-- the guest's own parts change, and one TLB of them
pub coherent_with_own : (s : GuestState) (m : PrivateMachine) (v : ℕ) (tlb : List Entry) → Consistent s
    → ((q : ℕ) → m.devices.armed ≡ Some q → q < length s.pages)
    → map (λ c. c.tlb) m.vcpus ≡ set (map (λ c. c.tlb) s.vcpus) v tlb
    → ((p : ℕ) (h : Half) → Has (processor s p).tlb h → (processor s p).loaded ≡ Some v → GivenSame s v tlb h.number)
    → ((e : Second) → Has (second_level s v) (Some e) → GivenSame s v tlb e.number × EverywhereSame s v tlb e.number)
    → Consistent (with_own m s)
coherent_with_own s m v tlb co armed same halves entries =
    let tlbs = map (λ c. c.tlb) s.vcpus in
    let made : Sound (sources s) s.operations s.pages s.spares s.processors (set tlbs v tlb) s.seconds m.devices.armed = record {
      by_page = co.by_page;
      as_many = co.as_many;
      within = co.within;
      on_page = co.on_page;
      in_tlb = λ p u h has runs. at_place (λ k l. k ≡ u → HalfInTlb (length s.pages) l h) tlbs v tlb no_vcpu.tlb u (λ _ is. half_moved s v tlb h (halves p h has (subst (λ (k : ℕ). (processor s p).loaded ≡ Some k) (sym is) runs)) (subst (λ (k : ℕ). HalfInTlb (length s.pages) (tlb_of tlbs k) h) (sym is) (co.in_tlb p u h has runs))) (λ _ _. co.in_tlb p u h has runs) refl;
      exact = λ p u h has runs off. at_place (λ k l. k ≡ u → IsDenied (length s.pages) l (page s h.page) h) tlbs v tlb no_vcpu.tlb u (λ _ is. denied_moved s v tlb h (halves p h has (subst (λ (k : ℕ). (processor s p).loaded ≡ Some k) (sym is) runs)) (subst (λ (k : ℕ). IsDenied (length s.pages) (tlb_of tlbs k) (page s h.page) h) (sym is) (co.exact p u h has runs off))) (λ _ _. co.exact p u h has runs off) refl;
      empty = co.empty;
      once = co.once;
      rests = co.rests;
      by_second = λ u e has. at_place (λ k l. k ≡ u → SecondRule (length s.pages) l e) tlbs v tlb no_vcpu.tlb u (λ _ is. second_moved s v tlb e (entries e (subst (λ (k : ℕ). Has (second_level s k) (Some e)) (sym is) has)) (subst (λ (k : ℕ). SecondRule (length s.pages) (tlb_of tlbs k) e) (sym is) (co.by_second u e has))) (λ _ _. co.by_second u e has) refl;
      enough = co.enough;
      blocks = co.blocks;
      armed_page = armed;
      packet = co.packet;
    } in
    subst (λ (l : List (List Entry)). Sound (sources s) s.operations s.pages s.spares s.processors l s.seconds m.devices.armed) (sym same) made

-- a processor's halves and a virtual processor's second-level entries of a pair are dropped
pub dropped_keeps : (s : GuestState) (p v pair : ℕ) → Consistent s → Consistent (pair_dropped p v pair s)
dropped_keeps s p v pair co =
    let new : Processor = record (processor s p) { tlb = without_pair pair (processor s p).tlb } in
    let was : (h : Half) → Has new.tlb h → Has (processor s p).tlb h = λ h has. (Has-filter (λ (x : Half). not (x.number / 2 == pair)) (processor s p).tlb h has).0 in
    let s1 = with_processor s p new in
    let co1 : Consistent s1 = coherent_with_processor s p new co
    (λ h has. (co.within p h (was h has), co.on_page p h (was h has)))
    (λ u h has is. co.in_tlb p u h (was h has) is)
    (λ u h has is off. co.exact p u h (was h has) is off)
    (λ none. ap (without_pair pair) (co.empty p none))
    (λ u r is other. co.once r p u other is) in
    coherent_with_second_level s1 v (seconds_without_pair pair (second_level s v)) co1
    (λ e has. let old = (Has-without_pair pair (second_level s v) e has).0 in (co1.rests v e old, co1.by_second v e old))

-- what stays isn't of the pair that was dropped
dropped-halves : (s : GuestState) (p v pair : ℕ) (h : Half) → Has (processor (pair_dropped p v pair s) p).tlb h → Has (processor s p).tlb h × (h.number / 2 ≢ pair)
dropped-halves s p v pair h = at_place (λ k x. k ≡ p → Has x.tlb h → Has (processor s p).tlb h × (h.number / 2 ≢ pair)) s.processors p (record (processor s p) { tlb = without_pair pair (processor s p).tlb }) idle p
    (λ _ _ has. let r = Has-filter (λ (x : Half). not (x.number / 2 == pair)) (processor s p).tlb h has in (r.0, λ e. true≢false (sym r.1 ∙ ap not (eq-eqb (h.number / 2) pair e))))
    (λ far is has. absurd (subst (λ (x : Processor). Has x.tlb h) (get_or_past s.processors p idle (far refl)) has))
    refl

dropped-entries : (s : GuestState) (p v pair : ℕ) (e : Second) → Has (second_level (pair_dropped p v pair s) v) (Some e) → Has (second_level s v) (Some e) × (e.number / 2 ≢ pair)
dropped-entries s p v pair e = at_place (λ k x. k ≡ v → Has x (Some e) → Has (second_level s v) (Some e) × (e.number / 2 ≢ pair)) s.seconds v (seconds_without_pair pair (second_level s v)) [] v
    (λ _ _ has. let r = Has-without_pair pair (second_level s v) e has in (r.0, λ same. true≢false (sym r.1 ∙ ap not (eq-eqb (e.number / 2) pair same))))
    (λ far is has. absurd (subst (λ (x : List (Option Second)). Has x (Some e)) (get_or_past s.seconds v [] (far refl)) has))
    refl

self-in : (global : Bool) (asid : ℕ) → IsIn global asid asid
self-in true asid = refl
self-in false asid = eq-eqb asid asid refl

-- A write of an entry of the guest's TLB: halves and second-level entries of the old and the new pair are dropped, and then
-- the guest's TLB is another (what an own step leaves of the guest's parts is given).
pub writes_keeps : (s : GuestState) (m : PrivateMachine) (p v i : ℕ) (e : Entry) → Consistent s → (processor s p).loaded ≡ Some v
    → ((q : ℕ) → m.devices.armed ≡ Some q → q < length s.pages)
    → map (λ c. c.tlb) m.vcpus ≡ set (map (λ c. c.tlb) s.vcpus) v (entry_written (tlb_of (map (λ c. c.tlb) s.vcpus) v) i e)
    → Consistent (with_own m (pair_dropped p v (page_pair e.hi) (pair_dropped p v (page_pair (entry_read (tlb_of (map (λ c. c.tlb) s.vcpus) v) i).hi) s)))
writes_keeps s m p v i e co runs armed same =
    let tlb = tlb_of (map (λ c. c.tlb) s.vcpus) v in
    let old = page_pair (entry_read tlb i).hi in
    let s1 = pair_dropped p v old s in
    let s2 = pair_dropped p v (page_pair e.hi) s1 in
    let co1 = dropped_keeps s p v old co in
    let co2 = dropped_keeps s1 p v (page_pair e.hi) co1 in
    let there : (processor s2 p).loaded ≡ Some v = still_loaded s1 p v (page_pair e.hi) (still_loaded s p v old runs) in
    coherent_with_own s2 m v (entry_written tlb i e) co2 armed same
    (λ r h has is. on_p s2 p r v (co2.once r p v is there) h has (λ here.
    let first = dropped-halves s1 p v (page_pair e.hi) h here in
    let second = dropped-halves s p v old h first.0 in
    let range = given-range tlb h.asid (length s.pages) Load h.number h.page ((co.in_tlb p v h second.0 runs).readable h.asid (self-in h.global h.asid)) in
    λ asid purpose. given-kept tlb i e h.number range second.1 first.1 (length s.pages) asid purpose))
    (λ x has.
    let first = dropped-entries s1 p v (page_pair e.hi) x has in
    let second = dropped-entries s p v old x first.0 in
    let range = given-range tlb x.asid (length s.pages) Load x.number x.page ((co.by_second v x second.0).readable x.asid (self-in x.global x.asid)) in (
      λ asid purpose. given-kept tlb i e x.number range second.1 first.1 (length s.pages) asid purpose,
      λ asid. everywhere-kept tlb i e x.number range second.1 first.1 asid (segment false (x.number * 4096)),
    ))
  where
    still_loaded : (s : GuestState) (p v pair : ℕ) → (processor s p).loaded ≡ Some v → (processor (pair_dropped p v pair s) p).loaded ≡ Some v
    still_loaded s p v pair runs = at_place (λ k x. k ≡ p → x.loaded ≡ Some v) s.processors p (record (processor s p) { tlb = without_pair pair (processor s p).tlb }) idle p (λ _ _. runs) (λ _ _. runs) refl

    on_p : (u : GuestState) (p r v : ℕ) → r ≡ p → (h : Half) → Has (processor u r).tlb h → (Has (processor u p).tlb h → GivenSame u v (entry_written (tlb_of (map (λ c. c.tlb) u.vcpus) v) i e) h.number) → GivenSame u v (entry_written (tlb_of (map (λ c. c.tlb) u.vcpus) v) i e) h.number
    on_p u p r v is h has f = f (subst (λ (k : ℕ). Has (processor u k).tlb h) is has)
