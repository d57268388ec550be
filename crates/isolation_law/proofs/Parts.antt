-- A state stays coherent when one part is replaced, by what the rules that read the part say of the new one.
use Rattle.private_machine.specs.Operation.{Operation}
use Rattle.std.proofs.Common.{◌≡◌, ℕ, zero, suc, ◌<◌, ◌≤◌, false, cond, ⊎_elim, Some, None, List, [], ◌∷◌, ◌++◌, length, map, set, get_or, refl, sym, ap, subst, arith, length-set, Option, ◌∙◌}
use Rattle.std.specs.Prelude.{count_by, flat_map}
use Rattle.base_words.specs.Halves.{Half}
use Rattle.base_words.specs.Membership.{Has}
use Rattle.private_machine.specs.Backing.{Copy, Page, no_page, Move}
use Rattle.private_machine.specs.SecondLevel.{Second}
use Rattle.isolation_law.specs.Coherence.{HalfOnPage, HalfInTlb, IsDenied, SecondRule, tlb_of, Consistent}
use Rattle.isolation_law.specs.PageRules.{PageRule, needs_spare, sources, MoveRule}
use Rattle.isolation_law.specs.Content.{content}
use Rattle.isolation_law.specs.GuestState.{GuestState, idle, page, processor, second_level, with_page, with_processor, with_second_level, operation_of, with_operation}
use Rattle.isolation_law.specs.Parts.{Processor}
use Rattle.isolation_law.proofs.Lists.{at_set, count_by-set}

-- a fact at the place of a replaced element, from the fact at the new one and at the old
pub at_place : {A : Type 0} (P : ℕ → A → Type 0) (xs : List A) (p : ℕ) (new d : A) (r : ℕ) → (p < length xs → P p new) → (((r ≡ p) → length xs ≤ p) → P r (get_or xs r d)) → P r (get_or (set xs p new) r d)
at_place {A} P xs p new d r here there = ⊎_elim
    (λ (x : (r ≡ p) × (p < length xs) × (get_or (set xs p new) r d ≡ new)). subst (λ (y : ℕ × A). P y.0 y.1) (λ i. (sym x.0 i, sym x.2 i)) (here x.1))
    (λ (x : ((r ≡ p) → length xs ≤ p) × (get_or (set xs p new) r d ≡ get_or xs r d)). subst (P r) (sym x.1) (there x.0))
    (at_set xs p new d r)

pub coherent_with_page : (s : GuestState) (q : ℕ) (new : Page) → q < length s.pages → Consistent s → PageRule (sources s) (length s.processors) (operation_of s q) new
    → ((p : ℕ) (h : Half) → Has (processor s p).tlb h → h.page ≡ q → HalfOnPage (page s q) p h → HalfOnPage new p h)
    → ((p : ℕ) (h : Half) → Has (processor s p).tlb h → h.page ≡ q → HalfOnPage (page s q) p h → (new.shared ≡ (page s q).shared) × (new.replicas ≡ (page s q).replicas))
    → ((v : ℕ) (e : Second) → Has (second_level s v) (Some e) → e.page ≡ q → (page s q).move ≡ None → new.move ≡ None)
    → count_by needs_spare (set s.pages q new) ≤ length s.spares
    → Consistent (with_page s q new)
coherent_with_page s q new lt co rule halves kept entries count =
    let tlbs = map (λ c. c.tlb) s.vcpus in
    record {
      by_page = λ r below. at_place (λ k g. k < length s.pages → PageRule (sources s) (length s.processors) (operation_of s k) g) s.pages q new no_page r (λ _ _. rule) (λ _. co.by_page r) (rw length-set at below);
      as_many = co.as_many ∙ sym (length-set s.pages q new);
      within = λ p h has. rw length-set (co.within p h has);
      on_page = λ p h has. at_place (λ k g. k ≡ h.page → HalfOnPage g p h) s.pages q new no_page h.page
          (λ _ e. halves p h has (sym e) (subst (λ (k : ℕ). HalfOnPage (page s k) p h) (sym e) (co.on_page p h has)))
          (λ _ _. co.on_page p h has) refl;
      in_tlb = λ p v h has runs. rw length-set (co.in_tlb p v h has runs);
      exact = λ p v h has runs denied. at_place (λ k g. k ≡ h.page → IsDenied (length (set s.pages q new)) (tlb_of tlbs v) g h) s.pages q new no_page h.page
          (λ _ e. let old = kept p h has (sym e) (subst (λ (k : ℕ). HalfOnPage (page s k) p h) (sym e) (co.on_page p h has)) in
          let was = co.exact p v h has runs denied in rw length-set (rw old.0 (rw old.1 (subst (λ (k : ℕ). IsDenied (length s.pages) (tlb_of tlbs v) (page s k) h) (sym e) was))))
          (λ _ _. rw length-set (co.exact p v h has runs denied)) refl;
      empty = co.empty;
      once = co.once;
      rests = λ v e has. at_place (λ k g. k ≡ e.page → g.move ≡ None) s.pages q new no_page e.page
          (λ _ at. entries v e has (sym at) (subst (λ (k : ℕ). (page s k).move ≡ None) (sym at) (co.rests v e has)))
          (λ _ _. co.rests v e has) refl;
      by_second = λ v e has. rw length-set (co.by_second v e has);
      enough = count;
      blocks = co.blocks;
      armed_page = λ r armed. rw length-set (co.armed_page r armed);
      packet = co.packet;
    }

pub coherent_with_processor : (s : GuestState) (p : ℕ) (new : Processor) → Consistent s
    → ((h : Half) → Has new.tlb h → (h.page < length s.pages) × HalfOnPage (page s h.page) p h)
    → ((v : ℕ) (h : Half) → Has new.tlb h → new.loaded ≡ Some v → HalfInTlb (length s.pages) (tlb_of (map (λ c. c.tlb) s.vcpus) v) h)
    → ((v : ℕ) (h : Half) → Has new.tlb h → new.loaded ≡ Some v → h.writable ≡ false → IsDenied (length s.pages) (tlb_of (map (λ c. c.tlb) s.vcpus) v) (page s h.page) h)
    → (new.loaded ≡ None → new.tlb ≡ [])
    → ((v r : ℕ) → new.loaded ≡ Some v → (processor s r).loaded ≡ Some v → r ≡ p)
    → Consistent (with_processor s p new)
coherent_with_processor s p new co halves in_tlb' exact' empty' alone =
    let tlbs = map (λ c. c.tlb) s.vcpus in
    record {
      by_page = λ q below. rw length-set (co.by_page q below);
      as_many = co.as_many;
      within = λ r h. at_place (λ k x. Has x.tlb h → h.page < length s.pages) s.processors p new idle r (λ _ has. (halves h has).0) (λ _. co.within r h);
      on_page = λ r h. at_place (λ k x. Has x.tlb h → HalfOnPage (page s h.page) k h) s.processors p new idle r (λ _ has. (halves h has).1) (λ _. co.on_page r h);
      in_tlb = λ r v h. at_place (λ k x. Has x.tlb h → x.loaded ≡ Some v → HalfInTlb (length s.pages) (tlb_of tlbs v) h) s.processors p new idle r (λ _. in_tlb' v h) (λ _. co.in_tlb r v h);
      exact = λ r v h. at_place (λ k x. Has x.tlb h → x.loaded ≡ Some v → h.writable ≡ false → IsDenied (length s.pages) (tlb_of tlbs v) (page s h.page) h) s.processors p new idle r (λ _. exact' v h) (λ _. co.exact r v h);
      empty = λ r. at_place (λ k x. x.loaded ≡ None → x.tlb ≡ []) s.processors p new idle r (λ _. empty') (λ _. co.empty r);
      once = λ a b v. at_place (λ k x. x.loaded ≡ Some v → (get_or (set s.processors p new) b idle).loaded ≡ Some v → k ≡ b) s.processors p new idle a
          (λ _ mine. at_place (λ k x. x.loaded ≡ Some v → p ≡ k) s.processors p new idle b (λ _ _. refl) (λ _ other. sym (alone v b mine other)))
          (λ _ was. at_place (λ k x. x.loaded ≡ Some v → a ≡ k) s.processors p new idle b (λ _ mine. alone v a mine was) (λ _ other. co.once a b v was other));
      rests = co.rests;
      by_second = co.by_second;
      enough = co.enough;
      blocks = co.blocks;
      armed_page = co.armed_page;
      packet = co.packet;
    }

pub coherent_with_seconds : (s : GuestState) (new : List (List (Option Second))) → Consistent s
    → ((v : ℕ) (e : Second) → Has (get_or new v []) (Some e) → Has (second_level s v) (Some e))
    → Consistent (record s { seconds = new })
coherent_with_seconds s new co kept =
    record { by_page = co.by_page; as_many = co.as_many; within = co.within; on_page = co.on_page; in_tlb = co.in_tlb; exact = co.exact; empty = co.empty; once = co.once; rests = λ v e has. co.rests v e (kept v e has); by_second = λ v e has. co.by_second v e (kept v e has); enough = co.enough; blocks = co.blocks; armed_page = co.armed_page; packet = co.packet }

pub coherent_with_spares : (s : GuestState) (new : List Copy) → Consistent s → count_by needs_spare s.pages ≤ length new → Consistent (record s { spares = new })
coherent_with_spares s new co count =
    record { by_page = co.by_page; as_many = co.as_many; within = co.within; on_page = co.on_page; in_tlb = co.in_tlb; exact = co.exact; empty = co.empty; once = co.once; rests = co.rests; by_second = co.by_second; enough = count; blocks = co.blocks; armed_page = co.armed_page; packet = co.packet }

-- the count is the same where the new page needs what the old one did
pub count_same : (gs : List Page) (q : ℕ) (new : Page) → q < length gs → needs_spare new ≡ needs_spare (get_or gs q no_page) → count_by needs_spare (set gs q new) ≡ count_by needs_spare gs
count_same gs q new lt e =
    let c = count_by-set needs_spare gs q new no_page lt in
    let same : cond {A = ℕ} (needs_spare new) 1 0 ≡ cond (needs_spare (get_or gs q no_page)) 1 0 = ap (λ b. cond {A = ℕ} b 1 0) e in
    omega arith

-- a page whose bytes stay
flat_same : (gs : List Page) (q : ℕ) (new : Page) → new.master.bytes ≡ (get_or gs q no_page).master.bytes → flat_map (λ (g : Page). g.master.bytes) (set gs q new) ≡ flat_map (λ (g : Page). g.master.bytes) gs
flat_same [] q new e = refl
flat_same (g ∷ gs) zero new e = ap (λ (b : List ℕ). b ++ flat_map (λ (g : Page). g.master.bytes) gs) e
flat_same (g ∷ gs) (suc q) new e = ap (λ (b : List ℕ). g.master.bytes ++ b) (flat_same gs q new e)

pub content-page : (s : GuestState) (q : ℕ) (new : Page) → new.master.bytes ≡ (page s q).master.bytes → content (with_page s q new) ≡ content s
content-page s q new e =
    let memory = flat_same s.pages q new e in
    λ i. record (content s) { pages = length-set s.pages q new i; memory = memory i }

pub coherent_with_second_level : (s : GuestState) (v : ℕ) (new : List (Option Second)) → Consistent s
    → ((e : Second) → Has new (Some e) → ((page s e.page).move ≡ None) × SecondRule (length s.pages) (tlb_of (map (λ c. c.tlb) s.vcpus) v) e)
    → Consistent (with_second_level s v new)
coherent_with_second_level s v new co entries =
    record { by_page = co.by_page; as_many = co.as_many; within = co.within; on_page = co.on_page; in_tlb = co.in_tlb; exact = co.exact; empty = co.empty; once = co.once; rests = λ u e. at_place (λ k x. Has x (Some e) → (page s e.page).move ≡ None) s.seconds v new [] u (λ _ has. (entries e has).0) (λ _. co.rests u e); by_second = λ u e. at_place (λ k x. Has x (Some e) → SecondRule (length s.pages) (tlb_of (map (λ c. c.tlb) s.vcpus) k) e) s.seconds v new [] u (λ _ has. (entries e has).1) (λ _. co.by_second u e); enough = co.enough; blocks = co.blocks; armed_page = co.armed_page; packet = co.packet }

-- a page that rests may be noted to be taken shared for anything
pub coherent_with_operation : (s : GuestState) (q : ℕ) (new : Option Operation) → Consistent s → (page s q).move ≡ None → Consistent (with_operation q new s)
coherent_with_operation s q new co rests =
    record { by_page = λ r below. at_place (λ k o. k ≡ r → PageRule (sources s) (length s.processors) o (page s r)) s.operations q new None r (λ _ is. noted r is (co.by_page r below)) (λ _ _. co.by_page r below) refl; as_many = length-set s.operations q new ∙ co.as_many; within = co.within; on_page = co.on_page; in_tlb = co.in_tlb; exact = co.exact; empty = co.empty; once = co.once; rests = co.rests; by_second = co.by_second; enough = co.enough; blocks = co.blocks; armed_page = co.armed_page; packet = co.packet }
  where
    noted : (r : ℕ) → q ≡ r → PageRule (sources s) (length s.processors) (operation_of s r) (page s r) → PageRule (sources s) (length s.processors) new (page s r)
    noted r is rule = record {
      whole = rule.whole;
      equal = rule.equal;
      single = rule.single;
      moves = subst (λ (o : Option Move). MoveRule (sources s) new (page s r).shared (page s r).mapped o) (sym (subst (λ (k : ℕ). (page s k).move ≡ None) is rests)) tt;
      sized = rule.sized;
    }
