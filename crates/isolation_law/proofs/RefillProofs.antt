-- A refill keeps coherence and content.
use Rattle.private_machine.specs.Operation.{Operation}
use Rattle.base_words.specs.Tlb.{matches}
use Rattle.std.proofs.Common.{◌≡◌, ◌≢◌, ℕ, zero, suc, ◌/◌, ◌%◌, ◌<◌, ◌==◌, Bool, true, false, not, ◌&&◌, if◌then◌else◌, ◌⊎◌, inl, inr, ⊎_elim, Option, Some, None, Result, Ok, Err, List, [], ◌∷◌, length, map, set, get_or, refl, sym, ap, ◌∙◌, subst, arith, get_or-set_same, get_or-set_other, length-set, true≢false, ◌≤◌, nat_lt, ◌||◌}
use Rattle.std.proofs.lemmas.Bool.{cases_eq}
use Rattle.std.specs.Prelude.{find, filter}
use Rattle.base_words.specs.declared.exception.Exception.{Exception}
use Rattle.base_words.specs.declared.exception.Exception.TheVariants.{AddressError}
use Rattle.base_words.specs.declared.exception.Use.{Use}
use Rattle.base_words.specs.declared.exception.Use.TheVariants.{Load, Store}
use Rattle.base_words.specs.declared.place.Place.{Place}
use Rattle.base_words.specs.declared.place.Place.TheVariants.{Memory, Device}
use Rattle.base_words.specs.declared.tlb.Entry.{Entry}
use Rattle.base_words.specs.Coprocessor.{in_user_mode}
use Rattle.base_words.specs.Place.{Segment, Mapped, Direct, Outside, segment, translated, place}
use Rattle.base_words.specs.Halves.{Half}
use Rattle.base_words.specs.Membership.{Has}
use Rattle.private_machine.specs.Backing.{Copy, Page, copies, node_of_frame, distance, nearest_among, nearest, no_page}
use Rattle.private_machine.specs.PageMove.{named_by}
use Rattle.private_machine.specs.SecondLevel.{Second, put}
use Rattle.private_machine.specs.declared.vcpu.Vcpu.{Vcpu}
use Rattle.isolation_law.specs.Coherence.{HalfOnPage, HalfInTlb, IsDenied, SecondRule, store_page, tlb_of, Consistent}
use Rattle.isolation_law.specs.PageRules.{MoveRule, PageRule, sources}
use Rattle.isolation_law.specs.Given.{given}
use Rattle.isolation_law.specs.Content.{content}
use Rattle.isolation_law.specs.DirectStep.{lost_frames}
use Rattle.isolation_law.specs.GuestState.{GuestState, idle, page, processor, second_level, vcpu_of, with_page, with_processor, operation_of}
use Rattle.isolation_law.specs.Needs.{none_of}
use Rattle.isolation_law.specs.Parts.{Processor}
use Rattle.private_machine.specs.Everywhere.{is_everywhere}
use Rattle.guest_tlb.specs.Everywhere.{is_global_entry}
use Rattle.isolation_law.specs.RefillRow.{Refills, half_for, second_for, store_granted}
use Rattle.isolation_law.specs.Surroundings.{node_of_processor}
use Rattle.private_machine.specs.TrapAccess.{is_memory}
use Rattle.isolation_law.proofs.Lists.{Has-filter, Has-set}
use Rattle.isolation_law.proofs.Parts.{coherent_with_page, coherent_with_processor, coherent_with_second_level, count_same, content-page}
use Rattle.isolation_law.proofs.PlaceProofs.{given-place, user-place, base, pair-base, segment-base}
use Rattle.isolation_law.proofs.GlobalProofs.{of_pair}
use Rattle.isolation_law.proofs.DirectContent.{tlb-at}
use Rattle.isolation_law.proofs.RefillFacts.{place-given, place-in, store-load, any-load, everywhere, given-in}

-- of the missed access, on a guest's TLB
abbrev kernel : Vcpu → ℕ → Use → ℕ → Option ℕ
kernel c pages purpose a = given pages c.tlb c.cp0.entry_hi.asid purpose (a / 4096)

-- what a granted store says
granted-given : (user : Bool) (entries : List Entry) (asid pages unit a : ℕ) → is_memory (place (record { user = user; asid = asid; entries = entries }) pages unit Store a) ≡ true → (q : ℕ) × (given pages entries asid Store (a / 4096) ≡ Some q)
granted-given user entries asid pages unit a e = by (place (record { user = user; asid = asid; entries = entries }) pages unit Store a) refl e
  where
    by : (r : Result Place Exception) → place (record { user = user; asid = asid; entries = entries }) pages unit Store a ≡ r → is_memory r ≡ true → (q : ℕ) × (given pages entries asid Store (a / 4096) ≡ Some q)
    by (Err x) is e = cc
    by (Ok (Memory o)) is e = (o / 4096, place-given user entries asid pages unit Store a o is)
    by (Ok (Device o)) is e = cc

-- what leads somewhere is aligned, and within the mode's ranges
pub leads-fits : (user : Bool) (entries : List Entry) (asid pages unit : ℕ) (purpose : Use) (a o : ℕ) → place (record { user = user; asid = asid; entries = entries }) pages unit purpose a ≡ Ok (Memory o)
    → ((a % unit == 0) ≡ true) × (segment user a ≢ Outside)
leads-fits user entries asid pages unit purpose a o e = by (a % unit == 0) refl (segment user a) refl e
  where
    by : (b : Bool) → (a % unit == 0) ≡ b → (g : Segment) → segment user a ≡ g
        → (if b then translated (record { user = user; asid = asid; entries = entries }) pages purpose a g else Err (AddressError purpose a)) ≡ Ok (Memory o)
        → ((a % unit == 0) ≡ true) × (segment user a ≢ Outside)
    by true is Mapped at e = (is, λ out. mapped (sym at ∙ out))
      where
        mapped : Mapped ≡ Outside → ⊥
        mapped e = cc
    by true is Direct at e = (is, λ out. direct (sym at ∙ out))
      where
        direct : Direct ≡ Outside → ⊥
        direct e = cc
    by true is Outside at e = cc
    by false is g at e = cc

-- a store that isn't granted isn't given
denied-given : (user : Bool) (entries : List Entry) (asid pages unit : ℕ) (a : ℕ) → (a % unit == 0) ≡ true → segment user a ≢ Outside
    → is_memory (place (record { user = user; asid = asid; entries = entries }) pages unit Store a) ≡ false → given pages entries asid Store (a / 4096) ≡ None
denied-given user entries asid pages unit a fits inside e = by (given pages entries asid Store (a / 4096)) refl
  where
    by : (o : Option ℕ) → given pages entries asid Store (a / 4096) ≡ o → o ≡ None
    by None is = refl
    by (Some q) is =
        let led_there = user-place user entries asid pages unit Store a inside ∙ given-place entries asid pages unit Store a q fits is in
        absurd (true≢false (sym (ap is_memory led_there) ∙ e))

-- the frame by which a node reaches a page is one of its copies
among-has : (frames node : ℕ) (best : Copy) (cs : List Copy) → Has (best ∷ cs) (nearest_among frames node best cs)
among-has frames node best [] = inl refl
among-has frames node best (c ∷ cs) =
    let a = node_of_frame frames best.frame in
    let b = node_of_frame frames c.frame in
    by (nat_lt (distance b node) (distance a node) || ((distance b node == distance a node) && nat_lt b a)) (among-has frames node c cs) (among-has frames node best cs)
  where
    by : (b : Bool) → Has (c ∷ cs) (nearest_among frames node c cs) → Has (best ∷ cs) (nearest_among frames node best cs) → Has (best ∷ c ∷ cs) (nearest_among frames node (if b then c else best) cs)
    by true taken kept = inr taken
    by false taken kept = ⊎_elim (λ is. inl is) (λ later. inr (inr later)) kept

nearest-copy : (s : GuestState) (lost : ℕ → Bool) (node : ℕ) (g : Page) → (c : Copy) × Has (copies g) c × (c.frame ≡ nearest s.around.frames lost node g)
nearest-copy s lost node g =
    let live = filter (λ (c : Copy). not (lost c.frame)) g.replicas in
    let c = nearest_among s.around.frames node g.master live in
    (c, ⊎_elim (λ (is : g.master ≡ c). inl is) (λ (later : Has live c). inr (Has-filter (λ (c : Copy). not (lost c.frame)) g.replicas c later).0) (among-has s.around.frames node g.master live), refl)

loaded_within : (s : GuestState) (p v : ℕ) → (processor s p).loaded ≡ Some v → p < length s.processors
loaded_within s p v e = within s.processors p e
  where
    within : (xs : List Processor) (p : ℕ) → (get_or xs p idle).loaded ≡ Some v → p < length xs
    within [] p e = cc
    within (x ∷ xs) zero e = omega arith
    within (x ∷ xs) (suc p) e = let r = within xs p e in omega arith

named_rule : (s : GuestState) (p : ℕ) (op : Option Operation) (g : Page) → PageRule (sources s) (length s.processors) op g → g.move ≡ None → PageRule (sources s) (length s.processors) op (named_by p g)
named_rule s p op g rule rests = record {
  whole = rule.whole;
  equal = rule.equal;
  single = rule.single;
  moves = subst (MoveRule (sources s) op g.shared (set g.mapped p true)) (sym rests) tt;
  sized = subst (λ (k : ℕ). length s.processors ≤ k) (sym (length-set g.mapped p true)) rule.sized;
}

named_half : (p r : ℕ) (g : Page) (h : Half) → p < length g.mapped → HalfOnPage g r h → HalfOnPage (named_by p g) r h
named_half p r g h lt old = record {
  backed = old.backed;
  is_mapped = ⊎_elim
      (λ (e : r ≡ p). ap (λ (k : ℕ). get_or (set g.mapped p true) k false) e ∙ get_or-set_same g.mapped p true false lt)
      (λ (ne : r ≢ p). get_or-set_other g.mapped p r true false ne ∙ old.is_mapped)
      (cases_eq r p);
  alone = old.alone;
}

none_of-nil : (cs : List Copy) → none_of cs ≡ true → cs ≡ []
none_of-nil [] e = refl
none_of-nil (c ∷ cs) e = cc

writable-parts : (shared : Bool) (cs : List Copy) (granted : Bool) → (not shared && (none_of cs && granted)) ≡ true → (shared ≡ false) × (cs ≡ []) × (granted ≡ true)
writable-parts true cs granted e = cc
writable-parts false [] true e = (refl, refl, refl)
writable-parts false [] false e = cc
writable-parts false (c ∷ cs) granted e = cc

denied-parts : (shared : Bool) (cs : List Copy) (granted : Bool) → (not shared && (none_of cs && granted)) ≡ false → (shared ≡ true) ⊎ ((cs ≢ []) ⊎ (granted ≡ false))
denied-parts true cs granted e = inl refl
denied-parts false [] true e = cc
denied-parts false [] false e = inr (inr refl)
denied-parts false (c ∷ cs) granted e = inr (inl (λ nil. cc))

-- by the first address of the page
pub everywhere-base : (tlb : List Entry) (asid a : ℕ) → is_everywhere tlb asid a (segment false a) ≡ is_everywhere tlb asid (base a) (segment false (base a))
everywhere-base tlb asid a = by (segment false a) ∙ ap (is_everywhere tlb asid (base a)) (sym (segment-base a))
  where
    by : (g : Segment) → is_everywhere tlb asid a g ≡ is_everywhere tlb asid (base a) g
    by Mapped = ap (λ (n : ℕ). is_global_entry (find (matches n asid) tlb) && (length (filter (of_pair n) tlb) == 1)) (sym (pair-base a))
    by Direct = refl
    by Outside = refl

pub refills_keeps : (s t : GuestState) (p : ℕ) → Consistent s → Refills s p t → Consistent t
refills_keeps s t p co row =
    let v = row.v in
    let w = row.access in
    let q = row.offset / 4096 in
    let g = page s q in
    let c = vcpu_of s v in
    let user = in_user_mode c.cp0.status in
    let asid = c.cp0.entry_hi.asid in
    let pages = length s.pages in
    let h = half_for s p v w q in
    let tlbs = map (λ c. c.tlb) s.vcpus in
    let mine : tlb_of tlbs v ≡ c.tlb = tlb-at s.vcpus v in
    let fits = leads-fits user c.tlb asid pages w.unit w.purpose w.address row.offset row.leads in
    let here : given pages c.tlb asid Load h.number ≡ Some q = any-load c.tlb asid pages w.purpose h.number q (place-given user c.tlb asid pages w.unit w.purpose w.address row.offset row.leads) in
    let lt : q < pages = page-within user c.tlb asid pages w.unit w.purpose w.address row.offset row.leads in
    let rule = co.by_page q lt in
    let there : p < length s.processors = loaded_within s p v row.runs.loaded in
    let room : p < length g.mapped = let sized = rule.sized in omega arith in
    let stores : store_granted s v w ≡ true → given pages c.tlb asid Store h.number ≡ Some q = λ yes.
    let r = granted-given user c.tlb asid pages w.unit w.address yes in
    let same : q ≡ r.0 = some-same q r.0 (sym here ∙ store-load c.tlb asid pages h.number r.0 r.1) in
    r.1 ∙ ap (λ (k : ℕ). Some k) (sym same) in
    let new = named_by p g in
    let s1 = with_page s q new in
    let co1 : Consistent s1 = coherent_with_page s q new lt co (named_rule s p (operation_of s q) g rule row.rests)
    (λ r k has at old. named_half p r g k room old)
    (λ r k has at old. (refl, refl))
    (λ u e has at none. none)
    (rw (count_same s.pages q new lt refl) co.enough) in
    let at_new : page s1 q ≡ new = get_or-set_same s.pages q new no_page lt in
    let same_pages : length s1.pages ≡ pages = length-set s.pages q new in
    let in_tlb : HalfInTlb (length s1.pages) (tlb_of tlbs v) h = rw (same_pages, mine) (record {
      readable = λ other is. given-in c other pages Load w.address is ∙ here;
      granted = λ writable other is. given-in c other pages Store w.address is ∙ stores (writable-parts g.shared g.replicas (store_granted s v w) writable).2;
      alike = λ global a b purpose. everywhere c a pages purpose w.address global ∙ sym (everywhere c b pages purpose w.address global);
    }) in
    let on_page : HalfOnPage (page s1 q) p h = subst (λ (x : Page). HalfOnPage x p h) (sym at_new) (record {
      backed = nearest-copy s (lost_frames s.around s.dead) (node_of_processor s.around p) g;
      is_mapped = get_or-set_same g.mapped p true false room;
      alone = λ writable. let r = writable-parts g.shared g.replicas (store_granted s v w) writable in (r.0, r.1);
    }) in
    let denied : h.writable ≡ false → IsDenied (length s1.pages) (tlb_of tlbs v) (page s1 q) h = λ off. rw (same_pages, mine)
    (subst (λ (x : Page). IsDenied pages c.tlb x h) (sym at_new)
    (⊎_elim (λ (shared : g.shared ≡ true). inl shared)
    (λ (rest : (g.replicas ≢ []) ⊎ (store_granted s v w ≡ false)). ⊎_elim
    (λ (some : g.replicas ≢ []). inr (inl some))
    (λ (no_store : store_granted s v w ≡ false). inr (inr (denied-given user c.tlb asid pages w.unit w.address fits.0 fits.1 no_store)))
    rest)
    (denied-parts g.shared g.replicas (store_granted s v w) off))) in
    let filled : Processor = record (processor s p) { tlb = row.halves } in
    let s2 = with_processor s1 p filled in
    let same_vcpu : (u : ℕ) → (processor s p).loaded ≡ Some u → v ≡ u = λ u is. some-same v u (sym row.runs.loaded ∙ is) in
    let co2 : Consistent s2 = coherent_with_processor s1 p filled co1
    (λ k has. ⊎_elim
    (λ (is : h ≡ k). subst (λ (x : Half). (x.page < length s1.pages) × HalfOnPage (page s1 x.page) p x) is (rw same_pages lt, on_page))
    (λ later. let old = later.0 in (co1.within p k old, co1.on_page p k old))
    (row.fills.others k has))
    (λ u k has is. ⊎_elim
    (λ (new_one : h ≡ k). subst (λ (x : Half). HalfInTlb (length s1.pages) (tlb_of tlbs u) x) new_one (subst (λ (n : ℕ). HalfInTlb (length s1.pages) (tlb_of tlbs n) h) (same_vcpu u is) in_tlb))
    (λ later. co1.in_tlb p u k (later.0) is)
    (row.fills.others k has))
    (λ u k has is off. ⊎_elim
    (λ (new_one : h ≡ k). subst (λ (x : Half). IsDenied (length s1.pages) (tlb_of tlbs u) (page s1 x.page) x) new_one
    (subst (λ (n : ℕ). IsDenied (length s1.pages) (tlb_of tlbs n) (page s1 q) h) (same_vcpu u is) (denied (subst (λ (x : Half). x.writable ≡ false) (sym new_one) off))))
    (λ later. co1.exact p u k (later.0) is off)
    (row.fills.others k has))
    (λ none. absurd (some-none v (sym row.runs.loaded ∙ none)))
    (λ u r is other. co.once r p u other is) in
    let second = second_for s v w q in
    let store_is : (b : Bool) → store_granted s v w ≡ b → given pages c.tlb asid Store h.number ≡ store_page b q = λ b.
    elim b as (λ b. store_granted s v w ≡ b → given pages c.tlb asid Store h.number ≡ store_page b q) [ true ↦ stores | false ↦ denied-given user c.tlb asid pages w.unit w.address fits.0 fits.1 ] in
    let second_rule : SecondRule (length s2.pages) (tlb_of tlbs v) second = rw (same_pages, mine) (record {
      readable = λ other is. given-in c other pages Load w.address is ∙ here;
      stores = λ other is. given-in c other pages Store w.address is ∙ store_is (store_granted s v w) refl;
      everywhere = everywhere-base c.tlb asid w.address;
    }) in
    subst Consistent (sym row.after) (coherent_with_second_level s2 v (put second (second_level s v)) co2
    (λ e has. ⊎_elim
    (λ (is : Some second ≡ Some e). let same : second ≡ e = cc in subst (λ (x : Second). ((page s2 x.page).move ≡ None) × SecondRule (length s2.pages) (tlb_of tlbs v) x) same (ap (λ (x : Page). x.move) at_new ∙ row.rests, second_rule))
    (λ (old : Has (second_level s v) (Some e)). (co2.rests v e old, co2.by_second v e old))
    (Has-set (second_level s v) (second.number % 512) (Some second) (Some e) has)))
  where
    some-same : (a b : ℕ) → Some a ≡ Some b → a ≡ b
    some-same a b e = cc

    some-none : (a : ℕ) → Some a ≡ None → ⊥
    some-none a e = cc

    page-within : (user : Bool) (entries : List Entry) (asid pages unit : ℕ) (purpose : Use) (a o : ℕ) → place (record { user = user; asid = asid; entries = entries }) pages unit purpose a ≡ Ok (Memory o) → o / 4096 < pages
    page-within user entries asid pages unit purpose a o e = place-in user entries asid pages unit purpose a o e

pub refills_content : (s t : GuestState) (p : ℕ) → Refills s p t → content t ≡ content s
refills_content s t p row = ap content row.after ∙ content-page s (row.offset / 4096) (named_by p (page s (row.offset / 4096))) refl
