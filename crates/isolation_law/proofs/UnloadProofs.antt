-- An unload keeps coherence and content.
use Rattle.std.proofs.Common.{◌≡◌, ◌≢◌, ℕ, zero, suc, ◌+◌, ◌<◌, ◌≤◌, cond, ⊎_elim, List, [], ◌∷◌, ◌++◌, length, map, set, get_or, refl, sym, ap, ◌∙◌, subst}
use Rattle.std.proofs.lemmas.List.{length-map, get_or_past}
use Rattle.std.proofs.lemmas.List.Sums.{sum_by-cons}
use Rattle.std.specs.Prelude.{count_by, flat_map, option_map}
use Rattle.base_words.specs.Halves.{Half}
use Rattle.base_words.specs.Membership.{Has}
use Rattle.private_machine.specs.Backing.{Page, no_page}
use Rattle.private_machine.specs.PageMove.{acknowledged, left_by}
use Rattle.isolation_law.specs.Coherence.{HalfOnPage, IsDenied, tlb_of, Consistent}
use Rattle.isolation_law.specs.PageRules.{PageRule, needs_spare, sources}
use Rattle.isolation_law.specs.Content.{content}
use Rattle.isolation_law.specs.GuestState.{GuestState, idle, page, with_processor, operation_of}
use Rattle.isolation_law.specs.LoadRows.{Unloads}
use Rattle.isolation_law.specs.Parts.{Processor}
use Rattle.isolation_law.proofs.Lists.{at_set}
use Rattle.isolation_law.proofs.Parts.{coherent_with_processor}
use Rattle.isolation_law.proofs.LeaveProofs.{left_rule, left_half, left_needs}

unload_count : (p : ℕ) (gs : List Page) → count_by needs_spare (map (left_by p) gs) ≡ count_by needs_spare gs
unload_count p [] = refl
unload_count p (g ∷ gs) =
    let same : cond {A = ℕ} (needs_spare (left_by p g)) 1 0 ≡ cond (needs_spare g) 1 0 = ap (λ b. cond {A = ℕ} b 1 0) (left_needs p g) in
    let rest = unload_count p gs in
    let one : Page → ℕ = λ x. cond {A = ℕ} (needs_spare x) 1 0 in
    let path : one (left_by p g) + count_by needs_spare (map (left_by p) gs) ≡ one g + count_by needs_spare gs = λ i. same i + rest i in
    sum_by-cons one (left_by p g) (map (left_by p) gs) ∙ path ∙ sym (sum_by-cons one g gs)

left_page : (s : GuestState) (p q : ℕ) → get_or (map (left_by p) s.pages) q no_page ≡ left_by p (page s q)
left_page s p q = at s.pages q
  where
    at : (gs : List Page) (q : ℕ) → get_or (map (left_by p) gs) q no_page ≡ left_by p (get_or gs q no_page)
    at [] q = refl
    at (g ∷ gs) zero = refl
    at (g ∷ gs) (suc q) = at gs q

pub unloads_keeps : (s t : GuestState) (p : ℕ) → Consistent s → Unloads s p t → Consistent t
unloads_keeps s t p co row =
    let s1 = with_processor s p idle in
    let co1 : Consistent s1 = coherent_with_processor s p idle co (λ h has. absurd has) (λ v h has is. absurd has) (λ v h has is off. absurd has) (λ none. refl) (λ v r is other. cc) in
    let pages = map (left_by p) s.pages in
    let tlbs = map (λ c. c.tlb) s.vcpus in
    let long : length pages ≡ length s.pages = length-map s.pages (left_by p) in
    let made : Consistent (record s1 { pages = pages }) = record {
      by_page = λ q below. subst (PageRule (sources s) (length s1.processors) (operation_of s q)) (sym (left_page s p q)) (left_rule (sources s) (length s1.processors) p (operation_of s q) (page s q) (co1.by_page q (subst (λ (n : ℕ). q < n) long below)));
      as_many = co.as_many ∙ sym long;
      within = λ r h has. rw long (co1.within r h has);
      on_page = λ r h has. subst (λ (g : Page). HalfOnPage g r h) (sym (left_page s p h.page)) (left_half p r (page s h.page) h (apart r h has) (co1.on_page r h has));
      in_tlb = λ r v h has runs. rw long (co1.in_tlb r v h has runs);
      exact = λ r v h has runs off. rw long (subst (λ (g : Page). IsDenied (length s.pages) (tlb_of tlbs v) g h) (sym (left_page s p h.page)) (co1.exact r v h has runs off));
      empty = co1.empty;
      once = co1.once;
      rests = λ v e has. ap (λ (g : Page). g.move) (left_page s p e.page) ∙ ap (option_map (acknowledged p)) (co1.rests v e has);
      by_second = λ v e has. rw long (co1.by_second v e has);
      enough = rw (unload_count p s.pages) co.enough;
      blocks = co.blocks;
      armed_page = λ q armed. rw long (co.armed_page q armed);
      packet = co.packet;
    } in
    subst Consistent (sym row.after) made
  where
    apart : (r : ℕ) (h : Half) → Has (get_or (set s.processors p idle) r idle).tlb h → r ≢ p
    apart r h has e = ⊎_elim
        (λ (x : (r ≡ p) × (p < length s.processors) × (get_or (set s.processors p idle) r idle ≡ idle)). subst (λ (y : Processor). Has y.tlb h) x.2 has)
        (λ (x : ((r ≡ p) → length s.processors ≤ p) × (get_or (set s.processors p idle) r idle ≡ get_or s.processors r idle)).
        subst (λ (y : Processor). Has y.tlb h) (x.1 ∙ ap (λ (k : ℕ). get_or s.processors k idle) e ∙ get_or_past s.processors p idle (x.0 e)) has)
        (at_set s.processors p idle idle r)

unload_memory : (p : ℕ) (gs : List Page) → flat_map (λ (g : Page). g.master.bytes) (map (left_by p) gs) ≡ flat_map (λ (g : Page). g.master.bytes) gs
unload_memory p [] = refl
unload_memory p (g ∷ gs) = ap (λ (b : List ℕ). g.master.bytes ++ b) (unload_memory p gs)

pub unloads_content : (s t : GuestState) (p : ℕ) → Unloads s p t → content t ≡ content s
unloads_content s t p row = ap content row.after ∙ (λ i. record (content s) { pages = length-map s.pages (left_by p) i; memory = unload_memory p s.pages i })
