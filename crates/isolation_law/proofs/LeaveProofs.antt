-- Acknowledgements and loads keep coherence and content.
use Rattle.private_machine.specs.Operation.{Operation}
use Rattle.std.proofs.Common.{◌≡◌, ◌≢◌, ℕ, zero, suc, ◌<◌, ◌≤◌, ◌==◌, Bool, false, not, ◌&&◌, ⊎_elim, Option, Some, None, List, [], ◌∷◌, length, set, get_or, refl, sym, ap, ◌∙◌, subst, arith, get_or-set_other, length-set, true≢false}
use Rattle.std.proofs.lemmas.Bool.{cases_eq, eq-eqb}
use Rattle.std.proofs.lemmas.List.{get_or_past}
use Rattle.std.specs.Prelude.{option_map}
use Rattle.base_words.specs.Halves.{Half, without_page}
use Rattle.base_words.specs.Membership.{Has}
use Rattle.private_machine.specs.Backing.{Move, Page, no_page}
use Rattle.private_machine.specs.PageMove.{acknowledged, left_by}
use Rattle.isolation_law.specs.Coherence.{HalfOnPage, Consistent}
use Rattle.isolation_law.specs.PageRules.{MoveRule, PageRule, is_breaking, needs_spare, sources, Sources}
use Rattle.isolation_law.specs.Content.{content}
use Rattle.isolation_law.specs.GuestState.{GuestState, idle, page, processor, with_processor, operation_of}
use Rattle.isolation_law.specs.LoadRows.{Loads, Acks}
use Rattle.isolation_law.specs.Parts.{Processor}
use Rattle.isolation_law.proofs.Lists.{Has-filter}
use Rattle.isolation_law.proofs.Parts.{at_place, coherent_with_page, coherent_with_processor, count_same, content-page}

-- a page that moves is one of the guest's
pub moving_within : (gs : List Page) (q : ℕ) (m : Move) → (get_or gs q no_page).move ≡ Some m → q < length gs
moving_within [] q m e = cc
moving_within (g ∷ gs) zero m e = omega arith
moving_within (g ∷ gs) (suc q) m e = let r = moving_within gs q m e in omega arith

left_moves : (from : Sources) (op : Option Operation) (shared : Bool) (mapped : List Bool) (o : Option Move) (p : ℕ) → MoveRule from op shared mapped o → MoveRule from op shared (set mapped p false) (option_map (acknowledged p) o)
left_moves from op shared mapped None p r = tt
left_moves from op shared mapped (Some m) p r = (ap (λ (l : List Bool). set l p false) r.0, r.1)

pub left_rule : (from : Sources) (n p : ℕ) (op : Option Operation) (g : Page) → PageRule from n op g → PageRule from n op (left_by p g)
left_rule from n p op g rule = record { equal = rule.equal; whole = rule.whole; single = rule.single; moves = left_moves from op g.shared g.mapped g.move p rule.moves; sized = subst (λ (k : ℕ). n ≤ k) (sym (length-set g.mapped p false)) rule.sized }

pub left_half : (p r : ℕ) (g : Page) (h : Half) → r ≢ p → HalfOnPage g r h → HalfOnPage (left_by p g) r h
left_half p r g h ne old = record { backed = old.backed; is_mapped = get_or-set_other g.mapped p r false false ne ∙ old.is_mapped; alone = old.alone }

left_breaking : (o : Option Move) (p : ℕ) → is_breaking (option_map (acknowledged p) o) ≡ is_breaking o
left_breaking None p = refl
left_breaking (Some m) p = refl

pub left_needs : (p : ℕ) (g : Page) → needs_spare (left_by p g) ≡ needs_spare g
left_needs p g = ap (λ b. g.shared && not b) (left_breaking g.move p)

Has-without : (q : ℕ) (hs : List Half) (h : Half) → Has (without_page q hs) h → Has hs h × (h.page ≢ q)
Has-without q hs h has =
    let r = Has-filter (λ (x : Half). not (x.page == q)) hs h has in
    (r.0, λ e. true≢false (sym r.1 ∙ ap not (eq-eqb h.page q e)))

lost : (s : GuestState) (p r : ℕ) → r ≡ p → length s.processors ≤ p → (h : Half) → Has (processor s r).tlb h → ⊥
lost s p r e ge h has = subst (λ (x : Processor). Has x.tlb h) (ap (processor s) e ∙ get_or_past s.processors p idle ge) has

pub acks_keeps : (s t : GuestState) (p q : ℕ) → Consistent s → Acks s p q t → Consistent t
acks_keeps s t p q co row =
    let g = page s q in
    let there : q < length s.pages = moving_within s.pages q row.move row.open_move in
    let less : Processor = record (processor s p) { tlb = without_page q (processor s p).tlb } in
    let s1 = with_processor s p less in
    let was : (h : Half) → Has less.tlb h → Has (processor s p).tlb h = λ h has. (Has-without q (processor s p).tlb h has).0 in
    let co1 : Consistent s1 = coherent_with_processor s p less co
    (λ h has. (co.within p h (was h has), co.on_page p h (was h has)))
    (λ v h has mine. co.in_tlb p v h (was h has) mine)
    (λ v h has mine off. co.exact p v h (was h has) mine off)
    (λ none. ap (without_page q) (co.empty p none))
    (λ v r mine other. co.once r p v other mine) in
    subst Consistent (sym row.after) (coherent_with_page s1 q (left_by p g) there co1 (left_rule (sources s1) (length s1.processors) p (operation_of s q) g (co1.by_page q there))
    (λ r h. at_place (λ k x. Has x.tlb h → h.page ≡ q → HalfOnPage g k h → HalfOnPage (left_by p g) k h) s.processors p less idle r
    (λ _ has at. absurd ((Has-without q (processor s p).tlb h has).1 at))
    (λ far has at old. ⊎_elim
    (λ (e : r ≡ p). absurd (lost s p r e (far e) h has))
    (λ (ne : r ≢ p). left_half p r g h ne old)
    (cases_eq r p)))
    (λ r h has at old. (refl, refl))
    (λ v e has at none. ap (option_map (acknowledged p)) none)
    (rw (count_same s.pages q (left_by p g) there (left_needs p g)) co.enough))

pub acks_content : (s t : GuestState) (p q : ℕ) → Acks s p q t → content t ≡ content s
acks_content s t p q row = ap content row.after ∙ content-page s q (left_by p (page s q)) refl

pub loads_keeps : (s t : GuestState) (p v : ℕ) → Consistent s → Loads s p v t → Consistent t
loads_keeps s t p v co row = subst Consistent (sym row.after) (coherent_with_processor s p (record { loaded = Some v; tlb = [] }) co
    (λ h has. absurd has)
    (λ u h has mine. absurd has)
    (λ u h has mine off. absurd has)
    (λ none. refl)
    (λ u r mine other. absurd (row.nowhere r (subst (λ (k : ℕ). (processor s r).loaded ≡ Some k) (same_vcpu u v mine) other))))
  where
    same_vcpu : (u w : ℕ) → Some w ≡ Some u → u ≡ w
    same_vcpu u w e = cc

pub loads_content : (s t : GuestState) (p v : ℕ) → Loads s p v t → content t ≡ content s
loads_content s t p v row = ap content row.after
