-- The halves of a coherent guest's processors can be read and written as they say.
use Rattle.std.proofs.Common.{◌≡◌, ℕ, ◌≤◌, ◌==◌, Bool, true, false, if◌then◌else◌, inl, inr, ⊎_elim, List, [], ◌∷◌, length, refl, sym, ap, ◌∙◌, subst, arith}
use Rattle.std.proofs.lemmas.Bool.{eq-eqb}
use Rattle.base_words.specs.Halves.{Half}
use Rattle.base_words.specs.Membership.{Has}
use Rattle.private_machine.specs.Backing.{Copy, Page, copies, has_frame}
use Rattle.private_machine.specs.Serving.{Serves, AllServe}
use Rattle.isolation_law.specs.GuestState.{GuestState, page, processor}
use Rattle.isolation_law.specs.DirectStep.{held_of}
use Rattle.isolation_law.specs.Coherence.{Consistent}

has-frame : (cs : List Copy) (c : Copy) (frame : ℕ) → Has cs c → c.frame ≡ frame → has_frame cs frame ≡ true
has-frame [] c frame has e = absurd has
has-frame (d ∷ ds) c frame has e = (elim (d.frame == frame) as (λ b. (d.frame == frame) ≡ b → (if b then true else has_frame ds frame) ≡ true) [
  | true ↦ λ is. refl
  | false ↦ λ is. ⊎_elim
      (λ (same : d ≡ c). ap (λ (b : Bool). if b then true else has_frame ds frame) (sym is ∙ eq-eqb d.frame frame (ap (λ (z : Copy). z.frame) same ∙ e)))
      (λ later. has-frame ds c frame later e)
      has
]) refl

only-master : (g : Page) (c : Copy) → Has (copies g) c → g.replicas ≡ [] → g.master.frame ≡ c.frame
only-master g c has none = ⊎_elim (λ (e : g.master ≡ c). ap (λ (z : Copy). z.frame) e) (λ later. absurd (subst (λ (l : List Copy). Has l c) none later)) has

serves : (s : GuestState) (p : ℕ) (h : Half) → Consistent s → length s.pages ≤ 0xFFFF → Has (processor s p).tlb h → Serves (held_of s) h
serves s p h co few has =
    let lt = co.within p h has in
    let on = co.on_page p h has in (
      record { low = omega arith; within = lt; is_there = has-frame (copies (page s h.page)) on.backed.0 h.frame on.backed.1 on.backed.2 },
      λ writable. let alone = on.alone writable in record {
        low = omega arith;
        within = lt;
        is_master = only-master (page s h.page) on.backed.0 on.backed.1 alone.1 ∙ on.backed.2;
        own = alone.0;
        single = alone.1;
      },
    )

all : (s : GuestState) (p : ℕ) (hs : List Half) → Consistent s → length s.pages ≤ 0xFFFF → ((h : Half) → Has hs h → Has (processor s p).tlb h) → AllServe (held_of s) hs
all s p [] co few has = tt
all s p (h ∷ hs) co few has = (serves s p h co few (has h (inl refl)), all s p hs co few (λ k later. has k (inr later)))

pub halves-serve : (s : GuestState) (p : ℕ) → Consistent s → length s.pages ≤ 0xFFFF → AllServe (held_of s) (processor s p).tlb
halves-serve s p co few = all s p (processor s p).tlb co few (λ h has. has)
