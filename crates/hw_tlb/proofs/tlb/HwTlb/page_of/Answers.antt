-- The half stands at the place that was found; where none was found, none stands anywhere.
use Rattle.std.proofs.Common.{◌≡◌, ◌∙◌, inl, inr, Some, None, refl, sym, ap, subst, true≢false, arith}
use Rattle.std.proofs.lemmas.Bool.{cases_lt, eq-eqb, eqb-true}
use Rattle.std.proofs.lemmas.List.{get_or_past}
use Rattle.base_words.specs.Halves.{Half}
use Rattle.base_words.specs.Membership.{Has}
use Rattle.hw_tlb.specs.Tlb.{Tlb, halves}
use Rattle.hw_tlb.specs.Filling.{has_such}
use Rattle.hw_tlb.specs.Rooms.{half_of, is_naming}
use Rattle.hw_tlb.proofs.PlaceLemmas.{has-standing, stands}
use Rattle.hw_tlb.proofs.RoomLemmas.{such-room}
use Rattle.hw_tlb.proofs.tlb.HwTlb.page_of.Goals as goal

pub returns-then-place-lt-PLACES-clause-named : goal.returns-then-place-lt-PLACES-clause-named
returns-then-place-lt-PLACES-clause-named c =
    let ps = c.self.inside.rooms in
    let frame = c.args.frame.0 in
    let such = such-room (is_naming frame) c.at.result.now (ap (has_such (is_naming frame)) c.at.ensures ∙ c.place_of_frame-place.ensures.found c.if-place-lt-PLACES.true) in
    rw (← c.self.view_is) (half_of _, has-standing ps c.place_of_frame-place.result _ (sym c.at.ensures ∙ such.0), eqb-true _ frame such.1, refl)

pub returns-else-place-lt-PLACES-clause-none : goal.returns-else-place-lt-PLACES-clause-none
returns-else-place-lt-PLACES-clause-none c = λ h has is.
    let ps = c.self.inside.rooms in
    let frame = c.args.frame.0 in
    let s = stands ps h (subst (λ (t : Tlb). Has (halves t) h) (sym c.self.view_is) has) in
    elim (cases_lt s.at 96) [
      | inl lt ↦ true≢false (sym (ap (has_such (is_naming frame)) s.is ∙ eq-eqb h.frame frame is) ∙ c.place_of_frame-place.ensures.none c.if-place-lt-PLACES.false s.at lt)
      | inr ge ↦ no h (sym s.is ∙ get_or_past ps s.at None (omega (arith, c.self.invariant.long)))
    ]
  where
    no : (h : Half) → Some h ≡ None → ⊥
    no h e = cc
