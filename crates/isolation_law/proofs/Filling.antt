-- A half that joins at the head.
use Rattle.std.proofs.Common.{◌≡◌, inl, inr, false, List, ◌∷◌, refl}
use Rattle.base_words.specs.Halves.{Half, Fills, clash}
use Rattle.base_words.specs.Membership.{Has}

pub at_head : (new : Half) (old kept : List Half) → ((h : Half) → Has kept h → Has old h) → ((h : Half) → Has kept h → clash new h ≡ false) → Fills new old (new ∷ kept)
at_head new old kept were_there no_clash = record {
  joins = inl refl;
  others = λ h has. elim has [ inl e ↦ inl e | inr later ↦ inr (were_there h later, no_clash h later) ];
}
