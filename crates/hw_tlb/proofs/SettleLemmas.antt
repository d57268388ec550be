-- How the places change as a new half settles in its entry.
use Rattle.std.proofs.Common.{◌≡◌, ◌≢◌, ℕ, ◌+◌, ◌-◌, ◌*◌, true, false, not, List, set, map, Option, Some, None, refl, sym, ap, ◌∙◌, arith}
use Rattle.std.proofs.lemmas.List.{set_comm, set-set, set-get_or}
use Rattle.base_words.specs.Halves.{Half, clash}
use Rattle.hw_tlb.specs.Tlb.{half_at, side, are_beside}
use Rattle.hw_tlb.specs.Dropping.{emptied}
use Rattle.hw_tlb.specs.Filling.{has_such, placed}
use Rattle.hw_tlb.specs.Counts.{settled}
use Rattle.hw_tlb.proofs.PlaceLemmas.{half_at-map}
use Rattle.hw_tlb.proofs.ScanLemmas.{kept_such, swept_set}

abbrev Places : Type 0
Places = List (Option Half)

-- a place as it is once what may not stand beside the new half is gone
abbrev pub kept_beside : Half → Option Half → Option Half
kept_beside new p = emptied (λ h. not (are_beside new h)) p

beside_kept : (new : Half) (p : Option Half) → has_such (are_beside new) p ≡ true → emptied (λ h. not (are_beside new h)) p ≡ p
beside_kept new None e = refl
beside_kept new (Some h) e = rw e refl

beside_gone : (new : Half) (p : Option Half) → has_such (are_beside new) p ≡ false → emptied (λ h. not (are_beside new h)) p ≡ None
beside_gone new None e = refl
beside_gone new (Some h) e = rw e refl

settled_at : (ps : Places) (new : Half) (place other : ℕ) → other ≢ place → ((j : ℕ) → j ≢ place → has_such (clash new) (half_at ps j) ≡ false) → set (set ps other (kept_beside new (half_at ps other))) place (Some new) ≡ set (set (map (emptied (clash new)) ps) other (kept_beside new (half_at (map (emptied (clash new)) ps) other))) place (Some new)
settled_at ps new place other ne away =
    let x = kept_beside new (half_at ps other) in
    let swept = map (emptied (clash new)) ps in
    let same : half_at swept other ≡ half_at ps other = half_at-map (emptied (clash new)) refl ps other ∙ kept_such (clash new) (half_at ps other) (away other ne) in
    set_comm ps other place x (Some new) ne
    ∙ ap (λ (qs : Places). set qs other x) (sym (swept_set (clash new) ps place (Some new) away))
    ∙ sym (set_comm swept other place x (Some new) ne)
    ∙ ap (λ (p : Option Half). set (set swept other (kept_beside new p)) place (Some new)) (sym same)

-- where no half elsewhere clashes, none has to be dropped first
pub settled_placed : (ps : Places) (new : Half) (entry : ℕ) → ((j : ℕ) → j ≢ 2 * entry + side new → has_such (clash new) (half_at ps j) ≡ false) → settled new entry ps ≡ placed new entry ps
settled_placed ps new entry away = settled_at ps new (2 * entry + side new) (2 * entry + (1 - side new)) (λ e. omega arith) away

-- the places as the new half settles, step by step
pub settled_is : (ps xs ys zs : Places) (new : Half) (entry s : ℕ) → s ≡ side new → xs ≡ set ps (2 * entry + (1 - s)) (kept_beside new (half_at ps (2 * entry + (1 - s)))) → ys ≡ set xs (2 * entry + s) None → zs ≡ set ys (2 * entry + s) (Some new) → zs ≡ settled new entry ps
settled_is ps xs ys zs new entry s is x y z =
    z ∙ ap (λ (qs : Places). set qs (2 * entry + s) (Some new)) y ∙ set-set xs (2 * entry + s) None (Some new) ∙ ap (λ (qs : Places). set qs (2 * entry + s) (Some new)) x
    ∙ ap (λ (t : ℕ). set (set ps (2 * entry + (1 - t)) (kept_beside new (half_at ps (2 * entry + (1 - t))))) (2 * entry + t) (Some new)) is

pub other_gone : (ps : Places) (new : Half) (k : ℕ) (p : Option Half) → p ≡ half_at ps k → has_such (are_beside new) p ≡ false → set ps k None ≡ set ps k (kept_beside new (half_at ps k))
other_gone ps new k p is e = ap (λ (o : Option Half). set ps k o) (sym (ap (kept_beside new) (sym is) ∙ beside_gone new p e))

pub other_kept : (ps : Places) (new : Half) (k : ℕ) (p : Option Half) → p ≡ half_at ps k → has_such (are_beside new) p ≡ true → ps ≡ set ps k (kept_beside new (half_at ps k))
other_kept ps new k p is e = sym (ap (λ (o : Option Half). set ps k o) (ap (kept_beside new) (sym is) ∙ beside_kept new p e ∙ is) ∙ set-get_or ps k None)
