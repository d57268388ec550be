-- The items of what a guest's virtual processors become together.
use Rattle.std.proofs.Common.{◌≡◌, ℕ, zero, suc, ◌<◌, ◌==◌, List, [], ◌∷◌, Bool, true, false, ◌&&◌, length, get_or, map, ap, sym, ◌∙◌, refl, arith}
use Rattle.std.proofs.lemmas.List.{get_or-map, get_or-set_same, get_or-set_other, length-map, length-set, get_or_default}
use Rattle.std.proofs.lemmas.Bool.Decides.{nat_tests}
use Rattle.private_machine.specs.declared.vcpu.Vcpu.{Vcpu}
use Rattle.private_machine.specs.Vcpu.{no_vcpu}
use Rattle.private_machine.specs.Links.{unlinked, unlinked_others}
use Rattle.private_machine.specs.Showing.{shown_by, shown_from, showing, showing_from}

-- those that show what lists tell are as many, and the one at a place shows what stands there
pub length-showing_from : (p : Bool) (hs cs : List Bool) (xs : List Vcpu) → length (showing_from p hs cs xs) ≡ length xs
length-showing_from p [] cs xs = refl
length-showing_from p (h ∷ hs) [] xs = refl
length-showing_from p (h ∷ hs) (c ∷ cs) [] = refl
length-showing_from p (h ∷ hs) (c ∷ cs) (x ∷ xs) = ap suc (length-showing_from false hs cs xs)

and-false : (b : Bool) → (b && false) ≡ false
and-false true = refl
and-false false = refl

suc-zero : (k : ℕ) → (suc k == 0) ≡ false
suc-zero k = grind (arith, nat_tests)

pub get_or-showing_from : (p : Bool) (hs cs : List Bool) (xs : List Vcpu) (k : ℕ) (d : Vcpu) → length hs ≡ length xs → length cs ≡ length xs → k < length xs
    → get_or (showing_from p hs cs xs) k d ≡ showing (get_or hs k false) (get_or cs k false) ((k == 0) && p) (get_or xs k d)
get_or-showing_from p hs cs [] k d sh sc there = absurd (omega arith)
get_or-showing_from p [] cs (x ∷ xs) k d sh sc there = absurd (omega arith)
get_or-showing_from p (h ∷ hs) [] (x ∷ xs) k d sh sc there = absurd (omega arith)
get_or-showing_from p (h ∷ hs) (c ∷ cs) (x ∷ xs) zero d sh sc there = refl
get_or-showing_from p (h ∷ hs) (c ∷ cs) (x ∷ xs) (suc k) d sh sc there =
    get_or-showing_from false hs cs xs k d (omega arith) (omega arith) (omega arith) ∙ ap (λ b. showing (get_or hs k false) (get_or cs k false) b (get_or xs k d)) (and-false (k == 0) ∙ sym (ap (λ b. b && p) (suc-zero k)))

pub shown_by-showing_from : (p : Bool) (hs cs : List Bool) (xs : List Vcpu) → length hs ≡ length xs → length cs ≡ length xs
    → map shown_by (showing_from p hs cs xs) ≡ shown_from p hs cs
shown_by-showing_from p [] [] [] sh sc = refl
shown_by-showing_from p [] (c ∷ cs) [] sh sc = refl
shown_by-showing_from p [] cs (x ∷ xs) sh sc = absurd (omega arith)
shown_by-showing_from p (h ∷ hs) cs [] sh sc = absurd (omega arith)
shown_by-showing_from p (h ∷ hs) [] (x ∷ xs) sh sc = absurd (omega arith)
shown_by-showing_from p (h ∷ hs) (c ∷ cs) (x ∷ xs) sh sc = ap (λ ys. shown_by (showing h c p x) ∷ ys) (shown_by-showing_from false hs cs xs (omega arith) (omega arith))

-- a store unlinks all but the one that makes it
pub length-unlinked_others : (line v : ℕ) (xs : List Vcpu) → length (unlinked_others line v xs) ≡ length xs
length-unlinked_others line v xs = length-set (map (unlinked line) xs) v (get_or xs v no_vcpu) ∙ length-map xs (unlinked line)

unlinked_same : (line v : ℕ) (xs : List Vcpu) (d : Vcpu) → v < length xs → get_or (unlinked_others line v xs) v d ≡ get_or xs v d
unlinked_same line v xs d there =
    let here : v < length (map (unlinked line) xs) = omega (arith, length-map xs (unlinked line)) in
    get_or-set_same (map (unlinked line) xs) v (get_or xs v no_vcpu) d here ∙ get_or_default xs v no_vcpu d there

pub get_or-unlinked_same : (line v k : ℕ) (xs : List Vcpu) (d : Vcpu) → k ≡ v → k < length xs → get_or (unlinked_others line v xs) k d ≡ get_or xs k d
get_or-unlinked_same line v k xs d is there = rw is (unlinked_same line v xs d (omega (arith, is, there)))

pub get_or-unlinked_other : (line v k : ℕ) (xs : List Vcpu) (d : Vcpu) → (k ≡ v → ⊥) → k < length xs → get_or (unlinked_others line v xs) k d ≡ unlinked line (get_or xs k d)
get_or-unlinked_other line v k xs d other there =
    get_or-set_other (map (unlinked line) xs) v k (get_or xs v no_vcpu) d other ∙ get_or-map (unlinked line) xs k d d there
