-- What is named is there, and each node is in one cell.
use Rattle.std.proofs.Common.{◌≡◌, ℕ, zero, suc, ◌+◌, ◌<◌, List, [], ◌∷◌, length, get_or, nat_lt, Ok, codes, subst, arith}
use Rattle.std.specs.Prelude.{All}
use Rattle.std.proofs.lemmas.Bool.Decides.{nat_tests}
use Rattle.std.proofs.lemmas.List.Elements.{All-nil, All-cons}
use Rattle.base_words.specs.declared.ids.NodeId.{NodeId}
use Rattle.machine_desc.specs.declared.machine.GuestSpec.{GuestSpec}
use Rattle.machine_desc.specs.declared.place.Place.TheVariants as places
use Rattle.machine_desc.specs.Paths.{path}
use Rattle.machine_desc.specs.Reads.{Read, all}
use Rattle.machine_desc.specs.Names.{there, processors_named, guests_named}
use Rattle.machine_desc.proofs.Stepwise.{reading, tested}

-- what each of a list is checked for holds of all
pub all-all : {A : Type 0} (P : A → Type 0) (f : ℕ → A → Read (Unit {0})) → ((i : ℕ) (x : A) → f i x ≡ Ok tt → P x) → (i : ℕ) (xs : List A) → all f i xs ≡ Ok tt → All P xs
all-all P f holds i [] is = All-nil P
all-all P f holds i (x ∷ xs) is =
    reading (f i x) (λ _. all f (suc i) xs) tt is λ done here rest. All-cons P x xs (holds i x here) (all-all P f holds (suc i) xs rest)

-- the check of one of them
pub all-at : {A : Type 0} (f : ℕ → A → Read (Unit {0})) (i k n : ℕ) (xs : List A) (d : A) → all f i xs ≡ Ok tt → k < length xs → i + k ≡ n → f n (get_or xs k d) ≡ Ok tt
all-at f i k n [] d is lt at = absurd (omega arith)
all-at f i zero n (x ∷ xs) d is lt at = reading (f i x) (λ _. all f (suc i) xs) tt is λ done here rest. subst (λ (j : ℕ). f j x ≡ Ok tt) (omega arith) here
all-at f i (suc k) n (x ∷ xs) d is lt at = reading (f i x) (λ _. all f (suc i) xs) tt is λ done here rest. all-at f (suc i) k n xs d rest (omega arith) (omega arith)

pub there-below : (key : List ℕ) (count n : ℕ) → there key count n ≡ Ok tt → n < count
there-below key count n is = let t = tested (nat_lt n count) tt tt _ is in grind (arith, nat_tests, t.0)

pub processors-below : (count : ℕ) (processors : List NodeId) → processors_named count processors ≡ Ok tt → All (λ node. node.0 < count) processors
unfolding processors_named
processors-below count processors is = all-all (λ (node : NodeId). node.0 < count) _ (λ i node here. there-below (path places.Machine (codes "processors")) count node.0 here) 0 processors is

pub guests-below : (count : ℕ) (guests : List GuestSpec) → guests_named count guests ≡ Ok tt → All (λ guest. guest.node.0 < count) guests
unfolding guests_named
guests-below count guests is = all-all (λ (guest : GuestSpec). guest.node.0 < count) _ (λ i guest here. there-below (path (places.Guest i) (codes "node")) count guest.node.0 here) 0 guests is
