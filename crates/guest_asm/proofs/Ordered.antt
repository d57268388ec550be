-- Words in order of their addresses, up to an address.
use Rattle.std.proofs.Common.{ℕ, ◌+◌, ◌≤◌, List, [], ◌∷◌, ◌++◌, arith}
use Rattle.guest_asm.specs.declared.assembled.Placed.{Placed}
use Rattle.guest_asm.specs.Image.{AreInOrder}

-- from an address on, with the last word's end at most at another one
abbrev pub Ordered : ℕ → List Placed → ℕ → Type 0
Ordered from [] to = from ≤ to
Ordered from (placed ∷ behind) to = (from ≤ placed.address) × Ordered (placed.address + 4) behind to

pub Ordered-on : (from : ℕ) (words : List Placed) (to further : ℕ) → to ≤ further → Ordered from words to → Ordered from words further
Ordered-on from [] to further on o = omega arith
Ordered-on from (placed ∷ behind) to further on o = (o.0, Ordered-on (placed.address + 4) behind to further on o.1)

pub Ordered-push : (from : ℕ) (words : List Placed) (to : ℕ) (placed : Placed) → to ≤ placed.address → Ordered from words to → Ordered from (words ++ placed ∷ []) (placed.address + 4)
Ordered-push from [] to placed on o = (omega arith, omega arith)
Ordered-push from (first ∷ behind) to placed on o = (o.0, Ordered-push (first.address + 4) behind to placed on o.1)

pub AreInOrder-from : (from : ℕ) (words : List Placed) (to : ℕ) → Ordered from words to → AreInOrder from words
AreInOrder-from from [] to o = tt
AreInOrder-from from (placed ∷ behind) to o = (o.0, AreInOrder-from (placed.address + 4) behind to o.1)
