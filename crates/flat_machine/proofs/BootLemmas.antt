-- Virtual processors at their start.
use Rattle.std.proofs.Common.{◌≡◌, ℕ, zero, suc, ◌∷◌, map, replicate, false, ap, refl}
use Rattle.private_machine.specs.Vcpu.{started}
use Rattle.private_machine.specs.Showing.{shown_by, shown_from}

-- none has halted, and none shows a line
pub shown_by-started : (n entry : ℕ) → map shown_by (replicate n (started entry)) ≡ shown_from false (replicate n false) (replicate n false)
shown_by-started zero entry = refl
shown_by-started (suc n) entry = ap (λ xs. record { halted = false; called = false; packet = false } ∷ xs) (shown_by-started n entry)
