-- What stays while a processor steps.
use Rattle.std.specs.Prelude.{ℕ, Bool, List}
use Rattle.private_machine.specs.declared.vcpu.Vcpu.{Vcpu}
use Rattle.private_machine.specs.Backing.{Copy, Held}
use Rattle.private_machine.specs.Serving.{Backs}

-- which frames are lost with a failed cell, which virtual processor steps, and the others but for their links; the frames that
-- no page uses, and for how many more there is room
pub record Site : Type 0 where
  pub lost : ℕ → Bool
  pub stepping : ℕ
  pub others : List Vcpu
  pub spares : List Copy
  pub room : ℕ

-- a frame is one of a page's
abbrev pub IsHeld : Held → ℕ → Type 0
IsHeld h frame = (page : ℕ) × Backs h page frame
