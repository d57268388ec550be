-- How far a guest is: it goes on, it has to end, or it has ended.
use Rattle.std.specs.Prelude.{◌≡◌, ◌⊎◌, ℕ, if◌then◌else◌, Bool, true, false, ◌&&◌, List, [], ◌∷◌, Option, Some, None, is_some}
use Rattle.base_words.specs.declared.events.End.{End}
use Rattle.base_words.specs.declared.events.End.TheVariants.{Halted, Budget, CellFailed}
use Rattle.private_machine.specs.declared.vcpu.Vcpu.{Vcpu}
use Rattle.isolation_law.specs.Parts.{Wish}
use Rattle.isolation_law.specs.GuestState.{GuestState, page, processor, due_on, vcpu_of}

abbrev pub all_halted : List Vcpu → Bool
all_halted [] = true
all_halted (c ∷ vcpus) = c.halted && all_halted vcpus

-- the end that has to come: all virtual processors have halted, or what was noted: a cell in use has failed, or a page was let
-- go for the plan's end
abbrev pub owed : GuestState → Option End
owed s = if all_halted s.vcpus then Some Halted else s.closing

pub record GoesOn (s : GuestState) : Type 0 where
  pub not_ended : s.end ≡ None
  pub owes_no_end : owed s ≡ None

-- after an end by the plan nothing comes; after the others a little
abbrev pub lingers : Option End → Bool
lingers None = false
lingers (Some Halted) = true
lingers (Some Budget) = false
lingers (Some (CellFailed cell)) = true

abbrev pub GoesOnOrLingers : GuestState → Type 0
GoesOnOrLingers s = GoesOn s ⊎ (lingers s.end ≡ true)

-- a virtual processor that hasn't halted is loaded on a processor
pub record Runs (s : GuestState) (p v : ℕ) : Type 0 where
  pub loaded : (processor s p).loaded ≡ Some v
  pub running : (vcpu_of s v).halted ≡ false

-- a processor may act where no choice of the policy is due on it, or the choice is of a page with a move
abbrev pub lets_act : GuestState → Option Wish → Bool
lets_act s None = true
lets_act s (Some wish) = is_some (page s wish.page).move

abbrev pub MayAct : GuestState → ℕ → Type 0
MayAct s p = lets_act s (due_on s p) ≡ true
