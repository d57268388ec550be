-- What is decided of a step, of the guest's private machine.
use Rattle.std.proofs.Common.{◌≡◌, ℕ, ◌<◌, [], List, length, get_or, set, Option, Result, refl, ap, ◌∙◌, subst}
use Rattle.std.proofs.lemmas.List.{get_or_default, set-get_or}
use Rattle.base_words.specs.declared.moves.MoveKind.{MoveKind}
use Rattle.base_words.specs.declared.trap.TrapCause.{TrapCause}
use Rattle.base_words.specs.declared.exception.Exception.{Exception}
use Rattle.private_machine.specs.declared.vcpu.Vcpu.{Vcpu}
use Rattle.private_machine.specs.Vcpu.{no_vcpu}
use Rattle.private_machine.specs.DevicePage.{DevicePage}
use Rattle.private_machine.specs.OwnStep.{joined}
use Rattle.private_machine.specs.PrivateMachine.{vcpu}
use Rattle.private_machine.specs.StepAct.{act_next}
use Rattle.private_machine.specs.TrapAccess.{HoldsWord}
use Rattle.trap_emulate.specs.declared.decision.Decision.{Decision}
use Rattle.trap_emulate.specs.declared.decision.Decision.TheVariants.{Make}
use Rattle.trap_emulate.specs.declared.decision.Deed.{Deed}
use Rattle.trap_emulate.specs.declared.emulated.EntryWrite.{EntryWrite}
use Rattle.trap_emulate.specs.AtHand.{AtHand, Expects, needed_for}
use Rattle.trap_emulate.specs.Decisions.{Means, Decides, Makes}
use Rattle.trap_emulate.specs.Deeds.{told_of}
use Rattle.trap_emulate.specs.Emulation.{tried, Emulates}
use Rattle.trap_emulate.specs.GuestView.{machine_of}
use Rattle.trap_emulate.specs.Trapped.{IsTrap}
use Rattle.trap_emulate.proofs.ExpectLemmas.{expects, line-told}
use Rattle.trap_emulate.proofs.JoinLemmas.{joined-at-hand}
use Rattle.trap_emulate.proofs.TrapLemmas.{trap-anywhere}

-- the virtual processor as the code reads it
pub step-expects : (pages : ℕ) (vcpus : List Vcpu) (page : DevicePage) (v : ℕ) (needs : Option MoveKind) (cause : TrapCause) (kept : Vcpu)
    → v < length vcpus → IsTrap (joined (machine_of pages vcpus page [] []) v) v needs cause → Expects (get_or vcpus v kept) pages needs cause
step-expects pages vcpus page v needs cause kept there it =
    let m = machine_of pages vcpus page [] [] in
    subst (λ (c : Vcpu). Expects c pages needs cause) (get_or_default vcpus v no_vcpu kept there) (expects (joined m v) v (vcpu m v) pages needs cause (joined-at-hand m v refl) it)

-- what is decided is right for the machine whose input has joined
pub step-means : (pages : ℕ) (vcpus : List Vcpu) (page : DevicePage) (memory : List ℕ) (disk : List (List ℕ)) (v : ℕ) (needs : Option MoveKind) (cause : TrapCause) (kept : Vcpu) (decision : Decision)
    → v < length vcpus → IsTrap (joined (machine_of pages vcpus page [] []) v) v needs cause → Decides (get_or vcpus v kept) pages needs cause decision
    → let j = joined (machine_of pages vcpus page memory disk) v in HoldsWord j v cause → Means j v (needed_for needs cause) (tried j v) (act_next j v) decision
step-means pages vcpus page memory disk v needs cause kept decision there it decides holds =
    let m = machine_of pages vcpus page memory disk in
    let at = subst (λ (c : Vcpu). AtHand (joined m v) v c pages) (get_or_default vcpus v no_vcpu kept there) (joined-at-hand m v refl) in
    decides (joined m v) v at (line-told (joined m v) v needs cause (trap-anywhere pages vcpus page [] memory [] disk v needs cause it)) holds

-- one that is put back as it was changes nothing
put-back : (vcpus : List Vcpu) (v : ℕ) (new kept : Vcpu) → new ≡ get_or vcpus v kept → set vcpus v new ≡ vcpus
put-back vcpus v new kept is = ap (set vcpus v) is ∙ set-get_or vcpus v kept

-- and what is made is the step
pub step-made : (pages count : ℕ) (vcpus : List Vcpu) (page : DevicePage) (memory : List ℕ) (disk : List (List ℕ)) (v : ℕ) (needs : Option MoveKind) (cause : TrapCause) (kept back : Vcpu) (deed : Deed)
    → (new_vcpus : List Vcpu) (new_page : DevicePage) (outcome : Result (Option EntryWrite) Exception)
    → count ≡ pages → back ≡ get_or vcpus v kept
    → let j = joined (machine_of pages vcpus page memory disk) v in Means j v (needed_for needs cause) (tried j v) (act_next j v) (Make deed)
    → Makes (machine_of count (set vcpus v back) page memory disk) v deed (machine_of count new_vcpus new_page memory disk) outcome
    → Emulates (machine_of pages vcpus page memory disk) v needs cause (machine_of pages new_vcpus new_page memory disk) (told_of outcome)
step-made pages count vcpus page memory disk v needs cause kept back deed new_vcpus new_page outcome of_pages same means makes =
    let there = subst (λ (n : ℕ). Makes (machine_of n (set vcpus v back) page memory disk) v deed (machine_of n new_vcpus new_page memory disk) outcome) of_pages makes in
    let here = subst (λ (xs : List Vcpu). Makes (machine_of pages xs page memory disk) v deed (machine_of pages new_vcpus new_page memory disk) outcome) (put-back vcpus v back kept same) there in
    here means.0 means.1 needs cause
