-- What a trap tells of the word at the program counter, and of a store through a half that isn't writable.
use Rattle.std.proofs.Common.{◌≡◌, ℕ, ◌+◌, ◌*◌, ◌%◌, if◌then◌else◌, Bool, true, false, Option, Some, None, Result, Ok, Err, refl, ◌∙◌, ap, subst, arith}
use Rattle.std.proofs.lemmas.Bool.{eqb-true}
use Rattle.base_words.specs.declared.exception.Exception.{Exception}
use Rattle.base_words.specs.declared.regs.Regs.{Regs}
use Rattle.base_words.specs.Instruction.{Effect, effect}
use Rattle.base_words.specs.Memory.{word_at}
use Rattle.base_words.specs.OpcodeMap.{decoded}
use Rattle.private_machine.specs.Links.{word_offset}
use Rattle.private_machine.specs.PrivateMachine.{PrivateMachine}
use Rattle.private_machine.specs.OwnStep.{fetched, joined, word_of, is_privileged}
use Rattle.private_machine.specs.Reaching.{Wanted, Lack, NoRange, NoHalf, DeadFrame, NoStore, Sight, Reached, at_half, wanted, fetch_at, reached}
use Rattle.private_machine.specs.HardwareStep.{Trap, Line, Privileged, Raised, Done, cause_of, fetch_trap, data_trap, with_data, asks_of, accesses, executes, decodes, fetches, word_through}
use Rattle.private_machine.specs.TrapAccess.{HoldsWord}
use Rattle.isolation_law.specs.GuestState.{GuestState, processor, vcpu_of}
use Rattle.isolation_law.specs.Content.{content}
use Rattle.isolation_law.specs.Coherence.{Consistent}
use Rattle.isolation_law.specs.DirectStep.{with_inputs, sight}
use Rattle.isolation_law.specs.Traps.{step_on}
use Rattle.base_words.specs.Halves.{Half}
use Rattle.isolation_law.proofs.DirectProofs.{ByHalf, reached-ok, word-through}
use Rattle.isolation_law.proofs.DirectContent.{content-inputs, led-through}

err-same : (a b : Trap) → ◌≡◌ {A = Result Done Trap} (Err a) (Err b) → a ≡ b
err-same a b e = cc

fetch-holds : (m : PrivateMachine) (v : ℕ) (w : Wanted) (lack : Lack) → HoldsWord m v (cause_of (fetch_trap w lack))
fetch-holds m v w NoRange = tt
fetch-holds m v w NoHalf = tt
fetch-holds m v w (DeadFrame there) = tt
fetch-holds m v w NoStore = tt

data-holds : (m : PrivateMachine) (v word : ℕ) (w : Wanted) (lack : Lack) → fetched m v ≡ Ok word → HoldsWord m v (cause_of (data_trap word w lack))
data-holds m v word w NoRange is = is
data-holds m v word w NoHalf is = is
data-holds m v word w (DeadFrame there) is = tt
data-holds m v word w NoStore is = is

-- the word that a processor fetches through its TLB is the one at the program counter
pub fetched-through : (s : GuestState) (p v : ℕ) (h : Half) → Consistent s → (processor s p).loaded ≡ Some v
    → ByHalf (sight (with_inputs s v) p v) (fetch_at (vcpu_of (with_inputs s v) v).registers.pc) h
    → fetched (content (with_inputs s v)) v ≡ Ok (word_through s.pages (at_half h) (vcpu_of (with_inputs s v) v).registers.pc)
fetched-through s p v h co runs by_half =
    let u = with_inputs s v in
    let m = content u in
    let pc = (vcpu_of u v).registers.pc in
    let fits : pc % 4 ≡ 0 = eqb-true (pc % 4) 0 by_half.aligned in
    let at : h.page * 4096 + pc % 4096 ≡ word_offset (h.page * 4096 + pc % 4096) = omega arith in
    ap (word_of m) (led-through s p v (fetch_at pc) h co runs by_half)
    ∙ (λ i. Ok (word_at m.memory (at i)))
    ∙ (λ i. Ok (word-through s p h pc co by_half.has i))

pub holds-word : (s : GuestState) (p v : ℕ) (trap : Trap) → Consistent s → (processor s p).loaded ≡ Some v → step_on s p v ≡ Err trap → HoldsWord (joined (content s) v) v (cause_of trap)
holds-word s p v trap co runs e = subst (λ (z : PrivateMachine). HoldsWord z v (cause_of trap)) (content-inputs s v) (line x.line e)
  where
    u : GuestState
    u = with_inputs s v

    m : PrivateMachine
    m = content u

    x : Sight
    x = sight u p v

    regs : Regs
    regs = (vcpu_of u v).registers

    is-it : (t : Trap) → ◌≡◌ {A = Result Done Trap} (Err t) (Err trap) → HoldsWord m v (cause_of t) → HoldsWord m v (cause_of trap)
    is-it t e it = subst (λ (z : Trap). HoldsWord m v (cause_of z)) (err-same t trap e) it

    reaches : (word : ℕ) (at : Reached) (does : Effect) (w : Wanted) (r : Result Reached Lack) → fetched m v ≡ Ok word → with_data word w at does r ≡ Err trap → HoldsWord m v (cause_of trap)
    reaches word at does w (Err lack) is e = is-it (data_trap word w lack) e (data-holds m v word w lack is)
    reaches word at does w (Ok there) is e = cc

    asks : (word : ℕ) (at : Reached) (does : Effect) (o : Option Wanted) → fetched m v ≡ Ok word → accesses x word at does o ≡ Err trap → HoldsWord m v (cause_of trap)
    asks word at does None is e = cc
    asks word at does (Some w) is e = reaches word at does w (reached x w) is e

    does-it : (word : ℕ) (at : Reached) (r : Result Effect Exception) → fetched m v ≡ Ok word → is_privileged word ≡ false → effect (decoded word) regs ≡ r → executes x word at r ≡ Err trap → HoldsWord m v (cause_of trap)
    does-it word at (Err y) is free does e = is-it (Raised y) e (record { word = word; is_there = is; unprivileged = free; raises = does })
    does-it word at (Ok does) is free it e = asks word at (asks_of x does) (wanted (asks_of x does).request) is e

    decides : (word : ℕ) (at : Reached) (b : Bool) → fetched m v ≡ Ok word → is_privileged word ≡ b → (if b then Err (Privileged word) else executes x word at (effect (decoded word) regs)) ≡ Err trap → HoldsWord m v (cause_of trap)
    decides word at true is it e = is-it (Privileged word) e is
    decides word at false is it e = does-it word at (effect (decoded word) regs) is it refl e

    fetch : (r : Result Reached Lack) → reached x (fetch_at regs.pc) ≡ r → fetches x u.pages regs r ≡ Err trap → HoldsWord m v (cause_of trap)
    fetch (Err lack) is e = is-it (fetch_trap (fetch_at regs.pc) lack) e (fetch-holds m v (fetch_at regs.pc) lack)
    fetch (Ok at) is e =
        let r = reached-ok x (fetch_at regs.pc) at is in
        let word = word_through u.pages (at_half r.0) regs.pc in
        let here = subst (λ (z : Reached). decodes x regs z (word_through u.pages z regs.pc) ≡ Err trap) r.1 e in
        decides word (at_half r.0) (is_privileged word) (fetched-through s p v r.0 co runs r.2) refl here

    line : (b : Bool) → (if b then Err Line else fetches x u.pages regs (reached x (fetch_at regs.pc))) ≡ Err trap → HoldsWord m v (cause_of trap)
    line true e = is-it Line e tt
    line false e = fetch (reached x (fetch_at regs.pc)) refl e
