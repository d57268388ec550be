-- The word that a trap's cause tells is the one that the hardware fetched.
use Rattle.std.proofs.Common.{◌≡◌, ℕ, Bool, true, false, if◌then◌else◌, Option, Some, None, Result, Ok, Err, List, refl, subst}
use Rattle.base_words.specs.declared.exception.Exception.{Exception}
use Rattle.base_words.specs.declared.moves.MoveKind.{MoveKind}
use Rattle.base_words.specs.declared.regs.Regs.{Regs}
use Rattle.base_words.specs.declared.trap.TrapCause.{TrapCause}
use Rattle.base_words.specs.Instruction.{Effect, effect}
use Rattle.base_words.specs.OpcodeMap.{decoded}
use Rattle.private_machine.specs.Backing.{Page}
use Rattle.private_machine.specs.HardwareStep.{Trap, Line, Privileged, Raised, Done, fetch_trap, data_trap, cause_of, word_through, with_data, asks_of, accesses, executes, fetches, hardware_step}
use Rattle.private_machine.specs.OwnStep.{fetched, is_privileged}
use Rattle.private_machine.specs.PrivateMachine.{PrivateMachine, vcpu}
use Rattle.private_machine.specs.Reaching.{Wanted, Lack, NoRange, NoHalf, DeadFrame, NoStore, Sight, Reached, reached, fetch_at, wanted}
use Rattle.private_machine.specs.TrapAccess.{HoldsWord}
use Rattle.trap_emulate.specs.Trapped.{IsTrap, FetchesAlike}

err-same : (a b : Trap) → ◌≡◌ {A = Result Done Trap} (Err a) (Err b) → a ≡ b
err-same a b e = cc

by-trap : (m : PrivateMachine) (v : ℕ) (x : Sight) (backing : List Page) (trap : Trap) → FetchesAlike m v x backing → hardware_step x backing (vcpu m v).registers ≡ Err trap → HoldsWord m v (cause_of trap)
by-trap m v x backing trap alike e = line x.line e
  where
    regs : Regs
    regs = (vcpu m v).registers

    is-it : (a : Trap) → ◌≡◌ {A = Result Done Trap} (Err a) (Err trap) → HoldsWord m v (cause_of a) → HoldsWord m v (cause_of trap)
    is-it a e holds = subst (λ (t : Trap). HoldsWord m v (cause_of t)) (err-same a trap e) holds

    fetch-holds : (w : Wanted) (lack : Lack) → HoldsWord m v (cause_of (fetch_trap w lack))
    fetch-holds w NoRange = tt
    fetch-holds w NoHalf = tt
    fetch-holds w (DeadFrame there) = tt
    fetch-holds w NoStore = tt

    data-holds : (word : ℕ) (w : Wanted) (lack : Lack) → fetched m v ≡ Ok word → HoldsWord m v (cause_of (data_trap word w lack))
    data-holds word w NoRange holds = holds
    data-holds word w NoHalf holds = holds
    data-holds word w (DeadFrame there) holds = tt
    data-holds word w NoStore holds = holds

    reaches : (word : ℕ) (at : Reached) (does : Effect) (w : Wanted) (r : Result Reached Lack) → fetched m v ≡ Ok word → with_data word w at does r ≡ Err trap → HoldsWord m v (cause_of trap)
    reaches word at does w (Err lack) holds e = is-it (data_trap word w lack) e (data-holds word w lack holds)
    reaches word at does w (Ok there) holds e = cc

    asks : (word : ℕ) (at : Reached) (does : Effect) (o : Option Wanted) → fetched m v ≡ Ok word → accesses x word at does o ≡ Err trap → HoldsWord m v (cause_of trap)
    asks word at does None holds e = cc
    asks word at does (Some w) holds e = reaches word at does w (reached x w) holds e

    does-it : (word : ℕ) (at : Reached) (r : Result Effect Exception) → fetched m v ≡ Ok word → is_privileged word ≡ false → effect (decoded word) regs ≡ r → executes x word at r ≡ Err trap → HoldsWord m v (cause_of trap)
    does-it word at (Err y) holds plain is e = is-it (Raised y) e (record { word = word; is_there = holds; unprivileged = plain; raises = is })
    does-it word at (Ok does) holds plain is e = asks word at (asks_of x does) (wanted (asks_of x does).request) holds e

    decides : (word : ℕ) (at : Reached) (b : Bool) → fetched m v ≡ Ok word → is_privileged word ≡ b → (if b then Err (Privileged word) else executes x word at (effect (decoded word) regs)) ≡ Err trap → HoldsWord m v (cause_of trap)
    decides word at true holds plain e = is-it (Privileged word) e holds
    decides word at false holds plain e = does-it word at (effect (decoded word) regs) holds plain refl e

    fetch : (r : Result Reached Lack) → reached x (fetch_at regs.pc) ≡ r → fetches x backing regs r ≡ Err trap → HoldsWord m v (cause_of trap)
    fetch (Err lack) here e = is-it (fetch_trap (fetch_at regs.pc) lack) e (fetch-holds (fetch_at regs.pc) lack)
    fetch (Ok at) here e = let word = word_through backing at regs.pc in decides word at (is_privileged word) (alike at here) refl e

    line : (b : Bool) → (if b then Err Line else fetches x backing regs (reached x (fetch_at regs.pc))) ≡ Err trap → HoldsWord m v (cause_of trap)
    line true e = is-it Line e tt
    line false e = fetch (reached x (fetch_at regs.pc)) refl e

pub holds-word : (m : PrivateMachine) (v : ℕ) (needs : Option MoveKind) (cause : TrapCause) (it : IsTrap m v needs cause) → FetchesAlike m v it.sight it.backing → HoldsWord m v cause
holds-word m v needs cause it alike = subst (HoldsWord m v) it.told (by-trap m v it.sight it.backing it.trap alike it.traps)
