-- A trap is about the access of the fetch, or of the instruction at the program counter.
use Rattle.std.proofs.Common.{◌≡◌, ℕ, Bool, true, false, if◌then◌else◌, inl, inr, Option, Some, None, Result, Ok, Err, List, refl, sym, ap, ◌∙◌, subst}
use Rattle.base_words.specs.declared.exception.Exception.{Exception}
use Rattle.base_words.specs.declared.regs.Regs.{Regs}
use Rattle.base_words.specs.Instruction.{Effect, effect}
use Rattle.base_words.specs.OpcodeMap.{decoded}
use Rattle.private_machine.specs.Backing.{Page}
use Rattle.private_machine.specs.OwnStep.{is_privileged}
use Rattle.private_machine.specs.Reaching.{Wanted, Lack, NoRange, NoHalf, DeadFrame, NoStore, Sight, Reached, reached, fetch_at, wanted, is_open_to}
use Rattle.private_machine.specs.HardwareStep.{Trap, Line, Privileged, Raised, Done, fetch_trap, data_trap, word_through, with_data, asks_of, accesses, executes, fetches, hardware_step}
use Rattle.private_machine.specs.TrapAccess.{asked_by, TellsAccess}
use Rattle.isolation_law.proofs.PageProofs.{plain-wanted}

fetch-tells : (regs : Regs) (lack : Lack) → TellsAccess regs (fetch_trap (fetch_at regs.pc) lack)
fetch-tells regs NoRange = refl
fetch-tells regs NoHalf = refl
fetch-tells regs (DeadFrame there) = inl refl
fetch-tells regs NoStore = refl

data-tells : (regs : Regs) (word : ℕ) (w : Wanted) (lack : Lack) → asked_by (effect (decoded word) regs) ≡ Some w → TellsAccess regs (data_trap word w lack)
data-tells regs word w NoRange is = refl
data-tells regs word w NoHalf is = sym is
data-tells regs word w (DeadFrame there) is = inr (word, is)
data-tells regs word w NoStore is = sym is

err-same : (a b : Trap) → ◌≡◌ {A = Result Done Trap} (Err a) (Err b) → a ≡ b
err-same a b e = cc

pub tells : (x : Sight) (pages : List Page) (regs : Regs) (trap : Trap) → hardware_step x pages regs ≡ Err trap → TellsAccess regs trap
tells x pages regs trap e = line x.line e
  where
    is-it : (a : Trap) → ◌≡◌ {A = Result Done Trap} (Err a) (Err trap) → TellsAccess regs a → TellsAccess regs trap
    is-it a e tells = subst (TellsAccess regs) (err-same a trap e) tells

    reaches : (word : ℕ) (at : Reached) (does : Effect) (w : Wanted) (r : Result Reached Lack) → asked_by (effect (decoded word) regs) ≡ Some w → with_data word w at does r ≡ Err trap → TellsAccess regs trap
    reaches word at does w (Err lack) is e = is-it (data_trap word w lack) e (data-tells regs word w lack is)
    reaches word at does w (Ok there) is e = cc

    asks : (word : ℕ) (at : Reached) (does : Effect) (o : Option Wanted) → ((w : Wanted) → o ≡ Some w → asked_by (effect (decoded word) regs) ≡ Some w) → accesses x word at does o ≡ Err trap → TellsAccess regs trap
    asks word at does None is e = cc
    asks word at does (Some w) is e = reaches word at does w (reached x w) (is w refl) e

    does-it : (word : ℕ) (at : Reached) (r : Result Effect Exception) → effect (decoded word) regs ≡ r → executes x word at r ≡ Err trap → TellsAccess regs trap
    does-it word at (Err y) is e = is-it (Raised y) e refl
    does-it word at (Ok does) is e = asks word at (asks_of x does) (wanted (asks_of x does).request) (λ w got. ap asked_by is ∙ plain-wanted (is_open_to x) does.request w got) e

    decides : (word : ℕ) (at : Reached) (b : Bool) → (if b then Err (Privileged word) else executes x word at (effect (decoded word) regs)) ≡ Err trap → TellsAccess regs trap
    decides word at true e = is-it (Privileged word) e refl
    decides word at false e = does-it word at (effect (decoded word) regs) refl e

    fetch : (r : Result Reached Lack) → fetches x pages regs r ≡ Err trap → TellsAccess regs trap
    fetch (Err lack) e = is-it (fetch_trap (fetch_at regs.pc) lack) e (fetch-tells regs lack)
    fetch (Ok at) e = decides (word_through pages at regs.pc) at (is_privileged (word_through pages at regs.pc)) e

    line : (b : Bool) → (if b then Err Line else fetches x pages regs (reached x (fetch_at regs.pc))) ≡ Err trap → TellsAccess regs trap
    line true e = is-it Line e refl
    line false e = fetch (reached x (fetch_at regs.pc)) e
