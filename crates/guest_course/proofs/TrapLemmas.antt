-- What a trap tells of the access for which it came.
use Rattle.std.proofs.Common.{◌≡◌, ◌≢◌, ℕ, ◌%◌, ◌==◌, if◌then◌else◌, Bool, true, false, List, Option, Some, None, Result, Ok, Err, refl, sym, ap, ◌∙◌, subst}
use Rattle.base_words.specs.declared.exception.Exception.{Exception}
use Rattle.base_words.specs.declared.regs.Regs.{Regs}
use Rattle.base_words.specs.Instruction.{Effect, effect}
use Rattle.base_words.specs.OpcodeMap.{decoded}
use Rattle.base_words.specs.Place.{Outside, segment}
use Rattle.private_machine.specs.Backing.{Page}
use Rattle.private_machine.specs.OwnStep.{is_privileged}
use Rattle.private_machine.specs.Reaching.{Wanted, Lack, NoRange, NoHalf, DeadFrame, NoStore, Sight, Reached, fetch_at, wanted, in_segment, reached, is_open_to}
use Rattle.private_machine.specs.RegisterPage.{opened}
use Rattle.private_machine.specs.HardwareStep.{Trap, Line, FetchMiss, DataMiss, ReadOnly, Address, Privileged, Raised, Dead, Done, fetch_trap, data_trap, word_through, with_data, accesses, asking, executes, decodes, fetches, hardware_step, cause_of}
use Rattle.private_machine.specs.TrapAccess.{trapped_access, missed_access, access_of, TellsAccess}
use Rattle.guest_course.specs.Granting.{is_miss, HasAccess}

-- the access that a cause tells is the one for which the processor trapped
pub has-access : (regs : Regs) (trap : Trap) → TellsAccess regs trap → HasAccess regs (cause_of trap)
has-access regs Line tells = tt
has-access regs (FetchMiss w) tells = tt
has-access regs (DataMiss word w) tells = (w, sym tells)
has-access regs (ReadOnly word w) tells = (w, sym tells)
has-access regs (Address word) tells = tt
has-access regs (Privileged word) tells = tt
has-access regs (Raised x) tells = tt
has-access regs (Dead there w) tells = tt

pub told-is : (regs : Regs) (trap : Trap) → TellsAccess regs trap → ((there : Reached) (w : Wanted) → trap ≡ Dead there w → ⊥) → access_of regs (cause_of trap) ≡ trapped_access trap
told-is regs Line tells live = refl
told-is regs (FetchMiss w) tells live = sym tells
told-is regs (DataMiss word w) tells live = sym tells
told-is regs (ReadOnly word w) tells live = sym tells
told-is regs (Address word) tells live = refl
told-is regs (Privileged word) tells live = refl
told-is regs (Raised x) tells live = refl
told-is regs (Dead there w) tells live = absurd (live there w refl)

-- the access of a cause for which one missed
pub missed-if : (trap : Trap) → is_miss (cause_of trap) ≡ true → missed_access trap ≡ trapped_access trap
missed-if Line is = refl
missed-if (FetchMiss w) is = refl
missed-if (DataMiss word w) is = refl
missed-if (ReadOnly word w) is = cc
missed-if (Address word) is = refl
missed-if (Privileged word) is = refl
missed-if (Raised x) is = refl
missed-if (Dead there w) is = cc

pub not-missed : (trap : Trap) → is_miss (cause_of trap) ≡ false → missed_access trap ≡ None
not-missed Line is = refl
not-missed (FetchMiss w) is = cc
not-missed (DataMiss word w) is = cc
not-missed (ReadOnly word w) is = refl
not-missed (Address word) is = refl
not-missed (Privileged word) is = refl
not-missed (Raised x) is = refl
not-missed (Dead there w) is = refl

-- what an access lacked
pub record Lacks (x : Sight) (w : Wanted) : Type 0 where
  pub lack : Lack
  pub reaches : reached x w ≡ Err lack
  pub ranges : lack ≢ NoRange

same-some : (a b : Wanted) → ◌≡◌ {A = Option Wanted} (Some a) (Some b) → a ≡ b
same-some a b e = cc

fetch-lacks : (x : Sight) (w own : Wanted) (lack : Lack) → reached x own ≡ Err lack → trapped_access (fetch_trap own lack) ≡ Some w → Lacks x w
fetch-lacks x w own NoRange is e = cc
fetch-lacks x w own NoHalf is e = subst (Lacks x) (same-some own w e) (record { lack = NoHalf; reaches = is; ranges = λ n. cc })
fetch-lacks x w own (DeadFrame there) is e = subst (Lacks x) (same-some own w e) (record { lack = DeadFrame there; reaches = is; ranges = λ n. cc })
fetch-lacks x w own NoStore is e = subst (Lacks x) (same-some own w e) (record { lack = NoStore; reaches = is; ranges = λ n. cc })

data-lacks : (x : Sight) (w own : Wanted) (word : ℕ) (lack : Lack) → reached x own ≡ Err lack → trapped_access (data_trap word own lack) ≡ Some w → Lacks x w
data-lacks x w own word NoRange is e = cc
data-lacks x w own word NoHalf is e = subst (Lacks x) (same-some own w e) (record { lack = NoHalf; reaches = is; ranges = λ n. cc })
data-lacks x w own word (DeadFrame there) is e = subst (Lacks x) (same-some own w e) (record { lack = DeadFrame there; reaches = is; ranges = λ n. cc })
data-lacks x w own word NoStore is e = subst (Lacks x) (same-some own w e) (record { lack = NoStore; reaches = is; ranges = λ n. cc })

trap-same : (a b : Trap) → ◌≡◌ {A = Result Done Trap} (Err a) (Err b) → a ≡ b
trap-same a b e = cc

with-data-lacks : (x : Sight) (w own : Wanted) (word : ℕ) (at : Reached) (does : Effect) (r : Result Reached Lack) (trap : Trap) → reached x own ≡ r → with_data word own at does r ≡ Err trap → trapped_access trap ≡ Some w → Lacks x w
with-data-lacks x w own word at does (Ok to) trap is e misses = cc
with-data-lacks x w own word at does (Err lack) trap is e misses = data-lacks x w own word lack is (ap trapped_access (trap-same (data_trap word own lack) trap e) ∙ misses)

accesses-lacks : (x : Sight) (w : Wanted) (word : ℕ) (at : Reached) (does : Effect) (own : Option Wanted) (trap : Trap) → accesses x word at does own ≡ Err trap → trapped_access trap ≡ Some w → Lacks x w
accesses-lacks x w word at does None trap e misses = cc
accesses-lacks x w word at does (Some own) trap e misses = with-data-lacks x w own word at does (reached x own) trap refl e misses

asking-lacks : (x : Sight) (w : Wanted) (word : ℕ) (at : Reached) (r : Result Effect Exception) (trap : Trap) → asking x word at r ≡ Err trap → trapped_access trap ≡ Some w → Lacks x w
asking-lacks x w word at (Err exception) trap e misses = absurd (none (sym (ap trapped_access (trap-same (Raised exception) trap e)) ∙ refl))
  where
    none : trapped_access trap ≡ None → ⊥
    none n = cc
asking-lacks x w word at (Ok does) trap e misses = accesses-lacks x w word at does (wanted does.request) trap e misses

executes-lacks : (x : Sight) (w : Wanted) (word : ℕ) (at : Reached) (r : Result Effect Exception) (trap : Trap) → executes x word at r ≡ Err trap → trapped_access trap ≡ Some w → Lacks x w
executes-lacks x w word at r trap e misses = asking-lacks x w word at (opened (is_open_to x) r) trap e misses

decodes-lacks : (x : Sight) (w : Wanted) (regs : Regs) (at : Reached) (word : ℕ) (trap : Trap) → decodes x regs at word ≡ Err trap → trapped_access trap ≡ Some w → Lacks x w
decodes-lacks x w regs at word trap e misses = by (is_privileged word) e
  where
    by : (b : Bool) → (if b then Err (Privileged word) else executes x word at (effect (decoded word) regs)) ≡ Err trap → Lacks x w
    by true e = absurd (let n : trapped_access trap ≡ None = sym (ap trapped_access (trap-same (Privileged word) trap e)) in none n)
      where
        none : trapped_access trap ≡ None → ⊥
        none n = cc
    by false e = executes-lacks x w word at (effect (decoded word) regs) trap e misses

fetches-lacks : (x : Sight) (w : Wanted) (pages : List Page) (regs : Regs) (r : Result Reached Lack) (trap : Trap) → reached x (fetch_at regs.pc) ≡ r → fetches x pages regs r ≡ Err trap → trapped_access trap ≡ Some w → Lacks x w
fetches-lacks x w pages regs (Err lack) trap is e misses = fetch-lacks x w (fetch_at regs.pc) lack is (ap trapped_access (trap-same (fetch_trap (fetch_at regs.pc) lack) trap e) ∙ misses)
fetches-lacks x w pages regs (Ok at) trap is e misses = decodes-lacks x w regs at (word_through pages at regs.pc) trap e misses

pub lacks : (x : Sight) (w : Wanted) (pages : List Page) (regs : Regs) (trap : Trap) → hardware_step x pages regs ≡ Err trap → trapped_access trap ≡ Some w → Lacks x w
lacks x w pages regs trap e misses = by x.line e
  where
    by : (b : Bool) → (if b then Err Line else fetches x pages regs (reached x (fetch_at regs.pc))) ≡ Err trap → Lacks x w
    by true e = absurd (let n : trapped_access trap ≡ None = sym (ap trapped_access (trap-same Line trap e)) in none n)
      where
        none : trapped_access trap ≡ None → ⊥
        none n = cc
    by false e = fetches-lacks x w pages regs (reached x (fetch_at regs.pc)) trap refl e misses

-- what reached no frame for another reason is aligned and in the mode's ranges
lack-same : (a b : Lack) → ◌≡◌ {A = Result Reached Lack} (Err a) (Err b) → a ≡ b
lack-same a b e = cc

pub is-aligned : (x : Sight) (w : Wanted) → Lacks x w → (w.address % w.unit == 0) ≡ true
is-aligned x w l = by (w.address % w.unit == 0) refl l.reaches
  where
    by : (b : Bool) → (w.address % w.unit == 0) ≡ b → (if b then in_segment x w (segment x.user w.address) else Err NoRange) ≡ Err l.lack → (w.address % w.unit == 0) ≡ true
    by true is e = is
    by false is e = absurd (l.ranges (sym (lack-same NoRange l.lack e)))

pub is-in-range : (x : Sight) (w : Wanted) → Lacks x w → segment x.user w.address ≢ Outside
is-in-range x w l out = by (w.address % w.unit == 0) l.reaches
  where
    by : (b : Bool) → (if b then in_segment x w (segment x.user w.address) else Err NoRange) ≡ Err l.lack → ⊥
    by true e = l.ranges (sym (lack-same NoRange l.lack (ap (in_segment x w) (sym out) ∙ e)))
    by false e = l.ranges (sym (lack-same NoRange l.lack e))
