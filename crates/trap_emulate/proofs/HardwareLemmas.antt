-- What a trap of the hardware's step tells of the virtual processor.
use Rattle.std.proofs.Common.{◌≡◌, ◌≢◌, ℕ, ◌/◌, ◌%◌, ◌==◌, Bool, true, false, not, ◌&&◌, if◌then◌else◌, Option, Some, None, Result, Ok, Err, List, refl, ap, ◌∙◌, subst}
use Rattle.std.specs.Prelude.{find}
use Rattle.base_words.specs.declared.exception.Exception.{Exception}
use Rattle.base_words.specs.declared.exception.Exception.TheVariants.{AddressError}
use Rattle.base_words.specs.declared.regs.Regs.{Regs}
use Rattle.base_words.specs.Halves.{Half, is_of}
use Rattle.base_words.specs.Instruction.{Effect, effect}
use Rattle.base_words.specs.OpcodeMap.{decoded}
use Rattle.base_words.specs.Place.{AddressSpace, Segment, Mapped, Direct, Outside, segment, is_store, translated, place}
use Rattle.private_machine.specs.Backing.{Page}
use Rattle.private_machine.specs.HardwareStep.{Trap, Line, FetchMiss, DataMiss, ReadOnly, Address, Privileged, Raised, Dead, Done, fetch_trap, data_trap, word_through, with_data, asks_of, accesses, executes, fetches, hardware_step}
use Rattle.private_machine.specs.OwnStep.{is_privileged}
use Rattle.private_machine.specs.Reaching.{Wanted, Lack, NoRange, NoHalf, DeadFrame, NoStore, Sight, Reached, at_half, through_half, in_segment, reached, fetch_at, wanted, is_open_to}
use Rattle.private_machine.specs.TrapAccess.{is_memory, asked_by}
use Rattle.trap_emulate.proofs.PageLemmas.{plain-wanted}

-- an instruction that isn't of coprocessor 0 asks for this access
pub record AsksAt (regs : Regs) (word : ℕ) (w : Wanted) : Type 0 where
  pub is_plain : is_privileged word ≡ false
  pub asked : asked_by (effect (decoded word) regs) ≡ Some w

-- an instruction asks for an access in none of the ranges
pub record OutsideAt (x : Sight) (regs : Regs) (word : ℕ) : Type 0 where
  pub access : Wanted
  pub asks : AsksAt regs word access
  pub no_range : reached x access ≡ Err NoRange

abbrev pub Told : Sight → Regs → Trap → Type 0
Told x regs Line = x.line ≡ true
Told x regs (FetchMiss w) = (x.line ≡ false) × (w ≡ fetch_at regs.pc)
Told x regs (DataMiss word w) = (x.line ≡ false) × AsksAt regs word w
Told x regs (ReadOnly word w) = (x.line ≡ false) × AsksAt regs word w × (is_store w.purpose ≡ true)
Told x regs (Address None) = (x.line ≡ false) × (reached x (fetch_at regs.pc) ≡ Err NoRange)
Told x regs (Address (Some word)) = (x.line ≡ false) × OutsideAt x regs word
Told x regs (Privileged word) = (x.line ≡ false) × (is_privileged word ≡ true)
Told x regs (Raised e) = x.line ≡ false
Told x regs (Dead there w) = x.line ≡ false

-- only a store is kept out by a half that isn't writable
through-store : (x : Sight) (w : Wanted) (o : Option Half) → through_half x w o ≡ Err NoStore → is_store w.purpose ≡ true
through-store x w None e = cc
through-store x w (Some h) e = by (x.lost h.frame) (is_store w.purpose) (not h.writable) refl e
  where
    by : (lost store read_only : Bool) → is_store w.purpose ≡ store → (if lost then Err (DeadFrame (at_half h)) else if store && read_only then Err NoStore else Ok (at_half h)) ≡ Err NoStore → is_store w.purpose ≡ true
    by true store read_only is e = cc
    by false true read_only is e = is
    by false false read_only is e = cc

reached-store : (x : Sight) (w : Wanted) → reached x w ≡ Err NoStore → is_store w.purpose ≡ true
reached-store x w e = aligned (w.address % w.unit == 0) e
  where
    ranges : (g : Segment) → in_segment x w g ≡ Err NoStore → is_store w.purpose ≡ true
    ranges Mapped e = through-store x w (find (is_of (w.address / 4096) x.asid) x.tlb) e
    ranges Direct e = through-store x w (find (is_of (w.address / 4096) x.asid) x.tlb) e
    ranges Outside e = cc

    aligned : (b : Bool) → (if b then in_segment x w (segment x.user w.address) else Err NoRange) ≡ Err NoStore → is_store w.purpose ≡ true
    aligned true e = ranges (segment x.user w.address) e
    aligned false e = cc

-- what is in none of the ranges leads to no memory
through-range : (x : Sight) (w : Wanted) (o : Option Half) → through_half x w o ≢ Err NoRange
through-range x w None e = cc
through-range x w (Some h) e = by (x.lost h.frame) (is_store w.purpose && not h.writable) e
  where
    by : (b c : Bool) → (if b then Err (DeadFrame (at_half h)) else if c then Err NoStore else Ok (at_half h)) ≡ Err NoRange → ⊥
    by true c e = cc
    by false true e = cc
    by false false e = cc

pub reached-range : (x : Sight) (space : AddressSpace) (pages : ℕ) (w : Wanted) → x.user ≡ space.user → reached x w ≡ Err NoRange → is_memory (place space pages w.unit w.purpose w.address) ≡ false
reached-range x space pages w user e = aligned (w.address % w.unit == 0) e
  where
    ranges : (g : Segment) → in_segment x w g ≡ Err NoRange → is_memory (translated space pages w.purpose w.address g) ≡ false
    ranges Mapped e = absurd (through-range x w (find (is_of (w.address / 4096) x.asid) x.tlb) e)
    ranges Direct e = absurd (through-range x w (find (is_of (w.address / 4096) x.asid) x.tlb) e)
    ranges Outside e = refl

    aligned : (b : Bool) → (if b then in_segment x w (segment x.user w.address) else Err NoRange) ≡ Err NoRange
        → is_memory (if b then translated space pages w.purpose w.address (segment space.user w.address) else Err (AddressError w.purpose w.address)) ≡ false
    aligned true e = ranges (segment space.user w.address) (subst (λ (u : Bool). in_segment x w (segment u w.address) ≡ Err NoRange) user e)
    aligned false e = refl

fetch-told : (x : Sight) (regs : Regs) (lack : Lack) → x.line ≡ false → reached x (fetch_at regs.pc) ≡ Err lack → Told x regs (fetch_trap (fetch_at regs.pc) lack)
fetch-told x regs NoRange off e = (off, e)
fetch-told x regs NoHalf off e = (off, refl)
fetch-told x regs (DeadFrame there) off e = off
fetch-told x regs NoStore off e = (off, refl)

data-told : (x : Sight) (regs : Regs) (word : ℕ) (w : Wanted) (lack : Lack) → x.line ≡ false → AsksAt regs word w → reached x w ≡ Err lack → Told x regs (data_trap word w lack)
data-told x regs word w NoRange off is e = (off, record { access = w; asks = is; no_range = e })
data-told x regs word w NoHalf off is e = (off, is)
data-told x regs word w (DeadFrame there) off is e = off
data-told x regs word w NoStore off is e = (off, is, reached-store x w e)

err-same : (a b : Trap) → ◌≡◌ {A = Result Done Trap} (Err a) (Err b) → a ≡ b
err-same a b e = cc

pub told : (x : Sight) (pages : List Page) (regs : Regs) (trap : Trap) → hardware_step x pages regs ≡ Err trap → Told x regs trap
told x pages regs trap e = line x.line refl e
  where
    is-it : (a : Trap) → ◌≡◌ {A = Result Done Trap} (Err a) (Err trap) → Told x regs a → Told x regs trap
    is-it a e tells = subst (Told x regs) (err-same a trap e) tells

    reaches : (word : ℕ) (at : Reached) (does : Effect) (w : Wanted) (r : Result Reached Lack) → x.line ≡ false → reached x w ≡ r → AsksAt regs word w → with_data word w at does r ≡ Err trap → Told x regs trap
    reaches word at does w (Err lack) off here is e = is-it (data_trap word w lack) e (data-told x regs word w lack off is here)
    reaches word at does w (Ok there) off here is e = cc

    asks : (word : ℕ) (at : Reached) (does : Effect) (o : Option Wanted) → x.line ≡ false → is_privileged word ≡ false → ((w : Wanted) → o ≡ Some w → asked_by (effect (decoded word) regs) ≡ Some w) → accesses x word at does o ≡ Err trap → Told x regs trap
    asks word at does None off plain is e = cc
    asks word at does (Some w) off plain is e = reaches word at does w (reached x w) off refl (record { is_plain = plain; asked = is w refl }) e

    does-it : (word : ℕ) (at : Reached) (r : Result Effect Exception) → x.line ≡ false → is_privileged word ≡ false → effect (decoded word) regs ≡ r → executes x word at r ≡ Err trap → Told x regs trap
    does-it word at (Err y) off plain is e = is-it (Raised y) e off
    does-it word at (Ok does) off plain is e = asks word at (asks_of x does) (wanted (asks_of x does).request) off plain (λ w got. ap asked_by is ∙ plain-wanted (is_open_to x) does.request w got) e

    decides : (word : ℕ) (at : Reached) (b : Bool) → x.line ≡ false → is_privileged word ≡ b → (if b then Err (Privileged word) else executes x word at (effect (decoded word) regs)) ≡ Err trap → Told x regs trap
    decides word at true off plain e = is-it (Privileged word) e (off, plain)
    decides word at false off plain e = does-it word at (effect (decoded word) regs) off plain refl e

    fetch : (r : Result Reached Lack) → x.line ≡ false → reached x (fetch_at regs.pc) ≡ r → fetches x pages regs r ≡ Err trap → Told x regs trap
    fetch (Err lack) off here e = is-it (fetch_trap (fetch_at regs.pc) lack) e (fetch-told x regs lack off here)
    fetch (Ok at) off here e = let word = word_through pages at regs.pc in decides word at (is_privileged word) off refl e

    line : (b : Bool) → x.line ≡ b → (if b then Err Line else fetches x pages regs (reached x (fetch_at regs.pc))) ≡ Err trap → Told x regs trap
    line true is e = is-it Line e is
    line false is e = fetch (reached x (fetch_at regs.pc)) is refl e
