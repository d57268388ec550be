-- A processor that stands in for the hardware in the tests: its TLB has no half, or one of the page of the program counter, which
-- isn't writable and on whose frame a word stands.
use Rattle.std.proofs.Common.{◌≡◌, ◌≢◌, ℕ, zero, suc, ◌+◌, ◌-◌, true≢false, ◌*◌, ◌/◌, ◌%◌, ◌==◌, Bool, true, false, ◌&&◌, if◌then◌else◌, Option, Some, None, Result, Ok, Err, List, [], ◌∷◌, get_or, refl, sym, ap, ◌∙◌, subst, arith}
use Rattle.std.proofs.lemmas.Bool.Decides.{nat_tests}
use Rattle.std.specs.Prelude.{find}
use Rattle.base_words.specs.declared.exception.Exception.{Exception}
use Rattle.base_words.specs.declared.exception.Exception.TheVariants as raised
use Rattle.base_words.specs.declared.exception.Use.{Use}
use Rattle.base_words.specs.declared.moves.MoveKind.{MoveKind}
use Rattle.base_words.specs.declared.tlb.TlbAnswer.{TlbAnswer}
use Rattle.base_words.specs.declared.tlb.TlbAnswer.TheVariants.{Hit, Miss, Invalid, ReadOnly as NotDirty}
use Rattle.base_words.specs.declared.trap.TrapCause.TheVariants as causes
use Rattle.base_words.specs.Coprocessor.{in_user_mode, interrupts}
use Rattle.base_words.specs.Halves.{Half, is_of}
use Rattle.base_words.specs.Instruction.{Effect, effect}
use Rattle.base_words.specs.Memory.{word_at}
use Rattle.base_words.specs.OpcodeMap.{decoded}
use Rattle.base_words.specs.Place.{AddressSpace, Segment, Mapped, Direct, Outside, segment, is_store, physical, through_tlb, translated, place}
use Rattle.base_words.specs.Tlb.{looked_up}
use Rattle.private_machine.specs.declared.vcpu.Vcpu.{Vcpu}
use Rattle.private_machine.specs.Backing.{Page}
use Rattle.private_machine.specs.HardwareStep.{Trap, Line, FetchMiss, Address, Privileged, Raised, fetch_trap, data_trap, cause_of, decodes, executes, with_data, accesses, fetches, hardware_step}
use Rattle.private_machine.specs.Links.{word_offset}
use Rattle.private_machine.specs.OwnStep.{is_privileged}
use Rattle.private_machine.specs.PrivateMachine.{PrivateMachine, vcpu}
use Rattle.private_machine.specs.Reaching.{Sight, Wanted, Reached, Lack, NoRange, NoHalf, NoStore, through_half, in_segment, reached, fetch_at}
use Rattle.private_machine.specs.TrapAccess.{is_memory, asked_by, grants}
use Rattle.private_machine.specs.Vcpu.{space_of}
use Rattle.trap_emulate.specs.AtHand.{leads}
use Rattle.machine_tests.specs.StandIn.{is_address_error, Fetches}
use Rattle.trap_emulate.specs.Trapped.{IsDenied, IsTrap}

-- what it goes by, with some halves
abbrev pub sight_of : Vcpu → List Half → Sight
sight_of c tlb = record { user = in_user_mode c.cp0.status; asid = c.cp0.entry_hi.asid; line = interrupts c.cp0; tlb = tlb; lost = λ (frame : ℕ). false; block = None }

abbrev pub half_of : Vcpu → Half
half_of c = record { number = c.registers.pc / 4096; asid = 0; global = true; page = 0; frame = 0; writable = false }

-- a page on which a word stands at an offset
abbrev holding : ℕ → ℕ → List ℕ
holding zero word = 0 ∷ 0 ∷ 0 ∷ word ∷ []
holding (suc n) word = 0 ∷ holding n word

abbrev pub page_with : ℕ → ℕ → List Page
page_with offset word = record { master = record { frame = 0; generation = 0; bytes = holding offset word }; shared = false; replicas = []; mapped = []; move = None } ∷ []

held-first : (n word : ℕ) → get_or (holding n word) n 0 ≡ 0
held-first zero word = refl
held-first (suc n) word = held-first n word

held-second : (n word : ℕ) → get_or (holding n word) (suc n) 0 ≡ 0
held-second zero word = refl
held-second (suc n) word = held-second n word

held-third : (n word : ℕ) → get_or (holding n word) (suc (suc n)) 0 ≡ 0
held-third zero word = refl
held-third (suc n) word = held-third n word

held-fourth : (n word : ℕ) → get_or (holding n word) (suc (suc (suc n))) 0 ≡ word
held-fourth zero word = refl
held-fourth (suc n) word = held-fourth n word

word-held : (n word : ℕ) → word_at (holding n word) n ≡ word
word-held n word =
    let a = held-first n word in
    let b = held-second n word in
    let d = held-third n word in
    let e = held-fourth n word in
    rw (a, b, d, e) (omega arith)

-- an access that raises no address error is aligned and in the mode's ranges, and one that raises it isn't
physical-range : (pages : ℕ) (purpose : Use) (address : ℕ) → is_address_error (physical pages purpose address) ≡ false
physical-range pages purpose address = grind arith

tlb-range : (pages : ℕ) (purpose : Use) (address : ℕ) (answer : TlbAnswer) → is_address_error (through_tlb pages purpose address answer) ≡ false
tlb-range pages purpose address (Hit frame) = physical-range pages purpose (frame * 4096 + address % 4096)
tlb-range pages purpose address Miss = refl
tlb-range pages purpose address Invalid = refl
tlb-range pages purpose address NotDirty = refl

pub reached-nowhere : (x : Sight) (space : AddressSpace) (pages : ℕ) (w : Wanted) → x.user ≡ space.user → is_address_error (place space pages w.unit w.purpose w.address) ≡ true → reached x w ≡ Err NoRange
reached-nowhere x space pages w user e = aligned (w.address % w.unit == 0) e
  where
    ranges : (g : Segment) → is_address_error (translated space pages w.purpose w.address g) ≡ true → in_segment x w g ≡ Err NoRange
    ranges Mapped e = absurd (true≢false (sym e ∙ tlb-range pages w.purpose w.address (looked_up space.entries w.address space.asid (is_store w.purpose))))
    ranges Direct e = absurd (true≢false (sym e ∙ physical-range pages w.purpose (w.address - 0xC000_0000)))
    ranges Outside e = refl

    aligned : (b : Bool) → is_address_error (if b then translated space pages w.purpose w.address (segment space.user w.address) else Err (raised.AddressError w.purpose w.address)) ≡ true
        → (if b then in_segment x w (segment x.user w.address) else Err NoRange) ≡ Err NoRange
    aligned true e = subst (λ (u : Bool). in_segment x w (segment u w.address) ≡ Err NoRange) (sym user) (ranges (segment space.user w.address) e)
    aligned false e = refl

-- what is in a range goes by the halves
pub reached-half : (x : Sight) (space : AddressSpace) (pages : ℕ) (w : Wanted) → x.user ≡ space.user → is_address_error (place space pages w.unit w.purpose w.address) ≡ false
    → reached x w ≡ through_half x w (find (is_of (w.address / 4096) x.asid) x.tlb)
reached-half x space pages w user e = aligned (w.address % w.unit == 0) e
  where
    goal : Result Reached Lack
    goal = through_half x w (find (is_of (w.address / 4096) x.asid) x.tlb)

    ranges : (g : Segment) → is_address_error (translated space pages w.purpose w.address g) ≡ false → in_segment x w g ≡ through_half x w (find (is_of (w.address / 4096) x.asid) x.tlb)
    ranges Mapped e = refl
    ranges Direct e = refl
    ranges Outside e = cc

    aligned : (b : Bool) → is_address_error (if b then translated space pages w.purpose w.address (segment space.user w.address) else Err (raised.AddressError w.purpose w.address)) ≡ false
        → (if b then in_segment x w (segment x.user w.address) else Err NoRange) ≡ through_half x w (find (is_of (w.address / 4096) x.asid) x.tlb)
    aligned true e = subst (λ (u : Bool). in_segment x w (segment u w.address) ≡ through_half x w (find (is_of (w.address / 4096) x.asid) x.tlb)) (sym user) (ranges (segment space.user w.address) e)
    aligned false e = cc

-- through the one half, of the same page or another one
same-number : (n : ℕ) → (n == n) ≡ true
same-number n = grind (arith, nat_tests)

pub through-own : (c : Vcpu) (w : Wanted) → w.address / 4096 ≡ c.registers.pc / 4096
    → through_half (sight_of c (half_of c ∷ [])) w (find (is_of (w.address / 4096) c.cp0.entry_hi.asid) (half_of c ∷ [])) ≡ (if is_store w.purpose && true then Err NoStore else Ok (record { page = 0; frame = 0 }))
through-own c w same =
    rw same (ap (λ (b : Bool). through_half (sight_of c (half_of c ∷ [])) w (if b && true then Some (half_of c) else None)) (same-number (c.registers.pc / 4096)))

pub through-other : (c : Vcpu) (w : Wanted) → (c.registers.pc / 4096 == w.address / 4096) ≡ false
    → through_half (sight_of c (half_of c ∷ [])) w (find (is_of (w.address / 4096) c.cp0.entry_hi.asid) (half_of c ∷ [])) ≡ Err NoHalf
through-other c w other = ap (λ (b : Bool). through_half (sight_of c (half_of c ∷ [])) w (if b && true then Some (half_of c) else None)) other

-- a trap of its step is one of a machine with this virtual processor
pub is-trap : (m : PrivateMachine) (v : ℕ) (c : Vcpu) (needs : Option MoveKind) (tlb : List Half) (backing : List Page) (trap : Trap)
    → vcpu m v ≡ c → hardware_step (sight_of c tlb) backing c.registers ≡ Err trap → IsDenied m v needs trap → IsTrap m v needs (cause_of trap)
is-trap m v c needs tlb backing trap here traps denied = record {
  sight = sight_of c tlb;
  backing = backing;
  trap = trap;
  user = ap (λ (d : Vcpu). in_user_mode d.cp0.status) (sym here);
  asid = ap (λ (d : Vcpu). d.cp0.entry_hi.asid) (sym here);
  line = ap (λ (d : Vcpu). interrupts d.cp0) (sym here);
  traps = subst (λ (d : Vcpu). hardware_step (sight_of c tlb) backing d.registers ≡ Err trap) (sym here) traps;
  told = refl;
  denied = denied;
}

-- an interrupt
pub line-trap : (m : PrivateMachine) (v : ℕ) (c : Vcpu) (needs : Option MoveKind) → vcpu m v ≡ c → interrupts c.cp0 ≡ true → IsTrap m v needs causes.Line
line-trap m v c needs here on =
    is-trap m v c needs [] [] Line here
    (ap (λ (b : Bool). if b then Err Line else fetches (sight_of c []) [] c.registers (reached (sight_of c []) (fetch_at c.registers.pc))) on) tt

-- a fetch, with no half
cold-step : (c : Vcpu) (lack : Lack) → interrupts c.cp0 ≡ false → reached (sight_of c []) (fetch_at c.registers.pc) ≡ Err lack
    → hardware_step (sight_of c []) [] c.registers ≡ Err (fetch_trap (fetch_at c.registers.pc) lack)
cold-step c lack off there =
    ap (λ (b : Bool). if b then Err Line else fetches (sight_of c []) [] c.registers (reached (sight_of c []) (fetch_at c.registers.pc))) off
    ∙ ap (fetches (sight_of c []) [] c.registers) there

pub nowhere-trap : (m : PrivateMachine) (v : ℕ) (c : Vcpu) (pages : ℕ) (needs : Option MoveKind) → vcpu m v ≡ c → interrupts c.cp0 ≡ false → is_address_error (leads c pages (fetch_at c.registers.pc)) ≡ true
    → IsTrap m v needs (causes.Address None)
nowhere-trap m v c pages needs here off range =
    is-trap m v c needs [] [] (Address None) here (cold-step c NoRange off (reached-nowhere (sight_of c []) (space_of c) pages (fetch_at c.registers.pc) refl range)) tt

led-here : (m : PrivateMachine) (v : ℕ) (c : Vcpu) (pages : ℕ) (w : Wanted) → vcpu m v ≡ c → m.pages ≡ pages → grants m v (Some w) ≡ is_memory (leads c pages w)
led-here m v c pages w here of_pages =
    ap (λ (d : Vcpu). is_memory (leads d m.pages w)) here ∙ ap (λ (n : ℕ). is_memory (leads c n w)) of_pages

pub fetch-trap : (m : PrivateMachine) (v : ℕ) (c : Vcpu) (pages : ℕ) (needs : Option MoveKind) → vcpu m v ≡ c → m.pages ≡ pages → interrupts c.cp0 ≡ false
    → is_address_error (leads c pages (fetch_at c.registers.pc)) ≡ false → is_memory (leads c pages (fetch_at c.registers.pc)) ≡ false → IsTrap m v needs causes.FetchMiss
fetch-trap m v c pages needs here of_pages off range denied =
    let w = fetch_at c.registers.pc in
    is-trap m v c needs [] [] (FetchMiss w) here (cold-step c NoHalf off (reached-half (sight_of c []) (space_of c) pages w refl range)) (led-here m v c pages w here of_pages ∙ denied)

-- an instruction, with the one half
abbrev at_first : Reached
at_first = record { page = 0; frame = 0 }

abbrev backing : Vcpu → ℕ → List Page
backing c word = page_with (word_offset (c.registers.pc % 4096)) word

warm-step : (c : Vcpu) (pages word : ℕ) → Fetches c pages → hardware_step (sight_of c (half_of c ∷ [])) (backing c word) c.registers ≡ decodes (sight_of c (half_of c ∷ [])) c.registers at_first word
warm-step c pages word fetches_it =
    let x = sight_of c (half_of c ∷ []) in
    let w = fetch_at c.registers.pc in
    let there : reached x w ≡ Ok at_first = reached-half x (space_of c) pages w refl fetches_it.range ∙ through-own c w refl in
    ap (λ (b : Bool). if b then Err Line else fetches x (backing c word) c.registers (reached x w)) fetches_it.off
    ∙ ap (fetches x (backing c word) c.registers) there
    ∙ ap (decodes x c.registers at_first) (word-held (word_offset (c.registers.pc % 4096)) word)

pub privileged-trap : (m : PrivateMachine) (v : ℕ) (c : Vcpu) (pages : ℕ) (needs : Option MoveKind) (word : ℕ) → vcpu m v ≡ c → Fetches c pages → is_privileged word ≡ true
    → IsTrap m v needs (causes.Privileged word)
privileged-trap m v c pages needs word here fetches_it privileged =
    let x = sight_of c (half_of c ∷ []) in
    is-trap m v c needs (half_of c ∷ []) (backing c word) (Privileged word) here
    (warm-step c pages word fetches_it ∙ ap (λ (b : Bool). if b then Err (Privileged word) else executes x word at_first (effect (decoded word) c.registers)) privileged) tt

plain-step : (c : Vcpu) (pages word : ℕ) → Fetches c pages → is_privileged word ≡ false
    → hardware_step (sight_of c (half_of c ∷ [])) (backing c word) c.registers ≡ executes (sight_of c (half_of c ∷ [])) word at_first (effect (decoded word) c.registers)
plain-step c pages word fetches_it plain =
    let x = sight_of c (half_of c ∷ []) in
    warm-step c pages word fetches_it ∙ ap (λ (b : Bool). if b then Err (Privileged word) else executes x word at_first (effect (decoded word) c.registers)) plain

pub raised-trap : (m : PrivateMachine) (v : ℕ) (c : Vcpu) (pages : ℕ) (needs : Option MoveKind) (word : ℕ) (e : Exception) → vcpu m v ≡ c → Fetches c pages → is_privileged word ≡ false
    → effect (decoded word) c.registers ≡ Err e → IsTrap m v needs (causes.Raised e)
raised-trap m v c pages needs word e here fetches_it plain does =
    is-trap m v c needs (half_of c ∷ []) (backing c word) (Raised e) here
    (plain-step c pages word fetches_it plain ∙ ap (executes (sight_of c (half_of c ∷ [])) word at_first) does) tt

-- its data access, which reaches nothing
asks-step : (c : Vcpu) (tlb : List Half) (word : ℕ) (w : Wanted) (lack : Lack) (does : Result Effect Exception) → asked_by does ≡ Some w → reached (sight_of c tlb) w ≡ Err lack → executes (sight_of c tlb) word at_first does ≡ Err (data_trap word w lack)
asks-step c tlb word w lack (Err e) asked lacks = cc
asks-step c tlb word w lack (Ok does) asked lacks =
    ap (λ (o : Option Wanted). accesses (sight_of c tlb) word at_first does o) asked ∙ ap (λ (r : Result Reached Lack). with_data word w at_first does r) lacks

data-step : (c : Vcpu) (pages word : ℕ) (w : Wanted) (lack : Lack) → Fetches c pages → is_privileged word ≡ false → asked_by (effect (decoded word) c.registers) ≡ Some w → reached (sight_of c (half_of c ∷ [])) w ≡ Err lack
    → hardware_step (sight_of c (half_of c ∷ [])) (backing c word) c.registers ≡ Err (data_trap word w lack)
data-step c pages word w lack fetches_it plain asked lacks =
    plain-step c pages word fetches_it plain ∙ asks-step c (half_of c ∷ []) word w lack (effect (decoded word) c.registers) asked lacks

pub data-nowhere-trap : (m : PrivateMachine) (v : ℕ) (c : Vcpu) (pages : ℕ) (needs : Option MoveKind) (word : ℕ) (w : Wanted) → vcpu m v ≡ c → Fetches c pages → is_privileged word ≡ false
    → asked_by (effect (decoded word) c.registers) ≡ Some w → is_address_error (leads c pages w) ≡ true → IsTrap m v needs (causes.Address (Some word))
data-nowhere-trap m v c pages needs word w here fetches_it plain asked range =
    is-trap m v c needs (half_of c ∷ []) (backing c word) (Address (Some word)) here
    (data-step c pages word w NoRange fetches_it plain asked (reached-nowhere (sight_of c (half_of c ∷ [])) (space_of c) pages w refl range)) tt

pub data-miss-trap : (m : PrivateMachine) (v : ℕ) (c : Vcpu) (pages : ℕ) (needs : Option MoveKind) (word : ℕ) (w : Wanted) → vcpu m v ≡ c → m.pages ≡ pages → Fetches c pages → is_privileged word ≡ false
    → asked_by (effect (decoded word) c.registers) ≡ Some w → is_address_error (leads c pages w) ≡ false → (c.registers.pc / 4096 == w.address / 4096) ≡ false → is_memory (leads c pages w) ≡ false
    → IsTrap m v needs (causes.DataMiss word)
data-miss-trap m v c pages needs word w here of_pages fetches_it plain asked range other denied =
    is-trap m v c needs (half_of c ∷ []) (backing c word) (data_trap word w NoHalf) here
    (data-step c pages word w NoHalf fetches_it plain asked (reached-half (sight_of c (half_of c ∷ [])) (space_of c) pages w refl range ∙ through-other c w other))
    (led-here m v c pages w here of_pages ∙ denied)

pub read-only-trap : (m : PrivateMachine) (v : ℕ) (c : Vcpu) (pages : ℕ) (needs : Option MoveKind) (word : ℕ) (w : Wanted) → vcpu m v ≡ c → m.pages ≡ pages → Fetches c pages → is_privileged word ≡ false
    → asked_by (effect (decoded word) c.registers) ≡ Some w → is_address_error (leads c pages w) ≡ false → w.address / 4096 ≡ c.registers.pc / 4096 → is_store w.purpose ≡ true
    → (is_memory (leads c pages w) ≡ true → needs ≢ None) → IsTrap m v needs (causes.ReadOnly word)
read-only-trap m v c pages needs word w here of_pages fetches_it plain asked range same store granted =
    let lacks = reached-half (sight_of c (half_of c ∷ [])) (space_of c) pages w refl range ∙ through-own c w same
    ∙ ap (λ (b : Bool). if b && true then Err NoStore else Ok at_first) store in
    is-trap m v c needs (half_of c ∷ []) (backing c word) (data_trap word w NoStore) here
    (data-step c pages word w NoStore fetches_it plain asked lacks)
    (λ grant. granted (sym (led-here m v c pages w here of_pages) ∙ grant))
