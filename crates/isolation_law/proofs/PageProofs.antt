-- The register page: what is asked there, and what its words are.
use Rattle.std.proofs.Common.{◌≡◌, ◌⊎◌, ℕ, zero, suc, ◌+◌, ◌*◌, ◌^◌, ◌==◌, if◌then◌else◌, Bool, true, false, ◌&&◌, ◌||◌, inl, inr, ⊎_elim, Some, None, List, [], ◌∷◌, map, get_or, refl, sym, ap, ◌∙◌, subst, arith, true≢false}
use Rattle.std.proofs.lemmas.Bool.{eqb-true}
use Rattle.std.specs.Prelude.{is_some}
use Rattle.base_words.specs.declared.coprocessor.Cp0Registers.{Cp0Registers}
use Rattle.base_words.specs.declared.effect.Request.{Request}
use Rattle.base_words.specs.declared.effect.Request.TheVariants as asks
use Rattle.base_words.specs.declared.instr.LoadKind.{LoadKind}
use Rattle.base_words.specs.declared.instr.LoadKind.TheVariants as loads
use Rattle.base_words.specs.declared.instr.StoreKind.{StoreKind}
use Rattle.base_words.specs.declared.instr.StoreKind.TheVariants as stores
use Rattle.base_words.specs.Bits.{bits}
use Rattle.base_words.specs.Coprocessor.{register_at, reads, writes}
use Rattle.private_machine.specs.declared.vcpu.Vcpu.{Vcpu}
use Rattle.private_machine.specs.DeviceAct.{StoresTo}
use Rattle.private_machine.specs.PrivateMachine.{PrivateMachine}
use Rattle.private_machine.specs.Reaching.{Wanted, wanted}
use Rattle.private_machine.specs.RegisterPage.{is_on_page, number_at, is_loaded, is_stored, load_of, store_of, of_register, redirected, block_of, block_for, word_of_block, block_written}
use Rattle.private_machine.specs.StepAct.{act_of}
use Rattle.private_machine.specs.Vcpu.{no_vcpu}

-- an access that is wanted isn't asked of a register
load-plain : (b : Bool) (address target : ℕ) (w : Wanted) → wanted (if b then asks.ReadCp0 (number_at address) target else asks.Load loads.Word address target) ≡ Some w
    → (if b then asks.ReadCp0 (number_at address) target else asks.Load loads.Word address target) ≡ asks.Load loads.Word address target
load-plain true address target w e = cc
load-plain false address target w e = refl

store-plain : (b : Bool) (address value : ℕ) (w : Wanted) → wanted (if b then asks.WriteCp0 (number_at address) value else asks.Store stores.Word address value) ≡ Some w
    → (if b then asks.WriteCp0 (number_at address) value else asks.Store stores.Word address value) ≡ asks.Store stores.Word address value
store-plain true address value w e = cc
store-plain false address value w e = refl

load-of-plain : (kind : LoadKind) (address target : ℕ) (w : Wanted) → wanted (load_of kind address target) ≡ Some w → load_of kind address target ≡ asks.Load kind address target
load-of-plain loads.Byte address target w e = refl
load-of-plain loads.ByteUnsigned address target w e = refl
load-of-plain loads.HalfWord address target w e = refl
load-of-plain loads.HalfWordUnsigned address target w e = refl
load-of-plain loads.Word address target w e = load-plain (is_on_page address && is_loaded (number_at address)) address target w e
load-of-plain loads.WordLeft address target w e = refl
load-of-plain loads.WordRight address target w e = refl

store-of-plain : (kind : StoreKind) (address value : ℕ) (w : Wanted) → wanted (store_of kind address value) ≡ Some w → store_of kind address value ≡ asks.Store kind address value
store-of-plain stores.Byte address value w e = refl
store-of-plain stores.HalfWord address value w e = refl
store-of-plain stores.Word address value w e = store-plain (is_on_page address && is_stored (number_at address)) address value w e
store-of-plain stores.WordLeft address value w e = refl
store-of-plain stores.WordRight address value w e = refl

of-plain : (r : Request) (w : Wanted) → wanted (of_register r) ≡ Some w → of_register r ≡ r
of-plain asks.Nothing w e = refl
of-plain (asks.Load kind address target) w e = load-of-plain kind address target w e
of-plain (asks.Store kind address value) w e = store-of-plain kind address value w e
of-plain (asks.LoadLinked address target) w e = refl
of-plain (asks.StoreConditional address value target) w e = refl
of-plain (asks.ReadCp0 number target) w e = refl
of-plain (asks.WriteCp0 number value) w e = refl
of-plain (asks.System op) w e = refl

pub plain : (b : Bool) (r : Request) (w : Wanted) → wanted (redirected b r) ≡ Some w → redirected b r ≡ r
plain true r w e = of-plain r w e
plain false r w e = refl

pub plain-wanted : (b : Bool) (r : Request) (w : Wanted) → wanted (redirected b r) ≡ Some w → wanted r ≡ Some w
plain-wanted b r w e = ap wanted (sym (plain b r w e)) ∙ e

-- nor is a store of the step at hand
store-at-hand : (m : PrivateMachine) (v q : ℕ) (b : Bool) (address value : ℕ) → act_of m v (if b then asks.WriteCp0 (number_at address) value else asks.Store stores.Word address value) ≡ StoresTo q
    → (if b then asks.WriteCp0 (number_at address) value else asks.Store stores.Word address value) ≡ asks.Store stores.Word address value
store-at-hand m v q true address value e = cc
store-at-hand m v q false address value e = refl

load-at-hand : (m : PrivateMachine) (v q : ℕ) (b : Bool) (address target : ℕ) → act_of m v (if b then asks.ReadCp0 (number_at address) target else asks.Load loads.Word address target) ≡ StoresTo q → ⊥
load-at-hand m v q true address target e = cc
load-at-hand m v q false address target e = cc

of-store : (m : PrivateMachine) (v q : ℕ) (r : Request) → act_of m v (of_register r) ≡ StoresTo q → of_register r ≡ r
of-store m v q asks.Nothing e = refl
of-store m v q (asks.Load loads.Byte address target) e = refl
of-store m v q (asks.Load loads.ByteUnsigned address target) e = refl
of-store m v q (asks.Load loads.HalfWord address target) e = refl
of-store m v q (asks.Load loads.HalfWordUnsigned address target) e = refl
of-store m v q (asks.Load loads.Word address target) e = absurd (load-at-hand m v q (is_on_page address && is_loaded (number_at address)) address target e)
of-store m v q (asks.Load loads.WordLeft address target) e = refl
of-store m v q (asks.Load loads.WordRight address target) e = refl
of-store m v q (asks.Store stores.Byte address value) e = refl
of-store m v q (asks.Store stores.HalfWord address value) e = refl
of-store m v q (asks.Store stores.Word address value) e = store-at-hand m v q (is_on_page address && is_stored (number_at address)) address value e
of-store m v q (asks.Store stores.WordLeft address value) e = refl
of-store m v q (asks.Store stores.WordRight address value) e = refl
of-store m v q (asks.LoadLinked address target) e = refl
of-store m v q (asks.StoreConditional address value target) e = refl
of-store m v q (asks.ReadCp0 number target) e = refl
of-store m v q (asks.WriteCp0 number value) e = refl
of-store m v q (asks.System op) e = refl

pub store-same : (m : PrivateMachine) (v q : ℕ) (b : Bool) (r : Request) → act_of m v (redirected b r) ≡ StoresTo q → redirected b r ≡ r
store-same m v q true r e = of-store m v q r e
store-same m v q false r e = refl

-- a request of memory, or none; where the page is open, also of one of its registers
abbrev pub OfMemory : Request → Type 0
OfMemory asks.Nothing = Unit {0}
OfMemory (asks.Load kind address target) = Unit {0}
OfMemory (asks.Store kind address value) = Unit {0}
OfMemory (asks.LoadLinked address target) = Unit {0}
OfMemory (asks.StoreConditional address value target) = Unit {0}
OfMemory (asks.ReadCp0 number target) = ⊥
OfMemory (asks.WriteCp0 number value) = ⊥
OfMemory (asks.System op) = ⊥

abbrev pub OfPage : Bool → Request → Type 0
OfPage b asks.Nothing = Unit {0}
OfPage b (asks.Load kind address target) = Unit {0}
OfPage b (asks.Store kind address value) = Unit {0}
OfPage b (asks.LoadLinked address target) = Unit {0}
OfPage b (asks.StoreConditional address value target) = Unit {0}
OfPage b (asks.ReadCp0 number target) = (b ≡ true) × (is_loaded number ≡ true)
OfPage b (asks.WriteCp0 number value) = (b ≡ true) × (is_stored number ≡ true)
OfPage b (asks.System op) = ⊥

and-right : (a b : Bool) → (a && b) ≡ true → b ≡ true
and-right true b e = e
and-right false b e = absurd (true≢false (sym e))

load-page : (b : Bool) (address target : ℕ) → (b ≡ true → is_loaded (number_at address) ≡ true) → OfPage true (if b then asks.ReadCp0 (number_at address) target else asks.Load loads.Word address target)
load-page true address target is = (refl, is refl)
load-page false address target is = tt

store-page : (b : Bool) (address value : ℕ) → (b ≡ true → is_stored (number_at address) ≡ true) → OfPage true (if b then asks.WriteCp0 (number_at address) value else asks.Store stores.Word address value)
store-page true address value is = (refl, is refl)
store-page false address value is = tt

of-page : (r : Request) → OfMemory r → OfPage true (of_register r)
of-page asks.Nothing is = tt
of-page (asks.Load loads.Byte address target) is = tt
of-page (asks.Load loads.ByteUnsigned address target) is = tt
of-page (asks.Load loads.HalfWord address target) is = tt
of-page (asks.Load loads.HalfWordUnsigned address target) is = tt
of-page (asks.Load loads.Word address target) is = load-page (is_on_page address && is_loaded (number_at address)) address target (and-right (is_on_page address) (is_loaded (number_at address)))
of-page (asks.Load loads.WordLeft address target) is = tt
of-page (asks.Load loads.WordRight address target) is = tt
of-page (asks.Store stores.Byte address value) is = tt
of-page (asks.Store stores.HalfWord address value) is = tt
of-page (asks.Store stores.Word address value) is = store-page (is_on_page address && is_stored (number_at address)) address value (and-right (is_on_page address) (is_stored (number_at address)))
of-page (asks.Store stores.WordLeft address value) is = tt
of-page (asks.Store stores.WordRight address value) is = tt
of-page (asks.LoadLinked address target) is = tt
of-page (asks.StoreConditional address value target) is = tt
of-page (asks.ReadCp0 number target) is = absurd is
of-page (asks.WriteCp0 number value) is = absurd is
of-page (asks.System op) is = absurd is

closed-page : (r : Request) → OfMemory r → OfPage false r
closed-page asks.Nothing is = tt
closed-page (asks.Load kind address target) is = tt
closed-page (asks.Store kind address value) is = tt
closed-page (asks.LoadLinked address target) is = tt
closed-page (asks.StoreConditional address value target) is = tt
closed-page (asks.ReadCp0 number target) is = absurd is
closed-page (asks.WriteCp0 number value) is = absurd is
closed-page (asks.System op) is = absurd is

pub page-asked : (b : Bool) (r : Request) → OfMemory r → OfPage b (redirected b r)
page-asked true r is = of-page r is
page-asked false r is = closed-page r is

-- the registers by their numbers
or-cases : (a b : Bool) → (a || b) ≡ true → (a ≡ true) ⊎ (b ≡ true)
or-cases true b e = inl refl
or-cases false b e = inr e

at-number : (P : ℕ → Type 0) (n k : ℕ) → P k → (n == k) ≡ true → P n
at-number P n k p e = subst P (sym (eqb-true n k e)) p

each-stored : (P : ℕ → Type 0) (n : ℕ) → P 0 → P 2 → P 3 → P 14 → is_stored n ≡ true → P n
each-stored P n p0 p2 p3 p14 is =
    ⊎_elim (at-number P n 0 p0) (λ a. ⊎_elim (at-number P n 2 p2) (λ b. ⊎_elim (at-number P n 3 p3) (at-number P n 14 p14)
    (or-cases (n == 3) _ b)) (or-cases (n == 2) _ a)) (or-cases (n == 0) _ is)

each-loaded : (P : ℕ → Type 0) (n : ℕ) → P 0 → P 2 → P 3 → P 4 → P 8 → P 10 → P 14 → is_loaded n ≡ true → P n
each-loaded P n p0 p2 p3 p4 p8 p10 p14 is =
    ⊎_elim (at-number P n 0 p0) (λ a. ⊎_elim (at-number P n 2 p2) (λ b. ⊎_elim (at-number P n 3 p3) (λ d. ⊎_elim (at-number P n 4 p4) (λ e. ⊎_elim (at-number P n 8 p8) (λ f. ⊎_elim (at-number P n 10 p10) (at-number P n 14 p14)
    (or-cases (n == 10) _ f)) (or-cases (n == 8) _ e)) (or-cases (n == 4) _ d)) (or-cases (n == 3) _ b)) (or-cases (n == 2) _ a)) (or-cases (n == 0) _ is)

-- a word of the page is what its register reads
pub word-read : (c : Cp0Registers) (n : ℕ) → is_loaded n ≡ true → word_of_block n (block_of c) ≡ reads c (register_at n)
word-read c n is = each-loaded (λ (k : ℕ). word_of_block k (block_of c) ≡ reads c (register_at k)) n refl refl refl refl refl refl refl is

-- and after a store what it reads then
index-word : (value : ℕ) → bits 5 0 value ≡ 0 * 2 ^ 31 + bits 5 0 value
index-word value = omega arith

pub word-written : (c : Cp0Registers) (n value : ℕ) → is_stored n ≡ true → block_written n value (block_of c) ≡ block_of (writes c (register_at n) value)
word-written c n value is = each-stored (λ (k : ℕ). block_written k value (block_of c) ≡ block_of (writes c (register_at k) value)) n
    (ap (λ (w : ℕ). record (block_of c) { index = w }) (index-word value)) refl refl refl is

-- a virtual processor's block, among all of them
pub block-in : (b : Bool) (cs : List Vcpu) (v : ℕ) → (get_or cs v no_vcpu).halted ≡ false → get_or (map (λ (c : Vcpu). block_for b c.cp0) cs) v None ≡ block_for b (get_or cs v no_vcpu).cp0
block-in b [] v running = absurd (true≢false running)
block-in b (c ∷ cs) zero running = refl
block-in b (c ∷ cs) (suc v) running = block-in b cs v running

pub has-block : (b : Bool) (c : Cp0Registers) → is_some (block_for b c) ≡ b
has-block true c = refl
has-block false c = refl
