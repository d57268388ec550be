-- What was written on a register page, taken back by its words, is what MTC0 does.
use Rattle.std.proofs.Common.{◌≡◌, ◌⊎◌, ℕ, ◌+◌, ◌*◌, ◌^◌, ◌==◌, if◌then◌else◌, Bool, true, false, ◌||◌, Option, Some, None, inl, inr, ⊎_elim, refl, sym, ap, ◌∙◌, subst, arith, true≢false}
use Rattle.std.proofs.lemmas.Bool.{eqb-true, eq-eqb}
use Rattle.base_words.specs.declared.coprocessor.Cp0Registers.{Cp0Registers}
use Rattle.base_words.specs.declared.coprocessor.Cp0Register.{Cp0Register}
use Rattle.base_words.specs.declared.coprocessor.Cp0Register.TheVariants.{Index, EntryLo0, EntryLo1, Epc}
use Rattle.base_words.specs.Bits.{bits, bit}
use Rattle.base_words.specs.declared.effect.Request.{Request}
use Rattle.base_words.specs.declared.effect.Request.TheVariants as asks
use Rattle.base_words.specs.Coprocessor.{register_at, reads, writes, line_set}
use Rattle.private_machine.specs.declared.register_page.RegBlock.{RegBlock}
use Rattle.private_machine.specs.RegisterPage.{is_stored, block_of, block_for, block_after, block_written, registers_after}
use Rattle.isolation_law.specs.PageWords.{IsTaken}
use Rattle.guest_course.specs.Paging.{taken_if, taken_back, taken_from}

-- a register whose word is as before stays
same-if : (r : Cp0Register) (w : ℕ) (c : Cp0Registers) → taken_if r w w c ≡ c
same-if r w c = ap (λ (b : Bool). if b then c else writes c r w) (eq-eqb w w refl)

-- one whose word is another takes it; where it is the same, it had it
taken-as : (r : Cp0Register) (before after : ℕ) (c d : Cp0Registers) → ((before ≡ after) → c ≡ d) → writes c r after ≡ d → taken_if r before after c ≡ d
taken-as r before after c d kept written = by (after == before) refl
  where
    by : (b : Bool) → (after == before) ≡ b → (if b then c else writes c r after) ≡ d
    by true is = kept (sym (eqb-true after before is))
    by false is = written

low-again : (value : ℕ) → bits 5 0 (bits 5 0 value) ≡ bits 5 0 value
low-again value = omega arith

entry-again : (value : ℕ) → bits 29 0 (bits 29 0 value) ≡ bits 29 0 value
entry-again value = omega arith

-- Index that reads six bits didn't fail
index-kept : (failed : Bool) (entry value : ℕ) → bit failed * 2 ^ 31 + entry ≡ bits 5 0 value → (failed ≡ false) × (entry ≡ bits 5 0 value)
index-kept true entry value e = absurd (omega arith)
index-kept false entry value e = (refl, omega arith)

index-same : (c : Cp0Registers) (value : ℕ) → reads c Index ≡ bits 5 0 value → c ≡ writes c Index value
index-same c value e = let k = index-kept c.index.failed c.index.entry value e in λ i. record c { index = record { failed = k.0 i; entry = k.1 i } }

back-index : (c : Cp0Registers) (value : ℕ) → taken_back (block_of c) (block_written 0 value (block_of c)) c ≡ writes c Index value
back-index c value =
    let first = taken_if Index (reads c Index) (bits 5 0 value) c in
    same-if Epc (reads c Epc) _ ∙ same-if EntryLo1 (reads c EntryLo1) _ ∙ same-if EntryLo0 (reads c EntryLo0) first
    ∙ taken-as Index (reads c Index) (bits 5 0 value) c (writes c Index value) (index-same c value) (ap (λ (n : ℕ). record c { index = record { failed = false; entry = n } }) (low-again value))

back-lo0 : (c : Cp0Registers) (value : ℕ) → taken_back (block_of c) (block_written 2 value (block_of c)) c ≡ writes c EntryLo0 value
back-lo0 c value =
    same-if Epc (reads c Epc) _ ∙ same-if EntryLo1 (reads c EntryLo1) _
    ∙ ap (taken_if EntryLo0 (reads c EntryLo0) (bits 29 0 value)) (same-if Index (reads c Index) c)
    ∙ taken-as EntryLo0 (reads c EntryLo0) (bits 29 0 value) c (writes c EntryLo0 value) (λ e. ap (λ (n : ℕ). record c { entry_lo0 = n }) e) (ap (λ (n : ℕ). record c { entry_lo0 = n }) (entry-again value))

back-lo1 : (c : Cp0Registers) (value : ℕ) → taken_back (block_of c) (block_written 3 value (block_of c)) c ≡ writes c EntryLo1 value
back-lo1 c value =
    same-if Epc (reads c Epc) _
    ∙ ap (taken_if EntryLo1 (reads c EntryLo1) (bits 29 0 value)) (same-if EntryLo0 (reads c EntryLo0) _ ∙ same-if Index (reads c Index) c)
    ∙ taken-as EntryLo1 (reads c EntryLo1) (bits 29 0 value) c (writes c EntryLo1 value) (λ e. ap (λ (n : ℕ). record c { entry_lo1 = n }) e) (ap (λ (n : ℕ). record c { entry_lo1 = n }) (entry-again value))

back-epc : (c : Cp0Registers) (value : ℕ) → taken_back (block_of c) (block_written 14 value (block_of c)) c ≡ writes c Epc value
back-epc c value =
    ap (taken_if Epc (reads c Epc) value) (same-if EntryLo1 (reads c EntryLo1) _ ∙ same-if EntryLo0 (reads c EntryLo0) _ ∙ same-if Index (reads c Index) c)
    ∙ taken-as Epc (reads c Epc) value c (writes c Epc value) (λ e. ap (λ (n : ℕ). record c { epc = n }) e) refl

or-cases : (a b : Bool) → (a || b) ≡ true → (a ≡ true) ⊎ (b ≡ true)
or-cases true b e = inl refl
or-cases false b e = inr e

at-number : (P : ℕ → Type 0) (n k : ℕ) → P k → (n == k) ≡ true → P n
at-number P n k p e = subst P (sym (eqb-true n k e)) p

pub taken-back : (c : Cp0Registers) (n value : ℕ) → is_stored n ≡ true → taken_back (block_of c) (block_written n value (block_of c)) c ≡ writes c (register_at n) value
taken-back c n value is =
    let P : ℕ → Type 0 = λ (k : ℕ). taken_back (block_of c) (block_written k value (block_of c)) c ≡ writes c (register_at k) value in
    ⊎_elim (at-number P n 0 (back-index c value)) (λ a. ⊎_elim (at-number P n 2 (back-lo0 c value)) (λ b. ⊎_elim (at-number P n 3 (back-lo1 c value)) (at-number P n 14 (back-epc c value))
    (or-cases (n == 3) _ b)) (or-cases (n == 2) _ a)) (or-cases (n == 0) _ is)

-- ---- what is taken, by what a step asked

-- nothing was written
back-same : (b : RegBlock) (c : Cp0Registers) → taken_back b b c ≡ c
back-same b c = same-if Epc b.epc _ ∙ same-if EntryLo1 b.lo1 _ ∙ same-if EntryLo0 b.lo0 _ ∙ same-if Index b.index c

pub taken-same : (b : Option RegBlock) (c : Cp0Registers) → taken_from b b c ≡ c
taken-same (Some b) c = back-same b c
taken-same None c = refl

pub taken-asked : (has : Bool) (r : Request) (c : Cp0Registers) → IsTaken (block_for has c) r → taken_from (block_for has c) (block_after r (block_for has c)) c ≡ registers_after r c
taken-asked true asks.Nothing c is = back-same (block_of c) c
taken-asked true (asks.Load kind address target) c is = back-same (block_of c) c
taken-asked true (asks.Store kind address value) c is = back-same (block_of c) c
taken-asked true (asks.LoadLinked address target) c is = back-same (block_of c) c
taken-asked true (asks.StoreConditional address value target) c is = back-same (block_of c) c
taken-asked true (asks.ReadCp0 number target) c is = back-same (block_of c) c
taken-asked true (asks.WriteCp0 number value) c is = taken-back c number value is.1
taken-asked true (asks.System op) c is = back-same (block_of c) c
taken-asked false asks.Nothing c is = refl
taken-asked false (asks.Load kind address target) c is = refl
taken-asked false (asks.Store kind address value) c is = refl
taken-asked false (asks.LoadLinked address target) c is = refl
taken-asked false (asks.StoreConditional address value target) c is = refl
taken-asked false (asks.ReadCp0 number target) c is = refl
taken-asked false (asks.WriteCp0 number value) c is = absurd (true≢false (sym is.0))
taken-asked false (asks.System op) c is = refl

-- ---- what stays beside it

abbrev pub but_page : Cp0Registers → Cp0Registers
but_page c = record c { index = record { failed = false; entry = 0 }; entry_lo0 = 0; entry_lo1 = 0; epc = 0 }

if-rest : (r : Cp0Register) (before after : ℕ) (c : Cp0Registers) → but_page (writes c r after) ≡ but_page c → but_page (taken_if r before after c) ≡ but_page c
if-rest r before after c same = elim (after == before) as (λ b. but_page (if b then c else writes c r after) ≡ but_page c) [ true ↦ refl | false ↦ same ]

back-rest : (b a : RegBlock) (c : Cp0Registers) → but_page (taken_back b a c) ≡ but_page c
back-rest b a c =
    let one = taken_if Index b.index a.index c in
    let two = taken_if EntryLo0 b.lo0 a.lo0 one in
    let three = taken_if EntryLo1 b.lo1 a.lo1 two in
    if-rest Epc b.epc a.epc three refl ∙ if-rest EntryLo1 b.lo1 a.lo1 two refl ∙ if-rest EntryLo0 b.lo0 a.lo0 one refl ∙ if-rest Index b.index a.index c refl

pub taken-rest : (b a : Option RegBlock) (c : Cp0Registers) → but_page (taken_from b a c) ≡ but_page c
taken-rest (Some b) (Some a) c = back-rest b a c
taken-rest (Some b) None c = refl
taken-rest None a c = refl

-- a line of an interrupt may come before it or after it
if-line : (r : Cp0Register) (before after number : ℕ) (on : Bool) (c : Cp0Registers) → writes (line_set c number on) r after ≡ line_set (writes c r after) number on
    → taken_if r before after (line_set c number on) ≡ line_set (taken_if r before after c) number on
if-line r before after number on c same =
    elim (after == before) as (λ b. (if b then line_set c number on else writes (line_set c number on) r after) ≡ line_set (if b then c else writes c r after) number on) [ true ↦ refl | false ↦ same ]

back-line : (b a : RegBlock) (number : ℕ) (on : Bool) (c : Cp0Registers) → taken_back b a (line_set c number on) ≡ line_set (taken_back b a c) number on
back-line b a number on c =
    let one = taken_if Index b.index a.index c in
    let two = taken_if EntryLo0 b.lo0 a.lo0 one in
    let three = taken_if EntryLo1 b.lo1 a.lo1 two in
    ap (λ (x : Cp0Registers). taken_if Epc b.epc a.epc (taken_if EntryLo1 b.lo1 a.lo1 (taken_if EntryLo0 b.lo0 a.lo0 x))) (if-line Index b.index a.index number on c refl)
    ∙ ap (λ (x : Cp0Registers). taken_if Epc b.epc a.epc (taken_if EntryLo1 b.lo1 a.lo1 x)) (if-line EntryLo0 b.lo0 a.lo0 number on one refl)
    ∙ ap (λ (x : Cp0Registers). taken_if Epc b.epc a.epc x) (if-line EntryLo1 b.lo1 a.lo1 number on two refl)
    ∙ if-line Epc b.epc a.epc number on three refl

pub taken-line : (b a : Option RegBlock) (number : ℕ) (on : Bool) (c : Cp0Registers) → taken_from b a (line_set c number on) ≡ line_set (taken_from b a c) number on
taken-line (Some b) (Some a) number on c = back-line b a number on c
taken-line (Some b) None number on c = refl
taken-line None a number on c = refl

pub block-lined : (has : Bool) (number : ℕ) (on : Bool) (c : Cp0Registers) → block_for has (line_set c number on) ≡ block_for has c
block-lined true number on c = refl
block-lined false number on c = refl
