-- Instructions that touch memory quietly are steps of the hardware, one after the other.
use Rattle.std.proofs.Common.{◌≡◌, ℕ, zero, suc, ◌+◌, ◌-◌, ◌/◌, ◌%◌, ◌==◌, if◌then◌else◌, Bool, true, false, not, ◌&&◌, List, Option, Some, None, Result, Ok, Err, is_some, refl, sym, ap, ◌∙◌, subst, arith}
use Rattle.base_words.specs.Memory.{word_at}
use Rattle.base_words.specs.Fields.{opcode}
use Rattle.base_words.specs.OpcodeMap.{decoded}
use Rattle.base_words.specs.Instruction.{Effect, effect, register, with_register, advanced}
use Rattle.base_words.specs.Merging.{load_unit, store_unit, loaded_value, stored_word}
use Rattle.base_words.specs.declared.exception.Use.TheVariants as uses
use Rattle.base_words.specs.declared.instr.LoadKind.{LoadKind}
use Rattle.base_words.specs.declared.instr.StoreKind.{StoreKind}
use Rattle.base_words.specs.declared.regs.Regs.{Regs}
use Rattle.base_words.specs.declared.exception.Exception.{Exception}
use Rattle.base_words.specs.declared.effect.Request.{Request}
use Rattle.base_words.specs.declared.effect.Request.TheVariants as asks
use Rattle.base_words.specs.declared.trap.DataAccess.TheVariants.{NoData}
use Rattle.mips_alu.specs.Execution.{passed, Executes}
use Rattle.private_machine.specs.declared.register_page.RegBlock.{RegBlock}
use Rattle.private_machine.specs.RegisterPage.{redirected, opened}
use Rattle.private_machine.specs.Backing.{Held, page_at, bytes_through}
use Rattle.private_machine.specs.Reaching.{Reached, Sight, wanted, reached, fetch_at, is_open_to}
use Rattle.private_machine.specs.HardwareStep.{Line, Privileged, word_through, fetches, decodes, executes, asking, accesses, with_data}
use Rattle.private_machine.specs.DirectAccess.{hardware_outcome, outcome_of, stored_at, load_told, store_told}
use Rattle.page_ops.specs.Pages.{IsInPage, IsPlain, Goes, StopsAt, word_in, effect_in, leaves_cp0}
use Rattle.page_ops.specs.Ops.{Runs as RunsSo}
use Rattle.page_ops.specs.declared.stretch.Stop.{Stop}
use Rattle.hw_cpu.specs.declared.reaching.KeptPage.{KeptPage}
use Rattle.hw_cpu.specs.declared.reaching.Reached.{Reached as There}
use Rattle.hw_cpu.specs.KeptPages.{IsKeptPage}
use Rattle.hw_cpu.specs.Steps.{with_page, left_by, place_of, wanted_at}
use Rattle.hw_cpu.specs.Runs.{IsPlainAccess, StepsQuietly, Runs, Touched}
use Rattle.hw_cpu.proofs.PageLemmas.{executes_opened}

-- the law of what asks nothing of coprocessor 0
abbrev pub Unprivileged : Type 0
Unprivileged = (word : ℕ) (regs : Regs) (does : Effect) → effect (decoded word) regs ≡ Ok does → leaves_cp0 does.request ≡ true → (opcode word == 16) ≡ false

-- a page from which instructions are fetched: what all its fetches reach, with its bytes
pub record Fetches (x : Sight) (held : Held) (number : ℕ) (bytes : List ℕ) (at : Reached) : Type 0 where
  pub leads : (pc : ℕ) → pc / 4096 ≡ number → pc % 4 ≡ 0 → reached x (fetch_at pc) ≡ Ok at
  pub are : bytes ≡ bytes_through (page_at held.pages at.page) at.frame

-- an instruction there goes on as its effect says
goes-on : Unprivileged → (x : Sight) (v : ℕ) (held : Held) (number : ℕ) (bytes : List ℕ) (at : Reached) (r : Regs) (e : Effect) → x.line ≡ false → Fetches x held number bytes at → IsInPage number r → effect_in bytes r ≡ Ok e → leaves_cp0 e.request ≡ true
    → hardware_outcome x v held r ≡ outcome_of v x.block held (asking x (word_in bytes r) at (opened (is_open_to x) (effect_in bytes r)))
goes-on law x v held number bytes at r e quiet there in-page does leaves =
    let w = word_in bytes r in
    let aligned = in-page.aligned in
    let offset : r.pc % 4096 - r.pc % 4096 % 4 ≡ r.pc % 4096 = omega (arith, aligned) in
    let word : word_through held.pages at r.pc ≡ w = ap (word_at (bytes_through (page_at held.pages at.page) at.frame)) offset ∙ ap (λ (b : List ℕ). word_at b (r.pc % 4096)) (sym there.are) in
    ap (λ b. outcome_of v x.block held (if b then Err Line else fetches x held.pages r (reached x (fetch_at r.pc)))) quiet
    ∙ ap (λ f. outcome_of v x.block held (fetches x held.pages r f)) (there.leads r.pc in-page.page aligned)
    ∙ ap (λ u. outcome_of v x.block held (decodes x r at u)) word
    ∙ ap (λ b. outcome_of v x.block held (if b then Err (Privileged w) else executes x w at (effect (decoded w) r))) (law w r e does leaves)

-- one that asks nothing
nothing-redirected : (b : Bool) → redirected b asks.Nothing ≡ asks.Nothing
nothing-redirected true = refl
nothing-redirected false = refl

plain-quiet : Unprivileged → (unnoted : ℕ → ℕ → Bool → Bool) (x : Sight) (v : ℕ) (held : Held) (number : ℕ) (bytes : List ℕ) (at : Reached) (r s : Regs) → x.line ≡ false → Fetches x held number bytes at → IsPlain bytes number r s → StepsQuietly unnoted x v r held s held
plain-quiet law unnoted x v held number bytes at r s quiet there plain =
    let w = word_in bytes r in
    record {
      access = record { fetched = record { 0 = at.frame }; «data» = NoData };
      makes = goes-on law x v held number bytes at r (record { registers = s; request = asks.Nothing }) quiet there plain.there plain.done refl
          ∙ ap (λ e. outcome_of v x.block held (executes x w at e)) plain.done
          ∙ ap (λ (q : Request). outcome_of v x.block held (accesses x w at (record { registers = s; request = q }) (wanted q))) (nothing-redirected (is_open_to x));
      quiet = tt;
    }

-- one that touches memory
plain-leaves : (b : Bool) (r : Request) → IsPlainAccess (redirected b r) → leaves_cp0 r ≡ true
plain-leaves b asks.Nothing is = refl
plain-leaves b (asks.Load kind address target) is = refl
plain-leaves b (asks.Store kind address value) is = refl
plain-leaves b (asks.LoadLinked address target) is = refl
plain-leaves b (asks.StoreConditional address value target) is = refl
plain-leaves true (asks.ReadCp0 number target) is = absurd is
plain-leaves false (asks.ReadCp0 number target) is = absurd is
plain-leaves true (asks.WriteCp0 number value) is = absurd is
plain-leaves false (asks.WriteCp0 number value) is = absurd is
plain-leaves true (asks.System op) is = absurd is
plain-leaves false (asks.System op) is = absurd is

touched-quiet : Unprivileged → (unnoted : ℕ → ℕ → Bool → Bool) (x : Sight) (v : ℕ) (held : Held) (number : ℕ) (bytes : List ℕ) (at : Reached) (r : Regs) (stop : Stop) (q : Request) (s : Regs) (g : Held) → x.line ≡ false → Fetches x held number bytes at → StopsAt bytes number r stop → stop.asks ≡ Some q → IsPlainAccess (redirected (is_open_to x) q)
    → Touched unnoted x v (word_in bytes r) at x.block (redirected (is_open_to x) q) r held s g → StepsQuietly unnoted x v r held s g
touched-quiet law unnoted x v held number bytes at r stop q s g quiet there stops asks-it memory touched =
    let w = word_in bytes r in
    let open-now = is_open_to x in
    let does : Executes (effect_in bytes r) r r (Ok q) = subst (λ (o : Option Request). RunsSo (effect_in bytes r) r r o) asks-it stops.runs in
    record {
      access = touched.access;
      makes = goes-on law x v held number bytes at r (record { registers = passed q r; request = q }) quiet there stops.there does.0 (plain-leaves open-now q memory)
          ∙ ap (λ e. outcome_of v x.block held (asking x w at e)) (executes_opened open-now (effect_in bytes r) r r q does).0
          ∙ touched.makes;
      quiet = touched.quiet;
    }

-- a load and a store that reach this
pub load-touched : (unnoted : ℕ → ℕ → Bool → Bool) (x : Sight) (v word : ℕ) (fetched : Reached) (block : Option RegBlock) (kind : LoadKind) (address target : ℕ) (at : Reached) (regs : Regs) (held : Held) → reached x (wanted_at uses.Load (load_unit kind) address) ≡ Ok at → unnoted at.page at.frame false ≡ true
    → Touched unnoted x v word fetched block (asks.Load kind address target) regs held (with_register (advanced regs) target (loaded_value kind (word_through held.pages at address) (register (advanced regs) target) (address % 4))) held
load-touched unnoted x v word fetched block kind address target at regs held found quiet = record {
  access = record { fetched = record { 0 = fetched.frame }; «data» = load_told at };
  makes = ap (λ f. outcome_of v block held (with_data word (wanted_at uses.Load (load_unit kind) address) fetched (record { registers = advanced regs; request = asks.Load kind address target }) f)) found;
  quiet = quiet;
}

pub store-touched : (unnoted : ℕ → ℕ → Bool → Bool) (x : Sight) (v word : ℕ) (fetched : Reached) (block : Option RegBlock) (kind : StoreKind) (address value : ℕ) (at : Reached) (regs : Regs) (held : Held) → reached x (wanted_at uses.Store (store_unit kind) address) ≡ Ok at → unnoted at.page at.frame true ≡ true
    → Touched unnoted x v word fetched block (asks.Store kind address value) regs held (advanced regs) (stored_at v at address (stored_word kind (word_through held.pages at address) value (address % 4)) held)
store-touched unnoted x v word fetched block kind address value at regs held found quiet = record {
  access = record { fetched = record { 0 = fetched.frame }; «data» = store_told at };
  makes = ap (λ f. outcome_of v block held (with_data word (wanted_at uses.Store (store_unit kind) address) fetched (record { registers = advanced regs; request = asks.Store kind address value }) f)) found;
  quiet = quiet;
}

-- so many, after others
pub goes-many : Unprivileged → (unnoted : ℕ → ℕ → Bool → Bool) (x : Sight) (v : ℕ) (held₀ held : Held) (number : ℕ) (bytes : List ℕ) (at : Reached) (before n : ℕ) (r₀ r s : Regs) → x.line ≡ false → Fetches x held number bytes at → Runs unnoted before x v r₀ held₀ r held → Goes bytes number n r s
    → Runs unnoted (before + n) x v r₀ held₀ s held
goes-many law unnoted x v held₀ held number bytes at before zero r₀ r s quiet there ran goes =
    subst (λ (m : ℕ). Runs unnoted m x v r₀ held₀ s held) (let same : before ≡ before + zero = omega arith in same) (subst (λ (t : Regs). Runs unnoted before x v r₀ held₀ t held) (sym goes) ran)
goes-many law unnoted x v held₀ held number bytes at before (suc n) r₀ r s quiet there ran goes =
    let mid = goes.0 in
    let more = goes-many law unnoted x v held₀ held number bytes at before n r₀ r mid quiet there ran goes.1 in
    subst (λ (m : ℕ). Runs unnoted m x v r₀ held₀ s held) (let same : suc (before + n) ≡ before + suc n = omega arith in same) (mid, held, more, plain-quiet law unnoted x v held number bytes at mid s quiet there goes.2)

-- and one that touches memory
pub touches-one : Unprivileged → (unnoted : ℕ → ℕ → Bool → Bool) (x : Sight) (v : ℕ) (held₀ held : Held) (number : ℕ) (bytes : List ℕ) (at : Reached) (before : ℕ) (r₀ r : Regs) (stop : Stop) (q : Request) (s : Regs) (g : Held) → x.line ≡ false → Fetches x held number bytes at → Runs unnoted before x v r₀ held₀ r held → StopsAt bytes number r stop → stop.asks ≡ Some q
    → IsPlainAccess (redirected (is_open_to x) q) → Touched unnoted x v (word_in bytes r) at x.block (redirected (is_open_to x) q) r held s g → Runs unnoted (before + 1) x v r₀ held₀ s g
touches-one law unnoted x v held₀ held number bytes at before r₀ r stop q s g quiet there ran stops asks-it memory touched =
    subst (λ (m : ℕ). Runs unnoted m x v r₀ held₀ s g) (let same : suc before ≡ before + 1 = omega arith in same) (r, held, ran, touched-quiet law unnoted x v held number bytes at r stop q s g quiet there stops asks-it memory touched)

-- the page that is kept, whatever register page there is
pub kept-fetches : (x : Sight) (block : Option RegBlock) (held : Held) (last : Option KeptPage) (number : ℕ) (at : There) (bytes : List ℕ) → last ≡ Some (record { number = number; at = at }) → IsKeptPage uses.Fetch x last → bytes ≡ bytes_through (page_at held.pages at.page.0) at.frame.0 → Fetches (with_page block x) held number bytes (place_of at)
kept-fetches x block held last number at bytes is kept are =
    let page : IsKeptPage uses.Fetch x (Some (record { number = number; at = at })) = subst (λ (o : Option KeptPage). IsKeptPage uses.Fetch x o) is kept in
    record { leads = λ pc same aligned. page 4 pc same aligned; are = are }
