-- An instruction of a page by its offset there.
use Rattle.std.proofs.Common.{◌≡◌, ℕ, suc, ◌+◌, ◌/◌, ◌%◌, Bool, true, false, List, Option, Some, None, Result, Ok, refl, sym, ap, ◌∙◌, subst, arith}
use Rattle.base_words.specs.declared.regs.Regs.{Regs}
use Rattle.base_words.specs.declared.effect.Request.TheVariants as asks
use Rattle.base_words.specs.Fields.{sum}
use Rattle.base_words.specs.Memory.{word_at}
use Rattle.base_words.specs.OpcodeMap.{decoded}
use Rattle.base_words.specs.Instruction.{Effect, effect}
use Rattle.base_words.specs.declared.exception.Exception.{Exception}
use Rattle.base_words.specs.declared.effect.Request.{Request}
use Rattle.mips_alu.specs.Execution.{Executes}
use Rattle.page_ops.specs.declared.op.Op.{Op}
use Rattle.page_ops.specs.Leading.{Leads}
use Rattle.page_ops.specs.Ops.{instr_of, Computes, AsksFor, Runs}
use Rattle.page_ops.specs.declared.leading.Lead.{Lead}
use Rattle.page_ops.specs.declared.leading.Lead.TheVariants.{ToSlot, PastSlot, Asks}
use Rattle.page_ops.specs.Pages.{IsInPage, IsAt, IsPlain, Goes, StopsAt, word_in, effect_in}

-- the address of an offset in a page
pub at-address : (number first at : ℕ) → IsAt number first at → sum first at ≡ first + at
at-address number first at i = let fits = i.fits in let within = i.within in omega (arith, fits, within)

pub at-page : (number first at : ℕ) → IsAt number first at → sum first at / 4096 ≡ number
at-page number first at i = let starts = i.starts in let fits = i.fits in let within = i.within in omega (arith, starts, fits, within)

pub at-offset : (number first at : ℕ) → IsAt number first at → sum first at % 4096 ≡ at
at-offset number first at i = let starts = i.starts in let fits = i.fits in let within = i.within in omega (arith, starts, fits, within)

pub at-aligned : (number first at : ℕ) → IsAt number first at → sum first at % 4 ≡ 0
at-aligned number first at i = let starts = i.starts in let fits = i.fits in let within = i.within in let aligned = i.aligned in omega (arith, starts, fits, within, aligned)

pub at-next : (number first at : ℕ) → IsAt number first at → sum (sum first at) 4 ≡ sum first (at + 4)
at-next number first at i = let fits = i.fits in let within = i.within in omega (arith, fits, within)

pub at-there : (number first at : ℕ) (regs : Regs) (slot : Option ℕ) → IsAt number first at → IsInPage number (record regs { pc = sum first at; slot = slot })
at-there number first at regs slot i = record { page = at-page number first at i; aligned = at-aligned number first at i }

-- the word there
pub at-word : (bytes : List ℕ) (number first at word : ℕ) (regs : Regs) (slot : Option ℕ) → IsAt number first at → word ≡ word_at bytes at → word_in bytes (record regs { pc = sum first at; slot = slot }) ≡ word
at-word bytes number first at word regs slot i is = ap (word_at bytes) (at-offset number first at i) ∙ sym is

-- what computes alone is plain
pub plain-computed : (bytes : List ℕ) (number first at word : ℕ) (op : Op) (regs new : Regs) → IsAt number first at → word ≡ word_at bytes at → instr_of op ≡ decoded word → Computes op regs new true → IsPlain bytes number (record regs { pc = sum first at; slot = None }) (record new { pc = sum first (at + 4); slot = None })
plain-computed bytes number first at word op regs new i is stands does = record {
  there = at-there number first at regs None i;
  done = ap (λ w. effect (decoded w) (record regs { pc = sum first at; slot = None })) (at-word bytes number first at word regs None i is)
      ∙ ap (λ x. effect x (record regs { pc = sum first at; slot = None })) (sym stands)
      ∙ does.0 (sum first at) None
      ∙ ap (λ pc. Ok (record { registers = record new { pc = pc; slot = None }; request = asks.Nothing })) (at-next number first at i);
}

-- what computes alone in a delay slot is plain, and leads on
pub plain-slot : (bytes : List ℕ) (number first at word target : ℕ) (op : Op) (regs new : Regs) → IsAt number first at → word ≡ word_at bytes at → instr_of op ≡ decoded word → Computes op regs new true → IsPlain bytes number (record regs { pc = sum first at; slot = Some target }) (record new { pc = target; slot = None })
plain-slot bytes number first at word target op regs new i is stands does = record {
  there = at-there number first at regs (Some target) i;
  done = ap (λ w. effect (decoded w) (record regs { pc = sum first at; slot = Some target })) (at-word bytes number first at word regs (Some target) i is)
      ∙ ap (λ x. effect x (record regs { pc = sum first at; slot = Some target })) (sym stands)
      ∙ does.0 (sum first at) (Some target);
}

-- a branch or a jump is plain
pub plain-led : (bytes : List ℕ) (number first at word target : ℕ) (op : Op) (regs new : Regs) → IsAt number first at → word ≡ word_at bytes at → instr_of op ≡ decoded word → Leads op regs new (sum first at) (ToSlot target) → IsPlain bytes number (record regs { pc = sum first at; slot = None }) (record new { pc = sum first (at + 4); slot = Some target })
plain-led bytes number first at word target op regs new i is stands leads = record {
  there = at-there number first at regs None i;
  done = ap (λ w. effect (decoded w) (record regs { pc = sum first at; slot = None })) (at-word bytes number first at word regs None i is)
      ∙ ap (λ x. effect x (record regs { pc = sum first at; slot = None })) (sym stands)
      ∙ leads.0
      ∙ ap (λ pc. Ok (record { registers = record new { pc = pc; slot = Some target }; request = asks.Nothing })) (at-next number first at i);
}

pub at-past : (number first at : ℕ) → IsAt number first at → sum (sum first at) 8 ≡ sum first (at + 8)
at-past number first at i = let starts = i.starts in let fits = i.fits in let within = i.within in omega (arith, starts, fits, within)

-- so is a likely branch that isn't taken
pub plain-past : (bytes : List ℕ) (number first at word : ℕ) (op : Op) (regs new : Regs) → IsAt number first at → word ≡ word_at bytes at → instr_of op ≡ decoded word → Leads op regs new (sum first at) PastSlot → IsPlain bytes number (record regs { pc = sum first at; slot = None }) (record new { pc = sum first (at + 8); slot = None })
plain-past bytes number first at word op regs new i is stands leads = record {
  there = at-there number first at regs None i;
  done = ap (λ w. effect (decoded w) (record regs { pc = sum first at; slot = None })) (at-word bytes number first at word regs None i is)
      ∙ ap (λ x. effect x (record regs { pc = sum first at; slot = None })) (sym stands)
      ∙ leads.0
      ∙ ap (λ pc. Ok (record { registers = record new { pc = pc; slot = None }; request = asks.Nothing })) (at-past number first at i);
}

-- one more after so many
pub goes-more : (bytes : List ℕ) (number n : ℕ) (from mid to : Regs) → Goes bytes number n from mid → IsPlain bytes number mid to → Goes bytes number (n + 1) from to
goes-more bytes number n from mid to goes plain = subst (λ (k : ℕ). Goes bytes number k from to) (let e : suc n ≡ n + 1 = omega arith in e) (mid, goes, plain)

-- what is asked of memory there
asks-there : (bytes : List ℕ) (number first at word : ℕ) (op : Op) (regs : Regs) (slot : Option ℕ) → IsAt number first at → word ≡ word_at bytes at → instr_of op ≡ decoded word → (asks : Option Request) → AsksFor op regs asks → Runs (effect_in bytes (record regs { pc = sum first at; slot = slot })) (record regs { pc = sum first at; slot = slot }) (record regs { pc = sum first at; slot = slot }) asks
asks-there bytes number first at word op regs slot i is stands None told = refl
asks-there bytes number first at word op regs slot i is stands (Some request) told =
    let r : Regs = record regs { pc = sum first at; slot = slot } in
    let same : effect (instr_of op) r ≡ effect_in bytes r = ap (λ x. effect x r) stands ∙ ap (λ w. effect (decoded w) r) (sym (at-word bytes number first at word regs slot i is)) in
    subst (λ (e : Result Effect Exception). Executes e r r (Ok request)) same (told (sum first at) slot)

pub stops-there : (bytes : List ℕ) (number first at word : ℕ) (op : Op) (regs : Regs) (slot : Option ℕ) (asks : Option Request) → IsAt number first at → word ≡ word_at bytes at → instr_of op ≡ decoded word → AsksFor op regs asks → StopsAt bytes number (record regs { pc = sum first at; slot = slot }) (record { word = word; asks = asks })
stops-there bytes number first at word op regs slot asks i is stands told = record {
  there = at-there number first at regs slot i;
  word = sym (at-word bytes number first at word regs slot i is);
  runs = asks-there bytes number first at word op regs slot i is stands asks told;
}

-- so does an access, which leaves the registers
pub stops-asking : (bytes : List ℕ) (number first at word : ℕ) (op : Op) (old new : Regs) (slot : Option ℕ) (request : Request) → IsAt number first at → word ≡ word_at bytes at → instr_of op ≡ decoded word → Leads op old new (sum first at) (Asks request)
    → StopsAt bytes number (record new { pc = sum first at; slot = slot }) (record { word = word; asks = Some request })
stops-asking bytes number first at word op old new slot request i is stands leads =
    stops-there bytes number first at word op new slot (Some request) i is stands (subst (λ (r : Regs). AsksFor op r (Some request)) (sym leads.0) leads.1)

-- what computes has computed, and what doesn't has left the registers
pub has-computed : (op : Op) (old new : Regs) (b : Bool) → b ≡ true → Computes op old new b → Computes op old new true
has-computed op old new b is does = subst (Computes op old new) is does

pub has-stayed : (op : Op) (old new : Regs) (b : Bool) → b ≡ false → Computes op old new b → new ≡ old
has-stayed op old new b is does = subst (Computes op old new) is does

-- where it leads, as it was told
pub told-lead : (op : Op) (old new : Regs) (pc : ℕ) (led to : Lead) → led ≡ to → Leads op old new pc led → Leads op old new pc to
told-lead op old new pc led to is leads = subst (Leads op old new pc) is leads

-- a branch is one more, after what computed nothing
pub branch-more : (bytes : List ℕ) (number first at word target made : ℕ) (op : Op) (from regs new led : Regs) → IsAt number first at → word ≡ word_at bytes at → instr_of op ≡ decoded word → new ≡ regs
    → Goes bytes number made from (record regs { pc = sum first at; slot = None }) → Leads op new led (sum first at) (ToSlot target)
    → Goes bytes number (made + 1) from (record led { pc = sum first (at + 4); slot = Some target })
branch-more bytes number first at word target made op from regs new led i is stands stays goes leads =
    goes-more bytes number made from (record new { pc = sum first at; slot = None }) (record led { pc = sum first (at + 4); slot = Some target })
    (subst (λ (r : Regs). Goes bytes number made from (record r { pc = sum first at; slot = None })) (sym stays) goes) (plain-led bytes number first at word target op new led i is stands leads)
