-- A step through the TLB is the guest's own step, whatever it is.
use Rattle.std.proofs.Common.{◌≡◌, ℕ, zero, suc, ◌==◌, Bool, true, false, not, ◌&&◌, if◌then◌else◌, Option, None, List, [], ◌∷◌, set, get_or, length, refl, sym, ap, ◌∙◌, subst, true≢false}
use Rattle.std.specs.Prelude.{is_some}
use Rattle.base_words.specs.declared.effect.Request.{Request}
use Rattle.base_words.specs.declared.effect.Request.TheVariants as asks
use Rattle.base_words.specs.Coprocessor.{in_user_mode}
use Rattle.base_words.specs.Instruction.{Effect}
use Rattle.private_machine.specs.declared.register_page.RegBlock.{RegBlock}
use Rattle.private_machine.specs.declared.vcpu.Vcpu.{Vcpu}
use Rattle.private_machine.specs.HardwareStep.{word_through}
use Rattle.private_machine.specs.OwnStep.{input_joined, joined, own_step}
use Rattle.private_machine.specs.PrivateMachine.{PrivateMachine, is_open}
use Rattle.private_machine.specs.Reaching.{at_half, is_open_to}
use Rattle.private_machine.specs.RegisterPage.{has_page, block_for}
use Rattle.private_machine.specs.Vcpu.{no_vcpu, with_line_on}
use Rattle.isolation_law.specs.Coherence.{Consistent}
use Rattle.isolation_law.specs.Content.{content}
use Rattle.isolation_law.specs.DirectStep.{with_inputs, sight}
use Rattle.isolation_law.specs.GuestState.{GuestState, vcpu_of, block_at}
use Rattle.isolation_law.specs.Mirrors.{Mirrors, blocks_for}
use Rattle.isolation_law.specs.PageWords.{IsTaken}
use Rattle.isolation_law.specs.StepRows.{Steps}
use Rattle.isolation_law.proofs.DirectContent.{Shows, ran-ok, steps_content}
use Rattle.isolation_law.proofs.OpcodeProofs.{unprivileged}
use Rattle.isolation_law.proofs.PageProofs.{OfPage, page-asked, block-in, has-block}

-- what joins changes no word of a register page
lined-blocks : (b on : Bool) (cs : List Vcpu) → blocks_for b (set cs 0 (with_line_on 2 on (get_or cs 0 no_vcpu))) ≡ blocks_for b cs
lined-blocks b on [] = refl
lined-blocks true on (c ∷ cs) = refl
lined-blocks false on (c ∷ cs) = refl

pub joined-blocks : (b : Bool) (m : PrivateMachine) (v : ℕ) → blocks_for b (joined m v).vcpus ≡ blocks_for b m.vcpus
joined-blocks b m v = elim (v == 0) as (λ z. blocks_for b (if z then input_joined m else m).vcpus ≡ blocks_for b m.vcpus) [
  | true ↦ lined-blocks b (not (length (input_joined m).devices.queue == 0)) m.vcpus
  | false ↦ refl
]

block-past : (b : Bool) (cs : List Vcpu) (v : ℕ) → get_or (blocks_for b cs) v (block_for b no_vcpu.cp0) ≡ block_for b (get_or cs v no_vcpu).cp0
block-past b [] v = refl
block-past b (c ∷ cs) zero = refl
block-past b (c ∷ cs) (suc v) = block-past b cs v

-- the block of one that runs, once its input has joined
pub runs-block : (s : GuestState) (v : ℕ) → Mirrors s → (vcpu_of s v).halted ≡ false → block_at s v ≡ block_for (has_page s.around.profile) (vcpu_of (with_inputs s v) v).cp0
runs-block s v mirrors running =
    let b = has_page s.around.profile in
    let m = content s in
    ap (λ (l : List (Option RegBlock)). get_or l v None) mirrors
    ∙ block-in b s.vcpus v running
    ∙ sym (block-past b s.vcpus v)
    ∙ ap (λ (l : List (Option RegBlock)). get_or l v (block_for b no_vcpu.cp0)) (sym (joined-blocks b m v))
    ∙ block-past b (joined m v).vcpus v

-- the page is open to the processor exactly where it is to the guest
pub opens-alike : (s : GuestState) (p v : ℕ) → Mirrors s → (vcpu_of s v).halted ≡ false → is_open (content (with_inputs s v)) v ≡ is_open_to (sight (with_inputs s v) p v)
opens-alike s p v mirrors running =
    let c = vcpu_of (with_inputs s v) v in
    let b = has_page s.around.profile in
    ap (λ (z : Bool). z && not (in_user_mode c.cp0.status)) (sym (ap is_some (runs-block s v mirrors running) ∙ has-block b c.cp0))

pub and-left : (a b : Bool) → (a && b) ≡ true → a ≡ true
and-left true b e = refl
and-left false b e = absurd (true≢false (sym e))

-- and there it is its registers'
pub shows-it : (s : GuestState) (p v : ℕ) → Mirrors s → (vcpu_of s v).halted ≡ false → Shows s p v
shows-it s p v mirrors running is_open =
    let c = (vcpu_of (with_inputs s v) v).cp0 in
    let here : has_page s.around.profile ≡ true = and-left (has_page s.around.profile) _ (opens-alike s p v mirrors running ∙ is_open) in
    runs-block s v mirrors running ∙ ap (λ (b : Bool). block_for b c) here

-- what a step asks is of memory or of the page
pub asks-page : (s t : GuestState) (p v : ℕ) → (row : Steps s p v t) → OfPage (is_open_to (sight (with_inputs s v) p v)) row.done.does.request
asks-page s t p v row =
    let u = with_inputs s v in
    let x = sight u p v in
    let regs = (vcpu_of u v).registers in
    let ran = ran-ok x u.pages regs row.done row.does in
    let memory = unprivileged (word_through u.pages (at_half ran.fetched_by) regs.pc) regs ran.raw ran.not_privileged ran.does_it in
    subst (λ (z : Effect). OfPage (is_open_to x) z.request) (sym ran.asks_it) (page-asked (is_open_to x) ran.raw.request memory)

-- and what it writes there is a word that the page takes
word-taken : (block : Option RegBlock) (user : Bool) (r : Request) → OfPage (is_some block && not user) r → IsTaken block r
word-taken block user asks.Nothing is = tt
word-taken block user (asks.Load kind address target) is = tt
word-taken block user (asks.Store kind address value) is = tt
word-taken block user (asks.LoadLinked address target) is = tt
word-taken block user (asks.StoreConditional address value target) is = tt
word-taken block user (asks.ReadCp0 number target) is = tt
word-taken block user (asks.WriteCp0 number value) is = (and-left (is_some block) (not user) is.0, is.1)
word-taken block user (asks.System op) is = tt

pub words-taken : (s t : GuestState) (p v : ℕ) → (row : Steps s p v t) → IsTaken (block_at s v) row.done.does.request
words-taken s t p v row = word-taken (block_at s v) (sight (with_inputs s v) p v).user row.done.does.request (asks-page s t p v row)

pub steps-content : (s t : GuestState) (p v : ℕ) → Consistent s → Mirrors s → Steps s p v t → content t ≡ own_step (content s) v
steps-content s t p v co mirrors row =
    steps_content s t p v co row (shows-it s p v mirrors row.runs.running) (opens-alike s p v mirrors row.runs.running) (asks-page s t p v row)
