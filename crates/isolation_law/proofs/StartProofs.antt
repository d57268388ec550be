-- The start is coherent, and its content is the private machine's at the start.
use Rattle.base_words.specs.Limits.{most_processors}
use Rattle.private_machine.specs.Operation.{Operation}
use Rattle.isolation_law.specs.Phases.{GoesOn, all_halted}
use Rattle.std.proofs.Common.{◌≡◌, ◌≤◌, ℕ, zero, suc, ◌*◌, ◌<◌, cond, Some, None, List, [], ◌∷◌, ◌++◌, length, map, get_or, replicate, take, drop, refl, sym, ap, ◌∙◌, subst, arith, inl, inr, Option}
use Rattle.std.proofs.lemmas.List.{get_or-map, length-map, length-replicate, length-take-le, length-drop, take-append-drop}
use Rattle.std.proofs.lemmas.List.Sums.{sum_by-cons}
use Rattle.std.specs.Prelude.{count_by, flat_map}
use Rattle.base_words.specs.declared.events.End.TheVariants.{Halted}
use Rattle.std.specs.Prelude.{if◌then◌else◌}
use Rattle.private_machine.specs.Vcpu.{started}
use Rattle.base_words.specs.Halves.{Half}
use Rattle.base_words.specs.Membership.{Has}
use Rattle.private_machine.specs.Backing.{Page, no_page}
use Rattle.private_machine.specs.SecondLevel.{Second, no_seconds}
use Rattle.isolation_law.specs.Coherence.{Consistent}
use Rattle.isolation_law.specs.PageRules.{needs_spare, BlockRule, PageRule, sources, Sources}
use Rattle.private_machine.specs.Disk.{block_now}
use Rattle.isolation_law.specs.Content.{content}
use Rattle.private_machine.specs.Disk.{no_block}
use Rattle.isolation_law.specs.GuestState.{idle, page, processor, operation_of}
use Rattle.isolation_law.specs.Parts.{Processor}
use Rattle.private_machine.specs.Disk.{as_given}
use Rattle.isolation_law.specs.Start.{Found, Boot, page_at_start, pages_at_start, start, IsBoot, private_start}

-- each of many equal ones, and the one past the end
pub all_same : {A : Type 0} (n p : ℕ) (x : A) → get_or (replicate n x) p x ≡ x
all_same zero p x = refl
all_same (suc n) zero x = refl
all_same (suc n) (suc p) x = all_same n p x

-- the pages
pub count-pages : (fs : List Found) (memory : List ℕ) → length (pages_at_start fs memory) ≡ length fs
count-pages [] memory = refl
count-pages (f ∷ fs) memory = ap suc (count-pages fs (drop 4096 memory))

shorter : (k : ℕ) (memory : List ℕ) → length memory ≡ 4096 * suc k → length (drop 4096 memory) ≡ 4096 * k
shorter k memory whole = let cut = length-drop 4096 memory in omega arith

pages-rule : (from : Sources) (n : ℕ) (fs : List Found) (memory : List ℕ) (q : ℕ) → n ≤ most_processors → length memory ≡ 4096 * length fs → q < length (pages_at_start fs memory)
    → (op : Option Operation) → PageRule from n op (get_or (pages_at_start fs memory) q no_page)
pages-rule from n [] memory q few whole lt op = absurd (omega arith)
pages-rule from n (f ∷ fs) memory zero few whole lt op =
    record { whole = length-take-le 4096 memory (omega arith); equal = λ c has. absurd has; single = λ shared. refl; moves = tt; sized = few }
pages-rule from n (f ∷ fs) memory (suc q) few whole lt op = pages-rule from n fs (drop 4096 memory) q few (shorter (length fs) memory whole) (omega arith) op

no_needs : (fs : List Found) (memory : List ℕ) → count_by needs_spare (pages_at_start fs memory) ≡ 0
no_needs [] memory = refl
no_needs (f ∷ fs) memory =
    sum_by-cons (λ g. cond {A = ℕ} (needs_spare g) 1 0) (page_at_start f (take 4096 memory)) (pages_at_start fs (drop 4096 memory))
    ∙ (let rest = no_needs fs (drop 4096 memory) in omega arith)

all-bytes : (fs : List Found) (memory : List ℕ) → length memory ≡ 4096 * length fs → flat_map (λ (g : Page). g.master.bytes) (pages_at_start fs memory) ≡ memory
all-bytes [] [] whole = refl
all-bytes [] (x ∷ memory) whole = absurd (omega arith)
all-bytes (f ∷ fs) memory whole =
    ap (λ (l : List ℕ). take 4096 memory ++ l) (all-bytes fs (drop 4096 memory) (shorter (length fs) memory whole)) ∙ take-append-drop 4096 memory

-- the disk
now-given : (disk : List (List ℕ)) → map block_now (map as_given disk) ≡ disk
now-given [] = refl
now-given (x ∷ disk) = ap (λ (l : List (List ℕ)). x ∷ l) (now-given disk)

blocks-rule : (disk : List (List ℕ)) (k : ℕ) → ((k : ℕ) → k < length disk → length (get_or disk k []) ≡ 4096) → k < length (map as_given disk) → BlockRule (get_or (map as_given disk) k no_block)
blocks-rule disk k whole lt =
    let within : k < length disk = rw length-map at lt in
    subst BlockRule (sym (get_or-map as_given disk k [] no_block within)) (record { given_whole = whole k within; whole = whole k within })

some-none : {A : Type 0} (x : A) → None ≡ Some x → ⊥
some-none x e = cc

-- no second-level entries
none-at : (k : ℕ) (e : Second) → Has (replicate k None) (Some e) → ⊥
none-at zero e has = has
none-at (suc k) e has = elim has [ inl is ↦ cc | inr later ↦ none-at k e later ]

no-second : (n v : ℕ) (e : Second) → Has (get_or (replicate n no_seconds) v []) (Some e) → ⊥
no-second zero v e has = has
no-second (suc n) zero e has = none-at 512 e has
no-second (suc n) (suc v) e has = no-second n v e has

pub start_coherent : (b : Boot) → IsBoot b → Consistent (start b)
start_coherent b is =
    let s = start b in
    let n = length b.around.processors in
    let whole : length b.image.memory ≡ 4096 * length b.frames = is.whole ∙ ap (λ k. 4096 * k) (sym is.backed) in
    let still : (p : ℕ) → processor s p ≡ idle = λ p. all_same n p idle in
    let none : (p : ℕ) (h : Half) → Has (processor s p).tlb h → ⊥ = λ p h has. subst (λ (x : Processor). Has x.tlb h) (still p) has in
    record {
      by_page = λ q lt. subst (λ k. PageRule (sources s) k (operation_of s q) (page s q)) (sym (length-replicate n idle)) (pages-rule (sources s) n b.frames b.image.memory q is.few_processors whole lt (operation_of s q));
      as_many = length-replicate (length b.frames) None ∙ sym (count-pages b.frames b.image.memory);
      within = λ p h has. absurd (none p h has);
      on_page = λ p h has. absurd (none p h has);
      in_tlb = λ p v h has. absurd (none p h has);
      exact = λ p v h has. absurd (none p h has);
      empty = λ p free. ap (λ (x : Processor). x.tlb) (still p);
      once = λ p r v mine other. absurd (some-none v (sym (ap (λ (x : Processor). x.loaded) (still p)) ∙ mine));
      rests = λ v e has. absurd (no-second b.vcpus v e has);
      by_second = λ v e has. absurd (no-second b.vcpus v e has);
      enough = rw (no_needs b.frames b.image.memory) (omega arith);
      blocks = λ k lt. blocks-rule b.disk k is.blocks lt;
      armed_page = λ q armed. absurd (some-none q armed);
      packet = λ x hand. absurd (some-none x hand);
    }

pub start_content : (b : Boot) → IsBoot b → content (start b) ≡ private_start b
start_content b is =
    let whole : length b.image.memory ≡ 4096 * length b.frames = is.whole ∙ ap (λ k. 4096 * k) (sym is.backed) in
    let pages : length (pages_at_start b.frames b.image.memory) ≡ b.image.pages = count-pages b.frames b.image.memory ∙ is.backed in
    λ i. record (private_start b) { pages = pages i; memory = all-bytes b.frames b.image.memory whole i; disk = now-given b.disk i }

-- its virtual processors run
pub start_goes_on : (b : Boot) → IsBoot b → GoesOn (start b)
start_goes_on b is = record { not_ended = refl; owes_no_end = by b.vcpus is.has_vcpu }
  where
    by : (n : ℕ) → 0 < n → (if all_halted (replicate n (started b.image.entry)) then Some Halted else None) ≡ None
    by zero some = absurd (omega arith)
    by (suc n) some = refl
