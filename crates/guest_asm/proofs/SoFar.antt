-- The words of the first lines, none of which is refused.
use Rattle.std.proofs.Common.{◌≡◌, ◌∙◌, ℕ, ◌+◌, ◌-◌, ◌*◌, ◌<◌, ◌≤◌, List, [], ◌∷◌, ◌++◌, append-nil, length, Option, Some, None, Result, Ok, Err, ap, sym, subst, refl, arith, below_more}
use Rattle.guest_asm.specs.declared.fault.AsmCause.{AsmCause}
use Rattle.guest_asm.specs.declared.fault.AsmFault.{AsmFault}
use Rattle.guest_asm.specs.declared.fault.LineFault.{LineFault}
use Rattle.guest_asm.specs.declared.fault.LineFault.TheVariants as refused
use Rattle.guest_asm.specs.declared.labels.Labels.{Labels}
use Rattle.guest_asm.specs.declared.assembled.Placed.{Placed}
use Rattle.guest_asm.specs.Lines.{label_of, line_at}
use Rattle.guest_asm.specs.Addresses.{start, end, address_of, behind}
use Rattle.guest_asm.specs.Sites.{site_in, address_in, IsKept, Answers}
use Rattle.guest_asm.specs.Causes.{begins_outside, stands_before_in, line_word, line_word_in, IsFirstFault, fault_of}
use Rattle.guest_asm.specs.Assembled.{placed_at, words_below, IsAccepted, WordsOf}
use Rattle.guest_asm.specs.Image.{AreInOrder}
use Rattle.guest_asm.proofs.Kept.{address_more}
use Rattle.guest_asm.proofs.Onward.{behind-within}
use Rattle.guest_asm.proofs.Puts.{puts-behind}
use Rattle.guest_asm.proofs.Ordered.{Ordered, Ordered-on, Ordered-push, AreInOrder-from}
use Rattle.guest_asm.proofs.LineWords.{line_word-is, words_more}

pub record SoFar (lines : List (List ℕ)) (n address : ℕ) (placed : List Placed) : Type 0 where
  pub there : address ≡ address_of lines n
  pub bound : address ≤ end + 4 * n
  pub accepted : (k : ℕ) → k < n → (cause : AsmCause) → line_word lines k ≡ Err cause → ⊥
  pub words : placed ≡ words_below lines n
  pub ordered : Ordered start placed address

-- the words with one more, if there is one
pub ordered-more : (words : List Placed) (address next : ℕ) (word : Option ℕ) → address ≤ next → ((w : ℕ) → word ≡ Some w → next ≡ address + 4)
    → Ordered start words address → Ordered start (words ++ placed_at address (Ok word)) next
ordered-more words address next None on puts o = subst (λ (ws : List Placed). Ordered start ws next) (sym (append-nil words)) (Ordered-on start words address next on o)
ordered-more words address next (Some w) on puts o =
    let far : next ≡ address + 4 = puts w refl in
    let placed : Placed = record { address = address; word = w } in
    Ordered-on start (words ++ placed ∷ []) (address + 4) next (omega arith) (Ordered-push start words address placed (omega arith) o)

-- one more line that isn't refused
pub SoFar-more : (lines : List (List ℕ)) (labels : Labels) (n address next : ℕ) (line : List ℕ) (word : Option ℕ) (before after : List Placed)
    → IsKept lines labels → n < length lines → line ≡ line_at lines n → SoFar lines n address before
    → line_word_in (site_in labels) (address_in labels) n address line ≡ Ok word
    → after ≡ before ++ placed_at address (Ok word) → next ≡ behind address line → SoFar lines (n + 1) next after
SoFar-more lines labels n address next line word before after kept in_text is so_far found puts on =
    let here : line_word lines n ≡ Ok word = sym (line_word-is lines labels n address line kept so_far.there is) ∙ found in
    let high : end ≤ end + 4 * n = omega arith in
    let within : (address ≤ behind address line) × (behind address line ≤ end + 4 * n + 4) = behind-within address (end + 4 * n) line so_far.bound high in
    let rises : address ≤ next = rw on within.0 in
    let four : (w : ℕ) → word ≡ Some w → next ≡ address + 4 = λ w e. on
    ∙ puts-behind (address_in labels) address line (stands_before_in (site_in labels) (label_of line) n) (begins_outside address (label_of line)) w (found ∙ ap Ok e) in
    record {
      there = on ∙ ap (λ (a : ℕ). behind a line) so_far.there ∙ ap (behind (address_of lines n)) is ∙ sym (address_more lines n in_text);
      bound = rw on (let reach : behind address line ≤ end + 4 * n + 4 = within.1 in omega arith);
      accepted = below_more (λ (k : ℕ). (cause : AsmCause) → line_word lines k ≡ Err cause → ⊥) n so_far.accepted
          (λ cause e. let differ : Ok word ≡ Err cause = sym here ∙ e in cc);
      words = puts ∙ ap (λ (ws : List Placed). ws ++ placed_at address (Ok word)) so_far.words
          ∙ ap (λ (a : ℕ). words_below lines n ++ placed_at a (Ok word)) so_far.there
          ∙ ap (λ (r : Result (Option ℕ) AsmCause). words_below lines n ++ placed_at (address_of lines n) r) (sym here)
          ∙ sym (words_more lines n);
      ordered = subst (λ (ws : List Placed). Ordered start ws next) (sym puts) (ordered-more before address next word rises four so_far.ordered);
    }

first-at : (lines : List (List ℕ)) (n m : ℕ) (cause : AsmCause) → m ≡ n → n < length lines → line_word lines n ≡ Err cause
    → ((k : ℕ) → k < n → (other : AsmCause) → line_word lines k ≡ Err other → ⊥) → IsFirstFault lines m cause
first-at lines n m cause same in_text found accepted = subst (λ (k : ℕ). IsFirstFault lines k cause) (sym same) (record { within = in_text; holds = found; least = accepted })

-- a line that is refused
pub SoFar-refused : (lines : List (List ℕ)) (labels : Labels) (n address : ℕ) (line : List ℕ) (before : List Placed) (why : LineFault) (told : AsmFault)
    → IsKept lines labels → n < length lines → line ≡ line_at lines n → SoFar lines n address before
    → Answers (line_word_in (site_in labels) (address_in labels) n address line) (Err why) → told ≡ fault_of n why → WordsOf lines (Err told)
SoFar-refused lines labels n address line before (refused.Cause cause) told kept in_text is so_far found tells =
    let here : line_word lines n ≡ Err cause = sym (line_word-is lines labels n address line kept so_far.there is) ∙ found in
    let number : n + 1 - 1 ≡ n = omega arith in
    subst (λ (f : AsmFault). WordsOf lines (Err f)) (sym tells) (omega arith, first-at lines n (n + 1 - 1) cause number in_text here so_far.accepted)
SoFar-refused lines labels n address line before refused.Memory told kept in_text is so_far found tells =
    subst (λ (f : AsmFault). WordsOf lines (Err f)) (sym tells) tt

-- all lines
pub SoFar-all : (lines : List (List ℕ)) (n address : ℕ) (words : List Placed) → n ≡ length lines → SoFar lines n address words
    → IsAccepted lines × (words ≡ words_below lines (length lines)) × AreInOrder start words
SoFar-all lines n address words whole so_far = (
  λ k lt. so_far.accepted k (let all : n ≡ length lines = whole in omega arith),
  so_far.words ∙ ap (words_below lines) whole,
  AreInOrder-from start words address so_far.ordered,
)
