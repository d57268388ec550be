-- What a text is assembled to, by what is said of each line.
use Rattle.std.proofs.Common.{◌≡◌, ◌∙◌, ℕ, zero, suc, ◌+◌, ◌-◌, ◌<◌, List, length, Option, Some, None, Result, Ok, Err, ap, ap₂, sym, refl, arith, inl, inr}
use Rattle.std.specs.Option.{option_or}
use Rattle.std.proofs.lemmas.Bool.{cases_lt}
use Rattle.guest_asm.specs.declared.fault.AsmCause.{AsmCause}
use Rattle.guest_asm.specs.declared.fault.AsmFault.{AsmFault}
use Rattle.guest_asm.specs.declared.fault.AsmFault.TheVariants as fault
use Rattle.guest_asm.specs.declared.assembled.Assembled.{Assembled}
use Rattle.guest_asm.specs.Lines.{lines_of}
use Rattle.guest_asm.specs.Causes.{line_word, IsFirstFault}
use Rattle.guest_asm.specs.Assembled.{IsAccepted, IsAssembled, Assembles}
use Rattle.guest_asm.specs.Assembly.{Assembly, RefusedLine, refused_at, first_refused, assembly_in, unless_refused, assembly_of, assembly_seen, IsAnswer}

-- a line that isn't refused
passes : (i : ℕ) (found : Result (Option ℕ) AsmCause) → ((cause : AsmCause) → found ≡ Err cause → ⊥) → refused_at i found ≡ None
passes i (Ok word) never = refl
passes i (Err cause) never = absurd (never cause refl)

-- of the first lines none is refused
pub none_refused : (lines : List (List ℕ)) (n : ℕ) → ((k : ℕ) → k < n → (cause : AsmCause) → line_word lines k ≡ Err cause → ⊥) → first_refused lines n ≡ None
unfolding first_refused
none_refused lines zero never = refl
none_refused lines (suc i) never =
    let before : first_refused lines i ≡ None = none_refused lines i (λ k lt. never k (omega arith)) in
    let here : refused_at i (line_word lines i) ≡ None = passes i (line_word lines i) (never i (omega arith)) in
    ap₂ option_or before here

-- a line is refused, and none before it
pub some_refused : (lines : List (List ℕ)) (n m : ℕ) (cause : AsmCause) → m < n → line_word lines m ≡ Err cause
    → ((k : ℕ) → k < m → (other : AsmCause) → line_word lines k ≡ Err other → ⊥) → first_refused lines n ≡ Some (record { line = m + 1; cause = cause })
unfolding first_refused
some_refused lines zero m cause within found never = absurd (omega arith)
some_refused lines (suc i) m cause within found never =
    elim (cases_lt m i) [
      | inl lower ↦
          let before : first_refused lines i ≡ Some (record { line = m + 1; cause = cause }) = some_refused lines i m cause lower found never in
          ap (λ (o : Option RefusedLine). option_or o (refused_at i (line_word lines i))) before
      | inr last ↦
          let same : i ≡ m = omega arith in
          let before : first_refused lines i ≡ None = none_refused lines i (λ k lt. never k (omega arith)) in
          let here : refused_at i (line_word lines i) ≡ Some (record { line = m + 1; cause = cause }) = rw same (ap (refused_at m) found) in
          ap₂ option_or before here
    ]

-- a text of which no line is refused
answered : (text : List ℕ) (assembled : Assembled) → IsAssembled (lines_of text) assembled → assembly_of text ≡ Ok (assembly_seen assembled)
unfolding assembly_of
answered text assembled is =
    let none : first_refused (lines_of text) (length (lines_of text)) ≡ None = none_refused (lines_of text) (length (lines_of text)) is.accepted in
    ap (λ (o : Option RefusedLine). unless_refused o (assembly_in (lines_of text))) none
    ∙ ap Ok (λ i. record { words = sym is.words i; entry = sym is.entry i; image = sym is.image i })

-- a text of which a line is refused
refused : (text : List ℕ) (line : ℕ) (cause : AsmCause) → (0 < line) × IsFirstFault (lines_of text) (line - 1) cause → assembly_of text ≡ Err (record { line = line; cause = cause })
unfolding assembly_of
refused text line cause is =
    let found = some_refused (lines_of text) (length (lines_of text)) (line - 1) cause is.1.within is.1.holds is.1.least in
    let number : line - 1 + 1 ≡ line = (let above : 0 < line = is.0 in omega arith) in
    ap (λ (o : Option RefusedLine). unless_refused o (assembly_in (lines_of text))) (found ∙ ap (λ (n : ℕ). Some (record { line = n; cause = cause })) number)

-- what is said of each line says what the text is assembled to
pub IsAnswer-from : (text : List ℕ) (result : Result Assembled AsmFault) → Assembles text result → IsAnswer (assembly_of text) result
IsAnswer-from text (Ok assembled) is = answered text assembled is
IsAnswer-from text (Err (fault.Line line cause)) is = refused text line cause is
IsAnswer-from text (Err fault.Memory) is = tt

-- a text that is assembled has no line that is refused
first_passes : (before : Option RefusedLine) (i : ℕ) (found : Result (Option ℕ) AsmCause) (cause : AsmCause) → option_or before (refused_at i found) ≡ None → found ≡ Err cause → ⊥
first_passes None i found cause none is =
    let here : refused_at i (Err cause) ≡ None = ap (refused_at i) (sym is) ∙ none in
    cc
first_passes (Some refused) i found cause none is = cc

none_before : (before at : Option RefusedLine) → option_or before at ≡ None → before ≡ None
none_before None at none = refl
none_before (Some refused) at none = none

none-accepted : (lines : List (List ℕ)) (n : ℕ) → first_refused lines n ≡ None → (k : ℕ) → k < n → (cause : AsmCause) → line_word lines k ≡ Err cause → ⊥
unfolding first_refused
none-accepted lines zero none k lt cause is = absurd (omega arith)
none-accepted lines (suc i) none k lt cause is =
    elim (cases_lt k i) [
      | inl lower ↦ none-accepted lines i (none_before (first_refused lines i) (refused_at i (line_word lines i)) none) k lower cause is
      | inr last ↦
          let same : k ≡ i = omega arith in
          first_passes (first_refused lines i) i (line_word lines i) cause none (sym (ap (line_word lines) same) ∙ is)
    ]

by_refusal : (lines : List (List ℕ)) (found : Option RefusedLine) (assembly : Assembly) → first_refused lines (length lines) ≡ found → unless_refused found (assembly_in lines) ≡ Ok assembly
    → IsAccepted lines × (assembly_in lines ≡ assembly)
by_refusal lines None assembly none is = (none-accepted lines (length lines) none, cc)
by_refusal lines (Some refused) assembly some is = absurd (cc)

pub accepted-from : (text : List ℕ) (assembly : Assembly) → assembly_of text ≡ Ok assembly → IsAccepted (lines_of text) × (assembly_in (lines_of text) ≡ assembly)
unfolding assembly_of
accepted-from text assembly is = by_refusal (lines_of text) (first_refused (lines_of text) (length (lines_of text))) assembly refl is
