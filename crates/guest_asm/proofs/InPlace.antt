-- Where the words of lines stand, none of which is refused, and where the run begins.
use Rattle.std.proofs.Common.{◌≡◌, ◌∙◌, ℕ, zero, suc, ◌+◌, ◌%◌, ◌<◌, ◌≤◌, Bool, true, false, cond, ltb, eqb, List, [], ◌∷◌, ◌++◌, length, take, get_or, codes, Option, Some, None, Result, Ok, Err, ap, sym, subst, refl, arith, inl, inr}
use Rattle.std.specs.Prelude.{All}
use Rattle.std.specs.Option.{option_map, unwrap_or}
use Rattle.std.specs.List.{fold, position}
use Rattle.std.proofs.lemmas.Bool.{cond_both, cases_lt, le-leb, ltb-true}
use Rattle.std.proofs.lemmas.List.Elements.{All-nil, All-append, All-cons}
use Rattle.std.proofs.lemmas.List.Quantifiers.{position-Some}
use Rattle.guest_asm.specs.declared.fault.AsmCause.{AsmCause}
use Rattle.guest_asm.specs.declared.fault.AsmCause.TheVariants as cause
use Rattle.guest_asm.specs.declared.assembled.Placed.{Placed}
use Rattle.guest_asm.specs.declared.mnemonics.Operation.{Operation}
use Rattle.guest_asm.specs.declared.mnemonics.Operation.TheVariants as operation
use Rattle.guest_asm.specs.declared.statement.Statement.{Statement}
use Rattle.guest_asm.specs.Lines.{label_of, line_at, statement_of}
use Rattle.guest_asm.specs.Statements.{statement_on}
use Rattle.guest_asm.specs.Values.{value_of, is_unlabelled}
use Rattle.guest_asm.specs.Words.{statement_word}
use Rattle.guest_asm.specs.Addresses.{start, end, may_move, moved, moved_by, origin_on, is_origin_in, behind, address_of, has_name, label_address, entry_of}
use Rattle.guest_asm.specs.Causes.{stands_before, begins_outside, placed_word, with_value, with_label, with_statement, line_word}
use Rattle.guest_asm.specs.Assembled.{placed_at, words_below, IsAccepted}
use Rattle.guest_asm.proofs.Kept.{address_more}
use Rattle.guest_asm.proofs.LineWords.{words_more}
use Rattle.guest_asm.proofs.Onward.{behind-within, may_move-aligned}
use Rattle.guest_asm.proofs.Ordered.{Ordered}
use Rattle.guest_asm.proofs.Puts.{puts-behind}
use Rattle.guest_asm.proofs.SoFar.{ordered-more}

-- ---- addresses are multiples of 4, from the first one on

abbrev IsAligned : ℕ → Type 0
IsAligned address = (start ≤ address) × (address % 4 ≡ 0)

moved-aligned : (address : ℕ) (to : Option ℕ) → IsAligned address → IsAligned (moved address to)
moved-aligned address None is = is
moved-aligned address (Some to) is = cond_both (may_move address to) to address IsAligned
    (λ may. let r : (to % 4 ≡ 0) × (address ≤ to) = may_move-aligned address to may in (omega (arith, is.0, r.1), r.0))
    (λ no. is)

moved_by-aligned : (address : ℕ) (asked : Result (Option Statement) AsmCause) → IsAligned address → IsAligned (moved_by address asked)
moved_by-aligned address (Err why) is = is
moved_by-aligned address (Ok None) is = is
moved_by-aligned address (Ok (Some statement)) is = moved-aligned address (value_of statement.fields.given address) is

behind-aligned : (address : ℕ) (line : List ℕ) → IsAligned address → IsAligned (behind address line)
unfolding behind
behind-aligned address line is =
    cond_both (eqb (length (statement_of line)) 0) address (cond (is_origin_in (statement_of line)) (moved_by address (origin_on line)) (address + 4)) IsAligned
    (λ none. is)
    (λ some. cond_both (is_origin_in (statement_of line)) (moved_by address (origin_on line)) (address + 4) IsAligned
    (λ moves. moved_by-aligned address (origin_on line) is)
    (λ stays. let low : start ≤ address = is.0 in let four : address % 4 ≡ 0 = is.1 in (omega arith, omega arith)))

fold-aligned : (address : ℕ) (lines : List (List ℕ)) → IsAligned address → IsAligned (fold behind address lines)
fold-aligned address [] is = is
fold-aligned address (line ∷ lines) is = fold-aligned (behind address line) lines (behind-aligned address line is)

address-aligned : (lines : List (List ℕ)) (i : ℕ) → IsAligned (address_of lines i)
address-aligned lines i = fold-aligned start (take i lines) (omega arith, refl)

-- ---- a word has its place below the end

abbrev IsBelow : ℕ → Result (Option ℕ) AsmCause → Type 0
IsBelow address (Ok (Some word)) = address < end
IsBelow address (Ok None) = Unit {0}
IsBelow address (Err why) = Unit {0}

placed_word-below : (address : ℕ) (op : Operation) (word to : ℕ) → IsBelow address (placed_word address op word to)
placed_word-below address operation.Origin word to = cond_both (may_move address to) (Ok None) (Err cause.Place) (IsBelow address) (λ may. tt) (λ no. tt)
placed_word-below address op word to = cond_both (ltb address end) (Ok (Some word)) (Err cause.Place) (IsBelow address) (λ below. ltb-true address end below) (λ no. tt)

with_value-below : (address : ℕ) (outside : Bool) (statement : Statement) (value : Option ℕ) → IsBelow address (with_value address outside statement value)
with_value-below address outside statement None = tt
with_value-below address true statement (Some value) = tt
with_value-below address false statement (Some value) = placed_word-below address statement.operation (statement_word statement.operation statement.fields value) value

with_label-below : (address : ℕ) (outside : Bool) (statement : Option Statement) → IsBelow address (with_label address outside statement)
with_label-below address true None = tt
with_label-below address false None = tt
with_label-below address outside (Some statement) =
    cond_both (is_unlabelled statement.fields.given.source) (Err cause.Label) (with_value address outside statement (value_of statement.fields.given address)) (IsBelow address)
    (λ none. tt) (λ some. with_value-below address outside statement (value_of statement.fields.given address))

with_statement-below : (address : ℕ) (twice outside : Bool) (found : Result (Option Statement) AsmCause) → IsBelow address (with_statement address twice outside found)
with_statement-below address twice outside (Err why) = tt
with_statement-below address true outside (Ok statement) = tt
with_statement-below address false outside (Ok statement) = with_label-below address outside statement

line_word-below : (lines : List (List ℕ)) (i word : ℕ) → line_word lines i ≡ Ok (Some word) → address_of lines i < end
unfolding line_word
line_word-below lines i word is = subst (IsBelow (address_of lines i)) is (with_statement-below (address_of lines i) _ _ _)

-- ---- the words of the first lines

abbrev pub HasPlace : Placed → Type 0
HasPlace placed = placed.address + 4 ≤ end

pub record ArePlaced (lines : List (List ℕ)) (n : ℕ) : Type 0 where
  pub ordered : Ordered start (words_below lines n) (address_of lines n)
  pub places : All HasPlace (words_below lines n)

line_word-puts : (lines : List (List ℕ)) (i word : ℕ) → line_word lines i ≡ Ok (Some word) → behind (address_of lines i) (line_at lines i) ≡ address_of lines i + 4
unfolding line_word
line_word-puts lines i word is =
    puts-behind (label_address lines) (address_of lines i) (line_at lines i) (stands_before (take i lines) (label_of (line_at lines i))) (begins_outside (address_of lines i) (label_of (line_at lines i))) word is

one-placed : (lines : List (List ℕ)) (i : ℕ) (found : Result (Option ℕ) AsmCause) → line_word lines i ≡ found → i < length lines → ((why : AsmCause) → line_word lines i ≡ Err why → ⊥) → ArePlaced lines i → ArePlaced lines (i + 1)
one-placed lines i (Err why) is there never before = absurd (never why is)
one-placed lines i (Ok word) is there never before =
    let more : words_below lines (i + 1) ≡ words_below lines i ++ placed_at (address_of lines i) (Ok word) =
    words_more lines i ∙ ap (λ (r : Result (Option ℕ) AsmCause). words_below lines i ++ placed_at (address_of lines i) r) is in
    let next : address_of lines (i + 1) ≡ behind (address_of lines i) (line_at lines i) = address_more lines i there in
    let within : (address_of lines i ≤ behind (address_of lines i) (line_at lines i)) × (behind (address_of lines i) (line_at lines i) ≤ end + address_of lines i + 4) =
    behind-within (address_of lines i) (end + address_of lines i) (line_at lines i) (omega arith) (omega arith) in
    let on : address_of lines i ≤ address_of lines (i + 1) = rw next within.0 in
    record {
      ordered = subst (λ (ws : List Placed). Ordered start ws (address_of lines (i + 1))) (sym more)
          (ordered-more (words_below lines i) (address_of lines i) (address_of lines (i + 1)) word on (λ w e. next ∙ line_word-puts lines i w (is ∙ ap Ok e)) before.ordered);
      places = subst (All HasPlace) (sym more) (All-append HasPlace (words_below lines i) (placed_at (address_of lines i) (Ok word)) before.places (at word is));
    }
  where
    at : (word : Option ℕ) → line_word lines i ≡ Ok word → All HasPlace (placed_at (address_of lines i) (Ok word))
    at None is = All-nil HasPlace
    at (Some w) is =
        let below : address_of lines i < end = line_word-below lines i w is in
        let four : address_of lines i % 4 ≡ 0 = (address-aligned lines i).1 in
        All-cons HasPlace (record { address = address_of lines i; word = w }) [] (omega arith) (All-nil HasPlace)

pub words-placed : (lines : List (List ℕ)) → IsAccepted lines → (n : ℕ) → n ≤ length lines → ArePlaced lines n
words-placed lines accepted zero within = record { ordered = omega arith; places = All-nil HasPlace }
words-placed lines accepted (suc i) within =
    let more : ArePlaced lines (i + 1) = one-placed lines i (line_word lines i) refl (omega arith) (accepted i (omega arith)) (words-placed lines accepted i (omega arith)) in
    let same : i + 1 ≡ suc i = omega arith in
    subst (ArePlaced lines) same more

-- ---- the entry

abbrev IsRefused : Result (Option ℕ) AsmCause → Type 0
IsRefused found = (why : AsmCause) × (found ≡ Err why)

-- the label `start` behind the last place is refused
outside-value : (address : ℕ) (statement : Statement) (value : Option ℕ) → IsRefused (with_value address true statement value)
outside-value address statement None = (cause.Range, refl)
outside-value address statement (Some value) = (cause.Place, refl)

outside-label : (address : ℕ) (statement : Option Statement) → IsRefused (with_label address true statement)
outside-label address None = (cause.Place, refl)
outside-label address (Some statement) =
    cond_both (is_unlabelled statement.fields.given.source) (Err cause.Label) (with_value address true statement (value_of statement.fields.given address)) IsRefused
    (λ none. (cause.Label, refl)) (λ some. outside-value address statement (value_of statement.fields.given address))

outside-statement : (address : ℕ) (twice : Bool) (found : Result (Option Statement) AsmCause) → IsRefused (with_statement address twice true found)
outside-statement address twice (Err why) = (why, refl)
outside-statement address true (Ok statement) = (cause.Twice, refl)
outside-statement address false (Ok statement) = outside-label address statement

outside-refused : (lines : List (List ℕ)) (i : ℕ) → begins_outside (address_of lines i) (label_of (line_at lines i)) ≡ true → IsRefused (line_word lines i)
unfolding line_word
outside-refused lines i outside =
    subst (λ (b : Bool). IsRefused (with_statement (address_of lines i) (stands_before (take i lines) (label_of (line_at lines i))) b (statement_on (label_address lines) (line_at lines i)))) (sym outside)
    (outside-statement (address_of lines i) (stands_before (take i lines) (label_of (line_at lines i))) (statement_on (label_address lines) (line_at lines i)))

-- an instruction may stand there
abbrev pub IsEntry : ℕ → Type 0
IsEntry entry = (start ≤ entry) × (entry % 4 ≡ 0) × (entry < end)

line-entry : (lines : List (List ℕ)) (i : ℕ) → IsAccepted lines → i < length lines → has_name (codes "start") (line_at lines i) ≡ true → IsEntry (address_of lines i)
line-entry lines i accepted there named =
    let aligned : IsAligned (address_of lines i) = address-aligned lines i in
    elim (cases_lt (address_of lines i) end) [
      | inl below ↦ (aligned.0, aligned.1, below)
      | inr above ↦
          let outside : begins_outside (address_of lines i) (label_of (line_at lines i)) ≡ true = rw (named, le-leb end (address_of lines i) above) refl in
          let no : IsRefused (line_word lines i) = outside-refused lines i outside in
          absurd (accepted i there no.0 no.1)
    ]

entry-by : (lines : List (List ℕ)) (found : Option ℕ) → IsAccepted lines → position (has_name (codes "start")) lines ≡ found → IsEntry (unwrap_or (option_map (λ i. address_of lines i) found) start)
entry-by lines None accepted is = (omega arith, refl, omega arith)
entry-by lines (Some i) accepted is =
    let there : (i < length lines) × (has_name (codes "start") (get_or lines i []) ≡ true) × ((k : ℕ) → k < i → has_name (codes "start") (get_or lines k []) ≡ false) =
    position-Some (has_name (codes "start")) lines i [] is in
    line-entry lines i accepted there.0 there.1

pub entry-is : (lines : List (List ℕ)) → IsAccepted lines → IsEntry (entry_of lines)
entry-is lines accepted = entry-by lines (position (has_name (codes "start")) lines) accepted refl
