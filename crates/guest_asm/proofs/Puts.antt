-- A line that puts a word is four bytes long.
use Rattle.std.proofs.Common.{◌≡◌, ℕ, ◌+◌, Bool, true, false, cond, eqb, List, length, Option, Some, None, Result, Ok, Err, ap, sym, refl, ◌∙◌, codes, subst}
use Rattle.std.specs.Str.{bytes_eq}
use Rattle.std.specs.List.{list_all}
use Rattle.std.proofs.lemmas.Slice.Eq.{bytes_eq-Decides}
use Rattle.guest_asm.specs.declared.fault.AsmCause.{AsmCause}
use Rattle.guest_asm.specs.declared.fault.AsmCause.TheVariants as cause
use Rattle.guest_asm.specs.declared.operand.Operand.{Operand}
use Rattle.guest_asm.specs.declared.fields.Fields.{Fields}
use Rattle.guest_asm.specs.declared.mnemonics.Form.{Form}
use Rattle.guest_asm.specs.declared.mnemonics.Form.TheVariants as form
use Rattle.guest_asm.specs.declared.mnemonics.Operation.{Operation}
use Rattle.guest_asm.specs.declared.mnemonics.Operation.TheVariants as operation
use Rattle.guest_asm.specs.declared.statement.Statement.{Statement}
use Rattle.guest_asm.specs.Characters.{is_visible, is_word}
use Rattle.guest_asm.specs.Lines.{statement_of, mnemonic_of, operand_text}
use Rattle.guest_asm.specs.Mnemonics.{mnemonics, row_named}
use Rattle.guest_asm.specs.Operands.{Labels, operands_of}
use Rattle.guest_asm.specs.Statements.{fields_of, with_fields, with_row, with_operands, read_statement, statement_on}
use Rattle.guest_asm.specs.Values.{is_unlabelled}
use Rattle.guest_asm.specs.Addresses.{behind}
use Rattle.guest_asm.specs.Causes.{placed_word, with_value, with_statement}

-- the row of .org
origin-row : row_named (codes ".org") ≡ Some (form.Number, operation.Origin)
unfolding row_named mnemonics
origin-row = refl

-- a statement that is .org, if it is one
abbrev IsOrigin : Result (Option Statement) AsmCause → Type 0
IsOrigin (Ok (Some statement)) = statement.operation ≡ operation.Origin
IsOrigin other = Unit {0}

with_fields-origin : (fields : Option Fields) → IsOrigin (with_fields operation.Origin fields)
with_fields-origin None = tt
with_fields-origin (Some fields) = refl

cond-origin : (b : Bool) (r : Result (Option Statement) AsmCause) → IsOrigin r → IsOrigin (cond b r (Err cause.Syntax))
cond-origin true r h = h
cond-origin false r h = tt

with_operands-origin : (mnemonic : List ℕ) (operands : Option (List Operand)) → mnemonic ≡ codes ".org" → IsOrigin (with_operands mnemonic operands)
with_operands-origin mnemonic None is = tt
with_operands-origin mnemonic (Some operands) is =
    cond-origin (is_word mnemonic) (with_row (row_named mnemonic) operands)
    (subst (λ (row : Option (Form × Operation)). IsOrigin (with_row row operands)) (sym (ap row_named is ∙ origin-row)) (with_fields-origin (fields_of form.Number operands)))

-- a statement that puts a word at its address
abbrev IsPut : Result (Option Statement) AsmCause → Type 0
IsPut (Ok (Some statement)) = statement.operation ≡ operation.Origin → ⊥
IsPut other = ⊥

not-both : (r : Result (Option Statement) AsmCause) → IsOrigin r → IsPut r → ⊥
not-both (Ok (Some statement)) is put = put is
not-both (Ok None) is put = put
not-both (Err why) is put = put

not-none : (none : Bool) (r : Result (Option Statement) AsmCause) → IsPut (cond none (Ok None) r) → none ≡ true → ⊥
not-none true r put e = put
not-none false r put e = absurd (cc)

put-rest : (none : Bool) (r : Result (Option Statement) AsmCause) → IsPut (cond none (Ok None) r) → IsPut r
put-rest true r put = absurd put
put-rest false r put = put

put-visible : (visible : Bool) (r : Result (Option Statement) AsmCause) → IsPut (cond visible r (Err cause.Syntax)) → IsPut r
put-visible true r put = put
put-visible false r put = absurd put

behind-by : (none origin : Bool) (address to : ℕ) → (none ≡ true → ⊥) → (origin ≡ true → ⊥) → cond none address (cond origin to (address + 4)) ≡ address + 4
behind-by true origin address to some stays = absurd (some refl)
behind-by false true address to some stays = absurd (stays refl)
behind-by false false address to some stays = refl

put-behind : (labels : Labels) (address : ℕ) (line : List ℕ) → IsPut (statement_on labels line) → behind address line ≡ address + 4
unfolding statement_on behind
put-behind labels address line put =
    let text : List ℕ = statement_of line in
    let operands : Option (List Operand) = operands_of labels (operand_text text) in
    let read : IsPut (read_statement labels text) = put-visible (list_all is_visible line) (read_statement labels text) put in
    let there : IsPut (with_operands (mnemonic_of text) operands) = put-rest (eqb (length text) 0) (with_operands (mnemonic_of text) operands) read in
    behind-by (eqb (length text) 0) (bytes_eq (mnemonic_of text) (codes ".org")) address _
    (not-none (eqb (length text) 0) (with_operands (mnemonic_of text) operands) read)
    (λ origin. not-both (with_operands (mnemonic_of text) operands) (with_operands-origin (mnemonic_of text) operands ((bytes_eq-Decides (mnemonic_of text) (codes ".org")).0 origin)) there)

-- no word is put
abbrev NotPut : Result (Option ℕ) AsmCause → Type 0
NotPut (Ok (Some word)) = ⊥
NotPut other = Unit {0}

cond-not : (b : Bool) (x y : Result (Option ℕ) AsmCause) → NotPut x → NotPut y → NotPut (cond b x y)
cond-not true x y hx hy = hx
cond-not false x y hx hy = hy

origin-not : (address : ℕ) (op : Operation) (word value : ℕ) → op ≡ operation.Origin → NotPut (placed_word address op word value)
origin-not address op word value is =
    subst (λ (o : Operation). NotPut (placed_word address o word value)) (sym is) (cond-not _ (Ok None) (Err cause.Place) tt tt)

value-not : (address : ℕ) (outside : Bool) (statement : Statement) (value : Option ℕ) → statement.operation ≡ operation.Origin → NotPut (with_value address outside statement value)
value-not address outside statement None is = tt
value-not address outside statement (Some value) is = cond-not outside (Err cause.Place) _ tt (origin-not address statement.operation _ value is)

put-statement : (address : ℕ) (twice outside : Bool) (r : Result (Option Statement) AsmCause) (word : ℕ) → with_statement address twice outside r ≡ Ok (Some word) → IsPut r
put-statement address twice outside (Err why) word is = absurd (cc)
put-statement address twice outside (Ok None) word is =
    subst NotPut is (cond-not twice (Err cause.Twice) _ tt (cond-not outside (Err cause.Place) (Ok None) tt tt))
put-statement address twice outside (Ok (Some statement)) word is = λ origin.
    subst NotPut is (cond-not twice (Err cause.Twice) _ tt (cond-not (is_unlabelled statement.fields.given.source) (Err cause.Label) _ tt (value-not address outside statement _ origin)))

-- the address behind a line that puts a word
pub puts-behind : (labels : Labels) (address : ℕ) (line : List ℕ) (twice outside : Bool) (word : ℕ)
    → with_statement address twice outside (statement_on labels line) ≡ Ok (Some word) → behind address line ≡ address + 4
puts-behind labels address line twice outside word is = put-behind labels address line (put-statement address twice outside (statement_on labels line) word is)
