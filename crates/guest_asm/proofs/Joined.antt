-- Operands so far, with those that follow, if each of them is one.
use Rattle.std.proofs.Common.{◌≡◌, List, [], ◌∷◌, ◌++◌, Option, Some, None, ap, refl, append_assoc, append-nil, sym, ◌∙◌, ℕ, ◌+◌, ◌<◌, length, get_or, drop, map, Bor}
use Rattle.guest_asm.proofs.Ranges.{drop_next}
use Rattle.guest_asm.specs.Characters.{trimmed}
use Rattle.guest_asm.specs.declared.operand.Operand.{Operand}
use Rattle.guest_asm.specs.Operands.{Labels, operand_of, and_then, each_operand}

abbrev pub joined : List Operand → Option (List Operand) → Option (List Operand)
joined front None = None
joined front (Some back) = Some (front ++ back)

-- the next one
pub joined_more : (front : List Operand) (first : Option Operand) (operand : Operand) (rest : Option (List Operand)) → first ≡ Some operand
    → joined (front ++ operand ∷ []) rest ≡ joined front (and_then first rest)
joined_more front first operand None is = ap (λ (o : Option Operand). joined front (and_then o None)) (sym is)
joined_more front first operand (Some back) is = ap Some (append_assoc front (operand ∷ []) back) ∙ ap (λ (o : Option Operand). joined front (and_then o (Some back))) (sym is)

pub joined_none : (back : Option (List Operand)) → joined [] back ≡ back
joined_none None = refl
joined_none (Some back) = refl

pub joined_all : (front : List Operand) → joined front (Some []) ≡ Some front
joined_all front = ap Some (append-nil front)

-- the text of an operand, without blanks at its ends
abbrev pub text_of : Bor (List ℕ) → List ℕ
text_of part = trimmed part.now

-- the texts from a place on begin with the one that stands there
pub each_next : (labels : Labels) (parts : List (Bor (List ℕ))) (i : ℕ) (d : Bor (List ℕ)) → i < length parts
    → each_operand labels (map text_of (drop i parts)) ≡ and_then (operand_of labels (text_of (get_or parts i d))) (each_operand labels (map text_of (drop (i + 1) parts)))
each_next labels parts i d there = ap (λ (ps : List (Bor (List ℕ))). each_operand labels (map text_of ps)) (drop_next parts i d there)

-- texts that are cut first and taken without blanks then
pub texts_twice : (parts : List (Bor (List ℕ))) → map text_of parts ≡ map trimmed (map (λ (part : Bor (List ℕ)). part.now) parts)
texts_twice [] = refl
texts_twice (part ∷ parts) = ap (λ (ts : List (List ℕ)). text_of part ∷ ts) (texts_twice parts)
