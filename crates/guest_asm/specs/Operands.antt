-- The operands of a statement, with what the labels that they name stand for.
use Rattle.std.specs.Prelude.{ℕ, ◌-◌, ◌==◌, Bool, List, [], ◌∷◌, length, take, drop, codes, slice_index, Option, Some, None, option_map, if◌then◌else◌}
use Rattle.std.specs.List.{before_first, after_first, slice_split}
use Rattle.std.specs.Str.{bytes_eq}
use Rattle.guest_asm.specs.declared.number.Number.{Number}
use Rattle.guest_asm.specs.declared.operand.Operand.{Operand}
use Rattle.guest_asm.specs.declared.operand.Operand.TheVariants as operand
use Rattle.guest_asm.specs.Characters.{begins, is_name, trimmed}
use Rattle.guest_asm.specs.Numbers.{number_of, register_of}

-- the address that a name stands for, where a line has that label
abbrev pub Labels : Type 0
Labels = List ℕ → Option ℕ

-- no names
abbrev pub no_labels : Labels
no_labels name = None

abbrev pub is_opening : ℕ → Bool
is_opening byte = byte == 40

-- lo(NAME) and hi(NAME)
abbrev pub low_of : Labels → List ℕ → Option Operand
low_of labels name = if is_name name then Some (operand.Low (labels name)) else None

abbrev pub high_of : Labels → List ℕ → Option Operand
high_of labels name = if is_name name then Some (operand.High (labels name)) else None

-- N(rs)
abbrev pub based : Option (Option Number) → Option ℕ → Option Operand
based None register = None
based (Some number) None = None
based (Some number) (Some register) = Some (operand.Based number register)

-- by what stands before the brackets, and within them
abbrev pub bracketed : Labels → List ℕ → List ℕ → Option Operand
bracketed labels outer inner =
    if bytes_eq outer (codes "lo") then low_of labels inner
    else if bytes_eq outer (codes "hi") then high_of labels inner
    else based (number_of outer) (register_of inner)

-- a text without its last character
abbrev pub without_last : List ℕ → List ℕ
without_last text = take (length text - 1) text

-- the operand that a text is, if it is one
unfoldable pub operand_of : Labels → List ℕ → Option Operand
operand_of labels text =
    if begins (codes "$") text then option_map (λ register. operand.Register register) (register_of text)
    else if slice_index text (length text - 1) == 41 then bracketed labels (before_first is_opening text) (without_last (after_first is_opening text))
    else if is_name text then Some (operand.Name (labels text))
    else option_map (λ number. operand.Number number) (number_of text)

-- the operands that texts are, if each of them is one
abbrev pub and_then : Option Operand → Option (List Operand) → Option (List Operand)
and_then None rest = None
and_then (Some first) None = None
and_then (Some first) (Some rest) = Some (first ∷ rest)

abbrev pub each_operand : Labels → List (List ℕ) → Option (List Operand)
each_operand labels [] = Some []
each_operand labels (text ∷ texts) = and_then (operand_of labels text) (each_operand labels texts)

-- the texts between commas; where nothing stands there are no operands
abbrev pub is_comma : ℕ → Bool
is_comma byte = byte == 44

abbrev pub parts : List ℕ → List (List ℕ)
parts text = if length text == 0 then [] else slice_split is_comma text

-- the operands of what stands behind a mnemonic
unfoldable pub operands_of : Labels → List ℕ → Option (List Operand)
operands_of labels text = each_operand labels (Rattle.std.specs.Prelude.map trimmed (parts text))
