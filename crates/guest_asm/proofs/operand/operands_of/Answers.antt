use Rattle.std.proofs.Common.{◌≡◌, ◌∙◌, ap, sym, subst, ℕ, Bool, false, cond, eqb, List, [], Option, length, map, IfOk}
use Rattle.std.specs.Option.{option_map}
use Rattle.std.specs.List.{slice_split}
use Rattle.guest_asm.specs.declared.operand.Operand.{Operand}
use Rattle.guest_asm.specs.Characters.{trimmed}
use Rattle.guest_asm.specs.Operands.{each_operand, operands_of, is_comma}
use Rattle.guest_asm.specs.Sites.{address_in}
use Rattle.guest_asm.proofs.Joined.{text_of, texts_twice}
use Rattle.guest_asm.proofs.operand.operands_of.Goals as goal

pub returns : goal.returns
unfolding operands_of
returns c =
    let labels : List ℕ → Option ℕ = address_in c.args.labels.now in
    let some : eqb (length c.args.text.now) 0 ≡ false = sym c.is_empty.ensures ∙ c.if-is_empty.false in
    let found : each_operand labels (map text_of c.as_slice.result.now) ≡ operands_of labels c.args.text.now =
    ap (each_operand labels) (
    texts_twice c.as_slice.result.now
    ∙ ap (λ (parts : List _). map trimmed (map (λ part. part.now) parts)) c.as_slice.ensures.value
    ∙ ap (map trimmed) c.in_ok-parts.ensures
    ∙ ap (λ (empty : Bool). map trimmed (cond empty [] (slice_split is_comma c.args.text.now))) (sym some)) in
    subst (λ (o : Option (List Operand)). IfOk c.each_operand.result (λ operands. option_map (λ list. list.items) operands ≡ o)) found c.each_operand.ensures
