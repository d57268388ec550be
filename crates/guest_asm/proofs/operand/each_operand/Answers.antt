use Rattle.std.proofs.Common.{◌≡◌, ◌∙◌, ap, sym, ℕ, ◌+◌, List, [], Option, Some, None, map, drop, get_or, Bor}
use Rattle.std.proofs.lemmas.List.{drop_all}
use Rattle.guest_asm.specs.declared.operand.Operand.{Operand}
use Rattle.guest_asm.specs.Operands.{and_then, operand_of, each_operand}
use Rattle.guest_asm.specs.Sites.{address_in}
use Rattle.guest_asm.proofs.Joined.{joined, joined_more, joined_all, text_of, each_next}
use Rattle.guest_asm.proofs.operand.each_operand.Goals as goal

pub loop-part-preserved : goal.loop-part-preserved
loop-part-preserved c =
    let labels : List ℕ → Option ℕ = address_in c.args.labels.now in
    let place : ℕ = c.loop-part.part-index in
    let none : Bor (List ℕ) = record { ref_ptr = (0, 0); now = [] } in
    let first : Option Operand = operand_of labels (text_of (get_or c.args.parts.now place none)) in
    let rest : Option (List Operand) = each_operand labels (map text_of (drop (place + 1) c.args.parts.now)) in
    let is : first ≡ Some c.in-Some.operand = ap (operand_of labels) (sym c.trimmed.ensures) ∙ sym c.operand_of.ensures ∙ c.in-Some.is in
    ap (λ (front : List Operand). joined front rest) c.in_ok-push-in-Some.ensures.items
    ∙ joined_more c.loop-part.operands.items first c.in-Some.operand rest is
    ∙ ap (joined c.loop-part.operands.items) (sym (each_next labels c.args.parts.now place none c.loop-part-test.true))
    ∙ c.loop-part.invariant

pub returns-in-None : goal.returns-in-None
returns-in-None c =
    let labels : List ℕ → Option ℕ = address_in c.args.labels.now in
    let place : ℕ = c.loop-part.part-index in
    let none : Bor (List ℕ) = record { ref_ptr = (0, 0); now = [] } in
    let first : Option Operand = operand_of labels (text_of (get_or c.args.parts.now place none)) in
    let rest : Option (List Operand) = each_operand labels (map text_of (drop (place + 1) c.args.parts.now)) in
    let is : first ≡ None = ap (operand_of labels) (sym c.trimmed.ensures) ∙ sym c.operand_of.ensures ∙ c.in-None.is in
    sym (sym c.loop-part.invariant
    ∙ ap (joined c.loop-part.operands.items) (each_next labels c.args.parts.now place none c.loop-part-test.true ∙ ap (λ (o : Option Operand). and_then o rest) is))

pub returns : goal.returns
returns c =
    let labels : List ℕ → Option ℕ = address_in c.args.labels.now in
    sym (joined_all c.loop-part.operands.items)
    ∙ ap (λ (parts : List (Bor (List ℕ))). joined c.loop-part.operands.items (each_operand labels (map text_of parts))) (sym (drop_all c.loop-part.part-index c.args.parts.now c.loop-part-test.false))
    ∙ c.loop-part.invariant
