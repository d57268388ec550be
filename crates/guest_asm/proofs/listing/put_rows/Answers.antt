use Rattle.std.proofs.Common.{◌∙◌, ℕ, List, ◌++◌, append_assoc, ap, sym}
use Rattle.std.specs.List.{flat_map, range_with_len}
use Rattle.hex.specs.Hex.{encode_lower}
use Rattle.guest_asm.specs.Listing.{row_line, line_end}
use Rattle.guest_asm.proofs.Ranges.{joined_more}
use Rattle.guest_asm.proofs.listing.put_rows.Goals as goal

pub loop-number-preserved : goal.loop-number-preserved
loop-number-preserved c =
    let before : List ℕ = c.args.text.now.items in
    let rows : List ℕ = flat_map (row_line c.args.bytes.now) (range_with_len 0 c.loop-number.number) in
    c.in_ok-extend_from_slice.ensures.items
    ∙ ap (λ (xs : List ℕ). xs ++ line_end) (c.in_ok-put_hexadecimal.ensures ∙ ap (λ (xs : List ℕ). xs ++ encode_lower c.row_of.result.now) c.loop-number.invariant)
    ∙ append_assoc (before ++ rows) (encode_lower c.row_of.result.now) line_end
    ∙ ap (λ (xs : List ℕ). (before ++ rows) ++ (encode_lower xs ++ line_end)) c.row_of.ensures
    ∙ append_assoc before rows (row_line c.args.bytes.now c.loop-number.number)
    ∙ ap (λ (xs : List ℕ). before ++ xs) (sym (joined_more (row_line c.args.bytes.now) c.loop-number.number))
