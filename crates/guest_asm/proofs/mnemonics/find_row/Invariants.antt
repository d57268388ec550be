use Rattle.std.proofs.Common.{◌≡◌, drop, map}
use Rattle.guest_asm.specs.Mnemonics.{row_in}
use Rattle.guest_asm.proofs.mnemonics.find_row.Given as goal

-- no row so far has the name
abbrev pub invariant-loop-row : goal.invariant-loop-row
invariant-loop-row l = row_in (map (λ row. (row.0.now, row.1, row.2)) (drop l.row-index l.rows)) l.name ≡ row_in (map (λ row. (row.0.now, row.1, row.2)) l.rows) l.name
