-- How far an address moves over a line.
use Rattle.std.proofs.Common.{◌≡◌, ℕ, ◌+◌, ◌%◌, ◌≤◌, Bool, true, false, cond, ◌&&◌, leb, eqb, List, length, Option, Some, None, Result, Ok, Err, refl, arith}
use Rattle.std.proofs.lemmas.Bool.{cond_both, leb-true, eqb-true}
use Rattle.guest_asm.specs.declared.fault.AsmCause.{AsmCause}
use Rattle.guest_asm.specs.declared.statement.Statement.{Statement}
use Rattle.guest_asm.specs.Lines.{statement_of}
use Rattle.guest_asm.specs.Addresses.{end, may_move, moved, moved_by, origin_on, is_origin_in, behind}
use Rattle.guest_asm.specs.Values.{value_of}

and-left : (a b : Bool) → (a && b) ≡ true → a ≡ true
and-left true b e = refl
and-left false b e = e

and-right : (a b : Bool) → (a && b) ≡ true → b ≡ true
and-right true b e = e
and-right false b e = absurd (cc)

-- where it moves on, the address rises, up to the end
rises : (address to : ℕ) → may_move address to ≡ true → (address ≤ to) × (to ≤ end)
rises address to may =
    let both : (leb address to && leb to end) ≡ true = and-right (eqb (to % 4) 0) (leb address to && leb to end) may in
    (leb-true address to (and-left (leb address to) (leb to end) both), leb-true to end (and-right (leb address to) (leb to end) both))

-- and stays a multiple of 4
pub may_move-aligned : (address to : ℕ) → may_move address to ≡ true → (to % 4 ≡ 0) × (address ≤ to)
may_move-aligned address to may = (eqb-true (to % 4) 0 (and-left (eqb (to % 4) 0) (leb address to && leb to end) may), (rises address to may).0)

pub moved-within : (address bound : ℕ) (to : Option ℕ) → address ≤ bound → end ≤ bound → (address ≤ moved address to) × (moved address to ≤ bound)
moved-within address bound None low high = (omega arith, low)
moved-within address bound (Some to) low high =
    cond_both (may_move address to) to address (λ n. (address ≤ n) × (n ≤ bound))
    (λ may. let r : (address ≤ to) × (to ≤ end) = rises address to may in (r.0, omega arith))
    (λ no. (omega arith, low))

pub moved_by-within : (address bound : ℕ) (asked : Result (Option Statement) AsmCause) → address ≤ bound → end ≤ bound → (address ≤ moved_by address asked) × (moved_by address asked ≤ bound)
moved_by-within address bound (Err why) low high = (omega arith, low)
moved_by-within address bound (Ok None) low high = (omega arith, low)
moved_by-within address bound (Ok (Some statement)) low high = moved-within address bound (value_of statement.fields.given address) low high

pub behind-within : (address bound : ℕ) (line : List ℕ) → address ≤ bound → end ≤ bound → (address ≤ behind address line) × (behind address line ≤ bound + 4)
unfolding behind
behind-within address bound line low high =
    cond_both (eqb (length (statement_of line)) 0) address (cond (is_origin_in (statement_of line)) (moved_by address (origin_on line)) (address + 4)) (λ n. (address ≤ n) × (n ≤ bound + 4))
    (λ none. (omega arith, omega arith))
    (λ some. cond_both (is_origin_in (statement_of line)) (moved_by address (origin_on line)) (address + 4) (λ n. (address ≤ n) × (n ≤ bound + 4))
    (λ moves. let w : (address ≤ moved_by address (origin_on line)) × (moved_by address (origin_on line) ≤ bound) = moved_by-within address bound (origin_on line) low high in (w.0, omega arith))
    (λ stays. (omega arith, omega arith)))
