use Rattle.std.proofs.Common.{◌≡◌, ◌<◌, ◌+◌, ◌/◌, ◌∙◌, sym, List, ℕ, length, get_or, arith}
use Rattle.std.proofs.lemmas.List.FromFn.{length-map-range_with_len, get_or-map-range_with_len}
use Rattle.run_report.specs.MadeText.{row_of, row_text, rows_of}
use Rattle.run_report.proofs.WrittenSoFar.{WrittenSoFar-next, Puts-within, Took-all}
use Rattle.run_report.proofs.made_text.put_bytes.Goals as goal

-- there is a row of this number
in_rows : (bytes : List ℕ) (number : ℕ) → number < (length bytes + 31) / 32 → number < length (rows_of bytes)
in_rows bytes number there = omega (arith, length-map-range_with_len (row_of bytes) 0 ((length bytes + 31) / 32))

row_there : (bytes : List ℕ) (number : ℕ) (row : List ℕ) → number < (length bytes + 31) / 32 → row ≡ row_of bytes number → row ≡ get_or (rows_of bytes) number row
row_there bytes number row there is = is ∙ sym (get_or-map-range_with_len (row_of bytes) 0 ((length bytes + 31) / 32) number number row there (omega arith))

pub returns-in-Err : goal.returns-in-Err
returns-in-Err g c =
    let view = g.K.Sink.view in
    let bytes : List ℕ = c.args.bytes.now in
    let number = c.loop-number.number in
    Puts-within c.pieces_join.ensures (λ (number : ℕ). row_text) (view c.args.sink.now) (view c.loop-number.sink) (view c.put_row.new.sink) number (rows_of bytes) c.row_of.result.now
    (in_rows bytes number c.loop-number-test.true) (row_there bytes number c.row_of.result.now c.loop-number-test.true c.row_of.ensures) c.in-Err.fault c.loop-number.invariant c.in-Err.ensures

pub loop-number-preserved : goal.loop-number-preserved
loop-number-preserved g c =
    let view = g.K.Sink.view in
    let bytes : List ℕ = c.args.bytes.now in
    let number = c.loop-number.number in
    WrittenSoFar-next c.pieces_join.ensures (λ (number : ℕ). row_text) (view c.args.sink.now) (view c.loop-number.sink) (view c.put_row.new.sink) number (rows_of bytes) c.row_of.result.now
    (in_rows bytes number c.loop-number-test.true) (row_there bytes number c.row_of.result.now c.loop-number-test.true c.row_of.ensures) c.loop-number.invariant c.in-Ok.ensures

pub returns : goal.returns
returns g c =
    let view = g.K.Sink.view in
    let bytes : List ℕ = c.args.bytes.now in
    let all : length (rows_of bytes) ≡ c.loop-number.number = omega (arith, length-map-range_with_len (row_of bytes) 0 ((length bytes + 31) / 32)) in
    Took-all (λ (number : ℕ). row_text) (view c.args.sink.now) (view c.loop-number.sink) c.loop-number.number (rows_of bytes) all c.loop-number.invariant
