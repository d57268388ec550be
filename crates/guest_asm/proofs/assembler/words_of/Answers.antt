use Rattle.std.proofs.Common.{◌≡◌, sym, ℕ, ◌<◌, List, [], map, length, get_or, Bor, arith}
use Rattle.std.proofs.lemmas.List.{get_or-map, length-map}
use Rattle.guest_asm.proofs.SoFar.{SoFar-more, SoFar-refused, SoFar-all}
use Rattle.guest_asm.proofs.assembler.words_of.Goals as goal

pub loop-number-preserved : goal.loop-number-preserved
loop-number-preserved c =
    let view : Bor (List ℕ) → List ℕ = λ line. line.now in
    let lines : List (List ℕ) = map view c.args.lines.now in
    let n : ℕ = c.loop-number.number in
    let none : Bor (List ℕ) = record { ref_ptr = (0, 0); now = [] } in
    let line : List ℕ = (get_or c.args.lines.now n none).now in
    let there : n < length lines = rw length-map c.loop-number-test.true in
    let is : line ≡ get_or lines n [] = sym (get_or-map view c.args.lines.now n none [] c.loop-number-test.true) in
    SoFar-more lines c.args.labels.now n c.loop-number.address c.in_ok-address.address line c.in-Ok.word c.loop-number.words.items c.put.new.words.items
    c.requires.labels there is c.loop-number.invariant c.in-Ok.ensures c.in_ok-put-in-Ok.ensures c.in_ok-address.ensures

pub returns-in-Err : goal.returns-in-Err
returns-in-Err c =
    let view : Bor (List ℕ) → List ℕ = λ line. line.now in
    let lines : List (List ℕ) = map view c.args.lines.now in
    let n : ℕ = c.loop-number.number in
    let none : Bor (List ℕ) = record { ref_ptr = (0, 0); now = [] } in
    let line : List ℕ = (get_or c.args.lines.now n none).now in
    let there : n < length lines = rw length-map c.loop-number-test.true in
    let is : line ≡ get_or lines n [] = sym (get_or-map view c.args.lines.now n none [] c.loop-number-test.true) in
    SoFar-refused lines c.args.labels.now n c.loop-number.address line c.loop-number.words.items c.in-Err.fault c.fault_of.result
    c.requires.labels there is c.loop-number.invariant c.in-Err.ensures c.fault_of.ensures

pub returns : goal.returns
returns c =
    let view : Bor (List ℕ) → List ℕ = λ line. line.now in
    let lines : List (List ℕ) = map view c.args.lines.now in
    let whole : c.loop-number.number ≡ length lines = rw length-map (omega arith) in
    SoFar-all lines c.loop-number.number c.loop-number.address c.loop-number.words.items whole c.loop-number.invariant
