use Rattle.std.proofs.Common.{◌≡◌, ◌∙◌, ap, sym, ℕ, ◌+◌, ◌*◌, ◌<◌, ◌≤◌, List, [], map, length, get_or, Bor, arith}
use Rattle.std.proofs.lemmas.List.{get_or-map, length-map}
use Rattle.std.specs.Option.{option_map}
use Rattle.guest_asm.specs.Addresses.{end, address_of, behind}
use Rattle.guest_asm.specs.Sites.{site_in}
use Rattle.guest_asm.proofs.Kept.{address_more, kept_more, kept_all}
use Rattle.guest_asm.proofs.Onward.{behind-within}
use Rattle.guest_asm.proofs.labels.Labels.read.Goals as goal

pub loop-number-preserved : goal.loop-number-preserved
loop-number-preserved c =
    let view : Bor (List ℕ) → List ℕ = λ line. line.now in
    let lines : List (List ℕ) = map view c.args.lines.now in
    let n : ℕ = c.loop-number.number in
    let none : Bor (List ℕ) = record { ref_ptr = (0, 0); now = [] } in
    let line : List ℕ = (get_or c.args.lines.now n none).now in
    let there : n < length lines = rw length-map c.loop-number-test.true in
    let is : line ≡ get_or lines n [] = sym (get_or-map view c.args.lines.now n none [] c.loop-number-test.true) in
    let low : c.loop-number.address ≤ end + 4 * n = c.loop-number.invariant.bound in
    let high : end ≤ end + 4 * n = omega arith in
    let within : (c.loop-number.address ≤ behind c.loop-number.address line) × (behind c.loop-number.address line ≤ end + 4 * n + 4) = behind-within c.loop-number.address (end + 4 * n) line low high in
    let next : c.in_ok-address.address ≡ behind c.loop-number.address line = c.in_ok-address.ensures in
    record {
      address =
          next ∙ ap (λ (a : ℕ). behind a line) c.loop-number.invariant.address ∙ ap (behind (address_of lines n)) is ∙ sym (address_more lines n there);
      bound = rw next (let reach : behind c.loop-number.address line ≤ end + 4 * n + 4 = within.1 in omega arith);
      kept = kept_more lines n c.loop-number.address line (option_map view c.label_of.result) (site_in c.loop-number.labels) (site_in c.keep.new.self)
          there c.loop-number.invariant.address is c.label_of.ensures c.loop-number.invariant.kept c.in_ok-keep.ensures;
    }

pub returns : goal.returns
returns c = λ name.
    let view : Bor (List ℕ) → List ℕ = λ line. line.now in
    let lines : List (List ℕ) = map view c.args.lines.now in
    let whole : length lines ≤ c.loop-number.number = rw length-map c.loop-number-test.false in
    c.loop-number.invariant.kept name ∙ kept_all lines c.loop-number.number name whole
