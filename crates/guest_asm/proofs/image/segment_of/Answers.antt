use Rattle.std.proofs.Common.{◌∙◌, ◌+◌, ◌^◌, ◌<◌, ◌≤◌, List, ◌++◌, append-nil, length, get_or, ap, sym, arith}
use Rattle.std.proofs.lemmas.List.{drop_all}
use Rattle.guest_asm.specs.declared.assembled.Placed.{Placed}
use Rattle.guest_asm.specs.Addresses.{start}
use Rattle.guest_asm.specs.Image.{bytes_from}
use Rattle.guest_asm.proofs.Segment.{Laid-more}
use Rattle.guest_asm.proofs.image.segment_of.Goals as goal

pub loop-placed-preserved : goal.loop-placed-preserved
loop-placed-preserved c =
    let none : Placed = record { address = 0; word = 0 } in
    let fits : (get_or c.args.words.now c.loop-placed.placed-index none).address < 2 ^ 32 = omega arith in
    Laid-more c.loop-placed.bytes.items c.put_at.new.bytes.items c.args.words.now c.loop-placed.placed-index none c.loop-placed-test.true fits c.in_ok-put_at.ensures c.loop-placed.invariant

pub returns : goal.returns
returns c = record {
  value =
      sym (append-nil c.loop-placed.bytes.items)
      ∙ ap (λ (words : List Placed). c.loop-placed.bytes.items ++ bytes_from (start + length c.loop-placed.bytes.items) words) (sym (drop_all c.loop-placed.placed-index c.args.words.now c.loop-placed-test.false))
      ∙ c.loop-placed.invariant.joined;
  short = let most : length c.loop-placed.bytes.items ≤ 2 ^ 30 + 4 = c.loop-placed.invariant.short in omega arith;
}
