-- The instruction in the slot is plain, and leads on; or it stands there as it is.
use Rattle.std.proofs.Common.{◌/◌, Some}
use Rattle.base_words.specs.Fields.{sum}
use Rattle.page_ops.proofs.StretchLemmas.{plain-slot, stops-there, has-computed}
use Rattle.page_ops.proofs.running.delayed.Goals as goal

pub returns-then-compute-clause-made : goal.returns-then-compute-clause-made
returns-then-compute-clause-made c =
    let f = c.args.first in
    let op = c.op_at-op.result.now in
    let new = c.compute.new.regs in
    plain-slot c.args.bytes.now (f / 4096) f c.args.at c.read_word-word.result c.args.target op c.args.regs.now new c.requires.there c.read_word-word.ensures c.op_at-op.ensures.stands
    (has-computed op c.args.regs.now new c.compute.result c.if-compute.true c.compute.ensures.computes)

pub returns-clause-stops : goal.returns-clause-stops
returns-clause-stops c =
    let f = c.args.first in
    let left = record c.compute.new.regs { pc = sum f c.args.at; slot = Some c.args.target } in
    stops-there c.args.bytes.now (f / 4096) f c.args.at c.read_word-word.result c.op_at-op.result.now left (Some c.args.target) c.asked-asks.result c.requires.there c.read_word-word.ensures c.op_at-op.ensures.stands
    c.asked-asks.ensures.asks
