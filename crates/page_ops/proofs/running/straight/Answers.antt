-- A stretch goes on by one instruction, or by a branch and the one in its delay slot.
use Rattle.std.proofs.Common.{◌≡◌, ℕ, ◌+◌, ◌/◌, Some, None, sym, ap, ◌∙◌, subst, arith}
use Rattle.base_words.specs.declared.regs.Regs.{Regs}
use Rattle.base_words.specs.Fields.{sum}
use Rattle.page_ops.specs.Pages.{Goes, IsAt, IsPlain}
use Rattle.page_ops.specs.declared.leading.Lead.TheVariants.{ToSlot, PastSlot, Asks}
use Rattle.page_ops.proofs.StretchLemmas.{plain-computed, plain-past, branch-more, goes-more, stops-there, stops-asking, has-computed, has-stayed, told-lead}
use Rattle.page_ops.proofs.running.straight.Goals as goal

pub loop-made-preserved-then-compute : goal.loop-made-preserved-then-compute
loop-made-preserved-then-compute c =
    let n = c.args.regs.now.pc / 4096 in
    let f = c.page_start-first.result in
    let l = c.loop-made in
    let bytes = c.args.bytes.now in
    let new = c.compute.new.regs in
    let op = c.op_at-op.result.now in
    let i : IsAt n f l.at = record { starts = c.page_start-first.ensures.start; fits = c.page_start-first.ensures.fits; within = c.if-at-lt-PAGE.true; aligned = c.if-at-eq0.true } in
    let more = c.loop-made-test.true in
    let does = has-computed op l.regs new c.compute.result c.if-compute.true c.compute.ensures.computes in
    record {
      few = omega (arith, more);
      goes = goes-more bytes n l.made c.args.regs.now (record l.regs { pc = sum f l.at; slot = None }) (record new { pc = sum f (l.at + 4); slot = None }) l.invariant.goes (plain-computed bytes n f l.at c.read_word-word.result op l.regs new i c.read_word-word.ensures c.op_at-op.ensures.stands does);
      zero = c.compute.ensures.zero;
      slot = does.2 ∙ l.invariant.slot;
      first = λ none. absurd (omega (arith, none));
    }

pub loop-made-preserved-in-PastSlot : goal.loop-made-preserved-in-PastSlot
loop-made-preserved-in-PastSlot c =
    let n = c.args.regs.now.pc / 4096 in
    let f = c.page_start-first.result in
    let l = c.loop-made in
    let bytes = c.args.bytes.now in
    let r0 = c.args.regs.now in
    let new = c.compute.new.regs in
    let op = c.op_at-op.result.now in
    let i : IsAt n f l.at = record { starts = c.page_start-first.ensures.start; fits = c.page_start-first.ensures.fits; within = c.if-at-lt-PAGE.true; aligned = c.if-at-eq0.true } in
    let stays : new ≡ l.regs = has-stayed op l.regs new c.compute.result c.if-compute.false c.compute.ensures.computes in
    let led = c.follow.new.regs in
    let leads = told-lead op new led (sum f l.at) c.follow.result PastSlot c.in-PastSlot.is c.follow.ensures.leads in
    let more = c.loop-made-test.true in
    record {
      few = omega (arith, more);
      goes = goes-more bytes n l.made r0 (record new { pc = sum f l.at; slot = None }) (record led { pc = sum f (l.at + 8); slot = None })
          (subst (λ (r : Regs). Goes bytes n l.made r0 (record r { pc = sum f l.at; slot = None })) (sym stays) l.invariant.goes) (plain-past bytes n f l.at c.read_word-word.result op new led i c.read_word-word.ensures c.op_at-op.ensures.stands leads);
      zero = c.follow.ensures.zero;
      slot = leads.1 ∙ ap (λ (r : Regs). r.slot) stays ∙ l.invariant.slot;
      first = λ none. absurd (omega (arith, none));
    }

pub returns-in-Asks-clause-stops : goal.returns-in-Asks-clause-stops
returns-in-Asks-clause-stops c =
    let n = c.args.regs.now.pc / 4096 in
    let f = c.page_start-first.result in
    let l = c.loop-made in
    let op = c.op_at-op.result.now in
    let i : IsAt n f l.at = record { starts = c.page_start-first.ensures.start; fits = c.page_start-first.ensures.fits; within = c.if-at-lt-PAGE.true; aligned = c.if-at-eq0.true } in
    let leads = told-lead op c.compute.new.regs c.follow.new.regs (sum f l.at) c.follow.result (Asks c.in-Asks.request) c.in-Asks.is c.follow.ensures.leads in
    stops-asking c.args.bytes.now n f l.at c.read_word-word.result op c.compute.new.regs c.follow.new.regs c.follow.new.regs.slot c.in-Asks.request i c.read_word-word.ensures c.op_at-op.ensures.stands leads

pub returns-in-Nowhere-clause-stops : goal.returns-in-Nowhere-clause-stops
returns-in-Nowhere-clause-stops c =
    let n = c.args.regs.now.pc / 4096 in
    let f = c.page_start-first.result in
    let l = c.loop-made in
    let i : IsAt n f l.at = record { starts = c.page_start-first.ensures.start; fits = c.page_start-first.ensures.fits; within = c.if-at-lt-PAGE.true; aligned = c.if-at-eq0.true } in
    stops-there c.args.bytes.now n f l.at c.read_word-word.result c.op_at-op.result.now (record c.follow.new.regs { pc = sum f l.at }) c.follow.new.regs.slot None i c.read_word-word.ensures c.op_at-op.ensures.stands tt

pub returns-then-made-most-clause-goes : goal.returns-then-made-most-clause-goes
returns-then-made-most-clause-goes c =
    let n = c.args.regs.now.pc / 4096 in
    let f = c.page_start-first.result in
    let l = c.loop-made in
    let new = c.compute.new.regs in
    let op = c.op_at-op.result.now in
    let i : IsAt n f l.at = record { starts = c.page_start-first.ensures.start; fits = c.page_start-first.ensures.fits; within = c.if-at-lt-PAGE.true; aligned = c.if-at-eq0.true } in
    let stays : new ≡ l.regs = has-stayed op l.regs new c.compute.result c.if-compute.false c.compute.ensures.computes in
    let leads = told-lead op new c.follow.new.regs (sum f l.at) c.follow.result (ToSlot c.in-ToSlot.target) c.in-ToSlot.is c.follow.ensures.leads in
    branch-more c.args.bytes.now n f l.at c.read_word-word.result c.in-ToSlot.target l.made op c.args.regs.now l.regs new c.follow.new.regs i c.read_word-word.ensures c.op_at-op.ensures.stands stays l.invariant.goes leads

pub returns-in-Some-clause-goes : goal.returns-in-Some-clause-goes
returns-in-Some-clause-goes c =
    let n = c.args.regs.now.pc / 4096 in
    let f = c.page_start-first.result in
    let l = c.loop-made in
    let new = c.compute.new.regs in
    let op = c.op_at-op.result.now in
    let i : IsAt n f l.at = record { starts = c.page_start-first.ensures.start; fits = c.page_start-first.ensures.fits; within = c.if-at-lt-PAGE.true; aligned = c.if-at-eq0.true } in
    let stays : new ≡ l.regs = has-stayed op l.regs new c.compute.result c.if-compute.false c.compute.ensures.computes in
    let leads = told-lead op new c.follow.new.regs (sum f l.at) c.follow.result (ToSlot c.in-ToSlot.target) c.in-ToSlot.is c.follow.ensures.leads in
    subst (Goes c.args.bytes.now n (l.made + 1) c.args.regs.now) (sym c.in-Some.ensures.left)
    (branch-more c.args.bytes.now n f l.at c.read_word-word.result c.in-ToSlot.target l.made op c.args.regs.now l.regs new c.follow.new.regs i c.read_word-word.ensures c.op_at-op.ensures.stands stays l.invariant.goes leads)

pub loop-made-preserved : goal.loop-made-preserved
loop-made-preserved c =
    let n = c.args.regs.now.pc / 4096 in
    let f = c.page_start-first.result in
    let l = c.loop-made in
    let bytes = c.args.bytes.now in
    let r0 = c.args.regs.now in
    let op = c.op_at-op.result.now in
    let new = c.compute.new.regs in
    let i : IsAt n f l.at = record { starts = c.page_start-first.ensures.start; fits = c.page_start-first.ensures.fits; within = c.if-at-lt-PAGE.true; aligned = c.if-at-eq0.true } in
    let led = c.follow.new.regs in
    let last = c.delayed.new.regs in
    let target = c.in-ToSlot.target in
    let stays : new ≡ l.regs = has-stayed op l.regs new c.compute.result c.if-compute.false c.compute.ensures.computes in
    let leads = told-lead op new led (sum f l.at) c.follow.result (ToSlot target) c.in-ToSlot.is c.follow.ensures.leads in
    let starts = c.page_start-first.ensures.start in
    let same : f / 4096 ≡ n = omega (arith, starts) in
    let more = c.loop-made-test.true in
    let enough = c.if-made-most.false in
    let slot = subst (λ (k : ℕ). IsPlain bytes k (record led { pc = sum f (l.at + 4); slot = Some target }) (record last { pc = target; slot = None })) same c.in_default.ensures.made in
    record {
      few = omega (arith, more, enough);
      goes = subst (λ (to : ℕ). Goes bytes n (l.made + 1 + 1) r0 (record last { pc = to; slot = None })) (sym c.offset_to-at.ensures)
          (goes-more bytes n (l.made + 1) r0 (record led { pc = sum f (l.at + 4); slot = Some target }) (record last { pc = target; slot = None })
          (branch-more bytes n f l.at c.read_word-word.result target l.made op r0 l.regs new led i c.read_word-word.ensures c.op_at-op.ensures.stands stays l.invariant.goes leads) slot);
      zero = c.delayed.ensures.zero;
      slot = c.in_default.ensures.slot ∙ leads.1 ∙ ap (λ (r : Regs). r.slot) stays ∙ l.invariant.slot;
      first = λ none. absurd (omega (arith, none));
    }
