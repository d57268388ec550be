use Rattle.std.proofs.Common.{sym, ◌∙◌, subst}
use Rattle.hw_tlb.specs.Tlb.{halves}
use Rattle.hw_tlb.specs.declared.answer.HwAnswer.{HwAnswer}
use Rattle.hw_cpu.proofs.Serving.{good, Good}
use Rattle.hw_cpu.proofs.reaching.find.Goals as goal

pub is_dead-requires : goal.is_dead-requires
is_dead-requires g c =
    let held = g.B.Bus.held c.args.bus.now in
    let store = c.is_store.result in
    let it = subst (λ (a : HwAnswer). Good held store a) (sym c.lookup.ensures.answer ∙ c.in-Hit.is) (good held (halves c.args.tlb.now) c.args.address c.args.mode.asid store c.requires) in
    (c.in-Hit.page.0, it.0)

pub returns-else-is_dead-clause-backed : goal.returns-else-is_dead-clause-backed
returns-else-is_dead-clause-backed g c =
    let held = g.B.Bus.held c.args.bus.now in
    let store = c.is_store.result in
    let it = subst (λ (a : HwAnswer). Good held store a) (sym c.lookup.ensures.answer ∙ c.in-Hit.is) (good held (halves c.args.tlb.now) c.args.address c.args.mode.asid store c.requires) in
    it.0

pub returns-else-is_dead-clause-alone : goal.returns-else-is_dead-clause-alone
returns-else-is_dead-clause-alone g c stores =
    let held = g.B.Bus.held c.args.bus.now in
    let store = c.is_store.result in
    let it = subst (λ (a : HwAnswer). Good held store a) (sym c.lookup.ensures.answer ∙ c.in-Hit.is) (good held (halves c.args.tlb.now) c.args.address c.args.mode.asid store c.requires) in
    it.1 (c.is_store.ensures ∙ stores)
