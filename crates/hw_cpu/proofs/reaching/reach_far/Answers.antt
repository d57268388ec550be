-- A half that is hit is of a frame that is held.
use Rattle.std.proofs.Common.{sym, ◌∙◌, subst}
use Rattle.base_words.specs.Place.{is_store}
use Rattle.hw_tlb.specs.Tlb.{halves}
use Rattle.hw_tlb.specs.declared.answer.HwAnswer.{HwAnswer}
use Rattle.hw_cpu.proofs.Serving.{good, Good}
use Rattle.hw_cpu.proofs.reaching.reach_far.Goals as goal

pub is_dead-requires : goal.is_dead-requires
is_dead-requires g c =
    let held = g.B.Bus.held c.args.bus.now in
    let store = is_store c.args.purpose in
    let it = subst (λ (a : HwAnswer). Good held store a) (sym c.answer_anew.ensures ∙ c.in-Hit.is) (good held (halves c.args.tlb.now) c.args.address c.args.mode.asid store c.requires.serves) in
    (c.in-Hit.page.0, it.0)
