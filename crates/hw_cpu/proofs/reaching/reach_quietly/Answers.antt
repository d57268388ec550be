-- What an access reaches backs its page.
use Rattle.std.proofs.Common.{false, Option, sym, ◌∙◌, subst}
use Rattle.std.proofs.lemmas.Bool.{eqb-true}
use Rattle.hw_tlb.specs.Tlb.{halves}
use Rattle.private_machine.specs.Reaching.{Sight}
use Rattle.hw_cpu.specs.declared.reaching.KeptPage.{KeptPage}
use Rattle.hw_cpu.specs.Steps.{sight_of, place_of, as_wanted}
use Rattle.hw_cpu.specs.KeptPages.{IsKeptPage}
use Rattle.hw_cpu.proofs.KeptLemmas.{reached-backs, reached-alone}
use Rattle.hw_cpu.proofs.reaching.reach_quietly.Goals as goal

pub returns-clause-backed : goal.returns-clause-backed
returns-clause-backed g c =
    let page = c.in-Some.page in
    let w = c.args.wanted in
    let x : Sight = sight_of c.args.mode.user c.args.mode.asid false (halves c.args.tlb.now) (g.B.Bus.site c.args.bus.now) in
    let kept : IsKeptPage w.purpose x (Option.Some page) = subst (λ (o : Option KeptPage). IsKeptPage w.purpose x o) c.in-Some.is c.requires.kept.reached in
    reached-backs (g.B.Bus.held c.args.bus.now) x (as_wanted w) (place_of page.at) c.requires.serves (kept w.unit w.address (sym c.if-page-address.true) (eqb-true _ 0 (sym c.is_multiple.ensures ∙ c.if-not-is_multiple.false)))

pub returns-clause-alone : goal.returns-clause-alone
returns-clause-alone g c stores =
    let page = c.in-Some.page in
    let w = c.args.wanted in
    let x : Sight = sight_of c.args.mode.user c.args.mode.asid false (halves c.args.tlb.now) (g.B.Bus.site c.args.bus.now) in
    let kept : IsKeptPage w.purpose x (Option.Some page) = subst (λ (o : Option KeptPage). IsKeptPage w.purpose x o) c.in-Some.is c.requires.kept.reached in
    reached-alone (g.B.Bus.held c.args.bus.now) x (as_wanted w) (place_of page.at) stores c.requires.serves (kept w.unit w.address (sym c.if-page-address.true) (eqb-true _ 0 (sym c.is_multiple.ensures ∙ c.if-not-is_multiple.false)))

pub returns-2-clause-backed : goal.returns-2-clause-backed
returns-2-clause-backed g c =
    let w = c.args.wanted in
    let x : Sight = sight_of c.args.mode.user c.args.mode.asid false (halves c.args.tlb.now) (g.B.Bus.site c.args.bus.now) in
    reached-backs (g.B.Bus.held c.args.bus.now) x (as_wanted w) (place_of c.in_ok-at.at) c.requires.serves (c.in_ok-at.ensures.found w.unit (eqb-true _ 0 (sym c.is_multiple.ensures ∙ c.if-not-is_multiple.false)))

pub returns-2-clause-alone : goal.returns-2-clause-alone
returns-2-clause-alone g c stores =
    let w = c.args.wanted in
    let x : Sight = sight_of c.args.mode.user c.args.mode.asid false (halves c.args.tlb.now) (g.B.Bus.site c.args.bus.now) in
    reached-alone (g.B.Bus.held c.args.bus.now) x (as_wanted w) (place_of c.in_ok-at.at) stores c.requires.serves (c.in_ok-at.ensures.found w.unit (eqb-true _ 0 (sym c.is_multiple.ensures ∙ c.if-not-is_multiple.false)))
