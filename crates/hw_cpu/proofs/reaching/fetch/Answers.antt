-- What the page's fetches reach backs it.
use Rattle.std.proofs.Common.{false, Option, sym, subst}
use Rattle.base_words.specs.declared.exception.Use.TheVariants.{Fetch as fetches}
use Rattle.hw_tlb.specs.Tlb.{halves}
use Rattle.private_machine.specs.Reaching.{Sight, fetch_at}
use Rattle.hw_cpu.specs.declared.reaching.KeptPage.{KeptPage}
use Rattle.hw_cpu.specs.Steps.{sight_of, place_of}
use Rattle.hw_cpu.specs.KeptPages.{IsKeptPage}
use Rattle.hw_cpu.proofs.KeptLemmas.{reached-backs}
use Rattle.hw_cpu.proofs.reaching.fetch.Goals as goal

pub returns-clause-backed : goal.returns-clause-backed
returns-clause-backed g c =
    let page = c.in-Some.page in
    let x : Sight = sight_of c.args.mode.user c.args.mode.asid false (halves c.args.tlb.now) (g.B.Bus.site c.args.bus.now) in
    let last : IsKeptPage fetches x (Option.Some page) = subst (λ (o : Option KeptPage). IsKeptPage fetches x o) c.in-Some.is c.requires.last in
    reached-backs (g.B.Bus.held c.args.bus.now) x (fetch_at c.args.pc) (place_of page.at) c.requires.serves (last 4 c.args.pc (sym c.if-page-pc.true) c.if-pc-eq0.true)
