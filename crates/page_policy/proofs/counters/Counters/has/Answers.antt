use Rattle.std.proofs.Common.{◌≡◌, length, ap, sym, ◌∙◌, arith}
use Rattle.std.proofs.lemmas.Bool.{ltb-true}
use Rattle.page_policy.proofs.ByPage.{length-by_page}
use Rattle.page_policy.proofs.counters.Counters.has.Goals as goal

pub returns : goal.returns
returns c =
    let f = c.self.inside in
    let long : length c.args.self.now ≡ length f.written.items = ap length (sym c.self.view_is) ∙ length-by_page f.nodes f.written.items f.misses.items in
    (λ is. omega (arith, long, c.len.ensures, ltb-true c.args.page.0 c.len.result is), λ lt. search (arith, long, c.len.ensures))
