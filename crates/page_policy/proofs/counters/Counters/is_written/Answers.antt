use Rattle.std.proofs.Common.{◌*◌, false, refl, take, drop, ap, arith}
use Rattle.std.proofs.lemmas.List.{get_or_read}
use Rattle.private_machine.specs.Policy.{Misses}
use Rattle.page_policy.proofs.ByPage.{page-within, page-read}
use Rattle.page_policy.proofs.counters.Counters.is_written.Goals as goal

pub index-requires : goal.index-requires
index-requires c =
    let f = c.self.inside in
    omega (arith, f.written.ok.0, page-within f.nodes c.args.page.0 f.written.items f.misses.items c.args.self.now c.self.view_is c.requires)

pub returns : goal.returns
returns c =
    let f = c.self.inside in
    let n = f.nodes in
    let p = c.args.page.0 in
    let there = page-within n p f.written.items f.misses.items c.args.self.now c.self.view_is c.requires in
    let mark = get_or_read f.written.items p c.index.result.now there c.index.ensures false in
    ap (λ (m : Misses). m.written) (page-read n p f.written.items f.misses.items c.args.self.now (take n (drop (p * n) f.misses.items)) c.index.result.now c.self.view_is c.requires refl mark)
