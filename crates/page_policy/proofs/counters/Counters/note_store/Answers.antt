use Rattle.std.proofs.Common.{◌∙◌, List, ap, set, true, arith}
use Rattle.private_machine.specs.Policy.{Misses}
use Rattle.page_policy.specs.Pages.{misses_of}
use Rattle.page_policy.proofs.ByPage.{page-within, by_page-mark}
use Rattle.page_policy.proofs.counters.Counters.note_store.Goals as goal

pub index_mut-requires : goal.index_mut-requires
index_mut-requires c =
    let f = c.self.inside in
    omega (arith, f.written.ok.0, page-within f.nodes c.args.page.0 f.written.items f.misses.items c.args.self.now c.self.view_is c.requires)

pub returns : goal.returns
returns c =
    let f = c.self.inside in
    let p = c.args.page.0 in
    by_page-mark f.nodes p true f.written.items f.misses.items (page-within f.nodes p f.written.items f.misses.items c.args.self.now c.self.view_is c.requires)
    ∙ ap (λ (v : List Misses). set v p (record (misses_of p v) { written = true })) c.self.view_is
