use Rattle.std.proofs.Common.{◌<◌, ◌∙◌, ◌*◌, false, refl, take, drop, length, get_or, ap, sym, subst, arith}
use Rattle.std.proofs.lemmas.List.{get_or_read}
use Rattle.private_machine.specs.Policy.{Misses, choice}
use Rattle.page_policy.proofs.ByPage.{row-end, page-within, page-read}
use Rattle.page_policy.proofs.counters.Counters.decide.Goals as goal

pub row-counts-requires : goal.row-counts-requires
row-counts-requires c =
    let f = c.self.inside in
    omega (arith, c.deref.ensures.len, f.misses.ok.0, row-end f.nodes c.args.page.0 f.written.items f.misses.items c.args.self.now c.self.view_is c.self.invariant c.requires.page)

pub index-requires : goal.index-requires
index-requires c =
    let f = c.self.inside in
    omega (arith, f.written.ok.0, page-within f.nodes c.args.page.0 f.written.items f.misses.items c.args.self.now c.self.view_is c.requires.page)

pub choose-requires : goal.choose-requires
choose-requires c =
    let f = c.self.inside in
    let n = f.nodes in
    let p = c.args.page.0 in
    let i = c.args.node.0 in
    let read = page-read n p f.written.items f.misses.items c.args.self.now c.row-counts.result.now (get_or f.written.items p false) c.self.view_is c.requires.page
    (c.row-counts.ensures ∙ ap (λ xs. take n (drop (p * n) xs)) c.deref.ensures.value) refl in
    subst (λ (m : Misses). i < length m.by_node) (sym read) c.requires.node

pub returns-clause-kind : goal.returns-clause-kind
returns-clause-kind c =
    let f = c.self.inside in
    let n = f.nodes in
    let p = c.args.page.0 in
    let there = page-within n p f.written.items f.misses.items c.args.self.now c.self.view_is c.requires.page in
    let mark = get_or_read f.written.items p c.index.result.now there c.index.ensures false in
    c.choose.ensures.kind
    ∙ ap (choice c.args.policy.now c.args.node.0)
    (page-read n p f.written.items f.misses.items c.args.self.now c.row-counts.result.now c.index.result.now c.self.view_is c.requires.page
    (c.row-counts.ensures ∙ ap (λ xs. take n (drop (p * n) xs)) c.deref.ensures.value) mark)
