use Rattle.std.proofs.Common.{◌∙◌, ◌*◌, ◌+◌, ◌++◌, false, take, drop, set, replicate, ap, sym, subst, arith}
use Rattle.std.proofs.lemmas.List.{with_items_is, length-map}
use Rattle.private_machine.specs.Policy.{anew}
use Rattle.page_policy.specs.Pages.{by_page, misses_of, AreCounters}
use Rattle.page_policy.proofs.ByPage.{row-end, page-within, by_page-anew, AreCounters-set}
use Rattle.page_policy.proofs.counters.Counters.restart.Goals as goal

pub clear-requires : goal.clear-requires
clear-requires c =
    let f = c.self.inside in
    omega (arith, c.deref_mut.ensures.len, f.misses.ok.0, row-end f.nodes c.args.page.0 f.written.items f.misses.items c.args.self.now c.self.view_is c.self.invariant c.requires)

pub index_mut-requires : goal.index_mut-requires
index_mut-requires c =
    let f = c.self.inside in
    omega (arith, f.written.ok.0, page-within f.nodes c.args.page.0 f.written.items f.misses.items c.args.self.now c.self.view_is c.requires)

pub returns-clause-anew : goal.returns-clause-anew
returns-clause-anew c =
    let f = c.self.inside in
    let n = f.nodes in
    let p = c.args.page.0 in
    let ws = f.written.items in
    let cs = f.misses.items in
    ap (by_page n (set ws p false)) (with_items_is f.misses c.clear.new.counts (omega (arith, c.clear.auto.counts, c.deref_mut.ensures.len)))
    ∙ ap (by_page n (set ws p false)) (c.clear.ensures ∙ ap (λ xs. take (p * n) xs ++ (replicate n 0 ++ drop (p * n + n) xs)) c.deref_mut.ensures.value)
    ∙ by_page-anew n p ws cs c.args.self.now c.self.view_is c.self.invariant c.requires

pub returns-clause-counters : goal.returns-clause-counters
returns-clause-counters c =
    λ pages nodes are.
    let p = c.args.page.0 in
    let v = c.args.self.now in
    subst (λ x. AreCounters pages nodes x) (sym (returns-clause-anew c))
    (AreCounters-set pages nodes p v (anew (misses_of p v)) c.requires (length-map (misses_of p v).by_node _) are)
