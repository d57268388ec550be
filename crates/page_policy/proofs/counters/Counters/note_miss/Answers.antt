use Rattle.std.proofs.Common.{◌≡◌, ◌+◌, ◌*◌, ◌∙◌, ℕ, List, ap, sym, set, get_or, arith}
use Rattle.std.proofs.lemmas.List.{get_or_read}
use Rattle.base_words.specs.Counts.{counted}
use Rattle.private_machine.specs.Policy.{Misses, missed}
use Rattle.page_policy.specs.Pages.{misses_of, by_page}
use Rattle.page_policy.proofs.ByPage.{place-within, page-within, node-within, by_page-count, count-at}
use Rattle.page_policy.proofs.counters.Counters.note_miss.Goals as goal

pub index-requires : goal.index-requires
index-requires c =
    let f = c.self.inside in
    omega (arith, f.misses.ok.0, place-within f.nodes c.args.page.0 c.args.node.0 f.written.items f.misses.items c.args.self.now c.self.view_is c.self.invariant c.requires.page c.requires.node)

pub index_mut-requires : goal.index_mut-requires
index_mut-requires c =
    let f = c.self.inside in
    omega (arith, f.misses.ok.0, place-within f.nodes c.args.page.0 c.args.node.0 f.written.items f.misses.items c.args.self.now c.self.view_is c.self.invariant c.requires.page c.requires.node)

pub returns : goal.returns
returns c =
    let f = c.self.inside in
    let p = c.args.page.0 in
    let i = c.args.node.0 in
    let n = f.nodes in
    let ws = f.written.items in
    let cs = f.misses.items in
    let within = node-within n p i ws cs c.args.self.now c.self.view_is c.requires.page c.requires.node in
    let there = page-within n p ws cs c.args.self.now c.self.view_is c.requires.page in
    let place : ℕ = p * n + i in
    let lt = place-within n p i ws cs c.args.self.now c.self.view_is c.self.invariant c.requires.page c.requires.node in
    let read : c.index.result.now ≡ get_or cs place 0 = get_or_read cs place _ lt c.index.ensures 0 in
    let more : c.saturating_add.result ≡ counted (get_or (misses_of p (by_page n ws cs)).by_node i 0) =
    c.saturating_add.ensures ∙ ap counted (read ∙ sym (count-at n p i ws cs within there)) in
    by_page-count n p i c.saturating_add.result ws cs within there
    ∙ ap (λ count. set (by_page n ws cs) p (record (misses_of p (by_page n ws cs)) { by_node = set (misses_of p (by_page n ws cs)).by_node i count })) more
    ∙ ap (λ (v : List Misses). set v p (missed i (misses_of p v))) c.self.view_is
