use Rattle.std.proofs.Common.{ℕ, ◌≡◌, ◌*◌, ◌∙◌, ap, sym, false, replicate, length, rules, arith}
use Rattle.std.proofs.lemmas.List.{length-replicate}
use Rattle.page_policy.specs.Pages.{by_page}
use Rattle.page_policy.proofs.ByPage.{by_page-none, AreCounters-by_page}
use Rattle.page_policy.proofs.counters.Counters.new.Goals as goal

pub returns-clause-none : goal.returns-clause-none
returns-clause-none c =
    let n = c.args.nodes in
    let p = c.args.pages in
    let written : c.in_ok-written.written.items ≡ replicate p false = search rules in
    let misses : c.in_ok-misses.misses.items ≡ replicate (p * n) 0 = search rules in
    ap (λ ws. by_page n ws c.in_ok-misses.misses.items) written ∙ ap (λ cs. by_page n (replicate p false) cs) misses ∙ by_page-none n p

pub returns-clause-counters : goal.returns-clause-counters
returns-clause-counters c =
    let n = c.args.nodes in
    let p = c.args.pages in
    let none : ℕ = 0 in
    let written : c.in_ok-written.written.items ≡ replicate p false = search rules in
    let misses : c.in_ok-misses.misses.items ≡ replicate (p * n) none = search rules in
    let long = ap length misses ∙ length-replicate (p * n) none in
    let pages = ap length written ∙ length-replicate p false in
    let turned : p * n ≡ n * p = omega arith in
    AreCounters-by_page p n c.in_ok-written.written.items c.in_ok-misses.misses.items pages (long ∙ turned ∙ ap (λ k. n * k) (sym pages))
