use Rattle.std.proofs.Common.{rules, sym, ◌∙◌}
use borrow.Author.Tests.{tests}
use Rattle.std.proofs.lemmas.Iterator.{YieldsList-from_slice}
use Rattle.std.proofs.lemmas.Iterator.Search.{position_from_yields_List}
use Rattle.base_words.specs.Tlb.{page_pair, address_space, matches}
use Rattle.guest_tlb.proofs.tlb.Tlb48.probe.Goals as goal

pub returns-in_err-found : goal.returns-in_err-found
returns-in_err-found c =
    let found = position_from_yields_List (matches (page_pair c.args.hi) (address_space c.args.hi)) _ _ c.position.result c.position.ensures.ran (YieldsList-from_slice c.args.self.now cc) (λ x b q k. search (rules, tests)) in
    c.from_residual.ensures ∙ sym c.in_err-found.was ∙ found

pub returns : goal.returns
returns c =
    let found = position_from_yields_List (matches (page_pair c.args.hi) (address_space c.args.hi)) _ _ c.position.result c.position.ensures.ran (YieldsList-from_slice c.args.self.now cc) (λ x b q k. search (rules, tests)) in
    sym c.in_ok-found.was ∙ found
