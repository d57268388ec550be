use Rattle.std.proofs.Common.{rules, refl}
use borrow.Author.Tests.{tests}
use Rattle.std.proofs.lemmas.Iterator.{YieldsList-from_slice}
use Rattle.std.proofs.lemmas.Iterator.Search.{find_from_yields_List}
use Rattle.base_words.specs.Tlb.{page_pair, matches}
use Rattle.guest_tlb.proofs.tlb.Tlb48.lookup.Goals as goal

pub returns-in-None-clause-answer : goal.returns-in-None-clause-answer
returns-in-None-clause-answer c =
    let found = find_from_yields_List (matches (page_pair c.args.address) c.args.asid) _ _ c.find.result c.find.ensures.ran (YieldsList-from_slice c.args.self.now cc) (λ x b q k. search (rules, tests)) in
    rw (← found, c.in-None.is) refl

pub returns-in-Some-clause-answer : goal.returns-in-Some-clause-answer
returns-in-Some-clause-answer c =
    let found = find_from_yields_List (matches (page_pair c.args.address) c.args.asid) _ _ c.find.result c.find.ensures.ran (YieldsList-from_slice c.args.self.now cc) (λ x b q k. search (rules, tests)) in
    rw (← found, c.in-Some.is) cc
