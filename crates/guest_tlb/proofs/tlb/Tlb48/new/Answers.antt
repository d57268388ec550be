use Rattle.std.proofs.Common.{rules}
use Rattle.std.proofs.lemmas.List.FromFn.{fill_by_all}
use Rattle.base_words.specs.Tlb.{entry_at_reset}
use Rattle.guest_tlb.proofs.tlb.Tlb48.new.Goals as goal

pub returns : goal.returns
returns c =
    let made = c.from_fn.ensures.items in
    fill_by_all entry_at_reset c.from_fn.result 48 (entry_at_reset 0) made.long (λ k lt. let called = made.at k (entry_at_reset 0) lt in search (rules, called))
