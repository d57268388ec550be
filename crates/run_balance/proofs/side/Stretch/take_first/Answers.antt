use Rattle.run_balance.proofs.side.Stretch.take_first.Goals as goal

pub take-requires-clause-deals : goal.take-requires-clause-deals
take-requires-clause-deals c = c.requires.is.2.dealer.deals

pub take-requires-clause-first : goal.take-requires-clause-first
take-requires-clause-first c = c.requires.is.2.dealer.first
