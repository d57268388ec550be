use Rattle.frame_words.proofs.Bags.{times-here, times-else, without_hold, without_else}
use Rattle.frame_words.proofs.TailLemmas.{looked-looked, AreLoads-append, GainNothing-append, borrows_of-append, repays_of-append, loads_gain_nothing, loads_borrow_nothing}
use Rattle.frame_words.proofs.TailLemmas.{AddsRefusal-refuses, Refuses-longer, Refuses-behind, limit_adds, IsAtLimit-longer, IsAtLimit-behind, lost_adds, IsLost-longer, IsLost-behind}
use Rattle.frame_words.proofs.law.holds_and_looks_add_up.Goals as goal

pub returns-clause-holds : goal.returns-clause-holds
returns-clause-holds c = record { more = times-here; more_else = times-else; dropped = without_hold; less_else = without_else }

pub returns-clause-looks : goal.returns-clause-looks
returns-clause-looks c = record {
  looked_twice = looked-looked;
  loads = AreLoads-append;
  nothing = GainNothing-append;
  borrows = borrows_of-append;
  repays = repays_of-append;
  loads_gain_nothing = loads_gain_nothing;
  loads_are_even = loads_borrow_nothing;
}

pub returns-clause-tell : goal.returns-clause-tell
returns-clause-tell c = record {
  refused = AddsRefusal-refuses;
  refused_longer = Refuses-longer;
  refused_behind = Refuses-behind;
  limit = limit_adds;
  limit_longer = IsAtLimit-longer;
  limit_behind = IsAtLimit-behind;
  lost = lost_adds;
  lost_longer = IsLost-longer;
  lost_behind = IsLost-behind;
}
