use Rattle.frame_words.proofs.TailLemmas.{RefusesShare-longer, RefusesShare-behind, AddsShareRefusal-refuses, RefusesShare-first}
use Rattle.frame_words.proofs.law.a_refused_share_is_the_first_look.Goals as goal

pub returns-clause-refuses : goal.returns-clause-refuses
returns-clause-refuses c v w word under = AddsShareRefusal-refuses v word under w

pub returns-clause-longer : goal.returns-clause-longer
returns-clause-longer c = RefusesShare-longer

pub returns-clause-behind : goal.returns-clause-behind
returns-clause-behind c = RefusesShare-behind

pub returns-clause-first : goal.returns-clause-first
returns-clause-first c = RefusesShare-first
