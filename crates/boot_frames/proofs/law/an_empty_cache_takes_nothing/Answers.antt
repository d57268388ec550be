use Rattle.boot_frames.proofs.CacheLemmas.{empty_enough, empty_left, empty_lots}
use Rattle.boot_frames.proofs.law.an_empty_cache_takes_nothing.Goals as goal

pub returns-clause-enough : goal.returns-clause-enough
returns-clause-enough c = λ layout cells left. empty_enough layout 0 cells left

pub returns-clause-left : goal.returns-clause-left
returns-clause-left c = λ layout cells left. empty_left layout 0 cells left

pub returns-clause-lots : goal.returns-clause-lots
returns-clause-lots c = λ table layout left cells lots all. empty_lots table layout left 0 cells lots all
