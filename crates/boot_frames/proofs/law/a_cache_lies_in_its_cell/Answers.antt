use Rattle.boot_frames.proofs.CacheLemmas.{cache_inside, cache_exactly}
use Rattle.boot_frames.proofs.law.a_cache_lies_in_its_cell.Goals as goal

pub returns-clause-inside : goal.returns-clause-inside
returns-clause-inside c = λ table layout left cache cell lot some s. cache_inside table layout left cache cell lot some (c.a_nodes_frames_are_a_range.ensures.on layout) s

pub returns-clause-exactly : goal.returns-clause-exactly
returns-clause-exactly c = λ table layout left cache cell lot some s.
    cache_exactly table layout left cache cell lot (cache_inside table layout left cache cell lot some (c.a_nodes_frames_are_a_range.ensures.on layout) s) s
