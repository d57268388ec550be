-- Both are private runs of the same machine.
use Rattle.isolation_law.proofs.law.worlds.Goals as goal
use Rattle.isolation_law.proofs.IsolationProofs.{isolated}
use Rattle.isolation_law.proofs.WorldsProofs.{two-worlds, one-vcpu}

pub returns-clause-two : goal.returns-clause-two
returns-clause-two c b d j k t u is_b is_d same run other equal = two-worlds b d j k t u (isolated b j t is_b run) (isolated d k u is_d other) same equal

pub returns-clause-one_vcpu : goal.returns-clause-one_vcpu
returns-clause-one_vcpu c b d j k t u is_b is_d same one run other none none_there count =
    two-worlds b d j k t u (isolated b j t is_b run) (isolated d k u is_d other) same (one-vcpu b d j k t u same one run other none none_there count)
