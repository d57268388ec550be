-- Many steps of a virtual processor are over, which changed nothing else of it.
use Rattle.std.specs.Prelude.{ℕ, zero, suc}
use Rattle.private_machine.specs.declared.vcpu.Vcpu.{Vcpu}
use Rattle.private_machine.specs.Vcpu.{ticking}

abbrev pub ticking_often : ℕ → Vcpu → Vcpu
ticking_often zero c = c
ticking_often (suc n) c = ticking (ticking_often n c)
