use Rattle.trap_emulate.proofs.TrapLemmas.{trap-anywhere}
use Rattle.trap_emulate.proofs.WordLemmas.{holds-word}
use Rattle.trap_emulate.proofs.laws.traps_hold.Goals as goal

pub returns-clause-anywhere : goal.returns-clause-anywhere
returns-clause-anywhere c pages vcpus page memory other disk blocks v needs cause it = trap-anywhere pages vcpus page memory other disk blocks v needs cause it

pub returns-clause-word : goal.returns-clause-word
returns-clause-word c m v needs cause trap alike = holds-word m v needs cause trap alike
