use Rattle.hw_cpu.proofs.KeptLemmas.{reached-backs}
use Rattle.hw_cpu.proofs.laws.reached_frames_back.Goals as goal

pub returns : goal.returns
returns c = reached-backs
