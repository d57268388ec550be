use Rattle.guest_asm.proofs.Decoded.{all_are_decoded}
use Rattle.guest_asm.proofs.law.words_are_instructions.Goals as goal

pub returns : goal.returns
returns c = all_are_decoded
