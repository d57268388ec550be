use Rattle.guest_asm.proofs.Loaded.{all_are_loaded, all_load_words}
use Rattle.guest_asm.proofs.law.images_are_loaded.Goals as goal

pub returns-clause-definitions : goal.returns-clause-definitions
returns-clause-definitions c = all_are_loaded

pub returns-clause-answers : goal.returns-clause-answers
returns-clause-answers c = all_load_words
