use Rattle.std.proofs.Common.{refl}
use Rattle.clap.proofs.OnLiterals.{clap_on_literals}
use Rattle.admission.specs.Words.{form_of}
use Rattle.admission.proofs.law.examples.Goals as goal

pub returns-clause-plain : goal.returns-clause-plain
unfolding form_of clap_on_literals
returns-clause-plain c = refl

pub returns-clause-any_order : goal.returns-clause-any_order
unfolding form_of clap_on_literals
returns-clause-any_order c = refl

pub returns-clause-empty_name : goal.returns-clause-empty_name
unfolding form_of clap_on_literals
returns-clause-empty_name c = refl

pub returns-clause-last_dashes : goal.returns-clause-last_dashes
unfolding form_of clap_on_literals
returns-clause-last_dashes c = refl

pub returns-clause-dash_name : goal.returns-clause-dash_name
unfolding form_of clap_on_literals
returns-clause-dash_name c = refl

pub returns-clause-litmus_file : goal.returns-clause-litmus_file
unfolding form_of clap_on_literals
returns-clause-litmus_file c = refl

pub returns-clause-asm_file : goal.returns-clause-asm_file
unfolding form_of clap_on_literals
returns-clause-asm_file c = refl

pub returns-clause-asm_steps : goal.returns-clause-asm_steps
unfolding form_of clap_on_literals
returns-clause-asm_steps c = refl

pub returns-clause-litmus_steps : goal.returns-clause-litmus_steps
unfolding form_of clap_on_literals
returns-clause-litmus_steps c = refl

pub returns-clause-no_words : goal.returns-clause-no_words
unfolding form_of clap_on_literals
returns-clause-no_words c = refl

pub returns-clause-half : goal.returns-clause-half
unfolding form_of clap_on_literals
returns-clause-half c = refl

pub returns-clause-twice : goal.returns-clause-twice
unfolding form_of clap_on_literals
returns-clause-twice c = refl

pub returns-clause-two_forms : goal.returns-clause-two_forms
unfolding form_of clap_on_literals
returns-clause-two_forms c = refl

pub returns-clause-positional : goal.returns-clause-positional
unfolding form_of clap_on_literals
returns-clause-positional c = refl

pub returns-clause-many_steps : goal.returns-clause-many_steps
unfolding form_of clap_on_literals
returns-clause-many_steps c = refl

pub returns-clause-no_seed : goal.returns-clause-no_seed
unfolding form_of clap_on_literals
returns-clause-no_seed c = refl

pub returns-clause-help : goal.returns-clause-help
unfolding form_of clap_on_literals
returns-clause-help c = refl

pub returns-clause-seed : goal.returns-clause-seed
unfolding form_of clap_on_literals
returns-clause-seed c = refl

pub returns-clause-greatest_seed : goal.returns-clause-greatest_seed
unfolding form_of clap_on_literals
returns-clause-greatest_seed c = refl

pub returns-clause-seed_steps : goal.returns-clause-seed_steps
unfolding form_of clap_on_literals
returns-clause-seed_steps c = refl
