-- By what a step asks of the page.
use Rattle.isolation_law.proofs.rows.page_words_are_taken.Goals as goal
use Rattle.isolation_law.proofs.StepContent.{words-taken}

pub returns : goal.returns
returns c = words-taken
