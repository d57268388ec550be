use Rattle.std.proofs.Common.{◌≡◌, ◌+◌, length, sym, subst, ◌∙◌, arith}
use Rattle.std.proofs.lemmas.Grind.{common_steps}
use Rattle.event_journal.specs.RunCount.{HasRuns}
use Rattle.event_journal.specs.Parts.{runs_in}
use Rattle.event_journal.proofs.CountLemmas.{HasRuns-one}
use Rattle.event_journal.proofs.journal.Journal.runs.Goals as goal

pub returns-in-Some-clause-only : goal.returns-in-Some-clause-only
returns-in-Some-clause-only c = λ n h.
    let j = c.self.inside in
    let all : length (runs_in j.ended.items j.before j.last j.entries) ≡ c.len-ended.result + 1 = grind (arith, common_steps) in
    HasRuns-one _ _ _ (subst (λ v. HasRuns v.entries n) (sym c.self.view_is) h) c.self.invariant.runs ∙ all

pub returns-in-None-clause-only : goal.returns-in-None-clause-only
returns-in-None-clause-only c = λ n h.
    let j = c.self.inside in
    let all : length (runs_in j.ended.items j.before j.last j.entries) ≡ c.len-ended.result = grind (arith, common_steps) in
    HasRuns-one _ _ _ (subst (λ v. HasRuns v.entries n) (sym c.self.view_is) h) c.self.invariant.runs ∙ all
