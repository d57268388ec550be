use Rattle.std.proofs.Common.{rules, List, ℕ, Ok, Result}
use Rattle.admission.specs.declared.faults.Fault.{Fault}
use Rattle.admission.specs.Chain.{content, longest_litmus}
use Rattle.admission.specs.Jobs.{Job, Litmus}
use Rattle.admission.specs.Stages.{Gives, bytes_at, seen}
use Rattle.admission.specs.Views.{job_seen}
use Rattle.admission.proofs.StageChains.{Stage-then, Stage-without}
use Rattle.admission.proofs.job.litmus_job.Goals as goal

pub returns-in-Ok-clause-stage : goal.returns-in-Ok-clause-stage
returns-in-Ok-clause-stage g c =
    let new = g.S.Shelf.view c.place_of.new.shelf in
    let kept = c.place_of.new.files in
    let bytes : List ℕ = bytes_at kept c.in-Ok.place in
    let answer = seen job_seen c.litmus_of.result in
    let job : Result Job Fault = Ok (Litmus bytes) in
    let gives : Gives answer job = search rules in
    Stage-then _ new new c.args.files.now kept kept (λ files. content files c.args.name.now longest_litmus) (λ files b. (let r : Result Job Fault = Ok (Litmus b) in r)) bytes answer c.in-Ok.ensures.stage
    (Stage-without new kept job answer tt gives)
