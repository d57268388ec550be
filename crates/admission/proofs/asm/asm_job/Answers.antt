use Rattle.std.proofs.Common.{rules, List, ℕ}
use Rattle.admission.specs.Chain.{content, longest_text}
use Rattle.admission.specs.Jobs.{asm_checked}
use Rattle.admission.specs.Stages.{Gives, bytes_at, seen}
use Rattle.admission.specs.Views.{job_seen}
use Rattle.admission.proofs.StageChains.{Stage-then, Stage-without}
use Rattle.admission.proofs.NeverReads.{asm_checked-never}
use Rattle.admission.proofs.asm.asm_job.Goals as goal

pub returns-in-Ok-clause-stage : goal.returns-in-Ok-clause-stage
returns-in-Ok-clause-stage g c =
    let new = g.S.Shelf.view c.place_of.new.shelf in
    let kept = c.place_of.new.files in
    let text : List ℕ = bytes_at kept c.in-Ok.place in
    let answer = seen job_seen c.asm_checked.result in
    let gives : Gives answer (asm_checked text) = search rules in
    Stage-then _ new new c.args.files.now kept kept (λ files. content files c.args.name.now longest_text) (λ files t. asm_checked t) text answer c.in-Ok.ensures.stage
    (Stage-without new kept (asm_checked text) answer (asm_checked-never text) gives)
