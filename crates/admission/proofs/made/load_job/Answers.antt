use Rattle.std.proofs.Common.{◌≡◌, ◌∙◌, ap}
use Rattle.machine_desc.specs.Described.{described_seen}
use Rattle.guest_gen.specs.declared.made.Made.{Made}
use Rattle.guest_gen.specs.Description.{description_text}
use Rattle.guest_gen.specs.Made.{files_of}
use Rattle.admission.specs.Stages.{seen}
use Rattle.admission.specs.Views.{job_seen}
use Rattle.admission.proofs.MadeStage.{load_stage, load_refused}
use Rattle.admission.proofs.made.load_job.Goals as goal

pub returns-in-Ok-described-clause-stage : goal.returns-in-Ok-described-clause-stage
returns-in-Ok-described-clause-stage g c =
    let d = described_seen c.in-Ok-described.machine c.in-Ok-described.plan in
    let text : c.as_slice.result.now ≡ description_text 4 50000 = c.as_slice.ensures ∙ ap (λ (m : Made). m.description) c.in-Ok.ensures.made in
    let hand : c.in-Ok.field-0.files ≡ files_of c.args.seed 4 = ap (λ (m : Made). m.files) c.in-Ok.ensures.made in
    λ files. load_stage c.as_slice.result.now text (g.S.Shelf.view c.args.shelf.now) (g.S.Shelf.view c.guests_of.new.shelf) files c.in-Ok.field-0.files c.guests_of.new.files c.args.seed d
    (seen job_seen c.guests_of.result) hand c.in-Ok-described.ensures.gives c.guests_of.ensures.stage

pub returns-clause-stage : goal.returns-clause-stage
returns-clause-stage g c =
    let text : c.as_slice.result.now ≡ description_text 4 50000 = c.as_slice.ensures ∙ ap (λ (m : Made). m.description) c.in-Ok.ensures.made in
    λ files. load_refused c.as_slice.result.now text (g.S.Shelf.view c.args.shelf.now) files c.args.seed c.in-Err.refusal c.in-Err.ensures.gives
