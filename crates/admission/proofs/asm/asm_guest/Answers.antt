use Rattle.std.proofs.Common.{◌≡◌, [], false, subst}
use Rattle.private_machine.specs.PrivateRun.{Image}
use Rattle.guest_asm.specs.Assembly.{Assembly, assembly_seen}
use Rattle.admission.specs.Jobs.{asm_image, single_guest}
use Rattle.admission.specs.Started.{IsStarted}
use Rattle.admission.specs.Views.{image_seen}
use Rattle.admission.proofs.StartLemmas.{IsStarted-asm, same_image}
use Rattle.admission.proofs.asm.asm_guest.Goals as goal

pub single_job-requires-clause-started : goal.single_job-requires-clause-started
single_job-requires-clause-started c =
    let assembly : Assembly = assembly_seen c.args.assembled.now in
    let same : asm_image assembly ≡ image_seen c.in-Ok.image = same_image _ _ c.in-Ok.ensures in
    subst (λ (image : Image). IsStarted (single_guest false) (record { image = image; disk = [] })) same (IsStarted-asm assembly)
