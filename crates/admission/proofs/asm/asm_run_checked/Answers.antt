use Rattle.std.proofs.Common.{arith}
use Rattle.guest_asm.specs.Assembly.{assembly_of, assembly_seen}
use Rattle.admission.proofs.StartLemmas.{of_text-gave}
use Rattle.admission.proofs.asm.asm_run_checked.Goals as goal

pub asm_guest-requires-clause-loaded : goal.asm_guest-requires-clause-loaded
asm_guest-requires-clause-loaded c =
    let text = c.args.text.now in
    c.images_are_loaded.ensures.definitions text (assembly_seen c.in-Ok.assembled) 16 (of_text-gave (assembly_of text) (assembly_seen c.in-Ok.assembled) c.in-Ok.ensures) (omega arith)
