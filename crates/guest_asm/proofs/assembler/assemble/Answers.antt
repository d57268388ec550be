use Rattle.std.proofs.Common.{Result, Ok, rules}
use Rattle.guest_asm.specs.declared.fault.AsmFault.{AsmFault}
use Rattle.guest_asm.specs.declared.assembled.Assembled.{Assembled}
use Rattle.guest_asm.specs.Assembled.{Assembles}
use Rattle.guest_asm.proofs.Agree.{IsAnswer-from}
use Rattle.guest_asm.proofs.assembler.assemble.Goals as goal

pub returns-in_err-words-clause-whole : goal.returns-in_err-words-clause-whole
returns-in_err-words-clause-whole c =
    let answer : Result Assembled AsmFault = c.from_residual-in_err-words.result in
    let lines : Assembles c.args.text.now answer = search rules in
    IsAnswer-from c.args.text.now answer lines

pub returns-clause-whole : goal.returns-clause-whole
returns-clause-whole c =
    let answer : Result Assembled AsmFault = Ok (record { words = c.in_ok-words.words; entry = c.entry-entry.result; image = c.in_ok-image.image }) in
    let lines : Assembles c.args.text.now answer = search rules in
    IsAnswer-from c.args.text.now answer lines
