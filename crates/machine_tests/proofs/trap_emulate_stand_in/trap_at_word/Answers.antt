use Rattle.std.proofs.Common.{rules, ◌≡◌, true, false}
use Rattle.private_machine.specs.OwnStep.{is_privileged}
use Rattle.machine_tests.proofs.StandInLemmas.{privileged-trap, raised-trap}
use Rattle.machine_tests.proofs.trap_emulate_stand_in.trap_at_word.Goals as goal

pub returns-then-word-eq16 : goal.returns-then-word-eq16
returns-then-word-eq16 c m v here of_pages =
    let fetches = c.fetches.ensures (search rules) in
    let privileged : is_privileged c.args.word ≡ true = search rules in
    privileged-trap m v c.args.vcpu.now c.args.pages c.args.needs c.args.word here fetches privileged

pub returns-in-Err : goal.returns-in-Err
returns-in-Err c m v here of_pages =
    let fetches = c.fetches.ensures (search rules) in
    let plain : is_privileged c.args.word ≡ false = search rules in
    raised-trap m v c.args.vcpu.now c.args.pages c.args.needs c.args.word c.in-Err.exception here fetches plain (rw c.in-Err.is at c.access_at.ensures)
