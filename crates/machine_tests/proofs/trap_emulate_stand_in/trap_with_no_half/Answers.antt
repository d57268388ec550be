use Rattle.std.proofs.Common.{ap, sym, ◌∙◌}
use Rattle.machine_tests.proofs.StandInLemmas.{line-trap, nowhere-trap, fetch-trap}
use Rattle.machine_tests.specs.StandIn.{is_address_error}
use Rattle.private_machine.specs.TrapAccess.{is_memory}
use Rattle.machine_tests.proofs.trap_emulate_stand_in.trap_with_no_half.Goals as goal

pub returns-then-pending : goal.returns-then-pending
returns-then-pending c needs m v here of_pages = line-trap m v c.args.vcpu.now needs here (sym c.pending.ensures ∙ c.if-pending.true)

pub returns-then-is_address_error : goal.returns-then-is_address_error
returns-then-is_address_error c needs m v here of_pages =
    nowhere-trap m v c.args.vcpu.now c.args.pages needs here (sym c.pending.ensures ∙ c.if-pending.false)
    (ap is_address_error (sym c.place-place.ensures.place) ∙ sym c.is_address_error.ensures ∙ c.if-is_address_error.true)

pub returns : goal.returns
returns c needs m v here of_pages =
    fetch-trap m v c.args.vcpu.now c.args.pages needs here of_pages (sym c.pending.ensures ∙ c.if-pending.false)
    (ap is_address_error (sym c.place-place.ensures.place) ∙ sym c.is_address_error.ensures ∙ c.if-is_address_error.false)
    (ap is_memory (sym c.place-place.ensures.place) ∙ sym c.is_memory.ensures ∙ c.if-is_memory.false)
