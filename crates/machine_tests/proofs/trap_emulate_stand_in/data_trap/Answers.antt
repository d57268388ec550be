use Rattle.std.proofs.Common.{rules, true≢false, ap, sym, ◌∙◌}
use Rattle.private_machine.specs.TrapAccess.{is_memory}
use Rattle.trap_emulate.specs.Requests.{wanted_of}
use Rattle.machine_tests.specs.StandIn.{is_address_error}
use Rattle.machine_tests.proofs.StandInLemmas.{data-nowhere-trap, data-miss-trap, read-only-trap}
use Rattle.machine_tests.proofs.trap_emulate_stand_in.data_trap.Goals as goal

pub returns-then-is_address_error : goal.returns-then-is_address_error
returns-then-is_address_error c m v here of_pages =
    data-nowhere-trap m v c.args.vcpu.now c.args.pages c.args.needs c.args.word (wanted_of c.args.access) here c.requires.fetches c.requires.is_plain c.requires.asked
    (ap is_address_error (sym c.place-place.ensures.place) ∙ sym c.is_address_error.ensures ∙ c.if-is_address_error.true)

pub returns-then-address-vcpu : goal.returns-then-address-vcpu
returns-then-address-vcpu c m v here of_pages =
    data-miss-trap m v c.args.vcpu.now c.args.pages c.args.needs c.args.word (wanted_of c.args.access) here of_pages c.requires.fetches c.requires.is_plain c.requires.asked
    (ap is_address_error (sym c.place-place.ensures.place) ∙ sym c.is_address_error.ensures ∙ c.if-is_address_error.false)
    (search rules)
    (ap is_memory (sym c.place-place.ensures.place) ∙ sym c.is_memory.ensures ∙ c.if-is_memory.false)

pub returns-then-not-is_memory : goal.returns-then-not-is_memory
returns-then-not-is_memory c m v here of_pages =
    read-only-trap m v c.args.vcpu.now c.args.pages c.args.needs c.args.word (wanted_of c.args.access) here of_pages c.requires.fetches c.requires.is_plain c.requires.asked
    (ap is_address_error (sym c.place-place.ensures.place) ∙ sym c.is_address_error.ensures ∙ c.if-is_address_error.false)
    c.if-address-vcpu.false (sym c.is_store.ensures ∙ c.if-not-is_store.false)
    (λ granted. absurd (true≢false (sym granted ∙ ap is_memory (sym c.place-place.ensures.place) ∙ sym c.is_memory-2.ensures ∙ c.if-not-is_memory.true)))

pub returns-in-Some : goal.returns-in-Some
returns-in-Some c m v here of_pages =
    read-only-trap m v c.args.vcpu.now c.args.pages c.args.needs c.args.word (wanted_of c.args.access) here of_pages c.requires.fetches c.requires.is_plain c.requires.asked
    (ap is_address_error (sym c.place-place.ensures.place) ∙ sym c.is_address_error.ensures ∙ c.if-is_address_error.false)
    c.if-address-vcpu.false (sym c.is_store.ensures ∙ c.if-not-is_store.false)
    (λ granted none. let it = c.in-Some.is in cc)
