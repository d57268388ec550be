use Rattle.std.proofs.Common.{◌++◌, get_or, set, ap, sym, subst}
use Rattle.private_machine.specs.declared.vcpu.Vcpu.{Vcpu}
use Rattle.hw_tlb.specs.Tlb.{halves}
use Rattle.guest_course.proofs.BetweenLemmas.{run-at}
use Rattle.guest_course.specs.Failures.{lost_in}
use Rattle.guest_course.specs.Runs.{RunsOn, unnoted_by}
use Rattle.guest_course.proofs.hardware.run_at.Goals as goal

pub returns-clause-runs : goal.returns-clause-runs
returns-clause-runs c =
    let first = c.split_at_mut-before in
    let second = c.split_at_mut-one in
    let made = c.run_between-made in
    let one = second.result.0.now in
    let old = get_or one 0 c.index-one-0.result in
    let lost = lost_in c.args.shape.now c.args.dead.now in
    let unnoted = unnoted_by c.args.notes.now.place.now c.args.notes.now.counters.now in
    subst (λ (x : Vcpu). RunsOn unnoted made.result c.args.vcpu lost c.args.is_open (halves c.args.tlb.now) c.args.pmap.now.pages c.args.vcpus.now made.new.pmap.pages (made.new.before ++ (set one 0 x ++ made.new.after))) (sym c.tick_by.ensures)
    (run-at unnoted lost c.args.pmap.now made.new.pmap c.args.is_open (halves c.args.tlb.now) made.result c.args.vcpu c.args.vcpus.now first.result.0.now first.result.1.now one second.result.1.now made.new.before made.new.after old made.new.current
    first.ensures.value second.ensures.value second.ensures.front_len (ap (λ (x : Vcpu). get_or one 0 x) c.index-one-0.is) first.ensures.front_len made.ensures.current made.ensures.site made.ensures.runs)
