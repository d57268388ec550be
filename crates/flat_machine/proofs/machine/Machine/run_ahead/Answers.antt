-- The machine has gone on, and what is left of the window is that of the next step.
use Rattle.std.proofs.Common.{◌≡◌, ◌-◌, ℕ, List, length, get_or, false, refl, ap, sym, ◌∙◌, subst, arith}
use Rattle.std.proofs.lemmas.List.{with_items_is, length-map}
use Rattle.std.specs.Vec.{with_items}
use Rattle.guest_devs.specs.Quiet.{AreQuiet}
use Rattle.private_machine.specs.declared.vcpu.Vcpu.{Vcpu}
use Rattle.private_machine.specs.Vcpu.{no_vcpu, space_of}
use Rattle.private_machine.specs.Showing.{shown_by}
use Rattle.private_machine.specs.PrivateMachine.{PrivateMachine, vcpu}
use Rattle.flat_machine.specs.FlatView.{machine_of}
use Rattle.flat_machine.specs.Parts.{MayGo, Went}
use Rattle.flat_machine.specs.Windows.{AreKept}
use Rattle.flat_machine.proofs.machine.Machine.run_ahead.Goals as goal
use Rattle.flat_machine.proofs.machine.Machine.run_ahead.Goals.{After-window-1}

-- the machine, by its virtual processors and its memory
abbrev by : After-window-1 → List Vcpu → List ℕ → PrivateMachine
by c vcpus memory = record (machine_of c.args.self.now) { memory = memory; vcpus = vcpus }

gone : (c : After-window-1) → Went c.args.vcpu c.args.window.now.quiet c.run_at-made.result (machine_of c.args.self.now) (by c c.run_at-made.new.vcpus c.run_at-made.new.memory)
gone c =
    let m = machine_of c.args.self.now in
    let w = c.requires.window in
    let quiet = c.args.window.now.quiet in
    let made = c.run_at-made in
    let some = c.if-window-eq0.false in
    let few = made.ensures.few in
    let least = c.min.ensures in
    let may : MayGo c.args.vcpu.0 quiet m.pages c.is_open-is_open.result m = record { quiet = w.quiet; running = w.running (omega (arith, some)); pages = refl; opens = sym c.is_open-is_open.ensures } in
    let was : m ≡ by c c.deref_mut.result.now c.deref_mut-2.result.now = λ i. record m { memory = sym c.deref_mut-2.ensures.value i; vcpus = sym c.deref_mut.ensures.value i } in
    subst (λ (n : PrivateMachine). Went c.args.vcpu quiet made.result n (by c made.new.vcpus made.new.memory)) (sym was)
    (made.ensures.went m c.args.vcpu quiet refl (omega (arith, few, least)) (subst (MayGo c.args.vcpu.0 quiet m.pages c.is_open-is_open.result) was may))

vcpus-are : (c : After-window-1) → (with_items c.args.self.now.vcpus c.run_at-made.new.vcpus).items ≡ c.run_at-made.new.vcpus
vcpus-are c =
    let long = sym (length-map c.run_at-made.new.vcpus shown_by) ∙ ap length c.run_at-made.ensures.shows ∙ length-map c.deref_mut.result.now shown_by in
    let was = ap length c.deref_mut.ensures.value in
    with_items_is c.args.self.now.vcpus c.run_at-made.new.vcpus (omega (arith, long, was))

memory-is : (c : After-window-1) → (with_items c.args.self.now.memory c.run_at-made.new.memory).items ≡ c.run_at-made.new.memory
memory-is c =
    let long = c.run_at-made.ensures.whole in
    let was = ap length c.deref_mut-2.ensures.value in
    with_items_is c.args.self.now.memory c.run_at-made.new.memory (omega (arith, long, was))

now-is : (c : After-window-1) → by c c.run_at-made.new.vcpus c.run_at-made.new.memory ≡ by c (with_items c.args.self.now.vcpus c.run_at-made.new.vcpus).items (with_items c.args.self.now.memory c.run_at-made.new.memory).items
now-is c = λ i. by c (sym (vcpus-are c) i) (sym (memory-is c) i)

pub returns-clause-made : goal.returns-clause-made
returns-clause-made c = sym (now-is c) ∙ (gone c).run

pub returns-clause-window : goal.returns-clause-window
returns-clause-window c =
    let v = c.args.vcpu.0 in
    let went = gone c in
    let left = c.args.window.now.quiet - c.run_at-made.result in
    let now : PrivateMachine = by c (with_items c.args.self.now.vcpus c.run_at-made.new.vcpus).items (with_items c.args.self.now.memory c.run_at-made.new.memory).items in
    record {
      quiet = subst (λ (n : PrivateMachine). AreQuiet left v n.vcpus n.devices) (now-is c) went.quiet;
      running = λ some. subst (λ (n : PrivateMachine). (vcpu n v).halted ≡ false) (now-is c) went.running;
      kept = subst (λ (cs : List Vcpu). AreKept (space_of (get_or cs v no_vcpu)) c.args.self.now.pages c.run_at-made.new.kept) (sym (vcpus-are c)) c.run_at-made.ensures.kept;
    }
