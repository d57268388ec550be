-- From the page of the last fetch.
use Rattle.std.proofs.Common.{◌≡◌, ◌+◌, ◌-◌, ◌/◌, ◌%◌, ℕ, Option, Ok, sym, ap, ◌∙◌, subst, arith}
use Rattle.base_words.specs.declared.exception.Use.TheVariants.{Fetch}
use Rattle.base_words.specs.declared.place.Place.TheVariants.{Memory}
use Rattle.base_words.specs.Memory.{word_at}
use Rattle.base_words.specs.Place.{place}
use Rattle.private_machine.specs.declared.vcpu.Vcpu.{Vcpu}
use Rattle.private_machine.specs.Vcpu.{space_of}
use Rattle.private_machine.specs.PrivateMachine.{PrivateMachine, vcpu}
use Rattle.private_machine.specs.Links.{word_around}
use Rattle.private_machine.specs.OwnStep.{word_of, led}
use Rattle.flat_machine.specs.declared.window.KeptPage.{KeptPage}
use Rattle.flat_machine.specs.FlatView.{machine_of}
use Rattle.flat_machine.specs.Windows.{IsKeptPage, IsPageOf}
use Rattle.flat_machine.proofs.MachineLemmas.{word_offset-aligned}
use Rattle.flat_machine.proofs.PageLemmas.{page-of}
use Rattle.flat_machine.proofs.machine.Machine.fetch.Goals as goal

pub returns-clause-fetched : goal.returns-clause-fetched
returns-clause-fetched c =
    let m : PrivateMachine = machine_of c.args.self.now in
    let v = c.args.vcpu.0 in
    let now : Vcpu = c.vcpu-vcpu.result.now in
    let pc = now.registers.pc in
    let page = c.in-Some.page in
    let kept : IsPageOf Fetch (space_of (vcpu m v)) m.pages page = subst (λ (o : Option KeptPage). IsKeptPage Fetch (space_of (vcpu m v)) m.pages o) c.in-Some.is c.requires.last in
    let leads = kept.leads 4 pc (sym c.if-page-pc.true) c.if-pc-eq0.true in
    let there : led m v 4 Fetch (vcpu m v).registers.pc ≡ Ok (Memory (page.start + pc % 4096)) = ap (λ (x : Vcpu). place (space_of (vcpu m v)) m.pages 4 Fetch x.registers.pc) (sym c.vcpu-vcpu.ensures) ∙ leads in
    let aligned = word_offset-aligned (page.start + pc % 4096) (omega (arith, kept.aligned, c.if-pc-eq0.true)) in
    ap Ok (c.word_around.ensures ∙ ap (λ (n : ℕ). word_around m (page.start + n)) c.from.ensures ∙ ap (word_at m.memory) aligned) ∙ sym (ap (word_of m) there)

pub returns-in-Ok-Memory-clause-last : goal.returns-in-Ok-Memory-clause-last
returns-in-Ok-Memory-clause-last c =
    let m : PrivateMachine = machine_of c.args.self.now in
    let v = c.args.vcpu.0 in
    let now : Vcpu = c.vcpu-vcpu.result.now in
    let pc = now.registers.pc in
    let offset = c.in-Ok-Memory.offset in
    let there : place (space_of (vcpu m v)) m.pages 4 Fetch pc ≡ Ok (Memory offset) = ap (λ (x : Vcpu). place (space_of x) m.pages 4 Fetch pc) (sym c.vcpu-vcpu.ensures) ∙ sym c.place.ensures.place ∙ c.in-Ok-Memory.is ∙ ap Ok c.in-Ok-Memory.field-0-is in
    subst (λ (n : ℕ). IsPageOf Fetch (space_of (vcpu m v)) m.pages (record { number = pc / 4096; start = offset - n })) (sym c.from-in-Ok-Memory.ensures) (page-of Fetch (space_of (vcpu m v)) m.pages 4 pc offset (rw c.in-Ok-Memory.field-0-is at c.in-Ok-Memory.ensures.physical) there)
