-- A load or a store is done as the instruction wants it.
use Rattle.std.proofs.Common.{◌≡◌, ◌%◌, ℕ, false, true, Bool, Ok, refl, sym, ap, ◌∙◌, subst}
use Rattle.base_words.specs.declared.regs.Regs.{Regs}
use Rattle.base_words.specs.declared.effect.Request.{Request}
use Rattle.base_words.specs.declared.effect.Request.TheVariants as asks
use Rattle.base_words.specs.declared.exception.Use.TheVariants as uses
use Rattle.base_words.specs.Instruction.{advanced}
use Rattle.base_words.specs.Merging.{load_unit, store_unit}
use Rattle.private_machine.specs.Backing.{Held}
use Rattle.private_machine.specs.Reaching.{Sight, reached}
use Rattle.hw_tlb.specs.Tlb.{halves}
use Rattle.private_machine.specs.Serving.{AllServe}
use Rattle.hw_cpu.specs.Steps.{sight_of, place_of, wanted_at}
use Rattle.hw_cpu.specs.Runs.{Touched}
use Rattle.hw_cpu.proofs.StoreLemmas.{stored-serves}
use Rattle.hw_cpu.proofs.RunLemmas.{load-touched, store-touched}
use Rattle.hw_cpu.proofs.running.touch_quietly.Goals as goal

pub returns-in-Some-reach_quietly-clause-serves : goal.returns-in-Some-reach_quietly-clause-serves
returns-in-Some-reach_quietly-clause-serves g c =
    subst (λ (h : Held). AllServe h (halves c.args.tlb.now)) (sym c.store.ensures.held)
    (stored-serves (g.B.Bus.site c.args.bus.now).stepping (place_of c.in-Some-reach_quietly.at) c.in-Store.address _ (g.B.Bus.held c.args.bus.now) (halves c.args.tlb.now) (c.in-Some-reach_quietly.ensures.alone refl) c.requires.serves)

pub returns-in-Some-clause-touches : goal.returns-in-Some-clause-touches
returns-in-Some-clause-touches g c so word fetched block =
    let x : Sight = sight_of c.args.mode.user c.args.mode.asid false (halves c.args.tlb.now) (g.B.Bus.site c.args.bus.now) in
    let v = (g.B.Bus.site c.args.bus.now).stepping in
    let held = g.B.Bus.held c.args.bus.now in
    let unnoted : ℕ → ℕ → Bool → Bool = g.U.Unnoted.unnoted c.args.unnoted.now in
    let i = c.in-Load in
    let at = place_of c.in-Some.at in
    let found : reached x (wanted_at uses.Load (load_unit i.kind) i.address) ≡ Ok at = subst (λ (n : ℕ). reached x (wanted_at uses.Load n i.address) ≡ Ok at) c.load_unit.ensures.value c.in-Some.ensures.found in
    subst (λ (r : Request). Touched unnoted x v word fetched block r c.args.regs.now held c.load.new.regs held) (sym i.is)
    (subst (λ (s : Regs). Touched unnoted x v word fetched block (asks.Load i.kind i.address i.target) c.args.regs.now held s held) (sym c.load.ensures) (load-touched unnoted x v word fetched block i.kind i.address i.target at c.args.regs.now held found c.in-Some.ensures.quiet))

pub returns-in-Some-reach_quietly-clause-touches : goal.returns-in-Some-reach_quietly-clause-touches
returns-in-Some-reach_quietly-clause-touches g c so word fetched block =
    let x : Sight = sight_of c.args.mode.user c.args.mode.asid false (halves c.args.tlb.now) (g.B.Bus.site c.args.bus.now) in
    let v = (g.B.Bus.site c.args.bus.now).stepping in
    let held = g.B.Bus.held c.args.bus.now in
    let unnoted : ℕ → ℕ → Bool → Bool = g.U.Unnoted.unnoted c.args.unnoted.now in
    let i = c.in-Store in
    let at = place_of c.in-Some-reach_quietly.at in
    let found : reached x (wanted_at uses.Store (store_unit i.kind) i.address) ≡ Ok at = subst (λ (n : ℕ). reached x (wanted_at uses.Store n i.address) ≡ Ok at) c.store_unit.ensures.value c.in-Some-reach_quietly.ensures.found in
    subst (λ (r : Request). Touched unnoted x v word fetched block r c.args.regs.now held c.advance.new.regs (g.B.Bus.held c.store.new.bus)) (sym i.is)
    (subst (λ (s : Regs). Touched unnoted x v word fetched block (asks.Store i.kind i.address i.value) c.args.regs.now held s (g.B.Bus.held c.store.new.bus)) (sym c.advance.ensures)
    (subst (λ (h : Held). Touched unnoted x v word fetched block (asks.Store i.kind i.address i.value) c.args.regs.now held (advanced c.args.regs.now) h) (sym c.store.ensures.held) (store-touched unnoted x v word fetched block i.kind i.address i.value at c.args.regs.now held found c.in-Some-reach_quietly.ensures.quiet)))
