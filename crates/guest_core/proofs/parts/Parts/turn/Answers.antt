-- A turn is the next entry, or the news that there is none.
use Rattle.std.proofs.Common.{rules, ◌≡◌, ℕ, ◌<◌, Some, unwrap_or, true, length, refl, sym, ap, ◌∙◌, subst}
use Rattle.std.proofs.lemmas.List.{get_or_default}
use Rattle.base_words.specs.declared.ids.VcpuId.{VcpuId}
use Rattle.private_machine.specs.Vcpu.{no_vcpu}
use Rattle.shootdown.specs.declared.notes.Note.TheVariants.{Halted, Ended}
use Rattle.shootdown.specs.declared.view.SidedNote.{SidedNote}
use Rattle.shootdown.specs.Notes.{sided}
use Rattle.private_machine.specs.declared.vcpu.Vcpu.{Vcpu}
use Rattle.isolation_law.specs.GuestState.{processor, vcpu_of}
use Rattle.guest_course.specs.CourseView.{state_of}
use Rattle.guest_core.specs.GuestCalls.{Leaves, processor_of, loaded_on, Turns, told_of_turn}
use Rattle.guest_core.specs.GuestView.{guest_of, shared_by}
use Rattle.guest_core.proofs.KeptProofs.{kept-answer}
use Rattle.guest_core.proofs.EnterProofs.{noted-kept}
use Rattle.guest_core.proofs.parts.Parts.turn.Given.{Over}
use Rattle.guest_core.proofs.parts.Parts.turn.Goals as goal

pub returns-in-Some-clause-kept : goal.returns-in-Some-clause-kept
returns-in-Some-clause-kept g c =
    let old = c.args.self.now in
    let s = state_of old.course in
    let k = c.requires.kept in
    let is = c.in-Some.is in
    let n : SidedNote = sided c.args.token.now.number (Ended c.in-Some.end) in
    let kept = kept-answer c.laws.ensures.runs old.start s old.journal.entries old.seat.notes n k.kept (subst (λ (n : ℕ). c.args.token.now.number < n) (sym k.kept.processors) c.requires.may.notes.is_processor) tt (is, λ same. c.requires.may.before (is ∙ ap Some same)) in
    noted-kept old c.note.new.seat n k c.note.ensures.seat kept

pub returns-then-index-clause-kept : goal.returns-then-index-clause-kept
returns-then-index-clause-kept g c =
    let old = c.args.self.now in
    let s = state_of old.course in
    let k = c.requires.kept in
    let v : VcpuId = c.in-Some-loaded.vcpu in
    let n : SidedNote = sided c.args.token.now.number (Halted v) in
    let there : v.0 < length s.vcpus = k.sound.loaded c.number-2.result.0 v.0 (sym c.in-Some-loaded.ensures) in
    let halted : (vcpu_of s v.0).halted ≡ true = ap (λ (x : Vcpu). x.halted) (get_or_default s.vcpus v.0 no_vcpu c.index.result.now there ∙ sym c.index.ensures) ∙ c.if-index.true in
    let kept = kept-answer c.laws.ensures.runs old.start s old.journal.entries old.seat.notes n k.kept (subst (λ (n : ℕ). c.args.token.now.number < n) (sym k.kept.processors) c.requires.may.notes.is_processor) tt halted in
    noted-kept old c.note-then-index.new.seat n k c.note-then-index.ensures.seat kept

pub returns-then-index-clause-turns : goal.returns-then-index-clause-turns
returns-then-index-clause-turns g c =
    let s = state_of c.args.self.now.course in
    let v = c.in-Some-loaded.vcpu in
    let there : v.0 < length s.vcpus = c.requires.kept.sound.loaded c.number-2.result.0 v.0 (sym c.in-Some-loaded.ensures) in
    let halted : (vcpu_of s v.0).halted ≡ true = ap (λ (x : Vcpu). x.halted) (get_or_default s.vcpus v.0 no_vcpu c.index.result.now there ∙ sym c.index.ensures) ∙ c.if-index.true in
    let same : v.0 ≡ unwrap_or (processor s c.args.token.now.number).loaded 0 = ap (λ l. unwrap_or l 0) (c.in-Some-loaded.ensures ∙ ap (λ (n : ℕ). (processor s n).loaded) c.number-2.ensures) in
    record {
      rest = search rules;
      not_ended = search rules;
      halted = subst (λ (n : ℕ). (vcpu_of s n).halted ≡ true) same halted;
      rests = record { stays = record { journal = refl; state = refl; view = refl }; passes = refl };
    }

-- it is the virtual processor that is loaded
loaded-is : (g : Over) (c : goal.After-enter g) → c.in-Some-loaded.vcpu ≡ loaded_on (guest_of c.args.self.now) c.args.token.now
loaded-is g c = ap (λ l. record { 0 = unwrap_or l 0 }) (c.in-Some-loaded.ensures ∙ ap (λ (n : ℕ). (processor (state_of c.args.self.now.course) n).loaded) c.number-2.ensures)

pub returns-clause-turns : goal.returns-clause-turns
returns-clause-turns g c = subst (λ (v : VcpuId). Turns (shared_by c.args.resources.now) (guest_of c.args.self.now) (processor_of c.args.token.now) v (guest_of c.enter.new.self) c.enter.result) (loaded-is g c) c.enter.ensures.turns

pub returns-clause-leaves : goal.returns-clause-leaves
returns-clause-leaves g c = subst (λ (v : VcpuId). Leaves (guest_of c.args.self.now) c.args.token.now (told_of_turn (processor_of c.args.token.now) v c.enter.result) (guest_of c.enter.new.self) c.enter.new.token) (loaded-is g c) c.enter.ensures.leaves

pub enter-requires-clause-runs : goal.enter-requires-clause-runs
enter-requires-clause-runs g c =
    let s = state_of c.args.self.now.course in
    let v = c.in-Some-loaded.vcpu in
    let there : v.0 < length s.vcpus = c.requires.kept.sound.loaded c.number-2.result.0 v.0 (sym c.in-Some-loaded.ensures) in
    record {
      not_ended = c.in_default.is;
      running = ap (λ (x : Vcpu). x.halted) (get_or_default s.vcpus v.0 no_vcpu c.index.result.now there ∙ sym c.index.ensures) ∙ c.if-index.false;
    }
