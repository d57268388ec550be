-- What the guest grants on memory gets its half, unless the page has a move or needs one; all else stays.
use Rattle.std.proofs.Common.{◌≡◌, true≢false, inl, None, Option, Some, length, get_or, refl, sym, ap, ◌∙◌, subst}
use Rattle.std.specs.Option.{option_map, is_some}
use Rattle.base_words.specs.declared.events.Event.TheVariants.{Refill}
use Rattle.private_machine.specs.TrapAccess.{trapped_access, missed_access}
use Rattle.pmap_table.specs.OpenMoves.{told}
use Rattle.isolation_law.specs.GuestState.{page, processor, vcpu_of}
use Rattle.isolation_law.specs.Phases.{all_halted}
use Rattle.private_machine.specs.Vcpu.{no_vcpu}
use Rattle.guest_course.specs.CourseView.{state_of}
use Rattle.guest_course.specs.Granting.{is_miss as is_miss_of, Grants}
use Rattle.guest_course.specs.declared.granting.Granted.{Granted}
use Rattle.trap_emulate.specs.Requests.{wanted_of}
use Rattle.guest_course.proofs.RebackLemmas.{sound-rebacked, loaded-elsewhere, well, is-well}
use Rattle.guest_course.proofs.StepProofs.{goes-on}
use Rattle.guest_course.proofs.TrapLemmas.{missed-if, not-missed}
use Rattle.guest_course.proofs.RefillProofs.{access-is, accessed-same, in-range, denied-accessed, denied-none, stays-denied, refills, reaches-page, store-kept, rests-told}
use Rattle.guest_course.proofs.PlaceLemmas.{loaded-below}
use Rattle.guest_course.proofs.course.Course.give_half.Goals as goal

pub accessed-requires-clause-access : goal.accessed-requires-clause-access
accessed-requires-clause-access c = access-is c.traps_tell.ensures (state_of c.args.self.now) c.args.processor.0 c.args.vcpu.0 c.args.cause c.requires.traps

pub returns-in_default-clause-serves : goal.returns-in_default-clause-serves
returns-in_default-clause-serves c =
    let s = state_of c.args.self.now in
    let x = c.requires.traps in
    let none : trapped_access x.trap ≡ None =
    sym (accessed-same c.traps_tell.ensures s c.args.processor.0 c.args.vcpu.0 c.args.cause c.requires.alive x) ∙ sym c.accessed.ensures.access ∙ ap (option_map wanted_of) c.in_default.is in
    stays-denied s s c.args.processor.0 c.args.vcpu.0 c.args.cause x c.requires.alive (denied-none s c.args.processor.0 c.args.vcpu.0 c.args.cause x none) refl

pub granted-requires-clause-in_range : goal.granted-requires-clause-in_range
granted-requires-clause-in_range c =
    let s = state_of c.args.self.now in
    let x = c.requires.traps in
    in-range s c.args.processor.0 c.args.vcpu.0 c.args.cause x (wanted_of c.in-Some.access)
    (sym (accessed-same c.traps_tell.ensures s c.args.processor.0 c.args.vcpu.0 c.args.cause c.requires.alive x) ∙ sym c.accessed.ensures.access ∙ ap (option_map wanted_of) c.in-Some.is)

pub returns-in_default-granted-clause-serves : goal.returns-in_default-granted-clause-serves
returns-in_default-granted-clause-serves c =
    let s = state_of c.args.self.now in
    let x = c.requires.traps in
    let some : trapped_access x.trap ≡ Some (wanted_of c.in-Some.access) =
    sym (accessed-same c.traps_tell.ensures s c.args.processor.0 c.args.vcpu.0 c.args.cause c.requires.alive x) ∙ sym c.accessed.ensures.access ∙ ap (option_map wanted_of) c.in-Some.is in
    let denied = subst (λ (g : Option Granted). Grants (vcpu_of s c.args.vcpu.0) (length s.pages) (wanted_of c.in-Some.access) g) c.in_default-granted.is c.granted.ensures in
    stays-denied s s c.args.processor.0 c.args.vcpu.0 c.args.cause x c.requires.alive (denied-accessed s c.args.processor.0 c.args.vcpu.0 c.args.cause x (wanted_of c.in-Some.access) some denied) refl

pub returns-then-is_some-clause-serves : goal.returns-then-is_some-clause-serves
returns-then-is_some-clause-serves c =
    let s = state_of c.args.self.now in
    let x = c.requires.traps in
    let some : trapped_access x.trap ≡ Some (wanted_of c.in-Some.access) =
    sym (accessed-same c.traps_tell.ensures s c.args.processor.0 c.args.vcpu.0 c.args.cause c.requires.alive x) ∙ sym c.accessed.ensures.access ∙ ap (option_map wanted_of) c.in-Some.is in
    record {
      reaches = inl (reaches-page s c.args.processor.0 c.args.vcpu.0 c.args.cause x (wanted_of c.in-Some.access) c.in-Some-granted.granted some c.in-Some-granted.ensures);
      moves = λ none. true≢false (sym c.if-is_some.true ∙ c.is_some.ensures ∙ ap is_some (c.open_move.ensures ∙ ap (option_map told) none));
      same = refl;
    }

pub fill-requires : goal.fill-requires
fill-requires c =
    let old = c.args.self.now in
    let s = state_of old in
    let sound = c.requires.sound in
    let runs = c.requires.may.runs.loaded in
    let within = c.in-Some-granted.ensures.within in
    record {
      is_processor = loaded-below old.places.items c.args.processor.0 c.args.vcpu.0 runs;
      few_processors = sound.sized.few_processors;
      is_vcpu = sound.loaded c.args.processor.0 c.args.vcpu.0 runs;
      seconds = sound.sized.seconds;
      is_page = within;
      stands = sound.places;
      cells = sound.sized.dead;
    }

pub returns-then-is_miss-clause-serves : goal.returns-then-is_miss-clause-serves
returns-then-is_miss-clause-serves c =
    let s = state_of c.args.self.now in
    let x = c.requires.traps in
    let some : trapped_access x.trap ≡ Some (wanted_of c.in-Some.access) =
    sym (accessed-same c.traps_tell.ensures s c.args.processor.0 c.args.vcpu.0 c.args.cause c.requires.alive x) ∙ sym c.accessed.ensures.access ∙ ap (option_map wanted_of) c.in-Some.is in
    let missed : missed_access x.trap ≡ trapped_access x.trap = missed-if x.trap (ap is_miss_of x.told ∙ sym c.is_miss.ensures ∙ c.if-is_miss.true) in
    let rests = rests-told (page s c.in-Some-granted.granted.page.0).move (ap is_some (sym c.open_move.ensures) ∙ sym c.is_some.ensures ∙ c.if-is_some.false) in
    refills s (state_of c.fill.new.self) c.args.processor.0 c.args.vcpu.0 c.args.cause c.requires.may x (wanted_of c.in-Some.access) c.in-Some-granted.granted (missed ∙ some) rests
    c.in-Some-granted.ensures c.fill.ensures.filled

pub returns-then-is_miss-clause-sound : goal.returns-then-is_miss-clause-sound
returns-then-is_miss-clause-sound c =
    let old = c.args.self.now in
    let s = state_of old in
    let x = c.requires.traps in
    let going = c.requires.sound.going c.requires.may.goes_on.not_ended in
    let some : trapped_access x.trap ≡ Some (wanted_of c.in-Some.access) =
    sym (accessed-same c.traps_tell.ensures s c.args.processor.0 c.args.vcpu.0 c.args.cause c.requires.alive x) ∙ sym c.accessed.ensures.access ∙ ap (option_map wanted_of) c.in-Some.is in
    let missed : missed_access x.trap ≡ trapped_access x.trap = missed-if x.trap (ap is_miss_of x.told ∙ sym c.is_miss.ensures ∙ c.if-is_miss.true) in
    let rests = rests-told (page s c.in-Some-granted.granted.page.0).move (ap is_some (sym c.open_move.ensures) ∙ sym c.is_some.ensures ∙ c.if-is_some.false) in
    let row = refills s (state_of c.fill.new.self) c.args.processor.0 c.args.vcpu.0 c.args.cause c.requires.may x (wanted_of c.in-Some.access) c.in-Some-granted.granted (missed ∙ some) rests
    c.in-Some-granted.ensures c.fill.ensures.filled in
    let filled = c.fill.ensures.filled in
    sound-rebacked old c.fill.new.self c.requires.sound c.fill.ensures.rebacked
    (λ r u is. c.requires.sound.loaded r u (sym (loaded-elsewhere s.processors c.args.processor.0 r filled.tlb) ∙ subst (λ t. (processor t r).loaded ≡ Some u) filled.after is))
    (λ on. well c.row_keeps.ensures.coherent c.row_keeps.ensures.uses_live s (state_of c.fill.new.self) (Refill c.args.processor) (is-well going) row on)

pub returns-then-is_miss-clause-goes_on : goal.returns-then-is_miss-clause-goes_on
returns-then-is_miss-clause-goes_on c =
    let old = c.args.self.now in
    goes-on old c.fill.new.self (ap (λ l. all_halted l.items) c.fill.ensures.rebacked.vcpus) c.fill.ensures.rebacked.ended c.requires.may.goes_on

pub returns-then-is_miss-clause-runs : goal.returns-then-is_miss-clause-runs
returns-then-is_miss-clause-runs c =
    let s = state_of c.args.self.now in
    let filled = c.fill.ensures.filled in
    record {
      loaded = ap (λ t. (processor t c.args.processor.0).loaded) filled.after ∙ loaded-elsewhere s.processors c.args.processor.0 c.args.processor.0 filled.tlb ∙ c.requires.may.runs.loaded;
      running = ap (λ l. (get_or l.items c.args.vcpu.0 no_vcpu).halted) c.fill.ensures.rebacked.vcpus ∙ c.requires.may.runs.running;
    }

pub need-requires-clause-kept : goal.need-requires-clause-kept
unfolding reaches-page
need-requires-clause-kept c =
    let s = state_of c.args.self.now in
    let x = c.requires.traps in
    let going = c.requires.sound.going c.requires.may.goes_on.not_ended in
    let some : trapped_access x.trap ≡ Some (wanted_of c.in-Some.access) =
    sym (accessed-same c.traps_tell.ensures s c.args.processor.0 c.args.vcpu.0 c.args.cause c.requires.alive x) ∙ sym c.accessed.ensures.access ∙ ap (option_map wanted_of) c.in-Some.is in
    let there = reaches-page s c.args.processor.0 c.args.vcpu.0 c.args.cause x (wanted_of c.in-Some.access) c.in-Some-granted.granted some c.in-Some-granted.ensures in
    store-kept c.read_only_needs.ensures s c.args.processor.0 c.args.vcpu.0 c.in-Some-granted.granted.page.0 going.coherent c.requires.alive c.requires.may.runs.loaded there
    (not-missed x.trap (ap is_miss_of x.told ∙ sym c.is_miss.ensures ∙ c.if-is_miss.false))

pub returns-clause-serves : goal.returns-clause-serves
unfolding reaches-page
returns-clause-serves c =
    let s = state_of c.args.self.now in
    let x = c.requires.traps in
    let some : trapped_access x.trap ≡ Some (wanted_of c.in-Some.access) =
    sym (accessed-same c.traps_tell.ensures s c.args.processor.0 c.args.vcpu.0 c.args.cause c.requires.alive x) ∙ sym c.accessed.ensures.access ∙ ap (option_map wanted_of) c.in-Some.is in
    record {
      reaches = reaches-page s c.args.processor.0 c.args.vcpu.0 c.args.cause x (wanted_of c.in-Some.access) c.in-Some-granted.granted some c.in-Some-granted.ensures;
      alive = c.requires.alive;
      stores = not-missed x.trap (ap is_miss_of x.told ∙ sym c.is_miss.ensures ∙ c.if-is_miss.false);
      needs = c.need.ensures;
      same = refl;
    }
