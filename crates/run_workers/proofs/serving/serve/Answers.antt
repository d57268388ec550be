use Rattle.std.proofs.Common.{rules, ◌≡◌, ◌∷◌, [], ◌∙◌, sym, subst, arith, Some, None, ℕ, ◌==◌, if◌then◌else◌, List, Ok}
use Rattle.base_words.specs.declared.events.Event.TheVariants.{Load}
use Rattle.shootdown.specs.declared.notes.Note.TheVariants.{Made, Ended, Dead}
use Rattle.shootdown.specs.Notes.{Token}
use Rattle.guest_core.specs.GuestCalls.{processor_of}
use Rattle.guest_lock.specs.Fits.{Fits}
use Rattle.guest_lock.specs.Told.{with_told, shown, NamesCell}
use Rattle.run_workers.specs.Working.{cell_in, Serves}
use Rattle.run_workers.proofs.ServingLemmas.{loaded-shown, served-done, served-none, cause-ended, cause-dead}
use Rattle.std.specs.Prelude.{slice_get}
use Rattle.base_words.specs.declared.ids.CellId.{CellId}
use Rattle.isolation_law.specs.Start.{Boot}
use Rattle.isolation_law.specs.Surroundings.{cell_of_processor}
use Rattle.guest_core.specs.declared.records.Cut.TheVariants.{Whole, GuestEnded, CellFailed}
use Rattle.guest_core.specs.declared.records.SliceRecord.{SliceRecord}
use Rattle.guest_core.specs.declared.answers.Loaded.{Loaded}
use Rattle.guest_core.specs.declared.answers.Loaded.TheVariants as loaded
use Rattle.plan_due.specs.Stops as at_end
use Rattle.run_workers.proofs.serving.serve.Goals as goal

pub make_turns-burst-requires-after_bounds : goal.make_turns-burst-requires-after_bounds
make_turns-burst-requires-after_bounds g c κs within =
    let old = c.args.token.now in
    let p = processor_of old in
    let load : c.load.new.token ≡ with_told old g.row.G (Made (Load p c.args.job.vcpu) ∷ []) = search rules in
    let is = loaded-shown c.tokens_grow.ensures.own old c.load.new.token g.row.G p c.args.job.vcpu load in (
      omega arith,
      (
        subst (Fits g.N.Starts.starts g.N.Starts.board) (sym load) (record { board_is = c.requires.token.board_is; few = c.requires.token.few; is_processor = c.requires.token.is_processor }),
        (λ e. (let both : Some c.args.job.vcpu.0 ≡ None = sym is ∙ e in absurd cc), c.requires.shared),
      ),
    )

pub unload-requires : goal.unload-requires
unload-requires g c =
    let old = c.args.token.now in
    let p = processor_of old in
    let load : c.load.new.token ≡ with_told old g.row.G (Made (Load p c.args.job.vcpu) ∷ []) = search rules in
    let bursts = c.make_turns-burst.ensures.told in
    let is = loaded-shown c.tokens_grow.ensures.own old c.load.new.token g.row.G p c.args.job.vcpu load in
    let same : shown g.row.G c.make_turns-burst.new.token ≡ shown g.row.G c.load.new.token = c.bursts_join.ensures.shown c.load.new.token c.make_turns-burst.new.token g.row.G c.make_turns-burst.result bursts in
    let fits : Fits g.N.Starts.starts g.N.Starts.board c.load.new.token = subst (λ (t : Token). Fits g.N.Starts.starts g.N.Starts.board t) (sym load) (record { board_is = c.requires.token.board_is; few = c.requires.token.few; is_processor = c.requires.token.is_processor }) in (
      omega arith,
      (
        subst (Fits g.N.Starts.starts g.N.Starts.board) (sym bursts.token) (record { board_is = fits.board_is; few = fits.few; is_processor = fits.is_processor }),
        λ e. (let both : Some c.args.job.vcpu.0 ≡ None = sym is ∙ sym same ∙ e in absurd cc),
      ),
    )

pub returns-in_ok-cut_of-in-Done-clause-served : goal.returns-in_ok-cut_of-in-Done-clause-served
returns-in_ok-cut_of-in-Done-clause-served g c =
    let old = c.args.token.now in
    let job = c.args.job in
    let cell = cell_in g.N.Starts.starts old.number in
    let load : c.load.new.token ≡ with_told old g.row.G (Made (Load (processor_of old) job.vcpu) ∷ []) = search rules in
    served-done c.tokens_grow.ensures.more c.tokens_grow.ensures.own g.row.G cell job.item job.steps job.vcpu old c.load.new.token c.make_turns-burst.new.token c.unload.new.token c.make_turns-burst.result c.in_ok-cut_of-in-Done.field-0 load c.make_turns-burst.ensures.told
    c.unload.ensures (c.in_ok-cut_of-in-Done.ensures cell)

pub returns-in-Ended-clause-served : goal.returns-in-Ended-clause-served
returns-in-Ended-clause-served g c =
    let old = c.args.token.now in
    let job = c.args.job in
    let cell = cell_in g.N.Starts.starts old.number in
    let end = c.in-Ended.end in
    let token : c.load.new.token ≡ with_told old g.row.G (Ended end ∷ []) = search rules in
    subst (λ (s : SliceRecord). Serves cell job.item job.vcpu job.steps old g.row.G s c.load.new.token) (sym c.without_steps.ensures)
    (served-none g.row.G cell job.item job.steps job.vcpu old c.load.new.token (at_end.GuestEnded end) (if job.steps == 0 then Whole else GuestEnded end) token (cause-ended cell job.steps end))

-- the cell is that of the processor, as the guest is told
dead-own : (starts : List Boot) (g p : ℕ) (dead : CellId) (l : Loaded) → l ≡ loaded.Dead dead → NamesCell starts g p (Ok l) → (b : Boot) → slice_get starts g ≡ Some b → dead.0 ≡ cell_of_processor b.around p
dead-own starts g p dead l is names = subst (λ (x : Loaded). NamesCell starts g p (Ok x)) is names

pub returns-in-Dead-clause-served : goal.returns-in-Dead-clause-served
returns-in-Dead-clause-served g c =
    let old = c.args.token.now in
    let job = c.args.job in
    let starts = g.N.Starts.starts in
    let cell = cell_in starts old.number in
    let dead = c.in-Dead.cell in
    let place = c.requires.place in
    let own : dead.0 ≡ cell = dead-own starts g.row.G old.number dead c.in_ok-load.field-0 c.in-Dead.is c.in_ok-load.ensures.cell place.start place.named ∙ c.requires.cells g.row.G place.start place.named old.number in
    let token : c.load.new.token ≡ with_told old g.row.G (Dead dead ∷ []) = search rules in
    subst (λ (s : SliceRecord). Serves cell job.item job.vcpu job.steps old g.row.G s c.load.new.token) (sym c.without_steps-in-Dead.ensures)
    (served-none g.row.G cell job.item job.steps job.vcpu old c.load.new.token (at_end.CellDead dead) (if job.steps == 0 then Whole else CellFailed dead) token (cause-dead cell job.steps dead own))
