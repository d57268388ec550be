-- What is told of an unload shows nothing loaded.
use Rattle.std.proofs.Common.{◌≡◌, [], ◌∷◌, is_some, ap, sym, subst, ◌∙◌}
use Rattle.base_words.specs.declared.events.Event.TheVariants.{Unload}
use Rattle.shootdown.specs.declared.notes.Note.TheVariants.{Made}
use Rattle.shootdown.specs.Notes.{Token}
use Rattle.guest_core.specs.GuestCalls.{processor_of}
use Rattle.guest_lock.specs.Fits.{Fits}
use Rattle.guest_lock.specs.Told.{shown, with_told}
use Rattle.guest_tests.proofs.guest_lock_turns.Desk.unload.Goals as goal

pub invariant_of-self : goal.invariant_of-self
invariant_of-self g c =
    let before : Token = c.args.self.now.token in
    let told = Made (Unload (processor_of before)) ∷ [] in
    let token : c.unload.new.token ≡ with_told before 0 told = c.unload.ensures in
    let old = c.args.self.now.fits in
    let same : Fits g.N.Starts.starts g.N.Starts.board (with_told before 0 told) = record {
      board_is = old.board_is;
      few = old.few;
      is_processor = old.is_processor;
    } in record {
      fits = subst (λ (t : Token). Fits g.N.Starts.starts g.N.Starts.board t) (sym token) same;
      shows = ap (λ (t : Token). is_some (shown 0 t)) token ∙ ap is_some (c.tokens_grow.ensures.own before 0 told);
    }
