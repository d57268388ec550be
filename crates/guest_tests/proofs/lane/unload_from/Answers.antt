-- What is told of an unload shows nothing loaded.
use Rattle.std.proofs.Common.{◌≡◌, ℕ, [], ◌∷◌, is_some, ap, ◌∙◌}
use Rattle.base_words.specs.declared.events.Event.TheVariants.{Unload}
use Rattle.shootdown.specs.declared.notes.Note.TheVariants.{Made}
use Rattle.shootdown.specs.Notes.{Token}
use Rattle.guest_core.specs.GuestCalls.{processor_of}
use Rattle.guest_core.specs.GuestView.{Monitored}
use Rattle.guest_lock.specs.Told.{shown, with_told}
use Rattle.guest_tests.proofs.lane.unload_from.Goals as goal

pub returns-clause-unloaded : goal.returns-clause-unloaded
returns-clause-unloaded c =
    let g = c.args.guest.now.number in
    let before : Token = c.agree.new.token in
    let told = Made (Unload (processor_of before)) ∷ [] in
    let token : c.unload.new.token ≡ with_told before g told = c.unload.ensures.leaves.learns.token_is ∙ ap (λ (n : ℕ). with_told before n told) (ap (λ (x : Monitored). x.number) c.agree.ensures.same.0) in
    ap (λ (t : Token). is_some (shown g t)) token ∙ ap is_some (c.tokens_grow.ensures.own before g told)
