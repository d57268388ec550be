-- The guest and the token are told the same.
use Rattle.std.proofs.Common.{rules, ◌≡◌, ap, sym, ◌∙◌, subst}
use Rattle.shootdown.specs.Notes.{Token, with_side}
use Rattle.guest_core.specs.GuestCalls.{processor_of, loaded_on, told_of_turn}
use Rattle.guest_lock.specs.Told.{AreInStep}
use Rattle.guest_lock.proofs.Notes.{in_step-learns}
use Rattle.guest_lock.proofs.kept.Kept.turn.Goals as goal
use Rattle.guest_lock.proofs.kept.Kept.turn.Goals.{then-not-is_quiet+in_ok-prepare, else-not-is_quiet}

pub returns-clause-in_step : goal.returns-clause-in_step
returns-clause-in_step g c =
    let was = c.if-not-is_quiet.self.guest in
    let notes : was.notes ≡ c.args.self.now.guest.notes = elim c.if-not-is_quiet.branch [ then-not-is_quiet+in_ok-prepare w ↦ search rules | else-not-is_quiet w ↦ search rules ] in
    let number : was.number ≡ c.args.self.now.guest.number = search rules in
    let token : Token = c.args.token.now in
    let now : Token = c.if-not-is_quiet.token in
    let same : now ≡ token = elim c.if-not-is_quiet.branch [ then-not-is_quiet+in_ok-prepare w ↦ search rules | else-not-is_quiet w ↦ search rules ] in
    let asked : AreInStep token was = ap (λ n. with_side n token.notes) number ∙ c.requires.in_step ∙ ap (with_side token.number) (sym notes) in
    let before : AreInStep now was = subst (λ (t : Token). AreInStep t was) (sym same) asked in
    subst (AreInStep c.turn-turn.new.token) (sym c.mark.ensures)
    (in_step-learns was now (told_of_turn (processor_of now) (loaded_on was now) c.turn-turn.result) c.turn-turn.new.self c.turn-turn.new.token c.turn-turn.ensures.leaves.learns c.turn-turn.ensures.leaves.same.number before)
