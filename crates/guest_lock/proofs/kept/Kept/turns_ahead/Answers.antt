-- The guest and the token are told of the same steps, and of the turn behind them.
use Rattle.std.proofs.Common.{◌≡◌, ◌<◌, ℕ, length, ap, sym, ◌∙◌, subst}
use Rattle.shootdown.specs.Notes.{Token, with_side}
use Rattle.isolation_law.specs.Start.{Boot}
use Rattle.guest_core.specs.GuestView.{Monitored, shared_by}
use Rattle.guest_core.specs.GuestCalls.{loaded_on}
use Rattle.guest_lock.specs.declared.burst.Burst.{Burst}
use Rattle.guest_lock.specs.Counted.{steps_made, turned}
use Rattle.guest_lock.specs.Told.{vcpu_shown, AreInStep, Bursts}
use Rattle.guest_lock.proofs.BurstLemmas.{Bursts-turned, in_step-turned, loaded-shown}
use Rattle.guest_lock.proofs.kept.Kept.turns_ahead.Goals as goal

pub returns-clause-told : goal.returns-clause-told
returns-clause-told g c =
    let token : Token = c.args.token.now in
    let guest : Monitored = c.make_room.new.self in
    let same = c.make_room.ensures.same in
    let number : guest.number ≡ g.row.G = same.number ∙ c.args.self.now.number_is in
    let before : AreInStep token guest = ap (λ (n : ℕ). with_side n token.notes) same.number ∙ c.requires.in_step ∙ ap (with_side token.number) (sym c.make_room.ensures.notes) in
    let there : token.number < length guest.start.around.processors = subst (λ (b : Boot). token.number < length b.around.processors) (sym same.start) (c.requires.token.is_processor g.row.G c.args.self.now.guest.start c.args.self.now.start_is) in
    let vcpu : loaded_on guest token ≡ vcpu_shown g.row.G token = loaded-shown g.row.G guest token number before c.tells_loaded.ensures there in
    let turns = c.turns_ahead-ahead in
    subst (λ (b : Burst). Bursts token g.row.G b turns.new.token) {x = turned (steps_made turns.result.steps) turns.result.turn} (sym c.of.ensures)
    (Bursts-turned token g.row.G (loaded_on guest token) (shared_by c.args.resources.now) guest turns.new.self turns.result turns.new.token number vcpu turns.ensures.ahead)

pub returns-clause-in_step : goal.returns-clause-in_step
returns-clause-in_step g c =
    let token : Token = c.args.token.now in
    let guest : Monitored = c.make_room.new.self in
    let before : AreInStep token guest = ap (λ (n : ℕ). with_side n token.notes) c.make_room.ensures.same.number ∙ c.requires.in_step ∙ ap (with_side token.number) (sym c.make_room.ensures.notes) in
    let turns = c.turns_ahead-ahead in
    subst (AreInStep turns.new.token) (sym c.mark_ahead.ensures)
    (in_step-turned token (loaded_on guest token) (shared_by c.args.resources.now) guest turns.new.self turns.result turns.new.token turns.ensures.ahead before)
