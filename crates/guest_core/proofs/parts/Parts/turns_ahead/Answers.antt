-- Steps, and then the turn.
use Rattle.std.proofs.Common.{◌≡◌, ℕ, Option, unwrap_or, sym, ap, subst}
use Rattle.base_words.specs.declared.ids.VcpuId.{VcpuId}
use Rattle.shootdown.specs.Notes.{Token}
use Rattle.guest_core.specs.GuestView.{Monitored, guest_of, shared_by}
use Rattle.guest_core.specs.GuestCalls.{MayTurn, StepsAhead, loaded_on}
use Rattle.guest_core.proofs.TurnAhead.{fewer-by, none-ahead}
use Rattle.guest_core.proofs.parts.Parts.turns_ahead.Goals as goal

pub returns-in_default-clause-ahead : goal.returns-in_default-clause-ahead
returns-in_default-clause-ahead g c = none-ahead (shared_by c.args.resources.now) (guest_of c.args.self.now) c.args.token.now (loaded_on (guest_of c.args.self.now) c.args.token.now)

pub returns-clause-fewer : goal.returns-clause-fewer
returns-clause-fewer g c = fewer-by c.run_ahead-steps.result.steps c.args.most c.run_ahead-steps.result.cause c.turn_ahead-turn.result c.turn_ahead-turn.ensures.caused c.run_ahead-steps.ensures.fewer

pub returns-clause-ahead : goal.returns-clause-ahead
returns-clause-ahead g c =
    let old : Monitored = guest_of c.args.self.now in
    let token : Token = c.args.token.now in
    let mid : Monitored = guest_of c.run_ahead-steps.new.self in
    let between : Token = c.run_ahead-steps.new.token in
    let is : c.in-Some.vcpu ≡ loaded_on old token = ap (λ (o : Option ℕ). record { 0 = unwrap_or o 0 }) (sym c.in-Some.ensures.loaded) in
    record {
      mid = mid;
      between = between;
      steps = subst (λ (v : VcpuId). StepsAhead old token v c.run_ahead-steps.result.steps mid between) is c.run_ahead-steps.ensures.ahead;
      turn = subst (λ (v : VcpuId). MayTurn (shared_by c.args.resources.now) mid between v c.turn_ahead-turn.result (guest_of c.turn_ahead-turn.new.self) c.turn_ahead-turn.new.token) is c.turn_ahead-turn.ensures.turn;
    }
