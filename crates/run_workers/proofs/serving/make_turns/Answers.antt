use Rattle.std.proofs.Common.{rules, ◌≡◌, ◌≤◌, ◌∙◌, sym, ap, subst, arith}
use Rattle.guest_lock.specs.declared.burst.Burst.{Burst}
use Rattle.guest_lock.specs.declared.burst.Stop.TheVariants as stop
use Rattle.guest_lock.specs.Counted.{goes_on}
use Rattle.guest_lock.specs.Fits.{Fits}
use Rattle.guest_lock.specs.Told.{Bursts}
use Rattle.run_workers.proofs.ServingLemmas.{goes_on-twice}
use Rattle.run_workers.proofs.serving.make_turns.Goals as goal

pub burst-burst-requires-after_bounds : goal.burst-burst-requires-after_bounds
burst-burst-requires-after_bounds g c κs within =
    let i = c.loop.invariant in
    let shows = c.bursts_join.ensures.shown c.args.token.now c.loop.token g.row.G c.loop.made i.0 in (
      omega arith,
      (
        subst (Fits g.N.Starts.starts g.N.Starts.board) (sym i.0.token) (record { board_is = c.requires.token.board_is; few = c.requires.token.few; is_processor = c.requires.token.is_processor }),
        (λ e. c.requires.loaded (sym shows ∙ e), c.requires.shared),
      ),
    )

-- a burst more, after which the processor waits where it has to
pub loop-preserved : goal.loop-preserved
loop-preserved g c =
    let i = c.loop.invariant in
    let old = c.args.token.now in
    let new = c.burst-burst.new.token in
    let both = c.then.result in
    let paused : c.loop.made.stop ≡ stop.Paused = search rules in
    let all = subst (λ b. Bursts old g.row.G b new) (sym c.then.ensures) (c.bursts_join.ensures.joined old c.loop.token new g.row.G c.loop.made c.burst-burst.result paused i.0 c.burst-burst.ensures.told) in
    let made = ap (λ (b : Burst). b.steps) c.then.ensures in
    let few : both.steps ≤ c.args.job.steps = omega (arith, made, i.1, c.burst-burst.ensures.few) in
    let rested = c.rested-made.ensures in
    let goes = ap (λ (b : Burst). b.stop) rested in (
      subst (λ b. Bursts old g.row.G b new) (sym rested) (c.bursts_join.ensures.waited old new g.row.G both all),
      subst (λ (b : Burst). b.steps ≤ c.args.job.steps) (sym rested) few,
      goes ∙ sym (goes_on-twice both.stop) ∙ sym (ap goes_on goes),
    )
