-- A burst goes on, ahead or by a turn, as its notes say.
use Rattle.std.proofs.Common.{rules, ◌≡◌, ◌≤◌, ◌+◌, sym, ap, ◌∙◌, subst, arith}
use Rattle.guest_lock.specs.declared.burst.Burst.{Burst}
use Rattle.guest_lock.specs.Counted.{GoesOnTo}
use Rattle.guest_lock.specs.Fits.{Fits}
use Rattle.guest_lock.specs.Told.{shown, Bursts}
use Rattle.guest_lock.proofs.BurstLemmas.{Goes, goes-ahead, goes-on-none, shown-paused, Bursts-turn, counted-turns, counted-steps}
use Rattle.guest_lock.proofs.kept.Kept.burst.Goals as goal

pub turns_ahead-ahead-requires-after_bounds : goal.turns_ahead-ahead-requires-after_bounds
turns_ahead-ahead-requires-after_bounds g c κs within =
    let i = c.loop-alloc.invariant in
    let start = c.agree.new.token in
    let on : GoesOnTo c.args.steps c.loop-alloc.burst = search rules in
    let same : start ≡ c.args.token.now = c.agree.ensures.same in
    let fits : Fits g.N.Starts.starts g.N.Starts.board start = subst (Fits g.N.Starts.starts g.N.Starts.board) (sym same) c.requires.token in
    let most = c.min-most.ensures in (
      omega arith,
      (
        subst (Fits g.N.Starts.starts g.N.Starts.board) (sym i.told.token) (record { board_is = fits.board_is; few = fits.few; is_processor = fits.is_processor }),
        (
          i.in_step,
          (
            λ e. c.requires.loaded (ap (shown g.row.G) (sym same) ∙ sym (shown-paused start g.row.G c.loop-alloc.burst c.loop-alloc.token i.told on.paused) ∙ e),
            (c.requires.shared, omega (arith, most)),
          ),
        ),
      ),
    )

pub loop-alloc-preserved-then-ahead-gt0 : goal.loop-alloc-preserved-then-ahead-gt0
loop-alloc-preserved-then-ahead-gt0 g c =
    let i = c.loop-alloc.invariant in
    let start = c.agree.new.token in
    let on : GoesOnTo c.args.steps c.loop-alloc.burst = search rules in
    let made = c.turns_ahead-ahead in
    let here : Goes start g.row.G c.args.steps c.then-burst.result made.new.token made.new.self.guest =
    subst (λ (b : Burst). Goes start g.row.G c.args.steps b made.new.token made.new.self.guest) (sym c.then-burst.ensures)
    (goes-ahead start c.loop-alloc.token made.new.token g.row.G c.args.steps c.min-most.result c.loop-alloc.burst made.result c.loop-alloc.self.guest made.new.self.guest
    (record { told = i.told; turns = i.turns; fewer = i.fewer; few = i.few; in_step = i.in_step }) on c.min-most.ensures made.ensures.turns made.ensures.fewer made.ensures.told made.ensures.in_step) in
    record { told = here.told; turns = here.turns; fewer = here.fewer; few = here.few; in_step = here.in_step }

pub turn-requires-after_bounds : goal.turn-requires-after_bounds
turn-requires-after_bounds g c κs within =
    let i = c.loop-alloc.invariant in
    let start = c.agree.new.token in
    let on : GoesOnTo c.args.steps c.loop-alloc.burst = search rules in
    let made = c.turns_ahead-ahead in
    let here : Goes start g.row.G c.args.steps c.then-burst.result made.new.token made.new.self.guest =
    subst (λ (b : Burst). Goes start g.row.G c.args.steps b made.new.token made.new.self.guest) (sym c.then-burst.ensures)
    (goes-ahead start c.loop-alloc.token made.new.token g.row.G c.args.steps c.min-most.result c.loop-alloc.burst made.result c.loop-alloc.self.guest made.new.self.guest
    (record { told = i.told; turns = i.turns; fewer = i.fewer; few = i.few; in_step = i.in_step }) on c.min-most.ensures made.ensures.turns made.ensures.fewer made.ensures.told made.ensures.in_step) in
    let none : made.result.turns ≡ 0 = omega (arith, c.if-ahead-gt0.false) in
    let again : GoesOnTo c.args.steps c.then-burst.result = subst (GoesOnTo c.args.steps) (sym c.then-burst.ensures) (goes-on-none c.args.steps c.loop-alloc.burst made.result on (made.ensures.none none)) in
    let same : start ≡ c.args.token.now = c.agree.ensures.same in
    let fits : Fits g.N.Starts.starts g.N.Starts.board start = subst (Fits g.N.Starts.starts g.N.Starts.board) (sym same) c.requires.token in (
      omega arith,
      (
        subst (Fits g.N.Starts.starts g.N.Starts.board) (sym here.told.token) (record { board_is = fits.board_is; few = fits.few; is_processor = fits.is_processor }),
        (
          here.in_step,
          (
            λ e. c.requires.loaded (ap (shown g.row.G) (sym same) ∙ sym (shown-paused start g.row.G c.then-burst.result made.new.token here.told again.paused) ∙ e),
            c.requires.shared,
          ),
        ),
      ),
    )

pub loop-alloc-preserved : goal.loop-alloc-preserved
loop-alloc-preserved g c =
    let i = c.loop-alloc.invariant in
    let start = c.agree.new.token in
    let on : GoesOnTo c.args.steps c.loop-alloc.burst = search rules in
    let made = c.turns_ahead-ahead in
    let here : Goes start g.row.G c.args.steps c.then-burst.result made.new.token made.new.self.guest =
    subst (λ (b : Burst). Goes start g.row.G c.args.steps b made.new.token made.new.self.guest) (sym c.then-burst.ensures)
    (goes-ahead start c.loop-alloc.token made.new.token g.row.G c.args.steps c.min-most.result c.loop-alloc.burst made.result c.loop-alloc.self.guest made.new.self.guest
    (record { told = i.told; turns = i.turns; fewer = i.fewer; few = i.few; in_step = i.in_step }) on c.min-most.ensures made.ensures.turns made.ensures.fewer made.ensures.told made.ensures.in_step) in
    let none : made.result.turns ≡ 0 = omega (arith, c.if-ahead-gt0.false) in
    let again : GoesOnTo c.args.steps c.then-burst.result = subst (GoesOnTo c.args.steps) (sym c.then-burst.ensures) (goes-on-none c.args.steps c.loop-alloc.burst made.result on (made.ensures.none none)) in
    let was = c.then-burst.result in
    let r = c.turn.result in
    let turns = ap (λ (b : Burst). b.turns) c.count.ensures ∙ counted-turns was r in
    let steps : c.count.new.self.steps ≤ was.steps + 1 = subst (λ (b : Burst). b.steps ≤ was.steps + 1) (sym c.count.ensures) (counted-steps was r) in
    let left = again.left in
    let some = again.fewer in
    let fewer = here.fewer in
    record {
      told = subst (λ b. Bursts start g.row.G b c.turn.new.token) (sym c.count.ensures) (Bursts-turn start g.row.G was made.new.token r c.turn.new.token here.told again.paused c.turn.ensures.told);
      turns = omega arith;
      fewer = omega arith;
      few = omega arith;
      in_step = c.turn.ensures.in_step;
    }
