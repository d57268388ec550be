-- Each move for which nobody waits is finished, page by page.
use Rattle.std.proofs.Common.{ℕ, ◌<◌, ◌≤◌, length, ◌∙◌, subst, arith}
use Rattle.guest_core.specs.GuestView.{guest_of, shared_by}
use Rattle.guest_core.proofs.ActingLemmas.{are-again}
use Rattle.guest_core.proofs.EndLemmas.{finished-next, still-made, none-left}
use Rattle.guest_core.proofs.parts.Parts.finish_all.Goals as goal

at-most : (a b d : ℕ) → a ≤ b → b ≤ d → a ≤ d
at-most a b d first next = omega (arith, first, next)

pub returns-then-not-is_moving-clause-makes : goal.returns-then-not-is_moving-clause-makes
returns-then-not-is_moving-clause-makes c = still-made (guest_of c.args.self.now) (c.is_moving.ensures.none c.if-not-is_moving.true)

pub finish_ready-requires-clause-shared : goal.finish_ready-requires-clause-shared
finish_ready-requires-clause-shared c =
    are-again (shared_by c.args.resources.now) (guest_of c.args.self.now) (guest_of c.loop-number.self) c.requires.shared c.loop-number.invariant.3

pub loop-number-preserved : goal.loop-number-preserved
loop-number-preserved c =
    let start = guest_of c.args.self.now in
    let now = guest_of c.loop-number.self in
    let new = guest_of c.finish_ready.new.self in
    let so-far = c.loop-number.invariant in
    let e = c.finish_ready.ensures in
    let lt : c.loop-number.number < length start.state.pages = subst (λ (n : ℕ). c.loop-number.number < n) c.len-number-end.ensures c.loop-number-test.true in (
      e.kept,
      finished-next c.run_grows.ensures.run start now new c.loop-number.number c.finish_ready.result lt so-far.1 e.kept.goes_on e.finishes e.hand,
      e.notes ∙ so-far.2,
      record {
        number = e.same.number ∙ so-far.3.number;
        start = e.same.start ∙ so-far.3.start;
        disk = e.same.disk ∙ so-far.3.disk;
        board = e.same.board ∙ so-far.3.board;
        table = e.same.table ∙ so-far.3.table;
        wires = e.same.wires ∙ so-far.3.wires;
        own = e.same.own ∙ so-far.3.own;
      },
      at-most _ _ _ so-far.4 e.room,
      e.handed ∙ so-far.5,
    )

pub returns-clause-none : goal.returns-clause-none
returns-clause-none c =
    let start = guest_of c.args.self.now in
    none-left start (guest_of c.loop-number.self) c.loop-number.number (subst (λ (n : ℕ). n ≤ c.loop-number.number) c.len-number-end.ensures c.loop-number-test.false) c.loop-number.invariant.1
