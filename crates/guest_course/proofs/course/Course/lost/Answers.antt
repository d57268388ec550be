-- The half that names the frame names a page of which it is one.
use Rattle.std.proofs.Common.{inr, refl, sym, ap, ◌∙◌, true≢false, arith}
use Rattle.std.specs.Option.{option_map, is_some}
use Rattle.pmap_table.specs.OpenMoves.{told}
use Rattle.isolation_law.specs.GuestState.{page}
use Rattle.guest_course.specs.CourseView.{state_of}
use Rattle.guest_course.proofs.LiveLemmas.{names-lost, some-half}
use Rattle.guest_course.proofs.PlaceLemmas.{loaded-below}
use Rattle.guest_course.proofs.RefillProofs.{rests-told}
use Rattle.guest_course.proofs.course.Course.lost.Goals as goal

pub index-requires : goal.index-requires
index-requires c = let there = loaded-below c.args.self.now.places.items c.args.processor.0 c.args.vcpu.0 c.requires.may.runs.loaded in omega (arith, there, c.args.self.now.places.ok.0)

pub open_move-requires : goal.open_move-requires
open_move-requires c =
    let it = c.in-Some.ensures.named in
    (names-lost c.args.self.now c.args.processor.0 c.args.vcpu.0 c.args.frame c.index.result.now c.in-Some.page.0 c.requires.sound c.requires.may c.requires.traps c.index.ensures it.0 it.1 it.2 it.3).is_page

pub returns-then-is_some-clause-serves : goal.returns-then-is_some-clause-serves
returns-then-is_some-clause-serves c =
    let it = c.in-Some.ensures.named in
    let n = names-lost c.args.self.now c.args.processor.0 c.args.vcpu.0 c.args.frame c.index.result.now c.in-Some.page.0 c.requires.sound c.requires.may c.requires.traps c.index.ensures it.0 it.1 it.2 it.3 in
    record {
      reaches = inr n.loses;
      moves = λ none. true≢false (sym c.if-is_some.true ∙ c.is_some.ensures ∙ ap is_some (c.open_move.ensures ∙ ap (option_map told) none));
      same = refl;
    }

pub returns-else-is_some-clause-serves : goal.returns-else-is_some-clause-serves
returns-else-is_some-clause-serves c =
    let it = c.in-Some.ensures.named in
    let n = names-lost c.args.self.now c.args.processor.0 c.args.vcpu.0 c.args.frame c.index.result.now c.in-Some.page.0 c.requires.sound c.requires.may c.requires.traps c.index.ensures it.0 it.1 it.2 it.3 in
    record {
      loses = n.loses;
      is_page = n.is_page;
      rests = rests-told (page (state_of c.args.self.now) c.in-Some.page.0).move (ap is_some (sym c.open_move.ensures) ∙ sym c.is_some.ensures ∙ c.if-is_some.false);
      same = refl;
    }

pub unreachable-requires : goal.unreachable-requires
unreachable-requires c =
    some-half c.lost_is_replica.ensures.half c.args.self.now c.args.processor.0 c.args.vcpu.0 c.args.frame c.index.result.now c.requires.may c.requires.traps c.index.ensures c.in-None.ensures.none
