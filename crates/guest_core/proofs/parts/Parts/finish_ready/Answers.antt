-- A page with a move is there, so the guest hasn't ended; and a move that isn't finished waits for somebody.
use Rattle.std.proofs.Common.{◌<◌, length, arith}
use Rattle.guest_course.specs.CourseView.{state_of}
use Rattle.guest_core.proofs.DoneLemmas.{ends-one}
use Rattle.guest_core.proofs.MoveLemmas.{goes-with-page}
use Rattle.guest_core.proofs.parts.Parts.finish_ready.Goals as goal

pub finish-requires-clause-not_ended : goal.finish-requires-clause-not_ended
finish-requires-clause-not_ended c =
    let s = state_of c.args.self.now.course in
    let there : c.args.page.0 < length s.pages = omega (arith, c.if-page-len.false, c.len.ensures) in
    goes-with-page s c.args.self.now.holder.view c.args.page.0 c.requires.kept.frames there

pub returns-clause-finishes : goal.returns-clause-finishes
returns-clause-finishes c =
    let s = state_of c.args.self.now.course in
    let there : c.args.page.0 < length s.pages = omega (arith, c.if-page-len.false, c.len.ensures) in
    let on = goes-with-page s c.args.self.now.holder.view c.args.page.0 c.requires.kept.frames there in
    record {
      done = (ends-one s (state_of c.finish.new.self.course) c.args.page c.finish.ensures.kept.goes_on on c.finish.ensures.makes.makes.run).was;
      makes = c.finish.ensures.makes;
    }
