-- Once there is room, the trap's turn may be made.
use Rattle.std.proofs.Common.{◌≡◌, ℕ, Option, IfSome, subst}
use Rattle.base_words.specs.declared.trap.TrapCause.{TrapCause}
use Rattle.guest_course.specs.CourseView.{state_of}
use Rattle.guest_core.specs.GuestCalls.{TrapsNext}
use Rattle.guest_core.specs.GuestView.{Monitored, guest_of, shared_by}
use Rattle.guest_core.specs.MoveCalls.{IsAtRest}
use Rattle.guest_core.proofs.TurnAhead.{MayTrap, may-trap}
use Rattle.guest_core.proofs.parts.Parts.turn_ahead.Goals as goal

pub trapped-requires-clause-may : goal.trapped-requires-clause-may
trapped-requires-clause-may g c =
    let may : MayTrap (shared_by c.args.resources.now) (guest_of c.has_room.new.self) c.args.token.now c.args.vcpu c.in-Some.cause =
    may-trap (shared_by c.args.resources.now) (guest_of c.args.self.now) (guest_of c.has_room.new.self) c.args.token.now c.args.vcpu c.in-Some.cause c.has_room.ensures.made c.requires.may c.requires.shared (subst (λ (o : Option TrapCause). IfSome o (TrapsNext (guest_of c.args.self.now) c.args.token.now c.args.vcpu)) c.in-Some.is c.requires.traps) in
    may.may

pub trapped-requires-clause-shared : goal.trapped-requires-clause-shared
trapped-requires-clause-shared g c =
    let may : MayTrap (shared_by c.args.resources.now) (guest_of c.has_room.new.self) c.args.token.now c.args.vcpu c.in-Some.cause =
    may-trap (shared_by c.args.resources.now) (guest_of c.args.self.now) (guest_of c.has_room.new.self) c.args.token.now c.args.vcpu c.in-Some.cause c.has_room.ensures.made c.requires.may c.requires.shared (subst (λ (o : Option TrapCause). IfSome o (TrapsNext (guest_of c.args.self.now) c.args.token.now c.args.vcpu)) c.in-Some.is c.requires.traps) in
    may.shared_is

pub trapped-requires-clause-rest : goal.trapped-requires-clause-rest
trapped-requires-clause-rest g c = subst (λ (n : ℕ). IsAtRest (state_of c.has_room.new.self.course) n) c.number-processor.ensures (record { acknowledged = c.in-Nothing.ensures.nobody; finished = c.in-Nothing.ensures.none })
