-- The act was left of the step that is carried out.
use Rattle.std.proofs.Common.{ℕ, refl, sym, subst}
use Rattle.guest_devs.specs.declared.act.DevAct.{DevAct}
use Rattle.isolation_law.specs.GuestState.{GuestState}
use Rattle.guest_course.specs.CourseView.{state_of}
use Rattle.guest_course.specs.EmulateCalls.{LeavesAct}
use Rattle.course_tests.proofs.guest_course_entries.advance.Goals as goal

again : (s t : GuestState) (p v : ℕ) (act : DevAct) → LeavesAct s p v act t → LeavesAct t p v act t
again s t p v act l = subst (λ (x : GuestState). LeavesAct x p v act x) (sym l.same) (record { traps = l.traps; defers = l.defers; same = refl })

pub act_hurdle-requires-clause-left : goal.act_hurdle-requires-clause-left
act_hurdle-requires-clause-left g c = (0, again (state_of c.step.new.self) (state_of c.serve.new.self) 0 c.args.vcpu.0 c.in-Left.act c.in-Left.ensures.enters)

pub carry_out-requires-clause-left : goal.carry_out-requires-clause-left
carry_out-requires-clause-left g c = (0, again (state_of c.step.new.self) (state_of c.serve.new.self) 0 c.args.vcpu.0 c.in-Left.act c.in-Left.ensures.enters)
