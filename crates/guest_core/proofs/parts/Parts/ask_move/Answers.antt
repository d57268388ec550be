-- A move that is asked for is skipped with the first cause that holds, or the page is busy.
use Rattle.std.proofs.Common.{◌≡◌, ℕ, sym, ap, subst, ◌∙◌}
use Rattle.base_words.specs.declared.ids.ProcId.{ProcId}
use Rattle.base_words.specs.declared.moves.By.{By}
use Rattle.isolation_law.specs.Parts.{Wish}
use Rattle.isolation_law.specs.Surroundings.{home_cell}
use Rattle.guest_course.specs.CourseView.{state_of}
use Rattle.guest_course.specs.SkipView.{cause_of}
use Rattle.guest_core.specs.GuestCalls.{processor_of}
use Rattle.guest_core.specs.GuestView.{guest_of}
use Rattle.guest_core.specs.MoveCalls.{AsksBy}
use Rattle.guest_core.specs.declared.parts.Parts.{Parts}
use Rattle.guest_core.proofs.AskLemmas.{skip-asks}
use Rattle.isolation_law.specs.Causes.{first_cause}
use Rattle.guest_core.proofs.parts.Parts.ask_move.Goals as goal

-- the processor is the token's
asked-by : (g : Parts) (p q : ProcId) (wish : Wish) (by : By) → p ≡ q → AsksBy (state_of g.course) p wish by → AsksBy (state_of g.course) q wish by
asked-by g p q wish by same is = subst (λ (r : ProcId). AsksBy (state_of g.course) r wish by) same is

pub returns-in-Some-cause_of_wish-clause-asks : goal.returns-in-Some-cause_of_wish-clause-asks
returns-in-Some-cause_of_wish-clause-asks c =
    let old = guest_of c.args.self.now in
    let cause = c.in-Some-cause_of_wish.cause in
    let wish : Wish = record { page = c.args.page.0; kind = c.args.kind; node = c.args.node.0 } in
    let skip = c.skip-in-Some-cause_of_wish in
    record {
      by = c.asker-by.result;
      asker = asked-by c.args.self.now c.number.result (processor_of c.args.token.now) wish c.asker-by.result (ap (λ (n : ℕ). record { 0 = n }) c.number.ensures) c.asker-by.ensures;
      asks = skip-asks c.args.resources.now.table.now.terms.lends (home_cell c.args.self.now.start.around) old (guest_of skip.new.self) (processor_of c.args.token.now) c.asker-by.result wish (cause_of cause) skip.result skip.ensures.answer
          (ap (λ (n : ℕ). first_cause (state_of c.args.self.now.course) n wish) (sym c.number-2.ensures) ∙ sym c.in-Some-cause_of_wish.ensures) skip.ensures.skips;
      leaves = skip.ensures.leaves;
      acts = skip.ensures.acts;
    }
