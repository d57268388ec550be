-- The cause is one that the page shows.
use Rattle.std.proofs.Common.{if◌then◌else◌, Bool, Some, sym, ap, ◌∙◌}
use Rattle.base_words.specs.declared.moves.MoveKind.TheVariants.{Migrate, Replicate}
use Rattle.private_machine.specs.Backing.{page_at}
use Rattle.isolation_law.specs.Causes.{by_kind}
use Rattle.isolation_law.specs.Parts.{Shared}
use Rattle.guest_course.specs.SkipView.{wanting}
use Rattle.guest_core.proofs.CauseLemmas.{of-own}
use Rattle.guest_core.proofs.causes.cause_of_page.Goals as goal

pub returns-then-is_shared : goal.returns-then-is_shared
returns-then-is_shared c =
    let course = c.args.course.now in
    let wish = wanting c.args.wish in
    let shared = sym c.is_shared.ensures ∙ c.if-is_shared.true in
    sym (ap (λ (b : Bool). if b then Some Shared else by_kind course.around.site.shape.frames wish.kind wish.node (page_at course.pmap.pages wish.page)) shared)

pub returns-in-Migrate : goal.returns-in-Migrate
returns-in-Migrate c =
    let course = c.args.course.now in
    let wish = wanting c.args.wish in
    let own = sym c.is_shared.ensures ∙ c.if-is_shared.false in
    c.cause_to_migrate.ensures ∙ sym (of-own course.around.site.shape.frames wish.kind Migrate wish.node (page_at course.pmap.pages wish.page) c.in-Migrate.is own)

pub returns-in-Replicate : goal.returns-in-Replicate
returns-in-Replicate c =
    let course = c.args.course.now in
    let wish = wanting c.args.wish in
    let own = sym c.is_shared.ensures ∙ c.if-is_shared.false in
    c.cause_to_replicate.ensures ∙ sym (of-own course.around.site.shape.frames wish.kind Replicate wish.node (page_at course.pmap.pages wish.page) c.in-Replicate.is own)
