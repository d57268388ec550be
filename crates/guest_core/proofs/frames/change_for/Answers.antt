-- A page that gets a replica has fewer frames than there are nodes, as the asked node has none of them.
use Rattle.std.proofs.Common.{◌≡◌, ℕ, ◌+◌, true, List, [], ◌∷◌, Some, length, refl, sym, ap, ◌∙◌, subst, arith, None}
use Rattle.std.specs.Prelude.{slice_get}
use Rattle.base_words.specs.declared.ids.NodeId.{NodeId}
use Rattle.base_words.specs.declared.moves.MoveKind.{MoveKind}
use Rattle.private_machine.specs.Backing.{copies, lies_on, page_at}
use Rattle.pmap_table.specs.Frames.{copy_of}
use Rattle.isolation_law.specs.CellUse.{held}
use Rattle.isolation_law.specs.Causes.{by_page, first_cause, seeks_frame}
use Rattle.guest_course.specs.CourseView.{state_of, surroundings}
use Rattle.guest_course.specs.SkipView.{wanting}
use Rattle.guest_core.proofs.CauseLemmas.{own-apart, none-of-page, sought-alive, lies-alive, own-page}
use Rattle.guest_core.proofs.FoundLemmas.{has-counts, the-node}
use Rattle.guest_core.proofs.ShapeLemmas.{nodes-of}
use Rattle.guest_core.proofs.SpreadLemmas.{fewer-copies, page-has}
use Rattle.guest_course.specs.declared.course.Course.{Course}
use Rattle.guest_course.specs.declared.place.Wish.{Wish}
use Rattle.base_words.specs.declared.frame.Frame.{Frame}
use Rattle.isolation_law.specs.MoveRows.{LiesAlive}
use Rattle.guest_core.proofs.frames.change_for.Goals as goal

-- the one node of an order
one-node : (order : List NodeId) (node other : NodeId) (place : ℕ) → order ≡ node ∷ [] → slice_get order place ≡ Some other → other.0 ≡ node.0
one-node order node other place one is = the-node node other place (subst (λ (l : List NodeId). slice_get l place ≡ Some other) one is)

-- a frame on the asked node lies in a cell that lives
alive : (c : Course) (wish : Wish) (frame : Frame) (order : List NodeId) (node : NodeId) (place p : ℕ) → c.ended ≡ None → first_cause (state_of c) p (wanting wish) ≡ None → seeks_frame wish.kind ≡ true
    → order ≡ wish.node ∷ [] → slice_get order place ≡ Some node → lies_on (surroundings c.around).frames node.0 (copy_of frame) ≡ true
    → (lies_on (surroundings c.around).frames wish.node.0 (copy_of frame) ≡ true) × LiesAlive (state_of c) (Some (copy_of frame))
alive c wish frame order node place p on none seeks one at lies =
    let here = subst (λ (n : ℕ). lies_on (surroundings c.around).frames n (copy_of frame) ≡ true) (one-node order wish.node node place one at) lies in
    (here, lies-alive (state_of c) wish.node.0 (copy_of frame) here (sought-alive (state_of c) p (wanting wish) none on seeks))

pub returns-in_ok-frame-in-Migrate-clause-taken : goal.returns-in_ok-frame-in-Migrate-clause-taken
returns-in_ok-frame-in-Migrate-clause-taken c =
    let s = state_of c.args.course.now in
    let taken = c.in_ok-frame-in-Migrate.ensures.taken in
    let it = alive c.args.course.now c.args.wish c.in_ok-frame-in-Migrate.frame c.in_ok-order-in-Migrate.order taken.node taken.place c.requires.no_cause.0 c.requires.not_ended c.requires.no_cause.1 (ap seeks_frame c.in-Migrate.is) c.in_ok-order-in-Migrate.ensures taken.ordered taken.lies in
    record {
      is_kind = sym c.in-Migrate.is;
      fits = (it.0, taken.foreign, refl);
      lives = it.1;
      fits_page = own-page s.around.frames c.args.wish.node.0 c.args.wish.kind (page_at c.args.course.now.pmap.pages c.args.wish.page.0) (none-of-page s c.requires.no_cause.0 (wanting c.args.wish) c.requires.no_cause.1 c.requires.not_ended);
      held_too = taken.held_too;
      counted_too = taken.counted_too;
    }

pub returns-in_ok-frame-in-Replicate-clause-taken : goal.returns-in_ok-frame-in-Replicate-clause-taken
returns-in_ok-frame-in-Replicate-clause-taken c =
    let course = c.args.course.now in
    let s = state_of course in
    let a = course.around in
    let q = c.args.wish.page.0 in
    let node = c.args.wish.node.0 in
    let g = page_at course.pmap.pages q in
    let none = ap (λ (k : MoveKind). by_page a.site.shape.frames k node g) (sym c.in-Replicate.is) ∙ none-of-page s c.requires.no_cause.0 (wanting c.args.wish) c.requires.no_cause.1 c.requires.not_ended in
    let apart = own-apart a.site.shape.frames node g none in
    let fewer = fewer-copies s.around g node a.site.shape.has_frames c.requires.node apart.1
    (λ x has. c.requires.holding.within x.frame (has-counts (held s) x (page-has s.pages s.spares q x c.requires.page has))) (c.requires.spread q c.requires.page) in
    let master : length (copies g) ≡ length g.replicas + 1 = omega arith in
    let taken = c.in_ok-frame-in-Replicate.ensures.taken in
    let it = alive course c.args.wish c.in_ok-frame-in-Replicate.frame c.in_ok-order-in-Replicate.order taken.node taken.place c.requires.no_cause.0 c.requires.not_ended c.requires.no_cause.1 (ap seeks_frame c.in-Replicate.is) c.in_ok-order-in-Replicate.ensures taken.ordered taken.lies in
    record {
      is_kind = sym c.in-Replicate.is;
      fits = (it.0, taken.foreign, refl);
      lives = it.1;
      fits_page = (apart.0, omega (arith, fewer, master, nodes-of a, a.site.shape.few_nodes));
      held_too = taken.held_too;
      counted_too = taken.counted_too;
    }
