-- No frame was found on any node of the order, so the page is sent as it is.
use Rattle.std.proofs.Common.{◌≡◌, List, sym, ap, ◌∙◌, subst}
use Rattle.base_words.specs.declared.ids.NodeId.{NodeId}
use Rattle.node_frames.specs.Layout.{Layout, layout_of}
use Rattle.node_frames.specs.Searches.{Finds, FindsNone}
use Rattle.node_frames.specs.declared.answers.FindFault.{FindFault}
use Rattle.pmap_table.specs.Frames.{copy_of}
use Rattle.isolation_law.specs.Surroundings.{home_cell}
use Rattle.guest_course.specs.Acting.{page_used}
use Rattle.guest_course.specs.CourseView.{state_of}
use Rattle.guest_core.specs.Frames.{Refuses}
use Rattle.guest_core.specs.MoveCalls.{NodesShow}
use Rattle.guest_core.proofs.GivingLemmas.{gives-no-read, gives-used, same-layout, the-layout, spare-alive}
use Rattle.guest_core.proofs.sharing.share_page.Goals as goal

pub returns-in-Err-NoFrame-clause-shares : goal.returns-in-Err-NoFrame-clause-shares
returns-in-Err-NoFrame-clause-shares c =
    let s = state_of c.args.course.now in
    let a = c.args.course.now.around in
    let v = c.args.holder.now.view in
    let u = c.take.new.holder.view in
    let lends = c.args.resources.now.table.now.terms.lends in
    let shows : NodesShow s.around lends (home_cell s.around) c.in_ok-order.order c.in-Err-NoFrame.field-0-0 v u =
    subst (λ (f : FindFault). Refuses s lends (home_cell s.around) c.in_ok-order.order f v u) c.in-Err-NoFrame.field-0-is c.in-Err-NoFrame.ensures.refused in
    let here = the-layout a in
    let same : shows.layout ≡ layout_of a.site.shape = same-layout s.around shows.layout (layout_of a.site.shape) shows.lies here in
    let ordered = c.in_ok-order.ensures.order in
    let at = c.acts_are_at_hand.ensures s s c.requires.left.0 c.args.vcpu.0 c.args.act c.requires.left.1 in
    record {
      none = c.in-Err-NoFrame.ensures.none;
      copies = λ b q reads rests. absurd (gives-no-read s c.args.vcpu.0 c.args.page.0 b q c.args.act c.requires.gives (sym at ∙ reads));
      plain = λ q length to need sends is. record {
        layout = layout_of a.site.shape;
        lies = here;
        shown = c.in-Err-NoFrame.field-0-0;
        finds = subst (λ (l : List NodeId). FindsNone (layout_of a.site.shape) lends (home_cell s.around) l c.in-Err-NoFrame.field-0-0 v u) ordered
            (subst (λ (x : Layout). FindsNone x lends (home_cell s.around) c.in_ok-order.order c.in-Err-NoFrame.field-0-0 v u) same shows.finds);
      };
    }

pub returns-in-Ok-clause-shares : goal.returns-in-Ok-clause-shares
returns-in-Ok-clause-shares c =
    let s = state_of c.args.course.now in
    let a = c.args.course.now.around in
    let v = c.args.holder.now.view in
    let u = c.take.new.holder.view in
    let lends = c.args.resources.now.table.now.terms.lends in
    let spare = copy_of c.in-Ok.spare in
    let took = c.in-Ok.ensures.taken in
    let same : took.finds.layout ≡ layout_of a.site.shape = same-layout s.around took.finds.layout (layout_of a.site.shape) took.finds.lies (the-layout a) in
    record {
      gives = c.requires.gives;
      uses = gives-used s c.args.vcpu.0 c.args.page.0 c.args.act c.requires.gives;
      reached = ap page_used (c.acts_are_at_hand.ensures s s c.requires.left.0 c.args.vcpu.0 c.args.act c.requires.left.1) ∙ gives-used s c.args.vcpu.0 c.args.page.0 c.args.act c.requires.gives;
      is_page = c.requires.page;
      order = c.in_ok-order.order;
      took = took;
      lives = spare-alive s (layout_of a.site.shape) c.in_ok-order.order took.node took.place spare c.in_ok-order.ensures.order took.ordered took.lies;
      spare = record {
        layout = layout_of a.site.shape;
        lies = the-layout a;
        finds = subst (λ (l : List NodeId). Finds (layout_of a.site.shape) lends (home_cell s.around) l spare.frame spare.generation v u) c.in_ok-order.ensures.order
            (subst (λ (x : Layout). Finds x lends (home_cell s.around) c.in_ok-order.order spare.frame spare.generation v u) same took.finds.finds);
      };
    }
