-- The frame that was held or found is the guest's with the move that has begun.
use Rattle.std.proofs.Common.{rules, ◌≡◌, inr, ℕ, ◌++◌, ◌∷◌, [], Ok, refl, ap, ◌∙◌, subst, arith}
use Rattle.base_words.specs.declared.events.Event.{Event}
use Rattle.base_words.specs.declared.events.Event.TheVariants.{Begin}
use Rattle.base_words.specs.declared.frame.Frame.{Frame}
use Rattle.base_words.specs.declared.frame.SharedFrame.{SharedFrame}
use Rattle.base_words.specs.declared.ids.NodeId.{NodeId}
use Rattle.base_words.specs.declared.ids.Ppn.{Ppn}
use Rattle.base_words.specs.declared.moves.By.TheVariants.{Step}
use Rattle.base_words.specs.declared.moves.MoveKind.TheVariants.{TakeShared, GiveShared}
use Rattle.cell_depend.specs.Counters.{UsesState}
use Rattle.frame_words.specs.declared.view.View.{View}
use Rattle.guest_devs.specs.declared.act.DevAct.{DevAct}
use Rattle.isolation_law.specs.GuestState.{GuestState}
use Rattle.private_machine.specs.Backing.{Change, TakesShared, GivesShared}
use Rattle.private_machine.specs.PageMove.{gained}
use Rattle.pmap_table.specs.Frames.{copy_of, shared_copy_of}
use Rattle.isolation_law.specs.Exchange.{Exchanged}
use Rattle.isolation_law.specs.Surroundings.{Surroundings}
use Rattle.isolation_law.specs.UseChange.{UseChanged}
use Rattle.guest_course.specs.Acting.{page_used}
use Rattle.guest_course.specs.CourseView.{state_of}
use Rattle.guest_core.specs.GuestView.{Shared, shared_by}
use Rattle.guest_core.specs.TurnParts.{GivesPage, SharesPage, TakesPage}
use Rattle.guest_core.specs.declared.sharing.Sharing.{Sharing}
use Rattle.guest_core.specs.declared.sharing.Sharing.TheVariants as shares
use Rattle.guest_core.proofs.EnterProofs.{handed-same, one-row}
use Rattle.guest_core.proofs.GainLemmas.{does-begun, same-begun}
use Rattle.guest_core.proofs.KeptProofs.{begin-due}
use Rattle.guest_core.proofs.MoveLemmas.{begun-made, kept-made}
use Rattle.guest_core.proofs.RoomLemmas.{UsesCall, no-more, room-used}
use Rattle.guest_core.proofs.parts.Parts.share_first.Goals as goal

-- what the answer says
gives : (shared : Shared) (disk v : ℕ) (s : GuestState) (act : DevAct) (x : Sharing) (q : Ppn) (spare : Frame) (old new : View) (before after : UsesState) → x ≡ shares.Give q spare → SharesPage shared disk s v act (Ok x) old new before after
    → GivesPage shared s v act q.0 spare old new after
gives shared disk v s act x q spare old new before after is page = subst (λ (y : Sharing). SharesPage shared disk s v act (Ok y) old new before after) is page

takes : (shared : Shared) (disk v : ℕ) (s : GuestState) (act : DevAct) (x : Sharing) (b : ℕ) (q : Ppn) (frame : SharedFrame) (old new : View) (before after : UsesState) → x ≡ shares.Take b q frame → SharesPage shared disk s v act (Ok x) old new before after
    → TakesPage shared disk s v act b q.0 frame old new after
takes shared disk v s act x b q frame old new before after is page = subst (λ (y : Sharing). SharesPage shared disk s v act (Ok y) old new before after) is page

pub share_for-requires-clause-spread : goal.share_for-requires-clause-spread
share_for-requires-clause-spread c = c.frames_spread.ensures c.args.self.now.start c.args.self.now.journal.entries _ c.requires.kept.booted c.requires.kept.kept.run

pub begin_to_give-requires-clause-page : goal.begin_to_give-requires-clause-page
begin_to_give-requires-clause-page c = (gives (shared_by c.args.resources.now) c.args.self.now.disk c.args.vcpu.0 (state_of c.args.self.now.course) c.args.act c.in_ok-sharing.sharing c.in-Give.page c.in-Give.spare c.args.self.now.holder.view c.share_for.new.holder.view c.args.self.now.uses c.share_for.new.uses c.in-Give.is c.in_ok-sharing.ensures.shares).is_page

pub begin_to_give-requires-clause-rests : goal.begin_to_give-requires-clause-rests
begin_to_give-requires-clause-rests c = c.requires.free c.in-Give.page.0 (gives (shared_by c.args.resources.now) c.args.self.now.disk c.args.vcpu.0 (state_of c.args.self.now.course) c.args.act c.in_ok-sharing.sharing c.in-Give.page c.in-Give.spare c.args.self.now.holder.view c.share_for.new.holder.view c.args.self.now.uses c.share_for.new.uses c.in-Give.is c.in_ok-sharing.ensures.shares).uses

pub returns-in-Take-clause-kept : goal.returns-in-Take-clause-kept
returns-in-Take-clause-kept c =
    let old = c.args.self.now in
    let d = c.begin_for_block.new.self in
    let s = state_of old.course in
    let t = state_of d in
    let k = c.requires.kept in
    let q = c.in-Take.page in
    let target = shared_copy_of c.in-Take.frame in
    let home : NodeId = record { 0 = s.around.home } in
    let by = Step c.args.processor in
    let e : Event = Begin q TakeShared home by in
    let row = c.begin_for_block.ensures.begins in
    let w = c.laws.ensures.rows in
    let changes : row.change ≡ TakesShared target = same-begun s t q.0 TakeShared s.around.home by (TakesShared target) _ _ row c.begin_for_block.ensures.opened in
    let ex : Exchanged s t (target ∷ []) [] = subst (λ (x : Change). Exchanged s t (gained x) []) changes (c.exchanges.ensures.begins s t q.0 TakeShared s.around.home by row) in
    let used : UseChanged s t (target ∷ []) [] = subst (λ (x : Change). UseChanged s t (gained x) []) changes (c.uses_change.ensures.begins s t q.0 TakeShared s.around.home by row) in
    let entry : c.begin_entry.result ≡ e = c.begin_entry.ensures ∙ ap (λ (x : Surroundings). Begin q TakeShared (record { 0 = x.home }) by) (w.around s t e row) in
    let page = takes (shared_by c.args.resources.now) c.args.self.now.disk c.args.vcpu.0 (state_of c.args.self.now.course) c.args.act c.in_ok-sharing.sharing c.in-Take.block c.in-Take.page c.in-Take.frame c.args.self.now.holder.view c.share_for.new.holder.view c.args.self.now.uses c.share_for.new.uses c.in-Take.is c.in_ok-sharing.ensures.shares in
    kept-made old e d c.share_for.new.holder c.share_for.new.uses c.push.new.self k
    (begun-made w c.laws.ensures.runs c.laws.ensures.moves c.laws.ensures.takes old d c.share_for.new.holder c.share_for.new.uses c.push.new.self q TakeShared home by (target ∷ []) k c.requires.room c.begin_for_block.ensures.sound c.begin_for_block.ensures.goes_on row ex used
    page.holds.held_too page.holds.counted_too refl (c.push.ensures.entries ∙ ap (λ (x : Event). old.journal.entries ++ x ∷ []) entry) c.push.ensures.room)

pub returns-in-Give-clause-kept : goal.returns-in-Give-clause-kept
returns-in-Give-clause-kept c =
    let old = c.args.self.now in
    let d = c.begin_to_give.new.self in
    let s = state_of old.course in
    let t = state_of d in
    let k = c.requires.kept in
    let q = c.in-Give.page in
    let target = copy_of c.in-Give.spare in
    let home : NodeId = record { 0 = s.around.home } in
    let by = Step c.args.processor in
    let e : Event = Begin q GiveShared home by in
    let row = c.begin_to_give.ensures.begins in
    let w = c.laws.ensures.rows in
    let changes : row.change ≡ GivesShared target = same-begun s t q.0 GiveShared s.around.home by (GivesShared target) _ _ row c.begin_to_give.ensures.opened in
    let ex : Exchanged s t (target ∷ []) [] = subst (λ (x : Change). Exchanged s t (gained x) []) changes (c.exchanges.ensures.begins s t q.0 GiveShared s.around.home by row) in
    let used : UseChanged s t (target ∷ []) [] = subst (λ (x : Change). UseChanged s t (gained x) []) changes (c.uses_change.ensures.begins s t q.0 GiveShared s.around.home by row) in
    let entry : c.begin_entry-in-Give.result ≡ e = c.begin_entry-in-Give.ensures ∙ ap (λ (x : Surroundings). Begin q GiveShared (record { 0 = x.home }) by) (w.around s t e row) in
    let took = (gives (shared_by c.args.resources.now) c.args.self.now.disk c.args.vcpu.0 (state_of c.args.self.now.course) c.args.act c.in_ok-sharing.sharing c.in-Give.page c.in-Give.spare c.args.self.now.holder.view c.share_for.new.holder.view c.args.self.now.uses c.share_for.new.uses c.in-Give.is c.in_ok-sharing.ensures.shares).took in
    kept-made old e d c.share_for.new.holder c.share_for.new.uses c.push-in-Give.new.self k
    (begun-made w c.laws.ensures.runs c.laws.ensures.moves c.laws.ensures.takes old d c.share_for.new.holder c.share_for.new.uses c.push-in-Give.new.self q GiveShared home by (target ∷ []) k c.requires.room c.begin_to_give.ensures.sound c.begin_to_give.ensures.goes_on row ex used
    took.held_too took.counted_too refl (c.push-in-Give.ensures.entries ∙ ap (λ (x : Event). old.journal.entries ++ x ∷ []) entry) c.push-in-Give.ensures.room)

pub returns-in-Take-clause-shares : goal.returns-in-Take-clause-shares
returns-in-Take-clause-shares c =
    let s = state_of c.args.self.now.course in
    let t = state_of c.begin_for_block.new.self in
    let page = takes (shared_by c.args.resources.now) c.args.self.now.disk c.args.vcpu.0 (state_of c.args.self.now.course) c.args.act c.in_ok-sharing.sharing c.in-Take.block c.in-Take.page c.in-Take.frame c.args.self.now.holder.view c.share_for.new.holder.view c.args.self.now.uses c.share_for.new.uses c.in-Take.is c.in_ok-sharing.ensures.shares in
    let row = c.begin_for_block.ensures.begins in
    let entry = c.begin_entry.ensures ∙ ap (λ (x : Surroundings). Begin c.in-Take.page TakeShared (record { 0 = x.home }) (Step c.args.processor)) (c.laws.ensures.rows.around s t (Begin c.in-Take.page TakeShared (record { 0 = s.around.home }) (Step c.args.processor)) row) in
    record {
      rest = c.requires.rest;
      step = inr (ap page_used page.takes.reads);
      kind = TakeShared;
      shares = inr (record { copy = shared_copy_of c.in-Take.frame; takes = page.takes; into = does-begun s t c.in-Take.page.0 (TakesShared (shared_copy_of c.in-Take.frame)) _ _ page.may.is_page c.begin_for_block.ensures.opened });
      makes = search rules;
    }

pub returns-in-Give-clause-shares : goal.returns-in-Give-clause-shares
returns-in-Give-clause-shares c =
    let s = state_of c.args.self.now.course in
    let t = state_of c.begin_to_give.new.self in
    let page = gives (shared_by c.args.resources.now) c.args.self.now.disk c.args.vcpu.0 (state_of c.args.self.now.course) c.args.act c.in_ok-sharing.sharing c.in-Give.page c.in-Give.spare c.args.self.now.holder.view c.share_for.new.holder.view c.args.self.now.uses c.share_for.new.uses c.in-Give.is c.in_ok-sharing.ensures.shares in
    let row = c.begin_to_give.ensures.begins in
    let entry = c.begin_entry-in-Give.ensures ∙ ap (λ (x : Surroundings). Begin c.in-Give.page GiveShared (record { 0 = x.home }) (Step c.args.processor)) (c.laws.ensures.rows.around s t (Begin c.in-Give.page GiveShared (record { 0 = s.around.home }) (Step c.args.processor)) row) in
    record {
      rest = c.requires.rest;
      step = inr page.reached;
      kind = GiveShared;
      shares = inr (record { spare = copy_of c.in-Give.spare; found = page.spare; into = does-begun s t c.in-Give.page.0 (GivesShared (copy_of c.in-Give.spare)) _ _ page.is_page c.begin_to_give.ensures.opened });
      makes = record {
        makes = record { journal = c.push-in-Give.ensures.entries ∙ ap (λ (x : Event). c.args.self.now.journal.entries ++ x ∷ []) entry; run = one-row s t (Begin c.in-Give.page GiveShared (record { 0 = s.around.home }) (Step c.args.processor)) row };
        passes = refl;
      };
    }

pub returns-in-Give-clause-quiet : goal.returns-in-Give-clause-quiet
returns-in-Give-clause-quiet c =
    let old = c.args.self.now in
    let d = c.begin_to_give.new.self in
    let e = c.begin_to_give.ensures in
    let uses : UsesCall old.course d = record {
      print_room = omega (arith, e.print_room);
      send_room = omega (arith, e.send_room);
      cells = no-more _ _ e.cells;
      received = no-more _ _ e.packets.received;
      discarded = no-more _ _ e.packets.discarded;
      begins = omega (arith, e.room);
      skips = no-more _ _ e.skips;
    } in
    record {
      notes = refl;
      same = record { number = refl; start = refl; disk = refl; board = refl; table = c.in_ok-sharing.ensures.same; wires = refl; own = refl };
      handed = handed-same old.course d e.packets.hand;
      room = room-used _ _ old.course d uses
          (omega (arith, begin-due c.laws.ensures.rows c.laws.ensures.moves (state_of old.course) (state_of d) c.in-Give.page GiveShared (record { 0 = (state_of old.course).around.home }) (Step c.args.processor) e.begins, c.push-in-Give.ensures.room));
    }

pub returns-in-Take-clause-quiet : goal.returns-in-Take-clause-quiet
returns-in-Take-clause-quiet c =
    let old = c.args.self.now in
    let d = c.begin_for_block.new.self in
    let e = c.begin_for_block.ensures in
    let uses : UsesCall old.course d = record {
      print_room = omega (arith, e.print_room);
      send_room = omega (arith, e.send_room);
      cells = no-more _ _ e.cells;
      received = no-more _ _ e.packets.received;
      discarded = no-more _ _ e.packets.discarded;
      begins = omega (arith, e.room);
      skips = no-more _ _ e.skips;
    } in
    record {
      notes = refl;
      same = record { number = refl; start = refl; disk = refl; board = refl; table = c.in_ok-sharing.ensures.same; wires = refl; own = refl };
      handed = handed-same old.course d e.packets.hand;
      room = room-used _ _ old.course d uses
          (omega (arith, begin-due c.laws.ensures.rows c.laws.ensures.moves (state_of old.course) (state_of d) c.in-Take.page TakeShared (record { 0 = (state_of old.course).around.home }) (Step c.args.processor) e.begins, c.push.ensures.room));
    }
