-- The frame was had, or the packet is copied, once the page may change.
use Rattle.std.proofs.Common.{◌≡◌, Bool, true, false, option_map, sym, ap, ◌∙◌, subst}
use Rattle.base_words.specs.declared.ids.Ppn.{Ppn}
use Rattle.guest_course.specs.CourseView.{state_of}
use Rattle.guest_core.specs.GuestView.{guest_of, Monitored}
use Rattle.guest_core.specs.PacketCalls.{RefusesHanded, SharesPacket, TakesHanded}
use Rattle.guest_core.proofs.HandedLemmas.{after-seen, begun-copied, delivers-copied, begun-shared, keeps-seen}
use Rattle.guest_core.proofs.PacketLemmas.{takes-err}
use Rattle.guest_core.proofs.MoveLemmas.{needs-kind}
use Rattle.guest_core.proofs.parts.Parts.take_in.Goals as goal

refused : (old : Monitored) (q : Ppn) (mid : Monitored) (b : Bool) → b ≡ false → SharesPacket old q mid b → RefusesHanded old mid
refused old q mid b is shares = subst (SharesPacket old q mid) is shares

pub returns-in_ok-receive-in-Free-clause-takes : goal.returns-in_ok-receive-in-Free-clause-takes
returns-in_ok-receive-in-Free-clause-takes c =
    let old = guest_of c.args.self.now in
    let mid = guest_of c.share_packet-in-Free.new.self in
    let armed = sym c.armed.ensures ∙ ap (option_map (λ (page : Ppn). page.0)) c.in-Some.is in
    let refuses = refused old c.in-Some.armed mid c.in_ok-share_packet-in-Free.field-0 c.if-branch-2.false c.in_ok-share_packet-in-Free.ensures.shares in (
      c.requires.armed,
      delivers-copied old mid (guest_of c.receive.new.self) c.in-Some.armed.0 c.requires.in_hand armed (c.in-Free.ensures.keeps.1 c.in-Some.armed.0 armed) refuses c.in_ok-receive-in-Free.ensures.view c.in_ok-receive-in-Free.ensures.leaves
          c.in_ok-receive-in-Free.ensures.received,
    )

pub returns-in_err-receive-in-Free-clause-takes : goal.returns-in_err-receive-in-Free-clause-takes
returns-in_err-receive-in-Free-clause-takes c =
    let old = guest_of c.args.self.now in
    let mid = guest_of c.share_packet-in-Free.new.self in
    let new = guest_of c.receive.new.self in
    let refuses = refused old c.in-Some.armed mid c.in_ok-share_packet-in-Free.field-0 c.if-branch-2.false c.in_ok-share_packet-in-Free.ensures.shares in
    takes-err old new c.from_residual-in_err-receive-in-Free.result c.from_residual-in_err-receive-in-Free.ensures.0
    (keeps-seen old mid new c.requires.armed c.requires.in_hand refuses (ap guest_of c.in_err-receive-in-Free.ensures.unchanged))

pub returns-in_ok-receive-in-Free-clause-leaves : goal.returns-in_ok-receive-in-Free-clause-leaves
returns-in_ok-receive-in-Free-clause-leaves c =
    let old = guest_of c.args.self.now in
    let mid = guest_of c.share_packet-in-Free.new.self in
    let refuses = refused old c.in-Some.armed mid c.in_ok-share_packet-in-Free.field-0 c.if-branch-2.false c.in_ok-share_packet-in-Free.ensures.shares in
    after-seen old mid (guest_of c.receive.new.self) refuses.same c.in_ok-receive-in-Free.ensures.leaves

pub returns-else-branch-clause-takes : goal.returns-else-branch-clause-takes
returns-else-branch-clause-takes c =
    let old = guest_of c.args.self.now in
    let mid = guest_of c.share_packet.new.self in
    let q = c.in-Needs.page in
    let keeps = c.in-Needs.ensures.keeps in
    let refuses = refused old q mid c.in_ok-share_packet-in-Needs.field-0 c.if-branch.false c.in_ok-share_packet-in-Needs.ensures.shares in
    begun-copied old mid (guest_of c.begin_for_packet.new.self) q c.in-Needs.kind c.requires.armed c.requires.in_hand c.requires.lives keeps.0 (needs-kind (state_of c.args.self.now.course) q.0 c.in-Needs.kind keeps.1.needs) refuses c.begin_for_packet.ensures.view c.begin_for_packet.ensures.leaves
    c.begin_for_packet.ensures.begins

pub returns-else-branch-clause-leaves : goal.returns-else-branch-clause-leaves
returns-else-branch-clause-leaves c =
    let old = guest_of c.args.self.now in
    let mid = guest_of c.share_packet.new.self in
    let refuses = refused old c.in-Needs.page mid c.in_ok-share_packet-in-Needs.field-0 c.if-branch.false c.in_ok-share_packet-in-Needs.ensures.shares in
    after-seen old mid (guest_of c.begin_for_packet.new.self) refuses.same c.begin_for_packet.ensures.leaves

handed : (old : Monitored) (q : Ppn) (new : Monitored) (b : Bool) → b ≡ true → SharesPacket old q new b → TakesHanded old q new
handed old q new b is shares = subst (SharesPacket old q new) is shares

pub returns-then-branch-clause-takes : goal.returns-then-branch-clause-takes
returns-then-branch-clause-takes c =
    let old = guest_of c.args.self.now in
    let new = guest_of c.share_packet.new.self in
    let q = c.in-Needs.page in
    let taken = handed old q new c.in_ok-share_packet-in-Needs.field-0 c.if-branch.true c.in_ok-share_packet-in-Needs.ensures.shares in
    begun-shared old new q c.requires.armed c.requires.in_hand c.requires.lives c.in-Needs.ensures.keeps.0 c.in_ok-share_packet-in-Needs.ensures.leaves taken

pub returns-then-branch-2-clause-takes : goal.returns-then-branch-2-clause-takes
returns-then-branch-2-clause-takes c =
    let old = guest_of c.args.self.now in
    let new = guest_of c.share_packet-in-Free.new.self in
    let q = c.in-Some.armed in
    let armed = sym c.armed.ensures ∙ ap (option_map (λ (page : Ppn). page.0)) c.in-Some.is in
    let taken = handed old q new c.in_ok-share_packet-in-Free.field-0 c.if-branch-2.true c.in_ok-share_packet-in-Free.ensures.shares in
    begun-shared old new q c.requires.armed c.requires.in_hand c.requires.lives armed c.in_ok-share_packet-in-Free.ensures.leaves taken
