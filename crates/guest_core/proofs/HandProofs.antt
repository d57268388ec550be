-- A packet comes to hand: the guest is kept as it was, but for the packet.
use Rattle.std.proofs.Common.{◌≡◌, ℕ, zero, suc, ◌/◌, ◌<◌, Bool, false, List, [], ◌∷◌, Option, None, Some, option_map, length, map, get_or, unwrap_or, slice_get, slice_index, refl, sym, ap, ◌∙◌, subst, arith}
use Rattle.std.proofs.lemmas.List.{length-map}
use Rattle.std.specs.Prelude.{All}
use Rattle.base_words.specs.declared.events.Event.{Event}
use Rattle.base_words.specs.declared.ids.CellId.{CellId}
use Rattle.base_words.specs.declared.events.Event.TheVariants.{Load, Unload, Direct, Refill, Emulate, Begin, Ack, Finish, PacketIn, Discard, Skip, CellFails, End as Ending}
use Rattle.frame_words.specs.declared.view.View.{View}
use Rattle.shootdown.specs.declared.notes.Note.{Note}
use Rattle.shootdown.specs.declared.notes.Note.TheVariants as note
use Rattle.shootdown.specs.declared.view.SidedNote.{SidedNote}
use Rattle.shootdown.specs.Notes.{with_side}
use Rattle.isolation_law.specs.GuestState.{GuestState, processor, vcpu_of}
use Rattle.isolation_law.specs.PacketRows.{ComesToHand}
use Rattle.isolation_law.specs.Phases.{GoesOn}
use Rattle.isolation_law.specs.Run.{Run}
use Rattle.isolation_law.specs.Start.{Boot, start as started}
use Rattle.isolation_law.specs.Surroundings.{Surroundings, home_cell, cell_of_frame}
use Rattle.wire_queue.specs.Between.{Made, entry, guest_count, line_between, wire_between}
use Rattle.wire_queue.specs.Ends.{Wire}
use Rattle.wire_queue.specs.Lines.{FitsWhole, Line}
use Rattle.wire_queue.specs.Packets.{Handed, Packet, packet_of}
use Rattle.wire_queue.specs.PassLists.{IsListOf, taking_from, taking_wire}
use Rattle.wire_queue.specs.QueueIds.{QueueId}
use Rattle.wire_queue.specs.declared.packet.WirePacket.{WirePacket}
use Rattle.guest_course.specs.CourseRules.{FitsHand, IsHandedHome}
use Rattle.guest_course.specs.Posting.{AreTermsOf}
use Rattle.guest_core.proofs.FoundLemmas.{frame-below}
use Rattle.wire_queue.specs.declared.lists.PassList.{PassList}
use Rattle.guest_core.specs.Holding.{HasFrames}
use Rattle.guest_core.specs.Kept.{Kept}
use Rattle.guest_core.specs.Asks.{asks}
use Rattle.guest_core.specs.Noting.{Outlives, EntryHolds, HoldsOf, AreInOrder, shows_loaded, IsNoted}
use Rattle.guest_core.specs.Wiring.{IsWired, TakesNext}

abbrev pub Grows : Type 0
Grows = (s m t : GuestState) (journal : List Event) → Run s journal m → ComesToHand m t → Run s journal t

entry-comes : (s t : GuestState) (e : Event) → t.dead ≡ s.dead → EntryHolds s e → EntryHolds t e
entry-comes s t (Load p v) same h = tt
entry-comes s t (Unload p) same h = tt
entry-comes s t (Direct p v) same h = tt
entry-comes s t (Refill p) same h = tt
entry-comes s t (Emulate p v) same h = tt
entry-comes s t (Begin q kind node by) same h = tt
entry-comes s t (Ack p q) same h = tt
entry-comes s t (Finish q) same h = tt
entry-comes s t (PacketIn k) same h = tt
entry-comes s t (Discard k) same h = tt
entry-comes s t (Skip k) same h = tt
entry-comes s t (CellFails c) same h = ap (λ (l : List Bool). get_or l c.0 false) same ∙ h
entry-comes s t (Ending end) same h = tt

outlives-comes : (s t : GuestState) (c : ℕ) → ComesToHand s t → Outlives s c → Outlives t c
outlives-comes s t c comes o = subst (λ (x : GuestState). Outlives x c) (sym comes.after) (record { dead = o.dead; stays = o.stays })

holds-comes : (s t : GuestState) (n : Note) → ComesToHand s t → HoldsOf s n → HoldsOf t n
holds-comes s t (note.Made e) comes h = entry-comes s t e (ap (λ (x : GuestState). x.dead) comes.after) h
holds-comes s t (note.Asked page kind node) comes h = tt
holds-comes s t (note.Halted v) comes h = ap (λ (x : GuestState). (vcpu_of x v.0).halted) comes.after ∙ h
holds-comes s t (note.Ended end) comes h = (ap (λ (x : GuestState). x.end) comes.after ∙ h.0, h.1)
holds-comes s t (note.Dead c) comes h = outlives-comes s t c.0 comes h

noted-comes : (s t : GuestState) (journal : List Event) (notes : List SidedNote) → IsNoted s journal notes → ComesToHand s t → IsNoted t journal notes
noted-comes s t journal notes n comes = record {
  sides = subst (λ (x : GuestState). All (λ (m : SidedNote). m.side < length x.processors) notes) (sym comes.after) n.sides;
  own = n.own;
  made = n.made;
  asked = n.asked ∙ ap (λ (x : GuestState). asks x.skips journal) (sym comes.after);
  holds = λ k d lt. holds-comes s t (get_or notes k d).note comes (n.holds k d lt);
  ordered = subst (λ (x : GuestState). AreInOrder x.around notes) (sym comes.after) n.ordered;
  loaded = subst (λ (x : GuestState). (p : ℕ) → p < length x.processors → shows_loaded (with_side p notes) ≡ (processor x p).loaded) (sym comes.after) n.loaded;
}

pub kept-comes : Grows → (b : Boot) (s t : GuestState) (journal : List Event) (notes : List SidedNote) → Kept b s journal notes → ComesToHand s t → Kept b t journal notes
kept-comes grows b s t journal notes k comes = record {
  run = grows (started b) s t journal k.run comes;
  noted = noted-comes s t journal notes k.noted comes;
  around = ap (λ (x : GuestState). x.around) comes.after ∙ k.around;
  processors = ap (λ (x : GuestState). length x.processors) comes.after ∙ k.processors;
  vcpus = ap (λ (x : GuestState). length x.vcpus) comes.after ∙ k.vcpus;
}

pub goes-comes : (s t : GuestState) → ComesToHand s t → GoesOn t
goes-comes s t comes = subst GoesOn (sym comes.after) (record { not_ended = comes.goes_on.not_ended; owes_no_end = comes.goes_on.owes_no_end })

pub frames-come : (s t : GuestState) (view : View) → HasFrames s view → ComesToHand s t → HasFrames t view
frames-come s t view frames comes =
    let h = frames.holding in
    subst (λ (x : GuestState). HasFrames x view) (sym comes.after) (record {
      holding = record { counted = h.counted; same_generation = h.same_generation; borrowed = h.borrowed; within = h.within };
      given_back = frames.given_back;
    })

-- the guest's ends are those of the same wires
pub wired-again : (wires : Made) (old new : PassList) (w : Surroundings) → IsWired wires old w → IsListOf wires new → new.guest ≡ old.guest → IsWired wires new w
wired-again wires old new w is list same = record {
  list = list;
  joins = is.joins;
  guests = is.guests;
  number = ap (λ g. g.0) same ∙ is.number;
  is_guest = subst (λ g. g.0 < guest_count wires) (sym same) is.is_guest;
  terms = is.terms;
  at_home = is.at_home;
}

-- ---- what a packet hands on lies on the guest's home cell

none-some : {A : Type 0} (a : A) → None ≡ Some a → ⊥
none-some a is = cc

line-is : (wires : Made) (from to : ℕ) (wire : Wire) → Some wire ≡ wire_between wires from to → wire.line ≡ line_between wires from to
line-is wires from to wire is = by (entry wires.queues from to) is
  where
    by : (queue : Option QueueId) → Some wire ≡ option_map (λ (q : QueueId). record { queue = q; line = line_between wires from to }) queue → wire.line ≡ line_between wires from to
    by None e = absurd (none-some wire (sym e))
    by (Some q) e = ap (λ (x : Option Wire). (unwrap_or x wire).line) e

cell-found : (cells : List CellId) (n cell : ℕ) → slice_get cells n ≡ Some (record { 0 = cell }) → (n < length cells) × (slice_index (map (λ (c : CellId). c.0) cells) n ≡ cell)
cell-found [] n cell is = absurd (none-some _ is)
cell-found (c ∷ cells) zero cell is = (omega arith, ap (λ (x : Option CellId). (unwrap_or x c).0) is)
cell-found (c ∷ cells) (suc n) cell is = let later = cell-found cells n cell is in (omega (arith, later.0), later.1)

home-found : (homes : List CellId) (n cell : ℕ) → slice_get homes n ≡ Some (record { 0 = cell }) → slice_get (map (λ (c : CellId). c.0) homes) n ≡ Some cell
home-found [] n cell is = absurd (none-some _ is)
home-found (c ∷ homes) zero cell is = ap (λ (x : Option CellId). Some ((unwrap_or x c).0)) is
home-found (c ∷ homes) (suc n) cell is = home-found homes n cell is

same-some : (a b : ℕ) → Some a ≡ Some b → a ≡ b
same-some a b is = ap (λ x. unwrap_or x a) is

handed-home : (w : Surroundings) (line : Line) (packet : Packet) (handed : Handed) → AreTermsOf w line.terms → slice_get w.homes w.guest ≡ Some (home_cell w) → line.to ≡ w.guest → 0 < w.frames → FitsWhole line packet handed → IsHandedHome w packet handed
handed-home w line packet handed terms own to some fits =
    let at = cell-found line.terms.cells (handed.frame / line.terms.frames) packet.cell fits.lies in
    let count : length line.terms.cells ≡ length w.nodes = sym (length-map line.terms.cells (λ (c : CellId). c.0)) ∙ ap length terms.cells in
    let lies : cell_of_frame w handed.frame ≡ packet.cell = ap (λ (n : ℕ). slice_index w.nodes (handed.frame / n)) (sym terms.frames) ∙ ap (λ (l : List ℕ). slice_index l (handed.frame / line.terms.frames)) (sym terms.cells) ∙ at.1 in
    let below : handed.frame / w.frames < length w.nodes = subst (λ (n : ℕ). handed.frame / n < length w.nodes) terms.frames (omega (arith, at.0, count)) in
    let here : slice_get w.homes w.guest ≡ Some packet.cell = ap (λ (n : ℕ). slice_get w.homes n) (sym to) ∙ ap (λ (l : List ℕ). slice_get l line.to) (sym terms.homes) ∙ home-found line.terms.homes line.to packet.cell fits.home in
    record {
      full = fits.full;
      within = frame-below handed.frame w.frames (handed.frame / w.frames) (length w.nodes) some refl below;
      lies = lies;
      home = lies ∙ same-some _ _ (sym here ∙ own);
    }

-- a packet that is taken from a wire fits into the guest's hand
pub fits-hand : (wires : Made) (w : Surroundings) (passes new : PassList) (packet : WirePacket) → IsWired wires passes w → 0 < w.frames → TakesNext passes packet new → FitsHand w (packet_of packet)
fits-hand wires w passes new packet wired some next =
    let x = next.takes in
    let fits = x.taken.1 in
    let stood : taking_from passes next.from ≡ Some x.before = sym (next.vain.takes next.from) ∙ x.was in
    let line = line-is wires next.from passes.guest.0 x.before.wire (sym (ap taking_wire stood) ∙ wired.list.takes next.from) in
    record {
      few = fits.few;
      whole = λ handed is. handed-home w x.before.wire.line (packet_of packet) handed (subst (λ (l : Line). AreTermsOf w l.terms) (sym line) wired.terms) wired.at_home (ap (λ (l : Line). l.to) line ∙ wired.number) some (fits.whole handed is);
    }
