-- A packet that comes to hand goes without an entry, so what becomes of it then is what becomes of the packets.
use Rattle.std.proofs.Common.{◌≡◌, ⊎_elim, inl, inr, ℕ, Option, None, Result, Ok, Err, true, List, [], ◌∷◌, ◌++◌, length, sym, ap, ◌∙◌, subst, Bool, false, get_or}
use Rattle.std.specs.Prelude.{◌≢◌, IsErr}
use Rattle.std.specs.declared.alloc.AllocError.{AllocError}
use Rattle.base_words.specs.declared.events.Event.{Event}
use Rattle.base_words.specs.declared.events.Event.TheVariants.{PacketIn, Begin, Finish, Discard}
use Rattle.base_words.specs.declared.moves.By.TheVariants.{Packet as ByPacket}
use Rattle.frame_words.specs.declared.view.View.{View}
use Rattle.private_machine.specs.Backing.{Page}
use Rattle.private_machine.specs.DevicePage.{DevicePage}
use Rattle.private_machine.specs.Operation.{Packet}
use Rattle.isolation_law.specs.GuestState.{GuestState, page}
use Rattle.isolation_law.specs.PacketRows.{ComesToHand}
use Rattle.isolation_law.specs.Run.{Silent, Run}
use Rattle.isolation_law.specs.Surroundings.{Surroundings}
use Rattle.wire_queue.specs.Packets.{Handed}
use Rattle.wire_queue.specs.declared.lists.PassList.{PassList}
use Rattle.guest_course.specs.Acting.{IsOwnDelivery}
use Rattle.guest_core.specs.GuestView.{Monitored, IsSameGuest}
use Rattle.guest_core.specs.Making.{Makes}
use Rattle.guest_core.specs.MoveCalls.{is_done}
use Rattle.guest_core.specs.PacketCalls.{BeginsOver, ComesInto, CopiesPacket, Fetches, HandsOn, HasInHand, IsArmed, TakesFromWire, TakesPacket, KeepsInHand}
use Rattle.guest_core.specs.declared.answers.Packeted.{Packeted}
use Rattle.guest_core.specs.declared.answers.Packeted.TheVariants as packeted

-- what stays where a packet comes to hand, or nothing changes
record Same (s m : GuestState) : Type 0 where
  end : m.end ≡ s.end
  devices : m.devices ≡ s.devices
  received : m.received ≡ s.received
  discarded : m.discarded ≡ s.discarded
  dead : m.dead ≡ s.dead
  around : m.around ≡ s.around
  pages : m.pages ≡ s.pages

silent-same : (s m : GuestState) → Silent s m → Same s m
silent-same s m silent =
    ⊎_elim
    (λ (e : m ≡ s). record { end = ap (λ (x : GuestState). x.end) e; devices = ap (λ (x : GuestState). x.devices) e; received = ap (λ (x : GuestState). x.received) e; discarded = ap (λ (x : GuestState). x.discarded) e; dead = ap (λ (x : GuestState). x.dead) e; around = ap (λ (x : GuestState). x.around) e; pages = ap (λ (x : GuestState). x.pages) e })
    (λ (x : ComesToHand s m). record {
      end = ap (λ (y : GuestState). y.end) x.after;
      devices = ap (λ (y : GuestState). y.devices) x.after;
      received = ap (λ (y : GuestState). y.received) x.after;
      discarded = ap (λ (y : GuestState). y.discarded) x.after;
      dead = ap (λ (y : GuestState). y.dead) x.after;
      around = ap (λ (y : GuestState). y.around) x.after;
      pages = ap (λ (y : GuestState). y.pages) x.after;
    })
    silent

-- with a packet in hand nothing more comes to hand
then-silent : (s m a : GuestState) → Silent s m → m.hand ≢ None → Silent m a → Silent s a
then-silent s m a first full silent = ⊎_elim (λ (e : a ≡ m). subst (Silent s) (sym e) first) (λ (x : ComesToHand m a). absurd (full x.free)) silent

then-run : (s m t : GuestState) (journal : List Event) → Silent s m → m.hand ≢ None → Run m journal t → Run s journal t
then-run s m t [] first full run = then-silent s m t first full run
then-run s m t (e ∷ journal) first full run = (run.0, run.1, then-silent s m run.0 first full run.2, run.3, run.4)

then-makes : (old mid new : Monitored) (entries : List Event) → Fetches old mid → mid.state.hand ≢ None → Makes mid entries new → Makes old entries new
then-makes old mid new entries f full makes = record {
  journal = makes.journal ∙ ap (λ (l : List Event). l ++ entries) f.journal;
  run = then-run old.state mid.state new.state entries f.silent full makes.run;
}

-- a page that is taken shared for the packet after those that came is so whatever is in hand
own-of : (s : GuestState) (hand : Option Packet) (q : ℕ) → IsOwnDelivery s q → IsOwnDelivery (record s { hand = hand }) q
own-of s hand q x = record { taken = record { target = x.taken.target; waiting = x.taken.waiting; open_move = x.taken.open_move; nobody = x.taken.nobody }; kept = x.kept; its_own = x.its_own }

own-there : (s m : GuestState) (q : ℕ) → Silent s m → IsOwnDelivery s q → IsOwnDelivery m q
own-there s m q silent own =
    ⊎_elim (λ (e : m ≡ s). subst (λ (y : GuestState). IsOwnDelivery y q) (sym e) own) (λ (c : ComesToHand s m). subst (λ (y : GuestState). IsOwnDelivery y q) (sym c.after) (own-of s _ q own)) silent

own-back : (s m : GuestState) (q : ℕ) → Silent s m → IsOwnDelivery m q → IsOwnDelivery s q
own-back s m q silent own =
    ⊎_elim (λ (e : m ≡ s). subst (λ (y : GuestState). IsOwnDelivery y q) e own) (λ (c : ComesToHand s m). own-of _ s.hand q (subst (λ (y : GuestState). IsOwnDelivery y q) c.after own)) silent

-- what is handed on is what came to hand
then-hands : (old mid : Monitored) (passes : PassList) (handed : Option Handed) → Fetches old mid → mid.state.hand ≢ None → passes ≡ mid.passes → HandsOn mid passes handed → HandsOn old passes handed
then-hands old mid passes handed f full same on =
    ⊎_elim
    (λ (x : (mid.state.hand ≢ None) × (handed ≡ mid.handed)). subst (λ (l : PassList). HandsOn old l handed) (sym same) (subst (HandsOn old mid.passes) (sym x.1) (f.hands_on full)))
    (λ (x : (mid.state.hand ≡ None) × TakesFromWire mid.passes passes handed). absurd (full x.0))
    on

then-has : (old mid new : Monitored) (q : ℕ) → Fetches old mid → mid.state.hand ≢ None → new.passes ≡ mid.passes → HasInHand mid q new → HasInHand old q new
then-has old mid new q f full passes has =
    let same = silent-same old.state mid.state f.silent in
    record {
      not_ended = sym same.end ∙ has.not_ended;
      goes_on = has.goes_on;
      armed = sym (ap (λ (d : DevicePage). d.armed) same.devices) ∙ has.armed;
      in_hand = has.in_hand;
      lives = λ packet is. ap (λ (l : List Bool). get_or l packet.cell false) (sym same.dead) ∙ has.lives packet is;
      hands_on = then-hands old mid new.passes new.handed f full passes has.hands_on;
      notes = has.notes ∙ f.quiet.notes;
    }

then-comes : (old mid new : Monitored) (q : ℕ) (handed : Option Handed) → Fetches old mid → ComesInto mid q handed new → ComesInto old q handed new
then-comes old mid new q handed f comes =
    let same = silent-same old.state mid.state f.silent in
    ⊎_elim
    (λ (x : ((page mid.state q).move ≡ None) × CopiesPacket handed mid.view new.view). inl (subst (λ (l : List Page). (page (record mid.state { pages = l }) q).move ≡ None) same.pages x.0, subst (λ (v : View). CopiesPacket handed v new.view) f.quiet.view x.1))
    (λ (x : IsOwnDelivery mid.state q). inr (own-back old.state mid.state q f.silent x))
    comes

pub armed-then : (old mid : Monitored) → Fetches old mid → IsArmed old → IsArmed mid
armed-then old mid f armed =
    let same = silent-same old.state mid.state f.silent in
    record { not_ended = same.end ∙ armed.not_ended; armed = λ none. armed.armed (sym (ap (λ (d : DevicePage). d.armed) same.devices) ∙ none) }

-- what a call with the packet in hand does, once it came to hand
pub then-takes : (old mid new : Monitored) (answer : Result Packeted AllocError) → IsArmed old → Fetches old mid → mid.state.hand ≢ None → new.passes ≡ mid.passes → TakesPacket mid new answer → TakesPacket old new answer
then-takes old mid new (Ok packeted.Delivered) armed f full passes takes =
    let same = silent-same old.state mid.state f.silent in
    let d = takes.1 in (
      armed,
      record {
        notes = d.notes ∙ f.quiet.notes;
        handed = d.handed;
        hands_on = then-hands old mid new.passes d.handed f full passes d.hands_on;
        q = d.q;
        armed = sym (ap (λ (x : DevicePage). x.armed) same.devices) ∙ d.armed;
        comes = then-comes old mid new d.q d.handed f d.comes;
        makes = subst (λ l. Makes old (PacketIn (length l) ∷ []) new) same.received (then-makes old mid new (PacketIn (length mid.state.received) ∷ []) f full d.makes);
        not_ended = d.not_ended;
        disarmed = d.disarmed;
      },
    )
then-takes old mid new (Ok (packeted.Discarded cell)) armed f full passes takes =
    let same = silent-same old.state mid.state f.silent in
    record {
      armed = armed;
      notes = takes.notes ∙ f.quiet.notes;
      view = takes.view ∙ f.quiet.view;
      packet = takes.packet;
      of_cell = takes.of_cell;
      dead = ap (λ (l : List Bool). get_or l cell.0 false) (sym same.dead) ∙ takes.dead;
      thrown = takes.thrown ∙ ap (λ (l : List Packet). l ++ takes.packet ∷ []) same.discarded;
      makes = subst (λ (l : List Packet). Makes old (Discard (length l) ∷ []) new) same.discarded (then-makes old mid new (Discard (length mid.state.discarded) ∷ []) f full takes.makes);
      not_ended = takes.not_ended;
      free = takes.free;
    }
then-takes old mid new (Ok (packeted.Begun q)) armed f full passes takes =
    let same = silent-same old.state mid.state f.silent in
    record {
      has = then-has old mid new q.0 f full passes takes.has;
      kind = takes.kind;
      over = subst (λ (v : View). BeginsOver takes.kind new.handed new.state q.0 v new.view) f.quiet.view takes.over;
      makes = subst (λ (w : Surroundings). Makes old (Begin q takes.kind (record { 0 = w.home }) ByPacket ∷ []) new) same.around (then-makes old mid new (Begin q takes.kind (record { 0 = mid.state.around.home }) ByPacket ∷ []) f full takes.makes);
    }
then-takes old mid new (Ok (packeted.Finished q)) armed f full passes takes =
    let same = silent-same old.state mid.state f.silent in
    record {
      has = then-has old mid new q.0 f full passes takes.has;
      done = subst (λ (l : List Page). is_done (page (record mid.state { pages = l }) q.0).move ≡ true) same.pages takes.done;
      other = λ own. takes.other (own-there old.state mid.state q.0 f.silent own);
      makes = then-makes old mid new (Finish q ∷ []) f full takes.makes;
    }
then-takes old mid new (Ok (packeted.Waits q set)) armed f full passes takes =
    record { has = then-has old mid new q.0 f full passes takes.has; waiting = takes.waiting; makes = then-makes old mid new [] f full takes.makes; view = takes.view ∙ f.quiet.view }
then-takes old mid new (Ok packeted.NoneInHand) armed f full passes takes = absurd (full takes.none)
then-takes old mid new (Ok packeted.NotArmed) armed f full passes takes = absurd (takes.unarmed (armed-then old mid f armed))
then-takes old mid new (Err e) armed f full passes takes = record {
  armed = armed;
  notes = takes.notes ∙ f.quiet.notes;
  hands_on = then-hands old mid new.passes new.handed f full passes takes.hands_on;
  view = ⊎_elim (λ (e : new.view ≡ mid.view). inl (e ∙ f.quiet.view)) (λ (x : CopiesPacket new.handed mid.view new.view). inr (subst (λ (v : View). CopiesPacket new.handed v new.view) f.quiet.view x)) takes.view;
  not_ended = takes.not_ended;
  makes = then-makes old mid new [] f full takes.makes;
  in_hand = takes.in_hand;
}

-- the guest is the same one after both
pub then-same : (old mid new : Monitored) → IsSameGuest old mid → IsSameGuest mid new → IsSameGuest old new
then-same old mid new a b = record {
  number = b.number ∙ a.number;
  start = b.start ∙ a.start;
  disk = b.disk ∙ a.disk;
  board = b.board ∙ a.board;
  table = b.table ∙ a.table;
  wires = b.wires ∙ a.wires;
  own = b.own ∙ a.own;
}

-- memory was wanting, with the packet in hand
pub takes-err : (old new : Monitored) (answer : Result Packeted AllocError) → IsErr answer → KeepsInHand old new → TakesPacket old new answer
takes-err old new (Ok packeted) is keeps = absurd cc
takes-err old new (Err e) is keeps = keeps
