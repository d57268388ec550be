-- What becomes of the packet in hand: it comes into its page, or a move begins for it first, once the frame that it hands on was asked for.
use Rattle.std.proofs.Common.{◌≡◌, ⊎_elim, inl, inr, ℕ, Option, Some, None, [], refl, sym, ◌∙◌, subst, arith}
use Rattle.std.specs.Prelude.{◌≢◌, ◌⊎◌}
use Rattle.std.proofs.lemmas.List.{append-nil}
use Rattle.base_words.specs.declared.ids.Ppn.{Ppn}
use Rattle.base_words.specs.declared.moves.MoveKind.{MoveKind}
use Rattle.base_words.specs.declared.moves.MoveKind.TheVariants.{Break, Collapse, TakeShared}
use Rattle.frame_words.specs.declared.view.View.{View}
use Rattle.isolation_law.specs.GuestState.{page}
use Rattle.wire_queue.specs.Packets.{Handed}
use Rattle.guest_course.specs.Acting.{IsOwnDelivery}
use Rattle.guest_core.specs.GuestView.{Monitored}
use Rattle.guest_core.specs.Making.{Makes}
use Rattle.guest_core.specs.PacketCalls.{AfterHand, BeginsByHand, BeginsForPacket, BeginsOver, ComesInto, CopiesPacket, Delivers, IsArmed, KeepsInHand, ReceivesNext, RefusesHanded, TakesHanded}
use Rattle.guest_course.specs.ReceivingCalls.{HandLives}

-- ---- the looks at a frame before

pub after-seen : (old mid new : Monitored) → mid ≡ record old { view = mid.view } → AfterHand mid new → AfterHand old new
after-seen old mid new is a =
    let x : AfterHand (record old { view = mid.view }) new = subst (λ (g : Monitored). AfterHand g new) is a in
    record {
      notes = x.notes;
      passes = x.passes;
      acts = x.acts;
      same = record { number = x.same.number; start = x.same.start; disk = x.same.disk; board = x.same.board; table = x.same.table; wires = x.same.wires; own = x.same.own };
      room = x.room;
    }

-- ---- the packet is received

pub delivers : (old new : Monitored) (q : ℕ) → old.state.hand ≢ None → old.state.devices.armed ≡ Some q → ComesInto old q old.handed new → AfterHand old new → ReceivesNext old new → Delivers old new
delivers old new q in-hand armed comes after r = record {
  notes = after.notes;
  handed = old.handed;
  hands_on = inl (in-hand, refl);
  q = q;
  armed = armed;
  comes = comes;
  makes = r.makes;
  not_ended = r.not_ended;
  disarmed = r.disarmed;
}

receives-seen : (old mid new : Monitored) → mid ≡ record old { view = mid.view } → ReceivesNext mid new → ReceivesNext old new
receives-seen old mid new is r =
    let x : ReceivesNext (record old { view = mid.view }) new = subst (λ (g : Monitored). ReceivesNext g new) is r in
    record { makes = record { journal = x.makes.journal; run = x.makes.run }; not_ended = x.not_ended; disarmed = x.disarmed }

-- it was copied, as no frame could be had
pub delivers-copied : (old mid new : Monitored) (q : ℕ) → old.state.hand ≢ None → old.state.devices.armed ≡ Some q → (page old.state q).move ≡ None → RefusesHanded old mid → new.view ≡ mid.view → AfterHand mid new → ReceivesNext mid new → Delivers old new
delivers-copied old mid new q in-hand armed rests refuses view after r =
    delivers old new q in-hand armed (inl (rests, subst (CopiesPacket old.handed old.view) (sym view) refuses.copies)) (after-seen old mid new refuses.same after) (receives-seen old mid new refuses.same r)

-- it ended the move that was for it
pub delivers-own : (old new : Monitored) (q : ℕ) → old.state.hand ≢ None → old.state.devices.armed ≡ Some q → IsOwnDelivery old.state q → AfterHand old new → ReceivesNext old new → Delivers old new
delivers-own old new q in-hand armed own after r = delivers old new q in-hand armed (inr own) after r

-- ---- a move begins for it

begun-seen : (old mid new : Monitored) (q : Ppn) (kind : MoveKind) → mid ≡ record old { view = mid.view } → BeginsByHand mid q kind new → BeginsByHand old q kind new
begun-seen old mid new q kind is b =
    let x : BeginsByHand (record old { view = mid.view }) q kind new = subst (λ (g : Monitored). BeginsByHand g q kind new) is b in
    record { makes = record { journal = x.makes.journal; run = x.makes.run }; hand = x.hand; handed = x.handed; not_ended = x.not_ended }

begun : (old new : Monitored) (q : Ppn) (kind : MoveKind) → IsArmed old → old.state.hand ≢ None → HandLives old.state → old.state.devices.armed ≡ Some q.0 → BeginsOver kind old.handed new.state q.0 old.view new.view → AfterHand old new → BeginsByHand old q kind new → BeginsForPacket old q new
begun old new q kind is-armed in-hand live armed over after b = record {
  has = record {
    not_ended = is-armed.not_ended;
    goes_on = b.not_ended;
    armed = armed;
    in_hand = λ none. in-hand (sym b.hand ∙ none);
    lives = λ packet is. live packet (sym b.hand ∙ is);
    hands_on = inl (in-hand, b.handed);
    notes = after.notes;
  };
  kind = kind;
  over = subst (λ (h : Option Handed). BeginsOver kind h new.state q.0 old.view new.view) (sym b.handed) over;
  makes = b.makes;
}

-- the page is taken shared
pub begun-shared : (old new : Monitored) (q : Ppn) → IsArmed old → old.state.hand ≢ None → HandLives old.state → old.state.devices.armed ≡ Some q.0 → AfterHand old new → TakesHanded old q new → BeginsForPacket old q new
begun-shared old new q is-armed in-hand live armed after t = begun old new q TakeShared is-armed in-hand live armed t.over after t.begins

-- or no frame could be had, and it needs the move to be copied
pub begun-copied : (old mid new : Monitored) (q : Ppn) (kind : MoveKind) → IsArmed old → old.state.hand ≢ None → HandLives old.state → old.state.devices.armed ≡ Some q.0 → (kind ≡ Break) ⊎ (kind ≡ Collapse) → RefusesHanded old mid → new.view ≡ mid.view → AfterHand mid new → BeginsByHand mid q kind new
    → BeginsForPacket old q new
begun-copied old mid new q kind is-armed in-hand live armed inside refuses view after b =
    let copies = subst (CopiesPacket old.handed old.view) (sym view) refuses.copies in
    let over : BeginsOver kind old.handed new.state q.0 old.view new.view =
    ⊎_elim (λ (e : kind ≡ Break). subst (λ (k : MoveKind). BeginsOver k old.handed new.state q.0 old.view new.view) (sym e) copies) (λ (e : kind ≡ Collapse). subst (λ (k : MoveKind). BeginsOver k old.handed new.state q.0 old.view new.view) (sym e) copies) inside in
    begun old new q kind is-armed in-hand live armed over (after-seen old mid new refuses.same after) (begun-seen old mid new q kind refuses.same b)

-- ---- memory was wanting

none-made : (g : Monitored) (view : View) → Makes g [] (record g { view = view })
none-made g view = record { journal = sym (append-nil g.journal); run = inl refl }

keeps : (old : Monitored) (view : View) → IsArmed old → old.state.hand ≢ None → (view ≡ old.view) ⊎ CopiesPacket old.handed old.view view → KeepsInHand old (record old { view = view })
keeps old view is-armed in-hand looks = record {
  armed = is-armed;
  notes = refl;
  hands_on = inl (in-hand, refl);
  view = looks;
  not_ended = is-armed.not_ended;
  makes = none-made old view;
  in_hand = in-hand;
}

pub keeps-all : (old new : Monitored) → IsArmed old → old.state.hand ≢ None → new ≡ old → KeepsInHand old new
keeps-all old new is-armed in-hand same = subst (KeepsInHand old) (sym same) (keeps old old.view is-armed in-hand (inl refl))

pub keeps-seen : (old mid new : Monitored) → IsArmed old → old.state.hand ≢ None → RefusesHanded old mid → new ≡ mid → KeepsInHand old new
keeps-seen old mid new is-armed in-hand refuses same = subst (KeepsInHand old) (sym (same ∙ refuses.same)) (keeps old mid.view is-armed in-hand (inr refuses.copies))

-- ---- nothing but looks

pub after-none : (old mid : Monitored) → mid ≡ record old { view = mid.view } → AfterHand old mid
after-none old mid is = subst (AfterHand old) (sym is) (record {
  notes = refl;
  passes = refl;
  acts = λ p may. may;
  same = record { number = refl; start = refl; disk = refl; board = refl; table = refl; wires = refl; own = refl };
  room = omega arith;
})
