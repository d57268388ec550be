-- A packet for which the armed page is taken shared: its end of that move is its row.
use Rattle.std.proofs.Common.{◌≡◌, ℕ, true, ◌++◌, ◌∷◌, [], Option, Some, None, length, map, sym, ap, ◌∙◌}
use Rattle.std.proofs.lemmas.List.{length-map, map-append}
use Rattle.private_machine.specs.Packet.{came_into, own_packet}
use Rattle.private_machine.specs.Vcpu.{with_line_on}
use Rattle.private_machine.specs.DeviceRegisters.{packet_noted}
use Rattle.private_machine.specs.Links.{unlinked_page}
use Rattle.private_machine.specs.Signals.{changed}
use Rattle.guest_devs.specs.DeviceState.{DeviceState}
use Rattle.guest_devs.specs.Shown.{Agree}
use Rattle.isolation_law.specs.Content.{content, with_own}
use Rattle.isolation_law.specs.GuestState.{GuestState}
use Rattle.isolation_law.specs.PacketRows.{EndsDelivery}
use Rattle.isolation_law.specs.Phases.{GoesOn, all_halted}
use Rattle.isolation_law.specs.StepRows.{taken_shared}
use Rattle.guest_course.specs.declared.course.Course.{Course}
use Rattle.guest_course.specs.declared.got.GotPacket.{GotPacket}
use Rattle.guest_course.specs.Acting.{IsOwnDelivery}
use Rattle.guest_course.specs.CourseView.{state_of, got_of}
use Rattle.guest_course.specs.CourseRules.{IsSound}
use Rattle.guest_course.proofs.EmulateProofs.{Remade}
use Rattle.guest_course.proofs.HaltLemmas.{halted-unlinked, halted-lined}
use Rattle.guest_course.proofs.ReceivingProofs.{changed-length}
use Rattle.guest_course.specs.ReceivingCalls.{HandLives}

-- a packet is noted
pub record NotesPacket (c m : Course) (q : ℕ) (x : GotPacket) : Type 0 where
  pub same : m ≡ record c { vcpus = m.vcpus; devs = m.devs }
  pub vcpus : m.vcpus.items ≡ changed 0 (with_line_on 3 true) (map (unlinked_page q) c.vcpus.items)
  pub devs : m.devs.state ≡ record c.devs.state { page = packet_noted x.from.0 (length x.bytes) c.devs.state.page; packet = true }
  pub agree : Agree m.devs.state m.vcpus.items

-- and no longer in hand, once the page was taken
pub record KeepsPacket (n d : Course) (x : GotPacket) : Type 0 where
  pub same : d ≡ record n { received = d.received; hand = None }
  pub received : d.received.items ≡ n.received.items ++ x ∷ []

state-noted : (c m : Course) (q : ℕ) (x : GotPacket) → (state_of c).devices.armed ≡ Some q → NotesPacket c m q x
    → state_of m ≡ with_own (own_packet (content (state_of c)) x.from.0 x.bytes) (state_of c)
state-noted c m q x armed n =
    let s = state_of c in
    let here = λ (a : Option ℕ). came_into (content s) x.from.0 x.bytes a in
    let vcpus = n.vcpus ∙ ap (λ (a : Option ℕ). (here a).vcpus) (sym armed) in
    let devices = ap (λ (y : DeviceState). y.page) n.devs ∙ ap (λ (a : Option ℕ). (here a).devices) (sym armed) in
    ap state_of n.same ∙ (λ i. record s { vcpus = vcpus i; devices = devices i })

state-kept : (n d : Course) (x : GotPacket) → KeepsPacket n d x → state_of d ≡ record (state_of n) { hand = None; received = (state_of n).received ++ got_of x ∷ [] }
state-kept n d x k =
    let received = ap (map got_of) k.received ∙ map-append got_of n.received.items (x ∷ []) in
    ap state_of k.same ∙ (λ i. record (state_of n) { received = received i; hand = None })

pub ends-delivery-row : (c m n d : Course) (q : ℕ) (x : GotPacket) → GoesOn (state_of c) → (state_of c).devices.armed ≡ Some q → (state_of c).hand ≡ Some (got_of x) → HandLives (state_of c) → (own : IsOwnDelivery (state_of c) q)
    → NotesPacket c m q x → state_of n ≡ taken_shared q own.taken.target (state_of m) → KeepsPacket n d x → EndsDelivery (state_of c) (length c.received.items) (state_of d)
ends-delivery-row c m n d q x on armed hand live own notes is keeps =
    let s = state_of c in
    record {
      q = q;
      packet = got_of x;
      delivered = record { goes_on = on; armed = armed; in_hand = hand; lives = live (got_of x) hand; next = sym (length-map c.received.items got_of) };
      target = own.taken.target;
      kept = own.kept;
      waiting = own.taken.waiting;
      open_move = own.taken.open_move;
      its_own = own.its_own;
      nobody_waits = own.taken.nobody;
      after = state-kept n d x keeps
          ∙ ap (λ (t : GuestState). record t { hand = None; received = t.received ++ got_of x ∷ [] }) (is ∙ ap (taken_shared q own.taken.target) (state-noted c m q x armed notes));
    }

pub noted-remade : (c m : Course) (q : ℕ) (x : GotPacket) → IsSound c → c.ended ≡ None → NotesPacket c m q x → Remade c m
noted-remade c m q x sound on n =
    let places : m.places ≡ c.places = ap (λ (y : Course). y.places) n.same in
    let pmap = ap (λ (y : Course). y.pmap) n.same in
    let vcpus = ap length n.vcpus ∙ changed-length (with_line_on 3 true) 0 (map (unlinked_page q) c.vcpus.items) ∙ length-map c.vcpus.items (unlinked_page q) in
    record {
      around = ap (λ (y : Course). y.around) n.same;
      counted = λ pages nodes is. rw (ap (λ (y : Course). y.counters) n.same) is;
      ended = ap (λ (y : Course). y.ended) n.same;
      in_hand = rw (ap (λ (y : Course). y.hand) n.same) sound.in_hand;
      dead = ap (λ (y : Course). y.dead) n.same;
      cells = ap (λ (y : Course). length y.sent_from.items) n.same ∙ sound.sized.cells ∙ ap (λ (y : DeviceState). length y.page.sent) (sym n.devs);
      vcpus = vcpus;
      fits = record {
        of_pages = ap (λ (y : DeviceState). y.pages) n.devs ∙ (sound.going on).pages ∙ ap (λ p. length p.pages) (sym pmap);
        transfers = ap (λ (y : DeviceState). length y.page.transfers) n.devs ∙ sound.sized.transfers ∙ sym vcpus;
        agree = n.agree;
      };
      blocks = ap (λ (y : Course). length y.blocks.items) n.same;
      seconds = ap (λ (y : Course). length y.seconds.items) n.same;
      places = ap (λ (y : Course). length y.places.items) n.same;
      due = ap (λ (y : Course). length y.due.items) n.same;
      long = ap (λ (y : Course). length y.pmap.pages) n.same;
      stands = rw places sound.places;
    }

pub kept-remade : (c n d : Course) (x : GotPacket) → Remade c n → KeepsPacket n d x → Remade c d
kept-remade c n d x m k =
    let places : d.places ≡ n.places = ap (λ (y : Course). y.places) k.same in
    record {
      around = ap (λ (y : Course). y.around) k.same ∙ m.around;
      counted = λ pages nodes is. rw (ap (λ (y : Course). y.counters) k.same) (m.counted pages nodes is);
      ended = ap (λ (y : Course). y.ended) k.same ∙ m.ended;
      in_hand = rw (ap (λ (y : Course). y.hand) k.same) tt;
      dead = ap (λ (y : Course). y.dead) k.same ∙ m.dead;
      cells = ap (λ (y : Course). length y.sent_from.items) k.same ∙ m.cells ∙ ap (λ (y : Course). length y.devs.state.page.sent) (sym k.same);
      vcpus = ap (λ (y : Course). length y.vcpus.items) k.same ∙ m.vcpus;
      fits = rw (ap (λ (y : Course). y.vcpus) k.same, ap (λ (y : Course). y.devs) k.same, ap (λ (y : Course). y.pmap) k.same) m.fits;
      blocks = ap (λ (y : Course). length y.blocks.items) k.same ∙ m.blocks;
      seconds = ap (λ (y : Course). length y.seconds.items) k.same ∙ m.seconds;
      places = ap (λ (y : Course). length y.places.items) k.same ∙ m.places;
      due = ap (λ (y : Course). length y.due.items) k.same ∙ m.due;
      long = ap (λ (y : Course). length y.pmap.pages) k.same ∙ m.long;
      stands = rw places m.stands;
    }

-- nobody halts by it
pub noted-halted : (c m : Course) (q : ℕ) (x : GotPacket) → NotesPacket c m q x → all_halted m.vcpus.items ≡ all_halted c.vcpus.items
noted-halted c m q x n = ap all_halted n.vcpus ∙ halted-lined (map (unlinked_page q) c.vcpus.items) ∙ halted-unlinked q c.vcpus.items
