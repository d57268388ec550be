-- A packet that is copied into the page that is armed is its row, and keeps what holds of a guest.
use Rattle.std.proofs.Common.{◌≡◌, ℕ, ◌++◌, ◌∷◌, [], true, false, List, Option, Some, None, length, map, get_or, sym, ap, ◌∙◌, length-set}
use Rattle.std.proofs.lemmas.List.{length-map, map-append}
use Rattle.private_machine.specs.declared.vcpu.Vcpu.{Vcpu}
use Rattle.private_machine.specs.Vcpu.{no_vcpu, with_line_on}
use Rattle.private_machine.specs.Backing.{page_at, with_first}
use Rattle.private_machine.specs.DeviceRegisters.{packet_noted}
use Rattle.private_machine.specs.Links.{unlinked_page}
use Rattle.private_machine.specs.Packet.{came_into}
use Rattle.private_machine.specs.Signals.{changed}
use Rattle.guest_devs.specs.DeviceState.{DeviceState}
use Rattle.guest_devs.specs.Shown.{Agree}
use Rattle.pmap_table.specs.PageMap.{PageMap, with_page}
use Rattle.isolation_law.specs.GuestState.{processor}
use Rattle.isolation_law.specs.Content.{content}
use Rattle.isolation_law.specs.PacketRows.{Receives, with_received, Discards}
use Rattle.isolation_law.specs.Phases.{GoesOn, all_halted}
use Rattle.guest_course.specs.declared.course.Course.{Course}
use Rattle.guest_course.specs.declared.got.GotPacket.{GotPacket}
use Rattle.guest_course.specs.CourseView.{state_of, got_of}
use Rattle.guest_course.specs.CourseRules.{IsWritable, IsSound}
use Rattle.guest_course.specs.EmulateCalls.{StaysLoaded}
use Rattle.guest_course.proofs.CommandRows.{needs-none}
use Rattle.guest_course.proofs.EmulateProofs.{Remade}
use Rattle.guest_course.proofs.HaltLemmas.{halted-unlinked, halted-lined}
use Rattle.guest_course.proofs.StepProofs.{goes-on}
use Rattle.guest_course.specs.ReceivingCalls.{HandLives, HandIsLost}
use Rattle.std.specs.Global.{Vec}
use Rattle.private_machine.specs.Operation.{Packet}
use Rattle.guest_course.proofs.RebackLemmas.{IsWell}

-- what the parts of a guest become by a packet that comes into a page
pub record Received (c d : Course) (q : ℕ) (x : GotPacket) : Type 0 where
  pub same : d ≡ record c { vcpus = d.vcpus; devs = d.devs; pmap = d.pmap; received = d.received; hand = None }
  pub vcpus : d.vcpus.items ≡ changed 0 (with_line_on 3 true) (map (unlinked_page q) c.vcpus.items)
  pub devs : d.devs.state ≡ record c.devs.state { page = packet_noted x.from.0 (length x.bytes) c.devs.state.page; packet = true }
  pub pmap : d.pmap ≡ with_page c.pmap q (with_first x.bytes (page_at c.pmap.pages q))
  pub received : d.received.items ≡ c.received.items ++ x ∷ []
  pub agree : Agree d.devs.state d.vcpus.items

state-received : (c d : Course) (q : ℕ) (x : GotPacket) → (state_of c).devices.armed ≡ Some q → Received c d q x
    → state_of d ≡ with_received (state_of c) (got_of x) (record (state_of c) { pages = (with_page c.pmap q (with_first x.bytes (page_at c.pmap.pages q))).pages })
state-received c d q x armed r =
    let s = state_of c in
    let m = content s in
    let here = λ (a : Option ℕ). came_into m x.from.0 x.bytes a in
    let vcpus = r.vcpus ∙ ap (λ (a : Option ℕ). (here a).vcpus) (sym armed) in
    let devices = ap (λ (y : DeviceState). y.page) r.devs ∙ ap (λ (a : Option ℕ). (here a).devices) (sym armed) in
    let received = ap (map got_of) r.received ∙ map-append got_of c.received.items (x ∷ []) in
    ap state_of r.same ∙ (λ i. record s { vcpus = vcpus i; devices = devices i; pages = (r.pmap i).pages; spares = (r.pmap i).spares; received = received i; hand = None })

pub receives-row : (c d : Course) (q : ℕ) (x : GotPacket) → IsSound c → GoesOn (state_of c) → IsWritable (page_at c.pmap.pages q) → (state_of c).devices.armed ≡ Some q
    → (state_of c).hand ≡ Some (got_of x) → HandLives (state_of c) → Received c d q x → Receives (state_of c) (length c.received.items) (state_of d)
receives-row c d q x sound on may armed hand live r =
    let s = state_of c in
    record {
      q = q;
      packet = got_of x;
      delivered = record { goes_on = on; armed = armed; in_hand = hand; lives = live (got_of x) hand; next = sym (length-map c.received.items got_of) };
      shares = false;
      needs_nothing = needs-none s q may;
      after = state-received c d q x armed r;
    }

pub changed-length : (f : Vcpu → Vcpu) (v : ℕ) (cs : List Vcpu) → length (changed v f cs) ≡ length cs
changed-length f v cs = length-set cs v (f (get_or cs v no_vcpu))

pub received-remade : (c d : Course) (q : ℕ) (x : GotPacket) → IsSound c → c.ended ≡ None → Received c d q x → Remade c d
received-remade c d q x sound on r =
    let places : d.places ≡ c.places = ap (λ (y : Course). y.places) r.same in
    let new = with_first x.bytes (page_at c.pmap.pages q) in
    let long = ap (λ (y : PageMap). length y.pages) r.pmap ∙ length-set c.pmap.pages q new in
    let vcpus = ap length r.vcpus ∙ changed-length (with_line_on 3 true) 0 (map (unlinked_page q) c.vcpus.items) ∙ length-map c.vcpus.items (unlinked_page q) in
    record {
      around = ap (λ (y : Course). y.around) r.same;
      counted = λ pages nodes is. rw (ap (λ (y : Course). y.counters) r.same) is;
      ended = ap (λ (y : Course). y.ended) r.same;
      in_hand = rw (ap (λ (y : Course). y.hand) r.same) tt;
      dead = ap (λ (y : Course). y.dead) r.same;
      cells = ap (λ (y : Course). length y.sent_from.items) r.same ∙ sound.sized.cells ∙ ap (λ (y : DeviceState). length y.page.sent) (sym r.devs);
      vcpus = vcpus;
      fits = record {
        of_pages = ap (λ (y : DeviceState). y.pages) r.devs ∙ (sound.going on).pages ∙ sym long;
        transfers = ap (λ (y : DeviceState). length y.page.transfers) r.devs ∙ sound.sized.transfers ∙ sym vcpus;
        agree = r.agree;
      };
      blocks = ap (λ (y : Course). length y.blocks.items) r.same;
      seconds = ap (λ (y : Course). length y.seconds.items) r.same;
      places = ap (λ (y : Course). length y.places.items) r.same;
      due = ap (λ (y : Course). length y.due.items) r.same;
      long = long;
      stands = rw places sound.places;
    }

pub received-stays : (c d : Course) (q : ℕ) (x : GotPacket) → Received c d q x → StaysLoaded (state_of c) (state_of d)
received-stays c d q x r = record {
  loaded = λ p. ap (λ (y : Course). (processor (state_of y) p).loaded) r.same;
  end = ap (λ (y : Course). y.ended) r.same;
}

-- nobody halts by it
pub received-goes-on : (c d : Course) (q : ℕ) (x : GotPacket) → Received c d q x → GoesOn (state_of c) → GoesOn (state_of d)
received-goes-on c d q x r =
    goes-on c d (ap all_halted r.vcpus ∙ halted-lined (map (unlinked_page q) c.vcpus.items) ∙ halted-unlinked q c.vcpus.items) (ap (λ (y : Course). y.ended) r.same)

-- a packet that is thrown away
pub record Discarded (c d : Course) (x : GotPacket) : Type 0 where
  pub same : d ≡ record c { hand = None; discarded = d.discarded }
  pub items : d.discarded.items ≡ c.discarded.items ++ x ∷ []

pub discards-row : (c d : Course) (x : GotPacket) → GoesOn (state_of c) → (lost : HandIsLost (state_of c)) → lost.packet ≡ got_of x → Discarded c d x → Discards (state_of c) (length c.discarded.items) (state_of d)
discards-row c d x on lost is r =
    let s = state_of c in
    let items = ap (map got_of) r.items ∙ map-append got_of c.discarded.items (x ∷ []) ∙ ap (λ (y : Packet). s.discarded ++ y ∷ []) (sym is) in
    record {
      goes_on = on;
      packet = lost.packet;
      in_hand = lost.in_hand;
      failed = lost.lost;
      next = sym (length-map c.discarded.items got_of);
      after = ap state_of r.same ∙ (λ i. record s { hand = None; discarded = items i });
    }

pub discards-sound : (c : Course) (list : Vec GotPacket) → IsSound c → (c.ended ≡ None → IsWell (state_of (record c { hand = None; discarded = list }))) → IsSound (record c { hand = None; discarded = list })
discards-sound c list sound w =
    let sized = sound.sized in
    record {
      sized = record {
        some_vcpus = sized.some_vcpus;
        few_vcpus = sized.few_vcpus;
        blocks = sized.blocks;
        transfers = sized.transfers;
        seconds = sized.seconds;
        few_processors = sized.few_processors;
        due = sized.due;
        few_pages = sized.few_pages;
        cells = sized.cells;
        dead = sized.dead;
      };
      agree = sound.agree;
      loaded = sound.loaded;
      places = sound.places;
      in_hand = tt;
      going = λ on. record { coherent = (w on).coherent; live = (w on).live; pages = (sound.going on).pages; counted = (sound.going on).counted };
    }
