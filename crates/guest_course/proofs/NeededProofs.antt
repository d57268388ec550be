-- The begin of a move that a page needs before its bytes change is its row.
use Rattle.std.proofs.Common.{◌≡◌, ◌≢◌, ℕ, ◌/◌, ◌<◌, ◌==◌, ◌&&◌, not, if◌then◌else◌, Bool, true, false, List, [], ◌∷◌, ◌++◌, Option, Some, None, option_map, Ok, Err, length, remove, slice_get, inl, inr, refl, sym, ap, ◌∙◌, subst}
use Rattle.std.proofs.lemmas.Bool.{cases_lt}
use Rattle.std.proofs.lemmas.List.{get_or_past}
use Rattle.base_words.specs.declared.ids.ProcId.{ProcId}
use Rattle.base_words.specs.declared.moves.By.{By}
use Rattle.base_words.specs.declared.moves.By.TheVariants.{Step, Packet}
use Rattle.base_words.specs.declared.moves.MoveKind.{MoveKind}
use Rattle.base_words.specs.declared.moves.MoveKind.TheVariants.{Collapse, Break, TakeShared, GiveShared}
use Rattle.private_machine.specs.Backing.{Change, Copy, Page, no_page}
use Rattle.base_words.specs.declared.place.Place.TheVariants.{Memory}
use Rattle.private_machine.specs.DeviceAct.{Act, StoresTo, ReadsDisk, SendsPage, NoAct}
use Rattle.private_machine.specs.DevicePage.{transfer_of}
use Rattle.private_machine.specs.Devices.{may_send}
use Rattle.private_machine.specs.Operation.{Packet as InHand, ReadsBlock, Delivers}
use Rattle.private_machine.specs.HardwareStep.{Trap, Line, FetchMiss, DataMiss, ReadOnly, Address, Privileged, Raised, Dead}
use Rattle.private_machine.specs.OwnStep.{led}
use Rattle.private_machine.specs.Reaching.{Wanted}
use Rattle.private_machine.specs.TrapAccess.{trapped_access, missed_access}
use Rattle.guest_devs.specs.declared.act.DevAct.{DevAct}
use Rattle.guest_devs.specs.declared.act.DevAct.TheVariants as acts
use Rattle.isolation_law.specs.Coherence.{Coherent}
use Rattle.isolation_law.specs.Content.{content}
use Rattle.isolation_law.specs.Traps.{step_on}
use Rattle.private_machine.specs.PageMove.{kind_of, target_of}
use Rattle.isolation_law.specs.GuestState.{GuestState, page, hand_place}
use Rattle.isolation_law.specs.MoveRows.{Asks, Begins, Fits, LiesAlive, TakesSpare, with_begun}
use Rattle.isolation_law.specs.Needs.{Need, needed, for_change, none_of, may_share_block, may_offer}
use Rattle.isolation_law.specs.Phases.{GoesOn, Runs}
use Rattle.isolation_law.specs.StepAct.{at_hand}
use Rattle.wire_queue.specs.declared.packet.WirePacket.{WirePacket}
use Rattle.guest_course.specs.declared.course.Course.{Course}
use Rattle.guest_course.specs.CourseView.{surroundings, hand_of, state_of}
use Rattle.guest_course.specs.CourseRules.{AllStand, IsSound}
use Rattle.guest_course.specs.Acting.{act_of}
use Rattle.guest_course.specs.EmulateCalls.{LeavesAct}
use Rattle.guest_course.specs.Posting.{to_give}
use Rattle.guest_course.specs.Hurdles.{NeedsMove}
use Rattle.guest_course.specs.MoveCalls.{home_wish}
use Rattle.guest_course.specs.Rebacking.{Rebacked}
use Rattle.guest_course.specs.RefillCalls.{ReachesPage, StaysNeeding, StaysLosing}
use Rattle.guest_course.specs.StepCalls.{MayStep, ReachesNoneLost}
use Rattle.guest_course.specs.Tasks.{read_page}
use Rattle.guest_course.proofs.HurdleLemmas.{never-some}
use Rattle.guest_course.proofs.ReadLemmas.{read-at-hand}
use Rattle.guest_course.specs.ReceivingCalls.{HandLives}

-- what is told of stores through halves that aren't writable
abbrev pub ReadOnlyStores : Type 0
ReadOnlyStores = (s : GuestState) (p v word : ℕ) (w : Wanted) (offset : ℕ) → Coherent s → Runs s p v → step_on s p v ≡ Err (ReadOnly word w) → led (content s) v w.unit w.purpose w.address ≡ Ok (Memory offset) → at_hand s v ≡ StoresTo (offset / 4096)

-- a store that the guest grants on a page is what the step at hand does with it
pub stores-at-hand : ReadOnlyStores → (s : GuestState) (p v q : ℕ) → Coherent s → ReachesNoneLost s p v → Runs s p v → (r : ReachesPage s p v q) → missed_access r.trap ≡ None → at_hand s v ≡ StoresTo q
stores-at-hand law s p v q co live runs r missed = by r.trap r.is_it r.traps missed
  where
    by : (trap : Trap) → trapped_access trap ≡ Some r.access → step_on s p v ≡ Err trap → missed_access trap ≡ None → at_hand s v ≡ StoresTo q
    by Line e is miss = cc
    by (FetchMiss w) e is miss = cc
    by (DataMiss word w) e is miss = cc
    by (ReadOnly word w) e is miss =
        let same : w ≡ r.access = cc in
        law s p v word w r.offset co runs is (ap (λ (z : Wanted). led (content s) v z.unit z.purpose z.address) same ∙ r.leads) ∙ ap StoresTo (sym r.page_is)
    by (Address word) e is miss = cc
    by (Privileged word) e is miss = cc
    by (Raised x) e is miss = cc
    by (Dead there w) e is miss = absurd (live there w is)

-- who asks for it: the store at hand
pub needed-asks : ReadOnlyStores → (c : Course) (p : ProcId) (v q : ℕ) (kind : MoveKind) → IsSound c → MayStep (state_of c) p.0 v → StaysNeeding (state_of c) p.0 v q kind (state_of c) → Asks (state_of c) (Step p) (home_wish (state_of c) q kind) None
needed-asks law c p v q kind sound may n =
    let s = state_of c in
    let acts = stores-at-hand law s p.0 v q (sound.going may.goes_on.not_ended).coherent n.alive may.runs n.reaches n.stores in
    record { v = v; runs = may.runs; shares = false; needs = inl (ap (needed s v false) acts ∙ n.needs.needs); at_home = refl }

-- or the frame of a failed cell by which it reached the page
pub lost-asks : (s : GuestState) (p : ProcId) (v q : ℕ) → MayStep s p.0 v → StaysLosing s p.0 v q s → Asks s (Step p) (home_wish s q Collapse) None
lost-asks s p v q may n = record {
  v = v;
  runs = may.runs;
  shares = false;
  needs = inr (record { trap = n.loses.trap; traps = n.loses.traps; loses = n.loses.loses; is_collapse = refl; for_none = refl });
  at_home = refl;
}

-- the disk read at hand
pub left-asks : (s : GuestState) (p : ProcId) (v q : ℕ) (act : DevAct) (kind : MoveKind) → LeavesAct s p.0 v act s → read_page s v act ≡ Some q → NeedsMove s q kind → Asks s (Step p) (home_wish s q kind) None
left-asks s p v q act kind left reads n =
    let acts = (read-at-hand s p.0 v q act left reads).1 in
    record { v = v; runs = left.traps.runs; shares = false; needs = inl (ap (needed s v false) acts ∙ n.needs); at_home = refl }

-- and the packet in hand
pub packet-asks : (s : GuestState) (q : ℕ) (kind : MoveKind) (hand : Option WirePacket) → s.hand ≡ option_map hand_of hand → hand ≢ None → s.devices.armed ≡ Some q → HandLives s → NeedsMove s q kind → Asks s Packet (home_wish s q kind) None
packet-asks s q kind None is some armed live n = absurd (some refl)
packet-asks s q kind (Some x) is some armed live n = record {
  packet = hand_of x;
  in_hand = is;
  armed = armed;
  lives = live (hand_of x) is;
  shares = false;
  needs = n.needs;
  at_home = refl;
}

-- the begin is its row
pub begins-asked : (s t : GuestState) (by : By) (q : ℕ) (kind : MoveKind) (change : Change) (rest : List Copy) → GoesOn s → NeedsMove s q kind → q < length s.pages
    → kind_of change ≡ kind → Fits s s.around.home change None rest → LiesAlive s (target_of change) → t ≡ with_begun s q change None rest → Asks s by (home_wish s q kind) None → Begins s q kind s.around.home by t
begins-asked s t by q kind change rest on n there is fits lives after asked = record {
  goes_on = on;
  is_page = there;
  rests = n.rests;
  change = change;
  is_kind = is;
  operation = None;
  asked = asked;
  rest = rest;
  fits = fits;
  lives = lives;
  after = after;
}

-- which kind it is
abbrev needs_at : ℕ → Bool → Bool → Option Need
needs_at q shared single =
    if shared then Some (record { page = q; kind = Break; operation = None })
    else if single then None
    else Some (record { page = q; kind = Collapse; operation = None })

abbrev kind_in : Option Need → MoveKind
kind_in None = Break
kind_in (Some n) = n.kind

pub is-break : (s : GuestState) (q : ℕ) (kind : MoveKind) → for_change s q ≡ Some (record { page = q; kind = kind; operation = None }) → (page s q).shared ≡ true → Break ≡ kind
is-break s q kind needs shared = ap kind_in (sym (ap (λ b. needs_at q b (none_of (page s q).replicas)) shared) ∙ needs)

pub is-collapse : (s : GuestState) (q : ℕ) (kind : MoveKind) → for_change s q ≡ Some (record { page = q; kind = kind; operation = None }) → (page s q).shared ≡ false → Collapse ≡ kind
is-collapse s q kind needs own = by (none_of (page s q).replicas) (sym (ap (λ b. needs_at q b (none_of (page s q).replicas)) own) ∙ needs)
  where
    by : (b : Bool) → needs_at q false b ≡ Some (record { page = q; kind = kind; operation = None }) → Collapse ≡ kind
    by true e = cc
    by false e = ap kind_in e

-- the last spare is one of them
last-at : (rest : List Copy) (c : Copy) → slice_get (rest ++ c ∷ []) (length rest) ≡ Some c
last-at [] c = refl
last-at (r ∷ rest) c = last-at rest c

without-last : (rest : List Copy) (c : Copy) → rest ≡ remove (rest ++ c ∷ []) (length rest)
without-last [] c = refl
without-last (r ∷ rest) c = ap (λ l. r ∷ l) (without-last rest c)

pub takes-last : (spares rest : List Copy) (c : Copy) → spares ≡ rest ++ c ∷ [] → TakesSpare spares c rest
takes-last spares rest c is = record {
  place = length rest;
  is_it = ap (λ l. slice_get l (length rest)) is ∙ last-at rest c;
  others = without-last rest c ∙ ap (λ l. remove l (length rest)) (sym is);
}

-- a page that needs a move is there
pub is-there : (s : GuestState) (q : ℕ) (kind : MoveKind) → for_change s q ≡ Some (record { page = q; kind = kind; operation = None }) → q < length s.pages
is-there s q kind needs = elim (cases_lt q (length s.pages)) [
  | inl lt ↦ lt
  | inr past ↦
      let none = sym (ap (λ (g : Page). needs_at q g.shared (none_of g.replicas)) (get_or_past s.pages q no_page past)) ∙ needs in
      cc
]

-- what is kept where a spare was taken out first
pub rebacked-spared : (c m d : Course) → m ≡ record c { pmap = m.pmap } → m.pmap.pages ≡ c.pmap.pages → Rebacked m d → Rebacked c d
rebacked-spared c m d same pages r = record {
  vcpus = r.vcpus ∙ ap (λ (y : Course). y.vcpus) same;
  blocks = r.blocks ∙ ap (λ (y : Course). y.blocks) same;
  devs = r.devs ∙ ap (λ (y : Course). y.devs) same;
  around = r.around ∙ ap (λ (y : Course). y.around) same;
  counted = λ ps ns is. r.counted ps ns (rw (ap (λ (y : Course). y.counters) same) is);
  ended = r.ended ∙ ap (λ (y : Course). y.ended) same;
  hand = r.hand ∙ ap (λ (y : Course). y.hand) same;
  dead = r.dead ∙ ap (λ (y : Course). y.dead) same;
  sent_from = r.sent_from ∙ ap (λ (y : Course). y.sent_from) same;
  seconds = r.seconds ∙ ap (λ (y : Course). length y.seconds.items) same;
  places = r.places ∙ ap (λ (y : Course). length y.places.items) same;
  due = r.due ∙ ap (λ (y : Course). length y.due.items) same;
  long = r.long ∙ ap length pages;
  stands = subst (λ a. AllStand (surroundings a) 0 d.places.items) (ap (λ (y : Course). y.around) same) r.stands;
}

-- the disk read at hand asks to take its page shared
pub block-asks : (s : GuestState) (p : ProcId) (v b q : ℕ) (act : DevAct) → LeavesAct s p.0 v act s → at_hand s v ≡ ReadsDisk b q → may_share_block s b ≡ true → Asks s (Step p) (home_wish s q TakeShared) (Some (ReadsBlock v b))
block-asks s p v b q act left hand may = record {
  v = v;
  runs = left.traps.runs;
  shares = true;
  needs = inl (ap (needed s v true) hand ∙ ap (λ (x : Bool). if x then Some (record { page = q; kind = TakeShared; operation = Some (ReadsBlock v b) }) else for_change s q) may);
  at_home = refl;
}

abbrev give_need : ℕ → Need
give_need q = record { page = q; kind = GiveShared; operation = None }

-- a send at hand of a page that has to be given for it asks for that
pub give-asks : (s : GuestState) (p : ProcId) (v q : ℕ) (act : DevAct) → LeavesAct s p.0 v act s → at_hand s v ≡ act_of s v act → to_give s v act ≡ Some q → Asks s (Step p) (home_wish s q GiveShared) None
give-asks s p v q act left hand gives = record {
  v = v;
  runs = left.traps.runs;
  shares = true;
  needs = inl (ap (needed s v true) hand ∙ needs act gives);
  at_home = refl;
}
  where
    ap-if : (f : Act → Option Need) (b : Bool) (x y : Act) → f (if b then x else y) ≡ (if b then f x else f y)
    ap-if f true x y = refl
    ap-if f false x y = refl

    giving : (may offers : Bool) (r : ℕ) → (if may && offers then Some r else None) ≡ Some q
        → (if may then (if offers then Some (give_need r) else None) else None) ≡ Some (give_need q)
    giving true true r is = ap (option_map give_need) is
    giving true false r is = absurd (never-some q is)
    giving false offers r is = absurd (never-some q is)

    needs : (a : DevAct) → to_give s v a ≡ Some q → needed s v true (act_of s v a) ≡ Some (give_need q)
    needs acts.Done is = absurd (never-some q is)
    needs acts.DiskRead is = absurd (never-some q is)
    needs acts.DiskWrite is = absurd (never-some q is)
    needs (acts.Send to) is =
        let t = transfer_of s.devices v in
        let may = may_send (content s) t in
        ap-if (needed s v true) may (SendsPage t.send_page t.send_length to) NoAct ∙ giving may (may_offer s t.send_page t.send_length to && not (page s t.send_page).shared) t.send_page is

-- and so does a packet that hands on a frame
pub delivery-asks : (s : GuestState) (q : ℕ) (packet : InHand) → s.hand ≡ Some packet → s.devices.armed ≡ Some q → HandLives s → length packet.bytes ≡ 4096
    → Asks s Packet (home_wish s q TakeShared) (Some (Delivers (hand_place s) packet))
delivery-asks s q packet is armed live full = record {
  packet = packet;
  in_hand = is;
  armed = armed;
  lives = live packet is;
  shares = true;
  needs = ap (λ (n : ℕ). if n == 4096 then Some (record { page = q; kind = TakeShared; operation = Some (Delivers (hand_place s) packet) }) else for_change s q) full;
  at_home = refl;
}
