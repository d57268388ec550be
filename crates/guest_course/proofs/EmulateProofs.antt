-- A step that the monitor makes is its row, and keeps what holds of a guest.
use Rattle.std.proofs.Common.{◌≡◌, ℕ, ◌<◌, ◌≤◌, if◌then◌else◌, true, false, List, [], ◌∷◌, Option, Some, None, Err, length, map, get_or, set, refl, sym, ap, ◌∙◌, subst, length-set, true≢false, Bool}
use Rattle.std.proofs.lemmas.List.{map-set}
use Rattle.std.specs.Global.{Vec}
use Rattle.base_words.specs.Limits.{most_processors}
use Rattle.base_words.specs.declared.trap.TrapCause.{TrapCause}
use Rattle.base_words.specs.Halves.{without_pair}
use Rattle.base_words.specs.Tlb.{page_pair, entry_read}
use Rattle.private_machine.specs.declared.register_page.RegBlock.{RegBlock}
use Rattle.private_machine.specs.declared.vcpu.Vcpu.{Vcpu}
use Rattle.private_machine.specs.Vcpu.{held_entry}
use Rattle.private_machine.specs.DeviceAct.{WritesEntry, NoAct}
use Rattle.private_machine.specs.HardwareStep.{Trap, Line, FetchMiss, DataMiss, ReadOnly, Address, Privileged, Raised, Dead}
use Rattle.private_machine.specs.OwnStep.{joined, input_joined, own_step}
use Rattle.private_machine.specs.PrivateMachine.{PrivateMachine, vcpu}
use Rattle.private_machine.specs.Reaching.{Wanted}
use Rattle.private_machine.specs.StepAct.{act_next}
use Rattle.private_machine.specs.RegisterPage.{has_page, block_for}
use Rattle.private_machine.specs.SecondLevel.{seconds_without_pair}
use Rattle.private_machine.specs.TrapAccess.{trapped_access, grants}
use Rattle.hw_tlb.specs.Tlb.{Tlb, halves}
use Rattle.page_policy.specs.Pages.{AreCounters}
use Rattle.trap_emulate.specs.declared.emulated.EntryWrite.{EntryWrite}
use Rattle.trap_emulate.specs.GuestView.{Fits}
use Rattle.trap_emulate.specs.Trapped.{IsTrap, IsDenied as DeniedTrap}
use Rattle.trap_emulate.specs.Emulation.{Wrote, Emulates as Tells}
use Rattle.trap_emulate.specs.declared.emulated.Emulated.TheVariants.{Done}
use Rattle.isolation_law.specs.Parts.{Processor}
use Rattle.isolation_law.specs.GuestState.{GuestState, idle, processor, vcpu_of}
use Rattle.isolation_law.specs.Content.{content, with_own}
use Rattle.isolation_law.specs.DirectStep.{with_inputs, sight}
use Rattle.isolation_law.specs.Needs.{needed}
use Rattle.isolation_law.specs.StepAct.{at_hand}
use Rattle.isolation_law.specs.StepRows.{IsEmulated, Emulates, pair_dropped, old_pair, new_pair, act_done, shown_again}
use Rattle.isolation_law.specs.PageAlike.{paged}
use Rattle.isolation_law.specs.Traps.{step_on, is_granted}
use Rattle.guest_course.specs.declared.place.Place.{Place}
use Rattle.guest_course.specs.declared.course.Course.{Course}
use Rattle.guest_course.specs.CourseView.{surroundings, processor_of, state_of}
use Rattle.guest_course.specs.CourseRules.{FitsInHand, IsSound, StandsAt, AllStand}
use Rattle.guest_course.specs.Rebacking.{Rebacked}
use Rattle.guest_course.specs.StepCalls.{MayStep, IsDenied, ReachesNoneLost}
use Rattle.guest_course.specs.Acting.{page_used}
use Rattle.guest_course.specs.EmulateCalls.{UsesNoPage, written_dropped}
use Rattle.guest_course.proofs.AlikeLemmas.{IsAlike, joined-paged}
use Rattle.guest_course.proofs.LiveLemmas.{kept-live}
use Rattle.guest_course.proofs.NotingLemmas.{stands}
use Rattle.guest_course.proofs.JoinLemmas.{by-first}
use Rattle.guest_course.proofs.RebackLemmas.{stands-set, processor-at, loaded-elsewhere, IsWell}
use Rattle.guest_course.specs.Failures.{dead_cells}

-- what is granted is granted once the input has joined
granted-joined : (m : PrivateMachine) (v : ℕ) (w : Wanted) → grants (joined m v) v (Some w) ≡ grants m v (Some w)
granted-joined m v w = by-first (λ n b. grants (if b then input_joined m else m) n (Some w) ≡ grants m n (Some w)) v (first m.vcpus) refl
  where
    first : (l : List Vcpu) → grants (input_joined (record m { vcpus = l })) 0 (Some w) ≡ grants (record m { vcpus = l }) 0 (Some w)
    first [] = refl
    first (c ∷ l) = refl

-- why the hardware trapped, as the code that emulates asks for it
denied-trap : (s : GuestState) (p v : ℕ) (trap : Trap) → ReachesNoneLost s p v → step_on s p v ≡ Err trap → is_granted s v (trapped_access trap) ≡ false → DeniedTrap (joined (paged false (content s)) v) v None trap
denied-trap s p v Line live is denied = tt
denied-trap s p v (FetchMiss w) live is denied = granted-joined (paged false (content s)) v w ∙ denied
denied-trap s p v (DataMiss word w) live is denied = granted-joined (paged false (content s)) v w ∙ denied
denied-trap s p v (ReadOnly word w) live is denied = λ granted none. true≢false (sym granted ∙ granted-joined (paged false (content s)) v w ∙ denied)
denied-trap s p v (Address word) live is denied = tt
denied-trap s p v (Privileged word) live is denied = tt
denied-trap s p v (Raised x) live is denied = tt
denied-trap s p v (Dead there w) live is denied = live there w is

pub is-trap : (s : GuestState) (p v : ℕ) (cause : TrapCause) → IsDenied s p v cause → IsTrap (joined (paged false (content s)) v) v None cause
is-trap s p v cause d = subst (λ (m : PrivateMachine). IsTrap m v None cause) (sym (joined-paged (content s) v)) (record {
  sight = sight (with_inputs s v) p v;
  backing = (with_inputs s v).pages;
  trap = d.why.trap;
  user = refl;
  asid = refl;
  line = refl;
  traps = d.why.traps;
  told = d.why.told;
  denied = subst (λ (m : PrivateMachine). DeniedTrap m v None d.why.trap) (joined-paged (content s) v) (denied-trap s p v d.why.trap d.alive d.why.traps d.denied);
})

-- what a step leaves that is made by hand, and what may be changed of its backing afterwards
pub record Remade (c d : Course) : Type 0 where
  pub around : d.around ≡ c.around
  pub counted : (pages nodes : ℕ) → AreCounters pages nodes c.counters → AreCounters pages nodes d.counters
  pub ended : d.ended ≡ c.ended
  pub in_hand : FitsInHand (surroundings c.around) d.hand
  pub dead : d.dead ≡ c.dead
  pub cells : length d.sent_from.items ≡ length d.devs.state.page.sent
  pub vcpus : length d.vcpus.items ≡ length c.vcpus.items
  pub fits : Fits (length d.pmap.pages) d.vcpus.items d.devs.state
  pub blocks : length d.blocks.items ≡ length c.blocks.items
  pub seconds : length d.seconds.items ≡ length c.seconds.items
  pub places : length d.places.items ≡ length c.places.items
  pub due : length d.due.items ≡ length c.due.items
  pub long : length d.pmap.pages ≡ length c.pmap.pages
  pub stands : AllStand (surroundings c.around) 0 d.places.items

pub remade : (c d : Course) → d ≡ record c { vcpus = d.vcpus; devs = d.devs } → length d.vcpus.items ≡ length c.vcpus.items → Fits (length c.pmap.pages) d.vcpus.items d.devs.state → AllStand (surroundings c.around) 0 c.places.items → FitsInHand (surroundings c.around) c.hand → length c.sent_from.items ≡ length d.devs.state.page.sent → Remade c d
remade c d same long fits stand hand cells =
    let places : d.places ≡ c.places = ap (λ (y : Course). y.places) same in
    let pmap = ap (λ (y : Course). y.pmap) same in
    record {
      around = ap (λ (y : Course). y.around) same;
      counted = λ pages nodes is. rw (ap (λ (y : Course). y.counters) same) is;
      ended = ap (λ (y : Course). y.ended) same;
      in_hand = rw (ap (λ (y : Course). y.hand) same) hand;
      dead = ap (λ (y : Course). y.dead) same;
      cells = ap (λ (y : Course). length y.sent_from.items) same ∙ cells;
      vcpus = long;
      fits = rw pmap fits;
      blocks = ap (λ (y : Course). length y.blocks.items) same;
      seconds = ap (λ (y : Course). length y.seconds.items) same;
      places = ap (λ (y : Course). length y.places.items) same;
      due = ap (λ (y : Course). length y.due.items) same;
      long = ap (λ (y : Course). length y.pmap.pages) same;
      stands = rw places stand;
    }

-- after what may be changed of its backing
pub remade-rebacked : (c d e : Course) → Remade c d → Rebacked d e → Remade c e
remade-rebacked c d e m r = record {
  around = r.around ∙ m.around;
  counted = λ pages nodes is. r.counted pages nodes (m.counted pages nodes is);
  ended = r.ended ∙ m.ended;
  in_hand = rw r.hand m.in_hand;
  dead = r.dead ∙ m.dead;
  cells = rw (r.sent_from, r.devs) m.cells;
  vcpus = ap (λ (l : Vec Vcpu). length l.items) r.vcpus ∙ m.vcpus;
  fits = rw (r.vcpus, r.devs, r.long) m.fits;
  blocks = ap (λ (l : Vec (Option RegBlock)). length l.items) r.blocks ∙ m.blocks;
  seconds = r.seconds ∙ m.seconds;
  places = r.places ∙ m.places;
  due = r.due ∙ m.due;
  long = r.long ∙ m.long;
  stands = subst (λ a. AllStand (surroundings a) 0 e.places.items) m.around r.stands;
}

-- there are as many register pages
pub shown-long : (d x : Course) (v : ℕ) → state_of x ≡ shown_again v (state_of d) → length x.blocks.items ≡ length d.blocks.items
shown-long d x v shown = ap (λ (t : GuestState). length t.blocks) shown ∙ length-set d.blocks.items v (block_for (has_page (state_of d).around.profile) (vcpu_of (state_of d) v).cp0)

-- after its register page shows again what the registers read
pub remade-shown : (c d x : Course) → x ≡ record d { blocks = x.blocks } → length x.blocks.items ≡ length d.blocks.items → Remade c d → Remade c x
remade-shown c d x same long m =
    let pmap : x.pmap ≡ d.pmap = ap (λ (y : Course). y.pmap) same in
    let devs : x.devs ≡ d.devs = ap (λ (y : Course). y.devs) same in
    let vcpus : x.vcpus ≡ d.vcpus = ap (λ (y : Course). y.vcpus) same in
    let places : x.places ≡ d.places = ap (λ (y : Course). y.places) same in
    record {
      around = ap (λ (y : Course). y.around) same ∙ m.around;
      counted = λ pages nodes is. rw (ap (λ (y : Course). y.counters) same) (m.counted pages nodes is);
      ended = ap (λ (y : Course). y.ended) same ∙ m.ended;
      in_hand = rw (ap (λ (y : Course). y.hand) same) m.in_hand;
      dead = ap (λ (y : Course). y.dead) same ∙ m.dead;
      cells = rw (ap (λ (y : Course). y.sent_from) same, devs) m.cells;
      vcpus = rw vcpus m.vcpus;
      fits = rw (pmap, vcpus, devs) m.fits;
      blocks = long ∙ m.blocks;
      seconds = ap (λ (y : Course). length y.seconds.items) same ∙ m.seconds;
      places = rw places m.places;
      due = ap (λ (y : Course). length y.due.items) same ∙ m.due;
      long = rw pmap m.long;
      stands = rw places m.stands;
    }

pub sound-remade : (c d : Course) → IsSound c → c.ended ≡ None → Remade c d
    → ((p v : ℕ) → (processor (state_of d) p).loaded ≡ Some v → v < length c.vcpus.items) → IsWell (state_of d) → IsSound d
sound-remade c d sound on m loaded w =
    let sized = sound.sized in
    let going = sound.going on in
    record {
      sized = record {
        some_vcpus = subst (λ (k : ℕ). 0 < k) (sym m.vcpus) sized.some_vcpus;
        few_vcpus = subst (λ (k : ℕ). k ≤ 4) (sym m.vcpus) sized.few_vcpus;
        blocks = m.blocks ∙ sized.blocks ∙ sym m.vcpus;
        transfers = m.fits.transfers;
        seconds = m.seconds ∙ sized.seconds ∙ sym m.vcpus;
        few_processors = subst (λ (k : ℕ). k ≤ most_processors) (sym m.places) sized.few_processors;
        due = m.due ∙ sized.due ∙ sym m.places;
        few_pages = subst (λ (k : ℕ). k ≤ 2048) (sym m.long) sized.few_pages;
        cells = m.cells;
        dead = ap (λ (o : Option (List Bool)). length (dead_cells o)) m.dead ∙ sized.dead;
      };
      agree = m.fits.agree;
      loaded = λ p v is. subst (λ (k : ℕ). v < k) (sym m.vcpus) (loaded p v is);
      places = rw m.around m.stands;
      in_hand = rw m.around m.in_hand;
      going = λ _. record {
        coherent = w.coherent;
        live = w.live;
        pages = m.fits.of_pages;
        counted = rw (m.around, m.long) (m.counted _ _ going.counted);
      };
    }

-- what the going of a pair makes of a guest's parts
pub record Drop (c d : Course) (p v pair : ℕ) : Type 0 where
  pub same : d ≡ record c { places = d.places; seconds = d.seconds }
  pub place : Place
  pub at : place ≡ get_or c.places.items p place
  pub tlb : Tlb
  pub places : d.places.items ≡ set c.places.items p (record place { tlb = tlb })
  pub without : halves tlb ≡ without_pair pair (halves place.tlb)
  pub seconds : d.seconds.items ≡ set c.seconds.items v (seconds_without_pair pair (get_or c.seconds.items v []))

pub is-dropped : (c d : Course) (p v pair : ℕ) → p < length c.places.items → Drop c d p v pair → state_of d ≡ pair_dropped p v pair (state_of c)
is-dropped c d p v pair lt f =
    let s = state_of c in
    let here : processor s p ≡ processor_of f.place = processor-at c.places.items p f.place lt f.at in
    let processors = ap (map processor_of) f.places ∙ map-set processor_of c.places.items p (record f.place { tlb = f.tlb })
    ∙ (λ i. set (map processor_of c.places.items) p (record (sym here i) { tlb = (f.without ∙ ap (λ (x : Processor). without_pair pair x.tlb) (sym here)) i })) in
    ap state_of f.same ∙ (λ i. record s { processors = processors i; seconds = f.seconds i })

pub drop-rebacked : (c d : Course) (p v pair : ℕ) → p < length c.places.items → AllStand (surroundings c.around) 0 c.places.items → Drop c d p v pair → Rebacked c d
drop-rebacked c d p v pair lt all f =
    let around = surroundings c.around in
    let here : StandsAt around p f.place = subst (λ (y : Place). StandsAt around p y) (sym f.at) (stands around p c.places.items f.place all lt) in
    record {
      blocks = ap (λ (y : Course). y.blocks) f.same;
      vcpus = ap (λ (y : Course). y.vcpus) f.same;
      devs = ap (λ (y : Course). y.devs) f.same;
      around = ap (λ (y : Course). y.around) f.same;
      counted = λ pages nodes is. rw (ap (λ (y : Course). y.counters) f.same) is;
      ended = ap (λ (y : Course). y.ended) f.same;
      hand = ap (λ (y : Course). y.hand) f.same;
      dead = ap (λ (y : Course). y.dead) f.same;
      sent_from = ap (λ (y : Course). y.sent_from) f.same;
      seconds = ap length f.seconds ∙ length-set c.seconds.items v (seconds_without_pair pair (get_or c.seconds.items v []));
      places = ap length f.places ∙ length-set c.places.items p (record f.place { tlb = f.tlb });
      due = ap (λ (y : Course). length y.due.items) f.same;
      long = ap (λ (y : Course). length y.pmap.pages) f.same;
      stands = rw f.places (stands-set around p c.places.items (record f.place { tlb = f.tlb }) all (record { node = here.node; is_node = here.is_node; first = here.first; past = here.past }));
    }

-- what is loaded stays where pairs go
pub loaded-dropped : (s : GuestState) (p v r pair : ℕ) → (processor (pair_dropped p v pair s) r).loaded ≡ (processor s r).loaded
loaded-dropped s p v r pair = loaded-elsewhere s.processors p r (without_pair pair (processor s p).tlb)

pub is-emulated : (s : GuestState) (p v : ℕ) (cause : TrapCause) → MayStep s p v → IsDenied s p v cause → IsEmulated s p v
is-emulated s p v cause may d = record { goes_on = may.goes_on; runs = may.runs; may_act = may.may_act; trap = d.why.trap; traps = d.why.traps; is_no_access = d.denied; kept = kept-live s p v d.why.trap d.alive d.why.traps }

-- the state after a step that the monitor made
own-after : (s : GuestState) (c d : Course) (v : ℕ) → s ≡ state_of c → d ≡ record c { vcpus = d.vcpus; devs = d.devs } → paged false (own_step (content s) v) ≡ paged false (content (state_of d)) → state_of d ≡ with_own (own_step (content s) v) s
own-after s c d v is same whole = ap state_of same ∙ (λ i. record (sym is i) { vcpus = (sym whole i).vcpus; devices = (sym whole i).devices })

-- one that wrote an entry of the guest's TLB, after which both pairs have gone
pub writes-row : (c d : Course) (t : GuestState) (p v : ℕ) (cause : TrapCause) (w : EntryWrite) → MayStep (state_of c) p v → IsDenied (state_of c) p v cause → IsAlike (state_of c) v
    → d ≡ record c { vcpus = d.vcpus; devs = d.devs } → Wrote (paged false (content (state_of c))) v w (paged false (content (state_of d)))
    → (vcpu (joined (paged false (content (state_of c))) v) v).tlb ≡ (vcpu_of (state_of c) v).tlb
    → held_entry (vcpu (joined (paged false (content (state_of c))) v) v).cp0 ≡ held_entry (vcpu_of (state_of c) v).cp0
    → t ≡ shown_again v (pair_dropped p v w.new_pair (pair_dropped p v w.old_pair (state_of d))) → Emulates (state_of c) p v t
writes-row c d t p v cause w may denied alike same wrote tlb entry is =
    let s = state_of c in
    let olds : w.old_pair ≡ old_pair s v w.index = wrote.old_pair ∙ ap (λ l. page_pair (entry_read l w.index).hi) tlb in
    let news : w.new_pair ≡ new_pair s v = wrote.new_pair ∙ ap (λ e. page_pair e.hi) entry in
    let act : at_hand s v ≡ WritesEntry w.index = sym alike.hand ∙ wrote.made.does in
    record {
      traps = is-emulated s p v cause may denied;
      shares = true;
      needs_nothing = ap (needed s v true) act;
      after = is
          ∙ (λ i. shown_again v (pair_dropped p v (news i) (pair_dropped p v (olds i) (own-after s c d v refl same (sym alike.step ∙ wrote.made.whole) i))))
          ∙ (λ i. shown_again v (with_own (own_step (content s) v) (act_done s p v (sym act i))));
    }

-- one that does nothing with a page
pub makes-row : (c d : Course) (t : GuestState) (p v : ℕ) (cause : TrapCause) → MayStep (state_of c) p v → IsDenied (state_of c) p v cause → IsAlike (state_of c) v → d ≡ record c { vcpus = d.vcpus; devs = d.devs }
    → own_step (paged false (content (state_of c))) v ≡ paged false (content (state_of d)) → act_next (joined (paged false (content (state_of c))) v) v ≡ NoAct → t ≡ shown_again v (state_of d) → Emulates (state_of c) p v t
makes-row c d t p v cause may denied alike same whole does is =
    let s = state_of c in
    let act : at_hand s v ≡ NoAct = sym alike.hand ∙ does in
    record {
      traps = is-emulated s p v cause may denied;
      shares = true;
      needs_nothing = ap (needed s v true) act;
      after = is ∙ ap (shown_again v) (own-after s c d v refl same (sym alike.step ∙ whole) ∙ (λ i. with_own (own_step (content s) v) (act_done s p v (sym act i))));
    }

-- what is loaded stays after a step that is made by hand
pub loaded-made : (c d : Course) → d ≡ record c { vcpus = d.vcpus; devs = d.devs } → (r : ℕ) → (processor (state_of d) r).loaded ≡ (processor (state_of c) r).loaded
loaded-made c d same r = ap (λ (y : Course). (get_or (map processor_of y.places.items) r idle).loaded) same

-- one that was made whole, after which the pairs of the entry that it wrote have gone
pub done-row : (c d : Course) (t : GuestState) (p v : ℕ) (cause : TrapCause) (written : Option EntryWrite) → MayStep (state_of c) p v → IsDenied (state_of c) p v cause → IsAlike (state_of c) v
    → d ≡ record c { vcpus = d.vcpus; devs = d.devs } → Tells (paged false (content (state_of c))) v None cause (paged false (content (state_of d))) (Done written)
    → (vcpu (joined (paged false (content (state_of c))) v) v).tlb ≡ (vcpu_of (state_of c) v).tlb
    → held_entry (vcpu (joined (paged false (content (state_of c))) v) v).cp0 ≡ held_entry (vcpu_of (state_of c) v).cp0
    → t ≡ shown_again v (written_dropped p v written (state_of d)) → Emulates (state_of c) p v t
done-row c d t p v cause None may denied alike same step tlb entry is = makes-row c d t p v cause may denied alike same step.whole step.does is
done-row c d t p v cause (Some w) may denied alike same step tlb entry is = writes-row c d t p v cause w may denied alike same step tlb entry is

-- a step that was made whole uses no page
pub done-uses-none : (s : GuestState) (v : ℕ) (cause : TrapCause) (after : PrivateMachine) (written : Option EntryWrite) → IsAlike s v → Tells (paged false (content s)) v None cause after (Done written) → UsesNoPage s v
done-uses-none s v cause after None alike step = ap page_used (sym alike.hand ∙ step.does)
done-uses-none s v cause after (Some w) alike step = ap page_used (sym alike.hand ∙ step.made.does)

pub loaded-written : (s : GuestState) (p v r : ℕ) (written : Option EntryWrite) → (processor (written_dropped p v written s) r).loaded ≡ (processor s r).loaded
loaded-written s p v r None = refl
loaded-written s p v r (Some w) = loaded-dropped (pair_dropped p v w.old_pair s) p v r w.new_pair ∙ loaded-dropped s p v r w.old_pair
