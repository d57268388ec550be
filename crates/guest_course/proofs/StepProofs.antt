-- A step through a processor's TLB keeps what holds of a guest, and is its row.
use Rattle.std.proofs.Common.{◌≡◌, ℕ, ◌<◌, ◌≤◌, ◌==◌, if◌then◌else◌, Bool, true, false, Some, None, Result, Ok, List, length, map, set, get_or, refl, sym, ap, ◌∙◌, subst, length-set}
use Rattle.std.proofs.lemmas.List.{set-get_or}
use Rattle.base_words.specs.Limits.{most_processors}
use Rattle.base_words.specs.declared.trap.Access.{Access}
use Rattle.base_words.specs.declared.trap.DataAccess.{DataAccess}
use Rattle.base_words.specs.declared.trap.DataAccess.TheVariants as access_of
use Rattle.base_words.specs.declared.trap.TrapCause.{TrapCause}
use Rattle.private_machine.specs.declared.vcpu.Vcpu.{Vcpu}
use Rattle.private_machine.specs.Vcpu.{no_vcpu, ticking, with_line_on}
use Rattle.private_machine.specs.Showing.{shown_by, shown_from}
use Rattle.private_machine.specs.DevicePage.{DevicePage}
use Rattle.private_machine.specs.Backing.{Page}
use Rattle.private_machine.specs.HardwareStep.{Done}
use Rattle.private_machine.specs.DirectAccess.{Outcome, data_told, data_reached, access_told, stepped_through}
use Rattle.page_policy.specs.Pages.{AreCounters}
use Rattle.guest_devs.specs.DeviceState.{DeviceState}
use Rattle.guest_devs.specs.DeviceCalls.{on_page}
use Rattle.guest_devs.specs.Shown.{Agree}
use Rattle.isolation_law.specs.GuestState.{GuestState, idle, processor, vcpu_of, block_at}
use Rattle.isolation_law.specs.PageWords.{IsTaken}
use Rattle.isolation_law.specs.StepRows.{Steps}
use Rattle.isolation_law.specs.Coherence.{Coherent}
use Rattle.isolation_law.specs.DataWithin.{IsWithinPages}
use Rattle.isolation_law.specs.DirectStep.{with_inputs, held_of, data_noted}
use Rattle.isolation_law.specs.Phases.{all_halted, GoesOn, Runs}
use Rattle.base_words.specs.declared.events.End.TheVariants.{Halted}
use Rattle.isolation_law.specs.Traps.{step_on}
use Rattle.guest_course.specs.declared.course.Course.{Course}
use Rattle.guest_course.specs.CourseView.{processor_of, state_of}
use Rattle.guest_course.specs.CourseRules.{IsGoing, IsSound, MayNote, IsDataOf}
use Rattle.guest_course.specs.Joining.{waits_for, joined_if, joined_page, lined_if, lined, is_due}
use Rattle.guest_course.specs.Executed.{outcome_at, parts_at, Executed, Untouched}
use Rattle.guest_course.specs.StepCalls.{MayStep, StepsDirect, TrapsUnchanged}
use Rattle.std.specs.Global.{Vec}
use Rattle.guest_course.specs.declared.place.Place.{Place}
use Rattle.guest_course.proofs.PlaceLemmas.{loaded-below}
use Rattle.guest_course.proofs.ShownLemmas.{stepped-length}
use Rattle.guest_course.proofs.LengthLemmas.{stepped-long, halted-shown, halted-at}
use Rattle.guest_course.proofs.DirectRow.{Takes, left_by_step, traps-for, direct-row, direct-pages}
use Rattle.guest_course.specs.Failures.{dead_cells, lost_in}
use Rattle.isolation_law.specs.LiveCells.{UsesLive}
use Rattle.guest_course.proofs.RebackLemmas.{IsWell}

-- what a step of the hardware leaves as it was
pub record Hardware (c d : Course) (v : ℕ) : Type 0 where
  pub same : d ≡ record c { vcpus = d.vcpus; blocks = d.blocks; devs = d.devs; pmap = d.pmap }
  pub blocks : d.blocks.items ≡ set c.blocks.items v (block_at (state_of d) v)
  pub spares : d.pmap.spares ≡ c.pmap.spares
  pub devs : d.devs.state ≡ on_page c.devs.state d.devs.state.page
  pub agree : Agree d.devs.state d.vcpus.items

abbrev pub outcome : Course → ℕ → ℕ → Result Outcome TrapCause
outcome c p v = outcome_at (lost_in c.around.site.shape c.dead) (block_at (state_of c) v) c.pmap.pages c.vcpus.items c.devs.state.page v (processor (state_of c) p).tlb

-- the law of what is written on register pages
abbrev pub WordsTaken : Type 0
WordsTaken = (s t : GuestState) (p v : ℕ) → (row : Steps s p v t) → IsTaken (block_at s v) row.done.does.request

-- what is true of a step that the hardware made
pub record Made (c d : Course) (p v : ℕ) (access : Access) : Type 0 where
  pub sound : IsSound c
  pub may : MayStep (state_of c) p v
  pub words : WordsTaken
  pub hardware : Hardware c d v
  pub executed : Executed v (outcome c p v) (parts_at v c) (parts_at v d) access

-- the one that steps has the block that its registers read
takes : (c d : Course) (p v : ℕ) (access : Access) → Made c d p v access → Takes (state_of c) p v
takes c d p v access m = record {
  running = m.sound.loaded p v m.may.runs.loaded;
  mirrors = (m.sound.going m.may.goes_on.not_ended).coherent.mirrors;
  taken = λ t row. m.words (state_of c) t p v row;
}

-- the definition's step, with its pages
pages-of : (c d : Course) (p v : ℕ) (access : Access) → Made c d p v access
    → (done : Done) × (step_on (state_of c) p v ≡ Ok done) × (access ≡ access_told v (held_of (with_inputs (state_of c) v)) done) × (d.pmap.pages ≡ (stepped_through v (block_at (state_of c) v) (held_of (with_inputs (state_of c) v)) done).held.pages)
pages-of c d p v access m = direct-pages (state_of c) p v (is_due v (waits_for c.vcpus.items c.devs.state.page) (vcpu_of (state_of c) v)) (block_at (state_of d) v) d.pmap.pages m.executed.between access m.sound.sized.some_vcpus refl m.executed.made

pub stays-long : (c d : Course) (p v : ℕ) (access : Access) → Made c d p v access → length d.pmap.pages ≡ length c.pmap.pages
stays-long c d p v access m =
    let r = pages-of c d p v access m in
    ap length r.3 ∙ stepped-long v (block_at (state_of c) v) (held_of (with_inputs (state_of c) v)) r.0

-- the state after the step, but for what is noted of it
pub mid-state : (c d : Course) (p v : ℕ) (access : Access) (m : Made c d p v access) → state_of d ≡ left_by_step (state_of c) v (block_at (state_of d) v) d.pmap.pages m.executed.between
mid-state c d p v access m =
    let e = m.executed in
    ap state_of m.hardware.same
    ∙ (λ i. record (state_of c) { blocks = m.hardware.blocks i; vcpus = e.vcpus_are i; devices = e.page_is i; pages = d.pmap.pages; spares = m.hardware.spares i })

-- the step and what is noted of it are the row
pub executes : (c d x : Course) (p v : ℕ) (access : Access) → Made c d p v access → state_of x ≡ data_noted p access.«data» (state_of d) → StepsDirect (state_of c) p v (state_of x) access
executes c d x p v access m noted =
    let e = m.executed in
    let row = direct-row (state_of c) p v (is_due v (waits_for c.vcpus.items c.devs.state.page) (vcpu_of (state_of c) v)) (block_at (state_of d) v) d.pmap.pages e.between access m.sound.sized.some_vcpus refl m.may (takes c d p v access m) e.made in
    subst (λ (t : GuestState). StepsDirect (state_of c) p v t access) (sym (noted ∙ ap (data_noted p access.«data») (mid-state c d p v access m))) row

-- a trap leaves the register pages, too
blocks-stay : (c d : Course) (p v : ℕ) (cause : TrapCause) → Hardware c d v → Untouched (outcome c p v) (parts_at v c) (parts_at v d) cause → d.blocks.items ≡ c.blocks.items
blocks-stay c d p v cause h u = h.blocks ∙ ap (set c.blocks.items v) u.made.block_stays ∙ set-get_or c.blocks.items v None

-- a trap leaves the guest as it was
pub stays : (c d : Course) (p v : ℕ) (cause : TrapCause) → Hardware c d v → Untouched (outcome c p v) (parts_at v c) (parts_at v d) cause → state_of d ≡ state_of c
stays c d p v cause h u =
    ap state_of h.same
    ∙ (λ i. record (state_of c) { blocks = blocks-stay c d p v cause h u i; vcpus = u.made.vcpus_stay i; devices = u.page_stays i; pages = u.made.pages_stay i; spares = h.spares i })

pub traps : (c d : Course) (p v : ℕ) (cause : TrapCause) → IsSound c → MayStep (state_of c) p v → Hardware c d v → Untouched (outcome c p v) (parts_at v c) (parts_at v d) cause → TrapsUnchanged (state_of c) p v (state_of d) cause
traps c d p v cause sound may h u = record {
  why = traps-for (state_of c) p v (is_due v (waits_for c.vcpus.items c.devs.state.page) (vcpu_of (state_of c) v)) (block_at (state_of d) v) d.pmap.pages d.vcpus.items cause sound.sized.some_vcpus refl u.made;
  same = stays c d p v cause h u;
}

-- the page of the data access can be noted
within-noted : (c : Course) (p : ℕ) (access : DataAccess) → ((q : ℕ) → q < length c.pmap.pages → MayNote c p q) → IsWithinPages (length c.pmap.pages) access → IsDataOf (MayNote c p) access
within-noted c p access_of.NoData may is = tt
within-noted c p (access_of.Load page frame) may is = may page.0 is
within-noted c p (access_of.Store page frame) may is = may page.0 is

pub may-note : (c d : Course) (p v : ℕ) (access : Access) → Made c d p v access → (q : ℕ) → q < length d.pmap.pages → MayNote d p q
may-note c d p v access m q lt =
    let same = m.hardware.same in
    let long = stays-long c d p v access m in
    let going = m.sound.going m.may.goes_on.not_ended in
    let places : d.places ≡ c.places = ap (λ (x : Course). x.places) same in
    let dues : d.due ≡ c.due = ap (λ (x : Course). x.due) same in
    let around : d.around ≡ c.around = ap (λ (x : Course). x.around) same in
    let counters : d.counters ≡ c.counters = ap (λ (x : Course). x.counters) same in
    record {
      is_processor = subst (λ (l : Vec Place). p < length l.items) (sym places) (loaded-below c.places.items p v m.may.runs.loaded);
      dues = (λ i. length (dues i).items) ∙ m.sound.sized.due ∙ (λ i. length (sym places i).items);
      is_page = lt;
      counted = rw (around, counters, long) going.counted;
      places = rw (around, places) m.sound.places;
      frames = rw around c.around.site.shape.has_frames;
    }

pub note-within : (c d : Course) (p v : ℕ) (access : Access) → Made c d p v access
    → ((s : GuestState) (p v : ℕ) (done : Done) → Coherent s → step_on s p v ≡ Ok done → IsWithinPages (length s.pages) (data_told v (data_reached done) done.does.request (held_of (with_inputs s v))))
    → IsDataOf (MayNote d p) access.«data»
note-within c d p v access m reach =
    let r = pages-of c d p v access m in
    let going = m.sound.going m.may.goes_on.not_ended in
    let long = stays-long c d p v access m in
    let within : IsWithinPages (length c.pmap.pages) access.«data» = subst (λ (a : Access). IsWithinPages (length c.pmap.pages) a.«data») (sym r.2) (reach (state_of c) p v r.0 going.coherent r.1) in
    within-noted d p access.«data» (may-note c d p v access m) (subst (λ (n : ℕ). IsWithinPages n access.«data») (sym long) within)

pub length-lined : (v : ℕ) (waits : Bool) (cs : List Vcpu) → length (lined v waits cs) ≡ length cs
length-lined v waits cs = elim (v == 0) as (λ b. length (lined_if b waits cs) ≡ length cs) [ true ↦ length-set cs 0 (with_line_on 2 waits (get_or cs 0 no_vcpu)) | false ↦ refl ]

pub transfers-joined : (v : ℕ) (cs : List Vcpu) (page : DevicePage) → (joined_page v cs page).transfers ≡ page.transfers
transfers-joined v cs page = elim (v == 0) as (λ b. (joined_if b cs page).transfers ≡ page.transfers) [ true ↦ refl | false ↦ refl ]

pub sent-joined : (v : ℕ) (cs : List Vcpu) (page : DevicePage) → (joined_page v cs page).sent ≡ page.sent
sent-joined v cs page = elim (v == 0) as (λ b. (joined_if b cs page).sent ≡ page.sent) [ true ↦ refl | false ↦ refl ]

vcpus-count : (c d : Course) (p v : ℕ) (access : Access) → Made c d p v access → length d.vcpus.items ≡ length c.vcpus.items
vcpus-count c d p v access m =
    let e = m.executed in
    let between = e.between in
    let l = lined v (waits_for between c.devs.state.page) between in
    ap length e.vcpus_are ∙ length-set l v (ticking (get_or l v no_vcpu)) ∙ length-lined v (waits_for between c.devs.state.page) between
    ∙ ap length e.made.vcpus_are ∙ stepped-length v (block_at (state_of c) v) e.made.o c.vcpus.items

-- what is shown stays, and so who has halted
shows : (c d : Course) (p v : ℕ) (access : Access) → Made c d p v access → map shown_by d.vcpus.items ≡ map shown_by c.vcpus.items
shows c d p v access m = m.hardware.agree ∙ ap (λ (x : DeviceState). shown_from x.packet x.halted x.called) m.hardware.devs ∙ sym m.sound.agree

-- what noting leaves as it was
pub record Noted (d x : Course) : Type 0 where
  pub same : x ≡ record d { counters = x.counters; due = x.due }
  pub dues : length x.due.items ≡ length d.due.items
  pub counted : (pages nodes : ℕ) → AreCounters pages nodes d.counters → AreCounters pages nodes x.counters

going-after : (c d x : Course) (p v : ℕ) (access : Access) → Made c d p v access → Noted d x → IsWell (state_of x) → IsGoing x
going-after c d x p v access m n w =
    let going = m.sound.going m.may.goes_on.not_ended in
    let long = stays-long c d p v access m in
    let pmap : x.pmap ≡ d.pmap = ap (λ (y : Course). y.pmap) n.same in
    let devs : x.devs ≡ d.devs = ap (λ (y : Course). y.devs) n.same in
    let around : x.around ≡ c.around = ap (λ (y : Course). y.around) n.same ∙ ap (λ (y : Course). y.around) m.hardware.same in
    let counters : d.counters ≡ c.counters = ap (λ (y : Course). y.counters) m.hardware.same in
    let counted : AreCounters (length c.pmap.pages) (length c.around.site.shape.cells) x.counters = n.counted _ _ (rw counters going.counted) in
    record {
      coherent = w.coherent;
      live = w.live;
      pages = ap (λ y. y.state.pages) devs ∙ ap (λ (y : DeviceState). y.pages) m.hardware.devs ∙ going.pages ∙ sym long ∙ ap (λ y. length y.pages) (sym pmap);
      counted = rw (pmap, around, long) counted;
    }

pub sound-after : (c d x : Course) (p v : ℕ) (access : Access) → Made c d p v access → Noted d x → IsWell (state_of x) → IsSound x
sound-after c d x p v access m n w =
    let long = stays-long c d p v access m in
    let sized = m.sound.sized in
    let pmap : x.pmap ≡ d.pmap = ap (λ (y : Course). y.pmap) n.same in
    let devs : x.devs ≡ d.devs = ap (λ (y : Course). y.devs) n.same in
    let vcpus : x.vcpus ≡ d.vcpus = ap (λ (y : Course). y.vcpus) n.same in
    let around : x.around ≡ c.around = ap (λ (y : Course). y.around) n.same ∙ ap (λ (y : Course). y.around) m.hardware.same in
    let places : x.places ≡ c.places = ap (λ (y : Course). y.places) n.same ∙ ap (λ (y : Course). y.places) m.hardware.same in
    let seconds : x.seconds ≡ c.seconds = ap (λ (y : Course). y.seconds) n.same ∙ ap (λ (y : Course). y.seconds) m.hardware.same in
    let dues : d.due ≡ c.due = ap (λ (y : Course). y.due) m.hardware.same in
    let from : x.sent_from ≡ c.sent_from = ap (λ (y : Course). y.sent_from) n.same ∙ ap (λ (y : Course). y.sent_from) m.hardware.same in
    let sent : x.devs.state.page.sent ≡ c.devs.state.page.sent =
    ap (λ y. y.state.page.sent) devs ∙ ap (λ (y : DevicePage). y.sent) m.executed.page_is ∙ sent-joined v m.executed.between c.devs.state.page in
    let hand : x.hand ≡ c.hand = ap (λ (y : Course). y.hand) n.same ∙ ap (λ (y : Course). y.hand) m.hardware.same in
    let count : length x.vcpus.items ≡ length c.vcpus.items = ap (λ l. length l.items) vcpus ∙ vcpus-count c d p v access m in
    let transfers : length x.devs.state.page.transfers ≡ length c.devs.state.page.transfers =
    ap (λ y. length y.state.page.transfers) devs ∙ ap (λ (y : DevicePage). length y.transfers) m.executed.page_is ∙ ap length (transfers-joined v m.executed.between c.devs.state.page) in
    let pages : length x.pmap.pages ≡ length c.pmap.pages = ap (λ y. length y.pages) pmap ∙ long in
    record {
      sized = record {
        some_vcpus = subst (λ (k : ℕ). 0 < k) (sym count) sized.some_vcpus;
        few_vcpus = subst (λ (k : ℕ). k ≤ 4) (sym count) sized.few_vcpus;
        blocks = ap (λ (y : Course). length y.blocks.items) n.same ∙ ap length m.hardware.blocks ∙ length-set c.blocks.items v (block_at (state_of d) v) ∙ sized.blocks ∙ sym count;
        transfers = transfers ∙ sized.transfers ∙ sym count;
        seconds = ap (λ l. length l.items) seconds ∙ sized.seconds ∙ sym count;
        few_processors = subst (λ (l : Vec Place). length l.items ≤ most_processors) (sym places) sized.few_processors;
        due = n.dues ∙ ap (λ l. length l.items) dues ∙ sized.due ∙ ap (λ (l : Vec Place). length l.items) (sym places);
        few_pages = subst (λ (k : ℕ). k ≤ 2048) (sym pages) sized.few_pages;
        cells = ap (λ l. length l.items) from ∙ sized.cells ∙ ap length (sym sent);
        dead = ap (λ (y : Course). length (dead_cells y.dead)) n.same ∙ ap (λ (y : Course). length (dead_cells y.dead)) m.hardware.same ∙ sized.dead;
      };
      agree = rw (devs, vcpus) m.hardware.agree;
      loaded = λ r u is. subst (λ (k : ℕ). u < k) (sym count) (m.sound.loaded r u (subst (λ (l : Vec Place). (get_or (map processor_of l.items) r idle).loaded ≡ Some u) places is));
      places = rw (around, places) m.sound.places;
      in_hand = rw (hand, around) m.sound.in_hand;
      going = λ _. going-after c d x p v access m n w;
    }

-- a course with the same parts is as sound
pub sound-stays : (c d : Course) (p v : ℕ) (cause : TrapCause) → IsSound c → Hardware c d v → Untouched (outcome c p v) (parts_at v c) (parts_at v d) cause → IsSound d
sound-stays c d p v cause sound h u =
    let sized = sound.sized in
    let same = h.same in
    let around : d.around ≡ c.around = ap (λ (y : Course). y.around) same in
    let places : d.places ≡ c.places = ap (λ (y : Course). y.places) same in
    let seconds : d.seconds ≡ c.seconds = ap (λ (y : Course). y.seconds) same in
    let dues : d.due ≡ c.due = ap (λ (y : Course). y.due) same in
    let counters : d.counters ≡ c.counters = ap (λ (y : Course). y.counters) same in
    let ends : d.ended ≡ c.ended = ap (λ (y : Course). y.ended) same in
    let hand : d.hand ≡ c.hand = ap (λ (y : Course). y.hand) same in
    let vcpus : d.vcpus.items ≡ c.vcpus.items = u.made.vcpus_stay in
    let pages : d.pmap.pages ≡ c.pmap.pages = u.made.pages_stay in
    let page : d.devs.state.page ≡ c.devs.state.page = u.page_stays in
    let count : length d.vcpus.items ≡ length c.vcpus.items = ap length vcpus in
    record {
      sized = record {
        some_vcpus = subst (λ (k : ℕ). 0 < k) (sym count) sized.some_vcpus;
        few_vcpus = subst (λ (k : ℕ). k ≤ 4) (sym count) sized.few_vcpus;
        blocks = ap length (blocks-stay c d p v cause h u) ∙ sized.blocks ∙ sym count;
        transfers = ap (λ (y : DevicePage). length y.transfers) page ∙ sized.transfers ∙ sym count;
        seconds = ap (λ l. length l.items) seconds ∙ sized.seconds ∙ sym count;
        few_processors = subst (λ (l : Vec Place). length l.items ≤ most_processors) (sym places) sized.few_processors;
        due = ap (λ l. length l.items) dues ∙ sized.due ∙ ap (λ (l : Vec Place). length l.items) (sym places);
        few_pages = subst (λ (l : List Page). length l ≤ 2048) (sym pages) sized.few_pages;
        cells = ap (λ (y : Course). length y.sent_from.items) same ∙ sized.cells ∙ ap (λ (y : DevicePage). length y.sent) (sym page);
        dead = ap (λ (y : Course). length (dead_cells y.dead)) same ∙ sized.dead;
      };
      agree = h.agree;
      loaded = λ r w is. subst (λ (k : ℕ). w < k) (sym count) (sound.loaded r w (subst (λ (l : Vec Place). (get_or (map processor_of l.items) r idle).loaded ≡ Some w) places is));
      places = rw (around, places) sound.places;
      in_hand = rw (hand, around) sound.in_hand;
      going = λ on.
          let going = sound.going (sym ends ∙ on) in
          record {
            coherent = subst Coherent (sym (stays c d p v cause h u)) going.coherent;
            live = subst UsesLive (sym (stays c d p v cause h u)) going.live;
            pages = ap (λ (y : DeviceState). y.pages) h.devs ∙ going.pages ∙ ap length (sym pages);
            counted = rw (pages, around, counters) going.counted;
          };
    }

-- the guest goes on, and so does the virtual processor
pub goes-on : (c d : Course) → all_halted d.vcpus.items ≡ all_halted c.vcpus.items → d.ended ≡ c.ended → GoesOn (state_of c) → GoesOn (state_of d)
goes-on c d halts ends on = record {
  not_ended = ends ∙ on.not_ended;
  owes_no_end = ap (λ (b : Bool). if b then Some Halted else None) halts ∙ on.owes_no_end;
}

pub step-goes-on : (c d x : Course) (p v : ℕ) (access : Access) → Made c d p v access → Noted d x → GoesOn (state_of x)
step-goes-on c d x p v access m n =
    goes-on c x (ap (λ (y : Course). all_halted y.vcpus.items) n.same ∙ halted-shown d.vcpus.items c.vcpus.items (shows c d p v access m))
    (ap (λ (y : Course). y.ended) n.same ∙ ap (λ (y : Course). y.ended) m.hardware.same) m.may.goes_on

pub step-runs : (c d x : Course) (p v : ℕ) (access : Access) → Made c d p v access → Noted d x → Runs (state_of x) p v
step-runs c d x p v access m n =
    let places : x.places ≡ c.places = ap (λ (y : Course). y.places) n.same ∙ ap (λ (y : Course). y.places) m.hardware.same in
    record {
      loaded = ap (λ (l : Vec Place). (get_or (map processor_of l.items) p idle).loaded) places ∙ m.may.runs.loaded;
      running = ap (λ (y : Course). (get_or y.vcpus.items v no_vcpu).halted) n.same ∙ halted-at v d.vcpus.items c.vcpus.items (shows c d p v access m) ∙ m.may.runs.running;
    }
