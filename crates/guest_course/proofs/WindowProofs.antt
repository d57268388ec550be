-- What a step through a processor's TLB leaves for the next one: how long nothing comes, and what steps go by.
use Rattle.std.proofs.Common.{◌≡◌, ℕ, ◌<◌, ◌-◌, Bool, false, List, length, get_or, sym, ap, ◌∙◌, subst, get_or-set_same, arith}
use Rattle.base_words.specs.Halves.{Half}
use Rattle.base_words.specs.Coprocessor.{in_user_mode}
use Rattle.base_words.specs.declared.coprocessor.EntryHi.{EntryHi}
use Rattle.base_words.specs.declared.trap.Access.{Access}
use Rattle.base_words.specs.declared.trap.TrapCause.{TrapCause}
use Rattle.private_machine.specs.declared.vcpu.Vcpu.{Vcpu}
use Rattle.private_machine.specs.Vcpu.{no_vcpu, ticking}
use Rattle.private_machine.specs.Reaching.{Sight}
use Rattle.private_machine.specs.DevicePage.{DevicePage}
use Rattle.base_words.specs.declared.exception.Use.TheVariants.{Fetch as fetches}
use Rattle.hw_cpu.specs.KeptPages.{IsKeptPage}
use Rattle.isolation_law.specs.GuestState.{processor, block_at}
use Rattle.guest_course.specs.declared.course.Course.{Course}
use Rattle.guest_course.specs.CourseView.{state_of}
use Rattle.guest_course.specs.Failures.{lost_in}
use Rattle.guest_course.specs.HardwareView.{sight_at}
use Rattle.guest_course.specs.Joining.{waits_for, lined}
use Rattle.guest_course.specs.Executed.{Untouched, parts_at}
use Rattle.guest_devs.specs.Quiet.{AreQuiet}
use Rattle.guest_course.specs.declared.window.Window.{Window}
use Rattle.guest_course.specs.Windows.{IsWindowOn}
use Rattle.guest_course.proofs.JoinLemmas.{at-lined}
use Rattle.guest_course.proofs.ShownLemmas.{stepped-length}
use Rattle.guest_course.proofs.StepProofs.{Hardware, Made, Noted, outcome, length-lined}
use Rattle.guest_course.proofs.QuietLemmas.{QuietPass, SameTimes, SameSpace, stepped-times, quiet-after, quiet-less, sight-same}

-- the one that steps is there
between-there : (c d : Course) (p v : ℕ) (access : Access) (m : Made c d p v access) → v < length m.executed.between
between-there c d p v access m =
    subst (λ (n : ℕ). v < n) (sym (ap length m.executed.made.vcpus_are ∙ stepped-length v (block_at (state_of c) v) m.executed.made.o c.vcpus.items)) (m.sound.loaded p v m.may.runs.loaded)

between-times : (c d : Course) (p v : ℕ) (access : Access) (m : Made c d p v access) (i : ℕ) → SameTimes (get_or m.executed.between i no_vcpu) (get_or c.vcpus.items i no_vcpu)
between-times c d p v access m i = subst (λ (l : List Vcpu). SameTimes (get_or l i no_vcpu) (get_or c.vcpus.items i no_vcpu)) (sym m.executed.made.vcpus_are) (stepped-times v (block_at (state_of c) v) m.executed.made.o c.vcpus.items i)

pub quiet-made : QuietPass → (c d x : Course) (p v : ℕ) (access : Access) → Made c d p v access → Noted d x → (n : ℕ) → AreQuiet n v c.vcpus.items c.devs.state.page → AreQuiet (n - 1) v x.vcpus.items x.devs.state.page
quiet-made pass c d x p v access m noted n q =
    let e = m.executed in
    quiet-after pass n v c.vcpus.items e.between x.vcpus.items c.devs.state.page x.devs.state.page (between-there c d p v access m) (between-times c d p v access m)
    (ap (λ (y : Course). y.vcpus.items) noted.same ∙ e.vcpus_are) (ap (λ (y : Course). y.devs.state.page) noted.same ∙ e.page_is) q

space-made : (c d : Course) (p v : ℕ) (access : Access) → Made c d p v access → SameSpace (get_or d.vcpus.items v no_vcpu) (get_or c.vcpus.items v no_vcpu)
space-made c d p v access m =
    let e = m.executed in
    let between = e.between in
    let line = lined v (waits_for between c.devs.state.page) between in
    let there : v < length line = subst (λ (n : ℕ). v < n) (sym (length-lined v (waits_for between c.devs.state.page) between)) (between-there c d p v access m) in
    let at : get_or d.vcpus.items v no_vcpu ≡ ticking (get_or line v no_vcpu) = ap (λ (l : List Vcpu). get_or l v no_vcpu) e.vcpus_are ∙ get_or-set_same line v (ticking (get_or line v no_vcpu)) no_vcpu there in
    let same = at-lined v (waits_for between c.devs.state.page) between in
    let times = between-times c d p v access m v in
    record {
      status = ap (λ (k : Vcpu). k.cp0.status) at ∙ same.status ∙ ap (λ k. k.status) times.cp0;
      hi = ap (λ (k : Vcpu). k.cp0.entry_hi) at ∙ same.hi ∙ ap (λ k. k.entry_hi) times.cp0;
    }

-- what decides it, but for the virtual processor
record SameReach (c x : Course) (p : ℕ) : Type 0 where
  pub lost : lost_in x.around.site.shape x.dead ≡ lost_in c.around.site.shape c.dead
  pub tlb : (processor (state_of x) p).tlb ≡ (processor (state_of c) p).tlb

window-same : (c x : Course) (p v : ℕ) (window : Window) → SameReach c x p → SameSpace (get_or x.vcpus.items v no_vcpu) (get_or c.vcpus.items v no_vcpu) → IsWindowOn c p v window → IsWindowOn x p v window
window-same c x p v window reach space w =
    let new = get_or x.vcpus.items v no_vcpu in
    let old = get_or c.vcpus.items v no_vcpu in
    let same : sight_at (lost_in x.around.site.shape x.dead) new false (processor (state_of x) p).tlb ≡ sight_at (lost_in c.around.site.shape c.dead) old false (processor (state_of c) p).tlb =
    sight-same (lost_in x.around.site.shape x.dead) new old (processor (state_of x) p).tlb space
    ∙ ap (λ (lost : ℕ → Bool). sight_at lost old false (processor (state_of x) p).tlb) reach.lost
    ∙ ap (λ (tlb : List Half). sight_at (lost_in c.around.site.shape c.dead) old false tlb) reach.tlb in
    record {
      user = w.user ∙ ap in_user_mode (sym space.status);
      asid = w.asid ∙ ap (λ (hi : EntryHi). hi.asid) (sym space.hi);
      fetched = subst (λ (s : Sight). IsKeptPage fetches s window.fetched) (sym same) w.fetched;
    }

pub window-made : (c d x : Course) (p v : ℕ) (access : Access) → Made c d p v access → Noted d x → (window : Window) → IsWindowOn c p v window → IsWindowOn x p v window
window-made c d x p v access m noted window w =
    let reach : SameReach c x p = record {
      lost = ap (λ (y : Course). lost_in y.around.site.shape y.dead) noted.same ∙ ap (λ (y : Course). lost_in y.around.site.shape y.dead) m.hardware.same;
      tlb = ap (λ (y : Course). (processor (state_of y) p).tlb) noted.same ∙ ap (λ (y : Course). (processor (state_of y) p).tlb) m.hardware.same;
    } in
    let space = space-made c d p v access m in
    let vcpus : get_or x.vcpus.items v no_vcpu ≡ get_or d.vcpus.items v no_vcpu = ap (λ (y : Course). get_or y.vcpus.items v no_vcpu) noted.same in
    window-same c x p v window reach (record { status = ap (λ (k : Vcpu). k.cp0.status) vcpus ∙ space.status; hi = ap (λ (k : Vcpu). k.cp0.entry_hi) vcpus ∙ space.hi }) w

-- a trap leaves all of it
pub quiet-trap : (c d : Course) (p v : ℕ) (cause : TrapCause) → Untouched (outcome c p v) (parts_at v c) (parts_at v d) cause → (n : ℕ) → AreQuiet n v c.vcpus.items c.devs.state.page → AreQuiet (n - 1) v d.vcpus.items d.devs.state.page
quiet-trap c d p v cause u n q =
    subst (λ (page : DevicePage). AreQuiet (n - 1) v d.vcpus.items page) (sym u.page_stays)
    (subst (λ (l : List Vcpu). AreQuiet (n - 1) v l c.devs.state.page) (sym u.made.vcpus_stay) (quiet-less n (n - 1) v c.vcpus.items c.devs.state.page (omega arith) q))

pub window-trap : (c d : Course) (p v : ℕ) (cause : TrapCause) → Hardware c d v → Untouched (outcome c p v) (parts_at v c) (parts_at v d) cause → (window : Window) → IsWindowOn c p v window → IsWindowOn d p v window
window-trap c d p v cause h u window w =
    let reach : SameReach c d p = record {
      lost = ap (λ (y : Course). lost_in y.around.site.shape y.dead) h.same;
      tlb = ap (λ (y : Course). (processor (state_of y) p).tlb) h.same;
    } in
    let vcpus : get_or d.vcpus.items v no_vcpu ≡ get_or c.vcpus.items v no_vcpu = ap (λ (l : List Vcpu). get_or l v no_vcpu) u.made.vcpus_stay in
    window-same c d p v window reach (record { status = ap (λ (k : Vcpu). k.cp0.status) vcpus; hi = ap (λ (k : Vcpu). k.cp0.entry_hi) vcpus }) w
