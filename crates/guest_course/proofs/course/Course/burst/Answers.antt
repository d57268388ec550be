-- A step that the processor makes by itself is one more, and leaves what the next one asks for.
use Rattle.std.proofs.Common.{rules, ◌≡◌, ◌≢◌, ◌<◌, ◌≤◌, ℕ, zero, suc, ◌+◌, ◌-◌, Option, Some, None, true, is_some, List, length, ◌⊎◌, inl, inr, map, get_or, refl, sym, ap, ◌∙◌, subst, arith}
use Rattle.std.specs.Global.{Vec}
use Rattle.isolation_law.specs.Parts.{Wish as Wanting}
use Rattle.isolation_law.specs.GuestState.{GuestState, processor, due_on}
use Rattle.isolation_law.specs.Phases.{lets_act}
use Rattle.private_machine.specs.declared.vcpu.Vcpu.{Vcpu}
use Rattle.guest_devs.specs.Quiet.{AreQuiet}
use Rattle.guest_course.specs.declared.course.Course.{Course}
use Rattle.guest_course.specs.declared.place.Wish.{Wish}
use Rattle.guest_course.specs.declared.site.Around.{Around}
use Rattle.private_machine.specs.RegisterPage.{has_page}
use Rattle.guest_course.specs.CourseView.{due_of, state_of}
use Rattle.guest_course.specs.CourseRules.{IsSound}
use Rattle.std.proofs.lemmas.List.{get_or_read_under}
use Rattle.private_machine.specs.Vcpu.{no_vcpu}
use Rattle.guest_course.specs.Failures.{lost_in}
use Rattle.guest_course.specs.declared.window.Window.{Window}
use Rattle.guest_course.specs.Windows.{IsWindow, IsWindowOn}
use Rattle.guest_course.specs.Packets.{SamePackets}
use Rattle.guest_course.specs.StepCalls.{MayStep, StepsMany, StepsTo, TrapsFor, TrapsUnchanged}
use Rattle.guest_course.proofs.PlaceLemmas.{loaded-below}
use Rattle.guest_course.proofs.ReadyLemmas.{due-at, not-some}
use Rattle.guest_course.proofs.course.Course.burst.Goals as goal
use Rattle.guest_course.proofs.course.Course.burst.Goals.{then-is_due, else-is_due, then-quiet-eq0, else-quiet-eq0, then-made-limit-via-then-made-limit, then-made-limit-via-else-made-limit+then-is_chosen}

-- a processor on which something is loaded may have a choice
due-there : (c : Course) → IsSound c → (p v : ℕ) → (processor (state_of c) p).loaded ≡ Some v → p < length c.due.items
due-there c sound p v loaded = let lt = loaded-below c.places.items p v loaded in omega (arith, lt, sound.sized.due)

-- packets stay over two steps
packets-then : (c d e : Course) → SamePackets c d → SamePackets d e → SamePackets c e
packets-then c d e first next = record {
  sent = next.sent ∙ first.sent;
  received = next.received ∙ first.received;
  discarded = next.discarded ∙ first.discarded;
  hand = next.hand ∙ first.hand;
}

-- a run leaves them
packets-ahead : (c d : Course) → d ≡ record c { vcpus = d.vcpus; pmap = d.pmap; memo = d.memo } → SamePackets c d
packets-ahead c d same = record {
  sent = ap (λ (x : Course). x.devs.state.page.sent) same;
  received = ap (λ (x : Course). x.received) same;
  discarded = ap (λ (x : Course). x.discarded) same;
  hand = ap (λ (x : Course). x.hand) same;
}

-- one more
one-more : (s t : GuestState) (p v steps : ℕ) → StepsMany (suc steps) s p v t → StepsMany (steps + 1) s p v t
one-more s t p v steps many = let next : suc steps ≡ steps + 1 = omega arith in subst (λ (n : ℕ). StepsMany n s p v t) next many

-- as many steps as are asked for, where no choice is due; one where one is
abbrev Limited : GuestState → ℕ → ℕ → ℕ → Type 0
Limited s p limit most = ((limit ≡ most) × (due_on s p ≡ None)) ⊎ ((limit ≡ 1) × (due_on s p ≢ None))

none-due : (s : GuestState) (p limit most made : ℕ) → Limited s p limit most → made < limit → made + 1 ≢ limit → due_on s p ≡ None
none-due s p limit most made (inl (all, none)) fewer apart = none
none-due s p limit most made (inr (one, some)) fewer apart = absurd (apart (omega (arith, one, fewer)))

whole : (s : GuestState) (p limit most made : ℕ) → Limited s p limit most → made < limit → made + 1 ≢ limit → limit ≡ most
whole s p limit most made (inl (all, none)) fewer apart = all
whole s p limit most made (inr (one, some)) fewer apart = absurd (apart (omega (arith, one, fewer)))

-- a processor has made as many steps as were asked for, or a choice is due on it as before
stopped : (s t : GuestState) (p limit most made : ℕ) → Limited s p limit most → (due_on s p ≢ None → due_on t p ≢ None) → made + 1 ≡ limit → (made + 1 ≡ most) ⊎ (due_on t p ≢ None)
stopped s t p limit most made (inl (all, none)) stays is = inl (is ∙ all)
stopped s t p limit most made (inr (one, some)) stays is = inr (stays some)

is-there : (x : Option Wanting) → is_some x ≡ true → x ≢ None
is-there None e = cc
is-there (Some wish) e = λ none. cc

-- a choice that is there is due
due-some : (x : Option Wish) → is_some x ≡ true → due_of x ≢ None
due-some None e = cc
due-some (Some wish) e = λ none. cc

-- so many steps, and so many more
steps-then : (s t u : GuestState) (p v n m : ℕ) → StepsMany n s p v t → StepsMany m t p v u → StepsMany (n + m) s p v u
steps-then s t u p v n zero first next = subst (λ (k : ℕ). StepsMany k s p v u) (let same : n ≡ n + zero = omega arith in same) (subst (StepsMany n s p v) (sym next) first)
steps-then s t u p v n (suc m) first next = subst (λ (k : ℕ). StepsMany k s p v u) (let more : suc (n + m) ≡ n + suc m = omega arith in more) (next.0, steps-then s t next.0 p v n m first next.1, next.2)

-- more than one step is asked for where no choice is due
more-due : (s : GuestState) (p limit most made : ℕ) → Limited s p limit most → 0 < limit - made - 1 → due_on s p ≡ None
more-due s p limit most made (inl (all, none)) some = none
more-due s p limit most made (inr (one, is-due)) some = absurd (omega (arith, one, some))

-- a run leaves what is due
still-limited : (c d : Course) (p limit most : ℕ) → d ≡ record c { vcpus = d.vcpus; pmap = d.pmap; memo = d.memo } → Limited (state_of c) p limit most → Limited (state_of d) p limit most
still-limited c d p limit most same l = subst (λ (x : Course). Limited (state_of x) p limit most) (sym same) l

new-window : (c : goal.After-new-window) → IsWindowOn c.args.self.now c.args.processor.0 c.args.vcpu.0 c.new-window.result
new-window c =
    let s = c.args.self.now in
    let there = c.requires.sound.loaded c.args.processor.0 c.args.vcpu.0 c.requires.may.runs.loaded in
    let at = get_or_read_under s.vcpus.items c.args.vcpu.0 (length s.vcpus.items) c.index-2.result.now no_vcpu c.index-2.ensures there refl in
    let lost = lost_in s.around.site.shape s.dead in
    let tlb = (processor (state_of s) c.args.processor.0).tlb in
    subst (λ (x : Vcpu). IsWindow lost x tlb c.new-window.result) at (subst (λ (w : Window). IsWindow lost c.index-2.result.now tlb w) (sym c.new-window.ensures) (record { user = refl; asid = refl; fetched = tt }))

pub loop-made-init : goal.loop-made-init
loop-made-init c =
    let s = c.args.self.now in
    let p = c.args.processor.0 in
    let there = due-there s c.requires.sound p c.args.vcpu.0 c.requires.may.runs.loaded in
    let here = due-at s.due.items p c.index.result.now there c.index.ensures in
    record {
      sound = c.requires.sound;
      paged = c.requires.paged;
      may = c.requires.may;
      steps = refl;
      quiet = search rules;
      window = new-window c;
      fewer = elim c.if-is_due.branch [ then-is_due w ↦ omega (arith, w.limit-is) | else-is_due w ↦ omega (arith, w.limit-is, c.requires.some) ];
      limited = elim c.if-is_due.branch [ then-is_due w ↦ omega (arith, w.limit-is, c.requires.some) | else-is_due w ↦ omega (arith, w.limit-is) ];
      limit = elim c.if-is_due.branch [
        | then-is_due w ↦ inr (w.limit-is, λ none. due-some c.index.result.now (sym c.is_some-is_due.ensures ∙ w.if-is_due.true) (sym here ∙ none))
        | else-is_due w ↦ inl (w.limit-is, here ∙ ap due_of (not-some c.index.result.now (sym c.is_some-is_due.ensures ∙ w.if-is_due.false)))
      ];
      print_room = refl;
      send_room = refl;
      room = refl;
      cells = refl;
      skips = refl;
      packets = record { sent = refl; received = refl; discarded = refl; hand = refl };
    }

pub loop-made-preserved : goal.loop-made-preserved
loop-made-preserved c =
    let before = c.loop-made.invariant in
    let ahead = c.run_ahead-ahead.ensures in
    let mid : Course = c.run_ahead-ahead.new.self in
    let made = c.loop-made.made + c.run_ahead-ahead.result in
    let new : Course = c.step_noted-last.new.self in
    let done = c.step_noted-last.ensures in
    let p = c.args.processor.0 in
    let v = c.args.vcpu.0 in
    let most = ahead.few in
    let few : c.run_ahead-ahead.result ≤ c.if-is_due.limit - c.loop-made.made - 1 = most in
    let was = before.fewer in
    let fewer : made < c.if-is_due.limit = omega (arith, was, few) in
    let limited = still-limited c.loop-made.self mid p c.if-is_due.limit c.args.most ahead.same before.limit in
    let none = not-some (due_on (state_of new) p) (sym c.is_chosen.ensures ∙ c.if-is_chosen.false) in
    let limit = whole (state_of mid) p c.if-is_due.limit c.args.most made limited fewer c.if-made-limit.false in
    let many = steps-then (state_of c.args.self.now) (state_of c.loop-made.self) (state_of mid) p v c.loop-made.made c.run_ahead-ahead.result before.steps ahead.steps in
    record {
      sound = done.sound;
      paged = before.paged ∙ ap (λ (x : Course). has_page x.around.profile) (sym ahead.same) ∙ ap (λ (a : Around). has_page a.profile) (sym done.around);
      may = record {
        goes_on = done.goes_on;
        runs = done.runs;
        may_act = ap (lets_act (state_of new)) none;
      };
      steps = one-more (state_of c.args.self.now) (state_of new) p v made (state_of mid, many, c.in-Direct.ensures.executes.row);
      quiet = subst (λ (n : ℕ). AreQuiet n v new.vcpus.items new.devs.state.page) (sym c.saturating_sub-quiet.ensures) (done.quiet (c.if-quiet-eq0.quiet - c.run_ahead-ahead.result) ahead.quiet);
      window = done.window;
      fewer = omega (arith, fewer, c.if-made-limit.false);
      limited = before.limited;
      limit = inl (limit, none);
      print_room = done.print_room ∙ ap (λ (x : Course). x.devs.print_room) ahead.same ∙ before.print_room;
      send_room = done.send_room ∙ ap (λ (x : Course). x.devs.send_room) ahead.same ∙ before.send_room;
      room = done.room ∙ ahead.room ∙ before.room;
      cells = done.cells ∙ ap (λ (x : Course). x.sent_from) ahead.same ∙ before.cells;
      skips = done.skips ∙ ap (λ (x : Course). x.skips) ahead.same ∙ before.skips;
      packets = packets-then c.args.self.now mid new (packets-then c.args.self.now c.loop-made.self mid before.packets (packets-ahead c.loop-made.self mid ahead.same)) done.packets;
    }

pub returns-then-made-limit-clause-stops : goal.returns-then-made-limit-clause-stops
returns-then-made-limit-clause-stops c =
    let mid : Course = c.run_ahead-ahead.new.self in
    let new : Course = c.step_noted-last.new.self in
    let p = c.args.processor.0 in
    let limited = still-limited c.loop-made.self mid p c.if-is_due.limit c.args.most c.run_ahead-ahead.ensures.same c.loop-made.invariant.limit in
    elim c.then-made-limit.branch [
      | then-made-limit-via-then-made-limit w ↦ stopped (state_of mid) (state_of new) p c.if-is_due.limit c.args.most (c.loop-made.made + c.run_ahead-ahead.result) limited c.step_noted-last.ensures.chosen w.if-made-limit.true
      | then-made-limit-via-else-made-limit+then-is_chosen w ↦ inr (is-there (due_on (state_of new) p) (sym w.is_chosen.ensures ∙ w.if-is_chosen.true))
    ]

pub is_chosen-requires : goal.is_chosen-requires
is_chosen-requires c =
    let mid : Course = c.run_ahead-ahead.new.self in
    let new : Course = c.step_noted-last.new.self in
    let p = c.args.processor.0 in
    let done = c.step_noted-last.ensures in
    let before = c.loop-made.invariant in
    let made = c.loop-made.made + c.run_ahead-ahead.result in
    let most = c.run_ahead-ahead.ensures.few in
    let few : c.run_ahead-ahead.result ≤ c.if-is_due.limit - c.loop-made.made - 1 = most in
    let was = before.fewer in
    let fewer : made < c.if-is_due.limit = omega (arith, was, few) in
    let limited = still-limited c.loop-made.self mid p c.if-is_due.limit c.args.most c.run_ahead-ahead.ensures.same before.limit in
    let none = none-due (state_of mid) p c.if-is_due.limit c.args.most made limited fewer c.if-made-limit.false in
    record {
      there = due-there new done.sound p c.args.vcpu.0 done.runs.loaded;
      none = λ untouched. ap (λ (x : Vec (Option Wish)). get_or (map due_of x.items) p None) (done.none c.in-Direct.access c.in-Direct.is untouched) ∙ none;
    }

pub returns-in_default-clause-came : goal.returns-in_default-clause-came
returns-in_default-clause-came c =
    let start = state_of c.args.self.now in
    let mid = state_of c.run_ahead-ahead.new.self in
    let new = state_of c.step_noted-last.new.self in
    let p = c.args.processor.0 in
    let v = c.args.vcpu.0 in
    let made = c.loop-made.made + c.run_ahead-ahead.result in
    let many = steps-then start (state_of c.loop-made.self) mid p v c.loop-made.made c.run_ahead-ahead.result c.loop-made.invariant.steps c.run_ahead-ahead.ensures.steps in
    let trapped : TrapsUnchanged mid p v new c.in_default.field-0 = c.in_default.ensures.executes in
    subst (StepsTo made start p v new) (sym c.in_default.is)
    (record { steps = subst (StepsMany made start p v) (sym trapped.same) many; traps = subst (λ (t : GuestState). TrapsFor t p v c.in_default.field-0) (sym trapped.same) trapped.why; may = subst (λ (t : GuestState). MayStep t p v) (sym trapped.same) c.run_ahead-ahead.ensures.may })

pub returns-then-made-limit-clause-came : goal.returns-then-made-limit-clause-came
returns-then-made-limit-clause-came c =
    let start = state_of c.args.self.now in
    let mid = state_of c.run_ahead-ahead.new.self in
    let p = c.args.processor.0 in
    let v = c.args.vcpu.0 in
    let made = c.loop-made.made + c.run_ahead-ahead.result in
    record {
      before = made;
      count = omega arith;
      mid = mid;
      steps = steps-then start (state_of c.loop-made.self) mid p v c.loop-made.made c.run_ahead-ahead.result c.loop-made.invariant.steps c.run_ahead-ahead.ensures.steps;
      last = c.in-Direct.ensures.executes;
    }

pub run_ahead-ahead-requires-clause-due : goal.run_ahead-ahead-requires-clause-due
run_ahead-ahead-requires-clause-due c some = more-due (state_of c.loop-made.self) c.args.processor.0 c.if-is_due.limit c.args.most c.loop-made.made c.loop-made.invariant.limit some
