-- Bursts grow by turns.
use Rattle.std.proofs.Common.{◌≡◌, ℕ, zero, suc, replicate, ◌+◌, ◌-◌, ◌<◌, ◌≤◌, min, List, length, [], ◌∷◌, ◌++◌, refl, sym, ap, ◌∙◌, subst, append_assoc, Option, Some, None, Result, Ok, Err, inl, inr, unwrap_or, arith}
use Rattle.std.specs.declared.alloc.AllocError.{AllocError}
use Rattle.base_words.specs.declared.ids.ProcId.{ProcId}
use Rattle.base_words.specs.declared.ids.VcpuId.{VcpuId}
use Rattle.base_words.specs.declared.events.Event.TheVariants.{Direct, Emulate}
use Rattle.shootdown.specs.declared.notes.Note.{Note}
use Rattle.shootdown.specs.declared.notes.Note.TheVariants.{Made}
use Rattle.shootdown.specs.Notes.{Token, with_side}
use Rattle.isolation_law.specs.GuestState.{processor}
use Rattle.guest_core.specs.GuestView.{Monitored, Shared}
use Rattle.guest_core.specs.declared.answers.Ahead.{Ahead}
use Rattle.guest_core.specs.declared.answers.Turn.{Turn}
use Rattle.guest_core.specs.declared.answers.Turn.TheVariants as turn
use Rattle.guest_core.specs.GuestCalls.{MayTurn, TurnsAhead, processor_of, loaded_on, told_of_turn}
use Rattle.guest_lock.specs.declared.burst.Burst.{Burst}
use Rattle.guest_lock.specs.declared.burst.Stop.{Stop}
use Rattle.guest_lock.specs.declared.burst.Stop.TheVariants as stop
use Rattle.guest_lock.specs.Told.{with_told, shown, vcpu_shown, told_of_stop, AreInStep, AreSteps, Bursts}
use Rattle.guest_lock.specs.Counted.{counted, none_made, joined, goes_on, resumed, steps_made, turned, GoesOnTo}
use Rattle.guest_core.specs.Noting.{loaded_by, shows_loaded}
use Rattle.guest_lock.proofs.Notes.{in_step-learns, append-none, with_told-none, with_told-more, steps-append, steps-loaded, shown-steps, shown-told, loaded_by-append}

-- what a burst that goes on was told is its steps
paused : (old : Token) (g : ℕ) (b : Burst) (new : Token) (bursts : Bursts old g b new) → b.stop ≡ stop.Paused → new ≡ with_told old g bursts.made
paused old g b new bursts e = bursts.token ∙ ap (λ s. with_told old g (bursts.made ++ told_of_stop (vcpu_shown g old) s)) e ∙ ap (with_told old g) (append-none bursts.made)

-- it shows the same virtual processor
pub shown-paused : (old : Token) (g : ℕ) (b : Burst) (new : Token) → Bursts old g b new → b.stop ≡ stop.Paused → shown g new ≡ shown g old
shown-paused old g b new bursts e = ap (shown g) (paused old g b new bursts e) ∙ shown-steps g old (processor_of old) (vcpu_shown g old) b.steps bursts.made bursts.steps

pub Bursts-none : (old : Token) (g : ℕ) → Bursts old g none_made old
Bursts-none old g = record { made = []; steps = tt; token = sym (with_told-none old g) }

-- a burst that goes on, and what is told next
joins : (old : Token) (g : ℕ) (first : Burst) (mid : Token) (next : List Note) (n : ℕ) (s : Stop) (b : Burst) (new : Token) →
    (bursts : Bursts old g first mid) → first.stop ≡ stop.Paused → AreSteps (processor_of old) (vcpu_shown g old) n next →
    b.steps ≡ first.steps + n → b.stop ≡ s → new ≡ with_told mid g (next ++ told_of_stop (vcpu_shown g old) s) → Bursts old g b new
joins old g first mid next n s b new bursts e are steps stops token =
    let v = vcpu_shown g old in record {
      made = bursts.made ++ next;
      steps = subst (λ k. AreSteps (processor_of old) v k (bursts.made ++ next)) (sym steps) (steps-append (processor_of old) v first.steps n bursts.made next bursts.steps are);
      token =
          token
          ∙ ap (λ (t : Token). with_told t g (next ++ told_of_stop v s)) (paused old g first mid bursts e)
          ∙ with_told-more old g bursts.made (next ++ told_of_stop v s)
          ∙ ap (with_told old g) (sym (append_assoc bursts.made next (told_of_stop v s)))
          ∙ ap (λ k. with_told old g ((bursts.made ++ next) ++ told_of_stop v k)) (sym stops);
    }

-- a turn more, as the token before it shows
turn-told : (old : Token) (g : ℕ) (b : Burst) (mid : Token) (r : Result Turn AllocError) (new : Token) →
    Bursts old g b mid → b.stop ≡ stop.Paused → new ≡ with_told mid g (told_of_turn (processor_of old) (vcpu_shown g old) r) → Bursts old g (counted b r) new
turn-told old g b mid (Ok (turn.Stepped (Some access))) new bursts e token =
    let p = processor_of old in
    let v = vcpu_shown g old in
    let are : AreSteps p v 1 (Made (Direct p v) ∷ []) = (inl refl, tt) in
    joins old g b mid (Made (Direct p v) ∷ []) 1 stop.Paused _ new bursts e are refl e token
turn-told old g b mid (Ok (turn.Stepped None)) new bursts e token =
    let p = processor_of old in
    let v = vcpu_shown g old in
    let are : AreSteps p v 1 (Made (Emulate p v) ∷ []) = (inr refl, tt) in
    joins old g b mid (Made (Emulate p v) ∷ []) 1 stop.Paused _ new bursts e are refl e token
turn-told old g b mid (Ok turn.Refilled) new bursts e token = joins old g b mid [] 0 stop.Paused _ new bursts e tt (let n : b.steps ≡ b.steps + 0 = omega arith in n) e token
turn-told old g b mid (Ok (turn.Acked q)) new bursts e token = joins old g b mid [] 0 stop.Paused _ new bursts e tt (let n : b.steps ≡ b.steps + 0 = omega arith in n) e token
turn-told old g b mid (Ok (turn.Begun q)) new bursts e token = joins old g b mid [] 0 stop.Paused _ new bursts e tt (let n : b.steps ≡ b.steps + 0 = omega arith in n) e token
turn-told old g b mid (Ok (turn.Finished q)) new bursts e token = joins old g b mid [] 0 stop.Paused _ new bursts e tt (let n : b.steps ≡ b.steps + 0 = omega arith in n) e token
turn-told old g b mid (Ok (turn.Waits q set)) new bursts e token = joins old g b mid [] 0 (stop.Waits q) _ new bursts e tt (let n : b.steps ≡ b.steps + 0 = omega arith in n) refl token
turn-told old g b mid (Ok turn.VcpuHalted) new bursts e token = joins old g b mid [] 0 stop.VcpuHalted _ new bursts e tt (let n : b.steps ≡ b.steps + 0 = omega arith in n) refl token
turn-told old g b mid (Ok (turn.GuestEnded end)) new bursts e token = joins old g b mid [] 0 (stop.GuestEnded end) _ new bursts e tt (let n : b.steps ≡ b.steps + 0 = omega arith in n) refl token
turn-told old g b mid (Err error) new bursts e token = joins old g b mid [] 0 stop.Memory _ new bursts e tt (let n : b.steps ≡ b.steps + 0 = omega arith in n) refl token

same-vcpu : (old : Token) (g : ℕ) (b : Burst) (mid : Token) → Bursts old g b mid → b.stop ≡ stop.Paused → vcpu_shown g mid ≡ vcpu_shown g old
same-vcpu old g b mid bursts e = ap (λ s. record { 0 = unwrap_or s 0 }) (shown-paused old g b mid bursts e)

pub Bursts-turn : (old : Token) (g : ℕ) (b : Burst) (mid : Token) (r : Result Turn AllocError) (new : Token) →
    Bursts old g b mid → b.stop ≡ stop.Paused → new ≡ with_told mid g (told_of_turn (processor_of mid) (vcpu_shown g mid) r) → Bursts old g (counted b r) new
Bursts-turn old g b mid r new bursts e token = turn-told old g b mid r new bursts e (
    token
    ∙ ap (λ v. with_told mid g (told_of_turn (processor_of mid) v r)) (same-vcpu old g b mid bursts e)
    ∙ ap (λ (t : Token). with_told mid g (told_of_turn (processor_of t) (vcpu_shown g old) r)) (paused old g b mid bursts e))

pub counted-turns : (b : Burst) (r : Result Turn AllocError) → (counted b r).turns ≡ b.turns + 1
counted-turns b (Ok (turn.Stepped (Some access))) = refl
counted-turns b (Ok (turn.Stepped None)) = refl
counted-turns b (Ok turn.Refilled) = refl
counted-turns b (Ok (turn.Acked q)) = refl
counted-turns b (Ok (turn.Begun q)) = refl
counted-turns b (Ok (turn.Finished q)) = refl
counted-turns b (Ok (turn.Waits q set)) = refl
counted-turns b (Ok turn.VcpuHalted) = refl
counted-turns b (Ok (turn.GuestEnded end)) = refl
counted-turns b (Err error) = refl

pub counted-steps : (b : Burst) (r : Result Turn AllocError) → (counted b r).steps ≤ b.steps + 1
counted-steps b (Ok (turn.Stepped (Some access))) = omega arith
counted-steps b (Ok (turn.Stepped None)) = omega arith
counted-steps b (Ok turn.Refilled) = omega arith
counted-steps b (Ok (turn.Acked q)) = omega arith
counted-steps b (Ok (turn.Begun q)) = omega arith
counted-steps b (Ok (turn.Finished q)) = omega arith
counted-steps b (Ok (turn.Waits q set)) = omega arith
counted-steps b (Ok turn.VcpuHalted) = omega arith
counted-steps b (Ok (turn.GuestEnded end)) = omega arith
counted-steps b (Err error) = omega arith

-- ---- a burst more

-- what stops turns changes nothing of what is loaded
stop-loaded : (v : VcpuId) (l : Option ℕ) (s : Stop) → loaded_by l (told_of_stop v s) ≡ l
stop-loaded v l stop.Paused = refl
stop-loaded v l (stop.Waits page) = refl
stop-loaded v l stop.VcpuHalted = refl
stop-loaded v l (stop.GuestEnded end) = refl
stop-loaded v l stop.Memory = refl

pub shown-burst : (old : Token) (g : ℕ) (b : Burst) (new : Token) → Bursts old g b new → shown g new ≡ shown g old
shown-burst old g b new bursts =
    let v = vcpu_shown g old in
    let last = told_of_stop v b.stop in
    ap (shown g) bursts.token
    ∙ shown-told g old (bursts.made ++ last)
    ∙ loaded_by-append (shown g old) bursts.made last
    ∙ ap (λ l. loaded_by l last) (steps-loaded (processor_of old) v (shown g old) b.steps bursts.made bursts.steps)
    ∙ stop-loaded v (shown g old) b.stop

pub Bursts-join : (old mid new : Token) (g : ℕ) (first next : Burst) → first.stop ≡ stop.Paused → Bursts old g first mid → Bursts mid g next new → Bursts old g (joined first next) new
Bursts-join old mid new g first next e bursts more =
    let token = paused old g first mid bursts e in
    let same = shown-burst old g first mid bursts in
    let vcpu : vcpu_shown g mid ≡ vcpu_shown g old = ap (λ s. record { 0 = unwrap_or s 0 }) same in
    let processor : processor_of mid ≡ processor_of old = ap processor_of token in
    let steps = subst (λ v. AreSteps (processor_of old) v next.steps more.made) vcpu (subst (λ p. AreSteps p (vcpu_shown g mid) next.steps more.made) processor more.steps) in
    joins old g first mid more.made next.steps next.stop (joined first next) new bursts e steps refl refl (more.token ∙ ap (λ v. with_told mid g (more.made ++ told_of_stop v next.stop)) vcpu)

-- what was told last stays, where a burst that waited goes on
told-on : (v : VcpuId) (s : Stop) → told_of_stop v s ≡ told_of_stop v (goes_on s)
told-on v stop.Paused = refl
told-on v (stop.Waits page) = refl
told-on v stop.VcpuHalted = refl
told-on v (stop.GuestEnded end) = refl
told-on v stop.Memory = refl

pub Bursts-waited : (old new : Token) (g : ℕ) (b : Burst) → Bursts old g b new → Bursts old g (resumed b) new
Bursts-waited old new g b bursts = record {
  made = bursts.made;
  steps = bursts.steps;
  token = bursts.token ∙ ap (λ l. with_told old g (bursts.made ++ l)) (told-on (vcpu_shown g old) b.stop);
}

-- ---- steps that the processor makes by itself

are-steps : (p : ProcId) (v : VcpuId) (n : ℕ) → AreSteps p v n (replicate n (Made (Direct p v)))
are-steps p v zero = tt
are-steps p v (suc n) = (inl refl, are-steps p v n)

pub Bursts-steps : (old : Token) (g n : ℕ) (new : Token) → new ≡ with_told old g (replicate n (Made (Direct (processor_of old) (vcpu_shown g old)))) → Bursts old g (steps_made n) new
Bursts-steps old g n new token =
    let made : List Note = replicate n (Made (Direct (processor_of old) (vcpu_shown g old))) in
    record { made = made; steps = are-steps (processor_of old) (vcpu_shown g old) n; token = token ∙ ap (with_told old g) (sym (append-none made)) }

-- what is loaded is what the token shows, where it is in step
pub loaded-shown : (g : ℕ) (guest : Monitored) (token : Token) → guest.number ≡ g → AreInStep token guest
    → ((p : ℕ) → p < length guest.start.around.processors → shows_loaded (with_side p guest.notes) ≡ (processor guest.state p).loaded) → token.number < length guest.start.around.processors
    → loaded_on guest token ≡ vcpu_shown g token
loaded-shown g guest token number in_step tells there =
    ap (λ (o : Option ℕ). record { 0 = unwrap_or o 0 })
    (sym (tells token.number there) ∙ ap shows_loaded (sym in_step) ∙ ap (λ (n : ℕ). shows_loaded (with_side n token.notes)) number)

-- ---- a burst so far

pub record Goes (start : Token) (g steps : ℕ) (b : Burst) (token : Token) (guest : Monitored) : Type 0 where
  pub told : Bursts start g b token
  pub turns : b.turns ≤ 256
  pub fewer : b.steps ≤ b.turns
  pub few : b.steps ≤ steps
  pub in_step : AreInStep token guest

-- steps that the processor makes by itself, as many as are left
pub goes-ahead : (start mid new : Token) (g steps most : ℕ) (b next : Burst) (guest after : Monitored) → Goes start g steps b mid guest → GoesOnTo steps b → most ≡ min (steps - b.steps) (256 - b.turns)
    → next.turns ≤ most → next.steps ≤ next.turns → Bursts mid g next new → AreInStep new after → Goes start g steps (joined b next) new after
goes-ahead start mid new g steps most b next guest after goes on is_most few fewer-next more in_step =
    let turns = goes.turns in
    let fewer = goes.fewer in
    let left = on.left in
    let some = on.fewer in
    record {
      told = Bursts-join start mid new g b next on.paused goes.told more;
      turns = omega arith;
      fewer = omega arith;
      few = omega arith;
      in_step = in_step;
    }

-- none ahead, and a burst goes on as it did
pub goes-on-none : (steps : ℕ) (b next : Burst) → GoesOnTo steps b → next ≡ none_made → GoesOnTo steps (joined b next)
goes-on-none steps b next on none =
    subst (λ (n : Burst). GoesOnTo steps (joined b n)) (sym none) (let left = on.left in let some = on.fewer in record { paused = refl; fewer = omega (arith, some); left = omega (arith, left) })

-- ---- steps ahead, and the turn that came then

-- as it is told
turn-then : (old : Token) (g n : ℕ) (v : VcpuId) (shared : Shared) (mid after : Monitored) (between new : Token) (turn : Option (Result Turn AllocError)) → Bursts old g (steps_made n) between → mid.number ≡ g → v ≡ vcpu_shown g old
    → MayTurn shared mid between v turn after new → Bursts old g (turned (steps_made n) turn) new
turn-then old g n v shared mid after between new None bursts number is turn = subst (Bursts old g (steps_made n)) (sym turn.1) bursts
turn-then old g n v shared mid after between new (Some r) bursts number is turn =
    let here : turn.mid.number ≡ g = turn.room.same.number ∙ number in
    let vcpu : v ≡ vcpu_shown g between = is ∙ sym (same-vcpu old g (steps_made n) between bursts refl) in
    Bursts-turn old g (steps_made n) between r new bursts refl
    (turn.leaves.learns.token_is
    ∙ ap (λ (k : ℕ). with_told between k (told_of_turn (processor_of between) v r)) here
    ∙ ap (λ (w : VcpuId). with_told between g (told_of_turn (processor_of between) w r)) vcpu)

pub Bursts-turned : (old : Token) (g : ℕ) (v : VcpuId) (shared : Shared) (guest after : Monitored) (ahead : Ahead) (new : Token) → guest.number ≡ g → v ≡ vcpu_shown g old → TurnsAhead shared guest old v ahead after new → Bursts old g (turned (steps_made ahead.steps) ahead.turn) new
Bursts-turned old g v shared guest after ahead new number is turns =
    let learned = turns.steps.learns.token_is in
    let steps : turns.between ≡ with_told old g (replicate ahead.steps (Made (Direct (processor_of old) (vcpu_shown g old)))) =
    learned
    ∙ ap (λ (k : ℕ). with_told old k (replicate ahead.steps (Made (Direct (processor_of old) v)))) number
    ∙ ap (λ (w : VcpuId). with_told old g (replicate ahead.steps (Made (Direct (processor_of old) w)))) is in
    turn-then old g ahead.steps v shared turns.mid after turns.between new ahead.turn (Bursts-steps old g ahead.steps turns.between steps) (turns.steps.same.number ∙ number) is turns.turn

-- guest and token are told the same
in_step-then : (v : VcpuId) (shared : Shared) (mid after : Monitored) (between new : Token) (turn : Option (Result Turn AllocError)) → MayTurn shared mid between v turn after new → AreInStep between mid → AreInStep new after
in_step-then v shared mid after between new None turn e =
    subst (λ (t : Token). AreInStep t after) (sym turn.1) (ap (λ (n : ℕ). with_side n between.notes) turn.0.same.number ∙ e ∙ ap (with_side between.number) (sym turn.0.notes))
in_step-then v shared mid after between new (Some r) turn e =
    let before : AreInStep between turn.mid = ap (λ (n : ℕ). with_side n between.notes) turn.room.same.number ∙ e ∙ ap (with_side between.number) (sym turn.room.notes) in
    in_step-learns turn.mid between (told_of_turn (processor_of between) v r) after new turn.leaves.learns turn.leaves.same.number before

pub in_step-turned : (old : Token) (v : VcpuId) (shared : Shared) (guest after : Monitored) (ahead : Ahead) (new : Token) → TurnsAhead shared guest old v ahead after new → AreInStep old guest → AreInStep new after
in_step-turned old v shared guest after ahead new turns e =
    in_step-then v shared turns.mid after turns.between new ahead.turn turns.turn (in_step-learns guest old (replicate ahead.steps (Made (Direct (processor_of old) v))) turns.mid turns.between turns.steps.learns turns.steps.same.number e)
