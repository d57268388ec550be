-- All moves are finished for which nobody waits, in order of their pages, and then the guest may end.
use Rattle.std.proofs.Common.{◌≡◌, ℕ, zero, suc, ◌+◌, ◌<◌, ◌≤◌, if◌then◌else◌, ⊎_elim, inl, inr, Bool, true, false, List, [], ◌∷◌, ◌++◌, Option, Some, None, is_some, length, take, get_or, set, refl, sym, ap, ◌∙◌, subst, arith, append_assoc}
use Rattle.std.specs.Prelude.{◌⊎◌}
use Rattle.std.proofs.lemmas.List.{append-nil, take_all, get_or_past}
use mathlib.Core.Logic.{dite}
use native.Mathlib.Decide.{ℕ_discrete}
use Rattle.base_words.specs.declared.events.Event.{Event}
use Rattle.base_words.specs.declared.events.Event.TheVariants.{Finish}
use Rattle.base_words.specs.declared.ids.Ppn.{Ppn}
use Rattle.private_machine.specs.Backing.{Move, Page, no_page}
use Rattle.pmap_table.specs.PageMap.{is_moving}
use Rattle.pmap_table.specs.Tracking.{HoldsNowhere}
use Rattle.isolation_law.specs.EndRows.{PlanIsDone}
use Rattle.isolation_law.specs.GuestState.{GuestState, page}
use Rattle.isolation_law.specs.Phases.{GoesOn}
use Rattle.isolation_law.specs.Run.{Run}
use Rattle.guest_core.specs.GuestView.{Monitored}
use Rattle.guest_core.specs.Making.{MakesAlone, Rests}
use Rattle.guest_core.specs.MoveCalls.{FinishesReady, is_done, finishing, NoneIsDone}
use Rattle.guest_core.specs.declared.answers.Ready.{Ready}
use Rattle.guest_core.specs.declared.answers.Ready.TheVariants as ready
use Rattle.guest_core.proofs.DoneLemmas.{true-false, none-nobody, waits-yet, run-end, run-devices, ends-one}

-- ---- the ends of the moves, page by page

abbrev pub done-at : Bool → ℕ → List Event
done-at done k = if done then Finish (record { 0 = k }) ∷ [] else []

finishing-next : (q n k : ℕ) (pages : List Page) → q + n ≡ k → n < length pages → finishing q (take (suc n) pages) ≡ finishing q (take n pages) ++ done-at (is_done (get_or pages n no_page).move) k
finishing-next q n k [] is lt = absurd (omega arith)
finishing-next q zero k (g ∷ pages) is lt = append-nil (done-at (is_done g.move) q) ∙ ap (done-at (is_done g.move)) (let e : q ≡ k = omega arith in e)
finishing-next q (suc n) k (g ∷ pages) is lt =
    ap (λ (l : List Event). done-at (is_done g.move) q ++ l) (finishing-next (suc q) n k pages (omega arith) (omega arith))
    ∙ sym (append_assoc (done-at (is_done g.move) q) (finishing (suc q) (take n pages)) (done-at (is_done (get_or pages n no_page).move) k))

-- ---- the pages below one

-- the moves of the pages below this one are done for which nobody waited, and the others are as they were
pub record AreFinished (start now : Monitored) (n : ℕ) : Type 0 where
  pub makes : MakesAlone start (finishing 0 (take n start.state.pages)) now
  pub below : (r : ℕ) → r < n → is_done (page now.state r).move ≡ false
  pub above : (r : ℕ) → n ≤ r → (page now.state r).move ≡ (page start.state r).move
  pub long : length now.state.pages ≡ length start.state.pages
  pub devices : now.state.devices ≡ start.state.devices
  pub hand : now.state.hand ≡ start.state.hand
  pub not_ended : now.state.end ≡ None

abbrev pub Joins : Type 0
Joins = (s m t : GuestState) (journal more : List Event) → Run s journal m → Run m more t → Run s (journal ++ more) t

pub none-finished : (start : Monitored) → start.state.end ≡ None → AreFinished start start 0
none-finished start on = record {
  makes = record { makes = record { journal = sym (append-nil start.journal); run = inl refl }; passes = refl };
  below = λ r lt. absurd (omega arith);
  above = λ r le. refl;
  long = refl;
  devices = refl;
  hand = refl;
  not_ended = on;
}

lower : (s : GuestState) (n r : ℕ) → ((k : ℕ) → k < n → is_done (page s k).move ≡ false) → is_done (page s n).move ≡ false → r < suc n → is_done (page s r).move ≡ false
lower s n r below none low = dite (ℕ_discrete r n) (λ e. ap (λ (k : ℕ). is_done (page s k).move) e ∙ none) (λ ne. below r (omega arith))

-- the page has nothing that is done
waits-next : (start now new : Monitored) (n : ℕ) → n < length start.state.pages → AreFinished start now n → Rests now new → is_done (page now.state n).move ≡ false → AreFinished start new (suc n)
waits-next start now new n lt are rests none =
    let at : is_done (get_or start.state.pages n no_page).move ≡ false = ap is_done (sym (are.above n (omega arith))) ∙ none in
    let same = rests.stays.state in
    let more : finishing 0 (take (suc n) start.state.pages) ≡ finishing 0 (take n start.state.pages) =
    finishing-next 0 n n start.state.pages (omega arith) lt ∙ ap (λ (b : Bool). finishing 0 (take n start.state.pages) ++ done-at b n) at ∙ append-nil (finishing 0 (take n start.state.pages)) in
    record {
      makes = subst (λ (l : List Event). MakesAlone start l new) (sym more) (record {
        makes = record { journal = rests.stays.journal ∙ are.makes.makes.journal; run = subst (λ (x : GuestState). Run start.state (finishing 0 (take n start.state.pages)) x) (sym same) are.makes.makes.run };
        passes = rests.passes ∙ are.makes.passes;
      });
      below = λ r low. ap (λ (x : GuestState). is_done (page x r).move) same ∙ lower now.state n r are.below none low;
      above = λ r le. ap (λ (x : GuestState). (page x r).move) same ∙ are.above r (omega arith);
      long = ap (λ (x : GuestState). length x.pages) same ∙ are.long;
      devices = ap (λ (x : GuestState). x.devices) same ∙ are.devices;
      hand = ap (λ (x : GuestState). x.hand) same ∙ are.hand;
      not_ended = ap (λ (x : GuestState). x.end) same ∙ are.not_ended;
    }

-- or its move is done now
ends-next : Joins → (start now new : Monitored) (n : ℕ) → n < length start.state.pages → AreFinished start now n → (new.state.end ≡ None → GoesOn new.state) → MakesAlone now (Finish (record { 0 = n }) ∷ []) new → new.state.hand ≡ now.state.hand → AreFinished start new (suc n)
ends-next joins start now new n lt are on makes hand =
    let q : Ppn = record { 0 = n } in
    let so-far = finishing 0 (take n start.state.pages) in
    let one = ends-one now.state new.state q on are.not_ended makes.makes.run in
    let at : is_done (get_or start.state.pages n no_page).move ≡ true = ap is_done (sym (are.above n (omega arith))) ∙ one.was in
    let more : finishing 0 (take (suc n) start.state.pages) ≡ so-far ++ Finish q ∷ [] = finishing-next 0 n n start.state.pages (omega arith) lt ∙ ap (λ (b : Bool). so-far ++ done-at b n) at in
    record {
      makes = subst (λ (l : List Event). MakesAlone start l new) (sym more) (record {
        makes = record {
          journal = makes.makes.journal ∙ ap (λ (l : List Event). l ++ Finish q ∷ []) are.makes.makes.journal ∙ append_assoc start.journal so-far (Finish q ∷ []);
          run = joins start.state now.state new.state so-far (Finish q ∷ []) are.makes.makes.run makes.makes.run;
        };
        passes = makes.passes ∙ are.makes.passes;
      });
      below = λ r low. dite (ℕ_discrete r n)
          (λ e. ap (λ (k : ℕ). is_done (page new.state k).move) e ∙ ap is_done one.now)
          (λ ne. ap (λ (g : Page). is_done g.move) (one.others r ne) ∙ are.below r (omega arith));
      above = λ r le. ap (λ (g : Page). g.move) (one.others r (λ (e : r ≡ n). omega arith)) ∙ are.above r (omega arith);
      long = one.long ∙ are.long;
      devices = run-devices now.state new.state q makes.makes.run ∙ are.devices;
      hand = hand ∙ are.hand;
      not_ended = run-end now.state new.state q makes.makes.run ∙ are.not_ended;
    }

each-next : Joins → (start now new : Monitored) (n : ℕ) (answer : Ready) → n < length start.state.pages → AreFinished start now n → (new.state.end ≡ None → GoesOn new.state) → FinishesReady now (record { 0 = n }) new answer
    → new.state.hand ≡ now.state.hand → AreFinished start new (suc n)
each-next joins start now new n ready.Finished lt are on finishes hand = ends-next joins start now new n lt are on finishes.makes hand
each-next joins start now new n (ready.Waits set) lt are on waits hand = waits-next start now new n lt are waits.rests (waits-yet now.state n set waits.waiting)
each-next joins start now new n ready.NoMove lt are on none hand = waits-next start now new n lt are none.rests (ap is_done none.none)

pub finished-next : Joins → (start now new : Monitored) (n : ℕ) (answer : Ready) → n < length start.state.pages → AreFinished start now n → (new.state.end ≡ None → GoesOn new.state) → FinishesReady now (record { 0 = n }) new answer
    → new.state.hand ≡ now.state.hand → AreFinished start new (n + 1)
finished-next joins start now new n answer lt are on finishes hand = subst (AreFinished start new) (let e : suc n ≡ n + 1 = omega arith in e) (each-next joins start now new n answer lt are on finishes hand)

-- ---- all pages

either : (q n : ℕ) → (q < n) ⊎ (n ≤ q)
either q zero = inr (omega arith)
either zero (suc n) = inl (omega arith)
either (suc q) (suc n) = ⊎_elim (λ (a : q < n). inl (omega (arith, a))) (λ (a : n ≤ q). inr (omega (arith, a))) (either q n)

pub none-left : (start now : Monitored) (n : ℕ) → length start.state.pages ≤ n → AreFinished start now n → NoneIsDone now.state
none-left start now n all are q =
    ⊎_elim (λ (lt : q < n). are.below q lt) (λ (le : n ≤ q). ap (λ (g : Page). is_done g.move) (get_or_past now.state.pages q no_page (let long = are.long in omega (arith, le)))) (either q n)

pub all-made : (start now : Monitored) (n : ℕ) → length start.state.pages ≤ n → AreFinished start now n → MakesAlone start (finishing 0 start.state.pages) now
all-made start now n all are = subst (λ (l : List Page). MakesAlone start (finishing 0 l) now) (take_all n start.state.pages all) are.makes

-- where no page has a move nothing is to be done
abbrev IsStill : List Page → Type 0
IsStill pages = (q : ℕ) → (get_or pages q no_page).move ≡ None

none-finishing : (q : ℕ) (pages : List Page) → IsStill pages → finishing q pages ≡ []
none-finishing q [] still = refl
none-finishing q (g ∷ pages) still = ap (λ (m : Option Move). done-at (is_done m) q ++ finishing (suc q) pages) (still 0) ∙ none-finishing (suc q) pages (λ r. still (suc r))

no-move : (m : Option Move) → is_some m ≡ false → m ≡ None
no-move None is = refl
no-move (Some m) is = absurd (true-false is)

pub still-made : (start : Monitored) → HoldsNowhere is_moving start.state.pages → MakesAlone start (finishing 0 start.state.pages) start
still-made start nowhere =
    let none = none-finishing 0 start.state.pages (λ q. no-move (page start.state q).move (nowhere q)) in
    subst (λ (l : List Event). MakesAlone start l start) (sym none) (record { makes = record { journal = sym (append-nil start.journal); run = inl refl }; passes = refl })

pub still-none : (s : GuestState) → HoldsNowhere is_moving s.pages → NoneIsDone s
still-none s nowhere q = ap is_done (no-move (page s q).move (nowhere q))

-- ---- the end of the plan

pub plan-done : (s : GuestState) → GoesOn s → NoneIsDone s → PlanIsDone s
plan-done s on none = record {
  not_ended = on.not_ended;
  no_other = inl on.owes_no_end;
  all_wait = λ q m is nobody-waits. true-false (sym (ap is_done is ∙ none-nobody m.waiting nobody-waits) ∙ none q);
}
