-- A move for which nobody waits is done: what its end changes of the pages, and what stays.
use Rattle.std.proofs.Common.{◌≡◌, ℕ, zero, suc, ◌<◌, if◌then◌else◌, ⊎_elim, Bool, true, false, List, [], ◌∷◌, Option, Some, None, length, get_or, set, refl, sym, ap, ◌∙◌, subst, arith}
use Rattle.std.specs.Prelude.{◌≢◌}
use Rattle.std.proofs.Math.ListN.{length-set}
use Rattle.std.proofs.lemmas.List.{get_or-set_same, get_or-set_other}
use Rattle.base_words.specs.Membership.{HasNone}
use Rattle.base_words.specs.declared.events.End.{End}
use Rattle.base_words.specs.declared.events.End.TheVariants.{Halted as ByHalt}
use Rattle.base_words.specs.declared.events.Event.TheVariants.{Finish}
use Rattle.base_words.specs.declared.ids.Ppn.{Ppn}
use Rattle.private_machine.specs.Backing.{Change, Migrates, Replicates, Collapses, Breaks, TakesShared, GivesShared, Move, Page, no_page}
use Rattle.private_machine.specs.PageMove.{finished}
use Rattle.pmap_table.specs.Tracking.{nobody}
use Rattle.isolation_law.specs.EndRows.{LetsGo}
use Rattle.isolation_law.specs.GuestState.{GuestState, page}
use Rattle.isolation_law.specs.MachineEvent.{Row}
use Rattle.isolation_law.specs.MoveRows.{Finishes}
use Rattle.isolation_law.specs.PacketRows.{ComesToHand}
use Rattle.isolation_law.specs.Phases.{GoesOn, owed, all_halted}
use Rattle.isolation_law.specs.Run.{Silent, Run}
use Rattle.isolation_law.specs.EndRows.{takes}
use Rattle.guest_course.specs.Acting.{IsTaken}
use Rattle.guest_core.specs.MoveCalls.{HasWaiting, is_done}

pub true-false : true ≡ false → ⊥
true-false e = cc

some-none : {A : Type 0} (x : A) → Some x ≡ None → ⊥
some-none x e = cc

-- ---- nobody waits

pub none-nobody : (l : List Bool) → HasNone l → nobody l ≡ true
none-nobody [] n = refl
none-nobody (true ∷ l) n = absurd (true-false (n 0))
none-nobody (false ∷ l) n = none-nobody l (λ k. n (suc k))

nobody-none : (l : List Bool) → nobody l ≡ true → HasNone l
nobody-none [] is k = refl
nobody-none (true ∷ l) is k = absurd (true-false (sym is))
nobody-none (false ∷ l) is zero = refl
nobody-none (false ∷ l) is (suc k) = nobody-none l is k

somebody : (l : List Bool) → (HasNone l → ⊥) → nobody l ≡ false
somebody l some = by (nobody l) refl
  where
    by : (b : Bool) → nobody l ≡ b → nobody l ≡ false
    by true is = absurd (some (nobody-none l is))
    by false is = is

-- a move that is done and takes its page shared
pub taken-done : (s : GuestState) (q : ℕ) → is_done (page s q).move ≡ true → ((m : Move) → (page s q).move ≡ Some m → HasNone m.waiting → takes m.change ≡ true) → IsTaken s q
taken-done s q done taken = by (page s q).move refl done
  where
    at : (m : Move) (c : Change) → (page s q).move ≡ Some m → m.change ≡ c → takes c ≡ true → HasNone m.waiting → IsTaken s q
    at m (Migrates target) e f is none = absurd (true-false (sym is))
    at m (Replicates target) e f is none = absurd (true-false (sym is))
    at m Collapses e f is none = absurd (true-false (sym is))
    at m (Breaks target) e f is none = absurd (true-false (sym is))
    at m (TakesShared target) e f is none = record { target = target; waiting = m.waiting; open_move = e ∙ ap (λ (x : Change). Some (record { change = x; waiting = m.waiting })) f; nobody = none }
    at m (GivesShared target) e f is none = absurd (true-false (sym is))

    by : (x : Option Move) → (page s q).move ≡ x → is_done x ≡ true → IsTaken s q
    by None e is = absurd (true-false (sym is))
    by (Some m) e is = let none = nobody-none m.waiting is in at m m.change e refl (taken m e none) none

pub waits-yet : (s : GuestState) (q : ℕ) (set : List Bool) → HasWaiting s q set → is_done (page s q).move ≡ false
waits-yet s q set w = ap is_done w.open_move ∙ somebody w.move.waiting (λ none. w.somebody (subst HasNone w.waiting_is none))

-- ---- what the end of one move changes

within : (l : List Page) (q : ℕ) (m : Move) → (get_or l q no_page).move ≡ Some m → q < length l
within [] q m is = absurd (some-none m (sym is))
within (x ∷ l) zero m is = omega arith
within (x ∷ l) (suc q) m is = let rest = within l q m is in omega arith

finished-none : (change : Change) (g : Page) → (finished change g).move ≡ None
finished-none (Migrates target) g = refl
finished-none (Replicates target) g = refl
finished-none Collapses g = refl
finished-none (Breaks target) g = refl
finished-none (TakesShared target) g = refl
finished-none (GivesShared target) g = refl

-- what stays where a packet comes to hand, or nothing changes
record Same (s t : GuestState) : Type 0 where
  pages : t.pages ≡ s.pages
  end : t.end ≡ s.end
  closing : t.closing ≡ s.closing
  devices : t.devices ≡ s.devices

silent-same : (s t : GuestState) → Silent s t → Same s t
silent-same s t silent =
    ⊎_elim
    (λ (e : t ≡ s). record { pages = ap (λ (x : GuestState). x.pages) e; end = ap (λ (x : GuestState). x.end) e; closing = ap (λ (x : GuestState). x.closing) e; devices = ap (λ (x : GuestState). x.devices) e })
    (λ (c : ComesToHand s t). record { pages = ap (λ (x : GuestState). x.pages) c.after; end = ap (λ (x : GuestState). x.end) c.after; closing = ap (λ (x : GuestState). x.closing) c.after; devices = ap (λ (x : GuestState). x.devices) c.after })
    silent

-- the move of the page was done, and the page has none now; the others are as they were
pub record EndsOne (s t : GuestState) (q : ℕ) : Type 0 where
  pub was : is_done (page s q).move ≡ true
  pub now : (page t q).move ≡ None
  pub others : (r : ℕ) → r ≢ q → page t r ≡ page s r
  pub long : length t.pages ≡ length s.pages

row-end : (s t : GuestState) (q : Ppn) → Row s (Finish q) t → t.end ≡ s.end
row-end s t q row = ⊎_elim (λ (x : Finishes s q.0 t). ap (λ (y : GuestState). y.end) x.after) (λ (x : LetsGo s q.0 t). ap (λ (y : GuestState). y.end) x.after) row

pub run-end : (s t : GuestState) (q : Ppn) → Run s (Finish q ∷ []) t → t.end ≡ s.end
run-end s t q run = (silent-same run.1 t run.4).end ∙ row-end run.0 run.1 q run.3 ∙ (silent-same s run.0 run.2).end

row-devices : (s t : GuestState) (q : Ppn) → Row s (Finish q) t → t.devices ≡ s.devices
row-devices s t q row = ⊎_elim (λ (x : Finishes s q.0 t). ap (λ (y : GuestState). y.devices) x.after) (λ (x : LetsGo s q.0 t). ap (λ (y : GuestState). y.devices) x.after) row

pub run-devices : (s t : GuestState) (q : Ppn) → Run s (Finish q ∷ []) t → t.devices ≡ s.devices
run-devices s t q run = (silent-same run.1 t run.4).devices ∙ row-devices run.0 run.1 q run.3 ∙ (silent-same s run.0 run.2).devices

-- a guest that goes on owes no end
owes-none : (t : GuestState) (end : End) → t.closing ≡ Some end → owed t ≡ None → ⊥
owes-none t end is none = by (all_halted t.vcpus) (λ i. if all_halted t.vcpus then Some ByHalt else is i) none
  where
    by : (b : Bool) → (if b then Some ByHalt else t.closing) ≡ (if b then Some ByHalt else Some end) → (if b then Some ByHalt else t.closing) ≡ None → ⊥
    by true same is = some-none ByHalt is
    by false same is = some-none end (sym same ∙ is)

ends-row : (s t : GuestState) (q : ℕ) → Finishes s q t → EndsOne s t q
ends-row s t q row =
    let lt = within s.pages q row.move row.open_move in
    let pages : t.pages ≡ set s.pages q (finished row.move.change (page s q)) = ap (λ (x : GuestState). x.pages) row.after in
    record {
      was = ap is_done row.open_move ∙ none-nobody row.move.waiting row.nobody_waits;
      now = ap (λ (l : List Page). (get_or l q no_page).move) pages ∙ ap (λ (g : Page). g.move) (get_or-set_same s.pages q _ no_page lt) ∙ finished-none row.move.change (page s q);
      others = λ r ne. ap (λ (l : List Page). get_or l r no_page) pages ∙ get_or-set_other s.pages q r _ no_page ne;
      long = ap length pages ∙ length-set s.pages q _;
    }

pub ends-one : (s t : GuestState) (q : Ppn) → (t.end ≡ None → GoesOn t) → s.end ≡ None → Run s (Finish q ∷ []) t → EndsOne s t q.0
ends-one s t q on not-ended run =
    let before = silent-same s run.0 run.2 in
    let after = silent-same run.1 t run.4 in
    let goes = on (run-end s t q run ∙ not-ended) in
    let middle = ⊎_elim (λ (x : Finishes run.0 q.0 run.1). ends-row run.0 run.1 q.0 x)
    (λ (x : LetsGo run.0 q.0 run.1). absurd (owes-none t _ (after.closing ∙ ap (λ (y : GuestState). y.closing) x.after) goes.owes_no_end)) run.3 in
    record {
      was = ap (λ (l : List Page). is_done (get_or l q.0 no_page).move) (sym before.pages) ∙ middle.was;
      now = ap (λ (l : List Page). (get_or l q.0 no_page).move) after.pages ∙ middle.now;
      others = λ r ne. ap (λ (l : List Page). get_or l r no_page) after.pages ∙ middle.others r ne ∙ ap (λ (l : List Page). get_or l r no_page) before.pages;
      long = ap length after.pages ∙ middle.long ∙ ap length before.pages;
    }
