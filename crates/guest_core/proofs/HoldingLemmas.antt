-- The guest's holder holds what the guest holds: at the start, over an entry that takes and gives no frame, and at the end.
use Rattle.std.proofs.Common.{◌≡◌, ℕ, ◌+◌, ◌<◌, ◌==◌, cond, if◌then◌else◌, Bool, true, false, List, [], ◌∷◌, ◌++◌, drop, take, refl, sym, ap, ◌∙◌, subst, arith}
use Rattle.std.proofs.lemmas.List.Sums.{sum_by-cons}
use Rattle.std.specs.Prelude.{flat_map, count_by}
use Rattle.frame_words.specs.Views.{frame_holds, cell_loans}
use Rattle.frame_words.specs.declared.view.View.{View}
use Rattle.private_machine.specs.Backing.{Copy, Page}
use Rattle.private_machine.specs.PageMove.{held_for, held_in}
use Rattle.isolation_law.specs.Surroundings.{Surroundings, home_cell}
use Rattle.isolation_law.specs.GuestState.{GuestState}
use Rattle.isolation_law.specs.CellUse.{held}
use Rattle.isolation_law.specs.Exchange.{Exchanged, count_of}
use Rattle.isolation_law.specs.Start.{Found, Boot, pages_at_start, start}
use Rattle.guest_core.specs.Holding.{is_copy, IsHolding, HoldsCopies, HasFrames, found_times, HoldsFor}
use Rattle.guest_core.proofs.CopyLemmas.{loans-in, in-cell, as-many-copies, copies-held, held-copies}

-- ---- over an entry that takes and gives no frame

pub same-count : (s t : GuestState) → Exchanged s t [] [] → (test : ℕ → ℕ → Bool) → count_of test (held t) ≡ count_of test (held s)
same-count s t ex test = let none : count_of test [] ≡ 0 = refl in omega (arith, none, ex.balance test)

pub holding-stays : (s t : GuestState) (v : View) → Exchanged s t [] [] → t.around ≡ s.around → IsHolding s v → IsHolding t v
holding-stays s t v ex around h =
    held-copies t v (subst (λ (w : Surroundings). HoldsCopies w (held t) v) (sym around) (as-many-copies s.around (held s) (held t) v (same-count s t ex) (copies-held s v h)))

pub frames-stay : (s t : GuestState) (v : View) → Exchanged s t [] [] → t.around ≡ s.around → t.end ≡ s.end → HasFrames s v → HasFrames t v
frames-stay s t v ex around same k = record {
  holding = holding-stays s t v ex around k.holding;
  given_back = λ end is. k.given_back end (sym same ∙ is);
}

-- ---- at the start

booted-count : (test : ℕ → ℕ → Bool) (fs : List Found) (memory : List ℕ) → count_of test (flat_map held_for (pages_at_start fs memory) ++ []) ≡ count_by (λ (f : Found). test f.frame f.generation) fs
booted-count test [] memory = refl
booted-count test (f ∷ fs) memory =
    sum_by-cons (λ (c : Copy). cond {A = ℕ} (test c.frame c.generation) 1 0) (record { frame = f.frame; generation = f.generation; bytes = take 4096 memory }) (flat_map held_for (pages_at_start fs (drop 4096 memory)) ++ [])
    ∙ ap (λ (n : ℕ). cond (test f.frame f.generation) 1 0 + n) (booted-count test fs (drop 4096 memory))
    ∙ sym (sum_by-cons (λ (x : Found). cond {A = ℕ} (test x.frame x.generation) 1 0) f fs)

pub holding-start : (b : Boot) (v : View) → HoldsFor b v → IsHolding (start b) v
holding-start b v h =
    let same : (test : ℕ → ℕ → Bool) → count_of test (held (start b)) ≡ found_times test b = λ test. booted-count test b.frames b.image.memory in
    record {
      counted = λ frame. h.counted frame ∙ sym (same (λ f g. f == frame));
      same_generation = λ frame generation some. h.same_generation frame generation (subst (λ (n : ℕ). 0 < n) (same (is_copy frame generation)) some);
      borrowed = λ cell low. h.borrowed cell low ∙ sym (ap (loans-in b.around cell) (same (in-cell b.around cell)));
      within = λ frame some. h.within frame (subst (λ (n : ℕ). 0 < n) (same (λ f g. f == frame)) some);
    }

-- ---- when nothing is held any more

no-loans : (b : Bool) → ◌≡◌ {A = ℕ} (if b then 0 else 0) 0
no-loans true = refl
no-loans false = refl

pub no-frame : (w : Surroundings) (v : View) → HoldsCopies w [] v → (frame : ℕ) → frame_holds v frame ≡ 0
no-frame w v h frame = h.counted frame

pub no-loan : (w : Surroundings) (v : View) → HoldsCopies w [] v → (cell : ℕ) → cell < 8 → cell_loans v cell ≡ 0
no-loan w v h cell low = h.borrowed cell low ∙ no-loans (cell == home_cell w)

-- a guest that holds no frame has no pages and no spares
pub nothing-held : (pages : List Page) (spares : List Copy) → held_in pages spares ≡ [] → (pages ≡ []) × (spares ≡ [])
nothing-held [] spares e = (refl, e)
nothing-held (g ∷ pages) spares e = absurd (some g.master e)
  where
    some : {l : List Copy} (x : Copy) → x ∷ l ≡ [] → ⊥
    some x e = cc
