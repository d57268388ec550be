-- Holds as a bag, and sums over views.
use Rattle.std.proofs.Common.{◌≡◌, ◌≢◌, ℕ, zero, suc, ◌+◌, ◌<◌, ◌≤◌, ◌==◌, if◌then◌else◌, Bool, true, false, List, [], ◌∷◌, ◌++◌, length, set, get_or, refl, sym, ap, ◌∙◌, subst, ⊎_elim, arith, zero-add, add_comm, eq-eqb, ne_eqb, get_or-set_same, get_or-set_other}
use Rattle.std.proofs.lemmas.List.Elements.{Contains-append_left, Contains-append_right, Contains-append_cases}
use Rattle.std.specs.Prelude.{Contains, All, slice_index_or}
use mathlib.Core.Option.{some-ne-none, some-injective}
use mathlib.Core.Logic.{dite}
use native.Mathlib.Decide.{ℕ_discrete}
use Rattle.frame_words.specs.FrameWords.{generation}
use Rattle.frame_words.specs.Views.{hold, times, without, OneGeneration}
use Rattle.frame_words.specs.FrameRights.{total, AreUnder, IsView}
use Rattle.frame_words.specs.declared.view.Hold.{Hold}
use Rattle.frame_words.specs.declared.view.View.{View}

abbrev pub one_if : Bool → ℕ
one_if b = if b then 1 else 0

-- a word stands one time more among holds that begin with it
pub times-here : (i g : ℕ) (hs : List Hold) → times i (hold i g ∷ hs) ≡ times i hs + 1
times-here i g hs = rw (eq-eqb i i refl) (omega arith)

pub times-else : (i j g : ℕ) (hs : List Hold) → j ≢ i → times j (hold i g ∷ hs) ≡ times j hs
times-else i j g hs apart = rw (ne_eqb i j (λ e. apart (sym e))) (omega arith)

pub times-append : (i : ℕ) (xs ys : List Hold) → times i (xs ++ ys) ≡ times i xs + times i ys
times-append i [] ys = omega arith
times-append i (x ∷ xs) ys = omega (arith, times-append i xs ys)

-- a fact by whether two words are one
pub by_word : (F : Bool → Type 0) (a i : ℕ) → (a ≡ i → F true) → (a ≢ i → F false) → F (a == i)
by_word F a i same apart = dite (ℕ_discrete a i) (λ e. subst F (sym (eq-eqb a i e)) (same e)) (λ ne. subst F (sym (ne_eqb a i ne)) (apart ne))

-- without a hold of i, i stands one time less
abbrev Less : ℕ → Hold → List Hold → Bool → Type 0
Less i h hs b = 0 < one_if b + times i hs → times i (if b then hs else h ∷ without i hs) + 1 ≡ one_if b + times i hs

missed : (i : ℕ) (h : Hold) (hs : List Hold) → h.word ≢ i → (0 < times i hs → times i (without i hs) + 1 ≡ times i hs) → Less i h hs false
missed i h hs ne below any = let e = below (omega arith) in rw (ne_eqb h.word i ne) (omega arith)

pub without_here : (i : ℕ) (hs : List Hold) → 0 < times i hs → times i (without i hs) + 1 ≡ times i hs
without_here i [] any = absurd (omega arith)
without_here i (h ∷ hs) any = by_word (Less i h hs) h.word i (λ _ _. add_comm (times i hs) 1) (λ ne. missed i h hs ne (without_here i hs)) any

pub without_else : (i j : ℕ) (hs : List Hold) → j ≢ i → times j (without i hs) ≡ times j hs
without_else i j [] apart = refl
without_else i j (h ∷ hs) apart = by_word (λ b. times j (if b then hs else h ∷ without i hs) ≡ one_if (h.word == j) + times j hs) h.word i (λ e. sym (rw (ne_eqb h.word j (λ e'. apart (sym e' ∙ e))) (zero-add (times j hs)))) (λ ne. ap (λ n. one_if (h.word == j) + n) (without_else i j hs apart))

pub under_without : (ws : List ℕ) (i : ℕ) (hs : List Hold) → AreUnder ws hs → AreUnder ws (without i hs)
under_without ws i [] u = tt
under_without ws i (h ∷ hs) u = by_word (λ b. AreUnder ws (if b then hs else h ∷ without i hs)) h.word i (λ _. u.1) (λ _. (u.0, under_without ws i hs u.1))

-- holds stay under their word's generation where a word changes that keeps it, or that is not among them
abbrev Set_under : List ℕ → ℕ → ℕ → Hold → List Hold → Bool → Type 0
Set_under ws i n h hs b = (0 < one_if b + times i hs → generation n ≡ generation (get_or ws i 0)) → h.generation ≡ generation (get_or (set ws i n) h.word 0)

pub under_set : (ws : List ℕ) (i n : ℕ) (hs : List Hold) → i < length ws → (0 < times i hs → generation n ≡ generation (get_or ws i 0)) → AreUnder ws hs → AreUnder (set ws i n) hs
under_set ws i n [] inside stays u = tt
under_set ws i n (h ∷ hs) inside stays u = (
  by_word (Set_under ws i n h hs) h.word i
      (λ e stays'. u.0 ∙ ap (λ k. generation (get_or ws k 0)) e ∙ sym (stays' (omega arith)) ∙ ap generation (sym (get_or-set_same ws i n 0 inside)) ∙ ap (λ k. generation (get_or (set ws i n) k 0)) (sym e))
      (λ ne _. u.0 ∙ ap generation (sym (get_or-set_other ws i h.word n 0 ne)))
      stays,
  under_set ws i n hs inside (λ more. stays (omega arith)) u.1,
)

-- the total after a change of one view
pub total_set : (f : View → ℕ) (vs : List View) (j : ℕ) (v w : View) → IsView vs j v → total f (set vs j w) + f v ≡ total f vs + f w
total_set f [] j v w at = absurd (some-ne-none v (sym at))
total_set f (u ∷ us) zero v w at = let e : f u ≡ f v = ap f (some-injective u v at) in omega arith
total_set f (u ∷ us) (suc j) v w at = let more = total_set f us j v w at in omega arith

-- no view's number is above the total
pub total_least : (f : View → ℕ) (vs : List View) (j : ℕ) (v : View) → IsView vs j v → f v ≤ total f vs
total_least f [] j v at = absurd (some-ne-none v (sym at))
total_least f (u ∷ us) zero v at = let e : f u ≡ f v = ap f (some-injective u v at) in omega arith
total_least f (u ∷ us) (suc j) v at = let more = total_least f us j v at in omega arith

pub total-snoc : (f : View → ℕ) (vs : List View) (v : View) → total f (vs ++ v ∷ []) ≡ total f vs + f v
total-snoc f [] v = omega arith
total-snoc f (u ∷ us) v = omega (arith, total-snoc f us v)

-- a hold that begins a list is the first that goes
pub without_hold : (i g : ℕ) (hs : List Hold) → without i (hold i g ∷ hs) ≡ hs
without_hold i g hs = rw (eq-eqb i i refl) refl

pub holds_first : (i g : ℕ) (hs : List Hold) → 0 < times i (hold i g ∷ hs)
holds_first i g hs = let e = times-here i g hs in omega arith

-- a hold among holds is under its word's generation
pub under_at : (ws : List ℕ) (hs : List Hold) (k : ℕ) (x : Hold) → AreUnder ws hs → k < length hs → slice_index_or hs k x ≡ x → x.generation ≡ generation (get_or ws x.word 0)
under_at ws [] k x u within at = absurd (omega arith)
under_at ws (h ∷ hs) zero x u within at = subst (λ (y : Hold). y.generation ≡ generation (get_or ws y.word 0)) at u.0
under_at ws (h ∷ hs) (suc k) x u within at = under_at ws hs k x u.1 (omega arith) at

-- a hold among holds counts
pub contains_held : (i g : ℕ) (hs : List Hold) → Contains hs (hold i g) → 0 < times i hs
contains_held i g hs c = at c.0 hs c.1 c.2
  where
    at : (k : ℕ) (hs : List Hold) → k < length hs → slice_index_or hs k (hold i g) ≡ hold i g → 0 < times i hs
    at k [] within is = absurd (omega arith)
    at zero (h ∷ hs) within is = subst (λ (x : Hold). 0 < times i (x ∷ hs)) (sym is) (holds_first i g hs)
    at (suc k) (h ∷ hs) within is = let more = at k hs (omega arith) is in omega arith

-- holds that are all under their words' generations hold no word under two
pub one_under : (ws : List ℕ) (hs : List Hold) → AreUnder ws hs → OneGeneration hs
one_under ws hs u = λ word one other a b. under_at ws hs a.0 (hold word one) u a.1 a.2 ∙ sym (under_at ws hs b.0 (hold word other) u b.1 b.2)

pub one_among : (hs part : List Hold) → All (Contains hs) part → OneGeneration hs → OneGeneration part
one_among hs part among one = λ word a b x y. one word a b (within (hold word a) x) (within (hold word b) y)
  where
    within : (x : Hold) → Contains part x → Contains hs x
    within x c = subst (Contains hs) c.2 (among c.0 x c.1)

-- what is left without a hold was there
pub contains_without : (i : ℕ) (hs : List Hold) (x : Hold) → Contains (without i hs) x → Contains hs x
contains_without i [] x c = c
contains_without i (h ∷ hs) x c = by_word (λ b. Contains (if b then hs else h ∷ without i hs) x → Contains (h ∷ hs) x) h.word i
    (λ _ there. Contains-append_right (h ∷ []) hs x there)
    (λ _ there. ⊎_elim
    (λ (here : Contains (h ∷ []) x). Contains-append_left (h ∷ []) hs x here)
    (λ (later : Contains (without i hs) x). Contains-append_right (h ∷ []) hs x (contains_without i hs x later))
    (Contains-append_cases (h ∷ []) (without i hs) x there))
    c

-- a word that is held is held under some generation
pub held_contains : (i : ℕ) (hs : List Hold) → 0 < times i hs → (g : ℕ) × Contains hs (hold i g)
held_contains i [] any = absurd (omega arith)
held_contains i (h ∷ hs) any = by_word (λ b. 0 < one_if b + times i hs → (g : ℕ) × Contains (h ∷ hs) (hold i g)) h.word i
    (λ e _. (h.generation, (0, omega arith, ap (λ k. hold k h.generation) e)))
    (λ ne some. let more = held_contains i hs (omega arith) in (more.0, (suc more.1.0, (let l = more.1.1 in omega arith), more.1.2)))
    any
