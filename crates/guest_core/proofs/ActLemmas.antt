-- Who may act: a begin, a skip and an end of a move clear what is due of its page, and nothing else of what is due is changed.
use Rattle.std.proofs.Common.{◌≡◌, ◌≢◌, ℕ, zero, suc, ◌==◌, if◌then◌else◌, Bool, true, false, List, ◌∷◌, ◌++◌, [], Option, Some, None, is_some, map, get_or, set, drop, refl, sym, ap, ◌∙◌}
use Rattle.std.proofs.lemmas.Bool.{eqb-false, eq-eqb}
use Rattle.std.proofs.lemmas.List.{get_or-set_other}
use Rattle.base_words.specs.declared.moves.By.{By}
use Rattle.base_words.specs.declared.moves.MoveKind.{MoveKind}
use Rattle.private_machine.specs.Backing.{Move, Page, no_page, page_at, with_first}
use Rattle.private_machine.specs.PageMove.{begun, finished, taken}
use Rattle.isolation_law.specs.Dues.{without_due}
use Rattle.isolation_law.specs.GuestState.{GuestState, page, due_on}
use Rattle.isolation_law.specs.MoveRows.{Begins, Finishes}
use Rattle.isolation_law.specs.PacketRows.{ComesToHand, EndsDelivery, Receives}
use Rattle.isolation_law.specs.Parts.{Wish}
use Rattle.isolation_law.specs.Phases.{MayAct, lets_act}
use Rattle.isolation_law.specs.SkipRow.{Skips}

-- ---- what is due

at-map : (f : Option Wish → Option Wish) → f None ≡ None → (dues : List (Option Wish)) (p : ℕ) → get_or (map f dues) p None ≡ f (get_or dues p None)
at-map f none [] p = sym none
at-map f none (x ∷ dues) zero = refl
at-map f none (x ∷ dues) (suc p) = at-map f none dues p

due-begun : (s t : GuestState) (q : ℕ) (kind : MoveKind) (node : ℕ) (by : By) → Begins s q kind node by t → (p : ℕ) → due_on t p ≡ without_due q (due_on s p)
due-begun s t q kind node by row p = ap (λ (x : GuestState). due_on x p) row.after ∙ at-map (without_due q) refl s.due p

due-finished : (s t : GuestState) (q : ℕ) → Finishes s q t → (p : ℕ) → due_on t p ≡ without_due q (due_on s p)
due-finished s t q row p = ap (λ (x : GuestState). due_on x p) row.after ∙ at-map (without_due q) refl s.due p

due-skipped : (s t : GuestState) (k : ℕ) → (row : Skips s k t) → (p : ℕ) → due_on t p ≡ without_due row.entry.wish.page (due_on s p)
due-skipped s t k row p = ap (λ (x : GuestState). due_on x p) row.after ∙ at-map (without_due row.entry.wish.page) refl s.due p

-- ---- what was asked for isn't due any more

-- what stands last
pub same-last : {A : Type 0} (l : List A) (x y : A) → l ++ x ∷ [] ≡ l ++ y ∷ [] → x ≡ y
same-last [] x y e = (λ i. get_or (e i) 0 x)
same-last (z ∷ l) x y e = same-last l x y (ap (λ k. drop 1 k) e)

cleared-wish : (wish : Wish) → without_due wish.page (Some wish) ≡ None
cleared-wish wish = ap (λ (b : Bool). if b then None else Some wish) (eq-eqb wish.page wish.page refl)

acts-then : (s t : GuestState) (p : ℕ) (wish : Wish) → due_on t p ≡ without_due wish.page (due_on s p) → due_on s p ≡ Some wish → MayAct t p
acts-then s t p wish cleared is = ap (lets_act t) (cleared ∙ ap (without_due wish.page) is ∙ cleared-wish wish)

pub acts-begun : (s t : GuestState) (kind : MoveKind) (node : ℕ) (by : By) (p : ℕ) (wish : Wish) → Begins s wish.page kind node by t → due_on s p ≡ Some wish → MayAct t p
acts-begun s t kind node by p wish row is = acts-then s t p wish (due-begun s t wish.page kind node by row p) is

pub acts-skipped : (s t : GuestState) (k p : ℕ) (wish : Wish) → (row : Skips s k t) → row.entry.wish ≡ wish → due_on s p ≡ Some wish → MayAct t p
acts-skipped s t k p wish row same is = acts-then s t p wish (due-skipped s t k row p ∙ ap (λ (w : Wish). without_due w.page (due_on s p)) same) is

-- nor is a choice in the way of a page that has a move
pub acts-busy : (s : GuestState) (p : ℕ) (wish : Wish) (move : Move) → (page s wish.page).move ≡ Some move → due_on s p ≡ Some wish → MayAct s p
acts-busy s p wish move moves is = ap (lets_act s) is ∙ ap (λ (m : Option Move). is_some m) moves

-- ---- who might act may still

-- where what is due of one page is cleared, and the others have the moves that they had
acts-cleared : (s t : GuestState) (q p : ℕ) → due_on t p ≡ without_due q (due_on s p) → ((r : ℕ) → r ≢ q → (page t r).move ≡ (page s r).move) → MayAct s p → MayAct t p
acts-cleared s t q p cleared moves may = by (due_on s p) refl
  where
    other : (wish : Wish) → due_on s p ≡ Some wish → (same : Bool) → (wish.page == q) ≡ same → MayAct t p
    other wish is true same = ap (lets_act t) (cleared ∙ ap (without_due q) is ∙ ap (λ (b : Bool). if b then None else Some wish) same)
    other wish is false same =
        ap (lets_act t) (cleared ∙ ap (without_due q) is ∙ ap (λ (b : Bool). if b then None else Some wish) same)
        ∙ ap (λ (m : Option Move). is_some m) (moves wish.page (eqb-false wish.page q same))
        ∙ sym (ap (lets_act s) is) ∙ may

    by : (due : Option Wish) → due_on s p ≡ due → MayAct t p
    by None is = ap (lets_act t) (cleared ∙ ap (without_due q) is)
    by (Some wish) is = other wish is (wish.page == q) refl

pub acts-finished : (s t : GuestState) (q : ℕ) → Finishes s q t → (p : ℕ) → MayAct s p → MayAct t p
acts-finished s t q row p =
    acts-cleared s t q p (due-finished s t q row p)
    (λ r no. ap (λ (x : GuestState). (page x r).move) row.after ∙ ap (λ (g : Page). g.move) (get_or-set_other s.pages q r (finished row.move.change (page s q)) no_page no))

pub acts-opened : (s t : GuestState) (q : ℕ) (kind : MoveKind) (node : ℕ) (by : By) → Begins s q kind node by t → (p : ℕ) → MayAct s p → MayAct t p
acts-opened s t q kind node by row p =
    acts-cleared s t q p (due-begun s t q kind node by row p)
    (λ r no. ap (λ (x : GuestState). (page x r).move) row.after ∙ ap (λ (g : Page). g.move) (get_or-set_other s.pages q r (begun row.change (page s q)) no_page no))

-- where nothing of it is changed
acts-same : (s t : GuestState) → ((p : ℕ) → due_on t p ≡ due_on s p) → ((r : ℕ) → (page t r).move ≡ (page s r).move) → (p : ℕ) → MayAct s p → MayAct t p
acts-same s t dues moves p may = ap (lets_act t) (dues p) ∙ by (due_on s p) refl
  where
    by : (due : Option Wish) → due_on s p ≡ due → lets_act t (due_on s p) ≡ true
    by None is = ap (lets_act t) is
    by (Some wish) is = ap (lets_act t) is ∙ ap (λ (m : Option Move). is_some m) (moves wish.page) ∙ sym (ap (lets_act s) is) ∙ may

moves-set : (pages : List Page) (q : ℕ) (g : Page) → g.move ≡ (page_at pages q).move → (r : ℕ) → (page_at (set pages q g) r).move ≡ (page_at pages r).move
moves-set [] q g same r = refl
moves-set (x ∷ pages) zero g same zero = same
moves-set (x ∷ pages) zero g same (suc r) = refl
moves-set (x ∷ pages) (suc q) g same zero = refl
moves-set (x ∷ pages) (suc q) g same (suc r) = moves-set pages q g same r

pub acts-received : (s t : GuestState) (k : ℕ) → Receives s k t → (p : ℕ) → MayAct s p → MayAct t p
acts-received s t k row =
    acts-same s t (λ p. ap (λ (x : GuestState). due_on x p) row.after)
    (λ r. ap (λ (x : GuestState). (page x r).move) row.after ∙ moves-set s.pages row.q (with_first row.packet.bytes (page s row.q)) refl r)

pub acts-ended : (s t : GuestState) (k : ℕ) → EndsDelivery s k t → (p : ℕ) → MayAct s p → MayAct t p
acts-ended s t k row p =
    acts-cleared s t row.q p (ap (λ (x : GuestState). due_on x p) row.after ∙ at-map (without_due row.q) refl s.due p)
    (λ r no. ap (λ (x : GuestState). (page x r).move) row.after ∙ ap (λ (g : Page). g.move) (get_or-set_other s.pages row.q r (taken row.target (page s row.q)) no_page no))

pub acts-hand : (s t : GuestState) → ComesToHand s t → (p : ℕ) → MayAct s p → MayAct t p
acts-hand s t comes = acts-same s t (λ p. ap (λ (x : GuestState). due_on x p) comes.after) (λ r. ap (λ (x : GuestState). (page x r).move) comes.after)
