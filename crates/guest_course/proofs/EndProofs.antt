-- An end is its row, after the pages are let go that were being taken shared, and keeps what holds of a guest.
use Rattle.std.proofs.Common.{◌≡◌, ◌≢◌, ◌⊎◌, ℕ, zero, suc, ◌<◌, ◌≤◌, ◌==◌, if◌then◌else◌, Bool, true, false, List, [], ◌∷◌, ◌++◌, Option, Some, None, is_some, length, map, drop, set, inl, inr, refl, ap, ◌∙◌, sym, subst, arith, get_or-set_other, get_or-set_same}
use Rattle.std.specs.Option.{unwrap_or}
use Rattle.std.proofs.lemmas.Bool.{cases_lt}
use Rattle.std.proofs.lemmas.Bool.Decides.{eqb_tells}
use Rattle.std.proofs.lemmas.List.{get_or_past, length-drop}
use Rattle.base_words.specs.declared.events.End.{End}
use Rattle.base_words.specs.declared.events.End.TheVariants.{Halted, Budget, CellFailed}
use Rattle.base_words.specs.declared.events.Event.TheVariants.{Finish, End as Ending}
use Rattle.base_words.specs.Membership.{HasNone}
use Rattle.private_machine.specs.Backing.{Copy, Change, Migrates, Replicates, Collapses, Breaks, TakesShared, GivesShared, Page, Move, page_at, no_page}
use Rattle.private_machine.specs.PageMove.{finished}
use Rattle.isolation_law.specs.Dues.{without_due, without_moving}
use Rattle.isolation_law.specs.EndRows.{MayEnd, LetsGo, ended, is_taking, takes}
use Rattle.isolation_law.specs.GuestState.{GuestState, page}
use Rattle.isolation_law.specs.MoveRows.{with_finished}
use Rattle.isolation_law.specs.Parts.{Wish}
use Rattle.isolation_law.specs.Phases.{all_halted, owed}
use Rattle.isolation_law.specs.Run.{Run}
use Rattle.guest_course.specs.declared.course.Course.{Course}
use Rattle.guest_course.specs.CourseView.{purpose_of, due_of, state_of}
use Rattle.guest_course.specs.CourseRules.{IsSound}
use Rattle.guest_course.specs.EndCalls.{EndsSo, letting_go}

-- what is left where a page is let go
abbrev let_go : GuestState → ℕ → Copy → GuestState
let_go s q target = record (with_finished s q (TakesShared target)) { closing = Some (unwrap_or (owed s) Budget) }

-- the guest hasn't ended yet
pub not-ended : (s : GuestState) (end : End) → MayEnd s end → s.end ≡ None
not-ended s Halted may = may.0
not-ended s Budget may = may.not_ended
not-ended s (CellFailed cell) may = may.0

-- ---- a page is let go

-- the end that the guest owes stays
owed-kept : (s : GuestState) (q : ℕ) (target : Copy) (end : End) → owed s ≡ Some end → owed (let_go s q target) ≡ Some end
owed-kept s q target end is = by (all_halted s.vcpus) is
  where
    by : (b : Bool) → (if b then Some Halted else s.closing) ≡ Some end → (if b then Some Halted else Some (unwrap_or (if b then Some Halted else s.closing) Budget)) ≡ Some end
    by true e = e
    by false e = ap (λ (o : Option End). Some (unwrap_or o Budget)) e

owed-budget : (s : GuestState) (q : ℕ) (target : Copy) → (owed s ≡ None) ⊎ (owed s ≡ Some Budget) → owed (let_go s q target) ≡ Some Budget
owed-budget s q target (inr is) = owed-kept s q target Budget is
owed-budget s q target (inl is) = by (all_halted s.vcpus) is
  where
    by : (b : Bool) → (if b then Some Halted else s.closing) ≡ None → (if b then Some Halted else Some (unwrap_or (if b then Some Halted else s.closing) Budget)) ≡ Some Budget
    by true e = cc
    by false e = ap (λ (o : Option End). Some (unwrap_or o Budget)) e

-- another page is as it was, and this one has no move
other-page : (s : GuestState) (q r : ℕ) (target : Copy) → r ≢ q → page (let_go s q target) r ≡ page s r
other-page s q r target apart = get_or-set_other s.pages q r (finished (TakesShared target) (page s q)) no_page apart

own-page : (s : GuestState) (q : ℕ) (target : Copy) → q < length s.pages → (page (let_go s q target) q).move ≡ None
own-page s q target lt = ap (λ (g : Page). g.move) (get_or-set_same s.pages q (finished (TakesShared target) (page s q)) no_page lt)

may-still : (s : GuestState) (q : ℕ) (target : Copy) (end : End) → q < length s.pages → MayEnd s end → MayEnd (let_go s q target) end
may-still s q target Halted lt may = (may.0, owed-kept s q target Halted may.1)
may-still s q target Budget lt may = record {
  not_ended = may.not_ended;
  no_other = inr (owed-budget s q target may.no_other);
  all_wait = λ r m has. elim (eqb_tells r q) [
    | inl same ↦ let none = sym (own-page s q target lt) ∙ sym (ap (λ (k : ℕ). (page (let_go s q target) k).move) same.1) ∙ has in absurd (never-some m none)
    | inr apart ↦ may.all_wait r m (sym (ap (λ (g : Page). g.move) (other-page s q r target apart.1)) ∙ has)
  ];
}
  where
    never-some : (m : Move) → None ≡ Some m → ⊥
    never-some m e = cc
may-still s q target (CellFailed cell) lt may = (may.0, owed-kept s q target (CellFailed cell) may.1)

-- where nothing is owed somebody is waited for
still-waits : (s : GuestState) (q : ℕ) (m : Move) (end : End) → MayEnd s end → (page s q).move ≡ Some m → owed s ≡ None → HasNone m.waiting → ⊥
still-waits s q m Halted may has none idle = let e = sym none ∙ may.1 in cc
still-waits s q m Budget may has none idle = may.all_wait q m has idle
still-waits s q m (CellFailed cell) may has none idle = let e = sym none ∙ may.1 in cc

-- what is due in the end is the same
due-same : (pages : List Page) (q : ℕ) (target : Copy) (m : Move) → (page_at pages q).move ≡ Some m → q < length pages → (d : Option Wish)
    → without_moving (set pages q (finished (TakesShared target) (page_at pages q))) (without_due q d) ≡ without_moving pages d
due-same pages q target m has lt None = refl
due-same pages q target m has lt (Some wish) = by (eqb_tells wish.page q)
  where
    after : List Page
    after = set pages q (finished (TakesShared target) (page_at pages q))

    by : (((wish.page == q) ≡ true) × (wish.page ≡ q)) ⊎ (((wish.page == q) ≡ false) × (wish.page ≢ q)) → without_moving after (if wish.page == q then None else Some wish) ≡ without_moving pages (Some wish)
    by (inl same) =
        ap (λ (b : Bool). without_moving after (if b then None else Some wish)) same.0
        ∙ sym (ap (λ (o : Option Move). if is_some o then None else Some wish) (ap (λ (k : ℕ). (page_at pages k).move) same.1 ∙ has))
    by (inr apart) =
        ap (λ (b : Bool). without_moving after (if b then None else Some wish)) apart.0
        ∙ ap (λ (g : Page). if is_some g.move then None else Some wish) (get_or-set_other pages q wish.page (finished (TakesShared target) (page_at pages q)) no_page apart.1)

dues-same : (pages : List Page) (q : ℕ) (target : Copy) (m : Move) → (page_at pages q).move ≡ Some m → q < length pages → (due : List (Option Wish))
    → map (without_moving (set pages q (finished (TakesShared target) (page_at pages q)))) (map (without_due q) due) ≡ map (without_moving pages) due
dues-same pages q target m has lt [] = refl
dues-same pages q target m has lt (d ∷ due) = λ i. due-same pages q target m has lt d i ∷ dues-same pages q target m has lt due i

ended-same : (s : GuestState) (q : ℕ) (target : Copy) (m : Move) (end : End) → (page s q).move ≡ Some m → q < length s.pages → ended end (let_go s q target) ≡ ended end s
ended-same s q target m end has lt =
    let dues = dues-same s.pages q target m has lt s.due in
    λ i. record s { end = Some end; closing = None; pages = []; operations = []; spares = []; due = dues i }

-- ---- all pages are let go

none-past : (pages : List Page) (k : ℕ) → drop k pages ≡ [] → (q : ℕ) → ((r : ℕ) → r < k → is_taking (page_at pages r).move ≡ false) → is_taking (page_at pages q).move ≡ false
none-past pages k past q before = elim (cases_lt q k) [
  | inl lt ↦ before q lt
  | inr over ↦
      let n = length-drop k pages in
      let z = ap length past in
      ap (λ (g : Page). is_taking g.move) (get_or_past pages q no_page (omega (arith, n, z, over)))
]

next-page : (pages rest : List Page) (k : ℕ) (g : Page) → drop k pages ≡ g ∷ rest → (page_at pages k ≡ g) × (k < length pages) × (drop (suc k) pages ≡ rest)
next-page [] rest zero g is = cc
next-page [] rest (suc k) g is = cc
next-page (x ∷ pages) rest zero g is = (let e : x ≡ g = cc in e, omega arith, let e : pages ≡ rest = cc in e)
next-page (x ∷ pages) rest (suc k) g is = let more = next-page pages rest k g is in (more.0, let lt = more.1 in omega (arith, lt), more.2)

drop-after : (pages : List Page) (k : ℕ) (g : Page) → drop (suc k) (set pages k g) ≡ drop (suc k) pages
drop-after [] k g = refl
drop-after (x ∷ pages) zero g = refl
drop-after (x ∷ pages) (suc k) g = drop-after pages k g

taken-at : (change : Change) → takes change ≡ true → (target : Copy) × (change ≡ TakesShared target)
taken-at (Migrates target) is = cc
taken-at (Replicates target) is = cc
taken-at Collapses is = cc
taken-at (Breaks target) is = cc
taken-at (TakesShared target) is = (target, refl)
taken-at (GivesShared target) is = cc

lets-go : (s : GuestState) (k : ℕ) (m : Move) (target : Copy) (end : End) → MayEnd s end → (page s k).move ≡ Some m → m.change ≡ TakesShared target → LetsGo s k (let_go s k target)
lets-go s k m target end may has is = record {
  not_ended = not-ended s end may;
  target = target;
  waiting = m.waiting;
  open_move = has ∙ (λ i. Some (record { change = is i; waiting = m.waiting }));
  early = λ none idle. still-waits s k m end may has none idle;
  after = refl;
}

before-next : (s : GuestState) (k : ℕ) → ((r : ℕ) → r < k → is_taking (page s r).move ≡ false) → is_taking (page s k).move ≡ false → (r : ℕ) → r < suc k → is_taking (page s r).move ≡ false
before-next s k before here r lt = elim (cases_lt r k) [
  | inl less ↦ before r less
  | inr not_less ↦ ap (λ (n : ℕ). is_taking (page s n).move) (let e : r ≡ k = omega (arith, lt, not_less) in e) ∙ here
]

before-gone : (s : GuestState) (k : ℕ) (target : Copy) → k < length s.pages → ((r : ℕ) → r < k → is_taking (page s r).move ≡ false) → (r : ℕ) → r < k → is_taking (page (let_go s k target) r).move ≡ false
before-gone s k target lt before r less = ap (λ (g : Page). is_taking g.move) (other-page s k r target (λ e. omega (arith, e, less))) ∙ before r less

-- the entries from one page on, where none before it is being taken shared
pub ends-from : (rest : List Page) (k : ℕ) (s : GuestState) (end : End) → drop k s.pages ≡ rest → ((r : ℕ) → r < k → is_taking (page s r).move ≡ false) → MayEnd s end
    → Run s (letting_go k rest ++ Ending end ∷ []) (ended end s)
ends-from [] k s end past before may = (s, ended end s, inl refl, record { may = may; takes_nothing = λ q. none-past s.pages k past q before; after = refl }, inl refl)
ends-from (g ∷ rest) k s end drops before may =
    let next = next-page s.pages rest k g drops in
    by g.move refl next (λ t e b may'. ends-from rest (suc k) t end e b may')
  where
    by : (move : Option Move) → g.move ≡ move → (page_at s.pages k ≡ g) × (k < length s.pages) × (drop (suc k) s.pages ≡ rest)
        → ((t : GuestState) → drop (suc k) t.pages ≡ rest → ((r : ℕ) → r < suc k → is_taking (page t r).move ≡ false) → MayEnd t end → Run t (letting_go (suc k) rest ++ Ending end ∷ []) (ended end t))
        → Run s ((if is_taking g.move then Finish (record { 0 = k }) ∷ letting_go (suc k) rest else letting_go (suc k) rest) ++ Ending end ∷ []) (ended end s)
    by None e next more =
        subst (λ (b : Bool). Run s ((if b then Finish (record { 0 = k }) ∷ letting_go (suc k) rest else letting_go (suc k) rest) ++ Ending end ∷ []) (ended end s)) (sym (ap is_taking e))
        (more s next.2 (before-next s k before (ap (λ (x : Page). is_taking x.move) next.0 ∙ ap is_taking e)) may)
    by (Some m) e next more = at (takes m.change) refl
      where
        has : (page s k).move ≡ Some m
        has = ap (λ (x : Page). x.move) next.0 ∙ e

        at : (b : Bool) → takes m.change ≡ b → Run s ((if is_taking g.move then Finish (record { 0 = k }) ∷ letting_go (suc k) rest else letting_go (suc k) rest) ++ Ending end ∷ []) (ended end s)
        at false apart =
            subst (λ (b : Bool). Run s ((if b then Finish (record { 0 = k }) ∷ letting_go (suc k) rest else letting_go (suc k) rest) ++ Ending end ∷ []) (ended end s)) (sym (ap is_taking e ∙ apart))
            (more s next.2 (before-next s k before (ap is_taking has ∙ apart)) may)
        at true is =
            let taken = taken-at m.change is in
            let t = let_go s k taken.0 in
            subst (λ (b : Bool). Run s ((if b then Finish (record { 0 = k }) ∷ letting_go (suc k) rest else letting_go (suc k) rest) ++ Ending end ∷ []) (ended end s)) (sym (ap is_taking e ∙ is)) (
              s,
              t,
              inl refl,
              inr (lets-go s k m taken.0 end may has taken.1),
              subst (Run t (letting_go (suc k) rest ++ Ending end ∷ [])) (ended-same s k taken.0 m end has next.1)
                  (more t (drop-after s.pages k (finished (TakesShared taken.0) (page s k)) ∙ next.2) (before-next t k (before-gone s k taken.0 next.1 before) (ap is_taking (own-page s k taken.0 next.1))) (may-still s k taken.0 end next.1 may)),
            )

-- what is left of a guest that has given up its pages
pub ends-state : (c d : Course) (end : End) → d ≡ record c { pmap = d.pmap; operations = d.operations; due = d.due; ended = Some end } → d.pmap.pages ≡ [] → d.pmap.spares ≡ [] → d.operations.items ≡ []
    → map due_of d.due.items ≡ map (without_moving c.pmap.pages) (map due_of c.due.items) → state_of d ≡ ended end (state_of c)
ends-state c d end same pages spares operations dues =
    ap state_of same ∙ (λ i. record (state_of c) { end = Some end; pages = pages i; operations = map purpose_of (operations i); spares = spares i; due = dues i })

pub ends-so : (s t : GuestState) (end : End) → MayEnd s end → t ≡ ended end s → EndsSo s end t
ends-so s t end may after = subst (EndsSo s end) (sym after) (ends-from s.pages 0 s end refl (λ r lt. absurd (omega (arith, lt))) may)

-- all but its pages, what is due of them and its end is as it was
pub ends-sound : (c d : Course) (end : End) → IsSound c → d ≡ record c { pmap = d.pmap; operations = d.operations; due = d.due; ended = Some end } → d.pmap.pages ≡ [] → length d.due.items ≡ length c.due.items → IsSound d
ends-sound c d end sound same pages dues =
    let sized = sound.sized in
    let few : length d.pmap.pages ≤ 2048 = subst (λ (l : List Page). length l ≤ 2048) (sym pages) (omega arith) in
    subst IsSound (sym same) (record {
      sized = record {
        some_vcpus = sized.some_vcpus;
        few_vcpus = sized.few_vcpus;
        blocks = sized.blocks;
        transfers = sized.transfers;
        seconds = sized.seconds;
        few_processors = sized.few_processors;
        due = dues ∙ sized.due;
        few_pages = few;
        cells = sized.cells;
        dead = sized.dead;
      };
      agree = sound.agree;
      loaded = sound.loaded;
      places = sound.places;
      in_hand = sound.in_hand;
      going = λ on. absurd (ended end on);
    })
  where
    ended : (e : End) → Some e ≡ None → ⊥
    ended e is = cc
