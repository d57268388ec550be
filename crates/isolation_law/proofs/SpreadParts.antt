-- A page's master, its replicas and the target of its Replicate lie on different nodes: page by page.
use Rattle.std.proofs.Common.{◌≡◌, ℕ, ◌==◌, Bool, true, false, if◌then◌else◌, ◌⊎◌, inl, inr, ⊎_elim, Option, Some, None, List, [], ◌∷◌, ◌++◌, length, map, refl, sym, ap, ◌∙◌, subst, arith, true≢false}
use Rattle.std.proofs.lemmas.Bool.{eq-eqb, eqb-true, or_parts}
use Rattle.std.proofs.lemmas.List.{append-nil, map-append}
use Rattle.std.specs.Prelude.{option_map}
use Rattle.std.specs.List.{list_any}
use Rattle.base_words.specs.Memory.{with_word}
use Rattle.base_words.specs.Membership.{Has}
use Rattle.private_machine.specs.Backing.{node_of_frame, Copy, Change, Migrates, Replicates, Collapses, Breaks, TakesShared, GivesShared, Move, Page, copies, with_bytes, stored_in, stored_through, lies_on}
use Rattle.private_machine.specs.Operation.{Packet as InHand, Operation}
use Rattle.private_machine.specs.PageMove.{acknowledged, left_by, kind_of, begun, finished, taken}
use Rattle.isolation_law.specs.Causes.{first_cause}
use Rattle.private_machine.specs.DeviceAct.{Act, StoresTo, ReadsDisk, WritesDisk, SendsPage, WritesEntry, NoAct}
use Rattle.isolation_law.specs.PageRules.{PageRule, ChangeRule, Sources}
use Rattle.isolation_law.specs.GuestState.{GuestState, page}
use Rattle.isolation_law.specs.Holdings.{AllDifferent, coming, coming_to, nodes_of}
use Rattle.isolation_law.specs.MoveRows.{Asks, Fits, StepLoses}
use Rattle.isolation_law.specs.Needs.{none_of, for_change, needed, for_packet}
use Rattle.isolation_law.specs.Parts.{Wish}
use Rattle.isolation_law.specs.StepAct.{at_hand}
use Rattle.isolation_law.specs.Surroundings.{Surroundings}
use Rattle.base_words.specs.declared.moves.By.{By}
use Rattle.base_words.specs.declared.moves.By.TheVariants.{Plan, Due, Step, Packet}
use Rattle.base_words.specs.declared.moves.MoveKind.{MoveKind}
use Rattle.base_words.specs.declared.moves.MoveKind.TheVariants.{Migrate, Replicate, Collapse, Break, TakeShared, GiveShared}
use Rattle.isolation_law.proofs.FinishProofs.{open_rule}

-- a page that migrates has no replicas, too
abbrev pub migrates : Change → Bool
migrates (Migrates target) = true
migrates (Replicates target) = false
migrates Collapses = false
migrates (Breaks target) = false
migrates (TakesShared target) = false
migrates (GivesShared target) = false

abbrev pub is_migrating : Option Move → Bool
is_migrating None = false
is_migrating (Some m) = migrates m.change

abbrev pub Spread : Surroundings → Page → Type 0
Spread w g = AllDifferent (nodes_of w g) × (is_migrating g.move ≡ true → g.replicas ≡ [])

abbrev node : Surroundings → Copy → ℕ
node w c = node_of_frame w.frames c.frame

-- who leaves
pub left-spread : (w : Surroundings) (p : ℕ) (g : Page) → Spread w g → Spread w (left_by p g)
left-spread w p g old =
    (subst (λ (l : List Copy). AllDifferent (map (λ c. node_of_frame w.frames c.frame) (copies g ++ l))) (sym (same g.move)) old.0, λ is. old.1 (sym (still g.move) ∙ is))
  where
    same : (o : Option Move) → coming_to (option_map (acknowledged p) o) ≡ coming_to o
    same None = refl
    same (Some m) = refl

    still : (o : Option Move) → is_migrating (option_map (acknowledged p) o) ≡ is_migrating o
    still None = refl
    still (Some m) = refl

-- a store
stored-nodes : (w : Surroundings) (cs : List Copy) (frame o v : ℕ) → map (λ c. node_of_frame w.frames c.frame) (stored_in cs frame o v) ≡ map (λ c. node_of_frame w.frames c.frame) cs
stored-nodes w [] frame o v = refl
stored-nodes w (c ∷ cs) frame o v = elim (c.frame == frame) as (λ b. map (λ x. node_of_frame w.frames x.frame) (if b then with_bytes (with_word c.bytes o v) c ∷ cs else c ∷ stored_in cs frame o v) ≡ node_of_frame w.frames c.frame ∷ map (λ x. node_of_frame w.frames x.frame) cs) [
  | true ↦ refl
  | false ↦ ap (λ (l : List ℕ). node_of_frame w.frames c.frame ∷ l) (stored-nodes w cs frame o v)
]

pub stored-spread : (w : Surroundings) (g : Page) (frame o v : ℕ) → Spread w g → Spread w (stored_through g frame o v)
stored-spread w g frame o v old = by (g.master.frame == frame)
  where
    nodes : map (λ (c : Copy). node_of_frame w.frames c.frame) (stored_in g.replicas frame o v ++ coming_to g.move) ≡ map (λ (c : Copy). node_of_frame w.frames c.frame) (g.replicas ++ coming_to g.move)
    nodes = map-append (λ (c : Copy). node_of_frame w.frames c.frame) (stored_in g.replicas frame o v) (coming_to g.move)
        ∙ ap (λ (l : List ℕ). l ++ map (λ (c : Copy). node_of_frame w.frames c.frame) (coming_to g.move)) (stored-nodes w g.replicas frame o v)
        ∙ sym (map-append (λ (c : Copy). node_of_frame w.frames c.frame) g.replicas (coming_to g.move))

    by : (b : Bool) → Spread w (if b then record g { master = with_bytes (with_word g.master.bytes o v) g.master } else record g { replicas = stored_in g.replicas frame o v })
    by true = old
    by false = (subst (λ (l : List ℕ). AllDifferent (node_of_frame w.frames g.master.frame ∷ l)) (sym nodes) old.0, λ is. ap (λ (l : List Copy). stored_in l frame o v) (old.1 is))

-- a move begins: what its kind needs of the page
abbrev pub PlaceFits : Surroundings → Page → MoveKind → ℕ → Type 0
PlaceFits w g Migrate n = none_of g.replicas ≡ true
PlaceFits w g Replicate n = list_any (lies_on w.frames n) (copies g) ≡ false
PlaceFits w g Collapse n = Unit {0}
PlaceFits w g Break n = Unit {0}
PlaceFits w g TakeShared n = Unit {0}
PlaceFits w g GiveShared n = Unit {0}

cause-fits : (s : GuestState) (p : ℕ) (wish : Wish) → first_cause s p wish ≡ None → PlaceFits s.around (page s wish.page) wish.kind wish.node
cause-fits s p wish none = by wish.kind refl
  where
    by : (k : MoveKind) → wish.kind ≡ k → PlaceFits s.around (page s wish.page) k wish.node
    by Migrate is = grind arith
    by Replicate is = grind arith
    by Collapse is = tt
    by Break is = tt
    by TakeShared is = tt
    by GiveShared is = tt

-- no step and no packet needs a Migrate or a Replicate
abbrev IsNeeded : MoveKind → Type 0
IsNeeded Migrate = ⊥
IsNeeded Replicate = ⊥
IsNeeded k = Unit {0}

for_change-needed : (s : GuestState) (q r : ℕ) (k : MoveKind) (o : Option Operation) → for_change s q ≡ Some (record { page = r; kind = k; operation = o }) → IsNeeded k
for_change-needed s q r k o needs = grind arith

step-needed : (s : GuestState) (v : ℕ) (shares : Bool) (act : Act) (r : ℕ) (k : MoveKind) (o : Option Operation) → needed s v shares act ≡ Some (record { page = r; kind = k; operation = o }) → IsNeeded k
step-needed s v shares (StoresTo q) r k o needs = for_change-needed s q r k o needs
step-needed s v shares (ReadsDisk b q) r k o needs = grind (arith, for_change-needed s q r k o)
step-needed s v shares (WritesDisk b q) r k o needs = cc
step-needed s v shares (SendsPage q length to) r k o needs = grind arith
step-needed s v shares (WritesEntry index) r k o needs = cc
step-needed s v shares NoAct r k o needs = cc

collapse-needed : (k : MoveKind) → k ≡ Collapse → IsNeeded k
collapse-needed k is = subst IsNeeded (sym is) tt

packet-needed : (s : GuestState) (shares : Bool) (packet : InHand) (q r : ℕ) (k : MoveKind) (o : Option Operation) → for_packet s shares packet q ≡ Some (record { page = r; kind = k; operation = o }) → IsNeeded k
packet-needed s shares packet q r k o needs = grind (arith, for_change-needed s q r k o)

needed-place : (w : Surroundings) (g : Page) (k : MoveKind) (n : ℕ) → IsNeeded k → PlaceFits w g k n
needed-place w g Migrate n is = absurd is
needed-place w g Replicate n is = absurd is
needed-place w g Collapse n is = tt
needed-place w g Break n is = tt
needed-place w g TakeShared n is = tt
needed-place w g GiveShared n is = tt

pub asks-place : (s : GuestState) (by : By) (wish : Wish) (o : Option Operation) → Asks s by wish o → PlaceFits s.around (page s wish.page) wish.kind wish.node
asks-place s (Plan p) wish o asks = cause-fits s p.0 wish asks.1
asks-place s (Due p) wish o asks = cause-fits s p.0 wish asks.1
asks-place s (Step p) wish o asks = needed-place s.around (page s wish.page) wish.kind wish.node (⊎_elim
    (step-needed s asks.v asks.shares (at_hand s asks.v) wish.page wish.kind o)
    (λ (lost : StepLoses s p.0 asks.v wish o). collapse-needed wish.kind lost.is_collapse)
    asks.needs)
asks-place s Packet wish o asks = needed-place s.around (page s wish.page) wish.kind wish.node (packet-needed s asks.shares asks.packet wish.page wish.page wish.kind o asks.needs)

-- lists
append-different : (ns : List ℕ) (n : ℕ) → AllDifferent ns → (Has ns n → ⊥) → AllDifferent (ns ++ n ∷ [])
append-different [] n all other = (λ h. h, tt)
append-different (m ∷ ns) n all other = (
  λ has. ⊎_elim (λ (x : Has ns m). all.0 x) (λ (x : Has (n ∷ []) m). ⊎_elim (λ (is : n ≡ m). other (inl (sym is))) (λ none. none) x) (split ns m has),
  append-different ns n all.1 (λ has. other (inr has)),
)
  where
    split : (ns : List ℕ) (m : ℕ) → Has (ns ++ n ∷ []) m → Has ns m ⊎ Has (n ∷ []) m
    split [] m has = inr has
    split (k ∷ ns) m has = ⊎_elim (λ (is : k ≡ m). inl (inl is)) (λ later. ⊎_elim (λ (x : Has ns m). inl (inr x)) (λ (x : Has (n ∷ []) m). inr x) (split ns m later)) has

not-on : (w : Surroundings) (n : ℕ) (cs : List Copy) → list_any (lies_on w.frames n) cs ≡ false → Has (map (λ c. node_of_frame w.frames c.frame) cs) n → ⊥
not-on w n [] off has = has
not-on w n (c ∷ cs) off has =
    let parts = or_parts (lies_on w.frames n c) (list_any (lies_on w.frames n) cs) off in
    ⊎_elim (λ (is : node_of_frame w.frames c.frame ≡ n). true≢false (sym (eq-eqb (node_of_frame w.frames c.frame) n is) ∙ parts.0)) (λ later. not-on w n cs parts.1 later) has

none-is : (cs : List Copy) → none_of cs ≡ true → cs ≡ []
none-is [] e = refl
none-is (c ∷ cs) e = cc

-- a move begins on a page without one
pub begun-spread : (s : GuestState) (g : Page) (n : ℕ) (change : Change) (operation : Option Operation) (rest : List Copy) → Spread s.around g → g.move ≡ None → PlaceFits s.around g (kind_of change) n → Fits s n change operation rest → Spread s.around (begun change g)
begun-spread s g n change operation rest old free place fits = by change place fits
  where
    w : Surroundings
    w = s.around

    ones : AllDifferent (map (λ (c : Copy). node_of_frame w.frames c.frame) (copies g))
    ones = subst (λ (l : List Copy). AllDifferent (map (λ c. node_of_frame w.frames c.frame) l)) (append-nil (copies g)) (subst (λ (o : Option Move). AllDifferent (map (λ c. node_of_frame w.frames c.frame) (copies g ++ coming_to o))) free old.0)

    plain : AllDifferent (map (λ (c : Copy). node_of_frame w.frames c.frame) (copies g ++ []))
    plain = subst (λ (o : Option Move). AllDifferent (map (λ c. node_of_frame w.frames c.frame) (copies g ++ coming_to o))) free old.0

    never : {A : Type 0} → false ≡ true → A
    never e = absurd (true≢false (sym e))

    by : (change : Change) → PlaceFits w g (kind_of change) n → Fits s n change operation rest → Spread w (begun change g)
    by (Migrates target) place fits = (plain, λ is. none-is g.replicas place)
    by (Replicates target) place fits = (
      subst AllDifferent (sym (map-append (λ (c : Copy). node_of_frame w.frames c.frame) (copies g) (target ∷ [])))
          (append-different (map (λ (c : Copy). node_of_frame w.frames c.frame) (copies g)) (node_of_frame w.frames target.frame) ones
          (λ has. not-on w n (copies g) place (subst (Has (map (λ (c : Copy). node_of_frame w.frames c.frame) (copies g))) (eqb-true (node_of_frame w.frames target.frame) n fits.0) has))),
      λ is. never is,
    )
    by Collapses place fits = (plain, λ is. never is)
    by (Breaks target) place fits = (plain, λ is. never is)
    by (TakesShared target) place fits = (plain, λ is. never is)
    by (GivesShared target) place fits = (plain, λ is. never is)

-- a page that is its master alone
alone-spread : (w : Surroundings) (g : Page) → g.replicas ≡ [] → g.move ≡ None → Spread w g
alone-spread w g none free = (subst (λ (x : List Copy × Option Move). AllDifferent (map (λ c. node_of_frame w.frames c.frame) (g.master ∷ x.0 ++ coming_to x.1))) (λ i. (sym none i, sym free i)) (λ h. h, tt), λ is. none)

pub taken-spread : (w : Surroundings) (g : Page) (target : Copy) → Spread w (taken target g)
taken-spread w g target = alone-spread w (taken target g) refl refl

pub finished-spread : (w : Surroundings) (from : Sources) (processors : ℕ) (op : Option Operation) (g : Page) (m : Move) → PageRule from processors op g → g.move ≡ Some m → Spread w g → Spread w (finished m.change g)
finished-spread w from processors op g m rule is old = by m.change (subst (λ (o : Option Move). AllDifferent (map (λ c. node_of_frame w.frames c.frame) (copies g ++ coming_to o)) × (is_migrating o ≡ true → g.replicas ≡ [])) is old) (open_rule from op g m rule.moves is).1
  where
    never : {A : Type 0} → false ≡ true → A
    never e = absurd (true≢false (sym e))

    by : (change : Change) → AllDifferent (map (λ (c : Copy). node_of_frame w.frames c.frame) (copies g ++ coming change)) × (migrates change ≡ true → g.replicas ≡ []) → ChangeRule from op g.shared change → Spread w (finished change g)
    by (Migrates target) old rule_of = alone-spread w (finished (Migrates target) g) (old.1 refl) refl
    by (Replicates target) old rule_of = (
      subst (λ (l : List ℕ). AllDifferent (node_of_frame w.frames g.master.frame ∷ l))
          (map-append (λ (c : Copy). node_of_frame w.frames c.frame) g.replicas (target ∷ []) ∙ sym (map-append (λ (c : Copy). node_of_frame w.frames c.frame) g.replicas (with_bytes g.master.bytes target ∷ [])) ∙ ap (map (λ (c : Copy). node_of_frame w.frames c.frame)) (sym (append-nil (g.replicas ++ with_bytes g.master.bytes target ∷ []))))
          old.0,
      λ is. never is,
    )
    by Collapses old rule_of = alone-spread w (finished Collapses g) refl refl
    by (Breaks target) old rule_of = alone-spread w (finished (Breaks target) g) (rule.single rule_of) refl
    by (TakesShared target) old rule_of = (old.0, λ is. never is)
    by (GivesShared target) old rule_of = alone-spread w (finished (GivesShared target) g) refl refl
