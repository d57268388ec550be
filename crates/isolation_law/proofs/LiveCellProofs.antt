-- No cell that has failed is used, but the one by which the guest has to end: what it is by parts, and that each row keeps it.
use Rattle.std.proofs.Common.{◌≡◌, ◌≢◌, ℕ, zero, suc, ◌+◌, ◌<◌, ◌==◌, Bool, true, false, ◌&&◌, ◌||◌, ◌⊎◌, inl, inr, ⊎_elim, if◌then◌else◌, Option, Some, None, List, [], ◌∷◌, ◌++◌, length, set, get_or, refl, sym, ap, ◌∙◌, subst, arith, true≢false, get_or-set_other, ◌≤◌}
use Rattle.std.proofs.lemmas.Bool.{and_parts, or_left, or_right, cases_eq, eqb-true, eq-eqb}
use Rattle.std.proofs.lemmas.List.{get_or_past}
use Rattle.std.specs.Prelude.{flat_map, is_some, is_none}
use Rattle.std.specs.List.{list_any}
use Rattle.base_words.specs.declared.events.End.{End}
use Rattle.base_words.specs.declared.events.End.TheVariants.{Halted, Budget, CellFailed}
use Rattle.base_words.specs.declared.events.Event.{Event}
use Rattle.base_words.specs.declared.events.Event.TheVariants.{Load, Unload, Direct, Refill, Emulate, Begin, Ack, Finish, PacketIn, Discard, Skip, CellFails, End as Ending}
use Rattle.base_words.specs.Membership.{Has}
use Rattle.private_machine.specs.Backing.{Copy, TakesShared, Move, Page, no_page, with_first}
use Rattle.isolation_law.specs.Surroundings.{Surroundings, cell_of_frame, cell_of_processor}
use Rattle.isolation_law.specs.Parts.{Processor}
use Rattle.isolation_law.specs.GuestState.{GuestState, idle, page, processor, is_dead}
use Rattle.private_machine.specs.PageMove.{used_for}
use Rattle.isolation_law.specs.CellUse.{used_frames, lies_in, loaded_in, uses}
use Rattle.isolation_law.specs.Phases.{all_halted, owed, lingers, GoesOn}
use Rattle.isolation_law.specs.StepAct.{at_hand}
use Rattle.isolation_law.specs.StepRows.{Emulates, EndsRead}
use Rattle.isolation_law.specs.MoveRows.{Finishes}
use Rattle.isolation_law.specs.PacketRows.{ComesToHand, Receives, EndsDelivery}
use Rattle.isolation_law.specs.EndRows.{CellFailsIn, LetsGo}
use Rattle.isolation_law.specs.MachineEvent.{Row}
use Rattle.isolation_law.specs.LiveCells.{UsesLive}
use Rattle.isolation_law.proofs.Lists.{at_set}
use Rattle.isolation_law.proofs.LiveParts.{HasFrame, Lives, LiveParts, Alive}
use Rattle.isolation_law.proofs.LiveRows.{page-lives, loads-live, unloads-live, refills-live, acks-live, steps-live, act-live, taken-live, begins-live, done-live}
use Rattle.isolation_law.proofs.ClosingProofs.{stays-owed}

-- a list
any-true : {A : Type 0} (test : A → Bool) (xs : List A) (x : A) → Has xs x → test x ≡ true → list_any test xs ≡ true
any-true test [] x has e = absurd has
any-true {A} test (y ∷ ys) x has e = ⊎_elim
    (λ (is : y ≡ x). or_left (test y) (list_any test ys) (subst (λ (z : A). test z ≡ true) (sym is) e))
    (λ later. or_right (test y) (list_any test ys) (any-true test ys x later e)) has

any-has : {A : Type 0} (test : A → Bool) (xs : List A) → list_any test xs ≡ true → (x : A) × Has xs x × (test x ≡ true)
any-has test [] e = cc
any-has {A} test (y ∷ ys) e = (elim (test y) as (λ b. test y ≡ b → (b || list_any test ys) ≡ true → (x : A) × Has (y ∷ ys) x × (test x ≡ true)) [
  | true ↦ λ is e. (y, inl refl, is)
  | false ↦ λ is e. let r = any-has test ys e in (r.0, inr r.1, r.2)
]) refl e

-- frames, and where they stand
frame-copy : (cs : List Copy) (f : ℕ) → HasFrame cs f → (x : Copy) × Has cs x × (x.frame ≡ f)
frame-copy [] f has = absurd has
frame-copy (c ∷ cs) f has = ⊎_elim (λ (is : c.frame ≡ f). (c, inl refl, is)) (λ later. let r = frame-copy cs f later in (r.0, inr r.1, r.2)) has

copy-frame : (cs : List Copy) (x : Copy) → Has cs x → HasFrame cs x.frame
copy-frame [] x has = absurd has
copy-frame (c ∷ cs) x has = ⊎_elim (λ (is : c ≡ x). inl (ap (λ (z : Copy). z.frame) is)) (λ later. inr (copy-frame cs x later)) has

pub Has-left : (cs ds : List Copy) (x : Copy) → Has cs x → Has (cs ++ ds) x
Has-left [] ds x has = absurd has
Has-left (c ∷ cs) ds x has = ⊎_elim (λ (is : c ≡ x). inl is) (λ later. inr (Has-left cs ds x later)) has

Has-right : (cs ds : List Copy) (x : Copy) → Has ds x → Has (cs ++ ds) x
Has-right [] ds x has = has
Has-right (c ∷ cs) ds x has = inr (Has-right cs ds x has)

Has-append : (cs ds : List Copy) (x : Copy) → Has (cs ++ ds) x → Has cs x ⊎ Has ds x
Has-append [] ds x has = inr has
Has-append (c ∷ cs) ds x has = ⊎_elim (λ (is : c ≡ x). inl (inl is)) (λ later. ⊎_elim (λ (y : Has cs x). inl (inr y)) (λ (y : Has ds x). inr y) (Has-append cs ds x later)) has

pub Has-flat : (frames_of : Page → List Copy) (gs : List Page) (q : ℕ) (x : Copy) → q < length gs → Has (frames_of (get_or gs q no_page)) x → Has (flat_map frames_of gs) x
Has-flat frames_of [] q x lt has = absurd (omega arith)
Has-flat frames_of (g ∷ gs) zero x lt has = Has-left (frames_of g) (flat_map frames_of gs) x has
Has-flat frames_of (g ∷ gs) (suc q) x lt has = Has-right (frames_of g) (flat_map frames_of gs) x (Has-flat frames_of gs q x (omega arith) has)

flat-has : (gs : List Page) (x : Copy) → Has (flat_map used_for gs) x → (q : ℕ) × (q < length gs) × Has (used_for (get_or gs q no_page)) x
flat-has [] x has = absurd has
flat-has (g ∷ gs) x has = ⊎_elim
    (λ (y : Has (used_for g) x). (0, omega arith, y))
    (λ (y : Has (flat_map used_for gs) x). let r = flat-has gs x y in let lt = r.1 in (suc r.0, omega arith, r.2))
    (Has-append (used_for g) (flat_map used_for gs) x has)

-- processors on which something is loaded
loaded-has : (w : Surroundings) (cell k : ℕ) (ps : List Processor) → loaded_in w cell k ps ≡ true → (p : ℕ) × (v : ℕ) × ((get_or ps p idle).loaded ≡ Some v) × (cell_of_processor w (k + p) ≡ cell)
loaded-has w cell k [] e = cc
loaded-has w cell k (x ∷ ps) e = (elim (is_some x.loaded && (cell_of_processor w k == cell)) as (λ b. (is_some x.loaded && (cell_of_processor w k == cell)) ≡ b → (b || loaded_in w cell (k + 1) ps) ≡ true
    → (p : ℕ) × (v : ℕ) × ((get_or (x ∷ ps) p idle).loaded ≡ Some v) × (cell_of_processor w (k + p) ≡ cell)) [
      | true ↦ λ is e.
          let parts = and_parts (is_some x.loaded) (cell_of_processor w k == cell) is in
          let at : k ≡ k + 0 = omega arith in
          let some = loaded x.loaded parts.0 in
          (0, some.0, some.1, ap (cell_of_processor w) (sym at) ∙ eqb-true (cell_of_processor w k) cell parts.1)
      | false ↦ λ is e.
          let r = loaded-has w cell (k + 1) ps e in
          let at : k + suc r.0 ≡ k + 1 + r.0 = omega arith in
          (suc r.0, r.1, r.2, ap (cell_of_processor w) at ∙ r.3)
    ]) refl e
  where
    loaded : (o : Option ℕ) → is_some o ≡ true → (v : ℕ) × (o ≡ Some v)
    loaded None e = cc
    loaded (Some v) e = (v, refl)

has-loaded : (w : Surroundings) (cell k : ℕ) (ps : List Processor) (p v : ℕ) → (get_or ps p idle).loaded ≡ Some v → cell_of_processor w (k + p) ≡ cell → loaded_in w cell k ps ≡ true
has-loaded w cell k [] p v is at = absurd (none is)
  where
    none : None ≡ Some v → ⊥
    none e = cc
has-loaded w cell k (x ∷ ps) zero v is at =
    let here : k + 0 ≡ k = omega arith in
    let same : (cell_of_processor w k == cell) ≡ true = eq-eqb (cell_of_processor w k) cell (ap (cell_of_processor w) (sym here) ∙ at) in
    rw (is, same) refl
has-loaded w cell k (x ∷ ps) (suc p) v is at =
    let here : k + 1 + p ≡ k + suc p = omega arith in
    or_right (is_some x.loaded && (cell_of_processor w k == cell)) (loaded_in w cell (k + 1) ps) (has-loaded w cell (k + 1) ps p v is (ap (cell_of_processor w) here ∙ at))

frame-used : (s : GuestState) (x : Copy) → s.end ≡ None → Has (used_frames s) x → uses s (cell_of_frame s.around x.frame) ≡ true
frame-used s x on has =
    let cell = cell_of_frame s.around x.frame in
    let any = any-true (lies_in s.around cell) (used_frames s) x has (eq-eqb cell cell refl) in
    rw (on, any) refl

processor-used : (s : GuestState) (p v : ℕ) → s.end ≡ None → (processor s p).loaded ≡ Some v → uses s (cell_of_processor s.around p) ≡ true
processor-used s p v on is =
    let cell = cell_of_processor s.around p in
    let at : 0 + p ≡ p = omega arith in
    let any = has-loaded s.around cell 0 s.processors p v is (ap (cell_of_processor s.around) at) in
    rw on (or_right (list_any (lies_in s.around cell) (used_frames s)) (loaded_in s.around cell 0 s.processors) any)

-- with these cells taken as failed, nothing that is used lies in one
abbrev pub AliveWith : GuestState → List Bool → Type 0
AliveWith s dead = LiveParts s.around dead s.pages s.spares s.processors

unused-alive : (s : GuestState) (dead : List Bool) → s.end ≡ None → ((c : ℕ) → uses s c ≡ true → get_or dead c false ≡ false) → AliveWith s dead
unused-alive s dead on live = record {
  on_pages = λ q f lt has. let r = frame-copy (used_for (page s q)) f has in
      subst (Lives s.around dead) r.2 (copy r.0 (Has-left (flat_map used_for s.pages) s.spares r.0 (Has-flat used_for s.pages q r.0 lt r.1)));
  on_spares = λ f has. let r = frame-copy s.spares f has in subst (Lives s.around dead) r.2 (copy r.0 (Has-right (flat_map used_for s.pages) s.spares r.0 r.1));
  on_processors = λ p v is. live (cell_of_processor s.around p) (processor-used s p v on is);
}
  where
    copy : (x : Copy) → Has (used_frames s) x → Lives s.around dead x.frame
    copy x has = live (cell_of_frame s.around x.frame) (frame-used s x on has)

pub alive-unused : (t : GuestState) (dead : List Bool) (c : ℕ) → AliveWith t dead → get_or dead c false ≡ true → uses t c ≡ true → ⊥
alive-unused t dead c co failed used =
    let some = (and_parts (is_none t.end) (list_any (lies_in t.around c) (used_frames t) || loaded_in t.around c 0 t.processors) used).1 in
    by (list_any (lies_in t.around c) (used_frames t)) refl some
  where
    copy : (x : Copy) → Has (used_frames t) x → Lives t.around dead x.frame
    copy x has = ⊎_elim
        (λ (y : Has (flat_map used_for t.pages) x). let r = flat-has t.pages x y in co.on_pages r.0 x.frame r.1 (copy-frame (used_for (page t r.0)) x r.2))
        (λ (y : Has t.spares x). co.on_spares x.frame (copy-frame t.spares x y))
        (Has-append (flat_map used_for t.pages) t.spares x has)

    by : (b : Bool) → list_any (lies_in t.around c) (used_frames t) ≡ b → (b || loaded_in t.around c 0 t.processors) ≡ true → ⊥
    by true is some =
        let r = any-has (lies_in t.around c) (used_frames t) is in
        let at : cell_of_frame t.around r.0.frame ≡ c = eqb-true (cell_of_frame t.around r.0.frame) c r.2 in
        true≢false (sym failed ∙ ap (λ (k : ℕ). get_or dead k false) (sym at) ∙ copy r.0 r.1)
    by false is some =
        let r = loaded-has t.around c 0 t.processors some in
        let at : 0 + r.0 ≡ r.0 = omega arith in
        true≢false (sym failed ∙ ap (λ (k : ℕ). get_or dead k false) (sym r.3 ∙ ap (cell_of_processor t.around) at) ∙ co.on_processors r.0 r.1 r.2)

-- the cell by which a guest has to end
abbrev pub failed : ℕ → End
failed c = CellFailed (record { 0 = c })

abbrev cell_in : Option End → ℕ
cell_in None = 0
cell_in (Some Halted) = 0
cell_in (Some Budget) = 0
cell_in (Some (CellFailed c)) = c.0

pub failed-same : (c d : ℕ) → Some (failed c) ≡ Some (failed d) → c ≡ d
failed-same c d e = ap cell_in e

used-ends : (s : GuestState) (c : ℕ) → uses s c ≡ true → s.end ≡ None
used-ends s c used = by s.end (and_parts (is_none s.end) (list_any (lies_in s.around c) (used_frames s) || loaded_in s.around c 0 s.processors) used).0
  where
    by : (o : Option End) → is_none o ≡ true → o ≡ None
    by None e = refl
    by (Some end) e = cc

-- all that is used lives, or all but one cell does
abbrev pub LivesBut : GuestState → Type 0
LivesBut s = s.end ≡ None → Alive s ⊎ ((c : ℕ) × (owed s ≡ Some (failed c)) × AliveWith s (set s.dead c false))

pub lives-but : (s : GuestState) → UsesLive s → LivesBut s
lives-but s live on = by (owed s) refl
  where
    plain : ((c : ℕ) → owed s ≡ Some (failed c) → ⊥) → Alive s
    plain other = unused-alive s s.dead on (λ c used. (elim (is_dead s c) as (λ b. is_dead s c ≡ b → b ≡ false) [ true ↦ λ dead. absurd (other c (live c dead used)) | false ↦ λ dead. refl ]) refl)

    but : (c : ℕ) → owed s ≡ Some (failed c) → AliveWith s (set s.dead c false)
    but c is = unused-alive s (set s.dead c false) on (λ d used. ⊎_elim
        (λ (x : (d ≡ c) × (c < length s.dead) × (get_or (set s.dead c false) d false ≡ false)). x.2)
        (λ (x : ((d ≡ c) → length s.dead ≤ c) × (get_or (set s.dead c false) d false ≡ get_or s.dead d false)). x.1 ∙ (elim (is_dead s d) as (λ b. is_dead s d ≡ b → b ≡ false) [
          | true ↦ λ dead. absurd (true≢false (sym dead ∙ past s.dead d (subst (λ (k : ℕ). length s.dead ≤ k) (sym (here d dead used)) (x.0 (here d dead used)))))
          | false ↦ λ dead. refl
        ]) refl)
        (at_set s.dead c false false d))
      where
        here : (d : ℕ) → is_dead s d ≡ true → uses s d ≡ true → d ≡ c
        here d dead used = failed-same d c (sym (live d dead used) ∙ is)

        past : (xs : List Bool) (d : ℕ) → length xs ≤ d → get_or xs d false ≡ false
        past xs d ge = get_or_past xs d false ge

    by : (o : Option End) → owed s ≡ o → Alive s ⊎ ((c : ℕ) × (owed s ≡ Some (failed c)) × AliveWith s (set s.dead c false))
    by None is = inl (plain (λ c e. no-end c (sym is ∙ e)))
      where
        no-end : (c : ℕ) → None ≡ Some (failed c) → ⊥
        no-end c e = cc
    by (Some Halted) is = inl (plain (λ c e. other c (sym is ∙ e)))
      where
        other : (c : ℕ) → Some Halted ≡ Some (failed c) → ⊥
        other c e = cc
    by (Some Budget) is = inl (plain (λ c e. other c (sym is ∙ e)))
      where
        other : (c : ℕ) → Some Budget ≡ Some (failed c) → ⊥
        other c e = cc
    by (Some (CellFailed c)) is = inr (c.0, is, but c.0 is)

pub uses-live : (s : GuestState) → LivesBut s → UsesLive s
uses-live s lives c dead used = ⊎_elim
    (λ (co : Alive s). absurd (alive-unused s s.dead c co dead used))
    (λ (x : (d : ℕ) × (owed s ≡ Some (failed d)) × AliveWith s (set s.dead d false)). ⊎_elim
    (λ (is : c ≡ x.0). x.1 ∙ ap (λ (k : ℕ). Some (failed k)) (sym is))
    (λ (other : c ≢ x.0). absurd (alive-unused s (set s.dead x.0 false) c x.2 (get_or-set_other s.dead x.0 c false false other ∙ dead) used))
    (cases_eq c x.0))
    (lives (used-ends s c used))

pub goes-on-alive : (s : GuestState) → UsesLive s → GoesOn s → Alive s
goes-on-alive s live on = ⊎_elim (λ (co : Alive s). co) (λ (x : (c : ℕ) × (owed s ≡ Some (failed c)) × AliveWith s (set s.dead c false)). absurd (none x.0 (sym on.owes_no_end ∙ x.1))) (lives-but s live on.not_ended)
  where
    none : (c : ℕ) → None ≡ Some (failed c) → ⊥
    none c e = cc

pub alive-live : (s : GuestState) → Alive s → UsesLive s
alive-live s co = uses-live s (λ on. inl co)

-- a guest that has ended uses nothing
pub ended-live : (s : GuestState) (end : End) → s.end ≡ Some end → UsesLive s
ended-live s end is c dead used = absurd (some-none (sym is ∙ used-ends s c used))
  where
    some-none : Some end ≡ None → ⊥
    some-none e = cc

-- what a failure leaves owed
pub owes-by-use : (s t : GuestState) (c : ℕ) → GoesOn s → CellFailsIn s c t → owed t ≡ (if uses s c then Some (failed c) else None)
owes-by-use s t c on row = ap owed row.after ∙ by (all_halted s.vcpus) s.closing on.owes_no_end
  where
    by : (b : Bool) (o : Option End) → (if b then Some Halted else o) ≡ None → (if b then Some Halted else (if uses s c then Some (failed c) else o)) ≡ (if uses s c then Some (failed c) else None)
    by true o e = cc
    by false o e = ap (λ (x : Option End). if uses s c then Some (failed c) else x) e

fails-live : (s t : GuestState) (c : ℕ) → UsesLive s → GoesOn s → CellFailsIn s c t → UsesLive t
fails-live s t c live on row d dead used =
    let was : uses s d ≡ true = sym (ap (λ (x : GuestState). uses x d) row.after) ∙ used in
    let dead_at : get_or (set s.dead c true) d false ≡ true = sym (ap (λ (x : GuestState). is_dead x d) row.after) ∙ dead in
    ⊎_elim
    (λ (is : d ≡ c). owes-by-use s t c on row ∙ subst (λ (k : ℕ). (if uses s k then Some (failed k) else None) ≡ Some (failed d)) is (by d was))
    (λ (other : d ≢ c). absurd (alive-unused s s.dead d (goes-on-alive s live on) (sym (get_or-set_other s.dead c d true false other) ∙ dead_at) was))
    (cases_eq d c)
  where
    by : (k : ℕ) → uses s k ≡ true → (if uses s k then Some (failed k) else None) ≡ Some (failed k)
    by k e = rw e refl

late-live : (s t : GuestState) → lingers s.end ≡ true → t.end ≡ s.end → UsesLive t
late-live s t late same = by s.end late same
  where
    by : (o : Option End) → lingers o ≡ true → t.end ≡ o → UsesLive t
    by None late is = cc
    by (Some end) late is = ended-live t end is

pub hand-live : (s t : GuestState) → UsesLive s → ComesToHand s t → UsesLive t
hand-live s t live row = subst UsesLive (sym row.after) live

lets-go-live : (s t : GuestState) (q : ℕ) → UsesLive s → LetsGo s q t → UsesLive t
lets-go-live s t q live row =
    let m : Move = record { change = TakesShared row.target; waiting = row.waiting } in
    uses-live t (λ on. ⊎_elim
    (λ (co : Alive s). inl (subst Alive (sym row.after) (done-live s q m co row.open_move)))
    (λ (x : (c : ℕ) × (owed s ≡ Some (failed c)) × AliveWith s (set s.dead c false)).
    let less : GuestState = record s { dead = set s.dead x.0 false } in
    inr (x.0, stays-owed s t q (failed x.0) row x.1, subst (λ (u : GuestState). AliveWith u (set u.dead x.0 false)) (sym row.after) (done-live less q m x.2 row.open_move)))
    (lives-but s live row.not_ended))

pub row-live : (s t : GuestState) (e : Event) → UsesLive s → Row s e t → UsesLive t
row-live s t (Load p v) live row = alive-live t (loads-live s t p.0 v.0 (goes-on-alive s live row.goes_on) row)
row-live s t (Unload p) live row = ⊎_elim
    (λ (on : GoesOn s). alive-live t (unloads-live s t p.0 (goes-on-alive s live on) row))
    (λ (late : lingers s.end ≡ true). late-live s t late (ap (λ (x : GuestState). x.end) row.after)) row.phase
row-live s t (Direct p v) live row = alive-live t (steps-live s t p.0 v.0 (goes-on-alive s live row.goes_on) row)
row-live s t (Refill p) live row = alive-live t (refills-live s t p.0 (goes-on-alive s live row.goes_on) row)
row-live s t (Emulate p v) live row = ⊎_elim
    (λ (x : Emulates s p.0 v.0 t). alive-live t (subst Alive (sym x.after) (act-live s p.0 v.0 (at_hand s v.0) (goes-on-alive s live x.traps.goes_on))))
    (λ (x : EndsRead s p.0 v.0 t). alive-live t (subst Alive (sym x.after) (taken-live s x.q x.target x.waiting (goes-on-alive s live x.traps.goes_on) x.open_move)))
    row
row-live s t (Begin q kind node by) live row = alive-live t (begins-live s t q.0 kind node.0 by (goes-on-alive s live row.goes_on) row)
row-live s t (Ack p q) live row = alive-live t (acks-live s t p.0 q.0 (goes-on-alive s live row.goes_on) row)
row-live s t (Finish q) live row = ⊎_elim
    (λ (x : Finishes s q.0 t). alive-live t (subst Alive (sym x.after) (done-live s q.0 x.move (goes-on-alive s live x.goes_on) x.open_move)))
    (λ (x : LetsGo s q.0 t). lets-go-live s t q.0 live x)
    row
row-live s t (PacketIn k) live row = ⊎_elim
    (λ (x : Receives s k t). alive-live t (subst Alive (sym x.after) (page-lives s x.q (with_first x.packet.bytes (page s x.q)) (goes-on-alive s live x.delivered.goes_on) (λ f has. has))))
    (λ (x : EndsDelivery s k t). alive-live t (subst Alive (sym x.after) (taken-live s x.q x.target x.waiting (goes-on-alive s live x.delivered.goes_on) x.open_move)))
    row
row-live s t (Discard k) live row = alive-live t (subst Alive (sym row.after) (goes-on-alive s live row.goes_on))
row-live s t (Skip k) live row = ⊎_elim
    (λ (on : GoesOn s). alive-live t (subst Alive (sym row.after) (goes-on-alive s live on)))
    (λ (late : lingers s.end ≡ true). late-live s t late (ap (λ (x : GuestState). x.end) row.after)) row.phase
row-live s t (CellFails c) live row = ⊎_elim
    (λ (on : GoesOn s). fails-live s t c.0 live on row)
    (λ (late : lingers s.end ≡ true). late-live s t late (ap (λ (x : GuestState). x.end) row.after)) row.phase
row-live s t (Ending end) live row = ended-live t end (ap (λ (x : GuestState). x.end) row.after)

pub used-lives : (s : GuestState) (x : Copy) → Alive s → Has (used_frames s) x → is_dead s (cell_of_frame s.around x.frame) ≡ false
used-lives s x co has = ⊎_elim
    (λ (y : Has (flat_map used_for s.pages) x). let r = flat-has s.pages x y in co.on_pages r.0 x.frame r.1 (copy-frame (used_for (page s r.0)) x r.2))
    (λ (y : Has s.spares x). co.on_spares x.frame (copy-frame s.spares x y))
    (Has-append (flat_map used_for s.pages) s.spares x has)

-- the master of a page is used
pub master-lives : (s : GuestState) (q : ℕ) → Alive s → q < length s.pages → is_dead s (cell_of_frame s.around (page s q).master.frame) ≡ false
master-lives s q co lt = co.on_pages q (page s q).master.frame lt (inl refl)
