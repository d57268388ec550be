-- The frames by which a guest uses cells are held, and so are those of the machine that no longer tie it to one.
use Rattle.std.proofs.Common.{◌≡◌, ℕ, zero, suc, ◌+◌, ◌*◌, ◌<◌, ◌≤◌, ◌==◌, Bool, true, false, if◌then◌else◌, inl, ⊎_elim, Option, Some, None, option_map, List, [], ◌∷◌, ◌++◌, length, get_or, refl, sym, subst, length-append, append_assoc, arith}
use Rattle.std.specs.Option.{option_to_list, option_and_then}
use Rattle.std.specs.Prelude.{count_by, flat_map}
use Rattle.base_words.specs.Membership.{Has}
use Rattle.base_words.specs.declared.ids.FrameNo.{FrameNo}
use Rattle.cell_depend.specs.Counters.{UsesState}
use Rattle.frame_words.specs.declared.view.View.{View}
use Rattle.private_machine.specs.Backing.{Copy, Change, Migrates, Replicates, Collapses, Breaks, TakesShared, GivesShared, Move, Page, copies, no_page}
use Rattle.private_machine.specs.PageMove.{target_of, target_in, held_for, held_in, used_for, untied, untied_taken}
use Rattle.pmap_table.specs.Ending.{numbers_of}
use Rattle.isolation_law.specs.CellUse.{held, used_frames}
use Rattle.isolation_law.specs.Exchange.{count_of}
use Rattle.isolation_law.specs.GuestState.{GuestState, page}
use Rattle.isolation_law.specs.Holdings.{is_frame}
use Rattle.isolation_law.specs.Surroundings.{Surroundings}
use Rattle.guest_course.specs.Acting.{IsTaken}
use Rattle.guest_core.specs.Frames.{ToCountNoMore}
use Rattle.guest_core.specs.Holding.{IsHolding, frames_around}
use Rattle.guest_core.specs.Using.{CountsCopies}
use Rattle.guest_core.proofs.CopyLemmas.{count-append, count-cons}
use Rattle.guest_core.proofs.FoundLemmas.{has-counts}
use Rattle.guest_core.proofs.SpreadLemmas.{has-left, has-right}

-- ---- what is used is held

page-few : (test : ℕ → ℕ → Bool) (g : Page) → count_of test (used_for g) ≤ count_of test (held_for g)
page-few test g =
    let target = option_to_list (option_and_then target_in g.move) in
    let a = count-cons test g.master target in
    let b = count-cons test g.master (g.replicas ++ target) in
    let c = count-append test g.replicas target in omega arith

used-few : (test : ℕ → ℕ → Bool) (pages : List Page) → count_of test (flat_map used_for pages) ≤ count_of test (flat_map held_for pages)
used-few test [] = omega arith
used-few test (g ∷ pages) =
    let a = count-append test (used_for g) (flat_map used_for pages) in
    let b = count-append test (held_for g) (flat_map held_for pages) in
    let here = page-few test g in
    let rest = used-few test pages in omega arith

pub used-held : (s : GuestState) (frame : ℕ) → 0 < count_by (is_frame frame) (used_frames s) → 0 < count_by (is_frame frame) (held s)
used-held s frame some =
    let test : ℕ → ℕ → Bool = λ f g. f == frame in
    let a = count-append test (flat_map used_for s.pages) s.spares in
    let b = count-append test (flat_map held_for s.pages) s.spares in
    let few = used-few test s.pages in omega arith

-- a page has two such frames at most
pub few-used : (pages : List Page) → length (flat_map used_for pages) ≤ 2 * length pages
few-used [] = omega arith
few-used (g ∷ pages) =
    let split = length-append (used_for g) (flat_map used_for pages) in
    let one = at-most-one (option_and_then target_in g.move) in
    let rest = few-used pages in omega arith
  where
    at-most-one : (o : Option Copy) → length (option_to_list o) ≤ 1
    at-most-one None = omega arith
    at-most-one (Some c) = omega arith

-- ---- those that tie the guest to a cell no longer

held-has : (pages : List Page) (spares : List Copy) (q : ℕ) (c : Copy) → q < length pages → Has (held_for (get_or pages q no_page)) c → Has (held_in pages spares) c
held-has [] spares q c lt has = absurd (omega arith)
held-has (g ∷ pages) spares zero c lt has = has-left (held_for g ++ flat_map held_for pages) spares c (has-left (held_for g) (flat_map held_for pages) c has)
held-has (g ∷ pages) spares (suc q) c lt has =
    let later = held-has pages spares q c (omega arith) has in
    subst (λ (l : List Copy). Has l c) (sym (append_assoc (held_for g) (flat_map held_for pages) spares)) (has-right (held_for g) (held_in pages spares) c later)

untied-in : (g : Page) (change : Change) (c : Copy) → Has (untied g change) c → Has (copies g ++ option_to_list (target_of change)) c
untied-in g (Migrates target) c has = ⊎_elim (λ (is : g.master ≡ c). inl is) (λ none. absurd none) has
untied-in g (Replicates target) c has = has-right (copies g) (target ∷ []) c has
untied-in g Collapses c has = absurd has
untied-in g (Breaks target) c has = ⊎_elim (λ (is : g.master ≡ c). inl is) (λ none. absurd none) has
untied-in g (TakesShared target) c has = has-right (copies g) (target ∷ []) c has
untied-in g (GivesShared target) c has = absurd has

-- they are the machine's, as all that is held
pub untied-within : (s : GuestState) (q : ℕ) (m : Move) (v : View) → q < length s.pages → (page s q).move ≡ Some m → IsHolding s v → (c : Copy) → Has (untied (page s q) m.change) c → c.frame < frames_around s.around
untied-within s q m v lt is h c has =
    let g = page s q in
    let there : Has (held_for g) c = subst (λ (o : Option Move). Has (copies g ++ option_to_list (option_and_then target_in o)) c) (sym is) (untied-in g m.change c has) in
    h.within c.frame (has-counts (held s) c (held-has s.pages s.spares q c lt there))

pub taken-within : (s : GuestState) (q : ℕ) (v : View) → q < length s.pages → IsHolding s v → (c : Copy) → Has (untied_taken (page s q)) c → c.frame < frames_around s.around
taken-within s q v lt h c has = h.within c.frame (has-counts (held s) c (held-has s.pages s.spares q c lt (by (page s q).shared has)))
  where
    by : (b : Bool) → Has (if b then (page s q).master ∷ [] else []) c → Has (held_for (page s q)) c
    by true has = ⊎_elim (λ (is : (page s q).master ≡ c). inl is) (λ none. absurd none) has
    by false has = absurd has

-- where the machine stays, so it is to be counted no more
pub to-count : (s t : GuestState) (o : Option FrameNo) (cs : List Copy) (uses : UsesState) → t.around ≡ s.around → option_to_list (option_map (λ (n : FrameNo). n.0) o) ≡ numbers_of cs → ((c : Copy) → Has cs c → c.frame < frames_around s.around)
    → CountsCopies t (used_frames t ++ cs) uses → ToCountNoMore t o uses
to-count s t o cs uses around numbers within counted = record {
  copies = cs;
  numbers = numbers;
  within = λ c has. subst (λ (w : Surroundings). c.frame < frames_around w) (sym around) (within c has);
  counted_too = counted;
}

-- the copy of the frame
pub record IsOne (frame : FrameNo) (cs : List Copy) : Type 0 where
  pub copy : Copy
  pub alone : cs ≡ copy ∷ []
  pub frame_is : copy.frame ≡ frame.0

pub one-copy : (frame : FrameNo) (cs : List Copy) → frame.0 ∷ [] ≡ numbers_of cs → IsOne frame cs
one-copy frame [] e = absurd cc
one-copy frame (c ∷ []) e = record { copy = c; alone = refl; frame_is = cc }
one-copy frame (c ∷ d ∷ cs) e = absurd cc

pub no-copy : (cs : List Copy) → [] ≡ numbers_of cs → cs ≡ []
no-copy [] e = refl
no-copy (c ∷ cs) e = absurd cc

-- a page that is being taken shared is there
moving-within : (gs : List Page) (q : ℕ) (m : Move) → (get_or gs q no_page).move ≡ Some m → q < length gs
moving-within [] q m e = absurd cc
moving-within (g ∷ gs) zero m e = omega arith
moving-within (g ∷ gs) (suc q) m e = let rest = moving-within gs q m e in omega arith

pub taken-page : (s : GuestState) (q : ℕ) → IsTaken s q → q < length s.pages
taken-page s q taken = moving-within s.pages q _ taken.open_move
