-- A finish keeps coherence and content.
use Rattle.private_machine.specs.Operation.{Operation}
use Rattle.std.proofs.Common.{◌≡◌, ℕ, ◌+◌, ◌<◌, ◌≤◌, Bool, false, not, ◌&&◌, cond, inl, inr, ⊎_elim, Some, None, List, [], ◌∷◌, ◌++◌, length, set, get_or, refl, sym, ap, ◌∙◌, subst, arith, true≢false, Option, get_or-set_same}
use Rattle.std.proofs.lemmas.List.{length-append}
use Rattle.std.specs.Prelude.{count_by}
use Rattle.base_words.specs.Membership.{HasNone}
use Rattle.base_words.specs.Membership.{Has}
use Rattle.private_machine.specs.Backing.{Copy, Change, Migrates, Replicates, Collapses, Breaks, TakesShared, GivesShared, Move, Page, with_bytes, no_page}
use Rattle.private_machine.specs.PageMove.{finished, spares_finished}
use Rattle.isolation_law.specs.Coherence.{Consistent}
use Rattle.isolation_law.specs.PageRules.{ChangeRule, MoveRule, PageRule, breaks, is_breaking, needs_spare, sources, Sources}
use Rattle.isolation_law.specs.Content.{content}
use Rattle.isolation_law.specs.GuestState.{GuestState, page, operation_of, with_page}
use Rattle.isolation_law.specs.MoveRows.{Finishes}
use Rattle.isolation_law.proofs.Lists.{count_by-set}
use Rattle.isolation_law.proofs.Parts.{coherent_with_page, coherent_with_spares, content-page, coherent_with_operation}
use Rattle.isolation_law.proofs.LeaveProofs.{moving_within}

pub open_rule : (from : Sources) (op : Option Operation) (g : Page) (m : Move) → MoveRule from op g.shared g.mapped g.move → g.move ≡ Some m → (m.waiting ≡ g.mapped) × ChangeRule from op g.shared m.change
open_rule from op g m rule is = subst (MoveRule from op g.shared g.mapped) is rule

pub nobody_maps : (from : Sources) (op : Option Operation) (g : Page) (m : Move) → MoveRule from op g.shared g.mapped g.move → g.move ≡ Some m → HasNone m.waiting → (p : ℕ) → get_or g.mapped p false ≡ false
nobody_maps from op g m rule is nobody p = subst (λ (l : List Bool). get_or l p false ≡ false) (open_rule from op g m rule is).0 (nobody p)

appended : (cs : List Copy) (c : Copy) (bytes : List ℕ) → c.bytes ≡ bytes → ((x : Copy) → Has cs x → x.bytes ≡ bytes) → (x : Copy) → Has (cs ++ c ∷ []) x → x.bytes ≡ bytes
appended [] c bytes e all x h = ⊎_elim (λ (same : c ≡ x). ap (λ (z : Copy). z.bytes) (sym same) ∙ e) absurd h
appended (y ∷ ys) c bytes e all x h = ⊎_elim (λ (same : y ≡ x). all x (inl same)) (λ later. appended ys c bytes e (λ z has. all z (inr has)) x later) h

finished_rule : (from : Sources) (n : ℕ) (op : Option Operation) (g : Page) (change : Change) → PageRule from n op g → ChangeRule from op g.shared change → PageRule from n op (finished change g)
finished_rule from n op g (Migrates target) rule fine = record { whole = rule.whole; equal = rule.equal; single = rule.single; moves = tt; sized = rule.sized }
finished_rule from n op g (Replicates target) rule fine = record {
  whole = rule.whole;
  equal = appended g.replicas (with_bytes g.master.bytes target) g.master.bytes refl rule.equal;
  single = λ shared. absurd (true≢false (sym shared ∙ fine));
  moves = tt;
  sized = rule.sized;
}
finished_rule from n op g Collapses rule fine = record { whole = rule.whole; equal = λ c has. absurd has; single = λ _. refl; moves = tt; sized = rule.sized }
finished_rule from n op g (Breaks target) rule fine = record { whole = rule.whole; equal = rule.equal; single = λ shared. absurd (true≢false (sym shared)); moves = tt; sized = rule.sized }
finished_rule from n op g (TakesShared target) rule fine = record { whole = rule.whole; equal = rule.equal; single = rule.single; moves = tt; sized = rule.sized }
finished_rule from n op g (GivesShared target) rule fine = record { whole = rule.whole; equal = λ c has. absurd has; single = λ _. refl; moves = tt; sized = rule.sized }

finished_bytes : (g : Page) (change : Change) → (finished change g).master.bytes ≡ g.master.bytes
finished_bytes g change = grind arith

finished_none : (g : Page) (change : Change) → (finished change g).move ≡ None
finished_none g change = grind arith

more_spares : (spares : List Copy) (change : Change) → length spares ≤ length (spares_finished change spares)
more_spares spares (Migrates target) = omega arith
more_spares spares (Replicates target) = omega arith
more_spares spares Collapses = omega arith
more_spares spares (Breaks target) = omega arith
more_spares spares (TakesShared target) = omega arith
more_spares spares (GivesShared target) = rw length-append (omega arith)

-- the new page needs a spare only where the old one did, or a spare came
finished_count : (gs : List Page) (spares : List Copy) (q : ℕ) (m : Move) (change : Change) → q < length gs → (get_or gs q no_page).move ≡ Some m → m.change ≡ change → count_by needs_spare gs ≤ length spares
    → count_by needs_spare (set gs q (finished change (get_or gs q no_page))) ≤ length (spares_finished change spares)
finished_count gs spares q m change lt is kind room =
    let c = count_by-set needs_spare gs q (finished change (get_or gs q no_page)) no_page lt in
    let breaking : is_breaking (get_or gs q no_page).move ≡ breaks change = ap is_breaking is ∙ ap breaks kind in
    by_kind gs spares q change room breaking c
  where
    by_kind : (gs : List Page) (spares : List Copy) (q : ℕ) (change : Change) → count_by needs_spare gs ≤ length spares → is_breaking (get_or gs q no_page).move ≡ breaks change
        → count_by needs_spare (set gs q (finished change (get_or gs q no_page))) + cond {A = ℕ} (needs_spare (get_or gs q no_page)) 1 0 ≡ count_by needs_spare gs + cond {A = ℕ} (needs_spare (finished change (get_or gs q no_page))) 1 0
        → count_by needs_spare (set gs q (finished change (get_or gs q no_page))) ≤ length (spares_finished change spares)
    by_kind gs spares q (Migrates t) room b c = let same = ap (λ x. cond {A = ℕ} ((get_or gs q no_page).shared && not x) 1 0) b in omega (arith, c, same)
    by_kind gs spares q (Replicates t) room b c = let same = ap (λ x. cond {A = ℕ} ((get_or gs q no_page).shared && not x) 1 0) b in omega (arith, c, same)
    by_kind gs spares q Collapses room b c = let same = ap (λ x. cond {A = ℕ} ((get_or gs q no_page).shared && not x) 1 0) b in omega (arith, c, same)
    by_kind gs spares q (Breaks t) room b c = omega (arith, c)
    by_kind gs spares q (TakesShared t) room b c = let same = ap (λ x. cond {A = ℕ} ((get_or gs q no_page).shared && not x) 1 0) b in omega (arith, c, same)
    by_kind gs spares q (GivesShared t) room b c = rw length-append (omega (arith, c))

pub finishes_keeps : (s t : GuestState) (q : ℕ) → Consistent s → Finishes s q t → Consistent t
finishes_keeps s t q co row =
    let g = page s q in
    let m = row.move in
    let there = moving_within s.pages q m row.open_move in
    let rule = co.by_page q there in
    let more = spares_finished m.change s.spares in
    let s1 : GuestState = record s { spares = more } in
    let room : length s.spares ≤ length more = more_spares s.spares m.change in
    let before = co.enough in
    let co1 : Consistent s1 = coherent_with_spares s more co (omega arith) in
    let unmapped = nobody_maps (sources s) (operation_of s q) g m rule.moves row.open_move row.nobody_waits in
    let done : Consistent (with_page s1 q (finished m.change g)) = coherent_with_page s1 q (finished m.change g) there co1 (finished_rule (sources s) (length s.processors) (operation_of s q) g m.change rule (open_rule (sources s) (operation_of s q) g m rule.moves row.open_move).1)
    (λ p h has at old. absurd (true≢false (sym old.is_mapped ∙ unmapped p)))
    (λ p h has at old. absurd (true≢false (sym old.is_mapped ∙ unmapped p)))
    (λ v e has at none. finished_none g m.change)
    (finished_count s.pages s.spares q m m.change there row.open_move refl co.enough) in
    subst Consistent (sym row.after) (coherent_with_operation (with_page s1 q (finished m.change g)) q None done (ap (λ (x : Page). x.move) (get_or-set_same s.pages q (finished m.change g) no_page there) ∙ finished_none g m.change))

pub finishes_content : (s t : GuestState) (q : ℕ) → Finishes s q t → content t ≡ content s
finishes_content s t q row = ap content row.after ∙ content-page s q (finished row.move.change (page s q)) (finished_bytes (page s q) row.move.change)
