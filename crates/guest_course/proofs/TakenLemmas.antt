-- Where no page is ready, a page with a move for which nobody waits is being taken shared.
use Rattle.std.proofs.Common.{◌≡◌, ℕ, zero, suc, ◌&&◌, not, Bool, true, false, List, [], ◌∷◌, Some, sym, ap, ◌∙◌, refl}
use Rattle.base_words.specs.Membership.{HasNone}
use Rattle.private_machine.specs.Backing.{Change, Migrates, Replicates, Collapses, Breaks, TakesShared, GivesShared, Page, Move, page_at}
use Rattle.pmap_table.specs.Tracking.{is_taking, is_ready, nobody, ready_in, HoldsNowhere}
use Rattle.isolation_law.specs.EndRows.{takes}

-- it is said of changes in the table's words as in the definition's
same-taking : (change : Change) → is_taking change ≡ takes change
same-taking (Migrates target) = refl
same-taking (Replicates target) = refl
same-taking Collapses = refl
same-taking (Breaks target) = refl
same-taking (TakesShared target) = refl
same-taking (GivesShared target) = refl

nobody-of : (waiting : List Bool) → HasNone waiting → nobody waiting ≡ true
nobody-of [] none = refl
nobody-of (true ∷ waiting) none = let some : true ≡ false = none zero in cc
nobody-of (false ∷ waiting) none = nobody-of waiting (λ n. none (suc n))

by-change : (taking idle : Bool) → (not taking && idle) ≡ false → idle ≡ true → taking ≡ true
by-change true idle e i = refl
by-change false true e i = cc
by-change false false e i = cc

pub taken-where-ready : (pages : List Page) (q : ℕ) (m : Move) → HoldsNowhere is_ready pages → (page_at pages q).move ≡ Some m → HasNone m.waiting → takes m.change ≡ true
taken-where-ready pages q m none has idle =
    sym (same-taking m.change) ∙ by-change (is_taking m.change) (nobody m.waiting) (ap ready_in (sym has) ∙ none q) (nobody-of m.waiting idle)
