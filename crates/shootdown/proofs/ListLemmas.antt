-- Lists of notes, and how often an owner's stands among them.
use Rattle.std.proofs.Common.{◌≡◌, ◌≢◌, ℕ, zero, suc, ◌+◌, ◌≤◌, ◌==◌, if◌then◌else◌, true, false, List, [], ◌∷◌, ◌++◌, map, set, refl, sym, ap, ◌∙◌, arith, eq-eqb, ne_eqb, zero-add}
use Rattle.std.proofs.lemmas.List.{append-nil}
use mathlib.Core.Option.{some-injective, some-ne-none}
use Rattle.shootdown.specs.Notes.{sided, with_side}
use Rattle.shootdown.specs.Board.{ByOwner, AreOf, times, total, IsView}
use Rattle.shootdown.specs.declared.notes.Note.{Note}
use Rattle.shootdown.specs.declared.view.SidedNote.{SidedNote}
use Rattle.shootdown.specs.declared.view.NoteList.{NoteList}
use Rattle.shootdown.specs.declared.view.View.{View}

pub total_set : (f : View → ℕ) (vs : List View) (j : ℕ) (v w : View) → IsView vs j v → total f (set vs j w) + f v ≡ total f vs + f w
total_set f [] j v w e = absurd (some-ne-none v (sym e))
total_set f (x ∷ xs) zero v w e = let is : f x ≡ f v = ap f (some-injective x v e) in omega arith
total_set f (x ∷ xs) (suc j) v w e = let rest = total_set f xs j v w e in omega arith

pub total-snoc : (f : View → ℕ) (vs : List View) (w : View) → total f (vs ++ w ∷ []) ≡ total f vs + f w
total-snoc f [] w = omega arith
total-snoc f (x ∷ xs) w = let rest = total-snoc f xs w in omega arith

-- one view has no more than all
pub total_least : (f : View → ℕ) (vs : List View) (j : ℕ) (v : View) → IsView vs j v → f v ≤ total f vs
total_least f [] j v e = absurd (some-ne-none v (sym e))
total_least f (x ∷ xs) zero v e = let is : f x ≡ f v = ap f (some-injective x v e) in omega arith
total_least f (x ∷ xs) (suc j) v e = let rest = total_least f xs j v e in omega arith

-- two views have no more than all
pub total_two : (f : View → ℕ) (vs : List View) (i j : ℕ) (v w : View) → i ≢ j → IsView vs i v → IsView vs j w → f v + f w ≤ total f vs
total_two f [] i j v w apart a b = absurd (some-ne-none v (sym a))
total_two f (x ∷ xs) zero zero v w apart a b = absurd (apart refl)
total_two f (x ∷ xs) zero (suc j) v w apart a b = let is : f x ≡ f v = ap f (some-injective x v a) in let rest = total_least f xs j w b in omega arith
total_two f (x ∷ xs) (suc i) zero v w apart a b = let is : f x ≡ f w = ap f (some-injective x w b) in let rest = total_least f xs i v a in omega arith
total_two f (x ∷ xs) (suc i) (suc j) v w apart a b = let rest = total_two f xs i j v w (λ e. apart (ap suc e)) a b in omega arith

pub times-append : (k : ℕ) (xs ys : List NoteList) → times k (xs ++ ys) ≡ times k xs + times k ys
times-append k [] ys = omega arith
times-append k (x ∷ xs) ys = let rest = times-append k xs ys in omega arith

pub times-own : (k : ℕ) (l : NoteList) (ls : List NoteList) → l.owner ≡ k → times k (l ∷ ls) ≡ 1 + times k ls
times-own k l ls same = ap (λ b. (if b then 1 else 0) + times k ls) (eq-eqb l.owner k same)

pub times-else : (k : ℕ) (l : NoteList) (ls : List NoteList) → l.owner ≢ k → times k (l ∷ ls) ≡ times k ls
times-else k l ls apart = ap (λ b. (if b then 1 else 0) + times k ls) (ne_eqb l.owner k apart) ∙ zero-add (times k ls)

-- the lists behind the first are no more than all
pub times_rest : (k : ℕ) (l : NoteList) (ls : List NoteList) → times k ls ≤ times k (l ∷ ls)
times_rest k l ls = omega arith

pub are-append : (notes : ByOwner) (xs ys : List NoteList) → AreOf notes xs → AreOf notes ys → AreOf notes (xs ++ ys)
are-append notes [] ys a b = b
are-append notes (x ∷ xs) ys a b = (a.0, are-append notes xs ys a.1 b)

pub with_side-append : (k : ℕ) (xs ys : List SidedNote) → with_side k (xs ++ ys) ≡ with_side k xs ++ with_side k ys
with_side-append k [] ys = refl
with_side-append k (x ∷ xs) ys =
    let rest = with_side-append k xs ys in
    elim (x.side == k) as (λ b. (if b then x.note ∷ with_side k (xs ++ ys) else with_side k (xs ++ ys)) ≡ (if b then x.note ∷ with_side k xs else with_side k xs) ++ with_side k ys)
    [ true ↦ ap (λ ns. x.note ∷ ns) rest | false ↦ rest ]

-- one note alone, with this side and with another
pub with_side-one : (k : ℕ) (n : Note) → with_side k (sided k n ∷ []) ≡ n ∷ []
with_side-one k n = ap (λ b. if b then n ∷ [] else []) (eq-eqb k k refl)

pub with_side-none : (k o : ℕ) (n : Note) → o ≢ k → with_side k (sided o n ∷ []) ≡ []
with_side-none k o n apart = ap (λ b. if b then n ∷ [] else []) (ne_eqb o k apart)

-- many notes, with this side and with another
with_side-all : (k : ℕ) (ns : List Note) → with_side k (map (sided k) ns) ≡ ns
with_side-all k [] = refl
with_side-all k (n ∷ ns) =
    let rest = with_side-all k ns in
    ap (λ b. if b then n ∷ with_side k (map (sided k) ns) else with_side k (map (sided k) ns)) (eq-eqb k k refl) ∙ ap (λ ms. n ∷ ms) rest

with_side-of_none : (k o : ℕ) (ns : List Note) → o ≢ k → with_side k (map (sided o) ns) ≡ []
with_side-of_none k o [] apart = refl
with_side-of_none k o (n ∷ ns) apart =
    let rest = with_side-of_none k o ns apart in
    ap (λ b. if b then n ∷ with_side k (map (sided o) ns) else with_side k (map (sided o) ns)) (ne_eqb o k apart) ∙ rest

-- so many notes more, with this side and with another
pub with_side-own : (k : ℕ) (ns : List Note) (xs : List SidedNote) → with_side k (xs ++ map (sided k) ns) ≡ with_side k xs ++ ns
with_side-own k ns xs = with_side-append k xs (map (sided k) ns) ∙ ap (λ l. with_side k xs ++ l) (with_side-all k ns)

pub with_side-else : (k o : ℕ) (ns : List Note) (xs : List SidedNote) → o ≢ k → with_side k (xs ++ map (sided o) ns) ≡ with_side k xs
with_side-else k o ns xs apart = with_side-append k xs (map (sided o) ns) ∙ ap (λ l. with_side k xs ++ l) (with_side-of_none k o ns apart) ∙ append-nil (with_side k xs)
