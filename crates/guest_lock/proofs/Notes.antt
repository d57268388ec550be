-- Notes of a token, list behind list.
use Rattle.std.proofs.Common.{◌≡◌, ◌≢◌, ℕ, zero, suc, ◌+◌, ◌==◌, if◌then◌else◌, true, false, List, [], ◌∷◌, ◌++◌, map, refl, sym, ap, ◌∙◌, subst, append_assoc, eq-eqb, ne_eqb, Option, None, inl, inr, arith}
use Rattle.std.proofs.lemmas.List.{map-append}
use Rattle.shootdown.specs.declared.notes.Note.{Note}
use Rattle.shootdown.specs.declared.view.SidedNote.{SidedNote}
use Rattle.shootdown.specs.Notes.{Token, sided, with_side}
use Rattle.guest_core.specs.GuestView.{Monitored}
use Rattle.guest_core.specs.GuestCalls.{Learns}
use Rattle.guest_core.specs.Noting.{loaded_by, loaded_by_note, shows_loaded}
use Rattle.base_words.specs.declared.ids.ProcId.{ProcId}
use Rattle.base_words.specs.declared.ids.VcpuId.{VcpuId}
use Rattle.guest_lock.specs.Told.{with_told, shown, AreInStep, IsStep, AreSteps}

pub append-none : {A : Type 0} (xs : List A) → xs ++ [] ≡ xs
append-none [] = refl
append-none (x ∷ xs) = ap (λ ys. x ∷ ys) (append-none xs)

with_side-append : (side : ℕ) (xs ys : List SidedNote) → with_side side (xs ++ ys) ≡ with_side side xs ++ with_side side ys
with_side-append side [] ys = refl
with_side-append side (x ∷ xs) ys = let r = with_side-append side xs ys in elim (x.side == side) as (λ b. (if b then x.note ∷ with_side side (xs ++ ys) else with_side side (xs ++ ys)) ≡ (if b then x.note ∷ with_side side xs else with_side side xs) ++ with_side side ys) [ true ↦ ap (λ l. x.note ∷ l) r | false ↦ r ]

with_side-own : (side : ℕ) (notes : List Note) → with_side side (map (sided side) notes) ≡ notes
with_side-own side [] = refl
with_side-own side (n ∷ notes) = ap (λ b. if b then n ∷ with_side side (map (sided side) notes) else with_side side (map (sided side) notes)) (eq-eqb side side refl) ∙ ap (λ l. n ∷ l) (with_side-own side notes)

with_side-others : (side other : ℕ) (notes : List Note) → other ≢ side → with_side side (map (sided other) notes) ≡ []
with_side-others side other [] ne = refl
with_side-others side other (n ∷ notes) ne = ap (λ b. if b then n ∷ with_side side (map (sided other) notes) else with_side side (map (sided other) notes)) (ne_eqb other side ne) ∙ with_side-others side other notes ne

pub loaded_by-append : (l : Option ℕ) (xs ys : List Note) → loaded_by l (xs ++ ys) ≡ loaded_by (loaded_by l xs) ys
loaded_by-append l [] ys = refl
loaded_by-append l (x ∷ xs) ys = loaded_by-append (loaded_by_note l x) xs ys

-- ---- a token that is told more

pub with_told-none : (token : Token) (g : ℕ) → with_told token g [] ≡ token
with_told-none token g = ap (λ (notes : List SidedNote). record token { notes = notes }) (append-none token.notes)

pub with_told-more : (token : Token) (g : ℕ) (first next : List Note) → with_told (with_told token g first) g next ≡ with_told token g (first ++ next)
with_told-more token g first next = ap (λ (notes : List SidedNote). record token { notes = notes }) (append_assoc token.notes (map (sided g) first) (map (sided g) next) ∙ ap (λ l. token.notes ++ l) (sym (map-append (sided g) first next)))

pub with_side-told : (g : ℕ) (token : Token) (told : List Note) → with_side g (with_told token g told).notes ≡ with_side g token.notes ++ told
with_side-told g token told = with_side-append g token.notes (map (sided g) told) ∙ ap (λ l. with_side g token.notes ++ l) (with_side-own g told)

pub with_side-told-others : (g h : ℕ) (token : Token) (told : List Note) → h ≢ g → with_side g (with_told token h told).notes ≡ with_side g token.notes
with_side-told-others g h token told ne = with_side-append g token.notes (map (sided h) told) ∙ ap (λ l. with_side g token.notes ++ l) (with_side-others g h told ne) ∙ append-none (with_side g token.notes)

-- what both are told leaves a token and a seat in step
pub in_step-told : (g p : ℕ) (token seat : List SidedNote) (told : List Note) → with_side g token ≡ with_side p seat → with_side g (token ++ map (sided g) told) ≡ with_side p (seat ++ map (sided p) told)
in_step-told g p token seat told e =
    with_side-append g token (map (sided g) told)
    ∙ ap (λ l. with_side g token ++ l) (with_side-own g told)
    ∙ ap (λ l. l ++ told) e
    ∙ sym (with_side-append p seat (map (sided p) told) ∙ ap (λ l. with_side p seat ++ l) (with_side-own p told))

-- so does a call of the guest's
pub in_step-learns : (old : Monitored) (token : Token) (told : List Note) (new : Monitored) (after : Token) → Learns old token told new after → new.number ≡ old.number → AreInStep token old → AreInStep after new
in_step-learns old token told new after learns same e =
    ap (λ (t : Token). with_side new.number t.notes) learns.token_is
    ∙ ap (λ (n : ℕ). with_side n (token.notes ++ map (sided old.number) told)) same
    ∙ in_step-told old.number token.number token.notes old.notes told e
    ∙ ap (with_side token.number) (sym learns.seat)
    ∙ ap (λ (t : Token). with_side t.number new.notes) (sym learns.token_is)

pub shown-told : (g : ℕ) (token : Token) (told : List Note) → shown g (with_told token g told) ≡ loaded_by (shown g token) told
shown-told g token told = ap shows_loaded (with_side-told g token told) ∙ loaded_by-append None (with_side g token.notes) told

pub shown-told-others : (g h : ℕ) (token : Token) (told : List Note) → h ≢ g → shown g (with_told token h told) ≡ shown g token
shown-told-others g h token told ne = ap shows_loaded (with_side-told-others g h token told ne)

-- ---- steps

step-loaded : (p : ProcId) (v : VcpuId) (l : Option ℕ) (n : Note) → IsStep p v n → loaded_by_note l n ≡ l
step-loaded p v l n (inl e) = ap (loaded_by_note l) e
step-loaded p v l n (inr e) = ap (loaded_by_note l) e

pub steps-loaded : (p : ProcId) (v : VcpuId) (l : Option ℕ) (n : ℕ) (made : List Note) → AreSteps p v n made → loaded_by l made ≡ l
steps-loaded p v l zero [] are = refl
steps-loaded p v l zero (m ∷ made) are = absurd are
steps-loaded p v l (suc n) [] are = absurd are
steps-loaded p v l (suc n) (m ∷ made) are = ap (λ k. loaded_by k made) (step-loaded p v l m are.0) ∙ steps-loaded p v l n made are.1

pub steps-append : (p : ProcId) (v : VcpuId) (n m : ℕ) (xs ys : List Note) → AreSteps p v n xs → AreSteps p v m ys → AreSteps p v (n + m) (xs ++ ys)
steps-append p v zero m [] ys a b = subst (λ k. AreSteps p v k ys) (let e : m ≡ 0 + m = omega arith in e) b
steps-append p v zero m (x ∷ xs) ys a b = absurd a
steps-append p v (suc n) m [] ys a b = absurd a
steps-append p v (suc n) m (x ∷ xs) ys a b = subst (λ k. AreSteps p v k (x ∷ (xs ++ ys))) (let e : suc (n + m) ≡ suc n + m = omega arith in e) (a.0, steps-append p v n m xs ys a.1 b)

-- steps change nothing of what is shown
pub shown-steps : (g : ℕ) (token : Token) (p : ProcId) (v : VcpuId) (n : ℕ) (made : List Note) → AreSteps p v n made → shown g (with_told token g made) ≡ shown g token
shown-steps g token p v n made are = shown-told g token made ∙ steps-loaded p v (shown g token) n made are
