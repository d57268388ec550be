-- What the notes of one slice tell.
use Rattle.std.proofs.Common.{◌≡◌, ℕ, zero, suc, ◌+◌, ◌≤◌, ◌==◌, ◌&&◌, cond, Bool, true, false, List, [], ◌∷◌, ◌++◌, refl, sym, ap, ◌∙◌, subst, arith, eq-eqb, Option, Some, None, inl, inr}
use Rattle.base_words.specs.declared.ids.ProcId.{ProcId}
use Rattle.base_words.specs.declared.ids.VcpuId.{VcpuId}
use Rattle.base_words.specs.declared.events.Event.{Event}
use Rattle.base_words.specs.declared.events.Event.TheVariants.{Direct, Emulate, Load, Unload}
use Rattle.shootdown.specs.declared.notes.Note.{Note}
use Rattle.shootdown.specs.declared.notes.Note.TheVariants.{Made}
use Rattle.guest_core.specs.Noting.{loaded_by, loaded_by_note, is_step_of as is_note_step_of}
use Rattle.guest_core.specs.declared.records.SliceRecord.{SliceRecord}
use Rattle.plan_due.specs.Stops as stop
use Rattle.plan_due.specs.Stops.{Stop, told_of_stop}
use Rattle.guest_lock.specs.Told.{IsStep, AreSteps}
use Rattle.plan_due.specs.PlanDue.{is_load_of}
use Rattle.plan_due.specs.Slices.{framed, IsSlice}
use Rattle.plan_due.proofs.NoteLists.{Every, every-left, every-right, tally, tally-append}
use Rattle.plan_due.proofs.JournalLemmas.{of_entry, loaded_by-append}

-- ---- steps

step-tally : (p : ProcId) (v : VcpuId) (kind : Event → Bool) (b : Bool) (n : Note) → kind (Direct p v) ≡ b → kind (Emulate p v) ≡ b → IsStep p v n → of_entry kind n ≡ b
step-tally p v kind b n direct emulate (inl e) = ap (of_entry kind) e ∙ direct
step-tally p v kind b n direct emulate (inr e) = ap (of_entry kind) e ∙ emulate

steps-tally : (p : ProcId) (v : VcpuId) (kind : Event → Bool) (b : Bool) (n : ℕ) (made : List Note) → kind (Direct p v) ≡ b → kind (Emulate p v) ≡ b → AreSteps p v n made → tally (of_entry kind) made ≡ cond b n 0
steps-tally p v kind true zero [] direct emulate are = refl
steps-tally p v kind false zero [] direct emulate are = refl
steps-tally p v kind b zero (m ∷ made) direct emulate are = absurd are
steps-tally p v kind b (suc n) [] direct emulate are = absurd are
steps-tally p v kind true (suc n) (m ∷ made) direct emulate are =
    let one : cond (of_entry kind m) 1 0 ≡ 1 = ap (λ c. cond c 1 0) (step-tally p v kind true m direct emulate are.0) in
    let rest : tally (of_entry kind) made ≡ n = steps-tally p v kind true n made direct emulate are.1 in
    let more : 1 + n ≡ suc n = omega arith in (λ k. one k + rest k) ∙ more
steps-tally p v kind false (suc n) (m ∷ made) direct emulate are =
    let one : cond (of_entry kind m) 1 0 ≡ 0 = ap (λ c. cond c 1 0) (step-tally p v kind false m direct emulate are.0) in
    let rest : tally (of_entry kind) made ≡ 0 = steps-tally p v kind false n made direct emulate are.1 in (λ k. one k + rest k)

stop-tally : (kind : Event → Bool) (v : VcpuId) (s : Stop) → tally (of_entry kind) (told_of_stop v s) ≡ 0
stop-tally kind v stop.Paused = refl
stop-tally kind v stop.VcpuHalted = refl
stop-tally kind v (stop.GuestEnded end) = refl
stop-tally kind v (stop.CellDead cell) = refl

-- the notes of a slice, but for its load and unload
body-tally : (kind : Event → Bool) (b : Bool) (cell item : ℕ) (p : ProcId) (v : VcpuId) (planned : ℕ) (slice : SliceRecord) (told : List Note) (is : IsSlice cell item p v planned slice told) → kind (Direct p v) ≡ b → kind (Emulate p v) ≡ b → tally (of_entry kind) (is.made ++ told_of_stop v is.by) ≡ cond b slice.steps 0
body-tally kind b cell item p v planned slice told is direct emulate =
    let steps = steps-tally p v kind b slice.steps is.made direct emulate is.steps in
    let last = stop-tally kind v is.by in
    let both = tally-append (of_entry kind) is.made (told_of_stop v is.by) in omega arith

framed-tally : (kind : Event → Bool) (loaded : Bool) (p : ProcId) (v : VcpuId) (notes : List Note) → kind (Load p v) ≡ false → kind (Unload p) ≡ false → tally (of_entry kind) (framed loaded p v notes) ≡ tally (of_entry kind) notes
framed-tally kind false p v notes load unload = refl
framed-tally kind true p v notes load unload =
    let last : tally (of_entry kind) (Made (Unload p) ∷ []) ≡ 0 = (λ k. cond (unload k) 1 0 + 0) in
    let both : tally (of_entry kind) (notes ++ Made (Unload p) ∷ []) ≡ tally (of_entry kind) notes + tally (of_entry kind) (Made (Unload p) ∷ []) = tally-append (of_entry kind) notes (Made (Unload p) ∷ []) in
    let all : tally (of_entry kind) (notes ++ Made (Unload p) ∷ []) ≡ tally (of_entry kind) notes + 0 = both ∙ (λ k. tally (of_entry kind) notes + last k) in
    (λ k. cond (load k) 1 0 + all k) ∙ no-ends (tally (of_entry kind) notes)
  where
    no-ends : (n : ℕ) → 0 + (n + 0) ≡ n
    no-ends n = omega arith

-- a slice has the notes of its steps
pub slice-count : (kind : Event → Bool) (b : Bool) (cell item : ℕ) (p : ProcId) (v : VcpuId) (planned : ℕ) (slice : SliceRecord) (told : List Note) → IsSlice cell item p v planned slice told
    → kind (Direct p v) ≡ b → kind (Emulate p v) ≡ b → kind (Load p v) ≡ false → kind (Unload p) ≡ false → tally (of_entry kind) told ≡ cond b slice.steps 0
slice-count kind b cell item p v planned slice told is direct emulate load unload =
    ap (tally (of_entry kind)) is.notes
    ∙ framed-tally kind is.loaded p v _ load unload
    ∙ body-tally kind b cell item p v planned slice told is direct emulate

one-load : (r u : ℕ) (loaded : Bool) (p : ProcId) (v : VcpuId) (notes : List Note) → tally (of_entry (is_load_of r u)) notes ≡ 0 → tally (of_entry (is_load_of r u)) (framed loaded p v notes) ≤ cond ((p.0 == r) && (v.0 == u)) 1 0
one-load r u false p v notes none = let c = none in omega arith
one-load r u true p v notes none =
    let both = tally-append (of_entry (is_load_of r u)) notes (Made (Unload p) ∷ []) in omega arith

-- and of one load at most
pub slice-loads : (r u : ℕ) (cell item : ℕ) (p : ProcId) (v : VcpuId) (planned : ℕ) (slice : SliceRecord) (told : List Note) → IsSlice cell item p v planned slice told → tally (of_entry (is_load_of r u)) told ≤ cond ((p.0 == r) && (v.0 == u)) 1 0
slice-loads r u cell item p v planned slice told is =
    subst (λ ns. tally (of_entry (is_load_of r u)) ns ≤ cond ((p.0 == r) && (v.0 == u)) 1 0) (sym is.notes)
    (one-load r u is.loaded p v _ (body-tally (is_load_of r u) false cell item p v planned slice told is refl refl))

-- ---- what is loaded afterwards

step-loaded : (p : ProcId) (v : VcpuId) (l : Option ℕ) (n : Note) → IsStep p v n → loaded_by_note l n ≡ l
step-loaded p v l n (inl e) = ap (loaded_by_note l) e
step-loaded p v l n (inr e) = ap (loaded_by_note l) e

steps-loaded : (p : ProcId) (v : VcpuId) (l : Option ℕ) (n : ℕ) (made : List Note) → AreSteps p v n made → loaded_by l made ≡ l
steps-loaded p v l zero [] are = refl
steps-loaded p v l zero (m ∷ made) are = absurd are
steps-loaded p v l (suc n) [] are = absurd are
steps-loaded p v l (suc n) (m ∷ made) are = ap (λ k. loaded_by k made) (step-loaded p v l m are.0) ∙ steps-loaded p v l n made are.1

stop-loaded : (v : VcpuId) (l : Option ℕ) (s : Stop) → loaded_by l (told_of_stop v s) ≡ l
stop-loaded v l stop.Paused = refl
stop-loaded v l stop.VcpuHalted = refl
stop-loaded v l (stop.GuestEnded end) = refl
stop-loaded v l (stop.CellDead cell) = refl

framed-loaded : (loaded : Bool) (p : ProcId) (v : VcpuId) (notes : List Note) → loaded_by None notes ≡ None → loaded_by None (framed loaded p v notes) ≡ None
framed-loaded false p v notes none = none
framed-loaded true p v notes none = loaded_by-append (Some v.0) notes (Made (Unload p) ∷ [])

-- after a slice nothing is loaded
pub slice-free : (cell item : ℕ) (p : ProcId) (v : VcpuId) (planned : ℕ) (slice : SliceRecord) (told : List Note) → IsSlice cell item p v planned slice told → loaded_by None told ≡ None
slice-free cell item p v planned slice told is =
    ap (loaded_by None) is.notes
    ∙ framed-loaded is.loaded p v _ (
    loaded_by-append None is.made (told_of_stop v is.by)
    ∙ ap (λ l. loaded_by l (told_of_stop v is.by)) (steps-loaded p v None slice.steps is.made is.steps)
    ∙ stop-loaded v None is.by
    )

-- ---- what holds of all notes of a slice

every-framed : (P : Note → Type 0) (loaded : Bool) (p : ProcId) (v : VcpuId) (notes : List Note) → Every P (framed loaded p v notes) → Every P notes
every-framed P false p v notes every = every
every-framed P true p v notes every = every-left P notes (Made (Unload p) ∷ []) every.1

every-body : (P : Note → Type 0) (cell item : ℕ) (p : ProcId) (v : VcpuId) (planned : ℕ) (slice : SliceRecord) (told : List Note) (is : IsSlice cell item p v planned slice told) → Every P told → Every P (is.made ++ told_of_stop v is.by)
every-body P cell item p v planned slice told is every = every-framed P is.loaded p v _ (subst (Every P) is.notes every)

pub every-stop : (P : Note → Type 0) (cell item : ℕ) (p : ProcId) (v : VcpuId) (planned : ℕ) (slice : SliceRecord) (told : List Note) (is : IsSlice cell item p v planned slice told) → Every P told → Every P (told_of_stop v is.by)
every-stop P cell item p v planned slice told is every = every-right P is.made (told_of_stop v is.by) (every-body P cell item p v planned slice told is every)

-- where no note is of a step of the virtual processor, the slice has no steps
no-steps : (p : ProcId) (v : VcpuId) (n : ℕ) (made : List Note) → AreSteps p v n made → Every (λ note. is_note_step_of v.0 note ≡ false) made → n ≡ 0
no-steps p v zero made are every = refl
no-steps p v (suc n) [] are every = absurd are
no-steps p v (suc n) (m ∷ made) are every = absurd (conflict are.0)
  where
    conflict : IsStep p v m → ⊥
    conflict (inl e) = let t : true ≡ false = sym (ap (is_note_step_of v.0) e ∙ eq-eqb v.0 v.0 refl) ∙ every.0 in absurd cc
    conflict (inr e) = let t : true ≡ false = sym (ap (is_note_step_of v.0) e ∙ eq-eqb v.0 v.0 refl) ∙ every.0 in absurd cc

pub slice-none : (cell item : ℕ) (p : ProcId) (v : VcpuId) (planned : ℕ) (slice : SliceRecord) (told : List Note) → IsSlice cell item p v planned slice told → Every (λ note. is_note_step_of v.0 note ≡ false) told → slice.steps ≡ 0
slice-none cell item p v planned slice told is every = no-steps p v slice.steps is.made is.steps (every-left (λ note. is_note_step_of v.0 note ≡ false) is.made (told_of_stop v is.by) (every-body (λ note. is_note_step_of v.0 note ≡ false) cell item p v planned slice told is every))

-- what holds of each note that a slice can have
every-append : (P : Note → Type 0) (xs ys : List Note) → Every P xs → Every P ys → Every P (xs ++ ys)
every-append P [] ys a b = b
every-append P (x ∷ xs) ys a b = (a.0, every-append P xs ys a.1 b)

every-steps : (P : Note → Type 0) (p : ProcId) (v : VcpuId) (n : ℕ) (made : List Note) → ((x : Note) → IsStep p v x → P x) → AreSteps p v n made → Every P made
every-steps P p v zero [] step are = tt
every-steps P p v zero (m ∷ made) step are = absurd are
every-steps P p v (suc n) [] step are = absurd are
every-steps P p v (suc n) (m ∷ made) step are = (step m are.0, every-steps P p v n made step are.1)

pub slice-every : (P : Note → Type 0) (cell item : ℕ) (p : ProcId) (v : VcpuId) (planned : ℕ) (slice : SliceRecord) (told : List Note) → IsSlice cell item p v planned slice told
    → ((x : Note) → IsStep p v x → P x) → P (Made (Load p v)) → P (Made (Unload p)) → ((s : Stop) → Every P (told_of_stop v s)) → Every P told
slice-every P cell item p v planned slice told is step load unload stops = subst (Every P) (sym is.notes) (by is.loaded)
  where
    body : Every P (is.made ++ told_of_stop v is.by)
    body = every-append P is.made (told_of_stop v is.by) (every-steps P p v slice.steps is.made step is.steps) (stops is.by)

    by : (loaded : Bool) → Every P (framed loaded p v (is.made ++ told_of_stop v is.by))
    by false = body
    by true = (load, every-append P (is.made ++ told_of_stop v is.by) (Made (Unload p) ∷ []) body (unload, tt))
