-- One item more.
use Rattle.std.proofs.Common.{◌≡◌, ℕ, zero, suc, ◌+◌, ◌<◌, ◌≤◌, ◌==◌, if◌then◌else◌, Bool, true, false, List, [], ◌∷◌, ◌++◌, map, take, length, get_or, refl, sym, ap, ◌∙◌, subst, arith, append-nil, append_assoc, Option, Some, None}
use Rattle.base_words.specs.declared.ids.GuestId.{GuestId}
use Rattle.base_words.specs.declared.ids.NodeId.{NodeId}
use Rattle.base_words.specs.declared.ids.Ppn.{Ppn}
use Rattle.base_words.specs.declared.ids.ProcId.{ProcId}
use Rattle.base_words.specs.declared.ids.VcpuId.{VcpuId}
use Rattle.base_words.specs.declared.moves.MoveKind.{MoveKind}
use Rattle.shootdown.specs.declared.view.SidedNote.{SidedNote}
use Rattle.shootdown.specs.Notes.{Token, sided}
use Rattle.isolation_law.specs.Start.{Boot}
use Rattle.machine_desc.specs.declared.plan.Item.{Item}
use Rattle.machine_desc.specs.declared.plan.Item.TheVariants.{Run, Move, Fail}
use Rattle.guest_core.specs.Asks.{note_of}
use Rattle.guest_core.specs.declared.records.SliceRecord.{SliceRecord}
use Rattle.guest_lock.specs.Told.{with_told}
use Rattle.plan_due.specs.Planned.{Planned, planned_as, planned}
use Rattle.plan_due.specs.Slices.{Machine, IsSlice, IsTold, own, AreTold}
use Rattle.plan_due.specs.declared.outcome.Outcome.{Outcome}
use Rattle.plan_due.specs.declared.outcome.Outcome.TheVariants.{Slice, Asked, Failure}
use Rattle.run_workers.specs.Parts.{as_list}
use Rattle.run_workers.specs.Working.{cell_in, machine_of, wish_for, Serves, is_own, Carries, CarriesOne}
use Rattle.base_words.specs.declared.ids.CellId.{CellId}
use Rattle.guest_lock.specs.Fates.{FailsFirst}

-- ---- lists

take-more : {A : Type 0} (xs : List A) (n : ℕ) (d : A) → n < length xs → take (n + 1) xs ≡ take n xs ++ get_or xs n d ∷ []
take-more [] n d l = absurd (let m : n < 0 = l in omega arith)
take-more (x ∷ xs) zero d l = refl
take-more (x ∷ xs) (suc n) d l = subst (λ k. take k (x ∷ xs) ≡ x ∷ (take n xs ++ get_or xs n d ∷ [])) (let e : suc (n + 1) ≡ suc n + 1 = omega arith in e) (ap (λ ys. x ∷ ys) (take-more xs n d (omega arith)))

take-length : {A : Type 0} (xs : List A) (n : ℕ) → n ≤ length xs → length (take n xs) ≡ n
take-length xs zero l = refl
take-length [] (suc n) l = absurd (let m : suc n ≤ 0 = l in omega arith)
take-length (x ∷ xs) (suc n) l = ap suc (take-length xs n (omega arith))

-- ---- items

planned-append : (k : ℕ) (xs ys : List Item) → planned k (xs ++ ys) ≡ planned k xs ++ planned (k + length xs) ys
planned-append k [] ys = ap (λ n. planned n ys) (let e : k ≡ k + 0 = omega arith in e)
planned-append k (x ∷ xs) ys = ap (λ l. planned_as k x ∷ l) (planned-append (suc k) xs ys ∙ ap (λ n. planned (suc k) xs ++ planned n ys) (let e : suc k + length xs ≡ k + suc (length xs) = omega arith in e))

own-append : (p : ℕ) (xs ys : List Planned) → own p (xs ++ ys) ≡ own p xs ++ own p ys
own-append p [] ys = refl
own-append p (x ∷ xs) ys = one (x.processor == p) x (own p (xs ++ ys)) (own p xs) (own p ys) (own-append p xs ys)
  where
    one : (b : Bool) (x : Planned) (all first next : List Planned) → all ≡ first ++ next → (if b then x ∷ all else all) ≡ (if b then x ∷ first else first) ++ next
    one true x all first next e = ap (λ l. x ∷ l) e
    one false x all first next e = e

same-own : (p k : ℕ) (item : Item) → ((planned_as k item).processor == p) ≡ is_own p item
same-own p k (Run q g v steps) = refl
same-own p k (Move q g page kind node) = refl
same-own p k (Fail q cell) = refl

own-is : (p k : ℕ) (item : Item) → own p (planned k (item ∷ [])) ≡ (if is_own p item then planned_as k item ∷ [] else [])
own-is p k item = ap (λ b. if b then planned_as k item ∷ [] else []) (same-own p k item)

own-next : (p n : ℕ) (items : List Item) (d : Item) → n < length items → own p (planned 0 (take (n + 1) items)) ≡ own p (planned 0 (take n items)) ++ (if is_own p (get_or items n d) then planned_as n (get_or items n d) ∷ [] else [])
own-next p n items d l =
    let item = get_or items n d in
    ap (λ xs. own p (planned 0 xs)) (take-more items n d l)
    ∙ ap (own p) (planned-append 0 (take n items) (item ∷ []))
    ∙ own-append p (planned 0 (take n items)) (planned (0 + length (take n items)) (item ∷ []))
    ∙ ap (λ k. own p (planned 0 (take n items)) ++ own p (planned k (item ∷ []))) (let e = take-length items n (omega arith) in let f : 0 + length (take n items) ≡ n = omega arith in f)
    ∙ ap (λ xs. own p (planned 0 (take n items)) ++ xs) (own-is p n item)

-- one item more
told-more : (m : Machine) (plan : List Planned) (outcomes : List Outcome) (notes : List SidedNote) (item : Planned) (outcome : Outcome) (told : List SidedNote) → AreTold m plan outcomes notes → IsTold m item outcome told → AreTold m (plan ++ item ∷ []) (outcomes ++ outcome ∷ []) (notes ++ told)
told-more m [] [] notes item outcome told are is = (told, [], is, ap (λ ns. ns ++ told) are ∙ sym (append-nil told), refl)
told-more m [] (s ∷ outcomes) notes item outcome told are is = absurd are
told-more m (i ∷ plan) [] notes item outcome told are is = absurd are
told-more m (i ∷ plan) (s ∷ outcomes) notes item outcome told are is = (
  are.0,
  are.1 ++ told,
  are.2,
  ap (λ ns. ns ++ told) are.3 ∙ append_assoc are.0 are.1 told,
  told-more m plan outcomes are.1 item outcome told are.4 is,
)

pub carry-next : (m : Machine) (n : ℕ) (items : List Item) (d : Item) (old new : Token) (outcomes : List Outcome) (outcome : Option Outcome) → n < length items → AreTold m (own old.number (planned 0 (take n items))) outcomes old.notes → CarriesOne m n (get_or items n d) old outcome new → AreTold m (own new.number (planned 0 (take (n + 1) items))) (outcomes ++ as_list outcome) new.notes
carry-next m n items d old new outcomes None l are carries =
    subst (λ (t : Token). AreTold m (own t.number (planned 0 (take (n + 1) items))) (outcomes ++ []) t.notes) (sym carries.1)
    (subst (λ s. AreTold m (own old.number (planned 0 (take (n + 1) items))) s old.notes) (sym (append-nil outcomes))
    (subst (λ plan. AreTold m plan outcomes old.notes) (sym (own-next old.number n items d l ∙ ap (λ b. own old.number (planned 0 (take n items)) ++ (if b then planned_as n (get_or items n d) ∷ [] else [])) carries.0 ∙ append-nil (own old.number (planned 0 (take n items))))) are))
carry-next m n items d old new outcomes (Some outcome) l are carries =
    let c = carries.1 in
    subst (λ (t : Token). AreTold m (own t.number (planned 0 (take (n + 1) items))) (outcomes ++ outcome ∷ []) t.notes) (sym c.token)
    (subst (λ plan. AreTold m plan (outcomes ++ outcome ∷ []) (old.notes ++ c.told)) (sym (own-next old.number n items d l ∙ ap (λ b. own old.number (planned 0 (take n items)) ++ (if b then planned_as n (get_or items n d) ∷ [] else [])) carries.0))
    (told-more m (own old.number (planned 0 (take n items))) outcomes old.notes (planned_as n (get_or items n d)) outcome c.told are c.is))

-- ---- one item

pub carries-run : (starts : List Boot) (number : ℕ) (p : ProcId) (g : GuestId) (v : VcpuId) (n : ℕ) (old new : Token) (slice : SliceRecord) → p.0 ≡ old.number → Serves (cell_in starts old.number) number v n old g.0 slice new → Carries (machine_of starts) (planned_as number (Run p g v n)) old (Slice slice) new
carries-run starts number p g v n old new slice own served = record {
  told = map (sided g.0) served.told;
  is = (
    served.told,
    subst (λ (k : ℕ). IsSlice (cell_in starts k) number (record { 0 = k }) v n slice served.told) (sym own) served.is,
    refl,
  );
  token = served.token;
}

pub carries-ask : (starts : List Boot) (number : ℕ) (p : ProcId) (g : GuestId) (page : Ppn) (kind : MoveKind) (node : NodeId) (old new : Token) → new ≡ with_told old g.0 (note_of (wish_for page kind node) ∷ []) → Carries (machine_of starts) (planned_as number (Move p g page kind node)) old Asked new
carries-ask starts number p g page kind node old new token = record {
  told = sided g.0 (note_of (wish_for page kind node)) ∷ [];
  is = refl;
  token = token;
}

pub carries-fail : (starts : List Boot) (number : ℕ) (p : ProcId) (cell : CellId) (old new : Token) (ended : List GuestId) → FailsFirst cell (length starts) old new ended
    → Carries (machine_of starts) (planned_as number (Fail p cell)) old (Failure (record { item = number; cell = cell; ended = ended })) new
carries-fail starts number p cell old new ended f = record {
  told = f.told;
  is = record { number = refl; cell_is = refl; fates = f.fates; all = f.all; are = f.are; ended = f.ended_are };
  token = f.token;
}
