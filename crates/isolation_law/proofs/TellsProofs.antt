-- What entries and runs tell of skips and ends.
use Rattle.std.proofs.Common.{◌≡◌, ℕ, ◌+◌, ◌≤◌, if◌then◌else◌, cond, Bool, true, false, ⊎_elim, Some, None, List, [], ◌∷◌, ◌++◌, refl, sym, ap, ◌∙◌, subst, arith, eq-eqb}
use Rattle.std.specs.Prelude.{flat_map, count_by}
use Rattle.std.proofs.lemmas.List.Sums.{sum_by-append, sum_by-cons}
use Rattle.base_words.specs.declared.events.End.{End}
use Rattle.base_words.specs.declared.events.End.TheVariants.{Halted, Budget, CellFailed}
use Rattle.base_words.specs.declared.events.Event.{Event}
use Rattle.base_words.specs.declared.events.Event.TheVariants.{Load, Unload, Direct, Refill, Emulate, Begin, Ack, Finish, PacketIn, Discard, Skip, CellFails, End as Ending}
use Rattle.isolation_law.specs.Parts.{SkipEntry}
use Rattle.isolation_law.specs.GuestState.{GuestState, is_dead}
use Rattle.isolation_law.specs.CellFailure.{failure_of, is_failure, FoundInUse}
use Rattle.isolation_law.specs.EndRows.{MayEnd}
use Rattle.isolation_law.specs.EntryTells.{skip_of, AddsSkips}
use Rattle.isolation_law.specs.MachineEvent.{Row}
use Rattle.isolation_law.specs.PacketRows.{ComesToHand}
use Rattle.isolation_law.specs.Run.{Silent, Run}
use Rattle.isolation_law.specs.Start.{Boot, start}
use Rattle.isolation_law.proofs.FailureProofs.{row-left, failures-counted}

-- ---- skips

pub row-skips : (s t : GuestState) (e : Event) → Row s e t → AddsSkips s.skips (skip_of e) t.skips
row-skips s t (Load p v) row = (row-left s t (Load p v) row).skips refl
row-skips s t (Unload p) row = (row-left s t (Unload p) row).skips refl
row-skips s t (Direct p v) row = (row-left s t (Direct p v) row).skips refl
row-skips s t (Refill p) row = (row-left s t (Refill p) row).skips refl
row-skips s t (Emulate p v) row = (row-left s t (Emulate p v) row).skips refl
row-skips s t (Begin q kind node by) row = (row-left s t (Begin q kind node by) row).skips refl
row-skips s t (Ack p q) row = (row-left s t (Ack p q) row).skips refl
row-skips s t (Finish q) row = (row-left s t (Finish q) row).skips refl
row-skips s t (PacketIn k) row = (row-left s t (PacketIn k) row).skips refl
row-skips s t (Discard k) row = (row-left s t (Discard k) row).skips refl
row-skips s t (Skip k) row = (row.next, (row.entry, ap (λ (x : GuestState). x.skips) row.after))
row-skips s t (CellFails c) row = (row-left s t (CellFails c) row).skips refl
row-skips s t (Ending end) row = (row-left s t (Ending end) row).skips refl

adds-all : (old mid new : List SkipEntry) (first next : List ℕ) → AddsSkips old first mid → AddsSkips mid next new → AddsSkips old (first ++ next) new
adds-all old mid new [] next a b = subst (λ (l : List SkipEntry). AddsSkips l next new) a b
adds-all old mid new (k ∷ first) next a b = (a.0, (a.1.0, adds-all (old ++ a.1.0 ∷ []) mid new first next a.1.1 b))

silent-skips : (s t : GuestState) → Silent s t → t.skips ≡ s.skips
silent-skips s t silent = ⊎_elim (λ (e : t ≡ s). ap (λ (x : GuestState). x.skips) e) (λ (x : ComesToHand s t). ap (λ (y : GuestState). y.skips) x.after) silent

pub run-skips : (s t : GuestState) (journal : List Event) → Run s journal t → AddsSkips s.skips (flat_map skip_of journal) t.skips
run-skips s t [] run = silent-skips s t run
run-skips s t (e ∷ journal) run =
    adds-all s.skips run.1.skips t.skips (skip_of e) (flat_map skip_of journal)
    (subst (λ (l : List SkipEntry). AddsSkips l (skip_of e) run.1.skips) (silent-skips s run.0 run.2) (row-skips run.0 run.1 e run.3))
    (run-skips run.1 t journal run.4)

-- ---- ends

may-on : (s : GuestState) (end : End) → MayEnd s end → s.end ≡ None
may-on s Halted may = may.0
may-on s Budget may = may.not_ended
may-on s (CellFailed c) may = may.0

pub row-ends : (s t : GuestState) (e : Event) (end : End) → Row s e t → s.end ≡ Some end → t.end ≡ Some end
row-ends s t (Load p v) end row is = (row-left s t (Load p v) row).end ∙ is
row-ends s t (Unload p) end row is = (row-left s t (Unload p) row).end ∙ is
row-ends s t (Direct p v) end row is = (row-left s t (Direct p v) row).end ∙ is
row-ends s t (Refill p) end row is = (row-left s t (Refill p) row).end ∙ is
row-ends s t (Emulate p v) end row is = (row-left s t (Emulate p v) row).end ∙ is
row-ends s t (Begin q kind node by) end row is = (row-left s t (Begin q kind node by) row).end ∙ is
row-ends s t (Ack p q) end row is = (row-left s t (Ack p q) row).end ∙ is
row-ends s t (Finish q) end row is = (row-left s t (Finish q) row).end ∙ is
row-ends s t (PacketIn k) end row is = (row-left s t (PacketIn k) row).end ∙ is
row-ends s t (Discard k) end row is = (row-left s t (Discard k) row).end ∙ is
row-ends s t (Skip k) end row is = (row-left s t (Skip k) row).end ∙ is
row-ends s t (CellFails c) end row is = (row-left s t (CellFails c) row).end ∙ is
row-ends s t (Ending new) end row is = absurd (let no : None ≡ Some end = sym (may-on s new row.may) ∙ is in cc)

-- ---- who ends by a cell has it dead

certain : (b : Bool) → b ≡ true → cond {A = ℕ} b 1 0 ≡ 1
certain true e = refl
certain false e = cc

some-failure : (c : ℕ) (before rest : List Event) → 1 ≤ count_by (is_failure c) (before ++ failure_of c ∷ rest)
some-failure c before rest =
    let all : count_by (is_failure c) (before ++ failure_of c ∷ rest) ≡ count_by (is_failure c) before + count_by (is_failure c) (failure_of c ∷ rest) = sum_by-append (λ (x : Event). cond {A = ℕ} (is_failure c x) 1 0) before (failure_of c ∷ rest) in
    let first : count_by (is_failure c) (failure_of c ∷ rest) ≡ cond {A = ℕ} (is_failure c (failure_of c)) 1 0 + count_by (is_failure c) rest = sum_by-cons (λ (x : Event). cond {A = ℕ} (is_failure c x) 1 0) (failure_of c) rest in
    let one = certain (is_failure c (failure_of c)) (eq-eqb c c refl) in
    omega (arith, all, first, one)

dead-by : (dead : Bool) (n : ℕ) → n ≡ (if dead then 1 else 0) → 1 ≤ n → dead ≡ true
dead-by true n e some = refl
dead-by false n e some = absurd (omega (arith, e, some))

pub found-dead : (b : Boot) (journal : List Event) (t : GuestState) (c : ℕ) → Run (start b) journal t → FoundInUse (start b) journal c → is_dead t c ≡ true
found-dead b journal t c run found =
    let some = some-failure c found.before found.rest in
    let count = ap (λ (l : List Event). count_by (is_failure c) l) found.stands in
    dead-by (is_dead t c) (count_by (is_failure c) journal) (failures-counted b t journal c run) (omega (arith, some, count))
