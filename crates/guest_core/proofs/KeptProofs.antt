-- What an entry leaves of what the type of a guest keeps.
use Rattle.std.proofs.Common.{◌≡◌, inl, inr, ℕ, suc, ◌<◌, ◌≤◌, List, [], ◌∷◌, ◌++◌, Option, Some, None, length, refl, sym, ap, ◌∙◌, subst, arith}
use Rattle.std.specs.Prelude.{All}
use Rattle.std.proofs.lemmas.List.{append-nil}
use Rattle.std.proofs.lemmas.List.Elements.{All-nil, All-cons}
use Rattle.base_words.specs.declared.events.Event.{Event}
use Rattle.base_words.specs.declared.events.Event.TheVariants.{Direct, Refill, Emulate, Begin, Ack, Finish, Load, Unload, PacketIn, Discard, Skip, CellFails, End as Ending}
use Rattle.base_words.specs.declared.events.End.{End}
use Rattle.base_words.specs.declared.ids.NodeId.{NodeId}
use Rattle.base_words.specs.declared.ids.Ppn.{Ppn}
use Rattle.base_words.specs.declared.ids.ProcId.{ProcId}
use Rattle.base_words.specs.declared.ids.VcpuId.{VcpuId}
use Rattle.base_words.specs.declared.moves.By.{By}
use Rattle.base_words.specs.declared.moves.MoveKind.{MoveKind}
use Rattle.private_machine.specs.DeviceAct.{Act, StoresTo, ReadsDisk, WritesDisk, SendsPage, WritesEntry, NoAct}
use Rattle.shootdown.specs.declared.view.SidedNote.{SidedNote}
use Rattle.isolation_law.specs.EndRows.{Ends, CellFailsIn}
use Rattle.isolation_law.specs.GuestState.{GuestState, processor}
use Rattle.isolation_law.specs.LoadRows.{Loads, Unloads, Acks}
use Rattle.isolation_law.specs.LoadsIn.{loaded_after}
use Rattle.isolation_law.specs.MachineEvent.{Row}
use Rattle.isolation_law.specs.MoveRows.{Begins, Finishes}
use Rattle.isolation_law.specs.PacketRows.{EndsDelivery, Receives, Discards}
use Rattle.isolation_law.specs.RefillRow.{Refills}
use Rattle.isolation_law.specs.SkipRow.{Skips}
use Rattle.isolation_law.specs.Start.{Boot, start as started}
use Rattle.isolation_law.specs.StepRows.{Steps, Emulates, EndsRead, act_done}
use Rattle.guest_core.specs.GuestView.{loaded_count, entries_due}
use Rattle.guest_core.specs.Kept.{Kept}
use Rattle.guest_core.specs.EntryNotes.{note_of_entry, IsAnswer}
use Rattle.guest_core.specs.Noting.{HoldsOf}
use Rattle.guest_core.specs.Laws.{MoveLaws, RowLaws, RunLaws}
use Rattle.guest_core.proofs.CountLemmas.{count-same, count-loaded, count-unloaded}
use Rattle.guest_core.proofs.NoteLemmas.{noted-entry, noted-answer}
use Rattle.base_words.specs.declared.ids.CellId.{CellId}

-- the note of an entry is of a processor that is there
abbrev pub AreThere : GuestState → List SidedNote → Type 0
AreThere s notes = All (λ (n : SidedNote). n.side < length s.processors) notes

pub kept-entry : RowLaws → RunLaws → (b : Boot) (s t : GuestState) (journal : List Event) (notes : List SidedNote) (e : Event) (side : ℕ) → Kept b s journal notes → Row s e t
    → AreThere s (note_of_entry side t.skips e) → Kept b t (journal ++ e ∷ []) (notes ++ note_of_entry side t.skips e)
kept-entry w r b s t journal notes e side k row there = record {
  run = w.grows (started b) s t journal e k.run row;
  noted = noted-entry w r b s t journal notes e side k.run k.noted row there;
  around = w.around s t e row ∙ k.around;
  processors = w.processors s t e row ∙ k.processors;
  vcpus = w.count s t e row ∙ k.vcpus;
}

pub kept-one : RowLaws → RunLaws → (b : Boot) (s t : GuestState) (journal : List Event) (notes : List SidedNote) (e : Event) (n : SidedNote) → Kept b s journal notes → Row s e t
    → note_of_entry n.side t.skips e ≡ n ∷ [] → n.side < length s.processors → Kept b t (journal ++ e ∷ []) (notes ++ n ∷ [])
kept-one w r b s t journal notes e n k row is there =
    let all = All-cons (λ (m : SidedNote). m.side < length s.processors) n [] there (All-nil _) in
    subst (λ (more : List SidedNote). Kept b t (journal ++ e ∷ []) (notes ++ more)) is (kept-entry w r b s t journal notes e n.side k row (subst (AreThere s) (sym is) all))

pub kept-none : RowLaws → RunLaws → (b : Boot) (s t : GuestState) (journal : List Event) (notes : List SidedNote) (e : Event) → Kept b s journal notes → Row s e t
    → note_of_entry 0 t.skips e ≡ [] → Kept b t (journal ++ e ∷ []) notes
kept-none w r b s t journal notes e k row none =
    let all = kept-entry w r b s t journal notes e 0 k row (subst (AreThere s) (sym none) (All-nil _)) in
    subst (Kept b t (journal ++ e ∷ [])) (ap (λ (more : List SidedNote). notes ++ more) none ∙ append-nil notes) all

-- an answer that is noted, with no entry
pub kept-answer : RunLaws → (b : Boot) (s : GuestState) (journal : List Event) (notes : List SidedNote) (n : SidedNote) → Kept b s journal notes → n.side < length s.processors → IsAnswer n.note → HoldsOf s n.note
    → Kept b s journal (notes ++ n ∷ [])
kept-answer r b s journal notes n k there is holds = record {
  run = k.run;
  noted = noted-answer r b s journal notes n k.run k.noted there is holds;
  around = k.around;
  processors = k.processors;
  vcpus = k.vcpus;
}

act-end : (s : GuestState) (p v : ℕ) (act : Act) → (act_done s p v act).end ≡ s.end
act-end s p v (StoresTo q) = refl
act-end s p v (ReadsDisk b q) = refl
act-end s p v (WritesDisk b q) = refl
act-end s p v (SendsPage q length to) = refl
act-end s p v (WritesEntry index) = refl
act-end s p v NoAct = refl

pub emulate-end : (s t : GuestState) (p v : ℕ) → Emulates s p v t → t.end ≡ None
emulate-end s t p v row = ap (λ x. x.end) row.after ∙ act-end s p v _ ∙ row.traps.goes_on.not_ended

-- ---- what is loaded

pub one-fewer : RowLaws → (s t : GuestState) (p : ProcId) → Unloads s p.0 t → p.0 < length s.processors → suc (loaded_count t) ≡ loaded_count s
one-fewer w s t p row lt = by (processor s p.0).loaded refl
  where
    by : (l : Option ℕ) → (processor s p.0).loaded ≡ l → suc (loaded_count t) ≡ loaded_count s
    by None e = absurd (row.loaded e)
    by (Some v) e = count-unloaded s.processors t.processors p.0 v lt (w.processors s t (Unload p) row) (λ r. w.loaded s t (Unload p) r row) e

pub one-more : RowLaws → (s t : GuestState) (p : ProcId) (v : VcpuId) → Loads s p.0 v.0 t → loaded_count t ≡ suc (loaded_count s)
one-more w s t p v row = count-loaded s.processors t.processors p.0 v.0 row.is_processor (w.processors s t (Load p v) row) (λ r. w.loaded s t (Load p v) r row) row.free

pub as-many : RowLaws → (s t : GuestState) (e : Event) → Row s e t → ((r : ℕ) → loaded_after e r (processor s r).loaded ≡ (processor s r).loaded) → loaded_count t ≡ loaded_count s
as-many w s t e row same = count-same s.processors t.processors (w.processors s t e row) (λ r. w.loaded s t e r row ∙ same r)

-- ---- which entries are still to come

pub load-due : RowLaws → MoveLaws → (s t : GuestState) (p : ProcId) (v : VcpuId) → Loads s p.0 v.0 t → entries_due t ≡ suc (entries_due s)
load-due w m s t p v row = omega (arith, one-more w s t p v row, m.loads s t p.0 v.0 row)

pub unload-due : RowLaws → MoveLaws → (s t : GuestState) (p : ProcId) → Unloads s p.0 t → p.0 < length s.processors → suc (entries_due t) ≡ entries_due s
unload-due w m s t p row lt = omega (arith, one-fewer w s t p row lt, m.unloads s t p.0 row)

pub direct-due : RowLaws → MoveLaws → (s t : GuestState) (p : ProcId) (v : VcpuId) → Steps s p.0 v.0 t → entries_due t ≡ entries_due s
direct-due w m s t p v row = omega (arith, as-many w s t (Direct p v) row (λ r. refl), m.steps s t p.0 v.0 row)

pub refill-due : RowLaws → MoveLaws → (s t : GuestState) (p : ProcId) → Refills s p.0 t → entries_due t ≡ entries_due s
refill-due w m s t p row = omega (arith, as-many w s t (Refill p) row (λ r. refl), m.refills s t p.0 row)

pub emulate-due : RowLaws → MoveLaws → (s t : GuestState) (p : ProcId) (v : VcpuId) → Emulates s p.0 v.0 t → entries_due t ≡ entries_due s
emulate-due w m s t p v row = omega (arith, as-many w s t (Emulate p v) (inl row) (λ r. refl), m.emulates s t p.0 v.0 row)

pub read-due : RowLaws → MoveLaws → (s t : GuestState) (p : ProcId) (v : VcpuId) → EndsRead s p.0 v.0 t → suc (entries_due t) ≡ entries_due s
read-due w m s t p v row = omega (arith, as-many w s t (Emulate p v) (inr row) (λ r. refl), m.ends_read s t p.0 v.0 row)

pub begin-due : RowLaws → MoveLaws → (s t : GuestState) (q : Ppn) (kind : MoveKind) (node : NodeId) (by : By) → Begins s q.0 kind node.0 by t → entries_due t ≡ suc (entries_due s)
begin-due w m s t q kind node by row = omega (arith, as-many w s t (Begin q kind node by) row (λ r. refl), m.begins s t q.0 kind node.0 by row)

pub ack-due : RowLaws → MoveLaws → (s t : GuestState) (p : ProcId) (q : Ppn) → Acks s p.0 q.0 t → entries_due t ≡ entries_due s
ack-due w m s t p q row = omega (arith, as-many w s t (Ack p q) row (λ r. refl), m.acks s t p.0 q.0 row)

pub finish-due : RowLaws → MoveLaws → (s t : GuestState) (q : Ppn) → Finishes s q.0 t → suc (entries_due t) ≡ entries_due s
finish-due w m s t q row = omega (arith, as-many w s t (Finish q) (inl row) (λ r. refl), m.finishes s t q.0 row)

pub receive-due : RowLaws → MoveLaws → (s t : GuestState) (k : ℕ) → Receives s k t → entries_due t ≡ entries_due s
receive-due w m s t k row = omega (arith, as-many w s t (PacketIn k) (inl row) (λ r. refl), m.receives s t k row)

pub ended-due : RowLaws → MoveLaws → (s t : GuestState) (k : ℕ) → EndsDelivery s k t → suc (entries_due t) ≡ entries_due s
ended-due w m s t k row = omega (arith, as-many w s t (PacketIn k) (inr row) (λ r. refl), m.ends_delivery s t k row)

pub discard-due : RowLaws → MoveLaws → (s t : GuestState) (k : ℕ) → Discards s k t → entries_due t ≡ entries_due s
discard-due w m s t k row = omega (arith, as-many w s t (Discard k) row (λ r. refl), m.discards s t k row)

pub fail-due : RowLaws → MoveLaws → (s t : GuestState) (c : CellId) → CellFailsIn s c.0 t → entries_due t ≡ entries_due s
fail-due w m s t c row = omega (arith, as-many w s t (CellFails c) row (λ r. refl), m.fails s t c.0 row)

pub skip-due : RowLaws → MoveLaws → (s t : GuestState) (k : ℕ) → Skips s k t → entries_due t ≡ entries_due s
skip-due w m s t k row = omega (arith, as-many w s t (Skip k) row (λ r. refl), m.skips s t k row)

-- no page is left at the end
pub end-due : RowLaws → MoveLaws → (s t : GuestState) (end : End) → Ends s end t → entries_due t ≤ entries_due s
end-due w m s t end row = omega (arith, as-many w s t (Ending end) row (λ r. refl), m.ends s t end row)
