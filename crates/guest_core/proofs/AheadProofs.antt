-- What steps that a processor makes by itself leave of a guest.
use Rattle.std.proofs.Common.{◌≡◌, inl, ℕ, zero, suc, ◌+◌, ◌<◌, List, [], ◌∷◌, ◌++◌, length, map, replicate, None, refl, sym, ap, ◌∙◌, subst, arith}
use Rattle.std.proofs.lemmas.List.{append-nil, append_assoc, replicate_more}
use Rattle.std.proofs.lemmas.List.Elements.{All-nil, All-cons}
use Rattle.std.specs.Prelude.{All, flat_map}
use Rattle.base_words.specs.declared.events.Event.{Event}
use Rattle.base_words.specs.declared.events.Event.TheVariants.{Direct}
use Rattle.base_words.specs.declared.ids.ProcId.{ProcId}
use Rattle.base_words.specs.declared.ids.VcpuId.{VcpuId}
use Rattle.cell_depend.specs.Counters.{UsesState}
use Rattle.shootdown.specs.declared.notes.Note.TheVariants.{Made}
use Rattle.shootdown.specs.declared.view.SidedNote.{SidedNote}
use Rattle.shootdown.specs.Notes.{sided}
use Rattle.frame_words.specs.declared.view.View.{View}
use Rattle.isolation_law.specs.Exchange.{Exchanged}
use Rattle.isolation_law.specs.UseChange.{UseChanged}
use Rattle.isolation_law.specs.GuestState.{GuestState}
use Rattle.isolation_law.specs.Run.{Run}
use Rattle.isolation_law.specs.Start.{Boot}
use Rattle.isolation_law.specs.StepRows.{Steps}
use Rattle.isolation_law.specs.WireHistory.{taken_by, Tells}
use Rattle.base_words.specs.declared.trap.HwStep.{HwStep}
use Rattle.base_words.specs.declared.trap.HwStep.TheVariants as steps
use Rattle.guest_course.specs.StepCalls.{StepsMany, StepsTo}
use Rattle.guest_core.specs.GuestView.{entries_due}
use Rattle.guest_core.specs.Holding.{HasFrames}
use Rattle.guest_core.specs.Kept.{Kept}
use Rattle.guest_core.specs.Laws.{MoveLaws, RowLaws, RunLaws}
use Rattle.guest_core.specs.Using.{AreUses}
use Rattle.guest_core.proofs.EnterProofs.{kept-direct}
use Rattle.guest_core.proofs.HoldingLemmas.{frames-stay}
use Rattle.guest_core.proofs.KeptProofs.{direct-due}
use Rattle.guest_core.proofs.UsingProofs.{uses-row}
use Rattle.guest_core.proofs.WiringProofs.{AreQuiet}

-- one more of many
more-of : {A : Type 0} (n : ℕ) (x : A) → replicate n x ++ x ∷ [] ≡ replicate (suc n) x
more-of n x = let next : n + 1 ≡ suc n = omega arith in replicate_more n x ∙ ap (λ (k : ℕ). replicate k x) next

pub map-replicate : {A B : Type 0} (f : A → B) (n : ℕ) (x : A) → map f (replicate n x) ≡ replicate n (f x)
map-replicate f zero x = refl
map-replicate f (suc n) x = ap (λ l. f x ∷ l) (map-replicate f n x)

-- a list that grows by one more of many
grown : {A : Type 0} (l : List A) (n : ℕ) (x : A) → (l ++ replicate n x) ++ x ∷ [] ≡ l ++ replicate (suc n) x
grown l n x = append_assoc l (replicate n x) (x ∷ []) ∙ ap (λ more. l ++ more) (more-of n x)

-- so many steps, however the last one came out
pub many-of : (n : ℕ) (s : GuestState) (p v : ℕ) (t : GuestState) (last : HwStep) → StepsTo n s p v t last → StepsMany n s p v t
many-of n s p v t (steps.Direct access) l = subst (λ (k : ℕ). StepsMany k s p v t) (sym l.count) (l.mid, l.steps, l.last.row)
many-of n s p v t (steps.Trap cause) l = l.steps

-- no packet is told of
pub quiet-many : (s : GuestState) (p : ProcId) (v : VcpuId) (n : ℕ) → AreQuiet s (replicate n (Direct p v))
quiet-many s p v n = record { none = none n; tell = λ t. tell t n }
  where
    none : (k : ℕ) → flat_map (taken_by s.received s.discarded) (replicate k (Direct p v)) ≡ []
    none zero = refl
    none (suc k) = none k

    tell : (t : GuestState) (k : ℕ) → All (Tells t) (replicate k (Direct p v))
    tell t zero = All-nil (Tells t)
    tell t (suc k) = All-cons (Tells t) (Direct p v) (replicate k (Direct p v)) tt (tell t k)

module _ (w : RowLaws) (p : ProcId) (v : VcpuId) where
  pub around-many : (n : ℕ) (s t : GuestState) → StepsMany n s p.0 v.0 t → t.around ≡ s.around
  around-many zero s t is = ap (λ (x : GuestState). x.around) is
  around-many (suc n) s t (m, before, row) = w.around m t (Direct p v) row ∙ around-many n s m before

  pub processors-many : (n : ℕ) (s t : GuestState) → StepsMany n s p.0 v.0 t → length t.processors ≡ length s.processors
  processors-many zero s t is = ap (λ (x : GuestState). length x.processors) is
  processors-many (suc n) s t (m, before, row) = w.processors m t (Direct p v) row ∙ processors-many n s m before

  pub due-many : MoveLaws → (n : ℕ) (s t : GuestState) → StepsMany n s p.0 v.0 t → entries_due t ≡ entries_due s
  due-many moves zero s t is = ap entries_due is
  due-many moves (suc n) s t (m, before, row) = direct-due w moves m t p v row ∙ due-many moves n s m before

  pub run-many : (n : ℕ) (s t : GuestState) → StepsMany n s p.0 v.0 t → Run s (replicate n (Direct p v)) t
  run-many zero s t is = inl is
  run-many (suc n) s t (m, before, row) =
      subst (λ (j : List Event). Run s j t) (more-of n (Direct p v)) (w.grows s m t (replicate n (Direct p v)) (Direct p v) (run-many n s m before) row)

  pub kept-many : RunLaws → (b : Boot) (n : ℕ) (s t : GuestState) (journal : List Event) (notes : List SidedNote) → Kept b s journal notes → p.0 < length s.processors → StepsMany n s p.0 v.0 t
      → Kept b t (journal ++ replicate n (Direct p v)) (notes ++ replicate n (sided p.0 (Made (Direct p v))))
  kept-many r b zero s t journal notes k there is =
      subst (λ (x : GuestState). Kept b x (journal ++ []) (notes ++ [])) (sym is)
      (subst (λ (j : List Event). Kept b s j (notes ++ [])) (sym (append-nil journal)) (subst (Kept b s journal) (sym (append-nil notes)) k))
  kept-many r b (suc n) s t journal notes k there (m, before, row) =
      let e : Event = Direct p v in
      let note : SidedNote = sided p.0 (Made e) in
      let was = kept-many r b n s m journal notes k there before in
      let on = processors-many n s m before in
      let next = kept-direct w r b m t (journal ++ replicate n e) (notes ++ replicate n note) p v was (omega (arith, there, on)) row in
      subst (λ (j : List Event). Kept b t j (notes ++ replicate (suc n) note)) (grown journal n e) (subst (Kept b t ((journal ++ replicate n e) ++ e ∷ [])) (grown notes n note) next)

  module _ (gives : (s t : GuestState) (p v : ℕ) → Steps s p v t → Exchanged s t [] []) where
    pub frames-many : (n : ℕ) (s t : GuestState) (view : View) → StepsMany n s p.0 v.0 t → t.end ≡ None → HasFrames s view → HasFrames t view
    frames-many zero s t view is on k = subst (λ (x : GuestState). HasFrames x view) (sym is) k
    frames-many (suc n) s t view (m, before, row) on k =
        let was = row.goes_on.not_ended in
        frames-stay m t view (gives m t p.0 v.0 row) (w.around m t (Direct p v) row) (on ∙ sym was) (frames-many n s m view before was k)

  module _ (changes : (s t : GuestState) (p v : ℕ) → Steps s p v t → UseChanged s t [] []) where
    pub uses-many : (n : ℕ) (s t : GuestState) (uses : UsesState) → StepsMany n s p.0 v.0 t → AreUses s uses → AreUses t uses
    uses-many zero s t uses is k = subst (λ (x : GuestState). AreUses x uses) (sym is) k
    uses-many (suc n) s t uses (m, before, row) k =
        uses-row w m t (Direct p v) uses row (changes m t p.0 v.0 row) (λ r. refl) (uses-many n s m uses before k)
