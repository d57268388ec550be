-- A turn's entries, and what is kept after them.
use Rattle.std.proofs.Common.{◌≡◌, inl, ℕ, ◌<◌, Bool, true, false, List, [], ◌∷◌, ◌++◌, Option, Some, None, option_map, length, refl, sym, ap, ◌∙◌, if◌then◌else◌, subst}
use Rattle.std.proofs.lemmas.List.{append-nil, append_assoc}
use Rattle.base_words.specs.declared.events.Event.{Event}
use Rattle.base_words.specs.declared.events.Event.TheVariants.{Direct, Refill, Emulate, End as Ending}
use Rattle.base_words.specs.declared.events.End.TheVariants.{Halted as ByHalt}
use Rattle.base_words.specs.declared.ids.ProcId.{ProcId}
use Rattle.base_words.specs.declared.ids.VcpuId.{VcpuId}
use Rattle.shootdown.specs.declared.notes.Note.TheVariants.{Made}
use Rattle.shootdown.specs.declared.view.SidedNote.{SidedNote}
use Rattle.shootdown.specs.Notes.{Seat, Token, sided}
use Rattle.isolation_law.specs.GuestState.{GuestState}
use Rattle.isolation_law.specs.MachineEvent.{Row}
use Rattle.isolation_law.specs.Phases.{all_halted, GoesOn}
use Rattle.isolation_law.specs.RefillRow.{Refills}
use Rattle.isolation_law.specs.Run.{Run}
use Rattle.isolation_law.specs.Start.{Boot}
use Rattle.isolation_law.specs.StepRows.{Steps}
use Rattle.guest_core.specs.GuestCalls.{Learns, Leaves, SendsOut, TurnsEmulate, UsesPage, end_of, step_entries}
use Rattle.wire_queue.specs.declared.packet.WirePacket.{WirePacket}
use Rattle.std.specs.Option.{option_and_then}
use Rattle.private_machine.specs.Backing.{Page}
use Rattle.guest_course.specs.declared.course.Course.{Course}
use Rattle.guest_course.specs.EndCalls.{letting_go}
use Rattle.guest_course.specs.TakingCalls.{handed_in, whole_of}
use Rattle.guest_core.specs.GuestView.{Monitored, Shared}
use Rattle.frame_words.specs.declared.view.View.{View}
use Rattle.guest_course.specs.Acting.{page_used}
use Rattle.guest_course.specs.EmulateCalls.{UsesNoPage}
use Rattle.guest_core.specs.Making.{Makes}
use Rattle.guest_core.specs.MoveCalls.{IsAtRest}
use Rattle.guest_course.specs.CourseView.{hand_of, state_of}
use Rattle.guest_core.specs.declared.parts.Parts.{Parts}
use Rattle.guest_core.specs.Kept.{Kept, IsKept}
use Rattle.guest_core.specs.TurnParts.{Concludes, Quietly}
use Rattle.guest_core.specs.Laws.{RowLaws, RunLaws}
use Rattle.guest_core.proofs.HandProofs.{Grows}
use Rattle.guest_core.proofs.KeptProofs.{kept-one, kept-none}
use Rattle.guest_core.proofs.LettingLemmas.{kept-closed}

pub kept-direct : RowLaws → RunLaws → (b : Boot) (s t : GuestState) (journal : List Event) (notes : List SidedNote) (p : ProcId) (v : VcpuId) → Kept b s journal notes → p.0 < length s.processors
    → Steps s p.0 v.0 t → Kept b t (journal ++ Direct p v ∷ []) (notes ++ sided p.0 (Made (Direct p v)) ∷ [])
kept-direct w r b s t journal notes p v k there row =
    kept-one w r b s t journal notes (Direct p v) (sided p.0 (Made (Direct p v))) k row refl there

pub kept-refill : RowLaws → RunLaws → (b : Boot) (s t : GuestState) (journal : List Event) (notes : List SidedNote) (p : ProcId) → Kept b s journal notes → Refills s p.0 t → Kept b t (journal ++ Refill p ∷ []) notes
kept-refill w r b s t journal notes p k row = kept-none w r b s t journal notes (Refill p) k row refl

-- a step by the monitor's hand, and the end where it halted the last virtual processor
pub concluded : (halted : Bool) → Grows → RowLaws → RunLaws → (b : Boot) (m t : GuestState) (pages : List Page) (journal : List Event) (notes : List SidedNote) (p : ProcId) (v : VcpuId) → Kept b m (journal ++ Emulate p v ∷ []) notes → Concludes halted m t → pages ≡ m.pages
    → Kept b t (journal ++ step_entries p v halted pages) notes
concluded false grows w r b m t pages journal notes p v k is same = subst (λ (x : GuestState). Kept b x (journal ++ Emulate p v ∷ []) notes) (sym is) k
concluded true grows w r b m t pages journal notes p v k is same =
    subst (λ (j : List Event). Kept b t j notes) (append_assoc journal (Emulate p v ∷ []) (letting_go 0 pages ++ Ending ByHalt ∷ []))
    (kept-closed grows w r b m t (journal ++ Emulate p v ∷ []) pages ByHalt notes k (subst (λ (l : List Page). Run m (letting_go 0 l ++ Ending ByHalt ∷ []) t) (sym same) is))

pub kept-step : RowLaws → RunLaws → (b : Boot) (s m : GuestState) (journal : List Event) (notes : List SidedNote) (p : ProcId) (v : VcpuId) → Kept b s journal notes → p.0 < length s.processors → Row s (Emulate p v) m
    → Kept b m (journal ++ Emulate p v ∷ []) (notes ++ sided p.0 (Made (Emulate p v)) ∷ [])
kept-step w r b s m journal notes p v k there row = kept-one w r b s m journal notes (Emulate p v) (sided p.0 (Made (Emulate p v))) k row refl there

-- ---- what is kept, told of the journal and the notes that there are

pub of-these : (b : Boot) (s : GuestState) (journal journal' : List Event) (notes notes' : List SidedNote) → journal' ≡ journal → notes' ≡ notes → Kept b s journal notes → Kept b s journal' notes'
of-these b s journal journal' notes notes' j n k = subst (λ (l : List Event). Kept b s l notes') (sym j) (subst (λ (l : List SidedNote). Kept b s journal l) (sym n) k)

-- a note of an answer that makes no entry
pub noted-kept : (g : Parts) (seat : Seat) (n : SidedNote) → IsKept g → seat ≡ record g.seat { notes = g.seat.notes ++ n ∷ [] } → Kept g.start (state_of g.course) g.journal.entries (g.seat.notes ++ n ∷ []) → IsKept (record g { seat = seat })
noted-kept g seat n k is kept = record {
  sound = k.sound;
  seat = ap (λ (x : Seat). x.number) is ∙ k.seat;
  booted = k.booted;
  kept = of-these g.start (state_of g.course) _ _ _ _ refl (ap (λ (x : Seat). x.notes) is) kept;
  goes_on = k.goes_on;
  frames = k.frames;
  used = k.used;
  at_home = k.at_home;
  owed = k.owed;
  few_guests = k.few_guests;
  wired = k.wired;
  posted = k.posted;
}

-- ---- what a turn made

pub one-row : (s t : GuestState) (e : Event) → Row s e t → Run s (e ∷ []) t
one-row s t e row = (s, t, inl refl, row, inl refl)

pub step-run : (halted : Bool) (s m t : GuestState) (p : ProcId) (v : VcpuId) → Row s (Emulate p v) m → Concludes halted m t → Run s (step_entries p v halted m.pages) t
step-run true s m t p v row is = (s, m, inl refl, row, is)
step-run false s m t p v row is = (s, m, inl refl, row, inl is)

-- nothing is noted
pub learns-none : (old new : Monitored) (token : Token) → new.notes ≡ old.notes → Learns old token [] new token
learns-none old new token same = record {
  seat = same ∙ sym (append-nil old.notes);
  token_is = ap (λ (l : List SidedNote). record token { notes = l }) (sym (append-nil token.notes));
}

-- ---- a step that ended nothing

pub runs-on : (t : GuestState) → GoesOn t → all_halted t.vcpus ≡ false
runs-on t on = by (all_halted t.vcpus) refl
  where
    no : Some ByHalt ≡ None → ⊥
    no e = cc

    by : (b : Bool) → all_halted t.vcpus ≡ b → all_halted t.vcpus ≡ false
    by true is = absurd (no (sym (ap (λ (b : Bool). if b then Some ByHalt else t.closing) is) ∙ on.owes_no_end))
    by false is = is

pub stepped-on : (shared : Shared) (old new : Monitored) (p : ProcId) (v : VcpuId) → IsAtRest old.state p.0 → UsesPage shared old.disk old.state v.0 old.view new.view → Row old.state (Emulate p v) new.state → GoesOn new.state → Makes old (Emulate p v ∷ []) new → SendsOut old v.0 new
    → TurnsEmulate shared old p v new
stepped-on shared old new p v rest uses row on makes sends =
    let runs = runs-on new.state on in
    record {
      rest = rest;
      uses = uses;
      mid = new.state;
      step = row;
      makes = subst (λ (b : Bool). Makes old (step_entries p v b new.state.pages) new) (sym runs) makes;
      end = on.not_ended ∙ sym (ap end_of runs);
      sends = sends;
    }

-- a step that uses no page
pub uses-none : (shared : Shared) (disk : ℕ) (s : GuestState) (v : ℕ) (old new : View) → UsesNoPage s v → UsesPage shared disk s v old new
uses-none shared disk s v old new none = record {
  free = λ q at. absurd (no q (sym none ∙ at));
  copies = λ b q at rests. absurd (no q (sym none ∙ ap page_used at));
  plain = λ q length to need at is. absurd (no q (sym none ∙ ap page_used at));
}
  where
    no : (q : ℕ) → None ≡ Some q → ⊥
    no q e = cc

-- ---- a call for which nothing is told

pub quiet-leaves : (old new : Monitored) (token : Token) → Quietly old new → Leaves old token [] new token
quiet-leaves old new token q = record { learns = learns-none old new token q.notes; same = q.same; handed = q.handed; room = q.room }

-- what the packet in hand hands on is told by what is in hand
pub handed-same : (c d : Course) → d.hand ≡ c.hand → handed_in d ≡ handed_in c
handed-same c d same = ap (λ (h : Option WirePacket). option_and_then whole_of h) same

-- who has no packet in hand has none that hands on a frame
pub none-handed : (c : Course) → (state_of c).hand ≡ None → handed_in c ≡ None
none-handed c none = by c.hand none
  where
    no : (packet : WirePacket) → Some (hand_of packet) ≡ None → ⊥
    no packet e = cc

    by : (hand : Option WirePacket) → option_map hand_of hand ≡ None → option_and_then whole_of hand ≡ None
    by None e = refl
    by (Some packet) e = absurd (no packet e)
