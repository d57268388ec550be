-- Laws of a guest's entries and of its packets, gathered.
use Rattle.std.specs.Prelude.{◌≡◌, ℕ, suc, ◌≤◌, List, [], ◌∷◌, ◌++◌, true, false, All, Some, length, flat_map}
use Rattle.base_words.specs.declared.events.End.{End}
use Rattle.base_words.specs.declared.events.Event.{Event}
use Rattle.base_words.specs.declared.events.Event.TheVariants.{PacketIn, Discard}
use Rattle.base_words.specs.declared.moves.By.{By}
use Rattle.base_words.specs.declared.moves.MoveKind.{MoveKind}
use Rattle.private_machine.specs.Operation.{Packet}
use Rattle.isolation_law.specs.CellFailure.{end_by, failure_of, is_failure, EndsAs}
use Rattle.isolation_law.specs.EndRows.{Ends, LetsGo, CellFailsIn}
use Rattle.isolation_law.specs.EntryTells.{skip_of, AddsSkips}
use Rattle.isolation_law.specs.GuestState.{GuestState, processor, vcpu_of, is_dead}
use Rattle.isolation_law.specs.LiveCells.{UsesLive}
use Rattle.isolation_law.specs.LoadRows.{Loads, Unloads, Acks}
use Rattle.isolation_law.specs.LoadsIn.{loaded_after}
use Rattle.isolation_law.specs.MachineEvent.{Row}
use Rattle.isolation_law.specs.MoveRows.{Begins, Finishes}
use Rattle.isolation_law.specs.PacketRows.{ComesToHand, EndsDelivery, Receives, Discards}
use Rattle.isolation_law.specs.Phases.{GoesOn}
use Rattle.isolation_law.specs.RefillRow.{Refills}
use Rattle.isolation_law.specs.Run.{Run}
use Rattle.isolation_law.specs.SkipRow.{Skips}
use Rattle.isolation_law.specs.Start.{Boot, start}
use Rattle.isolation_law.specs.StepRows.{Steps, Emulates, EndsRead}
use Rattle.isolation_law.specs.Surroundings.{cell_of_processor}
use Rattle.isolation_law.specs.WireHistory.{AreAccepted, taken_by, taken, Tells, TakesNothing}
use Rattle.guest_core.specs.GuestView.{open_count}

-- an entry keeps these of a guest, and a run with an entry is a run; what it leaves of skips, failed cells and the end
pub record RowLaws : Type 0 where
  pub halts : (s t : GuestState) (e : Event) (v : ℕ) → Row s e t → (vcpu_of s v).halted ≡ true → (vcpu_of t v).halted ≡ true
  pub count : (s t : GuestState) (e : Event) → Row s e t → length t.vcpus ≡ length s.vcpus
  pub processors : (s t : GuestState) (e : Event) → Row s e t → length t.processors ≡ length s.processors
  pub loaded : (s t : GuestState) (e : Event) (r : ℕ) → Row s e t → (processor t r).loaded ≡ loaded_after e r (processor s r).loaded
  pub grows : (s m t : GuestState) (journal : List Event) (e : Event) → Run s journal m → Row m e t → Run s (journal ++ e ∷ []) t
  pub around : (s t : GuestState) (e : Event) → Row s e t → t.around ≡ s.around
  pub skips : (s t : GuestState) (e : Event) → Row s e t → AddsSkips s.skips (skip_of e) t.skips
  pub stays_dead : (s t : GuestState) (e : Event) (c : ℕ) → Row s e t → is_dead s c ≡ true → is_dead t c ≡ true
  pub fails : (s t : GuestState) (e : Event) (c : ℕ) → Row s e t → is_failure c e ≡ true → (is_dead s c ≡ false) × (is_dead t c ≡ true)
  pub ends : (s t : GuestState) (e : Event) (end : End) → Row s e t → s.end ≡ Some end → t.end ≡ Some end
  pub outlives : (s t : GuestState) (e : Event) (c : ℕ) → (EndsAs s (end_by c) → ⊥) → Row s e t → EndsAs t (end_by c) → e ≡ failure_of c
  pub alive : (s : GuestState) (p v : ℕ) → UsesLive s → GoesOn s → (processor s p).loaded ≡ Some v → is_dead s (cell_of_processor s.around p) ≡ false

-- what a run tells of its skips and of failed cells
pub record RunLaws : Type 0 where
  pub live : (b : Boot) (journal : List Event) (t : GuestState) → Run (start b) journal t → UsesLive t
  pub skips : (b : Boot) (journal : List Event) (t : GuestState) → Run (start b) journal t → AddsSkips [] (flat_map skip_of journal) t.skips
  pub ended : (b : Boot) (journal : List Event) (t : GuestState) (c : ℕ) → Run (start b) journal t → EndsAs t (end_by c) → is_dead t c ≡ true

-- how many pages have a move after an entry, and where a packet comes to hand
pub record MoveLaws : Type 0 where
  pub loads : (s t : GuestState) (p v : ℕ) → Loads s p v t → open_count t ≡ open_count s
  pub unloads : (s t : GuestState) (p : ℕ) → Unloads s p t → open_count t ≡ open_count s
  pub steps : (s t : GuestState) (p v : ℕ) → Steps s p v t → open_count t ≡ open_count s
  pub refills : (s t : GuestState) (p : ℕ) → Refills s p t → open_count t ≡ open_count s
  pub emulates : (s t : GuestState) (p v : ℕ) → Emulates s p v t → open_count t ≡ open_count s
  pub begins : (s t : GuestState) (q : ℕ) (kind : MoveKind) (node : ℕ) (by : By) → Begins s q kind node by t → open_count t ≡ suc (open_count s)
  pub ends_read : (s t : GuestState) (p v : ℕ) → EndsRead s p v t → suc (open_count t) ≡ open_count s
  pub acks : (s t : GuestState) (p q : ℕ) → Acks s p q t → open_count t ≡ open_count s
  pub finishes : (s t : GuestState) (q : ℕ) → Finishes s q t → suc (open_count t) ≡ open_count s
  pub comes_to_hand : (s t : GuestState) → ComesToHand s t → open_count t ≡ open_count s
  pub lets_go : (s t : GuestState) (q : ℕ) → LetsGo s q t → suc (open_count t) ≡ open_count s
  pub receives : (s t : GuestState) (k : ℕ) → Receives s k t → open_count t ≡ open_count s
  pub ends_delivery : (s t : GuestState) (k : ℕ) → EndsDelivery s k t → suc (open_count t) ≡ open_count s
  pub skips : (s t : GuestState) (k : ℕ) → Skips s k t → open_count t ≡ open_count s
  pub discards : (s t : GuestState) (k : ℕ) → Discards s k t → open_count t ≡ open_count s
  pub fails : (s t : GuestState) (c : ℕ) → CellFailsIn s c t → open_count t ≡ open_count s
  pub ends : (s t : GuestState) (end : End) → Ends s end t → open_count t ≡ 0

-- a packet that is sent is accepted, or the wire is full
pub record SendLaws : Type 0 where
  pub accepted : (sent accepted : List Packet) (p : Packet) → AreAccepted 0 sent accepted → AreAccepted 0 (sent ++ p ∷ []) (accepted ++ p ∷ [])
  pub full : (sent accepted : List Packet) (p : Packet) → 64 ≤ length accepted → AreAccepted 0 sent accepted → AreAccepted 0 (sent ++ p ∷ []) accepted

-- what was taken stays, with entries that tell of no packet and where the packet in hand is received, be it copied or not, or thrown away; and one that comes to hand is the last one taken
pub record TakeLaws : Type 0 where
  pub same : (s t : GuestState) (journal more : List Event) → TakesNothing s t → flat_map (taken_by s.received s.discarded) more ≡ [] → taken (journal ++ more) t ≡ taken journal s
  pub tells_same : (s t : GuestState) (journal : List Event) → TakesNothing s t → All (Tells s) journal → All (Tells t) journal
  pub comes : (s t : GuestState) (journal : List Event) (packet : Packet) → ComesToHand s t → t.hand ≡ Some packet → taken journal t ≡ taken journal s ++ packet ∷ []
  pub received : (s t : GuestState) (journal : List Event) (k : ℕ) → All (Tells s) journal → Receives s k t → taken (journal ++ PacketIn k ∷ []) t ≡ taken journal s
  pub tells : (s t : GuestState) (journal : List Event) (k : ℕ) → All (Tells s) journal → Receives s k t → All (Tells t) (journal ++ PacketIn k ∷ [])
  pub ended : (s t : GuestState) (journal : List Event) (k : ℕ) → All (Tells s) journal → EndsDelivery s k t → taken (journal ++ PacketIn k ∷ []) t ≡ taken journal s
  pub tells_ended : (s t : GuestState) (journal : List Event) (k : ℕ) → All (Tells s) journal → EndsDelivery s k t → All (Tells t) (journal ++ PacketIn k ∷ [])
  pub discarded : (s t : GuestState) (journal : List Event) (k : ℕ) → All (Tells s) journal → Discards s k t → taken (journal ++ Discard k ∷ []) t ≡ taken journal s
  pub tells_discarded : (s t : GuestState) (journal : List Event) (k : ℕ) → All (Tells s) journal → Discards s k t → All (Tells t) (journal ++ Discard k ∷ [])
