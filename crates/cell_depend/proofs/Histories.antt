-- A list of events, one after the other.
use Rattle.std.proofs.Common.{ℕ, List, [], ◌∷◌, ap, arith}
use Rattle.std.proofs.lemmas.List.{get_or-replicate, length-replicate}
use Rattle.base_words.specs.declared.frame.Shape.{Shape}
use Rattle.cell_depend.specs.declared.uses.CellCount.{CellCount}
use Rattle.cell_depend.specs.Counters.{AreCounts, no_use}
use Rattle.cell_depend.specs.Events.{UseEvent, FrameTaken, FrameGivenBack, VcpuLoaded, VcpuUnloaded, CellFailed, Kept, Leads, Happens, at_start}
use Rattle.cell_depend.proofs.Changes.{AreCounts-more_frame, AreCounts-less_frame, AreCounts-more_vcpu, AreCounts-less_vcpu}

abbrev AreKept : Shape → Kept → Type 0
AreKept shape s = AreCounts shape s.rows s.uses

-- an event keeps the counters those of the rows
AreKept-Happens : (shape : Shape) (s : Kept) (e : UseEvent) (t : Kept) → AreKept shape s → Happens shape s e t → AreKept shape t
AreKept-Happens shape s (FrameTaken frame) t are does = rw does.after (AreCounts-more_frame shape s.rows s.uses frame does.cell does.frames are does.place does.joins)
AreKept-Happens shape s (FrameGivenBack frame) t are does = rw does.after (AreCounts-less_frame shape s.rows s.uses frame does.cell does.frames are does.place does.leaves)
AreKept-Happens shape s (VcpuLoaded cell) t are does = rw does.after (AreCounts-more_vcpu shape s.rows s.uses cell does.loaded are does.counted does.joins)
AreKept-Happens shape s (VcpuUnloaded cell) t are does = rw does.after (AreCounts-less_vcpu shape s.rows s.uses cell does.loaded are does.counted does.leaves)
AreKept-Happens shape s (CellFailed cell) t are does = rw does (record { frames = are.frames; vcpus = are.vcpus })

AreKept-Leads : (shape : Shape) (s : Kept) (events : List UseEvent) (t : Kept) → AreKept shape s → Leads shape s events t → AreKept shape t
AreKept-Leads shape s [] t are leads = rw leads are
AreKept-Leads shape s (e ∷ events) t are leads = AreKept-Leads shape leads.0 events t (AreKept-Happens shape s e leads.0 are leads.1) leads.2

-- at the start nothing is counted
AreKept-start : (shape : Shape) (cells : ℕ) → AreKept shape (at_start cells)
AreKept-start shape cells = record {
  frames = λ q within. ap (λ (c : CellCount). c.frames) (get_or-replicate cells q no_use no_use (omega (arith, within, length-replicate {A = CellCount})));
  vcpus = λ q within. ap (λ (c : CellCount). c.vcpus) (get_or-replicate cells q no_use no_use (omega (arith, within, length-replicate {A = CellCount})));
}

pub AreCounts-history : (shape : Shape) (cells : ℕ) (events : List UseEvent) (t : Kept) → Leads shape (at_start cells) events t → AreCounts shape t.rows t.uses
AreCounts-history shape cells events t leads = AreKept-Leads shape (at_start cells) events t (AreKept-start shape cells) leads
