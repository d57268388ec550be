-- No failed cell is used wherever a journal leads, but the one by which the guest has to end.
use Rattle.std.proofs.Common.{◌≡◌, false, ⊎_elim, List, [], ◌∷◌, sym, ◌∙◌, subst, true≢false}
use Rattle.base_words.specs.Limits.{most_cells}
use Rattle.base_words.specs.declared.events.Event.{Event}
use Rattle.isolation_law.specs.GuestState.{GuestState}
use Rattle.isolation_law.specs.LiveCells.{UsesLive}
use Rattle.isolation_law.specs.PacketRows.{ComesToHand}
use Rattle.isolation_law.specs.Run.{Silent, Run}
use Rattle.isolation_law.specs.Start.{Boot, start}
use Rattle.isolation_law.proofs.LiveCellProofs.{row-live, hand-live}
use Rattle.isolation_law.proofs.StartProofs.{all_same}

silent-live : (s t : GuestState) → UsesLive s → Silent s t → UsesLive t
silent-live s t live silent = ⊎_elim (λ (e : t ≡ s). subst UsesLive (sym e) live) (λ (x : ComesToHand s t). hand-live s t live x) silent

pub run-live : (s t : GuestState) (journal : List Event) → UsesLive s → Run s journal t → UsesLive t
run-live s t [] live run = silent-live s t live run
run-live s t (e ∷ journal) live run = run-live run.1 t journal (row-live run.0 run.1 e (silent-live s run.0 live run.2) run.3) run.4

pub start-live : (b : Boot) → UsesLive (start b)
start-live b c dead used = absurd (true≢false (sym dead ∙ all_same most_cells c false))
