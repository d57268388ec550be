-- A run grows by an entry, by a packet that comes to hand, and by a run.
use Rattle.std.proofs.Common.{◌≡◌, inl, inr, ⊎_elim, Some, None, List, [], ◌∷◌, ◌++◌, refl, sym, ap, ◌∙◌, subst}
use Rattle.base_words.specs.declared.events.Event.{Event}
use Rattle.private_machine.specs.Operation.{Packet}
use Rattle.isolation_law.specs.GuestState.{GuestState}
use Rattle.isolation_law.specs.MachineEvent.{Row}
use Rattle.isolation_law.specs.PacketRows.{ComesToHand}
use Rattle.isolation_law.specs.Run.{Silent, Run}

pub run-row : (s m t : GuestState) (journal : List Event) (e : Event) → Run s journal m → Row m e t → Run s (journal ++ e ∷ []) t
run-row s m t [] e run row = (m, t, run, row, inl refl)
run-row s m t (d ∷ journal) e run row = (run.0, run.1, run.2, run.3, run-row run.1 m t journal e run.4 row)

-- only one packet comes to hand between two entries
silent-hand : (s m t : GuestState) → Silent s m → ComesToHand m t → Silent s t
silent-hand s m t silent hand = ⊎_elim
    (λ (e : m ≡ s). inr (subst (λ (x : GuestState). ComesToHand x t) e hand))
    (λ (first : ComesToHand s m). absurd (some-none first.packet (sym (ap (λ (x : GuestState). x.hand) first.after) ∙ hand.free)))
    silent
  where
    some-none : (x : Packet) → Some x ≡ None → ⊥
    some-none x e = cc

silent-silent : (s m t : GuestState) → Silent s m → Silent m t → Silent s t
silent-silent s m t silent more = ⊎_elim
    (λ (e : t ≡ m). subst (Silent s) (sym e) silent)
    (λ (hand : ComesToHand m t). silent-hand s m t silent hand)
    more

pub run-hand : (s m t : GuestState) (journal : List Event) → Run s journal m → ComesToHand m t → Run s journal t
run-hand s m t [] run hand = silent-hand s m t run hand
run-hand s m t (d ∷ journal) run hand = (run.0, run.1, run.2, run.3, run-hand run.1 m t journal run.4 hand)

silent-run : (s m t : GuestState) (journal : List Event) → Silent s m → Run m journal t → Run s journal t
silent-run s m t [] silent run = silent-silent s m t silent run
silent-run s m t (e ∷ journal) silent run = (run.0, run.1, silent-silent s m run.0 silent run.2, run.3, run.4)

pub run-run : (s m t : GuestState) (journal more : List Event) → Run s journal m → Run m more t → Run s (journal ++ more) t
run-run s m t [] more run next = silent-run s m t more run next
run-run s m t (d ∷ journal) more run next = (run.0, run.1, run.2, run.3, run-run run.1 m t journal more run.4 next)
