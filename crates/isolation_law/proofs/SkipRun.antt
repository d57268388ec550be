-- One run, computed: moves that aren't begun, of each cause but that of a guest that has ended.
use Rattle.std.proofs.Common.{◌≡◌, inl, inr, ℕ, List, [], ◌∷◌, true, false, Some, refl, map, lit<, None}
use Rattle.base_words.specs.declared.events.Event.{Event}
use Rattle.base_words.specs.declared.events.Event.TheVariants.{Skip, CellFails}
use Rattle.base_words.specs.declared.ids.ProcId.{ProcId}
use Rattle.base_words.specs.declared.moves.By.{By}
use Rattle.base_words.specs.declared.moves.By.TheVariants.{Plan, Due}
use Rattle.base_words.specs.declared.moves.MoveKind.{MoveKind}
use Rattle.base_words.specs.declared.moves.MoveKind.TheVariants.{Migrate, Replicate, Collapse}
use Rattle.isolation_law.specs.Surroundings.{Surroundings}
use Rattle.isolation_law.specs.Parts.{Cause, DeadCell, Shared, Replicated, SameNode, NoReplica, NoFrame, AllHeld, SkipEntry}
use Rattle.isolation_law.specs.GuestState.{GuestState}
use Rattle.isolation_law.specs.EndRows.{with_failed}
use Rattle.isolation_law.specs.Run.{Run}
use Rattle.isolation_law.specs.SkipRow.{with_skipped}
use Rattle.private_machine.specs.Policy.{no_misses}
use Rattle.isolation_law.proofs.MovedRun.{around}
use Rattle.isolation_law.proofs.SharedRun.{begins, backed}

abbrev p : ProcId
p = record { 0 = 0 }

-- three nodes of four frames, the last of a cell of its own
abbrev three_nodes : Surroundings
three_nodes = record around { nodes = 0 ∷ 0 ∷ 1 ∷ [] }

-- the first page is own, the second has a replica on the second node, the third is shared; a replica of the second page is due
abbrev asked : GuestState
asked = record (begins [] [] []) {
  around = three_nodes;
  pages = backed 0 [] ∷ record (backed 1 []) { replicas = record { frame = 4; generation = 1; bytes = [] } ∷ [] } ∷ record (backed 2 []) { shared = true } ∷ [];
  operations = None ∷ None ∷ None ∷ [];
  misses = no_misses 3 ∷ no_misses 3 ∷ no_misses 3 ∷ [];
  spares = record { frame = 3; generation = 1; bytes = [] } ∷ [];
  due = Some (record { page = 1; kind = Replicate; node = 1 }) ∷ [];
  dead = false ∷ false ∷ [];
}

abbrev entry : ℕ → MoveKind → ℕ → By → Cause → SkipEntry
entry page kind node by cause = record { wish = record { page = page; kind = kind; node = node }; by = by; cause = cause }

abbrev journal : List Event
journal = Skip 0 ∷ Skip 1 ∷ Skip 2 ∷ Skip 3 ∷ Skip 4 ∷ Skip 5 ∷ CellFails (record { 0 = 1 }) ∷ Skip 6 ∷ []

abbrev causes : List Cause
causes = SameNode ∷ SameNode ∷ Replicated ∷ NoReplica ∷ Shared ∷ NoFrame (AllHeld ∷ []) ∷ DeadCell 1 ∷ []

pub skips_of_each_cause : (t : GuestState) × Run asked journal t × (map (λ e. e.cause) t.skips ≡ causes)
skips_of_each_cause =
    let s0 = asked in
    let e0 = entry 1 Replicate 1 (Due p) SameNode in
    let e1 = entry 0 Migrate 0 (Plan p) SameNode in
    let e2 = entry 1 Migrate 1 (Plan p) Replicated in
    let e3 = entry 0 Collapse 0 (Plan p) NoReplica in
    let e4 = entry 2 Collapse 0 (Plan p) Shared in
    let e5 = entry 0 Replicate 1 (Plan p) (NoFrame (AllHeld ∷ [])) in
    let e6 = entry 0 Migrate 2 (Plan p) (DeadCell 1) in
    let s1 = with_skipped s0 e0 in
    let s2 = with_skipped s1 e1 in
    let s3 = with_skipped s2 e2 in
    let s4 = with_skipped s3 e3 in
    let s5 = with_skipped s4 e4 in
    let s6 = with_skipped s5 e5 in
    let s7 = with_failed s6 1 in
    let s8 = with_skipped s7 e6 in (
      s8,
      (
        s0,
        s1,
        inl refl,
        record { phase = inl (record { not_ended = refl; owes_no_end = refl }); entry = e0; in_range = λ on. lit< tt; asked = record { is_due = refl; seeks = refl }; caused = inl refl; next = refl; after = refl },
        (
          s1,
          s2,
          inl refl,
          record { phase = inl (record { not_ended = refl; owes_no_end = refl }); entry = e1; in_range = λ on. lit< tt; asked = record { planned = inl refl; not_due = λ e. cc }; caused = inl refl; next = refl; after = refl },
          (
            s2,
            s3,
            inl refl,
            record { phase = inl (record { not_ended = refl; owes_no_end = refl }); entry = e2; in_range = λ on. lit< tt; asked = record { planned = inl refl; not_due = λ e. cc }; caused = inl refl; next = refl; after = refl },
            (
              s3,
              s4,
              inl refl,
              record { phase = inl (record { not_ended = refl; owes_no_end = refl }); entry = e3; in_range = λ on. lit< tt; asked = record { planned = inr (inr (refl, refl)); not_due = λ e. cc }; caused = inl refl; next = refl; after = refl },
              (
                s4,
                s5,
                inl refl,
                record { phase = inl (record { not_ended = refl; owes_no_end = refl }); entry = e4; in_range = λ on. lit< tt; asked = record { planned = inr (inr (refl, refl)); not_due = λ e. cc }; caused = inl refl; next = refl; after = refl },
                (
                  s5,
                  s6,
                  inl refl,
                  record { phase = inl (record { not_ended = refl; owes_no_end = refl }); entry = e5; in_range = λ on. lit< tt; asked = record { planned = inr (inl refl); not_due = λ e. cc }; caused = inr (record { no_other = refl; seeks = refl; shown = AllHeld ∷ []; is_it = refl }); next = refl; after = refl },
                  (
                    s6,
                    s7,
                    inl refl,
                    record { phase = inl (record { not_ended = refl; owes_no_end = refl }); is_cell = lit< tt; once = refl; after = refl },
                    (
                      s7,
                      s8,
                      inl refl,
                      record { phase = inl (record { not_ended = refl; owes_no_end = refl }); entry = e6; in_range = λ on. lit< tt; asked = record { planned = inl refl; not_due = λ e. cc }; caused = inl refl; next = refl; after = refl },
                      inl refl,
                    ),
                  ),
                ),
              ),
            ),
          ),
        ),
      ),
      refl,
    )
