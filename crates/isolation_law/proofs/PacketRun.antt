-- Runs, computed: packets that are thrown away and delivered, and a cell that fails while a page is being taken shared.
use Rattle.isolation_law.specs.LoadRows.{unloaded}
use Rattle.std.proofs.Common.{◌≡◌, inl, inr, ℕ, zero, suc, ◌≤◌, List, [], ◌∷◌, length, true, false, None, Some, refl, ap, slice_index_or, lit<, lit≤, arith}
use Rattle.base_words.specs.declared.ids.ProcId.{ProcId}
use Rattle.base_words.specs.declared.ids.NodeId.{NodeId}
use Rattle.base_words.specs.declared.ids.CellId.{CellId}
use Rattle.base_words.specs.declared.ids.Ppn.{Ppn}
use Rattle.private_machine.specs.Backing.{Copy, TakesShared}
use Rattle.private_machine.specs.Operation.{Packet, Delivers}
use Rattle.private_machine.specs.DevicePage.{untouched}
use Rattle.isolation_law.specs.EndRows.{is_taking, with_failed, ended}
use Rattle.isolation_law.specs.GuestState.{GuestState, page}
use Rattle.isolation_law.specs.MoveRows.{with_begun, with_finished}
use Rattle.isolation_law.specs.PacketRows.{with_received}
use Rattle.isolation_law.specs.Run.{Run}
use Rattle.isolation_law.specs.StepRows.{taken_shared}
use Rattle.base_words.specs.declared.events.Event.{Event}
use Rattle.base_words.specs.declared.events.Event.TheVariants.{Unload, Begin, Finish, PacketIn, Discard, CellFails, End as Ending}
use Rattle.base_words.specs.declared.moves.By.TheVariants.{Packet as ByPacket}
use Rattle.base_words.specs.declared.events.End.TheVariants.{CellFailed}
use Rattle.base_words.specs.declared.moves.MoveKind.TheVariants.{TakeShared}
use Rattle.isolation_law.proofs.MovedRun.{around, none_moves}
use Rattle.isolation_law.proofs.SharedRun.{begins}

-- armed for a packet, in a machine of two cells
abbrev pub armed : List ℕ → List ℕ → GuestState
armed rest other = record (begins rest other []) {
  around = record around { nodes = 0 ∷ 1 ∷ [] };
  devices = record (untouched 1 []) { armed = Some 1 };
  dead = false ∷ false ∷ [];
}

abbrev p : ProcId
p = record { 0 = 0 }

abbrev pub q : Ppn
q = record { 0 = 1 }

abbrev pub n : NodeId
n = record { 0 = 0 }

abbrev cell : ℕ → CellId
cell c = record { 0 = c }

abbrev short : Packet
short = record { from = 1; cell = 1; bytes = 5 ∷ [] }

abbrev pub whole : List ℕ → Packet
whole bytes = record { from = 1; cell = 0; bytes = bytes }

abbrev pub target : List ℕ → Copy
target bytes = record { frame = 3; generation = 2; bytes = bytes }

abbrev loses_its_cell : List Event
loses_its_cell =
    CellFails (cell 1) ∷ Discard 0 ∷ Begin q TakeShared n ByPacket ∷ CellFails (cell 0) ∷ Finish q ∷ Ending (CellFailed (cell 0)) ∷ Unload p ∷ []

nobody : (r : ℕ) → slice_index_or (false ∷ []) r false ≡ false
nobody zero = refl
nobody (suc r) = refl

not_empty : (k : ℕ) → k ≡ 4096 → 1 ≤ k
not_empty k e = omega arith

at_most : (k : ℕ) → k ≡ 4096 → k ≤ 4096
at_most k e = omega arith

pub discards_and_loses_its_cell : (rest other bytes : List ℕ) → length bytes ≡ 4096
    → (t : GuestState) × Run (armed rest other) loses_its_cell t × (t.end ≡ Some (CellFailed (cell 0)))
discards_and_loses_its_cell rest other bytes is_whole =
    let s0 = armed rest other in
    let a0 : GuestState = record s0 { hand = Some short } in
    let s1 = with_failed a0 1 in
    let s2 : GuestState = record s1 { hand = None; discarded = short ∷ [] } in
    let a2 : GuestState = record s2 { hand = Some (whole bytes) } in
    let s3 = with_begun a2 1 (TakesShared (target bytes)) (Some (Delivers 1 (whole bytes))) [] in
    let s4 = with_failed s3 0 in
    let s5 : GuestState = record (with_finished s4 1 (TakesShared (target bytes))) { closing = Some (CellFailed (cell 0)) } in
    let s6 = ended (CellFailed (cell 0)) s5 in
    let s7 = unloaded 0 s6 in (
      s7,
      (
        a0,
        s1,
        inr (record { goes_on = record { not_ended = refl; owes_no_end = refl }; free = refl; q = 1; armed = refl; packet = short; not_empty = lit≤ tt; within = lit≤ tt; after = refl }),
        record { phase = inl (record { not_ended = refl; owes_no_end = refl }); is_cell = lit< tt; once = refl; after = refl },
        (
          s1,
          s2,
          inl refl,
          record { goes_on = record { not_ended = refl; owes_no_end = refl }; packet = short; in_hand = refl; failed = refl; next = refl; after = refl },
          (
            a2,
            s3,
            inr (record { goes_on = record { not_ended = refl; owes_no_end = refl }; free = refl; q = 1; armed = refl; packet = whole bytes; not_empty = not_empty (length bytes) is_whole; within = at_most (length bytes) is_whole; after = refl }),
            record {
              goes_on = record { not_ended = refl; owes_no_end = refl };
              is_page = lit< tt;
              rests = refl;
              change = TakesShared (target bytes);
              is_kind = refl;
              operation = Some (Delivers 1 (whole bytes));
              asked = record { packet = whole bytes; in_hand = refl; armed = refl; lives = refl; shares = true; needs = rw is_whole refl; at_home = refl };
              rest = [];
              fits = (refl, refl);
              lives = refl;
              after = refl;
            },
            (
              s3,
              s4,
              inl refl,
              record { phase = inl (record { not_ended = refl; owes_no_end = refl }); is_cell = lit< tt; once = refl; after = refl },
              (
                s4,
                s5,
                inl refl,
                inr (record { not_ended = refl; target = target bytes; waiting = false ∷ []; open_move = refl; early = λ none h. cc; after = refl }),
                (
                  s5,
                  s6,
                  inl refl,
                  record { may = (refl, refl); takes_nothing = λ r. ap is_taking (none_moves s5.pages refl r); after = refl },
                  (
                    s6,
                    s7,
                    inl refl,
                    record { phase = inr refl; loaded = λ e. cc; after = refl },
                    inl refl,
                  ),
                ),
              ),
            ),
          ),
        ),
      ),
      refl,
    )

abbrev is_delivered : List Event
is_delivered = Begin q TakeShared n ByPacket ∷ PacketIn 0 ∷ []

pub takes_a_packet : (rest other bytes : List ℕ) → length bytes ≡ 4096
    → (t : GuestState) × Run (armed rest other) is_delivered t × ((page t 1).master ≡ target bytes)
takes_a_packet rest other bytes is_whole =
    let s0 = armed rest other in
    let a0 : GuestState = record s0 { hand = Some (whole bytes) } in
    let s1 = with_begun a0 1 (TakesShared (target bytes)) (Some (Delivers 0 (whole bytes))) [] in
    let s2 = with_received s1 (whole bytes) (taken_shared 1 (target bytes) s1) in (
      s2,
      (
        a0,
        s1,
        inr (record { goes_on = record { not_ended = refl; owes_no_end = refl }; free = refl; q = 1; armed = refl; packet = whole bytes; not_empty = not_empty (length bytes) is_whole; within = at_most (length bytes) is_whole; after = refl }),
        record {
          goes_on = record { not_ended = refl; owes_no_end = refl };
          is_page = lit< tt;
          rests = refl;
          change = TakesShared (target bytes);
          is_kind = refl;
          operation = Some (Delivers 0 (whole bytes));
          asked = record { packet = whole bytes; in_hand = refl; armed = refl; lives = refl; shares = true; needs = rw is_whole refl; at_home = refl };
          rest = [];
          fits = (refl, refl);
          lives = refl;
          after = refl;
        },
        (
          s1,
          s2,
          inl refl,
          inr (record {
            q = 1;
            packet = whole bytes;
            delivered = record { goes_on = record { not_ended = refl; owes_no_end = refl }; armed = refl; in_hand = refl; lives = refl; next = refl };
            target = target bytes;
            kept = whole bytes;
            waiting = false ∷ [];
            open_move = refl;
            its_own = refl;
            nobody_waits = nobody;
            after = refl;
          }),
          inl refl,
        ),
      ),
      refl,
    )
