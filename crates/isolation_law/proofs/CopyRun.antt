-- Runs, computed: a packet is copied into the armed page; the plan is done while a page is being taken shared.
use Rattle.std.proofs.Common.{◌≡◌, inl, inr, ℕ, ◌≤◌, List, [], ◌∷◌, length, true, false, Option, None, Some, refl, ap, slice_index_or, drop, lit<, lit≤, arith, true≢false}
use Rattle.base_words.specs.declared.events.Event.{Event}
use Rattle.base_words.specs.declared.events.Event.TheVariants.{Begin, Finish, PacketIn, End as Ending}
use Rattle.base_words.specs.declared.events.End.TheVariants.{Budget}
use Rattle.base_words.specs.declared.moves.By.TheVariants.{Packet as ByPacket}
use Rattle.base_words.specs.declared.moves.MoveKind.TheVariants.{TakeShared}
use Rattle.private_machine.specs.Backing.{TakesShared, Move, with_first}
use Rattle.private_machine.specs.Operation.{Packet, Delivers}
use Rattle.private_machine.specs.PageMove.{named_by}
use Rattle.isolation_law.specs.GuestState.{GuestState, page, with_page}
use Rattle.isolation_law.specs.EndRows.{is_taking, ended}
use Rattle.isolation_law.specs.MoveRows.{with_begun, with_finished}
use Rattle.isolation_law.specs.PacketRows.{with_received}
use Rattle.isolation_law.specs.Run.{Run}
use Rattle.isolation_law.proofs.MovedRun.{none_moves}
use Rattle.isolation_law.proofs.PacketRun.{armed, q, n, whole, target}

-- a packet of one byte, from a cell that lives
abbrev one_byte : Packet
one_byte = record { from = 1; cell = 0; bytes = 5 ∷ [] }

abbrev is_copied : List Event
is_copied = PacketIn 0 ∷ []

pub copies_a_packet : (rest other : List ℕ) → (t : GuestState) × Run (armed rest other) is_copied t × ((page t 1).master.bytes ≡ 5 ∷ drop 1 other)
copies_a_packet rest other =
    let s0 = armed rest other in
    let a0 : GuestState = record s0 { hand = Some one_byte } in
    let s1 = with_received a0 one_byte (with_page a0 1 (with_first one_byte.bytes (page a0 1))) in (
      s1,
      (
        a0,
        s1,
        inr (record { goes_on = record { not_ended = refl; owes_no_end = refl }; free = refl; q = 1; armed = refl; packet = one_byte; not_empty = lit≤ tt; within = lit≤ tt; after = refl }),
        inl (record {
          q = 1;
          packet = one_byte;
          delivered = record { goes_on = record { not_ended = refl; owes_no_end = refl }; armed = refl; in_hand = refl; lives = refl; next = refl };
          shares = true;
          needs_nothing = refl;
          after = refl;
        }),
        inl refl,
      ),
      refl,
    )

-- the second page is named by the processor's TLB, as far as the guest knows
abbrev named : List ℕ → List ℕ → GuestState
named rest other = with_page (armed rest other) 1 (named_by 0 (page (armed rest other) 1))

abbrev is_let_go : List Event
is_let_go = Begin q TakeShared n ByPacket ∷ Finish q ∷ Ending Budget ∷ []

some_waits : ((r : ℕ) → slice_index_or (true ∷ []) r false ≡ false) → ⊥
some_waits none = true≢false (none 0)

is_some : (o : Option Move) (m : Move) → o ≡ None → o ≡ Some m → ⊥
is_some o m e some = cc

not_empty : (k : ℕ) → k ≡ 4096 → 1 ≤ k
not_empty k e = omega arith

at_most : (k : ℕ) → k ≡ 4096 → k ≤ 4096
at_most k e = omega arith

pub lets_go_and_ends : (rest other bytes : List ℕ) → length bytes ≡ 4096 → (t : GuestState) × Run (named rest other) is_let_go t × (t.end ≡ Some Budget)
lets_go_and_ends rest other bytes is_whole =
    let s0 = named rest other in
    let a0 : GuestState = record s0 { hand = Some (whole bytes) } in
    let s1 = with_begun a0 1 (TakesShared (target bytes)) (Some (Delivers 0 (whole bytes))) [] in
    let s2 : GuestState = record (with_finished s1 1 (TakesShared (target bytes))) { closing = Some Budget } in
    let s3 = ended Budget s2 in (
      s3,
      (
        a0,
        s1,
        inr (record { goes_on = record { not_ended = refl; owes_no_end = refl }; free = refl; q = 1; armed = refl; packet = whole bytes; not_empty = not_empty (length bytes) is_whole; within = at_most (length bytes) is_whole; after = refl }),
        record {
          goes_on = record { not_ended = refl; owes_no_end = refl };
          is_page = lit< tt;
          rests = refl;
          change = TakesShared (target bytes);
          is_kind = refl;
          operation = Some (Delivers 0 (whole bytes));
          asked = record { packet = whole bytes; in_hand = refl; armed = refl; lives = refl; shares = true; needs = rw is_whole refl; at_home = refl };
          rest = [];
          fits = (refl, refl);
          lives = refl;
          after = refl;
        },
        (
          s1,
          s2,
          inl refl,
          inr (record { not_ended = refl; target = target bytes; waiting = true ∷ []; open_move = refl; early = λ owes. some_waits; after = refl }),
          (
            s2,
            s3,
            inl refl,
            record {
              may = record { not_ended = refl; no_other = inr refl; all_wait = λ r m e none. is_some (page s2 r).move m (none_moves s2.pages refl r) e };
              takes_nothing = λ r. ap is_taking (none_moves s2.pages refl r);
              after = refl;
            },
            inl refl,
          ),
        ),
      ),
      refl,
    )
