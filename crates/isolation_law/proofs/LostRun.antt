-- One run, computed: a replica is lost with its cell, which the guest doesn't use; the access that reached it collapses the page.
use Rattle.private_machine.specs.Policy.{no_misses}
use Rattle.isolation_law.specs.LoadRows.{page_left}
use Rattle.isolation_law.proofs.Filling.{at_head}
use Rattle.std.proofs.Common.{◌≡◌, inl, inr, ⊎_elim, ℕ, zero, suc, List, [], ◌∷◌, ◌++◌, true, false, None, Some, refl, sym, ap, slice_index_or, slice_set, replicate, lit<}
use Rattle.base_words.specs.declared.ids.CellId.{CellId}
use Rattle.base_words.specs.declared.ids.ProcId.{ProcId}
use Rattle.base_words.specs.declared.ids.VcpuId.{VcpuId}
use Rattle.base_words.specs.declared.ids.NodeId.{NodeId}
use Rattle.base_words.specs.declared.ids.Ppn.{Ppn}
use Rattle.base_words.specs.declared.exception.Use.TheVariants as uses
use Rattle.base_words.specs.Halves.{clash}
use Rattle.private_machine.specs.Backing.{Copy, Collapses}
use Rattle.private_machine.specs.DevicePage.{untouched}
use Rattle.private_machine.specs.Reaching.{Wanted}
use Rattle.private_machine.specs.HardwareStep.{FetchMiss, DataMiss, Dead}
use Rattle.private_machine.specs.Vcpu.{started}
use Rattle.isolation_law.specs.GuestState.{GuestState, idle, processor}
use Rattle.isolation_law.specs.EndRows.{with_failed}
use Rattle.isolation_law.specs.MoveRows.{with_begun, with_finished}
use Rattle.isolation_law.specs.RefillRow.{half_for, refilled}
use Rattle.isolation_law.specs.Run.{Run}
use Rattle.isolation_law.specs.Traps.{step_on}
use Rattle.base_words.specs.declared.events.Event.{Event}
use Rattle.base_words.specs.declared.events.Event.TheVariants.{Direct, Refill, Begin, Ack, Finish, CellFails}
use Rattle.base_words.specs.declared.moves.By.TheVariants.{Step}
use Rattle.base_words.specs.declared.moves.MoveKind.TheVariants.{Collapse}
use Rattle.isolation_law.proofs.MovedRun.{around, done_or, nothing, stepped, fetched_at, first_refilled}
use Rattle.isolation_law.proofs.SharedRun.{backed}

abbrev p : ProcId
p = record { 0 = 0 }

abbrev v : VcpuId
v = record { 0 = 0 }

abbrev q : Ppn
q = record { 0 = 1 }

abbrev n : NodeId
n = record { 0 = 0 }

abbrev c : CellId
c = record { 0 = 1 }

-- LW 9, 0(10); LW 9, 0(10)
abbrev program : List ℕ
program = 0x8D ∷ 0x49 ∷ 0x00 ∷ 0x00 ∷ 0x8D ∷ 0x49 ∷ 0x00 ∷ 0x00 ∷ []

abbrev general : List ℕ
general = slice_set (replicate 32 0) 10 0xC000_1000

abbrev replica : List ℕ → Copy
replica bytes = record { frame = 5; generation = 1; bytes = bytes }

-- the processor is on the third node, and the page's master on the first; a replica is on the second, in a cell of its own
abbrev begins : List ℕ → List ℕ → GuestState
begins rest other = record {
  around = record around { nodes = 0 ∷ 1 ∷ 0 ∷ []; processors = 2 ∷ [] };
  vcpus = record (started 0xC000_0000) { registers = record (started 0xC000_0000).registers { general = general } } ∷ [];
  devices = untouched 1 [];
  disk = [];
  sent_from = [];
  received = [];
  discarded = [];
  skips = [];
  hand = None;
  end = None;
  closing = None;
  pages = backed 8 (program ++ rest) ∷ record (backed 1 other) { replicas = replica other ∷ [] } ∷ [];
  operations = None ∷ None ∷ [];
  misses = no_misses 3 ∷ no_misses 3 ∷ [];
  spares = [];
  processors = record idle { loaded = Some 0 } ∷ [];
  due = None ∷ [];
  blocks = None ∷ [];
  seconds = [] ∷ [];
  dead = false ∷ false ∷ [];
}

abbrev loaded_at : Wanted
loaded_at = record { purpose = uses.Load; unit = 4; address = 0xC000_1000 }

abbrev filled : GuestState → GuestState
filled s = refilled s 0 0 loaded_at 1 (half_for s 0 0 loaded_at 1 ∷ (processor s 0).tlb)

nobody : (r : ℕ) → slice_index_or (false ∷ []) r false ≡ false
nobody zero = refl
nobody (suc r) = refl

abbrev journal : List Event
journal = Refill p ∷ Refill p ∷ Direct p v ∷ CellFails c ∷ Begin q Collapse n (Step p) ∷ Ack p q ∷ Finish q ∷ Refill p ∷ Direct p v ∷ []

pub loses_a_replica : (rest other : List ℕ) → (t : GuestState) × Run (begins rest other) journal t × (t.end ≡ None)
loses_a_replica rest other =
    let s0 = begins rest other in
    let s1 = first_refilled s0 in
    let s2 = filled s1 in
    let s3 = stepped s2 in
    let s4 = with_failed s3 1 in
    let s5 = with_begun s4 1 Collapses None [] in
    let s6 = page_left 0 1 s5 in
    let s7 = with_finished s6 1 Collapses in
    let s8 = filled s7 in
    let s9 = stepped s8 in (
      s9,
      (
        s0,
        s1,
        inl refl,
        record { goes_on = record { not_ended = refl; owes_no_end = refl }; v = 0; runs = record { loaded = refl; running = refl }; may_act = refl; trap = FetchMiss (fetched_at s0); traps = refl; access = fetched_at s0; misses = refl; offset = 0; leads = refl; rests = refl; halves = _; fills = at_head _ _ ([]) (λ h has. absurd has) (λ h has. absurd has); after = refl },
        (
          s1,
          s2,
          inl refl,
          record { goes_on = record { not_ended = refl; owes_no_end = refl }; v = 0; runs = record { loaded = refl; running = refl }; may_act = refl; trap = DataMiss 0x8D49_0000 loaded_at; traps = refl; access = loaded_at; misses = refl; offset = 4096; leads = refl; rests = refl; halves = _; fills = at_head _ _ ((processor s1 0).tlb) (λ h has. has) (λ h has. ⊎_elim (λ e. ap (clash (half_for s1 0 0 loaded_at 1)) (sym e)) absurd has); after = refl },
          (
            s2,
            s3,
            inl refl,
            record { goes_on = record { not_ended = refl; owes_no_end = refl }; runs = record { loaded = refl; running = refl }; may_act = refl; done = done_or (step_on s2 0 0) (nothing s2); does = refl; after = refl },
            (
              s3,
              s4,
              inl refl,
              record { phase = inl (record { not_ended = refl; owes_no_end = refl }); is_cell = lit< tt; once = refl; after = refl },
              (
                s4,
                s5,
                inl refl,
                record { goes_on = record { not_ended = refl; owes_no_end = refl }; is_page = lit< tt; rests = refl; change = Collapses; is_kind = refl; operation = None; asked = record { v = 0; runs = record { loaded = refl; running = refl }; shares = true; needs = inr (record { trap = Dead (record { page = 1; frame = 5 }) loaded_at; traps = refl; loses = record { at = record { page = 1; frame = 5 }; access = loaded_at; is_dead = refl; copy = replica other; its_own = inr (inl refl); is_it = refl }; is_collapse = refl; for_none = refl }); at_home = refl }; rest = []; fits = refl; lives = tt; after = refl },
                (
                  s5,
                  s6,
                  inl refl,
                  record { goes_on = record { not_ended = refl; owes_no_end = refl }; may_act = refl; move = record { change = Collapses; waiting = true ∷ [] }; open_move = refl; waits = refl; after = refl },
                  (
                    s6,
                    s7,
                    inl refl,
                    inl (record { goes_on = record { not_ended = refl; owes_no_end = refl }; move = record { change = Collapses; waiting = false ∷ [] }; open_move = refl; nobody_waits = nobody; after = refl }),
                    (
                      s7,
                      s8,
                      inl refl,
                      record { goes_on = record { not_ended = refl; owes_no_end = refl }; v = 0; runs = record { loaded = refl; running = refl }; may_act = refl; trap = DataMiss 0x8D49_0000 loaded_at; traps = refl; access = loaded_at; misses = refl; offset = 4096; leads = refl; rests = refl; halves = _; fills = at_head _ _ ((processor s7 0).tlb) (λ h has. has) (λ h has. ⊎_elim (λ e. ap (clash (half_for s7 0 0 loaded_at 1)) (sym e)) absurd has); after = refl },
                      (
                        s8,
                        s9,
                        inl refl,
                        record { goes_on = record { not_ended = refl; owes_no_end = refl }; runs = record { loaded = refl; running = refl }; may_act = refl; done = done_or (step_on s8 0 0) (nothing s8); does = refl; after = refl },
                        inl refl,
                      ),
                    ),
                  ),
                ),
              ),
            ),
          ),
        ),
      ),
      refl,
    )
