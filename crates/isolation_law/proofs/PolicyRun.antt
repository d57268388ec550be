-- One run, computed: the policy copies a page, a store collapses it, the guest writes its TLB, and sends the page whole.
use Rattle.private_machine.specs.Policy.{no_misses}
use Rattle.isolation_law.specs.StepRows.{emulated}
use Rattle.isolation_law.specs.LoadRows.{page_left}
use Rattle.isolation_law.proofs.Filling.{at_head}
use Rattle.std.proofs.Common.{◌≡◌, inl, ⊎_elim, ℕ, zero, suc, List, [], ◌∷◌, ◌++◌, true, false, None, Some, refl, sym, ap, ◌∙◌, slice_index_or, slice_set, replicate, lit<}
use Rattle.base_words.specs.declared.ids.ProcId.{ProcId}
use Rattle.base_words.specs.declared.ids.VcpuId.{VcpuId}
use Rattle.base_words.specs.declared.ids.NodeId.{NodeId}
use Rattle.base_words.specs.declared.ids.Ppn.{Ppn}
use Rattle.base_words.specs.declared.exception.Use.{Use}
use Rattle.base_words.specs.declared.exception.Use.TheVariants as uses
use Rattle.base_words.specs.Halves.{clash}
use Rattle.private_machine.specs.Backing.{Copy, Replicates, Collapses, GivesShared}
use Rattle.private_machine.specs.DevicePage.{untouched}
use Rattle.private_machine.specs.Reaching.{Wanted}
use Rattle.private_machine.specs.HardwareStep.{FetchMiss, DataMiss, Privileged}
use Rattle.private_machine.specs.Vcpu.{started}
use Rattle.isolation_law.specs.GuestState.{GuestState, idle, page, processor}
use Rattle.isolation_law.specs.MoveRows.{with_begun, with_finished}
use Rattle.isolation_law.specs.RefillRow.{half_for, refilled}
use Rattle.isolation_law.specs.Run.{Run}
use Rattle.isolation_law.specs.Traps.{step_on}
use Rattle.base_words.specs.declared.events.Event.{Event}
use Rattle.base_words.specs.declared.events.Event.TheVariants.{Direct, Refill, Emulate, Begin, Ack, Finish}
use Rattle.base_words.specs.declared.moves.By.TheVariants.{Due, Step}
use Rattle.base_words.specs.declared.moves.MoveKind.TheVariants.{Replicate, Collapse, GiveShared}
use Rattle.isolation_law.proofs.MovedRun.{around, done_or, nothing, stepped, fetched_at, first_refilled}
use Rattle.isolation_law.proofs.SharedRun.{backed}

abbrev p : ProcId
p = record { 0 = 0 }

abbrev v : VcpuId
v = record { 0 = 0 }

abbrev q : Ppn
q = record { 0 = 1 }

abbrev n : ℕ → NodeId
n k = record { 0 = k }

-- LW 9, 0(10); SW 9, 0(10); TLBWI; SW 8, 38(16)
abbrev program : List ℕ
program = 0x8D ∷ 0x49 ∷ 0x00 ∷ 0x00 ∷ 0xAD ∷ 0x49 ∷ 0x00 ∷ 0x00 ∷ 0x42 ∷ 0x00 ∷ 0x00 ∷ 0x02 ∷ 0xAE ∷ 0x08 ∷ 0x00 ∷ 0x38 ∷ []

abbrev general : List ℕ
general = slice_set (slice_set (slice_set (replicate 32 0) 8 1) 10 0xC000_1000) 16 0xCFFF_F000

-- the processor is on the second node; one miss is enough to copy a page
abbrev begins : List ℕ → List ℕ → GuestState
begins rest other = record {
  around = record around { processors = 1 ∷ []; homes = 0 ∷ 0 ∷ []; policy = record { migrate = 0; replicate = 1 } };
  vcpus = record (started 0xC000_0000) { registers = record (started 0xC000_0000).registers { general = general } } ∷ [];
  blocks = None ∷ [];
  devices = record (untouched 1 []) { transfers = record { block = 0; page = 0; status = 0; send_page = 1; send_length = 4096 } ∷ [] };
  disk = [];
  sent_from = [];
  received = [];
  discarded = [];
  skips = [];
  hand = None;
  end = None;
  closing = None;
  pages = backed 4 (program ++ rest) ∷ backed 1 other ∷ [];
  operations = None ∷ None ∷ [];
  misses = no_misses 2 ∷ no_misses 2 ∷ [];
  spares = [];
  processors = record idle { loaded = Some 0 } ∷ [];
  due = None ∷ [];
  seconds = [] ∷ [];
  dead = false ∷ [];
}

abbrev at_page : Use → Wanted
at_page purpose = record { purpose = purpose; unit = 4; address = 0xC000_1000 }

abbrev send_at : Wanted
send_at = record { purpose = uses.Store; unit = 4; address = 0xCFFF_F038 }

abbrev filled : GuestState → Wanted → GuestState
filled s w = refilled s 0 0 w 1 (half_for s 0 0 w 1 ∷ (processor s 0).tlb)

abbrev replica : Copy
replica = record { frame = 5; generation = 1; bytes = [] }

abbrev spare : Copy
spare = record { frame = 3; generation = 1; bytes = [] }

nobody : (r : ℕ) → slice_index_or (false ∷ []) r false ≡ false
nobody zero = refl
nobody (suc r) = refl

four_five : ◌≡◌ {A = ℕ} 4 5 → ⊥
four_five e = cc

one_five : ◌≡◌ {A = ℕ} 1 5 → ⊥
one_five e = cc

four_three : ◌≡◌ {A = ℕ} 4 3 → ⊥
four_three e = cc

one_three : ◌≡◌ {A = ℕ} 1 3 → ⊥
one_three e = cc

abbrev journal : List Event
journal =
    Refill p ∷ Refill p ∷ Direct p v ∷ Begin q Replicate (n 1) (Due p) ∷ Ack p q ∷ Finish q ∷ Begin q Collapse (n 0) (Step p) ∷ Finish q ∷ Refill p ∷ Direct p v ∷ Emulate p v ∷ Begin q GiveShared (n 0) (Step p) ∷ Ack p q ∷ Finish q ∷ Emulate p v ∷ []

pub copies_collapses_and_sends : (rest other : List ℕ) → (t : GuestState) × Run (begins rest other) journal t × (t.sent_from ≡ 0 ∷ [])
copies_collapses_and_sends rest other =
    let s0 = begins rest other in
    let s1 = first_refilled s0 in
    let s2 = filled s1 (at_page uses.Load) in
    let s3 = stepped s2 in
    let s4 = with_begun s3 1 (Replicates replica) None [] in
    let s5 = page_left 0 1 s4 in
    let s6 = with_finished s5 1 (Replicates replica) in
    let s7 = with_begun s6 1 Collapses None [] in
    let s8 = with_finished s7 1 Collapses in
    let s9 = filled s8 (at_page uses.Store) in
    let s10 = stepped s9 in
    let s11 = emulated s10 0 0 in
    let s12 = with_begun s11 1 (GivesShared spare) None [] in
    let s13 = page_left 0 1 s12 in
    let s14 = with_finished s13 1 (GivesShared spare) in
    let s15 = emulated s14 0 0 in (
      s15,
      (
        s0,
        s1,
        inl refl,
        record { goes_on = record { not_ended = refl; owes_no_end = refl }; v = 0; runs = record { loaded = refl; running = refl }; may_act = refl; trap = FetchMiss (fetched_at s0); traps = refl; access = fetched_at s0; misses = refl; offset = 0; leads = refl; rests = refl; halves = _; fills = at_head _ _ ([]) (λ h has. absurd has) (λ h has. absurd has); after = refl },
        (
          s1,
          s2,
          inl refl,
          record { goes_on = record { not_ended = refl; owes_no_end = refl }; v = 0; runs = record { loaded = refl; running = refl }; may_act = refl; trap = DataMiss 0x8D49_0000 (at_page uses.Load); traps = refl; access = at_page uses.Load; misses = refl; offset = 4096; leads = refl; rests = refl; halves = _; fills = at_head _ _ ((processor s1 0).tlb) (λ h has. has) (λ h has. ⊎_elim (λ e. ap (clash (half_for s1 0 0 (at_page uses.Load) 1)) (sym e)) absurd has); after = refl },
          (
            s2,
            s3,
            inl refl,
            record { goes_on = record { not_ended = refl; owes_no_end = refl }; runs = record { loaded = refl; running = refl }; may_act = refl; done = done_or (step_on s2 0 0) (nothing s2); does = refl; after = refl },
            (
              s3,
              s4,
              inl refl,
              record { goes_on = record { not_ended = refl; owes_no_end = refl }; is_page = lit< tt; rests = refl; change = Replicates replica; is_kind = refl; operation = None; asked = (record { is_due = refl; seeks = refl }, refl, refl); rest = []; fits = (refl, (λ c has e. ⊎_elim (λ (same : (page s3 0).master ≡ c). four_five (ap (λ x. x.frame) same ∙ e)) (λ later. ⊎_elim (λ (same : (page s3 1).master ≡ c). one_five (ap (λ x. x.frame) same ∙ e)) absurd later) has), refl); lives = refl; after = refl },
              (
                s4,
                s5,
                inl refl,
                record { goes_on = record { not_ended = refl; owes_no_end = refl }; may_act = refl; move = record { change = Replicates replica; waiting = true ∷ [] }; open_move = refl; waits = refl; after = refl },
                (
                  s5,
                  s6,
                  inl refl,
                  inl (record { goes_on = record { not_ended = refl; owes_no_end = refl }; move = record { change = Replicates replica; waiting = false ∷ [] }; open_move = refl; nobody_waits = nobody; after = refl }),
                  (
                    s6,
                    s7,
                    inl refl,
                    record { goes_on = record { not_ended = refl; owes_no_end = refl }; is_page = lit< tt; rests = refl; change = Collapses; is_kind = refl; operation = None; asked = record { v = 0; runs = record { loaded = refl; running = refl }; shares = true; needs = inl refl; at_home = refl }; rest = []; fits = refl; lives = tt; after = refl },
                    (
                      s7,
                      s8,
                      inl refl,
                      inl (record { goes_on = record { not_ended = refl; owes_no_end = refl }; move = record { change = Collapses; waiting = false ∷ [] }; open_move = refl; nobody_waits = nobody; after = refl }),
                      (
                        s8,
                        s9,
                        inl refl,
                        record { goes_on = record { not_ended = refl; owes_no_end = refl }; v = 0; runs = record { loaded = refl; running = refl }; may_act = refl; trap = DataMiss 0xAD49_0000 (at_page uses.Store); traps = refl; access = at_page uses.Store; misses = refl; offset = 4096; leads = refl; rests = refl; halves = _; fills = at_head _ _ ((processor s8 0).tlb) (λ h has. has) (λ h has. ⊎_elim (λ e. ap (clash (half_for s8 0 0 (at_page uses.Store) 1)) (sym e)) absurd has); after = refl },
                        (
                          s9,
                          s10,
                          inl refl,
                          record { goes_on = record { not_ended = refl; owes_no_end = refl }; runs = record { loaded = refl; running = refl }; may_act = refl; done = done_or (step_on s9 0 0) (nothing s9); does = refl; after = refl },
                          (
                            s10,
                            s11,
                            inl refl,
                            inl (record { traps = record { goes_on = record { not_ended = refl; owes_no_end = refl }; runs = record { loaded = refl; running = refl }; may_act = refl; trap = Privileged 0x4200_0002; traps = refl; is_no_access = refl; kept = refl }; shares = false; needs_nothing = refl; after = refl }),
                            (
                              s11,
                              s12,
                              inl refl,
                              record { goes_on = record { not_ended = refl; owes_no_end = refl }; is_page = lit< tt; rests = refl; change = GivesShared spare; is_kind = refl; operation = None; asked = record { v = 0; runs = record { loaded = refl; running = refl }; shares = true; needs = inl refl; at_home = refl }; rest = []; fits = ((λ c has e. ⊎_elim (λ (same : (page s11 0).master ≡ c). four_three (ap (λ x. x.frame) same ∙ e)) (λ later. ⊎_elim (λ (same : (page s11 1).master ≡ c). one_three (ap (λ x. x.frame) same ∙ e)) absurd later) has), refl); lives = refl; after = refl },
                              (
                                s12,
                                s13,
                                inl refl,
                                record { goes_on = record { not_ended = refl; owes_no_end = refl }; may_act = refl; move = record { change = GivesShared spare; waiting = true ∷ [] }; open_move = refl; waits = refl; after = refl },
                                (
                                  s13,
                                  s14,
                                  inl refl,
                                  inl (record { goes_on = record { not_ended = refl; owes_no_end = refl }; move = record { change = GivesShared spare; waiting = false ∷ [] }; open_move = refl; nobody_waits = nobody; after = refl }),
                                  (
                                    s14,
                                    s15,
                                    inl refl,
                                    inl (record { traps = record { goes_on = record { not_ended = refl; owes_no_end = refl }; runs = record { loaded = refl; running = refl }; may_act = refl; trap = DataMiss 0xAE08_0038 send_at; traps = refl; is_no_access = refl; kept = refl }; shares = true; needs_nothing = refl; after = refl }),
                                    inl refl,
                                  ),
                                ),
                              ),
                            ),
                          ),
                        ),
                      ),
                    ),
                  ),
                ),
              ),
            ),
          ),
        ),
      ),
      refl,
    )
