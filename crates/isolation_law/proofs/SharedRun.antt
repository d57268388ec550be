-- One run, computed: a disk read takes a page shared, a store breaks it, the guest halts, and what comes after its end.
use Rattle.isolation_law.specs.LoadRows.{unloaded}
use Rattle.private_machine.specs.Policy.{no_misses}
use Rattle.isolation_law.proofs.Filling.{at_head}
use Rattle.std.proofs.Common.{◌≡◌, inl, inr, ⊎_elim, ℕ, zero, suc, List, [], ◌∷◌, ◌++◌, true, false, None, Some, refl, sym, ap, slice_index_or, slice_set, replicate, lit<}
use Rattle.base_words.specs.declared.ids.ProcId.{ProcId}
use Rattle.base_words.specs.declared.ids.VcpuId.{VcpuId}
use Rattle.base_words.specs.declared.ids.NodeId.{NodeId}
use Rattle.base_words.specs.declared.ids.Ppn.{Ppn}
use Rattle.base_words.specs.declared.exception.Use.TheVariants as uses
use Rattle.base_words.specs.Halves.{clash}
use Rattle.private_machine.specs.Backing.{Copy, Breaks, TakesShared, Page}
use Rattle.private_machine.specs.Operation.{ReadsBlock}
use Rattle.private_machine.specs.DevicePage.{untouched}
use Rattle.private_machine.specs.Reaching.{Wanted}
use Rattle.private_machine.specs.HardwareStep.{FetchMiss, DataMiss}
use Rattle.private_machine.specs.OwnStep.{own_step}
use Rattle.private_machine.specs.Vcpu.{started}
use Rattle.isolation_law.specs.Content.{content, with_own}
use Rattle.isolation_law.specs.EndRows.{is_taking, ended}
use Rattle.isolation_law.specs.GuestState.{GuestState, idle, processor}
use Rattle.isolation_law.specs.MoveRows.{with_begun, with_finished}
use Rattle.isolation_law.specs.Parts.{Ended, SkipEntry}
use Rattle.isolation_law.specs.RefillRow.{half_for, refilled}
use Rattle.isolation_law.specs.Run.{Run}
use Rattle.isolation_law.specs.SkipRow.{with_skipped}
use Rattle.isolation_law.specs.StepRows.{taken_shared, emulated, shown_again}
use Rattle.isolation_law.specs.Traps.{step_on}
use Rattle.base_words.specs.declared.events.Event.{Event}
use Rattle.base_words.specs.declared.events.Event.TheVariants.{Unload, Direct, Refill, Emulate, Begin, Finish, Skip, End as Ending}
use Rattle.base_words.specs.declared.moves.By.TheVariants.{Plan, Step}
use Rattle.base_words.specs.declared.events.End.TheVariants.{Halted}
use Rattle.base_words.specs.declared.moves.MoveKind.TheVariants.{Migrate, Break, TakeShared}
use Rattle.isolation_law.proofs.MovedRun.{around, done_or, nothing, stepped, fetched_at, first_refilled, none_moves}

abbrev p : ProcId
p = record { 0 = 0 }

abbrev v : VcpuId
v = record { 0 = 0 }

abbrev q : Ppn
q = record { 0 = 1 }

abbrev n : NodeId
n = record { 0 = 0 }

-- SW 9, 28(16); SW 9, 0(10); SW 0, 4(16): a disk command, a store into the page that was read, a halt
abbrev program : List ℕ
program = 0xAE ∷ 0x09 ∷ 0x00 ∷ 0x28 ∷ 0xAD ∷ 0x49 ∷ 0x00 ∷ 0x00 ∷ 0xAE ∷ 0x00 ∷ 0x00 ∷ 0x04 ∷ []

-- register 9 is 1, register 10 the second page, register 16 the device page
abbrev general : List ℕ
general = slice_set (slice_set (slice_set (replicate 32 0) 9 1) 10 0xC000_1000) 16 0xCFFF_F000

abbrev pub backed : ℕ → List ℕ → Page
backed frame bytes = record {
  master = record { frame = frame; generation = 1; bytes = bytes };
  shared = false;
  replicas = [];
  mapped = false ∷ [];
  move = None;
}

-- a guest of two pages and one block, whose virtual processor is loaded
abbrev pub begins : List ℕ → List ℕ → List ℕ → GuestState
begins rest other block = record {
  around = around;
  vcpus = record (started 0xC000_0000) { registers = record (started 0xC000_0000).registers { general = general } } ∷ [];
  blocks = None ∷ [];
  devices = record (untouched 1 []) { transfers = record { block = 0; page = 1; status = 0; send_page = 0; send_length = 0 } ∷ [] };
  disk = record { given = block; overlay = None } ∷ [];
  sent_from = [];
  received = [];
  discarded = [];
  skips = [];
  hand = None;
  end = None;
  closing = None;
  pages = backed 0 (program ++ rest) ∷ backed 1 other ∷ [];
  operations = None ∷ None ∷ [];
  misses = no_misses 2 ∷ no_misses 2 ∷ [];
  spares = [];
  processors = record idle { loaded = Some 0 } ∷ [];
  due = None ∷ [];
  seconds = [] ∷ [];
  dead = false ∷ [];
}

abbrev shared_frame : List ℕ → Copy
shared_frame block = record { frame = 2; generation = 7; bytes = block }

abbrev own_frame : List ℕ → Copy
own_frame other = record { frame = 1; generation = 1; bytes = other }

abbrev store_at : Wanted
store_at = record { purpose = uses.Store; unit = 4; address = 0xC000_1000 }

abbrev halt_at : Wanted
halt_at = record { purpose = uses.Store; unit = 4; address = 0xCFFF_F004 }

abbrev command_at : Wanted
command_at = record { purpose = uses.Store; unit = 4; address = 0xCFFF_F028 }

abbrev filled_for_store : GuestState → GuestState
filled_for_store s = refilled s 0 0 store_at 1 (half_for s 0 0 store_at 1 ∷ (processor s 0).tlb)

nobody : (r : ℕ) → slice_index_or (false ∷ []) r false ≡ false
nobody zero = refl
nobody (suc r) = refl

abbrev journal : List Event
journal =
    Refill p ∷ Begin q TakeShared n (Step p) ∷ Emulate p v ∷ Begin q Break n (Step p) ∷ Finish q ∷ Refill p ∷ Direct p v
    ∷ Emulate p v ∷ Ending Halted ∷ Unload p ∷ Skip 0 ∷ []

abbrev skip : SkipEntry
skip = record { wish = record { page = 1; kind = Migrate; node = 1 }; by = Plan p; cause = Ended }

pub reads_breaks_and_halts : (rest other block : List ℕ) → (t : GuestState) × Run (begins rest other block) journal t × (t.end ≡ Some Halted)
reads_breaks_and_halts rest other block =
    let s0 = begins rest other block in
    let s1 = first_refilled s0 in
    let s2 = with_begun s1 1 (TakesShared (shared_frame block)) (Some (ReadsBlock 0 0)) [] in
    let s3 = shown_again 0 (with_own (own_step (content s2) 0) (taken_shared 1 (shared_frame block) s2)) in
    let s4 = with_begun s3 1 (Breaks (own_frame other)) None [] in
    let s5 = with_finished s4 1 (Breaks (own_frame other)) in
    let s6 = filled_for_store s5 in
    let s7 = stepped s6 in
    let s8 = emulated s7 0 0 in
    let s9 = ended Halted s8 in
    let s10 = unloaded 0 s9 in
    let s11 = with_skipped s10 skip in (
      s11,
      (
        s0,
        s1,
        inl refl,
        record { goes_on = record { not_ended = refl; owes_no_end = refl }; v = 0; runs = record { loaded = refl; running = refl }; may_act = refl; trap = FetchMiss (fetched_at s0); traps = refl; access = fetched_at s0; misses = refl; offset = 0; leads = refl; rests = refl; halves = _; fills = at_head _ _ ([]) (λ h has. absurd has) (λ h has. absurd has); after = refl },
        (
          s1,
          s2,
          inl refl,
          record { goes_on = record { not_ended = refl; owes_no_end = refl }; is_page = lit< tt; rests = refl; change = TakesShared (shared_frame block); is_kind = refl; operation = Some (ReadsBlock 0 0); asked = record { v = 0; runs = record { loaded = refl; running = refl }; shares = true; needs = inl refl; at_home = refl }; rest = []; fits = (refl, refl); lives = refl; after = refl },
          (
            s2,
            s3,
            inl refl,
            inr (record { traps = record { goes_on = record { not_ended = refl; owes_no_end = refl }; runs = record { loaded = refl; running = refl }; may_act = refl; trap = DataMiss 0xAE09_0028 command_at; traps = refl; is_no_access = refl; kept = refl }; q = 1; b = 0; reads = refl; target = shared_frame block; waiting = false ∷ []; open_move = refl; its_own = refl; nobody_waits = nobody; unwritten = refl; after = refl }),
            (
              s3,
              s4,
              inl refl,
              record { goes_on = record { not_ended = refl; owes_no_end = refl }; is_page = lit< tt; rests = refl; change = Breaks (own_frame other); is_kind = refl; operation = None; asked = record { v = 0; runs = record { loaded = refl; running = refl }; shares = false; needs = inl refl; at_home = refl }; rest = []; fits = record { place = 0; is_it = refl; others = refl }; lives = refl; after = refl },
              (
                s4,
                s5,
                inl refl,
                inl (record { goes_on = record { not_ended = refl; owes_no_end = refl }; move = record { change = Breaks (own_frame other); waiting = false ∷ [] }; open_move = refl; nobody_waits = nobody; after = refl }),
                (
                  s5,
                  s6,
                  inl refl,
                  record { goes_on = record { not_ended = refl; owes_no_end = refl }; v = 0; runs = record { loaded = refl; running = refl }; may_act = refl; trap = DataMiss 0xAD49_0000 store_at; traps = refl; access = store_at; misses = refl; offset = 4096; leads = refl; rests = refl; halves = _; fills = at_head _ _ ((processor s5 0).tlb) (λ h has. has) (λ h has. ⊎_elim (λ e. ap (clash (half_for s5 0 0 store_at 1)) (sym e)) absurd has); after = refl },
                  (
                    s6,
                    s7,
                    inl refl,
                    record { goes_on = record { not_ended = refl; owes_no_end = refl }; runs = record { loaded = refl; running = refl }; may_act = refl; done = done_or (step_on s6 0 0) (nothing s6); does = refl; after = refl },
                    (
                      s7,
                      s8,
                      inl refl,
                      inl (record { traps = record { goes_on = record { not_ended = refl; owes_no_end = refl }; runs = record { loaded = refl; running = refl }; may_act = refl; trap = DataMiss 0xAE00_0004 halt_at; traps = refl; is_no_access = refl; kept = refl }; shares = false; needs_nothing = refl; after = refl }),
                      (
                        s8,
                        s9,
                        inl refl,
                        record { may = (refl, refl); takes_nothing = λ r. ap is_taking (none_moves s8.pages refl r); after = refl },
                        (
                          s9,
                          s10,
                          inl refl,
                          record { phase = inr refl; loaded = λ e. cc; after = refl },
                          (
                            s10,
                            s11,
                            inl refl,
                            record { phase = inr refl; entry = skip; in_range = λ e. cc; asked = record { planned = inl refl; not_due = λ e. cc }; caused = inl refl; next = refl; after = refl },
                            inl refl,
                          ),
                        ),
                      ),
                    ),
                  ),
                ),
              ),
            ),
          ),
        ),
      ),
      refl,
    )
