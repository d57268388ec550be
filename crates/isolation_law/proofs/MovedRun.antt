-- One run, computed: a page is moved while it is mapped. It shows that these rows can be met.
use Rattle.base_words.specs.Limits.{most_processors}
use Rattle.isolation_law.proofs.Filling.{at_head}
use Rattle.isolation_law.proofs.StartProofs.{all_same}
use Rattle.isolation_law.specs.LoadRows.{page_left, unloaded}
use Rattle.std.proofs.Common.{◌≡◌, ◌≢◌, inl, ⊎_elim, ℕ, zero, suc, List, [], ◌∷◌, ◌++◌, Bool, true, false, Option, None, Some, Result, Ok, Err, refl, ap, ◌∙◌, slice_index_or, slice_set, is_none, ◌&&◌, lit<}
use Rattle.std.specs.List.{list_all}
use Rattle.base_words.specs.declared.ids.ProcId.{ProcId}
use Rattle.base_words.specs.declared.ids.VcpuId.{VcpuId}
use Rattle.base_words.specs.declared.ids.NodeId.{NodeId}
use Rattle.base_words.specs.declared.ids.Ppn.{Ppn}
use Rattle.private_machine.specs.Backing.{Copy, Migrates, Move, Page, no_page}
use Rattle.private_machine.specs.Reaching.{Wanted, fetch_at}
use Rattle.private_machine.specs.HardwareStep.{Trap, FetchMiss, Done}
use Rattle.isolation_law.specs.DirectStep.{direct}
use Rattle.isolation_law.specs.EndRows.{is_taking, ended}
use Rattle.isolation_law.specs.GuestState.{GuestState, idle, page, vcpu_of, with_processor}
use Rattle.isolation_law.specs.MachineEvent.{Row}
use Rattle.isolation_law.specs.MoveRows.{with_begun, with_finished}
use Rattle.isolation_law.specs.Phases.{GoesOn}
use Rattle.isolation_law.specs.RefillRow.{half_for, refilled}
use Rattle.isolation_law.specs.Run.{Run}
use Rattle.isolation_law.specs.Start.{Boot, start, no_processors}
use Rattle.isolation_law.specs.Surroundings.{Surroundings}
use Rattle.isolation_law.specs.Traps.{step_on}
use Rattle.base_words.specs.declared.effect.Request.TheVariants as asks
use Rattle.base_words.specs.declared.events.Event.{Event}
use Rattle.base_words.specs.declared.events.Event.TheVariants.{Load, Unload, Direct, Refill, Begin, Ack, Finish, End as Ending}
use Rattle.base_words.specs.declared.moves.By.TheVariants.{Plan}
use Rattle.base_words.specs.declared.events.End.TheVariants.{Budget}
use Rattle.base_words.specs.declared.moves.MoveKind.TheVariants.{Migrate}

-- two nodes of four frames in one cell, one processor on the first
abbrev pub around : Surroundings
around = record {
  guest = 0;
  profile = 1;
  home = 0;
  frames = 4;
  nodes = 0 ∷ 0 ∷ [];
  processors = 0 ∷ [];
  homes = 0 ∷ [];
  policy = record { migrate = 0; replicate = 0 };
}

-- LUI 8, C000; LW 9, 0(8); LW 9, 0(8), and any bytes behind
abbrev boot : List ℕ → Boot
boot rest =
    let program = 0x3C ∷ 0x08 ∷ 0xC0 ∷ 0x00 ∷ 0x8D ∷ 0x09 ∷ 0x00 ∷ 0x00 ∷ 0x8D ∷ 0x09 ∷ 0x00 ∷ 0x00 ∷ [] in record {
      around = around;
      image = record { entry = 0xC000_0000; pages = 1; memory = program ++ rest };
      vcpus = 1;
      disk = [];
      input = [];
      frames = record { frame = 0; generation = 1 } ∷ [];
    }

abbrev p : ProcId
p = record { 0 = 0 }

abbrev v : VcpuId
v = record { 0 = 0 }

abbrev q : Ppn
q = record { 0 = 0 }

abbrev n : NodeId
n = record { 0 = 1 }

abbrev journal : List Event
journal =
    Load p v ∷ Refill p ∷ Direct p v ∷ Begin q Migrate n (Plan p) ∷ Direct p v ∷ Ack p q ∷ Finish q
    ∷ Refill p ∷ Direct p v ∷ Unload p ∷ Ending Budget ∷ []

abbrev pub done_or : Result Done Trap → Done → Done
done_or (Ok done) other = done
done_or (Err trap) other = other

abbrev pub nothing : GuestState → Done
nothing s = record { fetched = record { page = 0; frame = 0 }; does = record { registers = (vcpu_of s 0).registers; request = asks.Nothing }; data_at = None }

abbrev pub stepped : GuestState → GuestState
stepped s = direct s 0 0 (done_or (step_on s 0 0) (nothing s))

abbrev pub fetched_at : GuestState → Wanted
fetched_at s = fetch_at (vcpu_of s 0).registers.pc

abbrev pub first_refilled : GuestState → GuestState
first_refilled s = refilled s 0 0 (fetched_at s) 0 (half_for s 0 0 (fetched_at s) 0 ∷ [])

abbrev target : Copy
target = record { frame = 4; generation = 1; bytes = [] }

idle_everywhere : (r : ℕ) → (slice_index_or (idle ∷ []) r idle).loaded ≢ Some 0
idle_everywhere zero same = cc
idle_everywhere (suc r) same = cc

nobody : (r : ℕ) → slice_index_or no_processors r false ≡ false
nobody r = all_same most_processors r false

abbrev loaded_first : GuestState → GuestState
loaded_first s = with_processor s 0 (record { loaded = Some 0; tlb = [] })

-- a page rests
abbrev pub rests : Page → Bool
rests g = is_none g.move

pub none_moves : (pages : List Page) → list_all rests pages ≡ true → (r : ℕ) → (slice_index_or pages r no_page).move ≡ None
none_moves [] all r = refl
none_moves (g ∷ pages) all zero = elim g.move as (λ m. (is_none m && list_all rests pages) ≡ true → m ≡ None) [ None ↦ λ e. refl | Some m ↦ λ e. cc ] all
none_moves (g ∷ pages) all (suc r) = none_moves pages (elim g.move as (λ m. (is_none m && list_all rests pages) ≡ true → list_all rests pages ≡ true) [ None ↦ λ e. e | Some m ↦ λ e. cc ] all) r

is_some : (o : Option Move) (m : Move) → o ≡ None → o ≡ Some m → ⊥
is_some o m e some = cc

-- a guest of which no page moves may end as the plan is done
ends_at_rest : (s : GuestState) → GoesOn s → list_all rests s.pages ≡ true → Row s (Ending Budget) (ended Budget s)
ends_at_rest s on all = record {
  may = record { not_ended = on.not_ended; no_other = inl on.owes_no_end; all_wait = λ r m e none. is_some (page s r).move m (none_moves s.pages all r) e };
  takes_nothing = λ r. ap is_taking (none_moves s.pages all r);
  after = refl;
}

not_four : ◌≡◌ {A = ℕ} 0 4 → ⊥
not_four e = cc

pub moves_while_mapped : (rest : List ℕ) → (t : GuestState) × Run (start (boot rest)) journal t × (t.end ≡ Some Budget)
moves_while_mapped rest =
    let s0 = start (boot rest) in
    let s1 = loaded_first s0 in
    let s2 = first_refilled s1 in
    let s3 = stepped s2 in
    let s4 = with_begun s3 0 (Migrates target) None [] in
    let s5 = stepped s4 in
    let s6 = page_left 0 0 s5 in
    let s7 = with_finished s6 0 (Migrates target) in
    let s8 = first_refilled s7 in
    let s9 = stepped s8 in
    let s10 = unloaded 0 s9 in
    let s11 = ended Budget s10 in (
      s11,
      (
        s0,
        s1,
        inl refl,
        record { goes_on = record { not_ended = refl; owes_no_end = refl }; is_processor = lit< tt; is_vcpu = lit< tt; nowhere = idle_everywhere; free = refl; lives = refl; after = refl },
        (
          s1,
          s2,
          inl refl,
          record { goes_on = record { not_ended = refl; owes_no_end = refl }; v = 0; runs = record { loaded = refl; running = refl }; may_act = refl; trap = FetchMiss (fetched_at s1); traps = refl; access = fetched_at s1; misses = refl; offset = 0; leads = refl; rests = refl; halves = _; fills = at_head _ _ ([]) (λ h has. absurd has) (λ h has. absurd has); after = refl },
          (
            s2,
            s3,
            inl refl,
            record { goes_on = record { not_ended = refl; owes_no_end = refl }; runs = record { loaded = refl; running = refl }; may_act = refl; done = done_or (step_on s2 0 0) (nothing s2); does = refl; after = refl },
            (
              s3,
              s4,
              inl refl,
              record { goes_on = record { not_ended = refl; owes_no_end = refl }; is_page = lit< tt; rests = refl; change = Migrates target; is_kind = refl; operation = None; asked = (record { planned = inl refl; not_due = λ e. cc }, refl, refl); rest = []; fits = (refl, (λ c has e. ⊎_elim (λ (same : (page s3 0).master ≡ c). not_four (ap (λ x. x.frame) same ∙ e)) absurd has), refl); lives = refl; after = refl },
              (
                s4,
                s5,
                inl refl,
                record { goes_on = record { not_ended = refl; owes_no_end = refl }; runs = record { loaded = refl; running = refl }; may_act = refl; done = done_or (step_on s4 0 0) (nothing s4); does = refl; after = refl },
                (
                  s5,
                  s6,
                  inl refl,
                  record { goes_on = record { not_ended = refl; owes_no_end = refl }; may_act = refl; move = record { change = Migrates target; waiting = slice_set no_processors 0 true }; open_move = refl; waits = refl; after = refl },
                  (
                    s6,
                    s7,
                    inl refl,
                    inl (record { goes_on = record { not_ended = refl; owes_no_end = refl }; move = record { change = Migrates target; waiting = no_processors }; open_move = refl; nobody_waits = nobody; after = refl }),
                    (
                      s7,
                      s8,
                      inl refl,
                      record { goes_on = record { not_ended = refl; owes_no_end = refl }; v = 0; runs = record { loaded = refl; running = refl }; may_act = refl; trap = FetchMiss (fetched_at s7); traps = refl; access = fetched_at s7; misses = refl; offset = 8; leads = refl; rests = refl; halves = _; fills = at_head _ _ ([]) (λ h has. absurd has) (λ h has. absurd has); after = refl },
                      (
                        s8,
                        s9,
                        inl refl,
                        record { goes_on = record { not_ended = refl; owes_no_end = refl }; runs = record { loaded = refl; running = refl }; may_act = refl; done = done_or (step_on s8 0 0) (nothing s8); does = refl; after = refl },
                        (
                          s9,
                          s10,
                          inl refl,
                          record { phase = inl (record { not_ended = refl; owes_no_end = refl }); loaded = λ e. cc; after = refl },
                          (
                            s10,
                            s11,
                            inl refl,
                            ends_at_rest s10 (record { not_ended = refl; owes_no_end = refl }) refl,
                            inl refl,
                          ),
                        ),
                      ),
                    ),
                  ),
                ),
              ),
            ),
          ),
        ),
      ),
      refl,
    )
