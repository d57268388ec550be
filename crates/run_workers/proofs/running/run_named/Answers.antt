use Rattle.std.proofs.Common.{rules, ◌≡◌, map, Some, sym, subst, ◌∙◌, ap, length, List, All, ℕ, ◌≤◌}
use Rattle.std.specs.Prelude.{slice_index_or}
use Rattle.std.proofs.lemmas.List.{length-map, with_items_is}
use Rattle.guest_core.specs.GuestView.{Shared}
use Rattle.wire_queue.specs.Between.{Made}
use Rattle.shootdown.specs.Notes.{Token, Seat, AreInStep}
use Rattle.isolation_law.specs.Start.{Boot}
use Rattle.machine_desc.specs.declared.plan.Item.{Item}
use Rattle.guest_lock.specs.Guests.{GuestsFrom}
use Rattle.plan_due.specs.Planned.{planned}
use Rattle.plan_due.specs.PlanDue.{slices_of, failures_of}
use Rattle.plan_due.specs.Dealt.{queue_of, dealt}
use Rattle.plan_due.specs.Slices.{own, AreTold}
use Rattle.plan_due.specs.Leftover.{IsPlace, Leftover}
use Rattle.run_workers.specs.Working.{machine_of, IsOn}
use Rattle.run_workers.specs.WholeRecord.{lefts_of}
use Rattle.run_workers.specs.Workers.{IsReady, IsPlanOf}
use Rattle.run_workers.specs.Parts.{token_of, outcomes_of, outcomes_in}
use Rattle.guest_boot.specs.Booting.{start_of}
use Rattle.run_workers.specs.Ending.{AllLeft, AllTold}
use Rattle.run_workers.specs.Named.{board_of_tokens}
use Rattle.run_workers.proofs.LeftoverLemmas.{has-left, all-places, fails-once, guest-count}
use Rattle.run_workers.proofs.RunLemmas.{all-passes, starts-numbers, all-guests, ready, done-at, all-processors, starts-cells, seat-boards, token-boards, all-records}
use Rattle.run_workers.proofs.running.run_named.Goals as goal

pub new-cells-requires : goal.new-cells-requires
new-cells-requires g c =
    let board = board_of_tokens c.args.tokens in
    subst (λ b. GuestsFrom g.N.Starts.starts b g.N.Starts.shared 0 c.args.guests.items) (sym c.requires.board)
    (subst (λ (s : List Boot). GuestsFrom s board g.N.Starts.shared 0 c.args.guests.items) (sym c.requires.starts) (subst (λ (t : Shared). GuestsFrom (map start_of c.args.guests.items) board t 0 c.args.guests.items) (sym c.requires.shared) (all-guests board (record { table = c.args.table.now; wires = c.args.wires.now; indexes = c.args.indexes.now }) c.args.guests.items c.requires.may.guests_are)))

pub all_work-requires-clause-plan : goal.all_work-requires-clause-plan
all_work-requires-clause-plan g c κs within =
    let may = c.requires.may in
    subst (λ (s : List Boot). IsPlanOf s c.args.plan.now.items) (sym c.requires.starts) (record {
      few = subst (λ (n : ℕ). n ≤ 8) (sym (length-map c.args.guests.items start_of)) may.few;
      few_items = may.few_items;
      places = may.places;
      cells = starts-cells c.args.guests.items may.cells;
    })

pub all_work-requires-clause-ready : goal.all_work-requires-clause-ready
all_work-requires-clause-ready g c κs within = λ i d l.
    let may = c.requires.may in
    let board = board_of_tokens c.args.tokens in
    let was = c.deref_mut.result.now in
    let tokens : map token_of was ≡ c.args.tokens = search rules in
    let is = ready c.args.guests.items board c.args.tokens was may.tokens_are may.processors may.few_tokens tokens i d l in
    subst (λ b. IsReady g.N.Starts.starts b (slice_index_or was i d)) (sym c.requires.board) (subst (λ (s : List Boot). IsReady s board (slice_index_or was i d)) (sym c.requires.starts) is)

pub close_notes-requires : goal.close_notes-requires
close_notes-requires g c =
    let may = c.requires.may in
    let board = board_of_tokens c.args.tokens in
    let was = c.deref_mut.result.now in
    let now = c.all_work.new.workers in
    let tokens : map token_of was ≡ c.args.tokens = search rules in
    let same : length now ≡ c.in_ok-workers.workers.len = c.all_work.ensures.all ∙ c.deref_mut.ensures.len in
    let all = with_items_is c.in_ok-workers.workers now same in
    let tokens-are : c.in_ok-tokens.tokens ≡ map token_of now = c.in_ok-tokens.ensures.tokens ∙ ap (map token_of) all in
    let made : map Some (outcomes_in c.in_ok-tokens.queues.items) ≡ map outcomes_of now = c.in_ok-tokens.ensures.outcomes ∙ ap (map outcomes_of) all in
    let done = done-at (machine_of g.N.Starts.starts) board c.args.plan.now.items c.args.tokens was now (outcomes_in c.in_ok-tokens.queues.items) may.tokens_are tokens c.all_work.ensures.all c.all_work.ensures.each made in
    let left : AllLeft g.N.Starts.starts g.N.Starts.board g.N.Starts.shared.wires c.in_ok-guests.guests c.in_ok-guests.passes c.in_ok-guests.seats = c.in_ok-guests.ensures.left in
    record {
      board = board;
      of_tokens = subst (λ (l : List Token). All (λ (t : Token). t.board ≡ board) l) (sym tokens-are) (token-boards (machine_of g.N.Starts.starts) board (planned 0 c.args.plan.now.items) (outcomes_in c.in_ok-tokens.queues.items) (map token_of now) done);
      of_seats = subst (λ b. All (λ (s : Seat). s.board ≡ b) c.in_ok-guests.seats) c.requires.board (seat-boards g.N.Starts.starts g.N.Starts.board 0 left.states c.in_ok-guests.guests c.in_ok-guests.seats left.each);
    }

pub in_order-requires : goal.in_order-requires
in_order-requires g c = λ i d l.
    let was = c.deref_mut.result.now in
    let now = c.all_work.new.workers in
    let tokens : map token_of was ≡ c.args.tokens = search rules in
    let same : length now ≡ c.in_ok-workers.workers.len = c.all_work.ensures.all ∙ c.deref_mut.ensures.len in
    let all = with_items_is c.in_ok-workers.workers now same in
    let made : map Some (outcomes_in c.in_ok-tokens.queues.items) ≡ map outcomes_of now = c.in_ok-tokens.ensures.outcomes ∙ ap (map outcomes_of) all in
    let count : length c.args.tokens ≡ length c.in_ok-tokens.queues.items =
    ap length (sym tokens) ∙ length-map was token_of ∙ sym c.all_work.ensures.all ∙ sym (length-map now outcomes_of) ∙ ap length (sym made) ∙ length-map (outcomes_in c.in_ok-tokens.queues.items) Some ∙ length-map c.in_ok-tokens.queues.items _ in
    let on : All (IsOn (length c.in_ok-tokens.queues.items)) c.args.plan.now.items = subst (λ n. All (IsOn n) c.args.plan.now.items) count c.requires.may.on in
    subst (λ (l : List Item). All (IsOn (length c.in_ok-tokens.queues.items)) l) (sym c.as_slice.ensures) on i d l

pub returns-clause-run : goal.returns-clause-run
returns-clause-run g c =
    let may = c.requires.may in
    let board = board_of_tokens c.args.tokens in
    let starts = map start_of c.args.guests.items in
    let was = c.deref_mut.result.now in
    let now = c.all_work.new.workers in
    let items = c.args.plan.now.items in
    let queues = outcomes_in c.in_ok-tokens.queues.items in
    let lefts = c.in_ok-guests.guests in
    let lists = c.in_ok-guests.passes in
    let seats = c.in_ok-guests.seats in
    let tokens : map token_of was ≡ c.args.tokens = search rules in
    let same : length now ≡ c.in_ok-workers.workers.len = c.all_work.ensures.all ∙ c.deref_mut.ensures.len in
    let all = with_items_is c.in_ok-workers.workers now same in
    let tokens-are : c.in_ok-tokens.tokens ≡ map token_of now = c.in_ok-tokens.ensures.tokens ∙ ap (map token_of) all in
    let made : map Some queues ≡ map outcomes_of now = c.in_ok-tokens.ensures.outcomes ∙ ap (map outcomes_of) all in
    let done = done-at (machine_of g.N.Starts.starts) board items c.args.tokens was now queues may.tokens_are tokens c.all_work.ensures.all c.all_work.ensures.each made in
    let left : AllLeft starts board g.N.Starts.shared.wires lefts lists seats = subst (λ b. AllLeft starts b g.N.Starts.shared.wires lefts lists seats) c.requires.board (subst (λ (s : List Boot). AllLeft s g.N.Starts.board g.N.Starts.shared.wires lefts lists seats) c.requires.starts c.in_ok-guests.ensures.left) in
    let out = map token_of now in
    let many : length out ≡ length c.args.tokens = length-map now token_of ∙ c.all_work.ensures.all ∙ sym (length-map was token_of) ∙ ap length tokens in
    let guests = lefts_of left.states lefts in
    let guests-are : length guests ≡ length starts = guest-count starts board left.states lefts seats left.each left.count in
    let processors : All (λ (b : Boot). length b.around.processors ≡ length out) starts = subst (λ n. All (λ (b : Boot). length b.around.processors ≡ n) starts) (sym many) (all-processors c.args.guests.items (length c.args.tokens) may.processors) in
    let over : Leftover (machine_of starts) (planned 0 items) out queues guests seats = record {
      numbers = λ p t at. (done p t at).number_is;
      told = λ p t at. subst (λ (s : List Boot). AreTold (machine_of s) (own p (planned 0 items)) (queue_of queues p) t.notes) c.requires.starts (done p t at).told;
      queues_are = sym (length-map queues Some) ∙ ap length made ∙ length-map now outcomes_of ∙ sym (length-map now token_of);
      left = has-left starts board g.N.Starts.shared.wires (length out) left.states lefts lists seats left.each left.told processors (starts-cells c.args.guests.items may.cells);
      in_step = subst (λ (l : List Token). AreInStep l seats) tokens-are c.close_notes.ensures;
      places = subst (λ n. All (IsPlace n guests) (planned 0 items)) (sym many) (all-places starts (length c.args.tokens) guests 0 items guests-are may.places may.on);
      many = sym guests-are;
      once = fails-once items may.failed_once;
    } in
    let dealt-is = ap (λ (l : List Item). dealt (planned 0 l) queues) c.as_slice.ensures in
    record {
      states = left.states;
      guests = all-records starts board left.states lefts seats left.each left.count;
      due = record {
        outcomes = dealt (planned 0 items) queues;
        slices = c.in_ok-slices.ensures.slices ∙ ap slices_of dealt-is;
        failures = c.in_ok-slices.ensures.failures ∙ ap failures_of dealt-is;
        due = c.plans_are_due.ensures (machine_of starts) (planned 0 items) out queues guests seats over;
      };
      told = subst (λ (m : Made). AllTold starts m 0 left.states lefts lists) (ap (λ (x : Shared). x.wires) c.requires.shared) left.told;
      drained = left.drained;
    }

pub returns-clause-passes : goal.returns-clause-passes
returns-clause-passes g c =
    let may = c.requires.may in
    let guests = c.args.guests.items in
    let starts = map start_of guests in
    let wires = c.args.wires.now in
    let lefts = c.in_ok-guests.guests in
    let lists = c.in_ok-guests.passes in
    let seats = c.in_ok-guests.seats in
    let left : AllLeft starts g.N.Starts.board wires lefts lists seats = subst (λ (m : Made). AllLeft starts g.N.Starts.board m lefts lists seats) (ap (λ (x : Shared). x.wires) c.requires.shared) (subst (λ (s : List Boot). AllLeft s g.N.Starts.board g.N.Starts.shared.wires lefts lists seats) c.requires.starts c.in_ok-guests.ensures.left) in
    all-passes starts wires left.states lefts lists left.told (left.count ∙ length-map guests start_of ∙ sym may.wires) (starts-numbers guests may.numbers)
