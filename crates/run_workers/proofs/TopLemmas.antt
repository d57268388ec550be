-- From a description to the run of its guests.
use Rattle.std.proofs.Common.{◌≡◌, ℕ, zero, suc, ◌+◌, ◌<◌, List, [], ◌∷◌, map, length, refl, sym, ap, ◌∙◌, subst, arith, inl, inr, Option, Some, None}
use Rattle.std.specs.Prelude.{slice_get, slice_index_or}
use Rattle.std.specs.Option.{IsSomeAnd}
use Rattle.std.proofs.lemmas.List.{length-map}
use Rattle.atomic_table.specs.Seated.{TableId}
use Rattle.base_words.specs.declared.input.InputEntry.{InputEntry}
use Rattle.base_words.specs.declared.ids.NodeId.{NodeId}
use Rattle.base_words.specs.declared.moves.MoveKind.{MoveKind}
use Rattle.base_words.specs.declared.moves.MoveKind.TheVariants.{Migrate, Replicate, Collapse, Break, TakeShared, GiveShared}
use Rattle.guest_boot.specs.declared.source.Source.{Source}
use Rattle.frame_words.specs.Holders.{Holding}
use Rattle.shootdown.specs.Notes.{Token}
use Rattle.shootdown.specs.Making.{numbered, fresh_token}
use Rattle.isolation_law.specs.Start.{Boot}
use Rattle.isolation_law.specs.Surroundings.{Surroundings, cell_of_processor}
use Rattle.private_machine.specs.PrivateRun.{Image as Given}
use Rattle.machine_desc.specs.declared.machine.GuestSpec.{GuestSpec}
use Rattle.machine_desc.specs.declared.plan.Item.{Item}
use Rattle.machine_desc.specs.declared.plan.Item.TheVariants.{Run, Move, Fail}
use Rattle.machine_desc.specs.Bounds.{LeadsTo, IsGuest, IsItem}
use Rattle.machine_desc.specs.Described.{Described}
use Rattle.machine_desc.specs.Accepted.{IsAccepted}
use Rattle.wire_queue.specs.Between.{Made}
use Rattle.wire_queue.specs.Closing.{AreInOrder}
use Rattle.wire_queue.specs.declared.lists.PassList.{PassList}
use Rattle.guest_core.specs.GuestView.{Monitored, Shared}
use Rattle.guest_core.specs.MoveCalls.{IsPlanned}
use Rattle.guest_core.specs.declared.records.RunRecord.{RunRecord}
use Rattle.guest_boot.specs.Starting.{around_of, IsStart, AreStarts, IsSource}
use Rattle.run_workers.specs.WholeRecord.{IsWhole}
use Rattle.run_workers.specs.Working.{cell_in, ItemFits, IsOn}
use Rattle.guest_boot.specs.Booting.{start_of, IsFresh, IsStarted, AreBooted, HasBooted}
use Rattle.run_workers.specs.Named.{board_of_tokens, MayRun, IsRunOf}
use Rattle.run_workers.proofs.WholeLemmas.{get-index, get-there}
use Rattle.run_workers.proofs.RunLemmas.{map-get, numbered-length}
use Rattle.run_workers.proofs.PacketLemmas.{meet-wires}

first-board : (board : TableId) (n : ℕ) → 0 < n → board_of_tokens (numbered (fresh_token board) 0 n) ≡ board
first-board board zero some = absurd (omega arith)
first-board board (suc n) some = refl

token-board : (d : Described) (board : TableId) (tokens : List Token) → tokens ≡ numbered (fresh_token board) 0 (length d.processors) → 0 < length d.processors → board_of_tokens tokens ≡ board
token-board d board tokens are some = ap board_of_tokens are ∙ first-board board (length d.processors) some

same-some : {A : Type 0} (x y : A) → Some x ≡ Some y → x ≡ y
same-some x y e = cc

-- the guest of a number, as it was started
started-at : (d : Described) (sources : List Source) (board : TableId) (shared : Shared) (guests : List Monitored) (g : ℕ) (guest : Monitored) → AreBooted d sources board shared guests → slice_get guests g ≡ Some guest → (source : Source) × (slice_get sources g ≡ Some source) × IsStarted d source board shared g guest
started-at d sources board shared guests g guest are at =
    let few = (get-index guests g guest guest at).0 in
    let count = are.count in
    let source = get-there sources g (omega arith) in
    (source.0, source.1, are.each g guest source.0 at source.1)

-- each source is its own guest's
abbrev pub AreTheirGuests : List GuestSpec → List Source → Type 0
AreTheirGuests specs sources = (g : ℕ) (source : Source) (spec : GuestSpec) → slice_get sources g ≡ Some source → slice_get specs g ≡ Some spec → IsSource spec source

-- a move leads to a node, and may be asked for
kind-fits : (nodes page : ℕ) (spec : GuestSpec) (kind : MoveKind) (node : NodeId) (w : Surroundings) → IsGuest nodes spec → w.home ≡ spec.node.0 → LeadsTo nodes spec kind node
    → (node.0 < nodes) × IsPlanned w (record { page = page; kind = kind; node = node.0 })
kind-fits nodes page spec Migrate node w is home to = (to, inl refl)
kind-fits nodes page spec Replicate node w is home to = (to, inr (inl refl))
kind-fits nodes page spec Collapse node w is home to = (subst (λ (n : NodeId). n.0 < nodes) (sym to) is.home, inr (inr (refl, ap (λ (n : NodeId). n.0) to ∙ sym home)))
kind-fits nodes page spec Break node w is home to = absurd to
kind-fits nodes page spec TakeShared node w is home to = absurd to
kind-fits nodes page spec GiveShared node w is home to = absurd to

item-fits : (d : Described) (sources : List Source) (board : TableId) (shared : Shared) (guests : List Monitored) (item : Item) → IsAccepted d → length guests ≡ length d.guests → AreTheirGuests d.guests sources → AreBooted d sources board shared guests → IsItem d item → ItemFits (map start_of guests) item
item-fits d sources board shared guests (Run p g v steps) accepted count from are is = by (slice_get d.guests g.0) refl is.of
  where
    by : (o : Option GuestSpec) → slice_get d.guests g.0 ≡ o → IsSomeAnd o (λ spec. v.0 < spec.vcpus) → ItemFits (map start_of guests) (Run p g v steps)
    by None e of = absurd of
    by (Some spec) e of =
        let few = (get-index d.guests g.0 spec spec e).0 in
        let guest = get-there guests g.0 (let l : g.0 < length guests = omega arith in l) in
        let started = started-at d sources board shared guests g.0 guest.0 are guest.1 in
        let same = same-some started.2.spec spec (sym started.2.spec_is ∙ e) in
        let vcpus : guest.0.start.vcpus ≡ spec.vcpus = started.2.start.vcpus ∙ ap (λ (s : GuestSpec). s.vcpus) same in
        record { start = guest.0.start; named = map-get start_of guests g.0 guest.0 guest.1; vcpu = subst (λ n. v.0 < n) (sym vcpus) of }
item-fits d sources board shared guests (Move p g page kind node) accepted count from are is = by (slice_get d.guests g.0) refl is.of is.to
  where
    by : (o : Option GuestSpec) → slice_get d.guests g.0 ≡ o → IsSomeAnd o (λ spec. page.0 < spec.pages) → IsSomeAnd o (λ spec. LeadsTo d.nodes spec kind node) → ItemFits (map start_of guests) (Move p g page kind node)
    by None e of to = absurd of
    by (Some spec) e of to =
        let there = get-index d.guests g.0 spec spec e in
        let few = there.0 in
        let is-guest : IsGuest d.nodes spec = subst (IsGuest d.nodes) there.1 (accepted.guests g.0 spec few) in
        let guest = get-there guests g.0 (let l : g.0 < length guests = omega arith in l) in
        let started = started-at d sources board shared guests g.0 guest.0 are guest.1 in
        let same = same-some started.2.spec spec (sym started.2.spec_is ∙ e) in
        let source = from g.0 started.0 spec started.1 e in
        let b = guest.0.start in
        let pages : b.image.pages ≡ spec.pages = ap (λ (i : Given). i.pages) started.2.start.image_is ∙ source.pages in
        let wide : length b.around.nodes ≡ d.nodes = ap (λ (w : Surroundings). length w.nodes) started.2.start.around ∙ length-map d.cells (λ c. c.0) ∙ accepted.in_cells in
        let home : b.around.home ≡ spec.node.0 = ap (λ (w : Surroundings). w.home) started.2.start.around ∙ ap (λ (s : GuestSpec). s.node.0) same in
        let fits = kind-fits d.nodes page.0 spec kind node b.around is-guest home to in
        record {
          start = b;
          named = map-get start_of guests g.0 guest.0 guest.1;
          may = record {
            is_page = subst (λ n. page.0 < n) (sym pages) of;
            is_node = subst (λ n. node.0 < n) (sym wide) fits.0;
            planned = fits.1;
          };
        }
item-fits d sources board shared guests (Fail p cell) accepted count from are is = omega (arith, is.of, accepted.few_cells)

item-on : (d : Described) (count : ℕ) (item : Item) → count ≡ length d.processors → IsItem d item → IsOn count item
item-on d count (Run p g v steps) same is = subst (λ n. p.0 < n) (sym same) is.on
item-on d count (Move p g page kind node) same is = subst (λ n. p.0 < n) (sym same) is.on
item-on d count (Fail p cell) same is = subst (λ n. p.0 < n) (sym same) is.on

-- each guest is told the same of the processors
cells-at : (d : Described) (sources : List Source) (board : TableId) (shared : Shared) (guests : List Monitored) (all : List Monitored) → AreBooted d sources board shared guests → (g : ℕ) (guest : Monitored) → slice_get all g ≡ Some guest → (p : ℕ)
    → ((i : ℕ) (x : Monitored) → slice_get all i ≡ Some x → slice_get guests i ≡ Some x) → cell_of_processor guest.start.around p ≡ cell_in (map start_of all) p
cells-at d sources board shared guests [] are g guest at p within = absurd cc
cells-at d sources board shared guests (x ∷ all) are g guest at p within =
    let here = (started-at d sources board shared guests g guest are (within g guest at)).2 in
    let first = (started-at d sources board shared guests 0 x are (within 0 x refl)).2 in
    let one : cell_of_processor guest.start.around p ≡ cell_of_processor (around_of d g here.spec) p = ap (λ (w : Surroundings). cell_of_processor w p) here.start.around in
    let other : cell_of_processor x.start.around p ≡ cell_of_processor (around_of d 0 first.spec) p = ap (λ (w : Surroundings). cell_of_processor w p) first.start.around in
    one ∙ sym other

pub may-run : (d : Described) (sources : List Source) (guests : List Monitored) (tokens : List Token) (shared : Shared) (holder : Holding) → IsAccepted d → length sources ≡ length d.guests → AreTheirGuests d.guests sources → HasBooted d sources guests tokens shared holder → MayRun guests tokens shared d.items
may-run d sources guests tokens shared holder accepted many from booted =
    let board = booted.board in
    let are = booted.guests_are in
    let count = are.count in
    let few = accepted.few_guests in
    let length-is : length tokens ≡ length d.processors = ap length booted.tokens_are ∙ numbered-length (fresh_token board) 0 (length d.processors) in
    let some = accepted.some_processors in
    let board-is = token-board d board tokens booted.tokens_are some in
    let all : length guests ≡ length d.guests = are.count ∙ many in
    let few-items = accepted.few_items in
    let few-processors = accepted.few_processors in
    record {
      few = omega arith;
      some = subst (λ n. 0 < n) (sym length-is) some;
      few_tokens = omega (arith, length-is, few-processors);
      guests_are = λ g guest at. subst (λ b. IsFresh b shared g guest) (sym board-is) (started-at d sources board shared guests g guest are at).2.fresh;
      numbers = λ g guest at. (let started = (started-at d sources board shared guests g guest are at).2 in ap (λ w. w.guest) started.start.around);
      wires = booted.wires;
      tokens_are = booted.tokens_are ∙ (λ k. numbered (fresh_token (sym board-is k)) 0 (sym length-is k));
      processors = λ g guest at. (let started = (started-at d sources board shared guests g guest are at).2 in ap (λ w. length w.processors) started.start.around ∙ length-map d.processors (λ n. n.0) ∙ sym length-is);
      cells = λ g guest at p. cells-at d sources board shared guests guests are g guest at p (λ i x e. e);
      few_items = omega arith;
      places = λ i e l. item-fits d sources board shared guests (slice_index_or d.items i e) accepted all from are (accepted.items i e l);
      on = λ i e l. item-on d (length tokens) (slice_index_or d.items i e) length-is (accepted.items i e l);
      failed_once = accepted.failed_once;
    }

starts-from : (d : Described) (k : ℕ) (specs : List GuestSpec) (sources : List Source) (inputs : List (List InputEntry)) (guests : List Monitored) → length sources ≡ length specs → length inputs ≡ length specs → length guests ≡ length specs
    → ((i : ℕ) (spec : GuestSpec) (source : Source) (input : List InputEntry) (guest : Monitored) → slice_get specs i ≡ Some spec → slice_get sources i ≡ Some source → slice_get inputs i ≡ Some input → slice_get guests i ≡ Some guest → IsStart d (k + i) spec source input guest.start)
    → AreStarts d k specs sources inputs (map start_of guests)
starts-from d k [] [] [] [] a b c each = tt
starts-from d k [] [] [] (g ∷ guests) a b c each = absurd (let m : suc (length guests) ≡ 0 = c in omega arith)
starts-from d k [] [] (i ∷ inputs) guests a b c each = absurd (let m : suc (length inputs) ≡ 0 = b in omega arith)
starts-from d k [] (i ∷ sources) inputs guests a b c each = absurd (let m : suc (length sources) ≡ 0 = a in omega arith)
starts-from d k (s ∷ specs) [] inputs guests a b c each = absurd (let m : 0 ≡ suc (length specs) = a in omega arith)
starts-from d k (s ∷ specs) (i ∷ sources) [] guests a b c each = absurd (let m : 0 ≡ suc (length specs) = b in omega arith)
starts-from d k (s ∷ specs) (i ∷ sources) (n ∷ inputs) [] a b c each = absurd (let m : 0 ≡ suc (length specs) = c in omega arith)
starts-from d k (s ∷ specs) (i ∷ sources) (n ∷ inputs) (g ∷ guests) a b c each = (
  subst (λ j. IsStart d j s i n g.start) (let e : k + 0 ≡ k = omega arith in e) (each zero s i n g refl refl refl refl),
  starts-from d (suc k) specs sources inputs guests (omega arith) (omega arith) (omega arith) (λ j spec source input guest p q r t. subst (λ m. IsStart d m spec source input guest.start) (let e : k + suc j ≡ suc k + j = omega arith in e) (each (suc j) spec source input guest p q r t)),
)

pub all-starts : (d : Described) (sources : List Source) (guests : List Monitored) (tokens : List Token) (shared : Shared) (holder : Holding) → IsAccepted d → length sources ≡ length d.guests → HasBooted d sources guests tokens shared holder → AreStarts d 0 d.guests sources d.input (map start_of guests)
all-starts d sources guests tokens shared holder accepted many booted =
    starts-from d 0 d.guests sources d.input guests many accepted.each_input (booted.guests_are.count ∙ many) (λ i spec source input guest p q r t.
    let started = booted.guests_are.each i guest source t q in
    let same-spec = same-some started.spec spec (sym started.spec_is ∙ p) in
    let same-input = same-some started.input input (sym started.input_is ∙ r) in
    let is = subst (λ (x : GuestSpec). IsStart d i x source started.input guest.start) same-spec started.start in
    subst (λ m. IsStart d m spec source input guest.start) (let e : i ≡ 0 + i = omega arith in e) (subst (λ (x : List InputEntry). IsStart d i spec source x guest.start) same-input is))

told-from : (d : Described) (k : ℕ) (specs : List GuestSpec) (sources : List Source) (inputs : List (List InputEntry)) (boots : List Boot) → AreStarts d k specs sources inputs boots → (i : ℕ) (b : Boot) → slice_get boots i ≡ Some b → b.around.guest ≡ k + i
told-from d k specs sources inputs [] are i b at = absurd (let m : i < 0 = (get-index [] i b b at).0 in omega arith)
told-from d k [] [] [] (x ∷ boots) are i b at = absurd are
told-from d k [] [] (n ∷ inputs) (x ∷ boots) are i b at = absurd are
told-from d k [] (c ∷ sources) inputs (x ∷ boots) are i b at = absurd are
told-from d k (s ∷ specs) [] inputs (x ∷ boots) are i b at = absurd are
told-from d k (s ∷ specs) (c ∷ sources) [] (x ∷ boots) are i b at = absurd are
told-from d k (s ∷ specs) (c ∷ sources) (n ∷ inputs) (x ∷ boots) are zero b at = subst (λ (y : Boot). y.around.guest ≡ k + 0) (same-some x b at) (ap (λ w. w.guest) are.0.around ∙ omega arith)
told-from d k (s ∷ specs) (c ∷ sources) (n ∷ inputs) (x ∷ boots) are (suc i) b at = told-from d (suc k) specs sources inputs boots are.1 i b at ∙ omega arith

-- each guest is told its own number
pub starts-told : (d : Described) (specs : List GuestSpec) (sources : List Source) (inputs : List (List InputEntry)) (boots : List Boot) → AreStarts d 0 specs sources inputs boots → (i : ℕ) (b : Boot) → slice_get boots i ≡ Some b → b.around.guest ≡ i
starts-told d specs sources inputs boots are i b at = told-from d 0 specs sources inputs boots are i b at ∙ (let e : 0 + i ≡ i = omega arith in e)

pub is-whole : (d : Described) (boots : List Boot) (wires : Made) (out : RunRecord) (lists : List PassList) → IsRunOf boots d.items wires out lists → ((i : ℕ) (b : Boot) → slice_get boots i ≡ Some b → b.around.guest ≡ i) → AreInOrder lists → IsWhole d boots out
is-whole d boots wires out lists is numbers ordered = record {
  states = is.states;
  guests = is.guests;
  due = is.due;
  packets = meet-wires boots wires is.states out.guests lists is.told numbers is.drained ordered;
}
