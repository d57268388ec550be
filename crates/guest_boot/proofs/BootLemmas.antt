-- Guests at their starts.
use Rattle.std.proofs.Common.{◌≡◌, ℕ, zero, suc, ◌+◌, ◌*◌, ◌<◌, ◌≤◌, ◌^◌, List, [], ◌∷◌, ◌++◌, map, length, All, refl, sym, ap, ◌∙◌, subst, arith, Some, length-append}
use Rattle.std.specs.Prelude.{slice_get, slice_index}
use Rattle.atomic_table.specs.Seated.{TableId}
use Rattle.base_words.specs.declared.ids.NodeId.{NodeId}
use Rattle.base_words.specs.declared.frame.Frame.{Frame}
use Rattle.guest_boot.specs.declared.source.Source.{Source}
use Rattle.shootdown.specs.Notes.{Token, Seat}
use Rattle.shootdown.specs.Making.{AreFresh, numbered, fresh_seat}
use Rattle.machine_desc.specs.declared.machine.GuestSpec.{GuestSpec}
use Rattle.machine_desc.specs.declared.machine.Machine.{Machine}
use Rattle.machine_desc.specs.declared.plan.Plan.{Plan}
use Rattle.machine_desc.specs.Bounds.{IsGuest}
use Rattle.machine_desc.specs.Described.{Described, described_seen}
use Rattle.machine_desc.specs.Accepted.{IsDescribed}
use Rattle.guest_course.specs.declared.site.Around.{Around}
use Rattle.guest_course.specs.BootCalls.{AllBelow, found_of}
use Rattle.guest_course.specs.CourseView.{surroundings}
use Rattle.isolation_law.specs.GuestState.{GuestState}
use Rattle.isolation_law.specs.Start.{Boot}
use Rattle.isolation_law.specs.Surroundings.{home_cell}
use Rattle.base_words.specs.declared.input.InputEntry.{InputEntry}
use Rattle.std.proofs.lemmas.List.{length-map}
use Rattle.std.proofs.Math.Nat.{mul-le-mul_left, mul-le-mul_right}
use Rattle.guest_core.specs.Blocks.{blocks_of, LieOnCell}
use Rattle.guest_core.specs.GuestView.{Monitored, Shared, IsAtStart}
use Rattle.guest_core.specs.Holding.{FitsAround}
use Rattle.guest_core.specs.Starting.{MayStart, booted_with}
use Rattle.guest_boot.specs.Starting.{IsSource, AreSources, IsPlaced, IsStart, around_of}
use Rattle.guest_boot.specs.Booting.{home_in, IsSite, IsSeat, board_of, AreSeats, IsStarted, AreBooted, AreWires, HasPasses, HaveAllPasses}
use Rattle.wire_queue.specs.Between.{Made}
use Rattle.wire_queue.specs.PassLists.{IsListOf, IsUnused}
use Rattle.wire_queue.specs.PassTables.{guests_of}
use Rattle.wire_queue.specs.declared.lists.PassList.{PassList}
use Rattle.guest_core.specs.Wiring.{IsWired}
use Rattle.base_words.specs.declared.ids.CellId.{CellId}
use Rattle.guest_boot.proofs.ListLemmas.{get-index, all-get, get-there, map-get, numbered-length}

mul-le : (a b c d : ℕ) → a ≤ b → c ≤ d → a * c ≤ b * d
mul-le a b c d l m = let x = mul-le-mul_right c l in let y = mul-le-mul_left b m in omega arith

all-below : (count : ℕ) (nodes : List NodeId) → All (λ (n : NodeId). n.0 < count) nodes → AllBelow count nodes
all-below count [] all = tt
all-below count (n ∷ nodes) all = (all 0 n (omega arith), all-below count nodes (λ i d l. all (suc i) d (omega arith)))

pub may-start : (machine : Machine) (plan : Plan) (around : Around) (source : Source) (spec : GuestSpec) (vcpus : ℕ) (frames : List Frame) → IsDescribed machine plan → IsSite machine around.site → IsGuest machine.shape.nodes spec → IsSource spec source → vcpus ≡ spec.vcpus → around.home ≡ spec.node → length frames ≡ length source.image.pages → MayStart around source.image vcpus frames source.disk
may-start machine plan around source spec vcpus frames described site guest is count home backed =
    let pages = is.pages in
    let some = guest.some_vcpus in
    let few = guest.few_vcpus in
    let small = guest.few_pages in
    let processors = ap length site.processors in
    let most = described.few_processors in
    let few-nodes = described.few_nodes in
    let bound = described.few_frames in
    let total : machine.shape.nodes * machine.shape.frames ≤ 8 * 4096 = mul-le machine.shape.nodes 8 machine.shape.frames 4096 few-nodes bound in
    record {
      some_vcpus = omega (arith, some, count);
      few_vcpus = omega (arith, few, count);
      few_pages = omega (arith, small, pages);
      backed = backed;
      few_processors = omega (arith, processors, most);
      few_guests = omega (arith, ap length site.homes, length-map around.site.homes (λ (x : CellId). x.0), length-map machine.guests (home_in machine), described.few_guests);
      few_frames = subst (λ (n : ℕ). n * around.site.shape.frames < 2 ^ 32) (sym site.nodes) (subst (λ (n : ℕ). machine.shape.nodes * n < 2 ^ 32) (sym site.frames) (omega (arith, total)));
      at_home = subst (λ (n : ℕ). around.home.0 < n) (sym site.nodes) (subst (λ (node : NodeId). node.0 < machine.shape.nodes) (sym home) guest.home);
      unwritten = is.unwritten;
      blocks = is.blocks;
      on_nodes = subst (λ l. AllBelow around.site.shape.nodes l) (sym site.processors) (subst (λ n. AllBelow n machine.processors) (sym site.nodes) (all-below machine.shape.nodes machine.processors described.on_nodes));
    }

-- ---- one guest after another

snoc-at : {A B : Type 0} (P : ℕ → A → B → Type 0) (xs : List A) (ys : List B) (x : A) (y : B) → length xs ≡ length ys → ((i : ℕ) (a : A) (b : B) → slice_get xs i ≡ Some a → slice_get ys i ≡ Some b → P i a b) → P (length xs) x y → (i : ℕ) (a : A) (b : B) → slice_get (xs ++ x ∷ []) i ≡ Some a → slice_get (ys ++ y ∷ []) i ≡ Some b → P i a b
snoc-at P [] [] x y same each last zero a b e f = let p : x ≡ a = cc in let q : y ≡ b = cc in subst (P 0 a) q (subst (λ z. P 0 z y) p last)
snoc-at P [] [] x y same each last (suc i) a b e f = absurd cc
snoc-at P [] (w ∷ ys) x y same each last i a b e f = absurd (let m : 0 ≡ suc (length ys) = same in omega arith)
snoc-at P (z ∷ xs) [] x y same each last i a b e f = absurd (let m : suc (length xs) ≡ 0 = same in omega arith)
snoc-at P (z ∷ xs) (w ∷ ys) x y same each last zero a b e f = each zero a b e f
snoc-at P (z ∷ xs) (w ∷ ys) x y same each last (suc i) a b e f = snoc-at (λ k. P (suc k)) xs ys x y (omega arith) (λ k. each (suc k)) last i a b e f

pub booted-none : (d : Described) (board : TableId) (shared : Shared) → AreBooted d [] board shared []
booted-none d board shared = record { count = refl; each = λ g guest source e f. absurd cc }

pub booted-more : (d : Described) (sources : List Source) (board : TableId) (shared : Shared) (guests : List Monitored) (source : Source) (guest : Monitored) → AreBooted d sources board shared guests → IsStarted d source board shared (length guests) guest → AreBooted d (sources ++ source ∷ []) board shared (guests ++ guest ∷ [])
booted-more d sources board shared guests source guest are is =
    let count = are.count in
    let more = length-append guests (guest ∷ []) in
    let also = length-append sources (source ∷ []) in record {
      count = omega (arith, count, more, also);
      each = snoc-at (λ g m i. IsStarted d i board shared g m) guests sources guest source are.count are.each is;
    }

-- a source among those of the description is its guest's
pub source-at : (specs : List GuestSpec) (sources : List Source) (g : ℕ) (source : Source) (spec : GuestSpec) → AreSources specs sources → slice_get sources g ≡ Some source → slice_get specs g ≡ Some spec → IsSource spec source
source-at [] sources g source spec are e f = absurd cc
source-at (s ∷ specs) [] g source spec are e f = absurd are
source-at (s ∷ specs) (i ∷ sources) zero source spec are e f = let p : i ≡ source = cc in let q : s ≡ spec = cc in subst (λ (x : Source). IsSource spec x) p (subst (λ (y : GuestSpec). IsSource y i) q are.0)
source-at (s ∷ specs) (i ∷ sources) (suc g) source spec are e f = source-at specs sources g source spec are.1 e f

pub source-here : (sources rest : List Source) (source : Source) → slice_get (sources ++ source ∷ rest) (length sources) ≡ Some source
source-here [] rest source = refl
source-here (i ∷ sources) rest source = source-here sources rest source

-- ---- seats

-- these are the seats from a number on
abbrev pub SeatsFrom : TableId → ℕ → List Seat → Type 0
SeatsFrom board number [] = Unit {0}
SeatsFrom board number (seat ∷ seats) = IsSeat board number seat × SeatsFrom board (number + 1) seats

seats-from : (board : TableId) (number : ℕ) (seats : List Seat) → ((g : ℕ) (seat : Seat) → slice_get seats g ≡ Some seat → IsSeat board (number + g) seat) → SeatsFrom board number seats
seats-from board number [] each = tt
seats-from board number (s ∷ seats) each = (
  subst (λ n. IsSeat board n s) (let e : number + 0 ≡ number = omega arith in e) (each zero s refl),
  seats-from board (number + 1) seats (λ g seat e. subst (λ n. IsSeat board n seat) (let m : number + suc g ≡ number + 1 + g = omega arith in m) (each (suc g) seat e)),
)

pub all-seats : (count : ℕ) (seats : List Seat) → AreSeats count seats → SeatsFrom (board_of seats) 0 seats
all-seats count seats are = seats-from (board_of seats) 0 seats (λ g seat e. subst (λ n. IsSeat (board_of seats) n seat) (let m : g ≡ 0 + g = omega arith in m) (are.each g seat e))

numbered-seat : (board : TableId) (k n g : ℕ) (seat : Seat) → slice_get (numbered (fresh_seat board) k n) g ≡ Some seat → seat ≡ fresh_seat board (k + g)
numbered-seat board k zero g seat e = absurd cc
numbered-seat board k (suc n) zero seat e = let same : fresh_seat board k ≡ seat = cc in sym same ∙ ap (fresh_seat board) (let m : k ≡ k + 0 = omega arith in m)
numbered-seat board k (suc n) (suc g) seat e = numbered-seat board (suc k) n g seat e ∙ ap (fresh_seat board) (let m : suc k + g ≡ k + suc g = omega arith in m)

first-seat : (board : TableId) (n : ℕ) → 0 < n → board_of (numbered (fresh_seat board) 0 n) ≡ board
first-seat board zero some = absurd (omega arith)
first-seat board (suc n) some = refl

pub seats-board : (count guests : ℕ) (tokens : List Token) (seats : List Seat) (fresh : AreFresh count guests tokens seats) → 0 < guests → board_of seats ≡ fresh.board
seats-board count guests tokens seats fresh some = ap board_of fresh.all_seats ∙ first-seat fresh.board guests some

pub fresh-seats : (count guests : ℕ) (tokens : List Token) (seats : List Seat) → AreFresh count guests tokens seats → 0 < guests → AreSeats guests seats
fresh-seats count guests tokens seats fresh some =
    let board = seats-board count guests tokens seats fresh some in record {
      all = ap length fresh.all_seats ∙ numbered-length (fresh_seat fresh.board) 0 guests;
      each = λ g seat e.
          let is = numbered-seat fresh.board 0 guests g seat (ap (λ l. slice_get l g) (sym fresh.all_seats) ∙ e) in
          subst (λ b. IsSeat b g seat) (sym board) (record {
            board_is = ap (λ (s : Seat). s.board) is;
            number_is = ap (λ (s : Seat). s.number) is ∙ (let m : 0 + g ≡ g = omega arith in m);
            no_notes = ap (λ (s : Seat). s.notes) is;
          });
    }

pub sources-count : (specs : List GuestSpec) (sources : List Source) → AreSources specs sources → length sources ≡ length specs
sources-count [] [] are = refl
sources-count [] (i ∷ sources) are = absurd are
sources-count (s ∷ specs) [] are = absurd are
sources-count (s ∷ specs) (i ∷ sources) are = ap suc (sources-count specs sources are.1)

-- ---- the source that comes next

pub record IsNext (machine : Machine) (sources yielded : List Source) (source : Source) : Type 0 where
  pub few : length yielded < length machine.guests
  pub here : slice_get sources (length yielded) ≡ Some source
  pub small : length source.image.pages ≤ 2048

pub next-source : (machine : Machine) (plan : Plan) (sources yielded rest now : List Source) (source : Source) → IsDescribed machine plan → AreSources machine.guests sources → yielded ++ rest ≡ sources → rest ≡ source ∷ now → IsNext machine sources yielded source
next-source machine plan sources yielded rest now source described are all first =
    let whole : yielded ++ source ∷ now ≡ sources = ap (λ l. yielded ++ l) (sym first) ∙ all in
    let here : slice_get sources (length yielded) ≡ Some source = ap (λ l. slice_get l (length yielded)) (sym whole) ∙ source-here yielded now source in
    let within = (get-index sources (length yielded) source source here).0 in
    let same = sources-count machine.guests sources are in
    let few : length yielded < length machine.guests = omega arith in
    let spec = get-there machine.guests (length yielded) few in
    let guest : IsGuest machine.shape.nodes spec.0 = all-get (IsGuest machine.shape.nodes) machine.guests (length yielded) spec.0 described.guests spec.1 in
    let pages = (source-at machine.guests sources (length yielded) source spec.0 are here spec.1).pages in
    let most = guest.few_pages in
    record { few = few; here = here; small = omega (arith, pages, most) }

-- ---- one guest at its start

pub started : (machine : Machine) (plan : Plan) (around : Around) (source : Source) (spec : GuestSpec) (frames : List Frame) (input : List InputEntry) (seat : Seat) (shared : Shared) (passes : PassList) (holder : TableId) (number : ℕ) (guest : Monitored) → IsSite machine around.site → around.number.0 ≡ number → around.profile ≡ spec.profile → around.home ≡ spec.node → slice_get machine.guests number ≡ Some spec → slice_get plan.input number ≡ Some input → IsPlaced (described_seen machine plan) number spec (map found_of frames) → seat.number ≡ number → IsAtStart seat.number (booted_with around source.image spec.vcpus frames source.disk input) around.disk seat.board holder shared.wires passes guest → holder ≡ shared.table.id → FitsAround shared.table (surroundings around) → LieOnCell (surroundings around) (home_cell (surroundings around)) (blocks_of shared.indexes (home_cell (surroundings around))) → passes.guest.0 ≡ number → IsStarted (described_seen machine plan) source seat.board shared number guest
started machine plan around source spec frames input seat shared passes holder number guest site of profile home spec-is input-is placed seat-is at made fits lie own =
    let d = described_seen machine plan in
    let lies : surroundings around ≡ around_of d number spec = λ k. record {
      guest = of k;
      profile = profile k;
      home = (home k).0;
      frames = site.frames k;
      nodes = map (λ c. c.0) (site.cells k);
      processors = map (λ n. n.0) (site.processors k);
      homes = site.homes k;
      policy = site.policy k;
    } in
    let start : IsStart d number spec source input (booted_with around source.image spec.vcpus frames source.disk input) = record {
      around = lies;
      image_is = refl;
      vcpus = refl;
      disk_is = refl;
      input_is = refl;
      placed = placed;
    } in
    record {
      fresh = record {
        number_is = at.number_is ∙ seat-is;
        board_is = at.board_is;
        shared_is = record {
          table = record { made = at.table_is ∙ made; fits = subst (λ (b : Boot). FitsAround shared.table b.around) (sym at.start_is) fits };
          wires = at.wires_are;
          blocks = subst (λ (b : Boot). LieOnCell b.around (home_cell b.around) (blocks_of shared.indexes (home_cell b.around))) (sym at.start_is) lie;
        };
        own_is = ap (λ (p : PassList). p.guest.0) at.passes_are ∙ own;
        goes_on = ap (λ (s : GuestState). s.end) at.state_is;
      };
      spec = spec;
      spec_is = spec-is;
      input = input;
      input_is = input-is;
      start = subst (λ (b : Boot). IsStart d number spec source input b) (sym at.start_is) start;
    }

-- ---- the wires

-- a guest's ends are those of the wires around it
pub wired : (machine : Machine) (around : Around) (spec : GuestSpec) (wires : Made) (passes : PassList) (number : ℕ) → IsSite machine around.site → around.number.0 ≡ number → around.home ≡ spec.node → slice_get machine.guests number ≡ Some spec → AreWires machine wires → HasPasses wires number passes → IsWired wires passes (surroundings around)
wired machine around spec wires passes number site of home spec-is are has = record {
  list = has.list;
  joins = are.joins;
  guests = are.all ∙ sym (length-map machine.guests (home_in machine)) ∙ sym (ap length site.homes);
  number = has.guest_is ∙ sym of;
  is_guest = omega (arith, has.guest_is, are.all, (get-index machine.guests number spec spec spec-is).0);
  terms = record {
    frames = are.frames ∙ sym site.frames;
    cells = ap (map (λ (c : CellId). c.0)) (are.cells ∙ sym site.cells);
    homes = are.homes ∙ sym site.homes;
  };
  at_home = ap (slice_get (map (λ (c : CellId). c.0) around.site.homes)) of ∙ ap (λ (l : List ℕ). slice_get l number) site.homes
      ∙ map-get (home_in machine) machine.guests number spec spec-is
      ∙ (λ i. Some (slice_index (map (λ (c : CellId). c.0) (sym site.cells i)) (sym home i).0));
}

-- the ends of the next guest
pub next-passes : (wires : Made) (lists : List PassList) (number : ℕ) (passes : PassList) → HaveAllPasses wires lists → slice_get lists number ≡ Some passes → HasPasses wires number passes
next-passes wires lists number passes have at =
    let here = get-index (guests_of lists) number passes.guest.0 0 (map-get (λ (l : PassList). l.guest.0) lists number passes at) in
    let there = (get-index lists number passes passes at).0 in
    record {
      list = all-get (IsListOf wires) lists number passes have.all.each at;
      guest_is = sym here.1 ∙ have.all.numbered number (omega (arith, there, have.all.all));
      unused = all-get IsUnused lists number passes have.unused at;
    }
