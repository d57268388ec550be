-- The holder of a lot is what a guest of its frames is booted with.
use Rattle.std.proofs.Common.{◌≡◌, ℕ, zero, suc, ◌+◌, ◌*◌, ◌/◌, ◌<◌, ◌≤◌, ◌==◌, ◌&&◌, not, cond, if◌then◌else◌, Some, Bool, true, false, List, [], ◌∷◌, ◌++◌, length, map, drop, get_or, refl, sym, ap, ◌∙◌, subst, arith}
use Rattle.std.proofs.lemmas.Bool.{eqb-true, and_parts, and_left, and_right, and_from}
use Rattle.std.proofs.lemmas.List.{length-map}
use Rattle.std.proofs.lemmas.List.Elements.{All-head, All-tail, All-get_or}
use Rattle.std.proofs.lemmas.List.Sums.{sum_by-cons}
use Rattle.std.specs.Prelude.{count_by, All, Contains, slice_get, take}
use Rattle.base_words.specs.declared.frame.Frame.{Frame}
use Rattle.base_words.specs.declared.ids.CellId.{CellId}
use Rattle.frame_words.specs.FrameWords.{frame_word}
use Rattle.frame_words.specs.Splits.{frame_times}
use Rattle.frame_words.specs.Views.{hold, frame_holds, cell_loans}
use Rattle.frame_words.specs.Holders.{MadeTable}
use Rattle.node_frames.specs.Layout.{Layout, layout_of}
use Rattle.isolation_law.specs.Surroundings.{Surroundings, cell_of_frame, home_cell}
use Rattle.isolation_law.specs.Start.{Found, Boot}
use Rattle.machine_desc.specs.declared.machine.GuestSpec.{GuestSpec}
use Rattle.machine_desc.specs.declared.machine.Machine.{Machine}
use Rattle.machine_desc.specs.declared.plan.Plan.{Plan}
use Rattle.machine_desc.specs.Accepted.{IsDescribed}
use Rattle.guest_course.specs.BootCalls.{found_of}
use Rattle.guest_course.specs.CourseView.{surroundings}
use Rattle.guest_course.specs.declared.site.Around.{Around}
use Rattle.guest_core.specs.Holding.{is_copy, frames_around, found_times, HoldsFor, FitsAround}
use Rattle.guest_boot.specs.Booting.{IsSite, IsLotOf, left_behind}
use Rattle.guest_boot.specs.Starting.{left_for, IsPlaced}
use Rattle.node_frames.specs.Places.{cell_of_node}
use Rattle.boot_frames.specs.Loans.{loans_in, cell_of_frame as frame_cell}
use Rattle.boot_frames.specs.Lots.{Has, IsNew, times_given}
use Rattle.boot_frames.specs.Chain.{after_claim, after_claims, frame_at}
use Rattle.boot_frames.specs.Claims.{cache_claims, page_claim, page_claims}
use Rattle.boot_frames.specs.Needs.{need_of}
use Rattle.boot_frames.specs.declared.claims.Claim.{Claim}
use Rattle.node_frames.specs.Left.{Left, first_left}
use Rattle.machine_desc.specs.Described.{described_seen}
use Rattle.boot_frames.specs.declared.lots.Lot.{Lot}

-- what is counted of the frames that were found is counted of the frames
found-count : (test : ℕ → ℕ → Bool) (fs : List Frame) → count_by (λ (f : Found). test f.frame f.generation) (map found_of fs) ≡ count_by (λ (f : Frame). test f.number.0 f.generation) fs
found-count test [] = refl
found-count test (f ∷ fs) =
    sum_by-cons (λ (x : Found). cond {A = ℕ} (test x.frame x.generation) 1 0) (found_of f) (map found_of fs)
    ∙ ap (λ (n : ℕ). cond (test f.number.0 f.generation) 1 0 + n) (found-count test fs)
    ∙ sym (sum_by-cons (λ (x : Frame). cond {A = ℕ} (test x.number.0 x.generation) 1 0) f fs)

times-count : (frame : ℕ) (fs : List Frame) → frame_times frame fs ≡ count_by (λ (f : Frame). f.number.0 == frame) fs
times-count frame [] = refl
times-count frame (f ∷ fs) =
    ap (λ (n : ℕ). (if f.number.0 == frame then 1 else 0) + n) (times-count frame fs)
    ∙ one (f.number.0 == frame)
    ∙ sym (sum_by-cons (λ (x : Frame). cond {A = ℕ} (x.number.0 == frame) 1 0) f fs)
  where
    one : (b : Bool) → (if b then 1 else 0) + count_by (λ (x : Frame). x.number.0 == frame) fs ≡ cond {A = ℕ} b 1 0 + count_by (λ (x : Frame). x.number.0 == frame) fs
    one true = refl
    one false = refl

-- of the home cell no loans are counted, and of each other the frames that lie there
lent-count : (layout : Layout) (home cell : ℕ) (fs : List Frame) → loans_in layout home fs cell ≡ (if cell == home then 0 else count_by (λ (f : Frame). frame_cell layout f == cell) fs)
lent-count layout home cell fs = by (cell == home) fs
  where
    none : (l : List Frame) → count_by (λ (f : Frame). (frame_cell layout f == cell) && false) l ≡ 0
    none [] = refl
    none (f ∷ l) =
        let here = sum_by-cons (λ (x : Frame). cond {A = ℕ} ((frame_cell layout x == cell) && false) 1 0) f l in
        let off : cond {A = ℕ} ((frame_cell layout f == cell) && false) 1 0 ≡ 0 = ap (λ (b : Bool). cond {A = ℕ} b 1 0) (and_right (frame_cell layout f == cell) false refl) in
        let rest = none l in omega arith

    all : (l : List Frame) → count_by (λ (f : Frame). (frame_cell layout f == cell) && true) l ≡ count_by (λ (f : Frame). frame_cell layout f == cell) l
    all [] = refl
    all (f ∷ l) = sum_by-cons (λ (x : Frame). cond {A = ℕ} ((frame_cell layout x == cell) && true) 1 0) f l
        ∙ (λ i. cond {A = ℕ} (on (frame_cell layout f == cell) i) 1 0 + all l i)
        ∙ sym (sum_by-cons (λ (x : Frame). cond {A = ℕ} (frame_cell layout x == cell) 1 0) f l)
      where
        on : (b : Bool) → (b && true) ≡ b
        on true = and_from true true refl refl
        on false = and_left false true refl

    by : (b : Bool) (l : List Frame) → count_by (λ (f : Frame). (frame_cell layout f == cell) && not b) l ≡ (if b then 0 else count_by (λ (f : Frame). frame_cell layout f == cell) l)
    by true l = none l
    by false l = all l

-- a frame that is counted is among them
counted-frame : (P : Frame → Type 0) (test : ℕ → ℕ → Bool) (fs : List Frame) → All P fs → 0 < count_by (λ (f : Frame). test f.number.0 f.generation) fs → (f : Frame) × P f × (test f.number.0 f.generation ≡ true)
counted-frame P test [] all some = absurd (let e : 0 < 0 = some in omega arith)
counted-frame P test (f ∷ fs) all some = by (test f.number.0 f.generation) refl (λ none.
    let here = sum_by-cons (λ (x : Frame). cond {A = ℕ} (test x.number.0 x.generation) 1 0) f fs in
    let off : cond {A = ℕ} (test f.number.0 f.generation) 1 0 ≡ 0 = ap (λ (b : Bool). cond {A = ℕ} b 1 0) none in
    counted-frame P test fs (All-tail P f fs all) (omega arith))
  where
    by : (b : Bool) → test f.number.0 f.generation ≡ b → (test f.number.0 f.generation ≡ false → (g : Frame) × P g × (test g.number.0 g.generation ≡ true)) → (g : Frame) × P g × (test g.number.0 g.generation ≡ true)
    by true e rest = (f, All-head P f fs all, e)
    by false e rest = rest e

-- what the laws of a lot say of it
pub record IsHeldLot (layout : Layout) (home : ℕ) (lot : Lot) : Type 0 where
  pub frames : (frame : ℕ) → frame_holds lot.holder.view frame ≡ frame_times frame lot.frames
  pub under : All (Has lot.holder.view.holds) lot.frames
  pub loans : (cell : ℕ) → cell < 8 → cell_loans lot.holder.view cell ≡ loans_in layout home lot.frames cell

-- the machine around the guest is of this layout
pub record IsAround (layout : Layout) (home : ℕ) (w : Surroundings) : Type 0 where
  pub frames : frames_around w ≡ layout.nodes * layout.frames
  pub cells : (frame : ℕ) → cell_of_frame w frame ≡ cell_of_node layout (frame / layout.frames)
  pub at_home : home_cell w ≡ home

pub holds-for : (table : MadeTable) (layout : Layout) (home : ℕ) (lot : Lot) (b : Boot) → table.terms.frames ≡ layout.nodes * layout.frames → All (IsNew table.terms) lot.frames → IsHeldLot layout home lot → ((frame : ℕ) → frame_times frame lot.frames ≤ 1) → b.frames ≡ map found_of lot.frames → IsAround layout home b.around → HoldsFor b lot.holder.view
holds-for table layout home lot b words new is once frames around =
    let count : (test : ℕ → ℕ → Bool) → found_times test b ≡ count_by (λ (f : Frame). test f.number.0 f.generation) lot.frames = λ test. ap (count_by (λ (f : Found). test f.frame f.generation)) frames ∙ found-count test lot.frames in
    record {
      once = λ frame. subst (λ (n : ℕ). n ≤ 1) (times-count frame lot.frames ∙ sym (count (λ f g. f == frame))) (once frame);
      counted = λ frame. is.frames frame ∙ times-count frame lot.frames ∙ sym (count (λ f g. f == frame));
      same_generation = λ frame generation some. λ own has.
          let f = counted-frame (Has lot.holder.view.holds) (is_copy frame generation) lot.frames is.under (subst (λ (n : ℕ). 0 < n) (count (is_copy frame generation)) some) in
          let same = copied frame generation f.0.number.0 f.0.generation f.2 in
          lot.holder.agrees (frame_word frame) own generation has (subst (λ (x : ℕ). Contains lot.holder.view.holds (hold (frame_word frame) x)) same.1 (subst (λ (x : ℕ). Contains lot.holder.view.holds (hold (frame_word x) f.0.generation)) same.0 f.1));
      borrowed = λ cell low. is.loans cell low ∙ lent-count layout home cell lot.frames
          ∙ (λ i. if cell == sym around.at_home i then 0 else sym (count (λ f g. cell_of_frame b.around f == cell) ∙ cell-count cell lot.frames) i);
      within = λ frame some.
          let f = counted-frame (IsNew table.terms) (λ f g. f == frame) lot.frames new (subst (λ (n : ℕ). 0 < n) (count (λ f g. f == frame)) some) in
          let at : f.0.number.0 ≡ frame = eqb-true f.0.number.0 frame f.2 in
          subst (λ (n : ℕ). n < frames_around b.around) at (subst (λ (n : ℕ). f.0.number.0 < n) (words ∙ sym around.frames) f.1.within);
    }
  where
    copied : (frame generation n g : ℕ) → is_copy frame generation n g ≡ true → (n ≡ frame) × (g ≡ generation)
    copied frame generation n g e = let both = and_parts (n == frame) (g == generation) e in (eqb-true n frame both.0, eqb-true g generation both.1)

    cell-count : (cell : ℕ) (fs : List Frame) → count_by (λ (f : Frame). cell_of_frame b.around f.number.0 == cell) fs ≡ count_by (λ (f : Frame). frame_cell layout f == cell) fs
    cell-count cell fs = ap (λ (h : Frame → ℕ). count_by (λ (f : Frame). h f == cell) fs) (λ i f. around.cells f.number.0 i)

-- ---- the machine of a description

cell-at : (cells : List CellId) (n : ℕ) → get_or (map (λ (c : CellId). c.0) cells) n 0 ≡ (get_or cells n (record { 0 = 0 })).0
cell-at [] n = refl
cell-at (c ∷ cells) zero = refl
cell-at (c ∷ cells) (suc n) = cell-at cells n

pub is-around : (machine : Machine) (around : Around) (spec : GuestSpec) → IsSite machine around.site → around.home ≡ spec.node → IsAround (layout_of machine.shape) (cell_of_node (layout_of machine.shape) spec.node.0) (surroundings around)
is-around machine around spec site home =
    let shape = around.site.shape in
    record {
      frames = (λ i. length (map (λ (c : CellId). c.0) (site.cells i)) * site.frames i)
          ∙ ap (λ (n : ℕ). n * machine.shape.frames) (length-map machine.shape.cells (λ (c : CellId). c.0) ∙ machine.shape.has_cells);
      cells = λ frame. (λ i. get_or (map (λ (c : CellId). c.0) (site.cells i)) (frame / site.frames i) 0) ∙ cell-at machine.shape.cells (frame / machine.shape.frames);
      at_home = (λ i. get_or (map (λ (c : CellId). c.0) (site.cells i)) (home i).0 0) ∙ cell-at machine.shape.cells spec.node.0;
    }

-- the table has the machine's frames and a lend for each of its cells
pub fits-around : (table : MadeTable) (machine : Machine) (plan : Plan) (around : Around) (spec : GuestSpec) → IsDescribed machine plan → table.terms.frames ≡ machine.shape.nodes * machine.shape.frames → table.terms.lends ≡ machine.lends → IsSite machine around.site → around.home ≡ spec.node → FitsAround table (surroundings around)
fits-around table machine plan around spec described words lends site home =
    let count : length table.terms.lends ≡ length machine.lends = ap (λ (l : List ℕ). length l) lends in
    record {
      frames = words ∙ sym (is-around machine around spec site home).frames;
      cells = λ node lt.
          let cells : List CellId = around.site.shape.cells in
          let within : node < length cells = subst (λ (n : ℕ). node < n) (length-map cells (λ (c : CellId). c.0)) lt in
          let all = subst (λ (l : List CellId). All (λ (c : CellId). c.0 < length machine.lends) l) (sym site.cells) described.of_cells in
          subst (λ (n : ℕ). n < length table.terms.lends) (sym (cell-at cells node)) (subst (λ (n : ℕ). (get_or cells node (record { 0 = 0 })).0 < n) (sym count) (All-get_or (λ (c : CellId). c.0 < length machine.lends) cells node (record { 0 = 0 }) within all));
    }

-- ---- the frames of boot

after-append : (layout : Layout) (xs ys : List Claim) (left : Left) → after_claims layout (xs ++ ys) left ≡ after_claims layout ys (after_claims layout xs left)
after-append layout [] ys left = refl
after-append layout (x ∷ xs) ys left = after-append layout xs ys (after_claim layout x left)

-- the caches come first, and then the guests before it
left-is : (machine : Machine) (plan : Plan) (guest : ℕ) → left_for (described_seen machine plan) guest ≡ left_behind machine guest
left-is machine plan guest =
    let layout = layout_of machine.shape in
    after-append layout (cache_claims machine.cache 0 (length machine.lends)) (page_claims 0 (take guest (map need_of machine.guests))) (first_left layout machine.lends)

found-at : (fs : List Frame) (k : ℕ) (x : Found) → slice_get (map found_of fs) k ≡ Some x → (f : Frame) × (slice_get fs k ≡ Some f) × (found_of f ≡ x)
found-at [] k x e = absurd cc
found-at (f ∷ fs) zero x e = (f, refl, (let same : Some (found_of f) ≡ Some x = e in cc))
found-at (f ∷ fs) (suc k) x e = found-at fs k x e

new-at : (P : Frame → Type 0) (fs : List Frame) (k : ℕ) (f : Frame) → All P fs → slice_get fs k ≡ Some f → P f
new-at P [] k f all e = absurd cc
new-at P (x ∷ fs) zero f all e = let same : x ≡ f = cc in subst P same (All-head P x fs all)
new-at P (x ∷ fs) (suc k) f all e = new-at P fs k f (All-tail P x fs all) e

pub lot-placed : (machine : Machine) (plan : Plan) (table : MadeTable) (guest : ℕ) (spec : GuestSpec) (lot : Lot) → table.terms.first ≡ 0 → IsLotOf machine table guest spec lot → IsPlaced (described_seen machine plan) guest spec (map found_of lot.frames)
lot-placed machine plan table guest spec lot fresh is = record {
  count = length-map lot.frames found_of ∙ is.taken.count;
  each = λ k x at.
      let was = found-at lot.frames k x at in
      let layout = layout_of machine.shape in
      let taker = (page_claim guest (need_of spec)).taker in
      let new = (new-at (IsNew table.terms) lot.frames k was.0 is.taken.new was.1).first in (
        ap (λ (l : Left). frame_at layout taker l k) (left-is machine plan guest) ∙ is.taken.placed k was.0 was.1 ∙ ap (λ (f : Found). Some f.frame) was.2,
        ap (λ (f : Found). f.generation) (sym was.2) ∙ new ∙ ap (λ (n : ℕ). n + 1) fresh,
      );
}

-- what is given to some lots and to more is given to the former and to the latter
times-append : (frame : ℕ) (xs ys : List Lot) → times_given frame (xs ++ ys) ≡ times_given frame xs + times_given frame ys
times-append frame [] ys = omega arith
times-append frame (x ∷ xs) ys = let rest = times-append frame xs ys in omega (arith, rest)

pub rest-once : (frame : ℕ) (xs ys : List Lot) → times_given frame (xs ++ ys) ≤ 1 → times_given frame ys ≤ 1
rest-once frame xs ys few = let both = times-append frame xs ys in omega (arith, both, few)

-- ---- one lot after another

next-at : {A : Type 0} (lots rest : List A) (n : ℕ) (lot : A) → drop n lots ≡ lot ∷ rest → (slice_get lots n ≡ Some lot) × (drop (suc n) lots ≡ rest)
next-at {A = A} [] rest n lot e = absurd (never rest lot (sym (drop-none n) ∙ e))
  where
    drop-none : (n : ℕ) → ◌≡◌ {A = List A} (drop n []) []
    drop-none zero = refl
    drop-none (suc n) = refl

    never : (rest : List A) (lot : A) → ◌≡◌ {A = List A} [] (lot ∷ rest) → ⊥
    never rest lot e = cc
next-at {A = A} (x ∷ lots) rest zero lot e =
    let head : slice_get (x ∷ lots) 0 ≡ slice_get (lot ∷ rest) 0 = ap (λ (l : List A). slice_get l 0) e in
    let tail : drop 1 (x ∷ lots) ≡ drop 1 (lot ∷ rest) = ap (λ (l : List A). drop 1 l) e in (head, tail)
next-at (x ∷ lots) rest (suc n) lot e = next-at lots rest n lot e

pub next-lot : {A : Type 0} (lots rest : List A) (n : ℕ) (lot : A) (place : ℕ) → place ≡ n → drop n lots ≡ lot ∷ rest → slice_get lots place ≡ Some lot
next-lot lots rest n lot place is e = ap (slice_get lots) is ∙ (next-at lots rest n lot e).0

pub rest-lots : {A : Type 0} (lots rest : List A) (n : ℕ) (lot : A) (more : ℕ) → more ≡ n + 1 → drop n lots ≡ lot ∷ rest → rest ≡ drop more lots
rest-lots lots rest n lot more is e = sym (ap (λ (k : ℕ). drop k lots) (let m : more ≡ suc n = omega arith in m) ∙ (next-at lots rest n lot e).1)

-- there is one more where there are more than those that went
pub no-more : {A : Type 0} (lots : List A) (n : ℕ) → length (drop n lots) ≡ 0 → n < length lots → ⊥
no-more [] n e lt = omega arith
no-more (x ∷ lots) zero e lt = let some : suc (length lots) ≡ 0 = e in omega arith
no-more (x ∷ lots) (suc n) e lt = no-more lots n e (omega arith)
