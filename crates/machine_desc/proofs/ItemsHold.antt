-- What work names is there, and no cell fails twice.
use Rattle.std.proofs.Common.{◌≡◌, ℕ, suc, ◌+◌, ◌<◌, ◌≤◌, List, [], ◌∷◌, ◌++◌, length, take, Bool, true, false, Option, Some, None, Ok, codes, refl, ap, ap₂, sym, ◌∙◌, subst, append_assoc, inl, inr, arith}
use Rattle.std.specs.Prelude.{All, slice_get, sum_by, count_by, cond}
use Rattle.std.specs.Option.{IsSomeAnd}
use Rattle.std.specs.List.{list_any}
use Rattle.std.proofs.lemmas.Bool.{cases_Bool, false≢true}
use Rattle.std.proofs.lemmas.Bool.Decides.{nat_tests}
use Rattle.std.proofs.lemmas.List.{append-nil, take_at, length_push, length-map}
use Rattle.std.proofs.lemmas.List.Elements.{All-nil, All-cons, All-head, All-tail}
use Rattle.std.proofs.lemmas.List.Sums.{sum_by-append, sum_by-cons}
use Rattle.base_words.specs.declared.ids.CellId.{CellId}
use Rattle.base_words.specs.declared.ids.GuestId.{GuestId}
use Rattle.base_words.specs.declared.ids.NodeId.{NodeId}
use Rattle.base_words.specs.declared.ids.Ppn.{Ppn}
use Rattle.base_words.specs.declared.ids.ProcId.{ProcId}
use Rattle.base_words.specs.declared.ids.VcpuId.{VcpuId}
use Rattle.base_words.specs.declared.moves.MoveKind.{MoveKind}
use Rattle.base_words.specs.declared.moves.MoveKind.TheVariants.{Migrate, Replicate, Collapse, Break, TakeShared, GiveShared}
use Rattle.machine_desc.specs.declared.machine.GuestSpec.{GuestSpec}
use Rattle.machine_desc.specs.declared.plan.Item.{Item}
use Rattle.machine_desc.specs.declared.plan.Item.TheVariants as items
use Rattle.machine_desc.specs.declared.sheet.Named.{Named}
use Rattle.machine_desc.specs.declared.sheet.Sheet.{Sheet}
use Rattle.machine_desc.specs.declared.sheet.Work.{Work}
use Rattle.machine_desc.specs.declared.sheet.Work.TheVariants.{Run, Move, Fail}
use Rattle.machine_desc.specs.Reads.{each}
use Rattle.machine_desc.specs.Names.{there}
use Rattle.machine_desc.specs.Items.{work_key, on_processor, guest_from, for_guest, target, fails, fails_once, run_item, move_item, fail_item, item_at, steps_of}
use Rattle.machine_desc.specs.Described.{Described, described_of}
use Rattle.machine_desc.specs.Bounds.{LeadsTo, IsItem, item_steps, item_fails}
use Rattle.machine_desc.proofs.Stepwise.{reading, same_value, neither, refuted}
use Rattle.machine_desc.proofs.NamesHold.{there-below}
use Rattle.machine_desc.proofs.WorkSizes.{MayLead, IsWork}

-- an item, by the work that it is made of and the work before it
record IsMade (d : Described) (before : List Work) (w : Work) (item : Item) : Type 0 where
  is : IsItem d item
  steps : item_steps item ≡ steps_of w
  fail : (cell : ℕ) → item_fails cell item ≡ fails cell w
  once : (cell : ℕ) → fails cell w ≡ true → list_any (fails cell) before ≡ false

guest-is : (key : List ℕ) (n : ℕ) (found : Option GuestSpec) (spec : GuestSpec) → guest_from key n found ≡ Ok spec → found ≡ Some spec
guest-is key n None spec is = absurd (cc)
guest-is key n (Some guest) spec is = ap (λ (g : GuestSpec). Some g) (same_value guest spec is)

-- where a move leads that may lead there
leads : (s : Sheet) (i : ℕ) (spec : GuestSpec) (kind : MoveKind) (home : Option NodeId) (to : NodeId) → MayLead kind home → target s i spec home ≡ Ok to → LeadsTo s.machine.nodes spec kind to
leads s i spec kind (Some node) to may is =
    reading (there (work_key i (codes "node")) s.machine.nodes node.0) (λ _. Ok node) to is λ done here that.
    let below = there-below (work_key i (codes "node")) s.machine.nodes node.0 here in
    let e = same_value node to that in
    by kind may (subst (λ (n : NodeId). n.0 < s.machine.nodes) e below)
  where
    by : (kind : MoveKind) → MayLead kind (Some node) → to.0 < s.machine.nodes → LeadsTo s.machine.nodes spec kind to
    by Migrate may below = below
    by Replicate may below = below
    by Collapse may below = absurd (cc)
    by Break may below = absurd may
    by TakeShared may below = absurd may
    by GiveShared may below = absurd may
leads s i spec kind None to may is = by kind may (sym (same_value spec.node to is))
  where
    by : (kind : MoveKind) → MayLead kind None → to ≡ spec.node → LeadsTo s.machine.nodes spec kind to
    by Migrate may e = absurd (false≢true may)
    by Replicate may e = absurd (false≢true may)
    by Collapse may e = e
    by Break may e = absurd may
    by TakeShared may e = absurd may
    by GiveShared may e = absurd may

module _ (s : Sheet) (named : Named) (i : ℕ) (before : List Work) where
  on-is : (processor : ProcId) → on_processor s i processor ≡ Ok tt → processor.0 < length s.machine.processors
  on-is processor is = there-below (work_key i (codes "processor")) (length s.machine.processors) processor.0 is

  run-made : (processor : ProcId) (guest : GuestId) (vcpu : VcpuId) (steps : ℕ) (item : Item) → steps ≤ 16000000 → run_item s i processor guest vcpu steps ≡ Ok item
      → IsMade (described_of s named) before (Run processor guest vcpu steps) item
  unfolding run_item
  run-made processor guest vcpu steps item few is =
      reading (on_processor s i processor) _ item is λ done on is.
      reading (for_guest s i guest) _ item is λ spec found is.
      reading (there (work_key i (codes "vcpu")) spec.vcpus vcpu.0) _ item is λ done has is.
      let there_is = guest-is (work_key i (codes "guest")) guest.0 (slice_get s.guests guest.0) spec found in
      let of : IsSomeAnd (slice_get s.guests guest.0) (λ spec. vcpu.0 < spec.vcpus) = rw there_is (there-below (work_key i (codes "vcpu")) spec.vcpus vcpu.0 has) in
      let here : IsMade (described_of s named) before (Run processor guest vcpu steps) (items.Run processor guest vcpu steps) =
      record { is = record { on = on-is processor on; of = of; few = few }; steps = refl; fail = λ cell. refl; once = λ cell no. absurd (false≢true no) } in
      subst (λ (it : Item). IsMade (described_of s named) before (Run processor guest vcpu steps) it) (same_value _ item is) here

  move-made : (processor : ProcId) (guest : GuestId) (page : Ppn) (kind : MoveKind) (home : Option NodeId) (item : Item) → MayLead kind home → move_item s i processor guest page kind home ≡ Ok item
      → IsMade (described_of s named) before (Move processor guest page kind home) item
  unfolding move_item
  move-made processor guest page kind home item may is =
      reading (on_processor s i processor) _ item is λ done on is.
      reading (for_guest s i guest) _ item is λ spec found is.
      reading (there (work_key i (codes "page")) spec.pages page.0) _ item is λ done has is.
      reading (target s i spec home) _ item is λ to to_is is.
      let there_is = guest-is (work_key i (codes "guest")) guest.0 (slice_get s.guests guest.0) spec found in
      let of : IsSomeAnd (slice_get s.guests guest.0) (λ spec. page.0 < spec.pages) = rw there_is (there-below (work_key i (codes "page")) spec.pages page.0 has) in
      let leading : IsSomeAnd (slice_get s.guests guest.0) (λ spec. LeadsTo s.machine.nodes spec kind to) = rw there_is (leads s i spec kind home to may to_is) in
      let here : IsMade (described_of s named) before (Move processor guest page kind home) (items.Move processor guest page kind to) =
      record { is = record { on = on-is processor on; of = of; to = leading }; steps = refl; fail = λ cell. refl; once = λ cell no. absurd (false≢true no) } in
      subst (λ (it : Item). IsMade (described_of s named) before (Move processor guest page kind home) it) (same_value _ item is) here

  fail-made : (processor : ProcId) (cell : CellId) (item : Item) → fail_item s i before processor cell ≡ Ok item → IsMade (described_of s named) before (Fail processor cell) item
  unfolding fail_item
  fail-made processor cell item is =
      reading (on_processor s i processor) _ item is λ done on is.
      reading (there (work_key i (codes "cell")) (length s.cells) cell.0) _ item is λ done has is.
      reading (fails_once (work_key i (codes "cell")) cell.0 before) _ item is λ done once is.
      let below = there-below (work_key i (codes "cell")) (length s.cells) cell.0 has in
      let many : length (described_of s named).lends ≡ length s.cells = length-map s.cells (λ cell. cell.lend) in
      let not_before = refuted (list_any (fails cell.0) before) _ once in
      let here : IsMade (described_of s named) before (Fail processor cell) (items.Fail processor cell) =
      record {
        is = record { on = on-is processor on; of = rw many below };
        steps = refl;
        fail = λ other. refl;
        once = λ other is. (let e : cell.0 ≡ other = grind (arith, nat_tests) in subst (λ (n : ℕ). list_any (fails n) before ≡ false) e not_before);
      } in
      subst (λ (it : Item). IsMade (described_of s named) before (Fail processor cell) it) (same_value _ item is) here

  item-made : (w : Work) (item : Item) → IsWork w → item_at s i before w ≡ Ok item → IsMade (described_of s named) before w item
  item-made (Run processor guest vcpu steps) item within is = run-made processor guest vcpu steps item within is
  item-made (Move processor guest page kind home) item within is = move-made processor guest page kind home item within is
  item-made (Fail processor cell) item within is = fail-made processor cell item is

-- ---- all work

count-none : (cell : ℕ) (ws : List Work) → list_any (fails cell) ws ≡ false → count_by (fails cell) ws ≡ 0
count-none cell [] none = refl
count-none cell (w ∷ ws) none =
    let both = neither (fails cell w) (list_any (fails cell) ws) none in
    rw (sum_by-cons (λ x. cond (fails cell x) 1 0) w ws, both.0, count-none cell ws both.1) refl

-- with one more piece of work that is made, each cell still fails at most once
count-once : (d : Described) (cell : ℕ) (before : List Work) (w : Work) (item : Item) → IsMade d before w item → count_by (fails cell) before ≤ 1 → count_by (fails cell) (before ++ w ∷ []) ≤ 1
count-once d cell before w item made le =
    let sum = sum_by-append (λ x. cond (fails cell x) 1 0) before (w ∷ []) in
    elim (cases_Bool (fails cell w)) [
      | inl here ↦ let none = count-none cell before (made.once cell here) in rw (sum, none, here) (omega arith)
      | inr other ↦ rw (sum, other) (omega (arith, le))
    ]

-- the items of work, behind the work before them
pub record AreMade (d : Described) (before rest : List Work) (made : List Item) : Type 0 where
  pub items : All (IsItem d) made
  pub steps : sum_by item_steps made ≡ sum_by steps_of rest
  pub fail : (cell : ℕ) → count_by (item_fails cell) made ≡ count_by (fails cell) rest
  pub once : (cell : ℕ) → count_by (fails cell) before ≤ 1 → count_by (fails cell) (before ++ rest) ≤ 1

pub items-made : (s : Sheet) (named : Named) (work before rest : List Work) (k : ℕ) (made : List Item) → length before ≡ k → before ++ rest ≡ work → All IsWork rest
    → each (λ i w. item_at s i (take i work) w) k rest ≡ Ok made → AreMade (described_of s named) before rest made
items-made s named work before [] k made at whole within is =
    let d = described_of s named in
    let here : AreMade d before [] [] = record { items = All-nil (IsItem d); steps = refl; fail = λ cell. refl; once = λ cell le. rw append-nil le } in
    subst (λ (m : List Item). AreMade d before [] m) (same_value [] made is) here
items-made s named work before (w ∷ ws) k made at whole within is =
    let d = described_of s named in
    reading (item_at s k (take k work) w) _ made is λ item item_is is.
    reading (each (λ i w. item_at s i (take i work) w) (suc k) ws) _ made is λ items items_are is.
    let front : take k work ≡ before = rw (← whole) (take_at before (w ∷ ws) k at) in
    let one = item-made s named k before w item (All-head IsWork w ws within) (subst (λ (b : List Work). item_at s k b w ≡ Ok item) front item_is) in
    let regrouped : (before ++ w ∷ []) ++ ws ≡ before ++ (w ∷ ws) = append_assoc before (w ∷ []) ws in
    let others = items-made s named work (before ++ w ∷ []) ws (suc k) items (length_push before w ∙ omega (arith, at)) (regrouped ∙ whole) (All-tail IsWork w ws within) items_are in
    let here : AreMade d before (w ∷ ws) (item ∷ items) = record {
      items = All-cons (IsItem d) item items one.is others.items;
      steps = sum_by-cons item_steps item items ∙ (ap₂ ◌+◌ one.steps others.steps ∙ sym (sum_by-cons steps_of w ws));
      fail = λ cell. sum_by-cons (λ x. cond (item_fails cell x) 1 0) item items ∙ (ap₂ (λ (b : Bool) (n : ℕ). cond b 1 0 + n) (one.fail cell) (others.fail cell) ∙ sym (sum_by-cons (λ x. cond (fails cell x) 1 0) w ws));
      once = λ cell le. subst (λ (l : List Work). count_by (fails cell) l ≤ 1) regrouped (others.once cell (count-once d cell before w item one le));
    } in
    subst (λ (m : List Item). AreMade d before (w ∷ ws) m) (same_value (item ∷ items) made is) here
