-- A frame that others hold too and that is held once more joins the copies that a holder has.
use Rattle.std.proofs.Common.{◌≡◌, ℕ, zero, suc, ◌+◌, ◌<◌, ◌==◌, ◌&&◌, cond, if◌then◌else◌, Bool, true, false, List, [], ◌∷◌, Some, None, length, refl, sym, ap, ◌∙◌, subst, arith}
use Rattle.std.proofs.lemmas.Bool.{eq-eqb, ne_eqb}
use Rattle.std.proofs.lemmas.List.Elements.{All-head, All-tail}
use Rattle.std.specs.Prelude.{All, Contains, slice_get, slice_index_or}
use mathlib.Core.Logic.{dite}
use native.Mathlib.Decide.{ℕ_discrete}
use Rattle.base_words.specs.declared.ids.NodeId.{NodeId}
use Rattle.cow_disk.specs.IndexView.{Cached, found}
use Rattle.frame_words.specs.FrameWords.{frame_word, cell_word}
use Rattle.frame_words.specs.Views.{hold, times, HeldUnder}
use Rattle.frame_words.specs.declared.view.Hold.{Hold}
use Rattle.frame_words.specs.declared.view.View.{View}
use Rattle.private_machine.specs.Backing.{Copy}
use Rattle.isolation_law.specs.Exchange.{count_of}
use Rattle.isolation_law.specs.Surroundings.{Surroundings, cell_of_frame, home_cell}
use Rattle.guest_core.specs.Holding.{is_copy, frames_around, HoldsCopies}
use Rattle.guest_core.proofs.CopyLemmas.{in-cell, one_if, same-word, apart, loans-in, count-cons}
use Rattle.guest_core.proofs.FoundLemmas.{contains-later, copies-fewer, is-generation}

-- a word that is held is held under some generation
held-some : (word : ℕ) (hs : List Hold) → 0 < times word hs → (own : ℕ) × Contains hs (hold word own)
held-some word [] any = absurd (omega arith)
held-some word (h ∷ hs) any = dite (ℕ_discrete h.word word)
    (λ e. (h.generation, (0, omega arith, ap (λ (k : ℕ). hold k h.generation) e)))
    (λ ne. let more = held-some word hs (let no = ap one_if (ne_eqb h.word word ne) in omega arith) in (more.0, (suc more.1.0, (let l = more.1.1 in omega arith), more.1.2)))

-- a hold under the generation of all that there are
under-more : (word generation : ℕ) (hs : List Hold) → ((own : ℕ) → Contains hs (hold word own) → own ≡ generation) → (own : ℕ) → Contains (hold word generation ∷ hs) (hold word own) → own ≡ generation
under-more word generation hs same own has = at has.0 has.1 has.2
  where
    at : (k : ℕ) → k < length (hold word generation ∷ hs) → slice_index_or (hold word generation ∷ hs) k (hold word own) ≡ hold word own → own ≡ generation
    at zero lt is = sym (ap (λ (y : Hold). y.generation) is)
    at (suc k) lt is = same own (k, omega arith, is)

pub copy-shared : (w : Surroundings) (cs : List Copy) (c : Copy) (v u : View) → c.frame < frames_around w → cell_of_frame w c.frame ≡ home_cell w → HeldUnder v (frame_word c.frame) c.generation
    → u.holds ≡ hold (frame_word c.frame) c.generation ∷ v.holds → HoldsCopies w cs v → HoldsCopies w (c ∷ cs) u
copy-shared w cs c v u lt home same is h =
    let counts = λ (test : ℕ → ℕ → Bool). count-cons test c cs in
    record {
      counted = λ frame. let a = ap (times (frame_word frame)) is in let b = same-word c.frame frame in let d = counts (λ f x. f == frame) in let e = h.counted frame in omega arith;
      same_generation = λ frame generation any. dite (ℕ_discrete c.frame frame)
          (λ e. subst (λ (n : ℕ). HeldUnder u (frame_word n) generation) e (own frame generation e any))
          (λ ne. let no : cond {A = ℕ} (is_copy frame generation c.frame c.generation) 1 0 ≡ 0 = ap (λ (b : Bool). cond {A = ℕ} (b && (c.generation == generation)) 1 0) (ne_eqb c.frame frame ne) in
          let under = h.same_generation frame generation (let a = counts (is_copy frame generation) in omega arith) in
          λ one has. under one (contains-later (hold (frame_word c.frame) c.generation) v.holds (frame_word frame) one (λ (e : c.frame + 8 ≡ frame + 8). ne (omega arith)) (subst (λ (hs : List Hold). Contains hs (hold (frame_word frame) one)) is has)));
      borrowed = λ cell low.
          let a = ap (times (cell_word cell)) is in
          let b = apart (frame_word c.frame) cell (λ (e : c.frame + 8 ≡ cell). omega arith) in
          let d = h.borrowed cell low in
          let e = lent-home cell in omega arith;
      within = λ frame any. dite (ℕ_discrete c.frame frame)
          (λ e. subst (λ (n : ℕ). n < frames_around w) e lt)
          (λ ne. h.within frame (let a = counts (λ f x. f == frame) in let no : cond {A = ℕ} (c.frame == frame) 1 0 ≡ 0 = ap (λ (b : Bool). cond {A = ℕ} b 1 0) (ne_eqb c.frame frame ne) in omega arith));
    }
  where
    all-under : HeldUnder u (frame_word c.frame) c.generation
    all-under = λ one has. under-more (frame_word c.frame) c.generation v.holds same one (subst (λ (hs : List Hold). Contains hs (hold (frame_word c.frame) one)) is has)

    own : (frame generation : ℕ) → c.frame ≡ frame → 0 < count_of (is_copy frame generation) (c ∷ cs) → HeldUnder u (frame_word c.frame) generation
    own frame generation e any = subst (HeldUnder u (frame_word c.frame)) (is-it (count_of (is_copy frame generation) cs) refl) all-under
      where
        is-it : (n : ℕ) → count_of (is_copy frame generation) cs ≡ n → c.generation ≡ generation
        is-it zero none = is-generation frame generation c (let a = count-cons (is_copy frame generation) c cs in omega arith)
        is-it (suc n) some =
            let few = copies-fewer frame generation cs in
            let there = held-some (frame_word frame) v.holds (let a = h.counted frame in omega arith) in
            let under = h.same_generation frame generation (omega arith) there.0 there.1 in
            sym (same there.0 (subst (λ (k : ℕ). Contains v.holds (hold (frame_word k) there.0)) (sym e) there.1)) ∙ under

    lent-home : (cell : ℕ) → loans-in w cell (count_of (in-cell w cell) (c ∷ cs)) ≡ loans-in w cell (count_of (in-cell w cell) cs)
    lent-home cell = dite (ℕ_discrete cell (home_cell w))
        (λ e. let flag : (k : ℕ) → loans-in w cell k ≡ 0 = λ k. ap (λ (b : Bool). if b then 0 else k) (eq-eqb cell (home_cell w) e) in flag _ ∙ sym (flag _))
        (λ ne. let no : cond {A = ℕ} (cell_of_frame w c.frame == cell) 1 0 ≡ 0 = ap (λ (b : Bool). cond {A = ℕ} b 1 0) (ne_eqb (cell_of_frame w c.frame) cell (λ e. ne (sym e ∙ home))) in
        let same : count_of (in-cell w cell) (c ∷ cs) ≡ count_of (in-cell w cell) cs = (let a = count-cons (in-cell w cell) c cs in omega arith) in
        ap (loans-in w cell) same)

-- ---- what is found

-- a block that is found is one of the blocks
pub found-among : (P : Cached → Type 0) (blocks : List Cached) (disk b : ℕ) (copy : Copy) → All P blocks → found blocks disk b ≡ Some copy → (block : Cached) × P block × (block.copy ≡ copy)
found-among P [] disk b copy all is = absurd (no is)
  where
    no : None ≡ Some copy → ⊥
    no e = cc
found-among P (e ∷ blocks) disk b copy all is = by ((disk == e.disk) && (b == e.block)) (found-among P blocks disk b copy (All-tail P e blocks all)) is
  where
    same : Some e.copy ≡ Some copy → e.copy ≡ copy
    same x = cc

    by : (here : Bool) → (found blocks disk b ≡ Some copy → (block : Cached) × P block × (block.copy ≡ copy)) → (if here then Some e.copy else found blocks disk b) ≡ Some copy → (block : Cached) × P block × (block.copy ≡ copy)
    by true later is = (e, All-head P e blocks all, same is)
    by false later is = later is

-- a node at a place of an order
pub node-of : (P : NodeId → Type 0) (order : List NodeId) (place : ℕ) (node : NodeId) → All P order → slice_get order place ≡ Some node → P node
node-of P [] place node all is = absurd (no is)
  where
    no : None ≡ Some node → ⊥
    no e = cc
node-of P (x ∷ order) zero node all is = subst P (same is) (All-head P x order all)
  where
    same : Some x ≡ Some node → x ≡ node
    same e = cc
node-of P (x ∷ order) (suc place) node all is = node-of P order place node (All-tail P x order all) is
