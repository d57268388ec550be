-- The counts as what is left, at first and when a frame is taken, and what a guest has of it.
use Rattle.std.proofs.Common.{◌≡◌, ◌≢◌, ℕ, zero, suc, ◌-◌, ◌<◌, if◌then◌else◌, Bool, List, [], ◌∷◌, ◌++◌, length, replicate, get_or, set, drop, refl, sym, ap, ◌∙◌, subst, eq-eqb, ne_eqb, get_or-set_same, get_or-set_other}
use Rattle.std.specs.Prelude.{slice_index, slice_index_or}
use Rattle.std.proofs.lemmas.List.{get_or_default, drop-replicate}
use mathlib.Core.Logic.{dite}
use native.Mathlib.Decide.{ℕ_discrete}
use Rattle.node_frames.specs.Layout.{Layout}
use Rattle.node_frames.specs.Places.{cell_of_node}
use Rattle.node_frames.specs.Left.{first_left, one_less, taking}
use Rattle.boot_frames.specs.Counts.{counted_left}
use Rattle.boot_frames.specs.declared.counts.Counts.{Counts}

-- the same number everywhere, and beyond
all_same : (n place d : ℕ) → get_or (replicate n d) place d ≡ d
all_same zero place d = refl
all_same (suc n) zero d = refl
all_same (suc n) (suc place) d = all_same n place d

padded : (xs : List ℕ) (n place : ℕ) → get_or (xs ++ replicate n 0) place 0 ≡ get_or xs place 0
padded [] n place = all_same n place 0
padded (x ∷ xs) n zero = refl
padded (x ∷ xs) n (suc place) = padded xs n place

-- all frames of each node, and all that each cell lends
pub counted-first : (layout : Layout) (lends xs : List ℕ) → xs ≡ lends
    → counted_left layout (record { frames = replicate 8 layout.frames; loans = xs ++ drop (length lends) (replicate 8 0) }) ≡ first_left layout lends
counted-first layout lends xs is = λ i. record { frames = λ node. all_same 8 node layout.frames i; loans = λ cell. loans cell i }
  where
    loans : (cell : ℕ) → get_or (xs ++ drop (length lends) (replicate 8 0)) cell 0 ≡ get_or lends cell 0
    loans cell = ap (λ (l : List ℕ). get_or (l ++ drop (length lends) (replicate 8 0)) cell 0) is
        ∙ ap (λ (l : List ℕ). get_or (lends ++ l) cell 0) (drop-replicate (length lends) 8 0) ∙ padded lends (8 - length lends) cell

-- one less at one place
less_here : (f : ℕ → ℕ) (place : ℕ) → one_less f place place ≡ f place - 1
less_here f place = ap (λ (b : Bool). if b then f place - 1 else f place) (eq-eqb place place refl)

less_else : (f : ℕ → ℕ) (place n : ℕ) → n ≢ place → one_less f place n ≡ f n
less_else f place n apart = ap (λ (b : Bool). if b then f n - 1 else f n) (ne_eqb n place apart)

set_less : (xs : List ℕ) (place d n : ℕ) → place < length xs → get_or (set xs place (get_or xs place 0 - 1)) n d ≡ one_less (λ k. get_or xs k d) place n
set_less xs place d n within = dite (ℕ_discrete n place)
    (λ e. subst (λ k. get_or (set xs place (get_or xs place 0 - 1)) k d ≡ one_less (λ k. get_or xs k d) place k) (sym e)
    (get_or-set_same xs place (get_or xs place 0 - 1) d within ∙ ap (λ k. k - 1) (get_or_default xs place 0 d within) ∙ sym (less_here (λ k. get_or xs k d) place)))
    (λ ne. get_or-set_other xs place n (get_or xs place 0 - 1) d ne ∙ sym (less_else (λ k. get_or xs k d) place n ne))

-- a frame of a node, in the home cell and outside
pub counted-inside : (layout : Layout) (home : ℕ) (counts : Counts) (node : ℕ) → node < length counts.frames → cell_of_node layout node ≡ home
    → counted_left layout (record { frames = set counts.frames node (get_or counts.frames node 0 - 1); loans = counts.loans }) ≡ taking layout home (counted_left layout counts) node
counted-inside layout home counts node within inside = λ i. record {
  frames = λ n. set_less counts.frames node layout.frames n within i;
  loans = if sym (eq-eqb (cell_of_node layout node) home inside) i then (λ cell. slice_index counts.loans cell) else one_less (λ cell. slice_index counts.loans cell) (cell_of_node layout node);
}

pub counted-outside : (layout : Layout) (home : ℕ) (counts : Counts) (node : ℕ) → node < length counts.frames → cell_of_node layout node ≢ home → cell_of_node layout node < length counts.loans
    → counted_left layout (record {
      frames = set counts.frames node (get_or counts.frames node 0 - 1);
      loans = set counts.loans (cell_of_node layout node) (get_or counts.loans (cell_of_node layout node) 0 - 1);
    }) ≡ taking layout home (counted_left layout counts) node
counted-outside layout home counts node within outside low =
    (λ i. record {
      frames = λ n. set_less counts.frames node layout.frames n within i;
      loans = λ cell. set_less counts.loans (cell_of_node layout node) 0 cell low i;
    })
    ∙ (λ i. record {
      frames = one_less (λ n. slice_index_or counts.frames n layout.frames) node;
      loans = if sym (ne_eqb (cell_of_node layout node) home outside) i then (λ cell. slice_index counts.loans cell) else one_less (λ cell. slice_index counts.loans cell) (cell_of_node layout node);
    })
