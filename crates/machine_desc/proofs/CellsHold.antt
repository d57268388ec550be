-- Each node is in one cell, and each cell has a node.
use Rattle.std.proofs.Common.{◌≡◌, ℕ, ◌<◌, ◌≤◌, ◌==◌, List, [], ◌∷◌, length, get_or, take, Bool, true, false, ◌||◌, nat_lt, is_some, if◌then◌else◌, Option, Some, None, Ok, codes, refl, ap, sym, ◌∙◌, inl, inr, arith}
use Rattle.std.specs.Prelude.{All, Contains, position}
use Rattle.std.specs.List.{range_with_len, position_or_len}
use Rattle.std.proofs.lemmas.Bool.{cases_Bool, false≢true}
use Rattle.std.proofs.lemmas.Bool.Decides.{nat_tests}
use Rattle.std.proofs.lemmas.List.{length-take-le, get_or-take}
use Rattle.std.proofs.lemmas.List.Elements.{All-get_or}
use Rattle.std.proofs.lemmas.List.FromFn.{length-range_with_len, get_or-range_with_len}
use Rattle.std.proofs.lemmas.List.Quantifiers.{position-Some}
use Rattle.std.proofs.lemmas.List.Sums.{position_or_len_is, fails_before_first}
use Rattle.base_words.specs.declared.ids.CellId.{CellId}
use Rattle.base_words.specs.declared.ids.NodeId.{NodeId}
use Rattle.machine_desc.specs.declared.place.Place.TheVariants as places
use Rattle.machine_desc.specs.declared.sheet.CellTable.{CellTable}
use Rattle.machine_desc.specs.Paths.{path}
use Rattle.machine_desc.specs.Reads.{all}
use Rattle.machine_desc.specs.Names.{there, has_node, cell_with, node_named, cell_named, cells_named, home_from, home, homes}
use Rattle.machine_desc.proofs.Stepwise.{reading, same_value, neither, refuted, length-each, each-all, each-at}
use Rattle.machine_desc.proofs.TableSizes.{IsCellTable}
use Rattle.machine_desc.proofs.NamesHold.{all-at, there-below}

-- the cell of a node is the first that has it
home-is : (cells : List CellTable) (node : ℕ) (cell : CellId) → home cells node ≡ Ok cell → cell_with node cells ≡ Some cell.0
home-is cells node cell is = by (cell_with node cells) is
  where
    by : (found : Option ℕ) → home_from node found ≡ Ok cell → found ≡ Some cell.0
    by None is = absurd (cc)
    by (Some n) is = let e : record { 0 = n } ≡ cell = same_value (record { 0 = n }) cell is in ap (λ (c : CellId). Some c.0) e

home-below : (cells : List CellTable) (node : ℕ) (cell : CellId) → home cells node ≡ Ok cell → cell.0 < length cells
home-below cells node cell is = (position-Some (λ (c : CellTable). has_node node c.nodes) cells cell.0 (record { nodes = []; lend = 0 }) (home-is cells node cell is)).0

pub length-homes : (count : ℕ) (cells : List CellTable) (found : List CellId) → homes count cells ≡ Ok found → length found ≡ count
unfolding homes
length-homes count cells found is = length-each _ 0 (range_with_len 0 count) found is ∙ length-range_with_len 0 count

pub homes-below : (count : ℕ) (cells : List CellTable) (found : List CellId) → homes count cells ≡ Ok found → All (λ cell. cell.0 < length cells) found
unfolding homes
homes-below count cells found is = each-all (λ (cell : CellId). cell.0 < length cells) _ (λ i node cell here. home-below cells node cell here) 0 (range_with_len 0 count) found is

-- ---- a cell's own node

no_node : NodeId
no_node = record { 0 = 0 }

no_cell : CellTable
no_cell = record { nodes = []; lend = 0 }

none_found : (n l : ℕ) → is_some (let o : Option ℕ = if nat_lt n l then Some n else None in o) ≡ false → l ≤ n
none_found n l none = elim (cases_Bool (nat_lt n l)) [
  | inl lt ↦ absurd (false≢true (sym (rw lt at none)))
  | inr ge ↦ grind (arith, nat_tests)
]

-- the first place that passes a test, where none before it does
position-is : {A : Type 0} (p : A → Bool) (xs : List A) (k : ℕ) (d : A) → k < length xs → is_some (position p (take k xs)) ≡ false → p (get_or xs k d) ≡ true → position p xs ≡ Some k
position-is p xs k d lt none here =
    let le : length (take k xs) ≤ position_or_len p (take k xs) = none_found (position_or_len p (take k xs)) (length (take k xs)) none in
    let many : length (take k xs) ≡ k = length-take-le k xs (omega arith) in
    let before : (j : ℕ) → j < k → p (get_or xs j d) ≡ false = λ j below. ap p (sym (get_or-take k xs j d below)) ∙ fails_before_first p (take k xs) j d (omega arith) in
    let first : position_or_len p xs ≡ k = position_or_len_is p xs k d (omega arith) before (λ _. here) in
    let inside : nat_lt k (length xs) ≡ true = grind (arith, nat_tests) in
    rw (first, inside) refl

has_first : (own : List NodeId) → 0 < length own → has_node (get_or own 0 no_node).0 own ≡ true
has_first [] some = absurd (omega arith)
has_first (node ∷ nodes) some = let same : (node.0 == node.0) ≡ true = grind (arith, nat_tests) in rw same refl

-- the first node of a cell is there, and is in no cell before
first_node : (count k : ℕ) (before : List CellTable) (own : List NodeId) → cell_named count k before own ≡ Ok tt → 0 < length own
    → ((get_or own 0 no_node).0 < count) × (is_some (cell_with (get_or own 0 no_node).0 before) ≡ false)
unfolding cell_named
first_node count k before own is some =
    let n : ℕ = (get_or own 0 no_node).0 in
    let key = path (places.Cell k) (codes "nodes") in
    let here : node_named key count before [] n ≡ Ok tt = all-at (λ j m. node_named key count before (take j own) m.0) 0 0 0 own no_node is some (omega arith) in
    reading (there key count n) _ tt here λ done below rest. (there-below key count n below, (neither (has_node n []) (is_some (cell_with n before)) (refuted (has_node n [] || is_some (cell_with n before)) _ rest)).1)

-- each cell is the cell of a node
pub no_cell_empty : (count : ℕ) (cells : List CellTable) (found : List CellId) → cells_named count cells ≡ Ok tt → homes count cells ≡ Ok found → All IsCellTable cells
    → (k : ℕ) → k < length cells → Contains found (record { 0 = k })
unfolding cells_named homes
no_cell_empty count cells found named is all k lt =
    let cell = get_or cells k no_cell in
    let own = all-at (λ i c. cell_named count i (take i cells) c.nodes) 0 k k cells no_cell named lt (omega arith) in
    let some = (All-get_or IsCellTable cells k no_cell lt all).some in
    let first = first_node count k (take k cells) cell.nodes own some in
    let n : ℕ = (get_or cell.nodes 0 no_node).0 in
    let at : cell_with n cells ≡ Some k = position-is (λ (c : CellTable). has_node n c.nodes) cells k no_cell lt first.1 (has_first cell.nodes some) in
    let many = length-each (λ (i : ℕ) node. home cells node) 0 (range_with_len 0 count) found is ∙ length-range_with_len 0 count in
    let item : home cells (get_or (range_with_len 0 count) n 0) ≡ Ok (get_or found n (record { 0 = k })) = each-at (λ i node. home cells node) 0 n n (range_with_len 0 count) found 0 (record { 0 = k }) is (rw (length-range_with_len 0 count) first.0) (omega arith) in
    let that : home cells n ≡ Ok (get_or found n (record { 0 = k })) = ap (home cells) (sym (get_or-range_with_len 0 count n 0 first.0 ∙ omega arith)) ∙ item in
    let this : home cells n ≡ Ok (record { 0 = k }) = ap (home_from n) at in
    (n, rw many first.0, sym (same_value _ _ (sym this ∙ that)))
