-- The items of an array as a list.
use Rattle.std.proofs.Common.{◌≡◌, ℕ, List, [], ◌∷◌, suc, length, map, Option, option_map, Bor, String, Global, string_bytes, nat_cmp, refl, ap}
use Rattle.std.specs.Cmp.Lexicographic.{slice_cmp}
use Rattle.std.specs.Map.{lookup}
use Rattle.std.specs.BTreeMap.{is_at}
use Rattle.toml.specs.Data.{get_member}
use Rattle.toml.proofs.Views.{table_get}
use Rattle.toml.specs.View.{view, items_view, members_view}
use Rattle.toml.specs.declared.value.Value.{Value}
use Rattle.machine_desc.specs.Values.{list_of}

pub list_of-items_view : (vs : List Value) → list_of (items_view vs) ≡ map view vs
list_of-items_view [] = refl
list_of-items_view (v ∷ vs) = ap (λ ds. view v ∷ ds) (list_of-items_view vs)

pub length-list_of : (vs : List Value) → length (list_of (items_view vs)) ≡ length vs
length-list_of [] = refl
length-list_of (v ∷ vs) = ap suc (length-list_of vs)

pub ruleset array_items = (list_of-items_view, length-list_of)

-- what the map of a table finds
pub found : (r : Option (Bor Value)) (k : List ℕ) (es : List (String Global × Value)) → option_map (λ x. x.now) r ≡ lookup (is_at (λ x. slice_cmp nat_cmp k (string_bytes x))) es → option_map (λ x. view x.now) r ≡ get_member k (members_view es)
found = table_get
