-- No fault of a description is want of memory.
use Rattle.std.proofs.Common.{◌≢◌, ℕ, suc, List, [], ◌∷◌, length, Bool, true, false, nat_le, ◌&&◌, if◌then◌else◌, Option, Some, None, Ok, Err, ℤ, pos, negsuc}
use Rattle.std.specs.Prelude.{bytes_eq}
use Rattle.std.specs.List.{list_any}
use Rattle.toml.specs.Data.{Data, as_integer, as_str, as_array, as_table}
use Rattle.machine_desc.specs.declared.fault.DescFault.{DescFault}
use Rattle.machine_desc.specs.declared.fault.DescFault.TheVariants.{Memory}
use Rattle.machine_desc.specs.Reads.{Read, ◌>>=◌, each, all}
use Rattle.machine_desc.specs.Kinds.{Kind, between, node_list, text_to, one_of, one_table, array_of}
use Rattle.machine_desc.specs.Values.{of_kind, long, in_range, number_in, text_in, word_in, nodes_in, node_in, tables_in, array_in, list_of as items_of}
use Rattle.machine_desc.specs.Cells.{value_in}

-- what is read is a value, or a fault that tells of the description
abbrev pub Tells : {A : Type 0} → Read A → Type 0
Tells (Ok x) = Unit {0}
Tells (Err fault) = fault ≢ Memory

-- ---- one after the other

pub Tells-then : {A B : Type 0} (first : Read A) (next : A → Read B) → Tells first → ((x : A) → Tells (next x)) → Tells (first >>= next)
Tells-then (Ok x) next first rest = rest x
Tells-then (Err fault) next first rest = first

pub Tells-if : {A : Type 0} (b : Bool) (x : A) (fault : DescFault) → fault ≢ Memory → Tells (let r : Read A = if b then Ok x else Err fault in r)
Tells-if true x fault other = tt
Tells-if false x fault other = other

pub Tells-unless : {A : Type 0} (b : Bool) (x : A) (fault : DescFault) → fault ≢ Memory → Tells (let r : Read A = if b then Err fault else Ok x in r)
Tells-unless true x fault other = other
Tells-unless false x fault other = tt

pub Tells-each : {A B : Type 0} (f : ℕ → A → Read B) → ((i : ℕ) (x : A) → Tells (f i x)) → (i : ℕ) (xs : List A) → Tells (each f i xs)
Tells-each f one i [] = tt
Tells-each f one i (x ∷ xs) = Tells-then (f i x) _ (one i x) (λ y. Tells-then (each f (suc i) xs) _ (Tells-each f one (suc i) xs) (λ ys. tt))

pub Tells-all : {A : Type 0} (f : ℕ → A → Read (Unit {0})) → ((i : ℕ) (x : A) → Tells (f i x)) → (i : ℕ) (xs : List A) → Tells (all f i xs)
Tells-all f one i [] = tt
Tells-all f one i (x ∷ xs) = Tells-then (f i x) _ (one i x) (λ _. Tells-all f one (suc i) xs)

-- ---- values

Tells-of_kind : {A : Type 0} (key : List ℕ) (found : Option A) → Tells (of_kind key found)
Tells-of_kind key None = λ is. cc
Tells-of_kind key (Some x) = tt

Tells-in_range : (key : List ℕ) (low high : ℕ) (z : ℤ) → Tells (in_range key low high z)
Tells-in_range key low high (pos n) = Tells-if (nat_le low n && nat_le n high) n _ (λ is. cc)
Tells-in_range key low high (negsuc n) = λ is. cc

Tells-number_in : (key : List ℕ) (low high : ℕ) (d : Data) → Tells (number_in key low high d)
Tells-number_in key low high d = Tells-then (of_kind key (as_integer d)) _ (Tells-of_kind key (as_integer d)) (Tells-in_range key low high)

Tells-long : {A : Type 0} (key : List ℕ) (low high n : ℕ) (x : A) → Tells (long key low high n x)
Tells-long key low high n x = Tells-if (nat_le low n && nat_le n high) x _ (λ is. cc)

Tells-array_in : (key : List ℕ) (low high : ℕ) (d : Data) → Tells (array_in key low high d)
Tells-array_in key low high d = Tells-then (of_kind key (as_array d)) _ (Tells-of_kind key (as_array d)) (λ ds. Tells-long key low high (length (items_of ds)) (items_of ds))

pub Tells-value_in : (key : List ℕ) (kind : Kind) (d : Data) → Tells (value_in key kind d)
Tells-value_in key (between low high) d = Tells-then (number_in key low high d) _ (Tells-number_in key low high d) (λ n. tt)
Tells-value_in key (node_list most) d =
    Tells-then (nodes_in key most d) _
    (Tells-then (array_in key 1 most d) _ (Tells-array_in key 1 most d) (Tells-each (λ i e. node_in key e) (λ i e. Tells-then (number_in key 0 7 e) _ (Tells-number_in key 0 7 e) (λ n. tt)) 0))
    (λ ns. tt)
Tells-value_in key (text_to most) d =
    Tells-then (text_in key most d) _
    (Tells-then (of_kind key (as_str d)) _ (Tells-of_kind key (as_str d)) (λ s. Tells-long key 1 most (length s) s))
    (λ s. tt)
Tells-value_in key (one_of words) d =
    Tells-then (word_in key words d) _
    (Tells-then (of_kind key (as_str d)) _ (Tells-of_kind key (as_str d)) (λ s. Tells-if (list_any (bytes_eq s) words) s _ (λ is. cc)))
    (λ s. tt)
Tells-value_in key one_table d = Tells-then (of_kind key (as_table d)) _ (Tells-of_kind key (as_table d)) (λ ms. tt)
Tells-value_in key (array_of low high) d =
    Tells-then (tables_in key low high d) _
    (Tells-then (array_in key low high d) _ (Tells-array_in key low high d) (Tells-each (λ i e. of_kind key (as_table e)) (λ i e. Tells-of_kind key (as_table e)) 0))
    (λ ts. tt)
