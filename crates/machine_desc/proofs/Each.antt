-- Reading the items of a list one after the other, as a loop does.
use Rattle.std.proofs.Common.{◌≡◌, ◌≢◌, ℕ, suc, ◌+◌, ◌<◌, ◌≤◌, List, [], ◌∷◌, ◌++◌, length, get_or, drop, map, Ok, Err, refl, sym, ap, ◌∙◌, append_assoc, arith}
use Rattle.std.proofs.lemmas.List.{append-nil, drop_more, drop_all}
use Rattle.machine_desc.specs.declared.fault.DescFault.{DescFault}
use Rattle.machine_desc.specs.declared.fault.DescFault.TheVariants.{Memory}
use Rattle.machine_desc.specs.Reads.{Read, ◌>>=◌, each}

-- what was read before, and what is still read
abbrev pub with_front : {B : Type 0} → List B → Read (List B) → Read (List B)
with_front front read = read >>= λ ys. Ok (front ++ ys)

-- the items, seen by g, are read up to this one, with these values
pub record IsReadTo {V A B : Type 0} (f : ℕ → A → Read B) (g : V → A) (vs : List V) (front : List B) (i : ℕ) : Type 0 where
  pub so_far : with_front front (each f i (map g (drop i vs))) ≡ each f 0 (map g vs)

pub regroup : {B : Type 0} (front : List B) (y : B) (read : Read (List B)) → with_front front (read >>= λ ys. Ok (y ∷ ys)) ≡ with_front (front ++ y ∷ []) read
regroup front y (Ok ys) = ap Ok (simp append_assoc)
regroup front y (Err fault) = refl

pub step : {A B : Type 0} (f : ℕ → A → Read B) (i : ℕ) (x : A) (xs : List A) (y : B) (front : List B) → f i x ≡ Ok y
    → with_front front (each f i (x ∷ xs)) ≡ with_front (front ++ y ∷ []) (each f (suc i) xs)
step f i x xs y front is = rw is (regroup front y (each f (suc i) xs))

pub none_yet : {V A B : Type 0} (f : ℕ → A → Read B) (g : V → A) (vs : List V) → IsReadTo f g vs [] 0
none_yet f g vs = record { so_far = same (each f 0 (map g vs)) }
  where
    same : {B : Type 0} (read : Read (List B)) → with_front [] read ≡ read
    same (Ok ys) = refl
    same (Err fault) = refl

-- one item is read
pub one_more : {V A B : Type 0} (f : ℕ → A → Read B) (g : V → A) (vs : List V) (front : List B) (i : ℕ) (x : V) (y : B) → IsReadTo f g vs front i → i < length vs → x ≡ get_or vs i x → f i (g x) ≡ Ok y
    → IsReadTo f g vs (front ++ y ∷ []) (i + 1)
one_more f g vs front i x y before lt at is =
    let one : with_front front (each f i (map g (drop i vs))) ≡ with_front (front ++ y ∷ []) (each f (suc i) (map g (drop (i + 1) vs))) = rw (drop_more vs i x lt) (step f i (g (get_or vs i x)) (map g (drop (i + 1) vs)) y front (ap (λ v. f i (g v)) (sym at) ∙ is)) in
    let next : suc i ≡ i + 1 = omega arith in
    record { so_far = ap (λ k. with_front (front ++ y ∷ []) (each f k (map g (drop (i + 1) vs)))) (sym next) ∙ (sym one ∙ before.so_far) }

-- an item has a fault
pub at_fault : {V A B : Type 0} (f : ℕ → A → Read B) (g : V → A) (vs : List V) (front : List B) (i : ℕ) (x : V) (fault : DescFault) → IsReadTo f g vs front i → i < length vs → x ≡ get_or vs i x
    → (fault ≢ Memory → f i (g x) ≡ Err fault) → fault ≢ Memory → each f 0 (map g vs) ≡ Err fault
at_fault f g vs front i x fault before lt at is other =
    let here : f i (g (get_or vs i x)) ≡ Err fault = ap (λ v. f i (g v)) (sym at) ∙ is other in
    let one : with_front front (each f i (map g (drop i vs))) ≡ Err fault = rw (drop_more vs i x lt, here) refl in
    sym before.so_far ∙ one

-- all are read
pub all_read : {V A B : Type 0} (f : ℕ → A → Read B) (g : V → A) (vs : List V) (front : List B) (i : ℕ) → IsReadTo f g vs front i → length vs ≤ i → each f 0 (map g vs) ≡ Ok front
all_read f g vs front i before le =
    let one : with_front front (each f i (map g (drop i vs))) ≡ Ok front = rw (drop_all i vs le) (ap Ok (append-nil front)) in
    sym before.so_far ∙ one

pub ruleset loops = (none_yet, one_more, at_fault, all_read)
