-- Reading or checking the items of a list as they are, one after the other, as a loop does.
use Rattle.std.proofs.Common.{◌≡◌, ◌≢◌, ℕ, suc, ◌+◌, ◌<◌, ◌≤◌, List, [], ◌∷◌, ◌++◌, length, get_or, drop, Ok, Err, refl, sym, ap, ◌∙◌, arith}
use Rattle.std.proofs.lemmas.List.{append-nil, drop_more, drop_all}
use Rattle.machine_desc.specs.declared.fault.DescFault.{DescFault}
use Rattle.machine_desc.specs.declared.fault.DescFault.TheVariants.{Memory}
use Rattle.machine_desc.specs.Reads.{Read, each, all}
use Rattle.machine_desc.proofs.Each.{with_front, step}

-- the items are read up to this one, with these values
pub record IsReadUpTo {A B : Type 0} (f : ℕ → A → Read B) (xs : List A) (front : List B) (i : ℕ) : Type 0 where
  pub so_far : with_front front (each f i (drop i xs)) ≡ each f 0 xs

pub none_read : {A B : Type 0} (f : ℕ → A → Read B) (xs : List A) → IsReadUpTo f xs [] 0
none_read f xs = record { so_far = same (each f 0 xs) }
  where
    same : {B : Type 0} (read : Read (List B)) → with_front [] read ≡ read
    same (Ok ys) = refl
    same (Err fault) = refl

pub one_more_read : {A B : Type 0} (f : ℕ → A → Read B) (xs : List A) (front : List B) (i : ℕ) (x : A) (y : B) → IsReadUpTo f xs front i → i < length xs → x ≡ get_or xs i x → f i x ≡ Ok y
    → IsReadUpTo f xs (front ++ y ∷ []) (i + 1)
one_more_read f xs front i x y before lt at is =
    let one : with_front front (each f i (drop i xs)) ≡ with_front (front ++ y ∷ []) (each f (suc i) (drop (i + 1) xs)) = rw (drop_more xs i x lt) (step f i (get_or xs i x) (drop (i + 1) xs) y front (ap (f i) (sym at) ∙ is)) in
    let next : suc i ≡ i + 1 = omega arith in
    record { so_far = ap (λ k. with_front (front ++ y ∷ []) (each f k (drop (i + 1) xs))) (sym next) ∙ (sym one ∙ before.so_far) }

pub unread : {A B : Type 0} (f : ℕ → A → Read B) (xs : List A) (front : List B) (i : ℕ) (x : A) (fault : DescFault) → IsReadUpTo f xs front i → i < length xs → x ≡ get_or xs i x
    → (fault ≢ Memory → f i x ≡ Err fault) → fault ≢ Memory → each f 0 xs ≡ Err fault
unread f xs front i x fault before lt at is other =
    let here : f i (get_or xs i x) ≡ Err fault = ap (f i) (sym at) ∙ is other in
    let one : with_front front (each f i (drop i xs)) ≡ Err fault = rw (drop_more xs i x lt, here) refl in
    sym before.so_far ∙ one

pub read_whole : {A B : Type 0} (f : ℕ → A → Read B) (xs : List A) (front : List B) (i : ℕ) → IsReadUpTo f xs front i → length xs ≤ i → each f 0 xs ≡ Ok front
read_whole f xs front i before le =
    let one : with_front front (each f i (drop i xs)) ≡ Ok front = rw (drop_all i xs le) (ap Ok (append-nil front)) in
    sym before.so_far ∙ one

pub ruleset readings = (none_read, one_more_read, unread, read_whole)

-- the items are as they have to be up to this one
pub record IsCheckedTo {A : Type 0} (f : ℕ → A → Read (Unit {0})) (xs : List A) (i : ℕ) : Type 0 where
  pub so_far : all f i (drop i xs) ≡ all f 0 xs

pub none_checked : {A : Type 0} (f : ℕ → A → Read (Unit {0})) (xs : List A) → IsCheckedTo f xs 0
none_checked f xs = record { so_far = refl }

pub one_more_checked : {A : Type 0} (f : ℕ → A → Read (Unit {0})) (xs : List A) (i : ℕ) (x : A) → IsCheckedTo f xs i → i < length xs → x ≡ get_or xs i x → f i x ≡ Ok tt → IsCheckedTo f xs (i + 1)
one_more_checked f xs i x before lt at is =
    let here : f i (get_or xs i x) ≡ Ok tt = ap (f i) (sym at) ∙ is in
    let one : all f i (drop i xs) ≡ all f (suc i) (drop (i + 1) xs) = rw (drop_more xs i x lt, here) refl in
    let next : suc i ≡ i + 1 = omega arith in
    record { so_far = ap (λ k. all f k (drop (i + 1) xs)) (sym next) ∙ (sym one ∙ before.so_far) }

pub unchecked : {A : Type 0} (f : ℕ → A → Read (Unit {0})) (xs : List A) (i : ℕ) (x : A) (fault : DescFault) → IsCheckedTo f xs i → i < length xs → x ≡ get_or xs i x
    → (fault ≢ Memory → f i x ≡ Err fault) → fault ≢ Memory → all f 0 xs ≡ Err fault
unchecked f xs i x fault before lt at is other =
    let here : f i (get_or xs i x) ≡ Err fault = ap (f i) (sym at) ∙ is other in
    let one : all f i (drop i xs) ≡ Err fault = rw (drop_more xs i x lt, here) refl in
    sym before.so_far ∙ one

pub all_checked : {A : Type 0} (f : ℕ → A → Read (Unit {0})) (xs : List A) (i : ℕ) → IsCheckedTo f xs i → length xs ≤ i → all f 0 xs ≡ Ok tt
all_checked f xs i before le =
    let one : all f i (drop i xs) ≡ Ok tt = rw (drop_all i xs le) refl in
    sym before.so_far ∙ one

pub ruleset checks = (none_checked, one_more_checked, unchecked, all_checked)
