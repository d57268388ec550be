-- What a litmus file asks for is within all bounds, and no fault of it is want of memory.
use Rattle.std.proofs.Common.{◌≡◌, ◌≢◌, ℕ, suc, ◌-◌, ◌%◌, ◌<◌, ◌≤◌, ◌==◌, ◌&&◌, List, [], ◌∷◌, length, Bool, true, false, nat_le, codes, if◌then◌else◌, Option, Some, None, Ok, Err, ℤ, pos, negsuc, All, refl, ap, sym, subst, arith}
use Rattle.std.specs.Str.{is_utf8}
use Rattle.std.proofs.lemmas.Bool.Decides.{nat_tests}
use Rattle.std.proofs.lemmas.List.Elements.{All-nil, All-cons}
use Rattle.toml.specs.Data.{Data, Members, get_member, as_integer, as_array, as_table}
use Rattle.toml.specs.Parse.{parse_document}
use Rattle.page_slots.specs.Litmus.{IsOp, IsLitmus}
use Rattle.page_slots.specs.declared.op.Op.{Op}
use Rattle.page_slots.specs.declared.op.Litmus.{Litmus}
use Rattle.litmus_file.specs.declared.fault.LitmusFault.{LitmusFault}
use Rattle.litmus_file.specs.declared.fault.LitmusFault.TheVariants.{Memory}
use Rattle.litmus_file.specs.declared.fault.LitmusFault.TheVariants as fault
use Rattle.litmus_file.specs.declared.place.Place.{Place}
use Rattle.litmus_file.specs.declared.place.Place.TheVariants.{Top, Caller}
use Rattle.litmus_file.specs.File.{load_in, store_in, op_of, op_in, ops_in, held, held_at, caller_at, pages_in, callers_in, litmus_at, read_of, litmus_of}
use Rattle.litmus_file.specs.Paths.{path}
use Rattle.litmus_file.specs.Reads.{Read, ◌>>=◌, each}
use Rattle.litmus_file.specs.Unknown.{keys_in, least_unknown, refused, only}
use Rattle.litmus_file.specs.Values.{of_kind, in_range, number_in, list_of, array_in, tables_in, offset_in}

-- what is read is so, or it is a fault of the file
abbrev pub Meets : {A : Type 0} → (A → Type 0) → Read A → Type 0
Meets P (Ok x) = P x
Meets P (Err fault) = fault ≢ Memory

-- ---- one after the other

meets-then : {A B : Type 0} (P : A → Type 0) (Q : B → Type 0) (first : Read A) (next : A → Read B) → Meets P first → ((x : A) → P x → Meets Q (next x)) → Meets Q (first >>= next)
meets-then P Q (Ok x) next first rest = rest x first
meets-then P Q (Err fault) next first rest = first

meets-if : {A : Type 0} (P : A → Type 0) (b : Bool) (x : A) (fault : LitmusFault) → (b ≡ true → P x) → fault ≢ Memory → Meets P (let r : Read A = if b then Ok x else Err fault in r)
meets-if P true x fault holds other = holds refl
meets-if P false x fault holds other = other

meets-each : {A B : Type 0} (P : B → Type 0) (f : ℕ → A → Read B) → ((i : ℕ) (x : A) → Meets P (f i x)) → (i : ℕ) (xs : List A) → Meets (λ ys. All P ys × (length ys ≡ length xs)) (each f i xs)
meets-each P f one i [] = (All-nil P, refl)
meets-each P f one i (x ∷ xs) = meets-then P _ (f i x) _ (one i x) (λ y has.
    meets-then (λ ys. All P ys × (length ys ≡ length xs)) _ (each f (suc i) xs) _ (meets-each P f one (suc i) xs)
    (λ ys all. (All-cons P y ys has all.0, ap suc all.1)))

-- ---- values

meets-kind : {A : Type 0} (key : List ℕ) (found : Option A) → Meets (λ _. Unit {0}) (of_kind key found)
meets-kind key None = λ is. cc
meets-kind key (Some x) = tt

-- a number from one to another
abbrev Within : ℕ → ℕ → ℕ → Type 0
Within low high n = (low ≤ n) × (n ≤ high)

within-tests : (low high n : ℕ) → (nat_le low n && nat_le n high) ≡ true → Within low high n
within-tests low high n is = (grind (arith, nat_tests), grind (arith, nat_tests))

meets-in_range : (key : List ℕ) (low high : ℕ) (z : ℤ) → Meets (Within low high) (in_range key low high z)
meets-in_range key low high (pos n) = meets-if (Within low high) (nat_le low n && nat_le n high) n _ (within-tests low high n) (λ is. cc)
meets-in_range key low high (negsuc n) = λ is. cc

meets-number_in : (key : List ℕ) (low high : ℕ) (d : Data) → Meets (Within low high) (number_in key low high d)
meets-number_in key low high d = meets-then (λ _. Unit {0}) _ (of_kind key (as_integer d)) _ (meets-kind key (as_integer d)) (λ z _. meets-in_range key low high z)

meets-array_in : (key : List ℕ) (low high : ℕ) (d : Data) → Meets (λ ds. Within low high (length ds)) (array_in key low high d)
meets-array_in key low high d = meets-then (λ _. Unit {0}) _ (of_kind key (as_array d)) _ (meets-kind key (as_array d)) (λ ds _.
    meets-if (λ es. Within low high (length es)) (nat_le low (length (list_of ds)) && nat_le (length (list_of ds)) high) (list_of ds) _ (within-tests low high (length (list_of ds))) (λ is. cc))

meets-tables_in : (key : List ℕ) (low high : ℕ) (d : Data) → Meets (λ ts. Within low high (length ts)) (tables_in key low high d)
meets-tables_in key low high d = meets-then (λ es. Within low high (length es)) _ (array_in key low high d) _ (meets-array_in key low high d) (λ es within.
    weaker (each (λ i e. of_kind key (as_table e)) 0 es) es within (meets-each (λ _. Unit {0}) (λ i e. of_kind key (as_table e)) (λ i e. meets-kind key (as_table e)) 0 es))
  where
    weaker : (r : Read (List Members)) (es : List Data) → Within low high (length es) → Meets (λ ts. All (λ _. Unit {0}) ts × (length ts ≡ length es)) r → Meets (λ ts. Within low high (length ts)) r
    weaker (Ok ts) es within all = subst (Within low high) (sym all.1) within
    weaker (Err fault) es within other = other

meets-offset_in : (key : List ℕ) (d : Data) → Meets (λ n. (n < 4096) × (n % 4 ≡ 0)) (offset_in key d)
meets-offset_in key d = meets-then (Within 0 4092) _ (number_in key 0 4092 d) _ (meets-number_in key 0 4092 d) (λ n within.
    meets-if (λ m. (m < 4096) × (m % 4 ≡ 0)) (n % 4 == 0) n _ (λ is. (let most = within.1 in omega arith, grind (arith, nat_tests))) (λ is. cc))

-- ---- operations

module _ (pages : ℕ) (some_pages : 0 < pages) (key : List ℕ) where
  meets-load_in : (page offset : Data) → Meets (IsOp pages) (load_in pages key page offset)
  unfolding load_in
  meets-load_in page offset = meets-then (Within 0 (pages - 1)) _ (number_in key 0 (pages - 1) page) _ (meets-number_in key 0 (pages - 1) page) (λ p below.
      meets-then (λ n. (n < 4096) × (n % 4 ≡ 0)) _ (offset_in key offset) _ (meets-offset_in key offset) (λ o at.
      ((let most = below.1 in omega arith), at.0, at.1)))

  meets-store_in : (page offset value : Data) → Meets (IsOp pages) (store_in pages key page offset value)
  unfolding store_in
  meets-store_in page offset value = meets-then (Within 0 (pages - 1)) _ (number_in key 0 (pages - 1) page) _ (meets-number_in key 0 (pages - 1) page) (λ p below.
      meets-then (λ n. (n < 4096) × (n % 4 ≡ 0)) _ (offset_in key offset) _ (meets-offset_in key offset) (λ o at.
      meets-then (Within 0 4294967295) _ (number_in key 0 4294967295 value) _ (meets-number_in key 0 4294967295 value) (λ v _.
      ((let most = below.1 in omega arith), at.0, at.1))))

  meets-op_of : (ds : List Data) → Meets (IsOp pages) (op_of pages key ds)
  meets-op_of [] = λ is. cc
  meets-op_of (page ∷ []) = λ is. cc
  meets-op_of (page ∷ offset ∷ []) = meets-load_in page offset
  meets-op_of (page ∷ offset ∷ value ∷ []) = meets-store_in page offset value
  meets-op_of (page ∷ offset ∷ value ∷ more ∷ ds) = λ is. cc

  meets-op_in : (d : Data) → Meets (IsOp pages) (op_in pages key d)
  meets-op_in d = meets-then (λ ds. Within 2 3 (length ds)) _ (array_in key 2 3 d) _ (meets-array_in key 2 3 d) (λ ds _. meets-op_of ds)

-- operations are few, and each is on one of the pages
abbrev AreOps : ℕ → List Op → Type 0
AreOps pages ops = (length ops ≤ 1000) × All (IsOp pages) ops

meets-ops_in : (pages : ℕ) → 0 < pages → (key : List ℕ) (d : Data) → Meets (AreOps pages) (ops_in pages key d)
meets-ops_in pages some_pages key d = meets-then (λ ds. Within 0 1000 (length ds)) _ (array_in key 0 1000 d) _ (meets-array_in key 0 1000 d) (λ ds few.
    counted (each (λ i e. op_in pages key e) 0 ds) ds few.1 (meets-each (IsOp pages) (λ i e. op_in pages key e) (λ i e. meets-op_in pages some_pages key e) 0 ds))
  where
    counted : (r : Read (List Op)) (ds : List Data) → length ds ≤ 1000 → Meets (λ ops. All (IsOp pages) ops × (length ops ≡ length ds)) r → Meets (AreOps pages) r
    counted (Ok ops) ds few all = ((let long = all.1 in omega arith), all.0)
    counted (Err fault) ds few other = other

-- ---- tables

meets-held : {A : Type 0} (P : A → Type 0) (key : List ℕ) (read : List ℕ → Data → Read A) → ((k : List ℕ) (d : Data) → Meets P (read k d)) → (found : Option Data) → Meets P (held key read found)
meets-held P key read each_read None = λ is. cc
meets-held P key read each_read (Some d) = each_read key d

meets-only : (place : Place) (known : List (List ℕ)) (ms : Members) → Meets (λ _. Unit {0}) (only place known ms)
unfolding only
meets-only place known ms = told (least_unknown known (keys_in ms))
  where
    told : (found : Option (List ℕ)) → Meets (λ _. Unit {0}) (refused place found)
    told None = tt
    told (Some key) = λ is. cc

meets-caller_at : (pages : ℕ) → 0 < pages → (i : ℕ) (ms : Members) → Meets (AreOps pages) (caller_at pages i ms)
unfolding caller_at
meets-caller_at pages some_pages i ms = meets-then (λ _. Unit {0}) _ (only (Caller i) (codes "ops" ∷ []) ms) _ (meets-only (Caller i) (codes "ops" ∷ []) ms) (λ _ _.
    meets-held (AreOps pages) (path (Caller i) (codes "ops")) (ops_in pages) (meets-ops_in pages some_pages) (get_member (codes "ops") ms))

meets-litmus_at : (ms : Members) → Meets IsLitmus (litmus_at ms)
unfolding litmus_at
meets-litmus_at ms =
    meets-then (λ _. Unit {0}) _ (only Top (codes "pages" ∷ codes "caller" ∷ []) ms) _ (meets-only Top (codes "pages" ∷ codes "caller" ∷ []) ms) (λ _ _.
    meets-then (Within 1 16) _ (held_at Top (codes "pages") pages_in ms) _ (meets-held (Within 1 16) _ pages_in (λ k d. meets-number_in k 1 16 d) (get_member (codes "pages") ms)) (λ pages of_pages.
    meets-then (λ ts. Within 1 16 (length ts)) _ (held_at Top (codes "caller") callers_in ms) _ (meets-held (λ ts. Within 1 16 (length ts)) _ callers_in (λ k d. meets-tables_in k 1 16 d) (get_member (codes "caller") ms)) (λ tables of_tables.
    meets-then (λ os. All (AreOps pages) os × (length os ≡ length tables)) _ (each (caller_at pages) 0 tables) _
    (meets-each (AreOps pages) (caller_at pages) (meets-caller_at pages (let least = of_pages.0 in omega arith)) 0 tables)
    (λ callers all. record {
      some_pages = let least = of_pages.0 in omega arith;
      few_pages = of_pages.1;
      some_callers = let least = of_tables.0 in let long = all.1 in omega arith;
      few_callers = let most = of_tables.1 in let long = all.1 in omega arith;
      few_ops = λ k d less. (all.0 k d less).0;
      ops = λ k d less. (all.0 k d less).1;
    }))))

meets-litmus_of : (bytes : List ℕ) → Meets IsLitmus (litmus_of bytes)
unfolding litmus_of
meets-litmus_of bytes = by (is_utf8 bytes) (parse_document bytes)
  where
    by : (text : Bool) (document : Option Members) → Meets IsLitmus (let r : Read Litmus = if text then read_of document else Err fault.Toml in r)
    by true None = λ is. cc
    by true (Some ms) = meets-litmus_at ms
    by false document = λ is. cc

pub litmus_of-within : (bytes : List ℕ) (litmus : Litmus) → litmus_of bytes ≡ Ok litmus → IsLitmus litmus
litmus_of-within bytes litmus is = subst (Meets IsLitmus) is (meets-litmus_of bytes)

pub litmus_of-told : (bytes : List ℕ) (fault : LitmusFault) → litmus_of bytes ≡ Err fault → fault ≢ Memory
litmus_of-told bytes fault is = subst (Meets IsLitmus) is (meets-litmus_of bytes)
