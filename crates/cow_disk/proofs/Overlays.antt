-- Blocks under what stands over them: one by one, before the first write, and after a write.
use Rattle.std.proofs.Common.{◌≡◌, ℕ, zero, suc, ◌<◌, ◌≤◌, List, [], ◌∷◌, ◌++◌, map, length, replicate, take, get_or, set, Option, None, Result, Ok, Err, OnOk, OnErr, refl, ap, ◌∙◌, arith}
use Rattle.std.proofs.lemmas.List.{take_all, map-append}
use Rattle.std.specs.Global.{Box}
use Rattle.std.specs.List.{slice_get, FoldsTo, AppendsResults}
use Rattle.std.specs.Option.{option_map}
use Rattle.base_words.specs.declared.page.Page.{Page}
use Rattle.private_machine.specs.Disk.{no_block, as_given}
use Rattle.cow_disk.specs.DiskView.{own_bytes, owns_of, overlaid}

-- what calls gave that always give nothing
nothing_each : {F : Type 0} (step : F → Option (Box Page) → F → Type 0) → ((f : F) (x : Option (Box Page)) (g : F) → step f x g → x ≡ None)
    → (f : F) (xs : List (Option (Box Page))) (g : F) → FoldsTo step f xs g → owns_of xs ≡ replicate (length xs) None
nothing_each step gives f [] g folds = refl
nothing_each step gives f (x ∷ xs) g folds =
    let first = gives f x folds.0 folds.1 in
    let rest = nothing_each step gives folds.0 xs g folds.2 in
    λ i. own_bytes (first i) ∷ rest i

past_nothing : (owns : List (Option (List ℕ))) (n k : ℕ) → get_or (owns ++ replicate n None) k None ≡ get_or owns k None
past_nothing [] zero k = refl
past_nothing [] (suc n) zero = refl
past_nothing [] (suc n) (suc k) = past_nothing [] n k
past_nothing (o ∷ os) n zero = refl
past_nothing (o ∷ os) n (suc k) = past_nothing os n k

pub nothing_more : {F E : Type 0} (step : F → Option (Box Page) → F → Type 0) → ((f : F) (x : Option (Box Page)) (g : F) → step f x g → x ≡ None)
    → (r : Result (Unit {0}) E) (n : ℕ) (old new : List (Option (Box Page))) (f : F) → length old ≤ n → OnOk r (AppendsResults step (take n old) new f) → OnErr r (new ≡ old)
    → (k : ℕ) → get_or (owns_of new) k None ≡ get_or (owns_of old) k None
nothing_more step gives (Err e) n old new f few made same k = ap (λ l. get_or (owns_of l) k None) same
nothing_more step gives (Ok u) n old new f few made same k =
    let all : new ≡ old ++ made.0 = made.2 ∙ ap (λ l. l ++ made.0) (take_all n old few) in
    let owns : owns_of new ≡ owns_of old ++ replicate (length made.0) None =
    ap owns_of all ∙ map-append own_bytes old made.0 ∙ ap (λ l. owns_of old ++ l) (nothing_each step gives f made.0 made.1 made.3) in
    ap (λ l. get_or l k None) owns ∙ past_nothing (owns_of old) (length made.0) k

-- what stands over a block, block by block
pub slice_get-overlaid : (given : List (List ℕ)) (owns : List (Option (List ℕ))) (k : ℕ) → slice_get (overlaid given owns) k ≡ option_map (λ g. record { given = g; overlay = get_or owns k None }) (slice_get given k)
slice_get-overlaid [] owns k = refl
slice_get-overlaid (g ∷ gs) [] zero = refl
slice_get-overlaid (g ∷ gs) [] (suc k) = slice_get-overlaid gs [] k
slice_get-overlaid (g ∷ gs) (o ∷ os) zero = refl
slice_get-overlaid (g ∷ gs) (o ∷ os) (suc k) = slice_get-overlaid gs os k

pub overlay_at : (given : List (List ℕ)) (owns : List (Option (List ℕ))) (k : ℕ) → length owns ≤ length given → (get_or (overlaid given owns) k no_block).overlay ≡ get_or owns k None
overlay_at [] [] k few = refl
overlay_at [] (o ∷ os) k few = absurd (omega arith)
overlay_at (g ∷ gs) [] zero few = refl
overlay_at (g ∷ gs) [] (suc k) few = overlay_at gs [] k (omega arith)
overlay_at (g ∷ gs) (o ∷ os) zero few = refl
overlay_at (g ∷ gs) (o ∷ os) (suc k) few = overlay_at gs os k (omega arith)

pub length-overlaid : (given : List (List ℕ)) (owns : List (Option (List ℕ))) → length (overlaid given owns) ≡ length given
length-overlaid [] owns = refl
length-overlaid (g ∷ gs) [] = ap suc (length-overlaid gs [])
length-overlaid (g ∷ gs) (o ∷ os) = ap suc (length-overlaid gs os)

-- before the first write
pub overlaid-nil : (given : List (List ℕ)) → overlaid given [] ≡ map as_given given
overlaid-nil [] = refl
overlaid-nil (g ∷ gs) = ap (λ l. as_given g ∷ l) (overlaid-nil gs)

-- the same stands over each block
pub overlaid-same : (given : List (List ℕ)) (a b : List (Option (List ℕ))) → ((k : ℕ) → get_or a k None ≡ get_or b k None) → overlaid given a ≡ overlaid given b
overlaid-same [] a b same = refl
overlaid-same (g ∷ gs) [] [] same = refl
overlaid-same (g ∷ gs) [] (y ∷ b) same = let first : None ≡ y = same 0 in λ i. record { given = g; overlay = first i } ∷ overlaid-same gs [] b (λ k. same (suc k)) i
overlaid-same (g ∷ gs) (x ∷ a) [] same = let first : x ≡ None = same 0 in λ i. record { given = g; overlay = first i } ∷ overlaid-same gs a [] (λ k. same (suc k)) i
overlaid-same (g ∷ gs) (x ∷ a) (y ∷ b) same = let first : x ≡ y = same 0 in λ i. record { given = g; overlay = first i } ∷ overlaid-same gs a b (λ k. same (suc k)) i

-- after a write
pub overlaid-set : (given : List (List ℕ)) (owns : List (Option (List ℕ))) (k : ℕ) (own : Option (List ℕ)) → k < length owns
    → overlaid given (set owns k own) ≡ set (overlaid given owns) k (record (get_or (overlaid given owns) k no_block) { overlay = own })
overlaid-set [] owns k own within = refl
overlaid-set (g ∷ gs) [] k own within = absurd (omega arith)
overlaid-set (g ∷ gs) (o ∷ os) zero own within = refl
overlaid-set (g ∷ gs) (o ∷ os) (suc k) own within = ap (λ l. (record { given = g; overlay = o }) ∷ l) (overlaid-set gs os k own (omega arith))
