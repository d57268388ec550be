-- A loop that changes the items of a list one after the other: those so far are as they are to be, the others as they were.
use Rattle.std.proofs.Common.{◌≡◌, ℕ, ◌+◌, ◌<◌, ◌≤◌, List, [], ◌∷◌, ◌++◌, length, take, drop, get_or, set, ap, sym, ◌∙◌, refl, arith}
use Rattle.std.proofs.lemmas.List.{length-set, take_more_set, take_more, take_all, get_or-drop, drop-set-lt, drop-drop}

pub record SoFar {A : Type 0} (k : ℕ) (now old goal : List A) : Type 0 where
  pub done : take k now ≡ take k goal
  pub rest : drop k now ≡ drop k old
  pub same : length now ≡ length old
  pub all : length goal ≡ length old

-- before the first turn
pub SoFar-zero : {A : Type 0} (old goal : List A) → length goal ≡ length old → SoFar 0 old old goal
SoFar-zero old goal all = record { done = refl; rest = refl; same = refl; all = all }

-- the item at a turn is as it was
pub item-same : {A : Type 0} (k : ℕ) (now old goal : List A) (d : A) → SoFar k now old goal → get_or now k d ≡ get_or old k d
item-same k now old goal d s =
    let plus : k + 0 ≡ k = omega arith in
    ap (λ i. get_or now i d) (sym plus) ∙ sym (get_or-drop k now 0 d) ∙ ap (λ xs. get_or xs 0 d) s.rest ∙ get_or-drop k old 0 d ∙ ap (λ i. get_or old i d) plus

-- the turn is done
pub SoFar-suc : {A : Type 0} (k : ℕ) (now old goal : List A) (x d : A) → k < length old → SoFar k now old goal → x ≡ get_or goal k d → SoFar (k + 1) (set now k x) old goal
SoFar-suc k now old goal x d there s is =
    let same = s.same in
    let all = s.all in record {
      done = take_more_set now k x (omega arith) ∙ ap (λ xs. xs ++ x ∷ []) s.done ∙ ap (λ y. take k goal ++ y ∷ []) is ∙ sym (take_more goal k d (omega arith));
      rest = drop-set-lt (k + 1) now k x (omega arith) ∙ sym (drop-drop 1 k now) ∙ ap (λ xs. drop 1 xs) s.rest ∙ drop-drop 1 k old;
      same = length-set now k x ∙ same;
      all = all;
    }

-- a turn that leaves its item
pub SoFar-skip : {A : Type 0} (k : ℕ) (now old goal : List A) (d : A) → k < length old → SoFar k now old goal → get_or old k d ≡ get_or goal k d → SoFar (k + 1) now old goal
SoFar-skip k now old goal d there s is =
    let same = s.same in
    let all = s.all in record {
      done = take_more now k d (omega arith) ∙ ap (λ xs. xs ++ get_or now k d ∷ []) s.done ∙ ap (λ y. take k goal ++ y ∷ []) (item-same k now old goal d s ∙ is) ∙ sym (take_more goal k d (omega arith));
      rest = sym (drop-drop 1 k now) ∙ ap (λ xs. drop 1 xs) s.rest ∙ drop-drop 1 k old;
      same = same;
      all = all;
    }

-- after the last turn
pub SoFar-end : {A : Type 0} (k : ℕ) (now old goal : List A) → length old ≤ k → SoFar k now old goal → now ≡ goal
SoFar-end k now old goal past s =
    let same = s.same in
    let all = s.all in
    sym (take_all k now (omega arith)) ∙ s.done ∙ take_all k goal (omega arith)
