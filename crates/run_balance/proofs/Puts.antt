-- What is put into a deque.
use Rattle.std.proofs.Common.{◌≡◌, ℕ, ◌+◌, ◌<◌, Bool, if◌then◌else◌, List, [], ◌∷◌, ◌++◌, length, map, take, replicate, slice_get, Some, refl, ap, ◌∙◌, arith, eq-eqb, ne_eqb, append-nil}
use Rattle.std.proofs.lemmas.List.{take_more, length-take-le, map-append, length-map}
use Rattle.std.proofs.lemmas.List.Sums.{sum_by-append, sum_by-cons}
use Rattle.std.proofs.lemmas.List.Folds.{sum_by-replicate}
use Rattle.std.proofs.lemmas.Option.{slice_get_within, get_or_from_slice_get}
use Rattle.run_balance.specs.Logs.{mark_of, marks}
use Rattle.run_balance.specs.Sides.{put_of}
use Rattle.run_balance.specs.declared.task.Task.TheVariants.{Item, End}

pub put_less : (share : List ℕ) (dealt owners : ℕ) → dealt < length share → put_of share dealt owners ≡ map Item (take dealt share)
put_less share dealt owners less =
    ap (λ (b : Bool). map Item (take dealt share) ++ (if b then replicate owners End else [])) (ne_eqb dealt (length share) (λ e. absurd (omega arith))) ∙ append-nil (map Item (take dealt share))

pub put_all : (share : List ℕ) (dealt owners : ℕ) → dealt ≡ length share → put_of share dealt owners ≡ map Item (take dealt share) ++ replicate owners End
put_all share dealt owners all = ap (λ (b : Bool). map Item (take dealt share) ++ (if b then replicate owners End else [])) (eq-eqb dealt (length share) all)

pub length_put_less : (share : List ℕ) (dealt owners : ℕ) → dealt < length share → length (put_of share dealt owners) ≡ dealt
length_put_less share dealt owners less = ap length (put_less share dealt owners less) ∙ length-map (take dealt share) Item ∙ length-take-le dealt share (omega arith)

-- one more item
pub put_next : (share : List ℕ) (dealt : ℕ) (item : ℕ) → slice_get share dealt ≡ Some item → map Item (take (dealt + 1) share) ≡ map Item (take dealt share) ++ Item item ∷ []
put_next share dealt item at =
    ap (map Item) (take_more share dealt 0 (slice_get_within share dealt item at)) ∙ map-append Item (take dealt share) _
    ∙ ap (λ (x : ℕ). map Item (take dealt share) ++ Item x ∷ []) (get_or_from_slice_get share dealt item 0 at)

pub marks_items : (items : List ℕ) → marks (map Item items) ≡ 0
marks_items [] = refl
marks_items (x ∷ items) = let rest = marks_items items in let a = sum_by-cons mark_of (Item x) (map Item items) in omega arith

pub marks_all : (share : List ℕ) (dealt owners : ℕ) → dealt ≡ length share → marks (put_of share dealt owners) ≡ owners
marks_all share dealt owners all =
    ap marks (put_all share dealt owners all) ∙ sum_by-append mark_of (map Item (take dealt share)) (replicate owners End)
    ∙ (let a = marks_items (take dealt share) in let b = sum_by-replicate mark_of owners End in omega arith)
