-- The lots one by one.
use Rattle.std.proofs.Common.{◌≡◌, ◌≢◌, ℕ, zero, suc, ◌+◌, ◌≤◌, List, [], ◌∷◌, ◌++◌, length, take, drop, Some, refl, sym, ap, subst, arith}
use Rattle.std.specs.Prelude.{slice_get}
use Rattle.std.proofs.lemmas.Option.{none-some, same_Some}
use Rattle.base_words.specs.declared.frame.Frame.{Frame}
use Rattle.node_frames.specs.Layout.{Layout}
use Rattle.frame_words.specs.Holders.{MadeTable}
use Rattle.frame_words.specs.Splits.{named, frame_times, HasOnlyNamed}
use Rattle.frame_words.specs.Steps.{begun_with}
use Rattle.frame_words.specs.declared.view.View.{View}
use Rattle.node_frames.specs.Left.{Left}
use Rattle.boot_frames.specs.Claims.{home_of}
use Rattle.boot_frames.specs.Chain.{after_claim, after_claims}
use Rattle.boot_frames.specs.Loans.{loans_of}
use Rattle.boot_frames.specs.Lots.{Serves, ServesAll, times_given}
use Rattle.boot_frames.specs.declared.claims.Claim.{Claim}
use Rattle.boot_frames.specs.declared.lots.Lot.{Lot}

pub length-lots : (table : MadeTable) (layout : Layout) (left : Left) (cs : List Claim) (lots : List Lot) → ServesAll table layout left cs lots → length lots ≡ length cs
length-lots table layout left [] [] all = refl
length-lots table layout left [] (l ∷ ls) all = absurd all
length-lots table layout left (c ∷ cs) [] all = absurd all
length-lots table layout left (c ∷ cs) (l ∷ ls) all = let rest = length-lots table layout (after_claim layout c left) cs ls all.1 in omega arith

pub lot_at : (table : MadeTable) (layout : Layout) (left : Left) (cs : List Claim) (lots : List Lot) → ServesAll table layout left cs lots → (place : ℕ) (c : Claim) (lot : Lot)
    → slice_get cs place ≡ Some c → slice_get lots place ≡ Some lot → Serves table layout (after_claims layout (take place cs) left) c lot
lot_at table layout left [] lots all place c lot is at = absurd (none-some c is)
lot_at table layout left (d ∷ cs) [] all place c lot is at = absurd all
lot_at table layout left (d ∷ cs) (l ∷ ls) all zero c lot is at = subst (λ (x : Lot). Serves table layout left c x) (same_Some l lot at) (subst (λ (x : Claim). Serves table layout left x l) (same_Some d c is) all.0)
lot_at table layout left (d ∷ cs) (l ∷ ls) all (suc place) c lot is at = lot_at table layout (after_claim layout d left) cs ls all.1 place c lot is at

-- the lots of the first claims, and those of the claims behind them
pub lots_parts : (table : MadeTable) (layout : Layout) (left : Left) (cs ds : List Claim) (lots : List Lot) → ServesAll table layout left (cs ++ ds) lots
    → ServesAll table layout left cs (take (length cs) lots) × ServesAll table layout (after_claims layout cs left) ds (drop (length cs) lots)
lots_parts table layout left [] ds lots all = (tt, all)
lots_parts table layout left (c ∷ cs) ds [] all = absurd all
lots_parts table layout left (c ∷ cs) ds (l ∷ ls) all = let rest = lots_parts table layout (after_claim layout c left) cs ds ls all.1 in ((all.0, rest.0), rest.1)

-- one lot's frames are among all
pub times_lot : (lots : List Lot) (frame place : ℕ) (lot : Lot) → slice_get lots place ≡ Some lot → frame_times frame lot.frames ≤ times_given frame lots
times_lot [] frame place lot at = absurd (none-some lot at)
times_lot (l ∷ ls) frame zero lot at = let here : frame_times frame l.frames ≡ frame_times frame lot.frames = ap (λ (x : Lot). frame_times frame x.frames) (same_Some l lot at) in omega arith
times_lot (l ∷ ls) frame (suc place) lot at = let rest = times_lot ls frame place lot at in omega arith

pub times_two : (lots : List Lot) (frame place other : ℕ) (lot more : Lot) → slice_get lots place ≡ Some lot → slice_get lots other ≡ Some more → place ≢ other
    → frame_times frame lot.frames + frame_times frame more.frames ≤ times_given frame lots
times_two [] frame place other lot more at there apart = absurd (none-some lot at)
times_two (l ∷ ls) frame zero zero lot more at there apart = absurd (apart refl)
times_two (l ∷ ls) frame zero (suc other) lot more at there apart =
    let here : frame_times frame l.frames ≡ frame_times frame lot.frames = ap (λ (x : Lot). frame_times frame x.frames) (same_Some l lot at) in
    let rest = times_lot ls frame other more there in omega arith
times_two (l ∷ ls) frame (suc place) zero lot more at there apart =
    let here : frame_times frame l.frames ≡ frame_times frame more.frames = ap (λ (x : Lot). frame_times frame x.frames) (same_Some l more there) in
    let rest = times_lot ls frame place lot at in omega arith
times_two (l ∷ ls) frame (suc place) (suc other) lot more at there apart =
    let rest = times_two ls frame place other lot more at there (λ (e : place ≡ other). apart (ap suc e)) in omega arith

-- what a lot's holder holds, by what a new holder has that was begun with so much
abbrev pub Handed : Type 0
Handed = (frames : List Frame) (loans : List ℕ) → length loans ≤ 8 → HasOnlyNamed (begun_with (named frames loans)) frames loans

pub lot_named : Handed → (table : MadeTable) (layout : Layout) (left : Left) (c : Claim) (lot : Lot) → Serves table layout left c lot → HasOnlyNamed lot.holder.view lot.frames (loans_of layout (home_of layout c.taker) lot.frames)
lot_named handed table layout left c lot s =
    subst (λ (v : View). HasOnlyNamed v lot.frames (loans_of layout (home_of layout c.taker) lot.frames)) (sym s.holds)
    (handed lot.frames (loans_of layout (home_of layout c.taker) lot.frames) (omega arith))
