-- What an owner's calls do, by its sides.
use Rattle.std.proofs.Common.{◌≡◌, ◌≢◌, ℕ, zero, suc, ◌+◌, ◌<◌, ◌≤◌, List, [], ◌∷◌, ◌++◌, length, map, take, set, slice_get, slice_index_or, Some, vec_capacity, refl, sym, ap, ◌∙◌, subst, arith, ⊎_elim}
use Rattle.std.specs.Prelude.{Vec}
use Rattle.std.specs.declared.alloc.Global.{Global}
use Rattle.crossbeam_deque.specs.Handles.{view, IsPassOf, SamePass, worker_view, worker_deque}
use Rattle.run_balance.specs.Logs.{Logged, marks_got}
use Rattle.run_balance.specs.Rule.{Takes}
use Rattle.run_balance.specs.Ends.{Seat}
use Rattle.run_balance.specs.Shares.{Share, flat, whose_at, share_at}
use Rattle.run_balance.specs.Sides.{DequeId, Deque, side_at, side_log, side_dealt, IsStretch, IsSide, IsPart}
use Rattle.run_balance.specs.Owners.{number_of, reached_of, stretch_of, dealt_of, IsInTurn, IsOwner, IsOf, items_now, TookOwn, FoundNone}
use Rattle.run_balance.specs.declared.owner.Owner.{Owner}
use Rattle.run_balance.specs.declared.side.Stretch.{Stretch}
use Rattle.run_balance.specs.declared.side.Side.{Side}
use Rattle.run_balance.specs.declared.side.Side.TheVariants.{Own, Other, Spent}
use Rattle.run_balance.specs.declared.task.Task.{Task}
use Rattle.run_balance.specs.declared.task.Task.TheVariants.{Item, End}
use Rattle.run_balance.proofs.Numbers.{past_or, below_not, set_here, set_else, some_there}
use Rattle.run_balance.proofs.Parts.{part_put}
use Rattle.run_balance.proofs.Puts.{put_less}
use Rattle.run_balance.proofs.Owning.{side_part, item_taken, end_taken, side_changed}

-- ---- sides

same_pass : (id : DequeId) (seat later : Seat) → SamePass seat later → IsPassOf id seat → IsPassOf id later
same_pass id seat later same is = (same.0 ∙ is.0, same.1 ∙ is.1, same.3, same.4)

side_own : (q : Deque) (share : List ℕ) (owners number : ℕ) (side : Side) → IsSide q share owners number side → q.whose ≡ number → (s : Stretch) × (side ≡ Own s)
side_own q share owners number (Own s) is mine = (s, refl)
side_own q share owners number (Other seat) is mine = absurd (is.0 mine)
side_own q share owners number Spent is mine = absurd is

-- it has an end of each of its own deques
pub own_there : (deques : List Deque) (line : List Share) (owners : ℕ) (o : Owner) (d : ℕ) → IsOwner deques line owners o → d < length deques → whose_at line d ≡ number_of o → (s : Stretch) × (side_at o.sides.items d ≡ Own s)
own_there deques line owners o d is less mine =
    let q = some_there deques d less in side_own q.0 (share_at line d) owners (number_of o) (side_at o.sides.items d) (is.sides d q.0 q.1) ((is.whose d q.0 q.1).0 ∙ mine)

pub own_side : (deques : List Deque) (line : List Share) (owners : ℕ) (o : Owner) (d : ℕ) (s : Stretch) → IsOwner deques line owners o → d < length deques → side_at o.sides.items d ≡ Own s
    → (whose_at line d ≡ number_of o) × IsStretch (share_at line d) owners s
own_side deques line owners o d s is less at =
    let q = some_there deques d less in
    let side = subst (IsSide q.0 (share_at line d) owners (number_of o)) at (is.sides d q.0 q.1) in
    (sym (is.whose d q.0 q.1).0 ∙ side.0, side.2)

-- a deque that isn't over gave no mark
pub no_mark : (deques : List Deque) (line : List Share) (owners : ℕ) (o : Owner) (d : ℕ) (side : Side) → IsOwner deques line owners o → d < length deques → side_at o.sides.items d ≡ side → reached_of o (whose_at line d) ≤ d
    → marks_got (side_log side).got < (side_log side).parts
no_mark deques line owners o d side is less at le =
    let part = side_part deques line owners o d side is less at in
    let none = part.marks_are ∙ below_not d (reached_of o (whose_at line d)) le in
    let one = part.parts in
    omega arith

-- its own end once it has taken something
own_later : (q : Deque) (share : List ℕ) (owners number : ℕ) (s later : Stretch) → IsSide q share owners number (Own s) → worker_deque later.dealer ≡ worker_deque s.dealer → IsStretch share owners later → IsSide q share owners number (Own later)
own_later q share owners number s later is deque is_later = (is.0, deque ∙ is.1, is_later)

-- and a pass
seat_later : (q : Deque) (share : List ℕ) (owners number : ℕ) (seat later : Seat) → IsSide q share owners number (Other seat) → IsPassOf q.id later → (view later).deals ≡ (view seat).deals → IsSide q share owners number (Other later)
seat_later q share owners number seat later is pass deals = (is.0, pass, deals ∙ is.2)

-- ---- its own

no_end : (items : List ℕ) (place : ℕ) → slice_get (map Item items) place ≡ Some End → ⊥
no_end [] place at = cc
no_end (x ∷ items) zero at = cc
no_end (x ∷ items) (suc place) at = no_end items place at

-- who took a mark of its own has dealt all
pub end_whole : (share : List ℕ) (owners : ℕ) (s : Stretch) (w : Logged) → IsStretch share owners s → Takes (worker_view s.dealer) End w → s.dealt ≡ length share
end_whole share owners s w is takes =
    ⊎_elim (λ (less : s.dealt < length share). absurd (no_end (take s.dealt share) takes.place
    (sym (ap (λ (l : List Task). slice_get l takes.place) (is.dealer.put ∙ put_less share s.dealt owners less)) ∙ takes.put is.dealer.deals)))
    (λ (past : length share ≤ s.dealt). let e = is.dealt in let z : s.dealt ≡ length share = omega arith in z) (past_or s.dealt (length share))

pub next_item : (deques : List Deque) (line : List Share) (owners : ℕ) (o : Owner) (d : ℕ) (s later : Stretch) (sides : Vec Side Global) (taken from : Vec ℕ Global) (item : ℕ) → IsOwner deques line owners o → d < length deques
    → side_at o.sides.items d ≡ Own s → d ≡ stretch_of o → ((share : List ℕ) (owners : ℕ) → IsStretch share owners s → IsStretch share owners later) → later.dealt ≡ s.dealt → worker_deque later.dealer ≡ worker_deque s.dealer
    → Takes (worker_view s.dealer) (Item item) (worker_view later.dealer) → sides.items ≡ set o.sides.items d (Own later)
    → taken.items ≡ o.taken.items ++ item ∷ [] → from.items ≡ o.from.items ++ d ∷ [] → vec_capacity taken ≡ vec_capacity o.taken → vec_capacity from ≡ vec_capacity o.from
    → IsOwner deques line owners (record o { sides = sides; taken = taken; from = from })
next_item deques line owners o d s later sides taken from item is less at now keeps dealt deque takes set_is t f capacity capacity_from =
    let own = own_side deques line owners o d s is less at in
    item_taken deques line owners o d (Own s) (Own later) sides taken from item is less at takes
    (λ q there. own_later q (share_at line d) owners (number_of o) s later (subst (IsSide q (share_at line d) owners (number_of o)) at (is.sides d q there)) deque (keeps (share_at line d) owners own.1))
    dealt (ap (reached_of o) own.0 ∙ sym now) set_is t f capacity capacity_from

pub next_end : (deques : List Deque) (line : List Share) (owners : ℕ) (o : Owner) (d : ℕ) (s later : Stretch) (sides : Vec Side Global) (reached : Vec ℕ Global) → IsOwner deques line owners o → d < length deques
    → side_at o.sides.items d ≡ Own s → d ≡ stretch_of o → ((share : List ℕ) (owners : ℕ) → IsStretch share owners s → IsStretch share owners later) → later.dealt ≡ s.dealt → worker_deque later.dealer ≡ worker_deque s.dealer
    → Takes (worker_view s.dealer) End (worker_view later.dealer) → sides.items ≡ set o.sides.items d (Own later) → reached.items ≡ set o.reached.items (number_of o) (d + 1)
    → IsOwner deques line owners (record o { reached = reached; sides = sides })
next_end deques line owners o d s later sides reached is less at now keeps dealt deque takes set_is r =
    let own = own_side deques line owners o d s is less at in
    end_taken deques line owners o d (number_of o) (Own s) (Own later) sides reached is less at takes
    (λ q there. own_later q (share_at line d) owners (number_of o) s later (subst (IsSide q (share_at line d) owners (number_of o)) at (is.sides d q there)) deque (keeps (share_at line d) owners own.1))
    dealt own.0 is.number (sym now) (λ _. end_whole (share_at line d) owners s (worker_view later.dealer) own.1 takes) set_is r

pub next_none : (deques : List Deque) (line : List Share) (owners : ℕ) (o : Owner) (d : ℕ) (s later : Stretch) (sides : Vec Side Global) → IsOwner deques line owners o → d < length deques
    → side_at o.sides.items d ≡ Own s → ((share : List ℕ) (owners : ℕ) → IsStretch share owners s → IsStretch share owners later) → later.dealt ≡ s.dealt → worker_deque later.dealer ≡ worker_deque s.dealer
    → worker_view later.dealer ≡ worker_view s.dealer → sides.items ≡ set o.sides.items d (Own later)
    → IsOwner deques line owners (record o { sides = sides })
next_none deques line owners o d s later sides is less at keeps dealt deque view_is set_is =
    let own = own_side deques line owners o d s is less at in
    side_changed deques line owners o d (Own s) (Own later) sides is less at
    (λ ends items part. subst (IsPart (share_at line d) ends items) (sym view_is) part)
    (λ q there. own_later q (share_at line d) owners (number_of o) s later (subst (IsSide q (share_at line d) owners (number_of o)) at (is.sides d q there)) deque (keeps (share_at line d) owners own.1))
    (λ _ turn. subst (λ (n : ℕ). IsInTurn (share_at line d) d (stretch_of o) n) (sym dealt) turn) set_is

-- it dealt an item
pub deal_item : (deques : List Deque) (line : List Share) (owners : ℕ) (o : Owner) (d : ℕ) (s later : Stretch) (sides : Vec Side Global) (put : List Task) → IsOwner deques line owners o → d < length deques
    → side_at o.sides.items d ≡ Own s → d ≡ stretch_of o → IsStretch (share_at line d) owners later → worker_deque later.dealer ≡ worker_deque s.dealer
    → worker_view later.dealer ≡ record (worker_view s.dealer) { put = put } → sides.items ≡ set o.sides.items d (Own later)
    → IsOwner deques line owners (record o { sides = sides })
deal_item deques line owners o d s later sides put is less at now is_later deque view_is set_is =
    side_changed deques line owners o d (Own s) (Own later) sides is less at
    (λ ends items part. part_put (share_at line d) ends items (worker_view s.dealer) (worker_view later.dealer) put part view_is)
    (λ q there. own_later q (share_at line d) owners (number_of o) s later (subst (IsSide q (share_at line d) owners (number_of o)) at (is.sides d q there)) deque is_later)
    (λ _ turn. record { over = λ past. absurd (omega arith); ahead = λ past. absurd (omega arith) }) set_is

-- nothing changes
pub same_side : (deques : List Deque) (line : List Share) (owners : ℕ) (o : Owner) (d : ℕ) (side : Side) (sides : Vec Side Global) → IsOwner deques line owners o → d < length deques → side_at o.sides.items d ≡ side → sides.items ≡ set o.sides.items d side
    → IsOwner deques line owners (record o { sides = sides })
same_side deques line owners o d side sides is less at set_is =
    side_changed deques line owners o d side side sides is less at (λ ends items part. part)
    (λ q there. subst (IsSide q (share_at line d) owners (number_of o)) at (is.sides d q there)) (λ _ turn. turn) set_is

-- ---- its own, as it is told

-- how much is dealt of the stretch at which it is
pub dealt_there : (o : Owner) (d : ℕ) (s : Stretch) → side_at o.sides.items d ≡ Own s → d ≡ stretch_of o → dealt_of o ≡ s.dealt
dealt_there o d s at now = ap (λ (e : ℕ). side_dealt (side_at o.sides.items e)) (sym now) ∙ ap side_dealt at

pub dealt_later : (o : Owner) (d : ℕ) (later : Stretch) (sides : List Side) → d < length o.sides.items → d ≡ stretch_of o → sides ≡ set o.sides.items d (Own later) → side_dealt (side_at sides (stretch_of o)) ≡ later.dealt
dealt_later o d later sides less now set_is = ap (λ (e : ℕ). side_dealt (side_at sides e)) (sym now) ∙ ap side_dealt (set_here o.sides.items sides d (Own later) Spent set_is less)

side_ahead : (q : Deque) (share : List ℕ) (owners number : ℕ) (side : Side) → IsSide q share owners number side → (q.whose ≡ number → side_dealt side ≡ 0) → side_dealt side ≡ 0
side_ahead q share owners number (Own s) is none = none is.0
side_ahead q share owners number (Other seat) is none = refl
side_ahead q share owners number Spent is none = refl

pub past_side : (sides : List Side) (d : ℕ) → length sides ≤ d → side_at sides d ≡ Spent
past_side [] d less = refl
past_side (s ∷ sides) zero less = absurd (omega arith)
past_side (s ∷ sides) (suc d) less = past_side sides d (omega arith)

-- nothing is dealt of what is ahead
pub none_ahead : (deques : List Deque) (line : List Share) (owners : ℕ) (o : Owner) (d : ℕ) → IsOwner deques line owners o → stretch_of o < d → side_dealt (side_at o.sides.items d) ≡ 0
none_ahead deques line owners o d is past =
    ⊎_elim (λ (less : d < length deques). let q = some_there deques d less in
    side_ahead q.0 (share_at line d) owners (number_of o) (side_at o.sides.items d) (is.sides d q.0 q.1) (λ mine. (is.in_turn d less (sym (is.whose d q.0 q.1).0 ∙ mine)).ahead past))
    (λ (beyond : length deques ≤ d). ap side_dealt (past_side o.sides.items d (let e = is.sides_all in omega arith))) (past_or d (length deques))

pub took_own : (o new : Owner) (d : ℕ) (s later : Stretch) (item : ℕ) → side_at o.sides.items d ≡ Own s → d < length o.sides.items → d ≡ stretch_of o → later.dealt ≡ s.dealt → new.sides.items ≡ set o.sides.items d (Own later)
    → new.number ≡ o.number → new.reached ≡ o.reached → new.taken.items ≡ o.taken.items ++ item ∷ [] → new.from.items ≡ o.from.items ++ d ∷ [] → TookOwn item o new
took_own o new d s later item at less now dealt set_is number reached t f =
    let stays : stretch_of new ≡ stretch_of o = (λ i. slice_index_or (reached i).items (number i).0 0) in record {
      got = record { taken = t; from = f ∙ ap (λ (e : ℕ). o.from.items ++ e ∷ []) now };
      same = record {
        number = ap (λ n. n.0) number;
        stretch = stays;
        dealt = ap (λ (e : ℕ). side_dealt (side_at new.sides.items e)) stays ∙ dealt_later o d later new.sides.items less now set_is ∙ dealt ∙ sym (dealt_there o d s at now);
      };
      knows = record { reached = reached };
    }

pub found_end : (deques : List Deque) (shares : List (List (List ℕ))) (o new : Owner) (d : ℕ) (s later : Stretch) (w : Logged) → IsOf deques shares o → d < length deques → side_at o.sides.items d ≡ Own s → d ≡ stretch_of o
    → Takes (worker_view s.dealer) End w → new.sides.items ≡ set o.sides.items d (Own later) → new.number ≡ o.number → new.reached.items ≡ set o.reached.items (number_of o) (d + 1) → new.taken ≡ o.taken → new.from ≡ o.from → FoundNone shares o new
found_end deques shares o new d s later w is less at now takes set_is number r t f =
    let line = flat shares in
    let owners = length shares in
    let own = own_side deques line owners o d s is less at in
    let all = is.reached_all in
    let few = is.number in
    let many = is.many in
    let here : stretch_of new ≡ d + 1 = ap (λ n. slice_index_or new.reached.items n.0 0) number ∙ set_here o.reached.items new.reached.items (number_of o) (d + 1) 0 r (let z : number_of o < length o.reached.items = omega arith in z) in
    let whole : dealt_of o ≡ length (items_now shares o) = dealt_there o d s at now ∙ end_whole (share_at line d) owners s w own.1 takes ∙ ap (λ (e : ℕ). length (share_at line e)) now in
    record {
      got = record { taken = ap (λ v. v.items) t; from = ap (λ v. v.items) f };
      number = ap (λ n. n.0) number;
      over = λ work all. (
        here ∙ ap (λ (e : ℕ). e + 1) now,
        ap (λ (e : ℕ). side_dealt (side_at new.sides.items e)) here ∙ ap side_dealt (set_else o.sides.items new.sides.items d (d + 1) (Own later) Spent set_is (λ e. absurd (omega arith))) ∙ none_ahead deques line owners o (d + 1) is (omega arith),
      );
      waits = λ not. absurd (not (record { inside = omega arith; own = ap (whose_at line) (sym now) ∙ own.0 }) whole);
    }

pub found_none : (deques : List Deque) (shares : List (List (List ℕ))) (o new : Owner) (d : ℕ) (s later : Stretch) → IsOf deques shares o → d < length deques → side_at o.sides.items d ≡ Own s → d ≡ stretch_of o
    → ((share : List ℕ) (owners : ℕ) → IsStretch share owners s → s.dealt ≢ length share) → later.dealt ≡ s.dealt → new.sides.items ≡ set o.sides.items d (Own later) → new.number ≡ o.number → new.reached ≡ o.reached → new.taken ≡ o.taken → new.from ≡ o.from
    → FoundNone shares o new
found_none deques shares o new d s later is less at now part dealt set_is number reached t f =
    let line = flat shares in
    let owners = length shares in
    let own = own_side deques line owners o d s is less at in
    let stays : stretch_of new ≡ stretch_of o = (λ i. slice_index_or (reached i).items (number i).0 0) in
    let all = is.sides_all in
    record {
      got = record { taken = ap (λ v. v.items) t; from = ap (λ v. v.items) f };
      number = ap (λ n. n.0) number;
      over = λ work whole. absurd (part (share_at line d) owners own.1 (sym (dealt_there o d s at now) ∙ whole ∙ ap (λ (e : ℕ). length (share_at line e)) (sym now)));
      waits = λ not. (
        record {
          number = ap (λ n. n.0) number;
          stretch = stays;
          dealt = ap (λ (e : ℕ). side_dealt (side_at new.sides.items e)) stays ∙ dealt_later o d later new.sides.items (let z : d < length o.sides.items = omega arith in z) now set_is ∙ dealt ∙ sym (dealt_there o d s at now);
        },
        record { reached = reached },
      );
    }

-- it is at no stretch of its own
pub found_past : (deques : List Deque) (shares : List (List (List ℕ))) (o new : Owner) (d : ℕ) (side : Side) → IsOf deques shares o → d < length deques → side_at o.sides.items d ≡ side → ((s : Stretch) → side ≢ Own s) → d ≡ stretch_of o
    → new.sides.items ≡ set o.sides.items d side → new.number ≡ o.number → new.reached ≡ o.reached → new.taken ≡ o.taken → new.from ≡ o.from → FoundNone shares o new
found_past deques shares o new d side is less at other now set_is number reached t f =
    let line = flat shares in
    let stays : stretch_of new ≡ stretch_of o = (λ i. slice_index_or (reached i).items (number i).0 0) in
    let all = is.sides_all in
    record {
      got = record { taken = ap (λ v. v.items) t; from = ap (λ v. v.items) f };
      number = ap (λ n. n.0) number;
      over = λ work whole. absurd (let s = own_there deques line (length shares) o d is less (ap (whose_at line) now ∙ work.own) in other s.0 (sym at ∙ s.1));
      waits = λ not. (
        record {
          number = ap (λ n. n.0) number;
          stretch = stays;
          dealt = ap (λ (e : ℕ). side_dealt (side_at new.sides.items e)) (stays ∙ sym now) ∙ ap side_dealt (set_here o.sides.items new.sides.items d side Spent set_is (let z : d < length o.sides.items = omega arith in z)) ∙ ap side_dealt (sym at)
              ∙ ap (λ (e : ℕ). side_dealt (side_at o.sides.items e)) now;
        },
        record { reached = reached },
      );
    }

-- ---- another's

pub seat_item : (deques : List Deque) (line : List Share) (owners : ℕ) (o : Owner) (d : ℕ) (seat later : Seat) (sides : Vec Side Global) (taken from : Vec ℕ Global) (item : ℕ) → IsOwner deques line owners o → d < length deques
    → side_at o.sides.items d ≡ Other seat → SamePass seat later → Takes (view seat) (Item item) (view later) → sides.items ≡ set o.sides.items d (Other later) → reached_of o (whose_at line d) ≡ d
    → taken.items ≡ o.taken.items ++ item ∷ [] → from.items ≡ o.from.items ++ d ∷ [] → vec_capacity taken ≡ vec_capacity o.taken → vec_capacity from ≡ vec_capacity o.from
    → IsOwner deques line owners (record o { sides = sides; taken = taken; from = from })
seat_item deques line owners o d seat later sides taken from item is less at same takes set_is first t f capacity capacity_from =
    item_taken deques line owners o d (Other seat) (Other later) sides taken from item is less at takes
    (λ q there. let side = subst (IsSide q (share_at line d) owners (number_of o)) at (is.sides d q there) in seat_later q (share_at line d) owners (number_of o) seat later side (same_pass q.id seat later same side.1) (ap (λ (v : Logged). v.deals) takes.is))
    refl first set_is t f capacity capacity_from

pub seat_end : (deques : List Deque) (line : List Share) (owners : ℕ) (o : Owner) (d p : ℕ) (seat later : Seat) (sides : Vec Side Global) (reached : Vec ℕ Global) → IsOwner deques line owners o → d < length deques
    → side_at o.sides.items d ≡ Other seat → SamePass seat later → Takes (view seat) End (view later) → sides.items ≡ set o.sides.items d (Other later) → whose_at line d ≡ p → p < owners → p ≢ number_of o → reached_of o p ≡ d
    → reached.items ≡ set o.reached.items p (d + 1) → IsOwner deques line owners (record o { reached = reached; sides = sides })
seat_end deques line owners o d p seat later sides reached is less at same takes set_is whose few apart was r =
    end_taken deques line owners o d p (Other seat) (Other later) sides reached is less at takes
    (λ q there. let side = subst (IsSide q (share_at line d) owners (number_of o)) at (is.sides d q there) in seat_later q (share_at line d) owners (number_of o) seat later side (same_pass q.id seat later same side.1) (ap (λ (v : Logged). v.deals) takes.is))
    refl whose few was (λ mine. absurd (apart (sym whose ∙ mine))) set_is r

pub seat_none : (deques : List Deque) (line : List Share) (owners : ℕ) (o : Owner) (d : ℕ) (seat later : Seat) (sides : Vec Side Global) → IsOwner deques line owners o → d < length deques
    → side_at o.sides.items d ≡ Other seat → SamePass seat later → view later ≡ view seat → sides.items ≡ set o.sides.items d (Other later) → IsOwner deques line owners (record o { sides = sides })
seat_none deques line owners o d seat later sides is less at same view_is set_is =
    side_changed deques line owners o d (Other seat) (Other later) sides is less at (λ ends items part. subst (IsPart (share_at line d) ends items) (sym view_is) part)
    (λ q there. let side = subst (IsSide q (share_at line d) owners (number_of o)) at (is.sides d q there) in seat_later q (share_at line d) owners (number_of o) seat later side (same_pass q.id seat later same side.1) (ap (λ (v : Logged). v.deals) view_is))
    (λ _ turn. turn) set_is
