-- What an owner's calls keep.
use Rattle.std.proofs.Common.{◌≡◌, ◌≢◌, ℕ, ◌+◌, ◌<◌, ◌≤◌, ◌==◌, Bool, true, false, if◌then◌else◌, List, [], ◌∷◌, ◌++◌, length, set, slice_get, slice_index_or, Some, vec_capacity, refl, sym, ap, ◌∙◌, subst, arith, eqb-true, length-set}
use Rattle.std.specs.Prelude.{Vec}
use Rattle.std.specs.List.{All}
use Rattle.std.specs.declared.alloc.Global.{Global}
use Rattle.std.proofs.lemmas.List.{length_push}
use Rattle.std.proofs.lemmas.List.Elements.{All-push, All-head, All-tail, All-weaker}
use Rattle.run_balance.specs.Logs.{Logged}
use Rattle.run_balance.specs.Rule.{Takes}
use Rattle.run_balance.specs.Shares.{Share, whose_at, share_at}
use Rattle.run_balance.specs.Sides.{Deque, side_at, side_log, side_dealt, IsSide, items_from, one_below, IsPart}
use Rattle.run_balance.specs.Owners.{number_of, reached_of, stretch_of, taken_from, log_of, total_of, IsInTurn, AreInLine, IsOwner}
use Rattle.run_balance.specs.declared.owner.Owner.{Owner}
use Rattle.run_balance.specs.declared.side.Side.{Side}
use Rattle.run_balance.specs.declared.side.Side.TheVariants.{Spent}
use Rattle.run_balance.specs.declared.task.Task.TheVariants.{Item, End}
use Rattle.run_balance.proofs.Numbers.{below_is, below_not, below_other, by_one, set_here, set_else}
use Rattle.run_balance.proofs.Parts.{few_items, sum_to_less, length_all, from_here, from_else, part_item, part_end}

-- ---- room

pub room_left : (deques : List Deque) (line : List Share) (owners : ℕ) (o : Owner) (d item ends : ℕ) (w : Logged) → IsOwner deques line owners o → d < length deques
    → IsPart (share_at line d) ends (taken_from d o ++ item ∷ []) w
    → (length o.taken.items < vec_capacity o.taken) × (length o.from.items < vec_capacity o.from)
room_left deques line owners o d item ends w is less part =
    let n = length line in
    let lens = λ (e : ℕ). length (taken_from e o) in
    let most = λ (e : ℕ). length (share_at line e) in
    let many = is.many in
    let one : lens d < most d = (let few = few_items (share_at line d) ends (taken_from d o ++ item ∷ []) w part in let l = length_push (taken_from d o) item in omega arith) in
    let all = sum_to_less n lens most d
    (λ e inside. few_items (share_at line e) (one_below e (reached_of o (whose_at line e))) (taken_from e o) (log_of o e) (is.parts e (let z : e < length deques = omega arith in z))) (let z : d < n = omega arith in z) one in
    let same = length_all n o.from.items o.taken.items is.both (subst (λ (k : ℕ). All (λ (e : ℕ). e < k) o.from.items) (sym many) is.froms) in
    let room = is.room in let room' = is.room_from in let both = is.both in
    ((let r : length o.taken.items < vec_capacity o.taken = omega arith in r), (let r : length o.from.items < vec_capacity o.from = omega arith in r))

-- ---- the line of one processor's deques

low_after : (b : Bool) (e low r : ℕ) → (b ≡ true → e ≤ r) → low ≤ r → (if b then e else low) ≤ r
low_after true e low r own less = own refl
low_after false e low r own less = less

in_line_more : (line : List Share) (number low : ℕ) (froms : List ℕ) (d r : ℕ) → AreInLine line number low froms → All (λ (e : ℕ). whose_at line e ≡ number → e ≤ r) froms → low ≤ r → (whose_at line d ≡ number → r ≤ d)
    → AreInLine line number low (froms ++ d ∷ [])
in_line_more line number low [] d r in_line so_far less after = ((λ (own : whose_at line d ≡ number). let a = after own in let z : low ≤ d = omega arith in z), tt)
in_line_more line number low (e ∷ froms) d r in_line so_far less after =
    let P = λ (e : ℕ). whose_at line e ≡ number → e ≤ r in (
      in_line.0,
      in_line_more line number (if whose_at line e == number then e else low) froms d r in_line.1 (All-tail P e froms so_far)
          (low_after (whose_at line e == number) e low r (λ is. All-head P e froms so_far (eqb-true (whose_at line e) number is)) less) after,
    )

-- ---- the calls

-- what a call changes: of one deque what the owner has, knows and got
pub record Moves (deques : List Deque) (line : List Share) (owners : ℕ) (old : Owner) (d : ℕ) (side : Side) (reached taken from : List ℕ) : Type 0 where
  pub inside : d < length deques
  pub is_side : (q : Deque) → slice_get deques d ≡ Some q → IsSide q (share_at line d) owners (number_of old) side
  pub part : IsPart (share_at line d) (one_below d (slice_index_or reached (whose_at line d) 0)) (items_from d from taken) (side_log side)
  pub turn : whose_at line d ≡ number_of old → IsInTurn (share_at line d) d (slice_index_or reached (number_of old) 0) (side_dealt side)
  pub reached_all : length reached ≡ length old.reached.items
  pub ends : (e : ℕ) → e ≢ d → one_below e (slice_index_or reached (whose_at line e) 0) ≡ one_below e (reached_of old (whose_at line e))
  pub turns : (e dealt : ℕ) → e ≢ d → IsInTurn (share_at line e) e (stretch_of old) dealt → IsInTurn (share_at line e) e (slice_index_or reached (number_of old) 0) dealt
  pub items : (e : ℕ) → e ≢ d → items_from e from taken ≡ taken_from e old
  pub both : length from ≡ length taken
  pub froms : All (λ (e : ℕ). e < length deques) from
  pub in_line : (p : ℕ) → AreInLine line p 0 from
  pub so_far : All (λ (e : ℕ). e ≤ slice_index_or reached (whose_at line e) 0) from

pub moved : (deques : List Deque) (line : List Share) (owners : ℕ) (old : Owner) (d : ℕ) (side : Side) (reached : Vec ℕ Global) (sides : Vec Side Global) (taken from : Vec ℕ Global)
    → IsOwner deques line owners old → Moves deques line owners old d side reached.items taken.items from.items → sides.items ≡ set old.sides.items d side
    → vec_capacity taken ≡ vec_capacity old.taken → vec_capacity from ≡ vec_capacity old.from
    → IsOwner deques line owners (record old { reached = reached; sides = sides; taken = taken; from = from })
moved deques line owners old d side reached sides taken from is m set_is capacity capacity_from =
    let all = is.sides_all in
    let there = m.inside in
    let here : side_at sides.items d ≡ side = set_here old.sides.items sides.items d side Spent set_is (let z : d < length old.sides.items = omega arith in z) in
    let else_ = λ (e : ℕ) (apart : e ≢ d). set_else old.sides.items sides.items d e side Spent set_is apart in
    let number = number_of old in record {
      many = is.many;
      number = is.number;
      reached_all = m.reached_all ∙ is.reached_all;
      sides_all = ap length set_is ∙ length-set old.sides.items d side ∙ is.sides_all;
      whose = is.whose;
      sides = by_one (λ e. (q : Deque) → slice_get deques e ≡ Some q → IsSide q (share_at line e) owners number (side_at sides.items e)) d
          (λ q at. subst (λ (s : Side). IsSide q (share_at line d) owners number s) (sym here) (m.is_side q at))
          (λ e apart q at. subst (λ (s : Side). IsSide q (share_at line e) owners number s) (sym (else_ e apart)) (is.sides e q at));
      parts = by_one (λ e. e < length deques → IsPart (share_at line e) (one_below e (slice_index_or reached.items (whose_at line e) 0)) (items_from e from.items taken.items) (side_log (side_at sides.items e))) d
          (λ _. subst (λ (s : Side). IsPart (share_at line d) (one_below d (slice_index_or reached.items (whose_at line d) 0)) (items_from d from.items taken.items) (side_log s)) (sym here) m.part)
          (λ e apart less. subst (λ (x : ℕ × List ℕ × Side). IsPart (share_at line e) x.0 x.1 (side_log x.2)) (λ i. (sym (m.ends e apart) i, sym (m.items e apart) i, sym (else_ e apart) i)) (is.parts e less));
      in_turn = by_one (λ e. e < length deques → whose_at line e ≡ number → IsInTurn (share_at line e) e (slice_index_or reached.items number 0) (side_dealt (side_at sides.items e))) d
          (λ _ own. subst (λ (s : Side). IsInTurn (share_at line d) d (slice_index_or reached.items number 0) (side_dealt s)) (sym here) (m.turn own))
          (λ e apart less own. subst (λ (s : Side). IsInTurn (share_at line e) e (slice_index_or reached.items number 0) (side_dealt s)) (sym (else_ e apart))
          (m.turns e (side_dealt (side_at old.sides.items e)) apart (is.in_turn e less own)));
      both = m.both;
      froms = m.froms;
      in_line = m.in_line;
      so_far = m.so_far;
      room = subst (λ (n : ℕ). total_of line ≤ n) (sym capacity) is.room;
      room_from = subst (λ (n : ℕ). total_of line ≤ n) (sym capacity_from) is.room_from;
    }

-- its part in a deque by its side
pub side_part : (deques : List Deque) (line : List Share) (owners : ℕ) (o : Owner) (d : ℕ) (side : Side) → IsOwner deques line owners o → d < length deques → side_at o.sides.items d ≡ side
    → IsPart (share_at line d) (one_below d (reached_of o (whose_at line d))) (taken_from d o) (side_log side)
side_part deques line owners o d side is less at = subst (λ (s : Side). IsPart (share_at line d) (one_below d (reached_of o (whose_at line d))) (taken_from d o) (side_log s)) at (is.parts d less)

-- room for an item that was taken
pub item_room : (deques : List Deque) (line : List Share) (owners : ℕ) (o : Owner) (d : ℕ) (side later : Side) (item : ℕ) → IsOwner deques line owners o → d < length deques → side_at o.sides.items d ≡ side → Takes (side_log side) (Item item) (side_log later)
    → (length o.taken.items < vec_capacity o.taken) × (length o.from.items < vec_capacity o.from)
item_room deques line owners o d side later item is less at takes =
    let ends = one_below d (reached_of o (whose_at line d)) in
    room_left deques line owners o d item ends (side_log later) is less (part_item (share_at line d) ends (taken_from d o) (side_log side) (side_log later) item (side_part deques line owners o d side is less at) takes)

-- an item was taken
pub item_taken : (deques : List Deque) (line : List Share) (owners : ℕ) (o : Owner) (d : ℕ) (side later : Side) (sides : Vec Side Global) (taken from : Vec ℕ Global) (item : ℕ) → IsOwner deques line owners o → d < length deques
    → side_at o.sides.items d ≡ side → Takes (side_log side) (Item item) (side_log later) → ((q : Deque) → slice_get deques d ≡ Some q → IsSide q (share_at line d) owners (number_of o) later) → side_dealt later ≡ side_dealt side
    → reached_of o (whose_at line d) ≡ d → sides.items ≡ set o.sides.items d later
    → taken.items ≡ o.taken.items ++ item ∷ [] → from.items ≡ o.from.items ++ d ∷ [] → vec_capacity taken ≡ vec_capacity o.taken → vec_capacity from ≡ vec_capacity o.from
    → IsOwner deques line owners (record o { sides = sides; taken = taken; from = from })
item_taken deques line owners o d side later sides taken from item is less at takes is_side dealt first s t f capacity capacity_from =
    let ends = one_below d (reached_of o (whose_at line d)) in
    let P = λ (e : ℕ). e < length deques in
    let Q = λ (e : ℕ). e ≤ reached_of o (whose_at line e) in
    moved deques line owners o d later o.reached sides taken from is (record {
      inside = less;
      is_side = is_side;
      part = subst (λ (l : List ℕ). IsPart (share_at line d) ends l (side_log later)) (sym ((λ i. items_from d (f i) (t i)) ∙ from_here o.from.items o.taken.items d item is.both))
          (part_item (share_at line d) ends (taken_from d o) (side_log side) (side_log later) item (side_part deques line owners o d side is less at) takes);
      turn = λ mine. subst (λ (n : ℕ). IsInTurn (share_at line d) d (stretch_of o) n) (ap side_dealt at ∙ sym dealt) (is.in_turn d less mine);
      reached_all = refl;
      ends = λ e apart. refl;
      turns = λ e x apart turn. turn;
      items = λ e apart. (λ i. items_from e (f i) (t i)) ∙ from_else e o.from.items o.taken.items d item apart is.both;
      both = let a = ap length t in let b = ap length f in let x = length_push o.taken.items item in let y = length_push o.from.items d in let z = is.both in omega arith;
      froms = subst (All P) (sym f) (All-push P o.from.items d is.froms less);
      in_line = λ p. subst (AreInLine line p 0) (sym f) (in_line_more line p 0 o.from.items d (reached_of o p) (is.in_line p)
          (All-weaker Q (λ (e : ℕ). whose_at line e ≡ p → e ≤ reached_of o p) (λ (e : ℕ) (b : Q e) (mine : whose_at line e ≡ p). subst (λ (w : ℕ). e ≤ reached_of o w) mine b) o.from.items is.so_far) (omega arith)
          (λ (mine : whose_at line d ≡ p). let e = ap (reached_of o) mine in let z : reached_of o p ≤ d = omega (arith, e, first) in z));
      so_far = subst (All Q) (sym f) (All-push Q o.from.items d is.so_far (let z : d ≤ reached_of o (whose_at line d) = omega (arith, first) in z));
    }) s capacity capacity_from

-- a stretch turned out to be over
pub end_taken : (deques : List Deque) (line : List Share) (owners : ℕ) (o : Owner) (d p : ℕ) (side later : Side) (sides : Vec Side Global) (reached : Vec ℕ Global) → IsOwner deques line owners o → d < length deques
    → side_at o.sides.items d ≡ side → Takes (side_log side) End (side_log later) → ((q : Deque) → slice_get deques d ≡ Some q → IsSide q (share_at line d) owners (number_of o) later) → side_dealt later ≡ side_dealt side
    → whose_at line d ≡ p → p < owners → reached_of o p ≡ d → (whose_at line d ≡ number_of o → side_dealt side ≡ length (share_at line d)) → sides.items ≡ set o.sides.items d later → reached.items ≡ set o.reached.items p (d + 1)
    → IsOwner deques line owners (record o { reached = reached; sides = sides })
end_taken deques line owners o d p side later sides reached is less at takes is_side dealt whose few was whole s r =
    let all = is.reached_all in
    let here : slice_index_or reached.items p 0 ≡ d + 1 = set_here o.reached.items reached.items p (d + 1) 0 r (let z : p < length o.reached.items = omega arith in z) in
    let else_ = λ (w : ℕ) (apart : w ≢ p). set_else o.reached.items reached.items p w (d + 1) 0 r apart in
    let number = number_of o in
    let now : reached_of o (whose_at line d) ≡ d = ap (reached_of o) whose ∙ was in
    let later_now : slice_index_or reached.items (whose_at line d) 0 ≡ d + 1 = ap (λ (w : ℕ). slice_index_or reached.items w 0) whose ∙ here in
    let Q = λ (e : ℕ). e ≤ reached_of o (whose_at line e) in
    let R = λ (e : ℕ). e ≤ slice_index_or reached.items (whose_at line e) 0 in
    let grows = λ (v : ℕ). by_one (λ w. reached_of o w ≤ slice_index_or reached.items w 0) p (let z : reached_of o p ≤ slice_index_or reached.items p 0 = omega arith in z)
    (λ w apart. let e = else_ w apart in let z : reached_of o w ≤ slice_index_or reached.items w 0 = omega arith in z) v in
    moved deques line owners o d later reached sides o.taken o.from is (record {
      inside = less;
      is_side = is_side;
      part = subst (λ (n : ℕ). IsPart (share_at line d) n (taken_from d o) (side_log later)) (sym (below_is d (slice_index_or reached.items (whose_at line d) 0) (let z : d < slice_index_or reached.items (whose_at line d) 0 = omega arith in z)))
          (part_end (share_at line d) (taken_from d o) (side_log side) (side_log later)
          (subst (λ (n : ℕ). IsPart (share_at line d) n (taken_from d o) (side_log side)) (below_not d (reached_of o (whose_at line d)) (let z : reached_of o (whose_at line d) ≤ d = omega arith in z)) (side_part deques line owners o d side is less at)) takes);
      turn = λ mine. record {
        over = λ _. dealt ∙ whole mine;
        ahead = λ past. absurd (let e = ap (λ (w : ℕ). slice_index_or reached.items w 0) (sym mine) in omega arith);
      };
      reached_all = ap length r ∙ length-set o.reached.items p (d + 1);
      ends = λ e apart. by_one (λ w. one_below e (slice_index_or reached.items w 0) ≡ one_below e (reached_of o w)) p (below_other d e (slice_index_or reached.items p 0) (reached_of o p) apart here was)
          (λ w other. ap (one_below e) (else_ w other)) (whose_at line e);
      turns = λ e x apart turn. by_one (λ w. IsInTurn (share_at line e) e (reached_of o w) x → IsInTurn (share_at line e) e (slice_index_or reached.items w 0) x) p
          (λ turn. record {
            over = λ past. turn.over (let z : e < reached_of o p = omega arith in z);
            ahead = λ past. turn.ahead (let z : reached_of o p < e = omega arith in z);
          })
          (λ w other turn. subst (λ (n : ℕ). IsInTurn (share_at line e) e n x) (sym (else_ w other)) turn) number turn;
      items = λ e apart. refl;
      both = is.both;
      froms = is.froms;
      in_line = is.in_line;
      so_far = All-weaker Q R (λ (e : ℕ) (b : Q e). let a = grows (whose_at line e) in let z : e ≤ slice_index_or reached.items (whose_at line e) 0 = omega (arith, a, b) in z) o.from.items is.so_far;
    }) s refl refl

-- its side of a deque is another, which knows as much of what was taken
pub side_changed : (deques : List Deque) (line : List Share) (owners : ℕ) (o : Owner) (d : ℕ) (side later : Side) (sides : Vec Side Global) → IsOwner deques line owners o → d < length deques
    → side_at o.sides.items d ≡ side → ((ends : ℕ) (items : List ℕ) → IsPart (share_at line d) ends items (side_log side) → IsPart (share_at line d) ends items (side_log later))
    → ((q : Deque) → slice_get deques d ≡ Some q → IsSide q (share_at line d) owners (number_of o) later)
    → (whose_at line d ≡ number_of o → IsInTurn (share_at line d) d (stretch_of o) (side_dealt side) → IsInTurn (share_at line d) d (stretch_of o) (side_dealt later))
    → sides.items ≡ set o.sides.items d later → IsOwner deques line owners (record o { sides = sides })
side_changed deques line owners o d side later sides is less at part is_side turn s =
    moved deques line owners o d later o.reached sides o.taken o.from is (record {
      inside = less;
      is_side = is_side;
      part = part (one_below d (reached_of o (whose_at line d))) (taken_from d o) (side_part deques line owners o d side is less at);
      turn = λ mine. turn mine (subst (λ (s : Side). IsInTurn (share_at line d) d (stretch_of o) (side_dealt s)) at (is.in_turn d less mine));
      reached_all = refl;
      ends = λ e apart. refl;
      turns = λ e x apart turn. turn;
      items = λ e apart. refl;
      both = is.both;
      froms = is.froms;
      in_line = is.in_line;
      so_far = is.so_far;
    }) s refl refl
