-- How deques and owners are made.
use Rattle.std.specs.Prelude.{◌≡◌, ◌≢◌, ℕ, zero, suc, Vec, ◌+◌, ◌<◌, ◌≤◌, ◌==◌, if◌then◌else◌, Bool, List, [], length, Some, slice_get, slice_index_or, vec_capacity}
use Rattle.std.specs.declared.alloc.Global.{Global}
use Rattle.crossbeam_deque.specs.Handles.{view, IsPassOf, worker_deque, worker_view, worker_flavor, worker_index, worker_capacity}
use Rattle.run_balance.specs.Logs.{Logged, first_log, thief_log}
use Rattle.run_balance.specs.Ends.{Dealer}
use Rattle.run_balance.specs.Shares.{Share, whose_at, share_at, first_of}
use Rattle.run_balance.specs.Sides.{Deque, put_of, side_at}
use Rattle.run_balance.specs.Owners.{taken_by, from_of, number_of, IsFresh}
use Rattle.run_balance.specs.declared.making.Made.{Made}
use Rattle.run_balance.specs.declared.owner.Owner.{Owner}
use Rattle.run_balance.specs.declared.side.Stretch.{Stretch}
use Rattle.run_balance.specs.declared.side.Side.{Side}
use Rattle.run_balance.specs.declared.side.Side.TheVariants.{Own, Other, Spent}

-- what the dealer of a new deque knows, once so many passes are made
abbrev pub new_log : List ℕ → ℕ → ℕ → Logged
new_log share owners passes = record first_log { share = share; put = put_of share 0 owners; passes = passes }

-- a stretch of which nothing is dealt, with a new deque
pub record IsNew (share : List ℕ) (owners passes : ℕ) (s : Stretch) : Type 0 where
  pub count : s.count ≡ length share
  pub dealt : s.dealt ≡ 0
  pub view_is : worker_view s.dealer ≡ new_log share owners passes
  pub first : worker_flavor s.dealer ≡ 0
  pub index : worker_index s.dealer ≤ length (put_of share 0 owners)
  pub room : length share + owners ≤ worker_capacity s.dealer

pub record IsMade (line : List Share) (owners : ℕ) (passes : ℕ → ℕ) (d : ℕ) (m : Made) : Type 0 where
  pub whose : m.whose.0 ≡ whose_at line d
  pub new : IsNew (share_at line d) owners (passes (whose_at line d)) m.stretch

pub record AreMade (line : List Share) (owners : ℕ) (passes : ℕ → ℕ) (made : List Made) : Type 0 where
  pub long : length made ≡ length line
  pub each : (d : ℕ) (m : Made) → slice_get made d ≡ Some m → IsMade line owners passes d m

abbrev pub deque_made : Made → Deque
deque_made m = record { id = worker_deque m.stretch.dealer; whose = m.whose.0 }

abbrev pub count_made : Made → ℕ
count_made m = m.stretch.count

-- ---- passes

-- a pass of a deque, which has taken nothing
abbrev pub IsRowSide : Dealer → Side → Type 0
IsRowSide x (Own s) = ⊥
IsRowSide x (Other seat) = IsPassOf (worker_deque x) seat × (view seat ≡ thief_log (worker_view x).share)
IsRowSide x Spent = ⊥

-- none for the owner itself
abbrev pub one_else : Bool → ℕ
one_else b = if b then 0 else 1

-- a stretch, and what its dealer knows with one pass more, unless it is the owner's own
pub record Admitted (number : ℕ) (x y : Made) : Type 0 where
  pub whose : y.whose ≡ x.whose
  pub count : y.stretch.count ≡ x.stretch.count
  pub dealt : y.stretch.dealt ≡ x.stretch.dealt
  pub deque : worker_deque y.stretch.dealer ≡ worker_deque x.stretch.dealer
  pub first : worker_flavor y.stretch.dealer ≡ worker_flavor x.stretch.dealer
  pub index : worker_index y.stretch.dealer ≡ worker_index x.stretch.dealer
  pub room : worker_capacity x.stretch.dealer ≤ worker_capacity y.stretch.dealer
  pub view_is : worker_view y.stretch.dealer ≡ record (worker_view x.stretch.dealer) { passes = (worker_view x.stretch.dealer).passes + one_else (x.whose.0 == number) }

pub record AreAdmitted (number : ℕ) (old new : List Made) : Type 0 where
  pub long : length new ≡ length old
  pub each : (d : ℕ) (x y : Made) → slice_get old d ≡ Some x → slice_get new d ≡ Some y → Admitted number x y

-- an owner's passes of the deques of all others
pub record IsRow (number : ℕ) (made : List Made) (sides : List Side) : Type 0 where
  pub long : length sides ≡ length made
  pub each : (d : ℕ) (x : Made) → slice_get made d ≡ Some x → x.whose.0 ≢ number → IsRowSide x.stretch.dealer (side_at sides d)

-- how many passes a processor's deques have after so many rows: the dealer's, and one for each other owner
abbrev pub passes_after : ℕ → ℕ → ℕ
passes_after zero p = 1
passes_after (suc rows) p = passes_after rows p + one_else (p == rows)

-- the passes of the first owners
pub record AreRows (count : ℕ) (made : List Made) (rows : List (Vec Side Global)) : Type 0 where
  pub long : length rows ≡ count
  pub each : (i : ℕ) (row : Vec Side Global) → slice_get rows i ≡ Some row → IsRow i made row.items

-- ---- owners

-- where each processor's stretches begin
pub record AreFirsts (shares : List (List (List ℕ))) (firsts : List ℕ) : Type 0 where
  pub long : length firsts ≡ length shares
  pub each : (p : ℕ) → p < length shares → slice_index_or firsts p 0 ≡ first_of shares p

-- an owner with its passes alone
pub record IsBare (shares : List (List (List ℕ))) (most i : ℕ) (row : Vec Side Global) (o : Owner) : Type 0 where
  pub number : number_of o ≡ i
  pub firsts : AreFirsts shares o.reached.items
  pub sides : o.sides ≡ row
  pub taken : taken_by o ≡ []
  pub from : from_of o ≡ []
  pub room : most ≤ vec_capacity o.taken
  pub room_from : most ≤ vec_capacity o.from

pub record AreBare (shares : List (List (List ℕ))) (most : ℕ) (rows : List (Vec Side Global)) (owners : List Owner) : Type 0 where
  pub long : length owners ≡ length rows
  pub each : (i : ℕ) (row : Vec Side Global) (o : Owner) → slice_get rows i ≡ Some row → slice_get owners i ≡ Some o → IsBare shares most i row o

-- an owner, and with the first of all stretches put in place where they are its own
pub record IsPlaced (made : List Made) (count i : ℕ) (old new : Owner) : Type 0 where
  pub number : new.number ≡ old.number
  pub reached : new.reached ≡ old.reached
  pub taken : new.taken ≡ old.taken
  pub from : new.from ≡ old.from
  pub sides_all : length new.sides.items ≡ length old.sides.items
  pub own : (d : ℕ) (m : Made) → d < count → slice_get made d ≡ Some m → m.whose.0 ≡ i → side_at new.sides.items d ≡ Own m.stretch
  pub other : (d : ℕ) (m : Made) → slice_get made d ≡ Some m → m.whose.0 ≢ i → side_at new.sides.items d ≡ side_at old.sides.items d

pub record ArePlaced (made : List Made) (count : ℕ) (old new : List Owner) : Type 0 where
  pub long : length new ≡ length old
  pub each : (i : ℕ) (o p : Owner) → slice_get old i ≡ Some o → slice_get new i ≡ Some p → IsPlaced made count i o p

-- each stretch has its owner, who has a place for it
pub record HavePlaces (made : List Made) (owners : List Owner) : Type 0 where
  pub whose : (d : ℕ) (m : Made) → slice_get made d ≡ Some m → m.whose.0 < length owners
  pub sides : (i : ℕ) (o : Owner) → slice_get owners i ≡ Some o → length o.sides.items ≡ length made

-- owners of these deques that have dealt and got nothing
abbrev pub AreNewOwners : List Deque → List (List (List ℕ)) → List Owner → Type 0
AreNewOwners deques shares owners = (i : ℕ) (o : Owner) → slice_get owners i ≡ Some o → IsFresh deques shares i o
