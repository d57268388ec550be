-- The room that is left for a guest's calls.
use Rattle.std.proofs.Common.{◌≡◌, ℕ, ◌+◌, ◌-◌, ◌*◌, ◌<◌, ◌≤◌, min, sym, subst, arith}
use Rattle.std.specs.Global.{Vec}
use Rattle.std.specs.Vec.{vec_len, vec_capacity}
use Rattle.guest_course.specs.declared.course.Course.{Course}
use Rattle.guest_course.specs.CourseView.{state_of}
use Rattle.guest_core.specs.GuestView.{calls_room, entries_due, room_of}

-- ---- what room there is

-- room for two entries is there beside that for each that is still to come
pub two-entries : (room due calls : ℕ) → 2 ≤ min (room - due) (2 * calls) → due + 2 ≤ room
two-entries room due calls lt = omega (arith, lt)

pub some-call : (room due calls : ℕ) → 2 ≤ min (room - due) (2 * calls) → 0 < calls
some-call room due calls lt = omega (arith, lt)

-- there is room for one call of each kind
pub record HasRoom (c : Course) : Type 0 where
  pub print_room : 0 < c.devs.print_room
  pub send_room : 0 < c.devs.send_room
  pub cells : vec_len c.sent_from < vec_capacity c.sent_from
  pub received : vec_len c.received < vec_capacity c.received
  pub discarded : vec_len c.discarded < vec_capacity c.discarded
  pub begins : 0 < c.pmap.room
  pub skips : vec_len c.skips < vec_capacity c.skips

either : (a b : ℕ) → 0 < min a b → (0 < a) × (0 < b)
either a b lt = (omega (arith, lt), omega (arith, lt))

below : (a b : ℕ) → 0 < a - b → b < a
below a b lt = omega (arith, lt)

pub has-room : (free : ℕ) (c : Course) → 2 ≤ room_of free c → HasRoom c
has-room free c room =
    let all = either _ _ (some-call free (entries_due (state_of c)) (calls_room c) room) in
    let devs = either _ _ all.0 in
    let lists = either _ _ all.1 in
    let packets = either _ _ lists.0 in
    let comes = either _ _ packets.1 in
    let moves = either _ _ lists.1 in
    record {
      print_room = devs.0;
      send_room = devs.1;
      cells = below _ _ packets.0;
      received = below _ _ comes.0;
      discarded = below _ _ comes.1;
      begins = moves.0;
      skips = below _ _ moves.1;
    }

-- ---- what a call uses of it

least-used : (a b a' b' : ℕ) → a ≤ a' + 1 → b ≤ b' + 1 → min a b ≤ min a' b' + 1
least-used a b a' b' x y = omega (arith, x, y)

least-kept : (a b a' b' : ℕ) → a ≤ a' → b ≤ b' → min a b ≤ min a' b'
least-kept a b a' b' x y = omega (arith, x, y)

-- what stays is as much
still : {A : Type 0} (size : A → ℕ) (x y : A) → y ≡ x → size x ≤ size y
still size x y same = subst (λ z. size x ≤ size z) (sym same) (omega arith)

one-at-most : {A : Type 0} (size : A → ℕ) (x y : A) → y ≡ x → size x ≤ size y + 1
one-at-most size x y same = subst (λ z. size x ≤ size z + 1) (sym same) (omega arith)

-- of a list that stays no place is used
pub no-more : {A : Type 0} (x y : Vec A) → y ≡ x → vec_capacity x - vec_len x ≤ (vec_capacity y - vec_len y) + 1
no-more x y same = one-at-most (λ v. vec_capacity v - vec_len v) x y same

-- of each kind one place at most is used
pub record UsesCall (c d : Course) : Type 0 where
  pub print_room : c.devs.print_room ≤ d.devs.print_room + 1
  pub send_room : c.devs.send_room ≤ d.devs.send_room + 1
  pub cells : vec_capacity c.sent_from - vec_len c.sent_from ≤ (vec_capacity d.sent_from - vec_len d.sent_from) + 1
  pub received : vec_capacity c.received - vec_len c.received ≤ (vec_capacity d.received - vec_len d.received) + 1
  pub discarded : vec_capacity c.discarded - vec_len c.discarded ≤ (vec_capacity d.discarded - vec_len d.discarded) + 1
  pub begins : c.pmap.room ≤ d.pmap.room + 1
  pub skips : vec_capacity c.skips - vec_len c.skips ≤ (vec_capacity d.skips - vec_len d.skips) + 1

-- none is used
pub record KeepsCalls (c d : Course) : Type 0 where
  pub print_room : d.devs.print_room ≡ c.devs.print_room
  pub send_room : d.devs.send_room ≡ c.devs.send_room
  pub cells : d.sent_from ≡ c.sent_from
  pub received : d.received ≡ c.received
  pub discarded : d.discarded ≡ c.discarded
  pub begins : c.pmap.room ≤ d.pmap.room
  pub skips : d.skips ≡ c.skips

calls-used : (c d : Course) → UsesCall c d → calls_room c ≤ calls_room d + 1
calls-used c d u = least-used _ _ _ _ (least-used _ _ _ _ u.print_room u.send_room) (least-used _ _ _ _ (least-used _ _ _ _ u.cells (least-used _ _ _ _ u.received u.discarded)) (least-used _ _ _ _ u.begins u.skips))

calls-kept : (c d : Course) → KeepsCalls c d → calls_room c ≤ calls_room d
calls-kept c d k =
    least-kept _ _ _ _ (least-kept _ _ _ _ (omega (arith, k.print_room)) (omega (arith, k.send_room)))
    (least-kept _ _ _ _ (least-kept _ _ _ _ (still (λ v. vec_capacity v - vec_len v) _ _ k.cells) (least-kept _ _ _ _ (still (λ v. vec_capacity v - vec_len v) _ _ k.received) (still (λ v. vec_capacity v - vec_len v) _ _ k.discarded)))
    (least-kept _ _ _ _ k.begins (still (λ v. vec_capacity v - vec_len v) _ _ k.skips)))

pub less-room : (room due calls room' due' calls' : ℕ) → room + due' ≤ room' + due + 2 → calls ≤ calls' + 1 → min (room - due) (2 * calls) ≤ min (room' - due') (2 * calls') + 2
less-room room due calls room' due' calls' a b = omega (arith, a, b)

same-room : (room due calls room' due' calls' : ℕ) → room + due' ≤ room' + due → calls ≤ calls' → min (room - due) (2 * calls) ≤ min (room' - due') (2 * calls')
same-room room due calls room' due' calls' a b = omega (arith, a, b)

-- two entries are made at most, or one after which one more is still to come
pub room-used : (room room' : ℕ) (c d : Course) → UsesCall c d → room + entries_due (state_of d) ≤ room' + entries_due (state_of c) + 2 → room_of room c ≤ room_of room' d + 2
room-used room room' c d u entries = less-room room (entries_due (state_of c)) (calls_room c) room' (entries_due (state_of d)) (calls_room d) entries (calls-used c d u)

-- an entry is made that was still to come
pub room-kept : (room room' : ℕ) (c d : Course) → KeepsCalls c d → room + entries_due (state_of d) ≤ room' + entries_due (state_of c) → room_of room c ≤ room_of room' d
room-kept room room' c d k entries = same-room room (entries_due (state_of c)) (calls_room c) room' (entries_due (state_of d)) (calls_room d) entries (calls-kept c d k)

-- where none is used, one is used at most
pub as-used : (c d : Course) → KeepsCalls c d → UsesCall c d
as-used c d k =
    record {
      print_room = omega (arith, k.print_room);
      send_room = omega (arith, k.send_room);
      cells = one-at-most (λ v. vec_capacity v - vec_len v) _ _ k.cells;
      received = one-at-most (λ v. vec_capacity v - vec_len v) _ _ k.received;
      discarded = one-at-most (λ v. vec_capacity v - vec_len v) _ _ k.discarded;
      begins = omega (arith, k.begins);
      skips = one-at-most (λ v. vec_capacity v - vec_len v) _ _ k.skips;
    }
