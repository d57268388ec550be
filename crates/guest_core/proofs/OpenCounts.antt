-- How many pages have a move, and what room is left for a guest's calls.
use Rattle.std.proofs.Common.{◌≡◌, ℕ, zero, suc, ◌+◌, ◌-◌, ◌≤◌, min, cond, List, [], ◌∷◌, Option, get_or, set, refl, sym, ap, ◌∙◌, arith}
use Rattle.std.specs.Prelude.{count_by, is_some}
use Rattle.std.specs.Vec.{vec_len, vec_capacity}
use Rattle.std.proofs.lemmas.List.Sums.{sum_by-cons, sum_by-set}
use Rattle.base_words.specs.declared.moves.By.{By}
use Rattle.base_words.specs.declared.moves.MoveKind.{MoveKind}
use Rattle.private_machine.specs.Backing.{Move, Page, no_page}
use Rattle.private_machine.specs.PageMove.{begun}
use Rattle.pmap_table.specs.PageMap.{is_moving}
use Rattle.isolation_law.specs.GuestState.{GuestState, page}
use Rattle.isolation_law.specs.MoveRows.{Begins}
use Rattle.isolation_law.specs.PacketRows.{Receives}
use Rattle.guest_course.specs.declared.course.Course.{Course}
use Rattle.guest_core.specs.GuestView.{open_count, calls_room}

-- ---- how many pages have a move

abbrev one-if : Page → ℕ
one-if g = cond (is_moving g) 1 0

count-cons : (g : Page) (l : List Page) → count_by is_moving (g ∷ l) ≡ one-if g + count_by is_moving l
count-cons g l = sum_by-cons one-if g l

count-alike : (l : List Page) (q : ℕ) (new : Page) → new.move ≡ (get_or l q no_page).move → count_by is_moving (set l q new) ≡ count_by is_moving l
count-alike [] q new is = refl
count-alike (x ∷ l) zero new is = count-cons new l ∙ ap (λ (m : Option Move). cond {A = ℕ} (is_some m) 1 0 + count_by is_moving l) is ∙ sym (count-cons x l)
count-alike (x ∷ l) (suc q) new is = count-cons x (set l q new) ∙ ap (λ (n : ℕ). one-if x + n) (count-alike l q new is) ∙ sym (count-cons x l)

pub open-more : (s t : GuestState) (q : ℕ) (kind : MoveKind) (node : ℕ) (by : By) → Begins s q kind node by t → open_count t ≡ suc (open_count s)
open-more s t q kind node by row =
    let at = sum_by-set one-if s.pages q (begun row.change (page s q)) no_page row.is_page in
    let before : one-if (page s q) ≡ 0 = ap (λ (m : Option Move). cond {A = ℕ} (is_some m) 1 0) row.rests in
    let after : open_count t ≡ count_by is_moving (set s.pages q (begun row.change (page s q))) = ap open_count row.after in
    let now : one-if (begun row.change (page s q)) ≡ 1 = refl in
    omega (arith, at, before, after, now)

pub open-received : (s t : GuestState) (k : ℕ) → Receives s k t → open_count t ≡ open_count s
open-received s t k row = ap open_count row.after ∙ count-alike s.pages row.q _ refl

-- ---- what room there is

less-of : (a b a' b' : ℕ) → a ≤ a' + 1 → b ≤ b' + 1 → min a b ≤ min a' b' + 1
less-of a b a' b' x y = omega (arith, x, y)

-- room for one of each is used at most
pub calls-less : (c d : Course) → c.devs.print_room ≤ d.devs.print_room + 1 → c.devs.send_room ≤ d.devs.send_room + 1
    → vec_capacity c.sent_from - vec_len c.sent_from ≤ (vec_capacity d.sent_from - vec_len d.sent_from) + 1
    → vec_capacity c.received - vec_len c.received ≤ (vec_capacity d.received - vec_len d.received) + 1
    → vec_capacity c.discarded - vec_len c.discarded ≤ (vec_capacity d.discarded - vec_len d.discarded) + 1
    → c.pmap.room ≤ d.pmap.room + 1 → vec_capacity c.skips - vec_len c.skips ≤ (vec_capacity d.skips - vec_len d.skips) + 1 → calls_room c ≤ calls_room d + 1
calls-less c d print send cells received discarded begins skips =
    less-of _ _ _ _ (less-of _ _ _ _ print send) (less-of _ _ _ _ (less-of _ _ _ _ cells (less-of _ _ _ _ received discarded)) (less-of _ _ _ _ begins skips))

pub no-less : (a b : ℕ) → b ≡ a → a ≤ b + 1
no-less a b is = omega (arith, is)
