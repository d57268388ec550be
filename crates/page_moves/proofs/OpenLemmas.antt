-- What is told of the open move of a page.
use Rattle.std.proofs.Common.{◌≡◌, ℕ, suc, zero, ◌&&◌, Bool, true, false, not, List, [], ◌∷◌, Option, Some, None, refl}
use Rattle.base_words.specs.Membership.{HasNone}
use Rattle.private_machine.specs.Backing.{Move, page_at}
use Rattle.pmap_table.specs.PageMap.{PageMap}
use Rattle.pmap_table.specs.Tracking.{nobody, is_taking, waits_in, ready_in, waits_for, is_ready}
use Rattle.page_moves.specs.Ending.{Awaits, IsReady}

-- a page that waits for a processor has a move that does
awaits-move : (m : PageMap) (q p : ℕ) (move : Option Move) → (page_at m.pages q).move ≡ move → waits_in p move ≡ true → Awaits m q p
awaits-move m q p None is waits = cc
awaits-move m q p (Some x) is waits = record { move = x; has = is; waits = waits }

pub awaits-of : (m : PageMap) (q p : ℕ) → waits_for p (page_at m.pages q) ≡ true → Awaits m q p
awaits-of m q p waits = awaits-move m q p (page_at m.pages q).move refl waits

-- a page that is ready has a move that waits for nobody
nobody-none : (waiting : List Bool) → nobody waiting ≡ true → HasNone waiting
nobody-none [] is n = refl
nobody-none (true ∷ waiting) is n = cc
nobody-none (false ∷ waiting) is zero = refl
nobody-none (false ∷ waiting) is (suc n) = nobody-none waiting is n

both : (a b : Bool) → (a && b) ≡ true → b ≡ true
both true b is = is
both false b is = cc

ready-move : (m : PageMap) (q : ℕ) (move : Option Move) → (page_at m.pages q).move ≡ move → ready_in move ≡ true → IsReady m q
ready-move m q None is ready = cc
ready-move m q (Some x) is ready = record { move = x; has = is; nobody = nobody-none x.waiting (both (not (is_taking x.change)) (nobody x.waiting) ready) }

pub ready-of : (m : PageMap) (q : ℕ) → is_ready (page_at m.pages q) ≡ true → IsReady m q
ready-of m q ready = ready-move m q (page_at m.pages q).move refl ready
