-- Where no page has a move, none waits for a processor and none is ready.
use Rattle.std.proofs.Common.{◌≡◌, ℕ, false, List, Option, Some, None, refl}
use Rattle.std.specs.Option.{is_some}
use Rattle.private_machine.specs.Backing.{Page, Move, page_at}
use Rattle.pmap_table.specs.PageMap.{is_moving}
use Rattle.pmap_table.specs.Tracking.{waits_in, ready_in, waits_for, is_ready, HoldsNowhere}

still-waits : (p : ℕ) (m : Option Move) → is_some m ≡ false → waits_in p m ≡ false
still-waits p None is = refl
still-waits p (Some m) is = cc

still-ready : (m : Option Move) → is_some m ≡ false → ready_in m ≡ false
still-ready None is = refl
still-ready (Some m) is = cc

pub none-wait : (pages : List Page) (p : ℕ) → HoldsNowhere is_moving pages → HoldsNowhere (waits_for p) pages
none-wait pages p none = λ q. still-waits p (page_at pages q).move (none q)

pub none-ready : (pages : List Page) → HoldsNowhere is_moving pages → HoldsNowhere is_ready pages
none-ready pages none = λ q. still-ready (page_at pages q).move (none q)
