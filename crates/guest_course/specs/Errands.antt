-- What has to be done for moves of pages before a processor's step.
use Rattle.std.specs.Prelude.{◌≡◌, ℕ, Some, None}
use Rattle.base_words.specs.Membership.{HasNone}
use Rattle.private_machine.specs.Backing.{Move}
use Rattle.pmap_table.specs.PageMap.{PageMap}
use Rattle.pmap_table.specs.Tracking.{waits_for, is_ready, IsLowest, HoldsNowhere}
use Rattle.page_moves.specs.Ending.{Awaits, IsReady}
use Rattle.isolation_law.specs.GuestState.{GuestState, page}
use Rattle.guest_course.specs.declared.errands.Errand.{Errand}
use Rattle.guest_course.specs.declared.errands.Errand.TheVariants as errands

-- this page is the lowest that waits for the processor
pub record IsToAcknowledge (m : PageMap) (p q : ℕ) : Type 0 where
  pub lowest : IsLowest (waits_for p) m.pages q
  pub awaits : Awaits m q p

-- no page waits for the processor, and this one is the lowest that is ready
pub record IsToFinish (m : PageMap) (p q : ℕ) : Type 0 where
  pub nobody : HoldsNowhere (waits_for p) m.pages
  pub lowest : IsLowest is_ready m.pages q
  pub ready : IsReady m q

-- no page waits for the processor, and none is ready
pub record IsIdle (m : PageMap) (p : ℕ) : Type 0 where
  pub nobody : HoldsNowhere (waits_for p) m.pages
  pub none : HoldsNowhere is_ready m.pages

abbrev pub Calls : PageMap → ℕ → Errand → Type 0
Calls m p (errands.Acknowledge q) = IsToAcknowledge m p q.0
Calls m p (errands.Finish q) = IsToFinish m p q.0
Calls m p errands.Nothing = IsIdle m p

-- before its next step the processor can do nothing but wait: the page has a move that waits for somebody, though no page waits for
-- this processor
pub record MustWait (s : GuestState) (p q : ℕ) : Type 0 where
  pub not_ended : s.end ≡ None
  pub waits : (m : Move) × ((page s q).move ≡ Some m) × (HasNone m.waiting → ⊥)
  pub idle : HoldsNowhere (waits_for p) s.pages
