-- A move isn't begun: the plan asked for it, or the policy.
use Rattle.std.specs.Prelude.{◌≡◌, ℕ, ◌<◌, Bool, true, false, [], ◌∷◌, ◌++◌, length, None}
use Rattle.base_words.specs.declared.events.Event.{Event}
use Rattle.base_words.specs.declared.events.Event.TheVariants.{Direct, Refill, Emulate, Begin, Ack, Finish, Load, Unload, PacketIn, Discard, Skip, CellFails, End as Ending}
use Rattle.base_words.specs.declared.moves.By.{By}
use Rattle.base_words.specs.declared.moves.By.TheVariants.{Plan, Due, Step, Packet}
use Rattle.isolation_law.specs.Parts.{Wish, SkipEntry}
use Rattle.isolation_law.specs.GuestState.{GuestState, restarted}
use Rattle.isolation_law.specs.Causes.{IsCause}
use Rattle.isolation_law.specs.Dues.{cleared}
use Rattle.isolation_law.specs.MoveRows.{PlanAsks, DueAsks}
use Rattle.isolation_law.specs.Phases.{GoesOnOrLingers}

abbrev pub SkipAsked : GuestState → By → Wish → Type 0
SkipAsked s (Plan p) wish = PlanAsks s p.0 wish
SkipAsked s (Due p) wish = DueAsks s p.0 wish
SkipAsked s (Step p) wish = ⊥
SkipAsked s Packet wish = ⊥

-- the processor that asked
abbrev pub asker : By → ℕ
asker (Plan p) = p.0
asker (Due p) = p.0
asker (Step p) = p.0
asker Packet = 0

-- an entry tells of a move that isn't begun
abbrev pub is_skip : Event → Bool
is_skip (Load p v) = false
is_skip (Unload p) = false
is_skip (Direct p v) = false
is_skip (Refill p) = false
is_skip (Emulate p v) = false
is_skip (Begin q kind node by) = false
is_skip (Ack p q) = false
is_skip (Finish q) = false
is_skip (PacketIn k) = false
is_skip (Discard k) = false
is_skip (Skip k) = true
is_skip (CellFails c) = false
is_skip (Ending end) = false

-- what is left by a skip
abbrev pub with_skipped : GuestState → SkipEntry → GuestState
with_skipped s e = cleared e.wish.page (restarted e.wish.page (record s { skips = s.skips ++ e ∷ [] }))

-- Its cause is the first that holds.
pub record Skips (s : GuestState) (k : ℕ) (t : GuestState) : Type 0 where
  pub phase : GoesOnOrLingers s
  pub entry : SkipEntry
  pub in_range : s.end ≡ None → entry.wish.page < length s.pages
  pub asked : SkipAsked s entry.by entry.wish
  pub caused : IsCause s (asker entry.by) entry.wish entry.cause
  pub next : k ≡ length s.skips
  pub after : t ≡ with_skipped s entry
