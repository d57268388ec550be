-- How a guest is asked for a packet before a turn.
use Rattle.std.specs.Prelude.{◌≡◌, ℕ, zero, suc, Result}
use Rattle.std.specs.declared.alloc.AllocError.{AllocError}
use Rattle.guest_core.specs.GuestView.{Monitored}
use Rattle.guest_core.specs.Making.{Stays}
use Rattle.guest_core.specs.PacketCalls.{TakesPacket}
use Rattle.guest_core.specs.declared.answers.Packeted.{Packeted}

-- a packet was let come in, whatever came of it, and nothing else changed
pub record HasCalled (old new : Monitored) : Type 0 where
  pub answer : Result Packeted AllocError
  pub mid : Monitored
  pub takes : TakesPacket old mid answer
  pub stays : Stays mid new
  pub passes : new.passes ≡ mid.passes

-- so it was so many times
abbrev pub HasCalledTimes : ℕ → Monitored → Monitored → Type 0
HasCalledTimes zero old new = new ≡ old
HasCalledTimes (suc n) old new = (mid : Monitored) × HasCalledTimes n old mid × HasCalled mid new

pub record HasCalledOften (old new : Monitored) : Type 0 where
  pub times : ℕ
  pub called : HasCalledTimes times old new
