-- Turns, counted.
use Rattle.std.specs.Prelude.{◌≡◌, ℕ, ◌<◌, ◌+◌, ◌-◌, ◌^◌, min, Option, Some, None, Result, Ok, Err}
use Rattle.std.specs.declared.alloc.AllocError.{AllocError}
use Rattle.guest_core.specs.declared.answers.Turn.{Turn}
use Rattle.guest_core.specs.declared.answers.Turn.TheVariants as turn
use Rattle.guest_lock.specs.declared.burst.Burst.{Burst}
use Rattle.guest_lock.specs.declared.burst.Stop.{Stop}
use Rattle.guest_lock.specs.declared.burst.Stop.TheVariants as stop

abbrev pub none_made : Burst
none_made = record { turns = 0; steps = 0; stop = stop.Paused }

-- a burst with a turn more
abbrev pub counted : Burst → Result Turn AllocError → Burst
counted b (Ok (turn.Stepped (Some access))) = record b { turns = b.turns + 1; steps = b.steps + 1 }
counted b (Ok (turn.Stepped None)) = record b { turns = b.turns + 1; steps = b.steps + 1 }
counted b (Ok turn.Refilled) = record b { turns = b.turns + 1 }
counted b (Ok (turn.Acked q)) = record b { turns = b.turns + 1 }
counted b (Ok (turn.Begun q)) = record b { turns = b.turns + 1 }
counted b (Ok (turn.Finished q)) = record b { turns = b.turns + 1 }
counted b (Ok (turn.Waits q set)) = record b { turns = b.turns + 1; stop = stop.Waits q }
counted b (Ok turn.VcpuHalted) = record b { turns = b.turns + 1; stop = stop.VcpuHalted }
counted b (Ok (turn.GuestEnded end)) = record b { turns = b.turns + 1; stop = stop.GuestEnded end }
counted b (Err e) = record b { turns = b.turns + 1; stop = stop.Memory }

-- so many steps that the processor made by itself, and the turn that came then, if one did
abbrev pub steps_made : ℕ → Burst
steps_made n = record { turns = n; steps = n; stop = stop.Paused }

abbrev pub turned : Burst → Option (Result Turn AllocError) → Burst
turned b None = b
turned b (Some turn) = counted b turn

-- a burst and the next one; the count of turns stands still at its type's end
abbrev pub joined : Burst → Burst → Burst
joined first next = record { turns = min (first.turns + next.turns) (2 ^ 64 - 1); steps = first.steps + next.steps; stop = next.stop }

-- a burst that stopped to wait goes on
abbrev pub goes_on : Stop → Stop
goes_on stop.Paused = stop.Paused
goes_on (stop.Waits page) = stop.Paused
goes_on stop.VcpuHalted = stop.VcpuHalted
goes_on (stop.GuestEnded end) = stop.GuestEnded end
goes_on stop.Memory = stop.Memory

abbrev pub resumed : Burst → Burst
resumed b = record b { stop = goes_on b.stop }

-- a burst for so many steps, of 256 turns at most, goes on
pub record GoesOnTo (steps : ℕ) (b : Burst) : Type 0 where
  pub paused : b.stop ≡ stop.Paused
  pub fewer : b.steps < steps
  pub left : b.turns < 256
