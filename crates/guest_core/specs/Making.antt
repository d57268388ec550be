-- Which entries a guest's journal gains with a call.
use Rattle.std.specs.Prelude.{◌≡◌, List, ◌++◌}
use Rattle.base_words.specs.declared.events.Event.{Event}
use Rattle.isolation_law.specs.Run.{Run}
use Rattle.guest_core.specs.GuestView.{Monitored}

-- the journal gained these entries, and they lead from the old state to the new one
pub record Makes (old : Monitored) (entries : List Event) (new : Monitored) : Type 0 where
  pub journal : new.journal ≡ old.journal ++ entries
  pub run : Run old.state entries new.state

-- and the ends of the wires stay
pub record MakesAlone (old : Monitored) (entries : List Event) (new : Monitored) : Type 0 where
  pub makes : Makes old entries new
  pub passes : new.passes ≡ old.passes

-- no entry was made, and nothing was taken or given back
pub record Stays (old new : Monitored) : Type 0 where
  pub journal : new.journal ≡ old.journal
  pub state : new.state ≡ old.state
  pub view : new.view ≡ old.view

-- nor did the ends of the wires change
pub record Rests (old new : Monitored) : Type 0 where
  pub stays : Stays old new
  pub passes : new.passes ≡ old.passes
