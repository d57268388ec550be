-- Guests that run alone, each on its private machine: the steps of its run items, in the order of the file.
use Rattle.std.specs.Prelude.{◌≡◌, ◌<◌, ℕ, suc, ◌==◌, List, [], ◌∷◌, drop, replicate, flat_map, if◌then◌else◌}
use Rattle.base_words.specs.declared.events.End.{End}
use Rattle.base_words.specs.declared.events.End.TheVariants.{Halted, Budget}
use Rattle.base_words.specs.declared.events.OwnEvent.{OwnEvent}
use Rattle.base_words.specs.declared.events.OwnEvent.TheVariants.{Step}
use Rattle.base_words.specs.declared.input.InputEntry.{InputEntry}
use Rattle.private_machine.specs.PrivateMachine.{PrivateMachine}
use Rattle.private_machine.specs.PrivateRun.{booted, private_run}
use Rattle.isolation_law.specs.Phases.{all_halted}
use Rattle.machine_desc.specs.declared.machine.GuestSpec.{GuestSpec}
use Rattle.machine_desc.specs.declared.plan.Item.{Item}
use Rattle.machine_desc.specs.declared.plan.Item.TheVariants.{Run, Move, Fail}
use Rattle.machine_desc.specs.Described.{Described}
use Rattle.admission.specs.Starts.{Start}
use Rattle.run_report.specs.declared.alone.Alone.{Alone}

-- a guest's own events by an item: a move and a failure are not carried out
abbrev pub item_events : ℕ → Item → List OwnEvent
item_events guest (Run p g v steps) = if g.0 == guest then replicate steps (Step v) else []
item_events guest (Move p g page kind node) = []
item_events guest (Fail p cell) = []

-- and by all items, in their order
abbrev pub own_events : ℕ → List Item → List OwnEvent
own_events guest items = flat_map (item_events guest) items

-- an item runs no virtual processor of the guest but one of so many
abbrev pub MayRun : ℕ → ℕ → Item → Type 0
MayRun guest vcpus (Run p g v steps) = g.0 ≡ guest → v.0 < vcpus
MayRun guest vcpus (Move p g page kind node) = Unit {0}
MayRun guest vcpus (Fail p cell) = Unit {0}

-- a guest's private machine after its items
abbrev pub machine_alone : List Item → ℕ → GuestSpec → Start → List InputEntry → PrivateMachine
machine_alone items guest spec start input = private_run (booted start.image spec.vcpus spec.profile start.disk input) (own_events guest items)

-- it ends halted where all its virtual processors have halted
abbrev pub end_alone : PrivateMachine → End
end_alone m = if all_halted m.vcpus then Halted else Budget

-- what it leaves
abbrev pub left_alone : PrivateMachine → Alone
left_alone m = record { console = m.devices.console; end = end_alone m }

-- what all leave, numbered on from a number
abbrev pub all_alone : List Item → ℕ → List GuestSpec → List Start → List (List InputEntry) → List Alone
all_alone items guest (spec ∷ specs) (start ∷ starts) (input ∷ inputs) =
    left_alone (machine_alone items guest spec start input) ∷ all_alone items (suc guest) specs starts inputs
all_alone items guest specs starts inputs = []

-- what those of a description leave from a number on
abbrev pub left_from : Described → List Start → ℕ → List Alone
left_from d starts guest = all_alone d.items guest (drop guest d.guests) (drop guest starts) (drop guest d.input)

abbrev pub alone_of : Described → List Start → List Alone
alone_of d starts = all_alone d.items 0 d.guests starts d.input
