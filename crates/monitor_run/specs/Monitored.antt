-- Guests under the monitor: what their record says.
use Rattle.std.specs.Prelude.{◌≡◌, ℕ, suc, List, [], ◌∷◌, map}
use Rattle.base_words.specs.declared.input.InputEntry.{InputEntry}
use Rattle.private_machine.specs.PrivateMachine.{PrivateMachine}
use Rattle.private_machine.specs.PrivateRun.{private_run}
use Rattle.isolation_law.specs.OwnHistory.{own}
use Rattle.isolation_law.specs.Start.{Boot, IsBoot, private_start}
use Rattle.machine_desc.specs.declared.machine.GuestSpec.{GuestSpec}
use Rattle.machine_desc.specs.Described.{Described}
use Rattle.guest_course.specs.CourseView.{got_of}
use Rattle.guest_core.specs.declared.records.GuestRecord.{GuestRecord}
use Rattle.guest_core.specs.declared.records.RunRecord.{RunRecord}
use Rattle.guest_boot.specs.Starting.{around_of, IsPlaced}
use Rattle.run_workers.specs.WholeRecord.{IsWhole}
use Rattle.admission.specs.Starts.{Start}

-- a guest is booted from its image, its disk and its input, on the frames that boot gives to it; and it may be booted so
pub record IsBooted (d : Described) (guest : ℕ) (spec : GuestSpec) (start : Start) (input : List InputEntry) (b : Boot) : Type 0 where
  pub around : b.around ≡ around_of d guest spec
  pub image : b.image ≡ start.image
  pub vcpus : b.vcpus ≡ spec.vcpus
  pub disk : b.disk ≡ start.disk
  pub input_is : b.input ≡ input
  pub placed : IsPlaced d guest spec b.frames
  pub sound : IsBoot b

-- so are all, from a number on
abbrev pub AreBooted : Described → ℕ → List GuestSpec → List Start → List (List InputEntry) → List Boot → Type 0
AreBooted d guest [] [] [] [] = Unit {0}
AreBooted d guest (spec ∷ specs) (start ∷ starts) (input ∷ inputs) (b ∷ boots) =
    IsBooted d guest spec start input b × AreBooted d (suc guest) specs starts inputs boots
AreBooted d guest specs starts inputs boots = ⊥

-- a guest's private machine after the guest's own part of its journal, with the packets that it received
abbrev pub machine_after : Boot → GuestRecord → PrivateMachine
machine_after b guest = private_run (private_start b) (own (map got_of guest.received) guest.journal.entries)

-- what a guest printed and sent is what its private machine prints and sends
pub record IsPrivate (b : Boot) (guest : GuestRecord) : Type 0 where
  pub console : guest.console ≡ (machine_after b guest).devices.console
  pub sent : guest.sent ≡ (machine_after b guest).devices.sent

abbrev pub ArePrivate : List Boot → List GuestRecord → Type 0
ArePrivate [] [] = Unit {0}
ArePrivate (b ∷ boots) (guest ∷ guests) = IsPrivate b guest × ArePrivate boots guests
ArePrivate boots guests = ⊥

-- the whole record of a description's run: each guest has run from its start, as its private machine does
pub record IsRun (d : Described) (starts : List Start) (out : RunRecord) : Type 0 where
  pub boots : List Boot
  pub booted : AreBooted d 0 d.guests starts d.input boots
  pub whole : IsWhole d boots out
  pub private : ArePrivate boots out.guests
