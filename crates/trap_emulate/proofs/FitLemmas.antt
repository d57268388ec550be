-- The parts of a guest still fit one another after a step of one virtual processor.
use Rattle.std.proofs.Common.{◌≡◌, ℕ, List, length, get_or, set, ap, sym, ◌∙◌, refl, Option, Some, None}
use Rattle.std.proofs.Math.Seq.{map-set_same}
use Rattle.std.proofs.lemmas.List.{length-set}
use Rattle.base_words.specs.declared.device.DeviceRegister.{DeviceRegister}
use Rattle.base_words.specs.declared.device.DeviceRegister.TheVariants.{Console, Halt, Input, Queued, Number, Vcpus, Call, Answered, DiskBlock, DiskPage, DiskCommand, DiskStatus, SendPage, SendLength, Send, Armed, PacketLength, PacketSender, PacketTaken}
use Rattle.base_words.specs.declared.device.Transfer.{Transfer}
use Rattle.guest_devs.specs.DeviceState.{DeviceState}
use Rattle.guest_devs.specs.DeviceCalls.{taken}
use Rattle.guest_devs.specs.Shown.{Agree}
use Rattle.private_machine.specs.declared.vcpu.Vcpu.{Vcpu}
use Rattle.private_machine.specs.DeviceRegisters.{register_taken}
use Rattle.private_machine.specs.DevicePage.{DevicePage}
use Rattle.private_machine.specs.Showing.{shown_by}
use Rattle.trap_emulate.specs.GuestView.{Fits}

-- one of the virtual processors becomes another that shows the same
pub Fits-one : (pages : ℕ) (vcpus : List Vcpu) (d : DeviceState) (v : ℕ) (new kept : Vcpu) → Fits pages vcpus d → shown_by new ≡ shown_by (get_or vcpus v kept) → Fits pages (set vcpus v new) d
Fits-one pages vcpus d v new kept fits same = record {
  of_pages = fits.of_pages;
  transfers = fits.transfers ∙ sym (length-set vcpus v new);
  agree = map-set_same shown_by vcpus v new kept same ∙ fits.agree;
}

-- a load takes at most a byte of input
transfers-taken : (d : DevicePage) (r : DeviceRegister) → (register_taken d r).transfers ≡ d.transfers
transfers-taken d Console = refl
transfers-taken d Halt = refl
transfers-taken d Input = refl
transfers-taken d Queued = refl
transfers-taken d Number = refl
transfers-taken d Vcpus = refl
transfers-taken d Call = refl
transfers-taken d Answered = refl
transfers-taken d DiskBlock = refl
transfers-taken d DiskPage = refl
transfers-taken d DiskCommand = refl
transfers-taken d DiskStatus = refl
transfers-taken d SendPage = refl
transfers-taken d SendLength = refl
transfers-taken d Send = refl
transfers-taken d Armed = refl
transfers-taken d PacketLength = refl
transfers-taken d PacketSender = refl
transfers-taken d PacketTaken = refl

pub Fits-taken : (pages : ℕ) (vcpus new : List Vcpu) (d : DeviceState) (r : Option DeviceRegister) → Fits pages vcpus d → length new ≡ length vcpus → Agree (taken d r) new → Fits pages new (taken d r)
Fits-taken pages vcpus new d None fits long agree = record { of_pages = fits.of_pages; transfers = fits.transfers ∙ sym long; agree = agree }
Fits-taken pages vcpus new d (Some r) fits long agree =
    record { of_pages = fits.of_pages; transfers = ap (λ (l : List Transfer). length l) (transfers-taken d.page r) ∙ fits.transfers ∙ sym long; agree = agree }
