use Rattle.std.proofs.Common.{◌∙◌, ◌≡◌, [], ◌∷◌, ◌+◌, ◌<◌, List, ℕ, Option, ap, sym, map, length, get_or, arith}
use Rattle.std.specs.Option.{option_map_or}
use Rattle.std.specs.Prelude.{option_map, slice_get}
use Rattle.std.proofs.lemmas.List.{length-map}
use Rattle.std.proofs.lemmas.Result.{IfOk-weaker}
use Rattle.std.specs.Global.{Box}
use Rattle.base_words.specs.declared.input.InputEntry.{InputEntry}
use Rattle.base_words.specs.declared.page.Page.{Page}
use Rattle.elf_image.specs.declared.image.Image.{Image}
use Rattle.flat_machine.specs.FlatView.{disk_of}
use Rattle.machine_desc.specs.declared.machine.GuestSpec.{GuestSpec}
use Rattle.machine_desc.specs.declared.plan.Item.{Item}
use Rattle.machine_desc.specs.Described.{described_seen}
use Rattle.admission.specs.Starts.{Start}
use Rattle.admission.specs.Views.{disk_numbered, disks_seen, image_seen, starts_of}
use Rattle.run_report.specs.declared.alone.Alone.{Alone}
use Rattle.monitor_run.specs.Alone.{left_alone, left_from, machine_alone}
use Rattle.monitor_run.proofs.AloneLemmas.{disk-is, left_from-next, paired-at, paired-there}
use Rattle.monitor_run.proofs.private_run.run_one.Goals as goal

pub returns : goal.returns
returns c =
    let setup = c.args.setup.now in
    let guest = c.args.guest in
    let there = c.requires.there in
    let d = described_seen setup.machine setup.plan in
    let number = disk_numbered (disks_seen setup.disks) in
    let spec = c.index-as_slice-guest.result in
    let image = c.index-as_slice-guest-2.result in
    let input = c.index-as_slice-guest-3.result in
    let disk : List (List ℕ) = disk_of (option_map (λ blocks. blocks.now) c.disk_of-disk.result) in
    let start : Start = record { image = image_seen image; disk = disk } in
    let in_images : guest < length setup.images = (let many = c.requires.setup.images in omega (arith, many, there)) in
    let in_numbers : guest < length setup.numbers = (let many = c.requires.setup.numbers in omega (arith, many, there)) in
    let in_inputs : guest < length setup.plan.input = (let many = c.requires.setup.described.each_input in omega (arith, many, there)) in
    let in_disks : guest < length (map number setup.numbers) = (let many = length-map setup.numbers number in omega (arith, many, in_numbers)) in
    let is_spec : spec ≡ get_or setup.machine.guests guest spec = c.index-as_slice-guest.is ∙ ap (λ (l : List GuestSpec). get_or l guest spec) c.as_slice.ensures in
    let is_image : image ≡ get_or setup.images guest image = c.index-as_slice-guest-2.is ∙ ap (λ (l : List Image). get_or l guest image) c.as_slice-2.ensures in
    let is_input : input ≡ get_or setup.plan.input guest input = c.index-as_slice-guest-3.is ∙ ap (λ (l : List (List InputEntry)). get_or l guest input) c.as_slice-3.ensures in
    let is_place : disk ≡ option_map_or number (slice_get setup.numbers guest) [] = c.disk_of-disk.ensures
    ∙ ap (λ (l : List (List (Box Page))). option_map_or (disk_numbered (disks_seen l)) (slice_get c.as_slice-5.result.now guest) []) c.as_slice-4.ensures
    ∙ ap (λ (l : List (Option ℕ)). option_map_or number (slice_get l guest) []) c.as_slice-5.ensures in
    let is_disk : disk ≡ get_or (map number setup.numbers) guest disk = disk-is number setup.numbers guest disk in_numbers is_place in
    let is_start = paired-at setup.images (map number setup.numbers) guest image disk start in_images in_disks is_image is_disk in
    let next = left_from-next d (starts_of setup) guest spec start input there (paired-there setup.images (map number setup.numbers) guest in_images in_disks) in_inputs is_spec is_start is_input in
    let items = c.as_slice-items.result.now in
    let leaves : Alone → Type 0 = λ one. one ≡ left_alone (machine_alone items guest spec start input) in
    let goes_on : Alone → Type 0 = λ one. left_from d (starts_of setup) guest ≡ one ∷ left_from d (starts_of setup) (guest + 1) in
    let same = ap (λ (l : List Item). left_alone (machine_alone l guest spec start input)) c.as_slice-items.ensures in
    IfOk-weaker c.run_guest.result leaves goes_on (λ one is. next ∙ ap (λ (x : Alone). x ∷ left_from d (starts_of setup) (guest + 1)) (sym (is ∙ same))) c.run_guest.ensures
