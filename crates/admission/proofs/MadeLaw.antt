-- What is made from a number is accepted.
use Rattle.std.proofs.Common.{◌≡◌, false, ℕ, ◌+◌, ◌%◌, ◌^◌, [], ◌∷◌, Some, None, Result, Ok, ap, refl, ◌∙◌}
use Rattle.std.specs.Fmt.{digits}
use Rattle.std.specs.Str.{is_utf8, chars}
use Rattle.toml.proofs.OnLiterals.{toml_on_literals}
use Rattle.machine_desc.specs.Described.{Described, description_of}
use Rattle.machine_desc.specs.Shapes.{top_at, sheet_at}
use Rattle.machine_desc.specs.Cells.{cell_at}
use Rattle.machine_desc.specs.Items.{run_item, move_item, fail_item, items_at}
use Rattle.machine_desc.specs.Named.{named_at}
use Rattle.machine_desc.specs.Names.{processors_named, cell_named, cells_named, homes, guests_named, input_named}
use Rattle.machine_desc.specs.Sheet.{machine_at, cell_table_at, guest_at, policy_at, input_at}
use Rattle.machine_desc.specs.Unknown.{only}
use Rattle.machine_desc.specs.Work.{run_at, move_to_at, collapse_at, move_at, fail_at, work_at}
use Rattle.guest_gen.specs.Description.{image_name, disk_name, description_text, machine_text, guest_text, disk_text, run_text, move_text, round_text}
use Rattle.node_frames.specs.Left.{has}
use Rattle.elf_image.specs.Fields.{elf_header, program_header_at}
use Rattle.elf_image.specs.FirstFault.{first_fault}
use Rattle.machine_desc.specs.declared.fault.DescFault.{DescFault}
use Rattle.guest_gen.specs.Disk.{disk_of}
use Rattle.guest_gen.specs.Image.{image_of}
use Rattle.guest_gen.specs.Made.{files_of}
use Rattle.admission.specs.Chain.{Files, ◌>>=◌, of_description}
use Rattle.admission.specs.Generated.{generated, spec_of}
use Rattle.admission.specs.Jobs.{at_hand, held_or_none, guests_of, load_job, made_run, short_in}
use Rattle.admission.specs.MadeRun.{made_start, made_starts}
use Rattle.admission.specs.Stages.{Agrees, known, look}
use Rattle.admission.specs.Starts.{starts_from}
use Rattle.admission.proofs.MadeStarts.{disk_made, start_made, starts_next, starts_none, guests_run}

pub described_made : description_of (description_text 4 50000) ≡ Ok (generated 4 50000)
unfolding digits is_utf8 chars lib.Utf8.encode toml_on_literals description_of description_text machine_text guest_text disk_text run_text move_text round_text generated top_at sheet_at cell_at run_item move_item fail_item items_at named_at processors_named cell_named cells_named homes guests_named input_named machine_at cell_table_at guest_at policy_at input_at only run_at move_to_at collapse_at move_at fail_at work_at
described_made = refl

pub image_sound : (start : ℕ) → first_fault (image_of start) 64 ≡ None
unfolding first_fault elf_header program_header_at image_of
image_sound start = refl

pub image_entry : (start : ℕ) → (elf_header (image_of start)).e_entry ≡ 0xC000_0200
unfolding elf_header image_of
image_entry start = refl

pub served_made : short_in (generated 4 50000) ≡ None
unfolding has generated
served_made = refl

module _ (seed : ℕ) where
  disk_there : look (known (files_of seed 4)) disk_name ≡ Some (Some (disk_of seed))
  unfolding digits
  disk_there = refl

  first_there : look (known (files_of seed 4)) (image_name 0) ≡ Some (Some (image_of ((seed + 0) % 2 ^ 32)))
  unfolding digits
  first_there = refl

  second_there : look (known (files_of seed 4)) (image_name 1) ≡ Some (Some (image_of ((seed + 1) % 2 ^ 32)))
  unfolding digits
  second_there = refl

  third_there : look (known (files_of seed 4)) (image_name 2) ≡ Some (Some (image_of ((seed + 2) % 2 ^ 32)))
  unfolding digits
  third_there = refl

  fourth_there : look (known (files_of seed 4)) (image_name 3) ≡ Some (Some (image_of ((seed + 3) % 2 ^ 32)))
  unfolding digits
  fourth_there = refl

-- whatever other files there are
starts_made : (seed : ℕ) (f : Files) → Agrees (known (files_of seed 4)) f → starts_from f 0 (generated 4 50000).guests ≡ Ok (made_starts seed)
unfolding generated
starts_made seed f agrees =
    let disk = disk_made f seed (agrees disk_name (Some (disk_of seed)) (disk_there seed)) in
    starts_next f 0 (spec_of 0) (spec_of 1 ∷ spec_of 2 ∷ spec_of 3 ∷ []) (made_start seed 0) _ (start_made image_sound image_entry f seed 0 (agrees (image_name 0) _ (first_there seed)) disk)
    (starts_next f 1 (spec_of 1) (spec_of 2 ∷ spec_of 3 ∷ []) (made_start seed 1) _ (start_made image_sound image_entry f seed 1 (agrees (image_name 1) _ (second_there seed)) disk)
    (starts_next f 2 (spec_of 2) (spec_of 3 ∷ []) (made_start seed 2) _ (start_made image_sound image_entry f seed 2 (agrees (image_name 2) _ (third_there seed)) refl)
    (starts_next f 3 (spec_of 3) [] (made_start seed 3) _ (start_made image_sound image_entry f seed 3 (agrees (image_name 3) _ (fourth_there seed)) refl) (starts_none f 4))))

pub guests_made : (seed : ℕ) (f : Files) → Agrees (known (files_of seed 4)) f → guests_of false f (generated 4 50000) ≡ Ok (made_run seed)
guests_made seed f agrees = guests_run f (generated 4 50000) (made_starts seed) (starts_made seed f agrees) served_made

pub load_made : (seed : ℕ) → load_job seed ≡ Ok (made_run seed)
load_made seed =
    ap (λ (r : Result Described DescFault). of_description r >>= guests_of false (at_hand (files_of seed 4))) described_made
    ∙ guests_made seed (at_hand (files_of seed 4)) (λ name held is. ap held_or_none is)
