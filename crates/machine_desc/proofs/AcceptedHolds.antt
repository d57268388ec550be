-- What a description says that has no fault is within all bounds.
use Rattle.std.proofs.Common.{◌≡◌, ℕ, ◌<◌, ◌≤◌, List, [], length, Bool, true, false, nat_le, if◌then◌else◌, Option, Some, None, Ok, Err, refl, subst, arith}
use Rattle.std.specs.Prelude.{All}
use Rattle.std.specs.Str.{is_utf8}
use Rattle.std.proofs.lemmas.Bool.Decides.{nat_tests}
use Rattle.std.proofs.lemmas.List.{length-map}
use Rattle.std.proofs.lemmas.List.Elements.{All-map, All-weaker}
use Rattle.std.proofs.lemmas.List.FromFn.{length-map-range_with_len}
use Rattle.toml.specs.Data.{Members}
use Rattle.toml.specs.Parse.{parse_document}
use Rattle.machine_desc.specs.declared.fault.DescFault.TheVariants.{Toml}
use Rattle.machine_desc.specs.declared.machine.GuestSpec.{GuestSpec}
use Rattle.machine_desc.specs.declared.plan.Item.{Item}
use Rattle.machine_desc.specs.declared.sheet.CellTable.{CellTable}
use Rattle.machine_desc.specs.declared.sheet.Named.{Named}
use Rattle.machine_desc.specs.declared.sheet.Sheet.{Sheet}
use Rattle.machine_desc.specs.Reads.{Read}
use Rattle.machine_desc.specs.Names.{processors_named, cells_named, homes, guests_named, input_named}
use Rattle.machine_desc.specs.Items.{items_at, total_steps, few_steps}
use Rattle.machine_desc.specs.Named.{named_at}
use Rattle.machine_desc.specs.Shapes.{sheet_at}
use Rattle.machine_desc.specs.Reading.{described, read_of}
use Rattle.machine_desc.specs.Described.{Described, described_of, sheet_of, description_of}
use Rattle.machine_desc.specs.Bounds.{IsGuest}
use Rattle.machine_desc.specs.Accepted.{IsAccepted}
use Rattle.machine_desc.proofs.Stepwise.{reading, same_value, tested, length-each}
use Rattle.machine_desc.proofs.TableSizes.{IsCellTable, IsGuestTable}
use Rattle.machine_desc.proofs.SheetSizes.{IsWithin, sheet_at-within}
use Rattle.machine_desc.proofs.NamesHold.{processors-below, guests-below}
use Rattle.machine_desc.proofs.CellsHold.{length-homes, homes-below, no_cell_empty}
use Rattle.machine_desc.proofs.ItemsHold.{AreMade, items-made}
use Rattle.machine_desc.proofs.InputSizes.{inputs-within, sum-inputs}

few_steps-is : (total : ℕ) → few_steps total ≡ Ok tt → total ≤ 16000000
few_steps-is total is = let t = tested (nat_le total 16000000) tt tt _ is in grind (arith, nat_tests, t.0)

guest-within : (nodes : ℕ) (guests : List GuestSpec) → All IsGuestTable guests → All (λ guest. guest.node.0 < nodes) guests → All (IsGuest nodes) guests
guest-within nodes guests tables homes = λ k d lt. let table = tables k d lt in record {
  image = table.image;
  some_pages = table.some_pages;
  few_pages = table.few_pages;
  some_vcpus = table.some_vcpus;
  few_vcpus = table.few_vcpus;
  home = homes k d lt;
  disk = table.disk;
  some_profile = table.some_profile;
  few_profiles = table.few_profiles;
}

-- the items are as many as the work
length-items : (s : Sheet) (found : List Item) → items_at s ≡ Ok found → length found ≡ length s.work
unfolding items_at
length-items s found is = length-each _ 0 s.work found is

items-at : (s : Sheet) (named : Named) (found : List Item) → IsWithin s → items_at s ≡ Ok found → AreMade (described_of s named) [] s.work found
unfolding items_at
items-at s named found within is = items-made s named s.work [] s.work 0 found refl refl within.work is

-- the tables within their bounds, with all that they name there
pub named_at-accepted : (s : Sheet) (named : Named) → IsWithin s → named_at s ≡ Ok named → IsAccepted (described_of s named)
unfolding named_at
named_at-accepted s named within is =
    reading (processors_named s.machine.nodes s.machine.processors) _ named is λ done processors is.
    reading (cells_named s.machine.nodes s.cells) _ named is λ done cells is.
    reading (homes s.machine.nodes s.cells) _ named is λ cell_of homes_are is.
    reading (guests_named s.machine.nodes s.guests) _ named is λ done guests is.
    reading (items_at s) _ named is λ work items_are is.
    reading (input_named (length s.guests) s.input) _ named is λ done input is.
    reading (few_steps (total_steps s.work)) _ named is λ done steps is.
    let made = items-at s (record { homes = cell_of; items = work }) work within items_are in
    let lends = length-map s.cells (λ (cell : CellTable). cell.lend) in
    let many = length-items s work items_are in
    let here : IsAccepted (described_of s (record { homes = cell_of; items = work })) = record {
      some_nodes = within.machine.some_nodes;
      few_nodes = within.machine.few_nodes;
      some_frames = within.machine.some_frames;
      few_frames = within.machine.few_frames;
      some_processors = within.machine.some_processors;
      few_processors = within.machine.few_processors;
      on_nodes = processors-below s.machine.nodes s.machine.processors processors;
      some_cells = omega (arith, lends, within.some_cells);
      few_cells = omega (arith, lends, within.few_cells);
      small_lends = All-map (λ lend. lend ≤ 32768) (λ (cell : CellTable). cell.lend) s.cells (All-weaker IsCellTable (λ cell. cell.lend ≤ 32768) (λ cell table. table.small) s.cells within.cells);
      in_cells = length-homes s.machine.nodes s.cells cell_of homes_are;
      of_cells = rw lends (homes-below s.machine.nodes s.cells cell_of homes_are);
      no_empty_cell = λ cell lt. no_cell_empty s.machine.nodes s.cells cell_of cells homes_are within.cells cell (omega (arith, lends, lt));
      small_cache = within.machine.small_cache;
      some_guests = within.some_guests;
      few_guests = within.few_guests;
      guests = guest-within s.machine.nodes s.guests within.guests (guests-below s.machine.nodes s.guests guests);
      policy = within.policy;
      few_items = omega (arith, many, within.few_work);
      items = made.items;
      few_steps = omega (arith, made.steps, few_steps-is (total_steps s.work) steps);
      failed_once = λ cell. omega (arith, made.fail cell, made.once cell (omega arith));
      each_input = length-map-range_with_len _ 0 (length s.guests);
      few_entries = omega (arith, sum-inputs (length s.guests) s.input, within.few_input);
      input = inputs-within (length s.guests) s.input within.input;
    } in
    subst (λ (n : Named). IsAccepted (described_of s n)) (same_value _ named is) here

described-accepted : (ms : Members) (both : Sheet × Named) → described ms ≡ Ok both → IsAccepted (described_of both.0 both.1)
described-accepted ms both is =
    reading (sheet_at ms) _ both is λ s s_is is.
    reading (named_at s) _ both is λ named named_is is.
    subst (λ (b : Sheet × Named). IsAccepted (described_of b.0 b.1)) (same_value (s, named) both is) (named_at-accepted s named (sheet_at-within ms s s_is) named_is)

read_of-accepted : (document : Option Members) (both : Sheet × Named) → read_of document ≡ Ok both → IsAccepted (described_of both.0 both.1)
read_of-accepted None both is = absurd (cc)
read_of-accepted (Some ms) both is = described-accepted ms both is

sheet_of-accepted : (bytes : List ℕ) (both : Sheet × Named) → sheet_of bytes ≡ Ok both → IsAccepted (described_of both.0 both.1)
sheet_of-accepted bytes both is = by (is_utf8 bytes) is
  where
    by : (b : Bool) → (let r : Read (Sheet × Named) = if b then read_of (parse_document bytes) else Err Toml in r ≡ Ok both) → IsAccepted (described_of both.0 both.1)
    by true is = read_of-accepted (parse_document bytes) both is
    by false is = absurd (cc)

pub description_of-accepted : (bytes : List ℕ) (d : Described) → description_of bytes ≡ Ok d → IsAccepted d
unfolding description_of
description_of-accepted bytes d is =
    reading (sheet_of bytes) _ d is λ both both_is is.
    subst IsAccepted (same_value _ d is) (sheet_of-accepted bytes both both_is)
