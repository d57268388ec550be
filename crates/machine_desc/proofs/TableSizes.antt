-- What a table says is within its bounds.
use Rattle.std.proofs.Common.{◌≡◌, ℕ, ◌<◌, ◌≤◌, List, [], length, Ok, codes, refl, subst, inl, inr, arith}
use Rattle.std.specs.Prelude.{IfSome}
use Rattle.base_words.specs.declared.moves.Policy.{Policy}
use Rattle.toml.specs.Data.{Members}
use Rattle.machine_desc.specs.declared.place.Place.TheVariants as places
use Rattle.machine_desc.specs.declared.machine.GuestSpec.{GuestSpec}
use Rattle.machine_desc.specs.declared.sheet.MachineTable.{MachineTable}
use Rattle.machine_desc.specs.declared.sheet.CellTable.{CellTable}
use Rattle.machine_desc.specs.declared.sheet.InputTable.{InputTable}
use Rattle.machine_desc.specs.Kinds.{between, node_list, text_to, array_of, Cell, a_number, some_tables, nothing, required, optional}
use Rattle.machine_desc.specs.Rows.{machine_rows, cell_rows, guest_rows, policy_rows, input_rows}
use Rattle.machine_desc.specs.Tables.{table_at, cell_named, number_of, text_of, bytes_of, list_of, tables_of}
use Rattle.machine_desc.specs.Sheet.{machine_of, machine_at, cell_of, cell_table_at, guest_of, guest_at, policy_of, policy_at, input_of, input_at}
use Rattle.machine_desc.specs.Bounds.{IsName, IsPolicy}
use Rattle.machine_desc.proofs.Stepwise.{bound}
use Rattle.machine_desc.proofs.Fitting.{HasNumber, FitsRow, table_at-fit}

-- ---- what a cell that fits a row has

module _ (key : List ℕ) (cell : Cell) where
  pub number_row : (low high : ℕ) → FitsRow (required key (between low high)) cell → HasNumber low high cell
  number_row low high (inl fits) = fits
  number_row low high (inr never) = absurd (cc)

  pub least : (low high : ℕ) → FitsRow (required key (between low high)) cell → low ≤ number_of cell
  least low high fits = let n = number_row low high fits in rw n.is n.least

  pub most : (low high : ℕ) → FitsRow (required key (between low high)) cell → number_of cell ≤ high
  most low high fits = let n = number_row low high fits in rw n.is n.most

  pub most_or : (high default : ℕ) → default ≤ high → FitsRow (optional key (between 0 high) (a_number default)) cell → number_of cell ≤ high
  most_or high default le (inl n) = rw n.is n.most
  most_or high default le (inr is) = let e : cell ≡ a_number default = cc in rw e le

  pub within_or : (low high default : ℕ) → low ≤ default → default ≤ high → FitsRow (optional key (between low high) (a_number default)) cell → (low ≤ number_of cell) × (number_of cell ≤ high)
  within_or low high default more le (inl n) = rw n.is (n.least, n.most)
  within_or low high default more le (inr is) = let e : cell ≡ a_number default = cc in rw e (more, le)

  pub list_row : (many : ℕ) → FitsRow (required key (node_list many)) cell → (1 ≤ length (list_of cell)) × (length (list_of cell) ≤ many)
  list_row many (inl fits) = fits
  list_row many (inr never) = absurd (cc)

  pub name_row : FitsRow (required key (text_to 255)) cell → IsName (bytes_of cell)
  name_row (inl t) = rw t.is (record { some = omega (arith, t.some); few = t.few })
  name_row (inr never) = absurd (cc)

  pub text_row : (many : ℕ) → FitsRow (required key (text_to many)) cell → (0 < length (bytes_of cell)) × (length (bytes_of cell) ≤ many)
  text_row many (inl t) = rw t.is (omega (arith, t.some), t.few)
  text_row many (inr never) = absurd (cc)

  pub name_if_any_row : FitsRow (optional key (text_to 255) nothing) cell → IfSome (text_of cell) IsName
  name_if_any_row (inl t) = rw t.is (record { some = omega (arith, t.some); few = t.few })
  name_if_any_row (inr is) = let e : cell ≡ nothing = cc in rw e tt

  pub tables_row : (low high : ℕ) → FitsRow (required key (array_of low high)) cell → (low ≤ length (tables_of cell)) × (length (tables_of cell) ≤ high)
  tables_row low high (inl fits) = fits
  tables_row low high (inr never) = absurd (cc)

  pub few_tables_row : (low high : ℕ) → FitsRow (optional key (array_of low high) (some_tables [])) cell → length (tables_of cell) ≤ high
  few_tables_row low high (inl fits) = fits.1
  few_tables_row low high (inr is) = let e : cell ≡ some_tables [] = cc in rw e (omega arith)

-- ---- the tables

-- the table `machine` is within its bounds
pub record IsMachineTable (machine : MachineTable) : Type 0 where
  pub some_nodes : 0 < machine.nodes
  pub few_nodes : machine.nodes ≤ 8
  pub some_frames : 0 < machine.frames
  pub few_frames : machine.frames ≤ 4096
  pub some_processors : 0 < length machine.processors
  pub few_processors : length machine.processors ≤ 32
  pub small_cache : machine.cache ≤ 1024

pub machine_at-within : (ms : Members) (machine : MachineTable) → machine_at ms ≡ Ok machine → IsMachineTable machine
unfolding machine_at
machine_at-within ms machine is =
    let cells = bound (table_at places.Machine [] machine_rows ms) (λ cells. Ok (machine_of cells)) machine is in
    let fits = table_at-fit places.Machine [] machine_rows ms cells.0 refl cells.1 in
    let e : machine_of cells.0 ≡ machine = let s = cells.2 in cc in
    let list = list_row (codes "processors") (cell_named (codes "processors") cells.0) 32 fits.1.1.0 in
    let here : IsMachineTable (machine_of cells.0) = record {
      some_nodes = omega (arith, least (codes "nodes") (cell_named (codes "nodes") cells.0) 1 8 fits.0);
      few_nodes = most (codes "nodes") (cell_named (codes "nodes") cells.0) 1 8 fits.0;
      some_frames = omega (arith, least (codes "frames") (cell_named (codes "frames") cells.0) 1 4096 fits.1.0);
      few_frames = most (codes "frames") (cell_named (codes "frames") cells.0) 1 4096 fits.1.0;
      some_processors = omega (arith, list.0);
      few_processors = list.1;
      small_cache = most_or (codes "cache") (cell_named (codes "cache") cells.0) 1024 0 (omega arith) fits.1.1.1.0;
    } in
    subst IsMachineTable e here

-- a table `cell`: it has a node
pub record IsCellTable (cell : CellTable) : Type 0 where
  pub some : 0 < length cell.nodes
  pub small : cell.lend ≤ 32768

pub cell_table_at-within : (i : ℕ) (ms : Members) (cell : CellTable) → cell_table_at i ms ≡ Ok cell → IsCellTable cell
unfolding cell_table_at
cell_table_at-within i ms cell is =
    let cells = bound (table_at (places.Cell i) [] cell_rows ms) (λ cells. Ok (cell_of cells)) cell is in
    let fits = table_at-fit (places.Cell i) [] cell_rows ms cells.0 refl cells.1 in
    let e : cell_of cells.0 ≡ cell = let s = cells.2 in cc in
    let list = list_row (codes "nodes") (cell_named (codes "nodes") cells.0) 8 fits.0 in
    subst IsCellTable e (record { some = omega (arith, list.0); small = most_or (codes "lend") (cell_named (codes "lend") cells.0) 32768 0 (omega arith) fits.1.0 })

-- a table `guest`
pub record IsGuestTable (guest : GuestSpec) : Type 0 where
  pub image : IsName guest.image
  pub some_pages : 0 < guest.pages
  pub few_pages : guest.pages ≤ 2048
  pub some_vcpus : 0 < guest.vcpus
  pub few_vcpus : guest.vcpus ≤ 4
  pub disk : IfSome guest.disk IsName
  pub some_profile : 0 < guest.profile
  pub few_profiles : guest.profile ≤ 2

pub guest_at-within : (i : ℕ) (ms : Members) (guest : GuestSpec) → guest_at i ms ≡ Ok guest → IsGuestTable guest
unfolding guest_at
guest_at-within i ms guest is =
    let cells = bound (table_at (places.Guest i) [] guest_rows ms) (λ cells. Ok (guest_of cells)) guest is in
    let fits = table_at-fit (places.Guest i) [] guest_rows ms cells.0 refl cells.1 in
    let e : guest_of cells.0 ≡ guest = let s = cells.2 in cc in
    let pages = cell_named (codes "pages") cells.0 in
    let vcpus = cell_named (codes "vcpus") cells.0 in
    let profile = within_or (codes "profile") (cell_named (codes "profile") cells.0) 1 2 1 (omega arith) (omega arith) fits.1.1.1.1.1.1.0 in
    subst IsGuestTable e (record {
      image = name_row (codes "image") (cell_named (codes "image") cells.0) fits.0;
      some_pages = omega (arith, least (codes "pages") pages 1 2048 fits.1.1.0);
      few_pages = most (codes "pages") pages 1 2048 fits.1.1.0;
      some_vcpus = omega (arith, least (codes "vcpus") vcpus 1 4 fits.1.1.1.0);
      few_vcpus = most (codes "vcpus") vcpus 1 4 fits.1.1.1.0;
      disk = name_if_any_row (codes "disk") (cell_named (codes "disk") cells.0) fits.1.1.1.1.1.0;
      some_profile = omega (arith, profile.0);
      few_profiles = profile.1;
    })

pub policy_at-within : (ms : Members) (policy : Policy) → policy_at ms ≡ Ok policy → IsPolicy policy
unfolding policy_at
policy_at-within ms policy is =
    let cells = bound (table_at places.Policy [] policy_rows ms) (λ cells. Ok (policy_of cells)) policy is in
    let fits = table_at-fit places.Policy [] policy_rows ms cells.0 refl cells.1 in
    let e : policy_of cells.0 ≡ policy = let s = cells.2 in cc in
    subst IsPolicy e (record {
      migrate = most_or (codes "migrate") (cell_named (codes "migrate") cells.0) 1000000 0 (omega arith) fits.0;
      replicate = most_or (codes "replicate") (cell_named (codes "replicate") cells.0) 1000000 0 (omega arith) fits.1.0;
    })

-- a table `input`
pub record IsInputTable (input : InputTable) : Type 0 where
  pub early : input.at ≤ 16000000
  pub some : 0 < length input.text
  pub few : length input.text ≤ 1024

pub input_at-within : (i : ℕ) (ms : Members) (input : InputTable) → input_at i ms ≡ Ok input → IsInputTable input
unfolding input_at
input_at-within i ms input is =
    let cells = bound (table_at (places.Input i) [] input_rows ms) (λ cells. Ok (input_of cells)) input is in
    let fits = table_at-fit (places.Input i) [] input_rows ms cells.0 refl cells.1 in
    let e : input_of cells.0 ≡ input = let s = cells.2 in cc in
    let given = text_row (codes "text") (cell_named (codes "text") cells.0) 1024 fits.1.1.0 in
    subst IsInputTable e (record { early = most (codes "at") (cell_named (codes "at") cells.0) 0 16000000 fits.1.0; some = given.0; few = given.1 })
