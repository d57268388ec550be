-- What all tables say is within their bounds.
use Rattle.std.proofs.Common.{◌≡◌, ℕ, ◌<◌, ◌≤◌, List, [], ◌∷◌, length, Ok, codes, refl, subst, arith}
use Rattle.std.specs.Prelude.{All}
use Rattle.std.proofs.lemmas.List.Elements.{All-nil, All-cons}
use Rattle.std.proofs.lemmas.List.FromFn.{length-map-range_with_len}
use Rattle.toml.specs.Data.{Members}
use Rattle.machine_desc.specs.declared.place.Place.TheVariants.{Top}
use Rattle.machine_desc.specs.declared.sheet.CellTable.{CellTable}
use Rattle.machine_desc.specs.declared.sheet.Sheet.{Sheet}
use Rattle.machine_desc.specs.Reads.{each}
use Rattle.machine_desc.specs.Rows.{top_rows}
use Rattle.machine_desc.specs.Tables.{Cells, cell_named, table, tables}
use Rattle.machine_desc.specs.Sheet.{machine_at, cell_table_at, guest_at, policy_at, input_at}
use Rattle.machine_desc.specs.Work.{work_at}
use Rattle.machine_desc.specs.Shapes.{top_at, one_cell, or_one_cell, sheet_at}
use Rattle.machine_desc.specs.Bounds.{IsPolicy}
use Rattle.machine_desc.proofs.Stepwise.{reading, same_value, length-each, each-all}
use Rattle.machine_desc.proofs.Fitting.{table_at-fit}
use Rattle.machine_desc.proofs.TableSizes.{IsMachineTable, machine_at-within, IsCellTable, cell_table_at-within, IsGuestTable, guest_at-within, policy_at-within, IsInputTable, input_at-within, tables_row, few_tables_row}
use Rattle.machine_desc.proofs.WorkSizes.{IsWork, work_at-within}

-- all tables are within their bounds
pub record IsWithin (s : Sheet) : Type 0 where
  pub machine : IsMachineTable s.machine
  pub some_cells : 0 < length s.cells
  pub few_cells : length s.cells ≤ 8
  pub cells : All IsCellTable s.cells
  pub some_guests : 0 < length s.guests
  pub few_guests : length s.guests ≤ 8
  pub guests : All IsGuestTable s.guests
  pub policy : IsPolicy s.policy
  pub few_work : length s.work ≤ 4096
  pub work : All IsWork s.work
  pub few_input : length s.input ≤ 1024
  pub input : All IsInputTable s.input

-- how many tables each array at the top has
record IsTop (top : Cells) : Type 0 where
  few_cells : length (tables (codes "cell") top) ≤ 8
  some_guests : 1 ≤ length (tables (codes "guest") top)
  few_guests : length (tables (codes "guest") top) ≤ 8
  few_work : length (tables (codes "work") top) ≤ 4096
  few_input : length (tables (codes "input") top) ≤ 1024

top_at-within : (ms : Members) (top : Cells) → top_at ms ≡ Ok top → IsTop top
unfolding top_at
top_at-within ms top is =
    let fits = table_at-fit Top [] top_rows ms top refl is in
    let guests = tables_row (codes "guest") (cell_named (codes "guest") top) 1 8 fits.1.1.0 in
    record {
      few_cells = few_tables_row (codes "cell") (cell_named (codes "cell") top) 1 8 fits.1.0;
      some_guests = guests.0;
      few_guests = guests.1;
      few_work = few_tables_row (codes "work") (cell_named (codes "work") top) 0 4096 fits.1.1.1.1.0;
      few_input = few_tables_row (codes "input") (cell_named (codes "input") top) 0 1024 fits.1.1.1.1.1.0;
    }

record AreCells (cells : List CellTable) : Type 0 where
  some : 0 < length cells
  few : length cells ≤ 8
  all : All IsCellTable cells

length-one_cell : (count : ℕ) → length (one_cell count).nodes ≡ count
length-one_cell count = length-map-range_with_len _ 0 count

or_one_cell-within : (count : ℕ) (cells : List CellTable) → 0 < count → length cells ≤ 8 → All IsCellTable cells → AreCells (or_one_cell count cells)
or_one_cell-within count [] some few all = record {
  some = omega arith;
  few = omega arith;
  all = All-cons IsCellTable (one_cell count) [] (record { some = rw length-one_cell some; small = omega arith }) (All-nil IsCellTable);
}
or_one_cell-within count (cell ∷ cells) some few all = record { some = omega arith; few = few; all = all }

pub sheet_at-within : (ms : Members) (s : Sheet) → sheet_at ms ≡ Ok s → IsWithin s
unfolding sheet_at
sheet_at-within ms s is =
    reading (top_at ms) _ s is λ top top_is is.
    reading (machine_at (table (codes "machine") top)) _ s is λ machine machine_is is.
    reading (each cell_table_at 0 (tables (codes "cell") top)) _ s is λ cells cells_are is.
    reading (each guest_at 0 (tables (codes "guest") top)) _ s is λ guests guests_are is.
    reading (policy_at (table (codes "policy") top)) _ s is λ policy policy_is is.
    reading (each work_at 0 (tables (codes "work") top)) _ s is λ work work_is is.
    reading (each input_at 0 (tables (codes "input") top)) _ s is λ input input_is is.
    let sized = top_at-within ms top top_is in
    let within = machine_at-within (table (codes "machine") top) machine machine_is in
    let many = length-each cell_table_at 0 (tables (codes "cell") top) cells cells_are in
    let all_cells = or_one_cell-within machine.nodes cells within.some_nodes (omega (arith, many, sized.few_cells)) (each-all IsCellTable cell_table_at cell_table_at-within 0 (tables (codes "cell") top) cells cells_are) in
    let guest_count = length-each guest_at 0 (tables (codes "guest") top) guests guests_are in
    let work_count = length-each work_at 0 (tables (codes "work") top) work work_is in
    let input_count = length-each input_at 0 (tables (codes "input") top) input input_is in
    let here : IsWithin (record { machine = machine; cells = or_one_cell machine.nodes cells; guests = guests; policy = policy; work = work; input = input }) = record {
      machine = within;
      some_cells = all_cells.some;
      few_cells = all_cells.few;
      cells = all_cells.all;
      some_guests = omega (arith, guest_count, sized.some_guests);
      few_guests = omega (arith, guest_count, sized.few_guests);
      guests = each-all IsGuestTable guest_at guest_at-within 0 (tables (codes "guest") top) guests guests_are;
      policy = policy_at-within (table (codes "policy") top) policy policy_is;
      few_work = omega (arith, work_count, sized.few_work);
      work = each-all IsWork work_at work_at-within 0 (tables (codes "work") top) work work_is;
      few_input = omega (arith, input_count, sized.few_input);
      input = each-all IsInputTable input_at input_at-within 0 (tables (codes "input") top) input input_is;
    } in
    subst IsWithin (same_value _ s is) here
