-- No fault of a table is want of memory.
use Rattle.std.proofs.Common.{ℕ, List, [], ◌∷◌, ◌++◌, map, Option, Some, None, codes}
use Rattle.base_words.specs.declared.moves.MoveKind.{MoveKind}
use Rattle.base_words.specs.declared.moves.MoveKind.TheVariants.{Migrate, Replicate, Collapse, Break, TakeShared, GiveShared}
use Rattle.toml.specs.Data.{Data, Members, get_member}
use Rattle.machine_desc.specs.declared.place.Place.{Place}
use Rattle.machine_desc.specs.declared.place.Place.TheVariants as places
use Rattle.machine_desc.specs.declared.sheet.Act.{Act}
use Rattle.machine_desc.specs.declared.sheet.Act.TheVariants as acts
use Rattle.machine_desc.specs.Paths.{path}
use Rattle.machine_desc.specs.Reads.{each}
use Rattle.machine_desc.specs.Kinds.{Cell, Row}
use Rattle.machine_desc.specs.Rows.{top_rows, machine_rows, cell_rows, guest_rows, policy_rows, input_rows, act_row, kind_row, run_rows, collapse_rows, move_rows, fail_rows}
use Rattle.machine_desc.specs.Cells.{cell_at, held, absent}
use Rattle.machine_desc.specs.Unknown.{only, refused, least_unknown, keys_in}
use Rattle.machine_desc.specs.Tables.{cells_at, table_at, bytes_of, table, tables}
use Rattle.machine_desc.specs.Sheet.{machine_at, cell_table_at, guest_at, policy_at, input_at}
use Rattle.machine_desc.specs.Work.{kind_of, act_of, run_at, move_to_at, collapse_at, move_by, move_at, fail_at, work_by, work_at}
use Rattle.machine_desc.specs.Shapes.{top_at, sheet_at}
use Rattle.machine_desc.proofs.FaultsTell.{Tells, Tells-then, Tells-each, Tells-value_in}

Tells-absent : (key : List ℕ) (default : Option Cell) → Tells (absent key default)
Tells-absent key None = λ is. cc
Tells-absent key (Some cell) = tt

Tells-held : (key : List ℕ) (row : Row) (d : Option Data) → Tells (held key row d)
Tells-held key row None = Tells-absent key row.default
Tells-held key row (Some d) = Tells-value_in key row.kind d

Tells-cell_at : (place : Place) (row : Row) (ms : Members) → Tells (cell_at place row ms)
unfolding cell_at
Tells-cell_at place row ms = Tells-held (path place row.key) row (get_member row.key ms)

Tells-refused : (place : Place) (found : Option (List ℕ)) → Tells (refused place found)
Tells-refused place None = tt
Tells-refused place (Some key) = λ is. cc

Tells-only : (place : Place) (known : List (List ℕ)) (ms : Members) → Tells (only place known ms)
unfolding only
Tells-only place known ms = Tells-refused place (least_unknown known (keys_in ms))

Tells-cells_at : (place : Place) (rows : List Row) (ms : Members) → Tells (cells_at place rows ms)
Tells-cells_at place [] ms = tt
Tells-cells_at place (row ∷ rows) ms = Tells-then (cell_at place row ms) _ (Tells-cell_at place row ms) (λ cell. Tells-then (cells_at place rows ms) _ (Tells-cells_at place rows ms) (λ cells. tt))

Tells-table_at : (place : Place) (before rows : List Row) (ms : Members) → Tells (table_at place before rows ms)
Tells-table_at place before rows ms = Tells-then (only place (map (λ row. row.key) (before ++ rows)) ms) _ (Tells-only place _ ms) (λ _. Tells-cells_at place rows ms)

Tells-machine_at : (ms : Members) → Tells (machine_at ms)
unfolding machine_at
Tells-machine_at ms = Tells-then (table_at places.Machine [] machine_rows ms) _ (Tells-table_at places.Machine [] machine_rows ms) (λ cells. tt)

Tells-cell_table_at : (i : ℕ) (ms : Members) → Tells (cell_table_at i ms)
unfolding cell_table_at
Tells-cell_table_at i ms = Tells-then (table_at (places.Cell i) [] cell_rows ms) _ (Tells-table_at (places.Cell i) [] cell_rows ms) (λ cells. tt)

Tells-guest_at : (i : ℕ) (ms : Members) → Tells (guest_at i ms)
unfolding guest_at
Tells-guest_at i ms = Tells-then (table_at (places.Guest i) [] guest_rows ms) _ (Tells-table_at (places.Guest i) [] guest_rows ms) (λ cells. tt)

Tells-policy_at : (ms : Members) → Tells (policy_at ms)
unfolding policy_at
Tells-policy_at ms = Tells-then (table_at places.Policy [] policy_rows ms) _ (Tells-table_at places.Policy [] policy_rows ms) (λ cells. tt)

Tells-input_at : (i : ℕ) (ms : Members) → Tells (input_at i ms)
unfolding input_at
Tells-input_at i ms = Tells-then (table_at (places.Input i) [] input_rows ms) _ (Tells-table_at (places.Input i) [] input_rows ms) (λ cells. tt)

Tells-run_at : (i : ℕ) (ms : Members) → Tells (run_at i ms)
unfolding run_at
Tells-run_at i ms = Tells-then (table_at (places.Work i) (act_row ∷ []) run_rows ms) _ (Tells-table_at (places.Work i) (act_row ∷ []) run_rows ms) (λ cells. tt)

Tells-move_to_at : (i : ℕ) (kind : MoveKind) (ms : Members) → Tells (move_to_at i kind ms)
unfolding move_to_at
Tells-move_to_at i kind ms = Tells-then (table_at (places.Work i) (act_row ∷ kind_row ∷ []) move_rows ms) _ (Tells-table_at (places.Work i) (act_row ∷ kind_row ∷ []) move_rows ms) (λ cells. tt)

Tells-collapse_at : (i : ℕ) (ms : Members) → Tells (collapse_at i ms)
unfolding collapse_at
Tells-collapse_at i ms = Tells-then (table_at (places.Work i) (act_row ∷ kind_row ∷ []) collapse_rows ms) _ (Tells-table_at (places.Work i) (act_row ∷ kind_row ∷ []) collapse_rows ms) (λ cells. tt)

Tells-move_by : (i : ℕ) (kind : MoveKind) (ms : Members) → Tells (move_by i kind ms)
Tells-move_by i Migrate ms = Tells-move_to_at i Migrate ms
Tells-move_by i Replicate ms = Tells-move_to_at i Replicate ms
Tells-move_by i Collapse ms = Tells-collapse_at i ms
Tells-move_by i Break ms = Tells-move_to_at i Break ms
Tells-move_by i TakeShared ms = Tells-move_to_at i TakeShared ms
Tells-move_by i GiveShared ms = Tells-move_to_at i GiveShared ms

Tells-move_at : (i : ℕ) (ms : Members) → Tells (move_at i ms)
unfolding move_at
Tells-move_at i ms = Tells-then (cell_at (places.Work i) kind_row ms) _ (Tells-cell_at (places.Work i) kind_row ms) (λ kind. Tells-move_by i (kind_of (bytes_of kind)) ms)

Tells-fail_at : (i : ℕ) (ms : Members) → Tells (fail_at i ms)
unfolding fail_at
Tells-fail_at i ms = Tells-then (table_at (places.Work i) (act_row ∷ []) fail_rows ms) _ (Tells-table_at (places.Work i) (act_row ∷ []) fail_rows ms) (λ cells. tt)

Tells-work_by : (i : ℕ) (act : Act) (ms : Members) → Tells (work_by i act ms)
Tells-work_by i acts.Run ms = Tells-run_at i ms
Tells-work_by i acts.Move ms = Tells-move_at i ms
Tells-work_by i acts.Fail ms = Tells-fail_at i ms

Tells-work_at : (i : ℕ) (ms : Members) → Tells (work_at i ms)
unfolding work_at
Tells-work_at i ms = Tells-then (cell_at (places.Work i) act_row ms) _ (Tells-cell_at (places.Work i) act_row ms) (λ act. Tells-work_by i (act_of (bytes_of act)) ms)

Tells-top_at : (ms : Members) → Tells (top_at ms)
unfolding top_at
Tells-top_at ms = Tells-table_at places.Top [] top_rows ms

pub Tells-sheet_at : (ms : Members) → Tells (sheet_at ms)
unfolding sheet_at
Tells-sheet_at ms =
    Tells-then (top_at ms) _ (Tells-top_at ms) λ top.
    Tells-then (machine_at (table (codes "machine") top)) _ (Tells-machine_at (table (codes "machine") top)) λ machine.
    Tells-then (each cell_table_at 0 (tables (codes "cell") top)) _ (Tells-each cell_table_at Tells-cell_table_at 0 (tables (codes "cell") top)) λ cells.
    Tells-then (each guest_at 0 (tables (codes "guest") top)) _ (Tells-each guest_at Tells-guest_at 0 (tables (codes "guest") top)) λ guests.
    Tells-then (policy_at (table (codes "policy") top)) _ (Tells-policy_at (table (codes "policy") top)) λ policy.
    Tells-then (each work_at 0 (tables (codes "work") top)) _ (Tells-each work_at Tells-work_at 0 (tables (codes "work") top)) λ work.
    Tells-then (each input_at 0 (tables (codes "input") top)) _ (Tells-each input_at Tells-input_at 0 (tables (codes "input") top)) λ input. tt
