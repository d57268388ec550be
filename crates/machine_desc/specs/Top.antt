-- What stands at the top of a description, as cells.
use Rattle.std.specs.Prelude.{[], ◌∷◌, codes}
use Rattle.toml.specs.View.{table_view}
use Rattle.machine_desc.specs.declared.shapes.Top.{Top}
use Rattle.machine_desc.specs.Kinds.{a_table, some_tables}
use Rattle.machine_desc.specs.Views.{views, view_if_any}
use Rattle.machine_desc.specs.Tables.{Cells}

-- the tables at the top, by their keys
abbrev pub top_cells : Top → Cells
top_cells top =
    (codes "machine", a_table (table_view top.machine.now))
    ∷ (codes "cell", some_tables (views top.cells.items))
    ∷ (codes "guest", some_tables (views top.guests.items))
    ∷ (codes "policy", a_table (view_if_any top.policy))
    ∷ (codes "work", some_tables (views top.work.items))
    ∷ (codes "input", some_tables (views top.input.items))
    ∷ []
