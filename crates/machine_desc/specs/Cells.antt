-- What a key of a table holds, or its fault.
use Rattle.std.specs.Prelude.{ℕ, List, Option, Some, None, Ok, Err}
use Rattle.toml.specs.Data.{Data, Members, get_member, as_table}
use Rattle.toml.specs.View.{table_view}
use Rattle.machine_desc.specs.declared.fault.DescFault.TheVariants as fault
use Rattle.machine_desc.specs.declared.place.Place.{Place}
use Rattle.machine_desc.specs.declared.section.Section.{Section}
use Rattle.machine_desc.specs.Paths.{path}
use Rattle.machine_desc.specs.Reads.{Read, ◌>>=◌}
use Rattle.machine_desc.specs.Kinds.{Kind, between, node_list, text_to, one_of, one_table, array_of, Cell, nothing, a_number, a_list, a_text, a_table, some_tables, Row}
use Rattle.machine_desc.specs.Values.{of_kind, number_in, text_in, word_in, nodes_in, tables_in}

-- what a key holds that is there
abbrev pub value_in : List ℕ → Kind → Data → Read Cell
value_in key (between low high) d = number_in key low high d >>= λ n. Ok (a_number n)
value_in key (node_list most) d = nodes_in key most d >>= λ ns. Ok (a_list ns)
value_in key (text_to most) d = text_in key most d >>= λ s. Ok (a_text s)
value_in key (one_of words) d = word_in key words d >>= λ s. Ok (a_text s)
value_in key one_table d = of_kind key (as_table d) >>= λ ms. Ok (a_table ms)
value_in key (array_of low high) d = tables_in key low high d >>= λ ts. Ok (some_tables ts)

-- what stands for a key that is absent
abbrev pub absent : List ℕ → Option Cell → Read Cell
absent key None = Err (fault.Missing key)
absent key (Some default) = Ok default

-- what a key holds, whether it is there or absent
abbrev pub held : List ℕ → Row → Option Data → Read Cell
held key row None = absent key row.default
held key row (Some d) = value_in key row.kind d

-- what the key of a row holds in a table
unfoldable pub cell_at : Place → Row → Members → Read Cell
cell_at place row ms = held (path place row.key) row (get_member row.key ms)

-- the cell of a key that may be absent
abbrev pub text_cell : Option (List ℕ) → Cell
text_cell None = nothing
text_cell (Some s) = a_text s

-- what the key of a row holds in this table of the code
abbrev pub holds : Section → Row → Read Cell
holds section row = cell_at section.place row (table_view section.table.now)
