-- The tables of a description: each a list of its keys in order, with kind, range and default.
use Rattle.std.specs.Prelude.{List, [], ◌∷◌, codes}
use Rattle.toml.specs.Data.{no_members}
use Rattle.machine_desc.specs.Kinds.{between, node_list, text_to, one_of, one_table, array_of, a_number, a_text, a_table, some_tables, nothing, Row, required, optional}

-- the top level
abbrev pub top_rows : List Row
top_rows =
    required (codes "machine") one_table
    ∷ optional (codes "cell") (array_of 1 8) (some_tables [])
    ∷ required (codes "guest") (array_of 1 8)
    ∷ optional (codes "policy") one_table (a_table no_members)
    ∷ optional (codes "work") (array_of 0 4096) (some_tables [])
    ∷ optional (codes "input") (array_of 0 1024) (some_tables [])
    ∷ []

-- the table `machine`
abbrev pub machine_rows : List Row
machine_rows =
    required (codes "nodes") (between 1 8)
    ∷ required (codes "frames") (between 1 4096)
    ∷ required (codes "processors") (node_list 32)
    ∷ optional (codes "cache") (between 0 1024) (a_number 0)
    ∷ []

-- a table `cell`
abbrev pub cell_rows : List Row
cell_rows =
    required (codes "nodes") (node_list 8)
    ∷ optional (codes "lend") (between 0 32768) (a_number 0)
    ∷ []

-- how the image of a guest is written
abbrev pub form_row : Row
form_row = optional (codes "form") (one_of (codes "elf" ∷ codes "raw" ∷ [])) (a_text (codes "elf"))

-- a table `guest`
abbrev pub guest_rows : List Row
guest_rows =
    required (codes "image") (text_to 255)
    ∷ form_row
    ∷ required (codes "pages") (between 1 2048)
    ∷ required (codes "vcpus") (between 1 4)
    ∷ required (codes "node") (between 0 7)
    ∷ optional (codes "disk") (text_to 255) nothing
    ∷ optional (codes "profile") (between 1 2) (a_number 1)
    ∷ []

-- the table `policy`
abbrev pub policy_rows : List Row
policy_rows =
    optional (codes "migrate") (between 0 1000000) (a_number 0)
    ∷ optional (codes "replicate") (between 0 1000000) (a_number 0)
    ∷ []

-- what a piece of work does
abbrev pub act_row : Row
act_row = required (codes "act") (one_of (codes "run" ∷ codes "move" ∷ codes "fail" ∷ []))

-- how a page moves
abbrev pub kind_row : Row
kind_row =
    required (codes "kind") (one_of (codes "migrate" ∷ codes "replicate" ∷ codes "collapse" ∷ []))

-- who does the work
abbrev pub processor_row : Row
processor_row = required (codes "processor") (between 0 31)

-- which guest the work or the input is for
abbrev pub guest_row : Row
guest_row = required (codes "guest") (between 0 7)

-- which page moves
abbrev pub page_row : Row
page_row = required (codes "page") (between 0 2047)

-- a run
abbrev pub run_rows : List Row
run_rows =
    processor_row
    ∷ guest_row
    ∷ required (codes "vcpu") (between 0 3)
    ∷ required (codes "steps") (between 0 16000000)
    ∷ []

-- a move that names no node
abbrev pub collapse_rows : List Row
collapse_rows = processor_row ∷ guest_row ∷ page_row ∷ []

-- a move to a node
abbrev pub move_rows : List Row
move_rows = processor_row ∷ guest_row ∷ page_row ∷ required (codes "node") (between 0 7) ∷ []

-- the failure of a cell
abbrev pub fail_rows : List Row
fail_rows = processor_row ∷ required (codes "cell") (between 0 7) ∷ []

-- a table `input`
abbrev pub input_rows : List Row
input_rows =
    guest_row
    ∷ required (codes "at") (between 0 16000000)
    ∷ required (codes "text") (text_to 1024)
    ∷ []
