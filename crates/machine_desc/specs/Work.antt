-- What a work table says, by its act, or its first fault: `act` is read first, then `kind` of a move.
use Rattle.std.specs.Prelude.{ℕ, List, [], ◌∷◌, bytes_eq, if◌then◌else◌, codes, Ok}
use Rattle.toml.specs.Data.{Members}
use Rattle.base_words.specs.declared.moves.MoveKind.{MoveKind}
use Rattle.base_words.specs.declared.moves.MoveKind.TheVariants.{Migrate, Replicate, Collapse}
use Rattle.machine_desc.specs.declared.place.Place.TheVariants as places
use Rattle.machine_desc.specs.declared.sheet.Act.{Act}
use Rattle.machine_desc.specs.declared.sheet.Act.TheVariants as acts
use Rattle.machine_desc.specs.declared.sheet.Work.{Work}
use Rattle.machine_desc.specs.declared.sheet.Work.TheVariants.{Run, Move, Fail}
use Rattle.machine_desc.specs.Reads.{Read, ◌>>=◌}
use Rattle.machine_desc.specs.Rows.{act_row, kind_row, run_rows, collapse_rows, move_rows, fail_rows}
use Rattle.machine_desc.specs.Cells.{cell_at}
use Rattle.machine_desc.specs.Tables.{Cells, table_at, number, node_if_any, bytes_of}

-- the word of an act
abbrev pub act_word : Act → List ℕ
act_word acts.Run = codes "run"
act_word acts.Move = codes "move"
act_word acts.Fail = codes "fail"

-- the word of a kind of move
abbrev pub kind_word : MoveKind → List ℕ
kind_word Migrate = codes "migrate"
kind_word Replicate = codes "replicate"
kind_word _ = codes "collapse"

-- the act of a word
abbrev pub act_of : List ℕ → Act
act_of word =
    if bytes_eq word (codes "run") then acts.Run
    else if bytes_eq word (codes "move") then acts.Move else acts.Fail

-- the kind of move of a word
abbrev pub kind_of : List ℕ → MoveKind
kind_of word =
    if bytes_eq word (codes "migrate") then Migrate
    else if bytes_eq word (codes "replicate") then Replicate else Collapse

-- a run
abbrev pub run_of : Cells → Work
run_of cells =
    Run (record { 0 = number (codes "processor") cells }) (record { 0 = number (codes "guest") cells })
    (record { 0 = number (codes "vcpu") cells }) (number (codes "steps") cells)

-- a move
abbrev pub move_of : MoveKind → Cells → Work
move_of kind cells =
    Move (record { 0 = number (codes "processor") cells }) (record { 0 = number (codes "guest") cells })
    (record { 0 = number (codes "page") cells }) kind (node_if_any (codes "node") cells)

-- the failure of a cell
abbrev pub fail_of : Cells → Work
fail_of cells =
    Fail (record { 0 = number (codes "processor") cells }) (record { 0 = number (codes "cell") cells })

-- a run by its number, or its first fault
unfoldable pub run_at : ℕ → Members → Read Work
run_at i ms = table_at (places.Work i) (act_row ∷ []) run_rows ms >>= λ cells. Ok (run_of cells)

-- a move to a node
unfoldable pub move_to_at : ℕ → MoveKind → Members → Read Work
move_to_at i kind ms =
    table_at (places.Work i) (act_row ∷ kind_row ∷ []) move_rows ms >>= λ cells.
    Ok (move_of kind cells)

-- a collapse
unfoldable pub collapse_at : ℕ → Members → Read Work
collapse_at i ms =
    table_at (places.Work i) (act_row ∷ kind_row ∷ []) collapse_rows ms >>= λ cells.
    Ok (move_of Collapse cells)

-- the rows of a move are those of its kind: a collapse has no `node`
abbrev pub move_by : ℕ → MoveKind → Members → Read Work
move_by i Collapse ms = collapse_at i ms
move_by i kind ms = move_to_at i kind ms

-- a move, by its kind
unfoldable pub move_at : ℕ → Members → Read Work
move_at i ms = cell_at (places.Work i) kind_row ms >>= λ kind. move_by i (kind_of (bytes_of kind)) ms

-- a failure
unfoldable pub fail_at : ℕ → Members → Read Work
fail_at i ms = table_at (places.Work i) (act_row ∷ []) fail_rows ms >>= λ cells. Ok (fail_of cells)

-- a piece of work, by its act
abbrev pub work_by : ℕ → Act → Members → Read Work
work_by i acts.Run ms = run_at i ms
work_by i acts.Move ms = move_at i ms
work_by i acts.Fail ms = fail_at i ms

-- a table `work` by its number, or its first fault
unfoldable pub work_at : ℕ → Members → Read Work
work_at i ms = cell_at (places.Work i) act_row ms >>= λ act. work_by i (act_of (bytes_of act)) ms
