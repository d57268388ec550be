-- What a table of work says is within its bounds.
use Rattle.std.proofs.Common.{◌≡◌, ◌⊎◌, ℕ, ◌≤◌, List, [], ◌∷◌, Bool, true, false, if◌then◌else◌, Option, None, Ok, codes, refl, ap, subst, inl, inr}
use Rattle.std.specs.Prelude.{bytes_eq, IsSome}
use Rattle.base_words.specs.declared.ids.NodeId.{NodeId}
use Rattle.base_words.specs.declared.moves.MoveKind.{MoveKind}
use Rattle.base_words.specs.declared.moves.MoveKind.TheVariants.{Migrate, Replicate, Collapse, Break, TakeShared, GiveShared}
use Rattle.toml.specs.Data.{Members}
use Rattle.machine_desc.specs.declared.place.Place.TheVariants as places
use Rattle.machine_desc.specs.declared.sheet.Act.{Act}
use Rattle.machine_desc.specs.declared.sheet.Act.TheVariants as acts
use Rattle.machine_desc.specs.declared.sheet.Work.{Work}
use Rattle.machine_desc.specs.declared.sheet.Work.TheVariants.{Run, Move, Fail}
use Rattle.machine_desc.specs.Rows.{act_row, kind_row, run_rows, collapse_rows, move_rows, fail_rows}
use Rattle.machine_desc.specs.Cells.{cell_at}
use Rattle.machine_desc.specs.Tables.{cells_at, table_at, cell_named, bytes_of, node_of}
use Rattle.machine_desc.specs.Unknown.{only}
use Rattle.machine_desc.specs.Work.{run_of, move_of, fail_of, kind_of, act_of, run_at, move_to_at, collapse_at, move_by, move_at, fail_at, work_by, work_at}
use Rattle.machine_desc.proofs.Stepwise.{bound}
use Rattle.machine_desc.proofs.Fitting.{cells_at-absent, table_at-fit}
use Rattle.machine_desc.proofs.TableSizes.{number_row, most}

-- where work of this kind may lead: a collapse names no node
abbrev pub MayLead : MoveKind → Option NodeId → Type 0
MayLead Migrate home = IsSome home
MayLead Replicate home = IsSome home
MayLead Collapse home = home ≡ None
MayLead Break home = ⊥
MayLead TakeShared home = ⊥
MayLead GiveShared home = ⊥

abbrev pub IsWork : Work → Type 0
IsWork (Run processor guest vcpu steps) = steps ≤ 16000000
IsWork (Move processor guest page kind node) = MayLead kind node
IsWork (Fail processor cell) = Unit {0}

run_at-within : (i : ℕ) (ms : Members) (work : Work) → run_at i ms ≡ Ok work → IsWork work
unfolding run_at
run_at-within i ms work is =
    let cells = bound (table_at (places.Work i) (act_row ∷ []) run_rows ms) (λ cells. Ok (run_of cells)) work is in
    let fits = table_at-fit (places.Work i) (act_row ∷ []) run_rows ms cells.0 refl cells.1 in
    let e : run_of cells.0 ≡ work = let s = cells.2 in cc in
    subst IsWork e (most (codes "steps") (cell_named (codes "steps") cells.0) 0 16000000 fits.1.1.1.0)

-- the kinds that a word may name
abbrev pub IsMoveTo : MoveKind → Type 0
IsMoveTo Migrate = Unit {0}
IsMoveTo Replicate = Unit {0}
IsMoveTo Collapse = ⊥
IsMoveTo Break = ⊥
IsMoveTo TakeShared = ⊥
IsMoveTo GiveShared = ⊥

may_lead : (kind : MoveKind) (home : Option NodeId) → IsMoveTo kind → IsSome home → MayLead kind home
may_lead Migrate home to some = some
may_lead Replicate home to some = some
may_lead Collapse home to some = absurd to
may_lead Break home to some = absurd to
may_lead TakeShared home to some = absurd to
may_lead GiveShared home to some = absurd to

move_to_at-within : (i : ℕ) (kind : MoveKind) (ms : Members) (work : Work) → IsMoveTo kind → move_to_at i kind ms ≡ Ok work → IsWork work
unfolding move_to_at
move_to_at-within i kind ms work to is =
    let cells = bound (table_at (places.Work i) (act_row ∷ kind_row ∷ []) move_rows ms) (λ cells. Ok (move_of kind cells)) work is in
    let fits = table_at-fit (places.Work i) (act_row ∷ kind_row ∷ []) move_rows ms cells.0 refl cells.1 in
    let e : move_of kind cells.0 ≡ work = let s = cells.2 in cc in
    let found = number_row (codes "node") (cell_named (codes "node") cells.0) 0 7 fits.1.1.1.0 in
    let some : IsSome (node_of (cell_named (codes "node") cells.0)) = rw found.is refl in
    subst IsWork e (may_lead kind (node_of (cell_named (codes "node") cells.0)) to some)

collapse_at-within : (i : ℕ) (ms : Members) (work : Work) → collapse_at i ms ≡ Ok work → IsWork work
unfolding collapse_at
collapse_at-within i ms work is =
    let cells = bound (table_at (places.Work i) (act_row ∷ kind_row ∷ []) collapse_rows ms) (λ cells. Ok (move_of Collapse cells)) work is in
    let read = bound (only (places.Work i) (codes "act" ∷ codes "kind" ∷ codes "processor" ∷ codes "guest" ∷ codes "page" ∷ []) ms) (λ _. cells_at (places.Work i) collapse_rows ms) cells.0 cells.1 in
    let e : move_of Collapse cells.0 ≡ work = let s = cells.2 in cc in
    let none = cells_at-absent (places.Work i) (codes "node") collapse_rows ms cells.0 refl read.2 in
    subst IsWork e (ap node_of none)

move_by-within : (i : ℕ) (kind : MoveKind) (ms : Members) (work : Work) → IsMoveTo kind ⊎ (kind ≡ Collapse) → move_by i kind ms ≡ Ok work → IsWork work
move_by-within i Migrate ms work (inl to) is = move_to_at-within i Migrate ms work to is
move_by-within i Replicate ms work (inl to) is = move_to_at-within i Replicate ms work to is
move_by-within i Collapse ms work (inl to) is = absurd to
move_by-within i Break ms work (inl to) is = absurd to
move_by-within i TakeShared ms work (inl to) is = absurd to
move_by-within i GiveShared ms work (inl to) is = absurd to
move_by-within i kind ms work (inr collapse) is = collapse_at-within i ms work (subst (λ (k : MoveKind). move_by i k ms ≡ Ok work) collapse is)

kind_of-is : (word : List ℕ) → IsMoveTo (kind_of word) ⊎ (kind_of word ≡ Collapse)
kind_of-is word = by (bytes_eq word (codes "migrate")) (bytes_eq word (codes "replicate"))
  where
    by : (a b : Bool) → let kind : MoveKind = if a then Migrate else if b then Replicate else Collapse in IsMoveTo kind ⊎ (kind ≡ Collapse)
    by true b = inl tt
    by false true = inl tt
    by false false = inr refl

move_at-within : (i : ℕ) (ms : Members) (work : Work) → move_at i ms ≡ Ok work → IsWork work
unfolding move_at
move_at-within i ms work is =
    let kind = bound (cell_at (places.Work i) kind_row ms) (λ kind. move_by i (kind_of (bytes_of kind)) ms) work is in
    move_by-within i (kind_of (bytes_of kind.0)) ms work (kind_of-is (bytes_of kind.0)) kind.2

fail_at-within : (i : ℕ) (ms : Members) (work : Work) → fail_at i ms ≡ Ok work → IsWork work
unfolding fail_at
fail_at-within i ms work is =
    let cells = bound (table_at (places.Work i) (act_row ∷ []) fail_rows ms) (λ cells. Ok (fail_of cells)) work is in
    let e : fail_of cells.0 ≡ work = let s = cells.2 in cc in
    subst IsWork e tt

pub work_at-within : (i : ℕ) (ms : Members) (work : Work) → work_at i ms ≡ Ok work → IsWork work
unfolding work_at
work_at-within i ms work is =
    let act = bound (cell_at (places.Work i) act_row ms) (λ act. work_by i (act_of (bytes_of act)) ms) work is in
    by (act_of (bytes_of act.0)) act.2
  where
    by : (a : Act) → work_by i a ms ≡ Ok work → IsWork work
    by acts.Run is = run_at-within i ms work is
    by acts.Move is = move_at-within i ms work is
    by acts.Fail is = fail_at-within i ms work is
