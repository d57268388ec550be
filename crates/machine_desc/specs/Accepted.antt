-- What is accepted: all that holds of each description that has no fault.
use Rattle.std.specs.Prelude.{◌≡◌, ℕ, ◌<◌, ◌≤◌, length, All, Contains, sum_by, count_by}
use Rattle.machine_desc.specs.declared.machine.Machine.{Machine}
use Rattle.machine_desc.specs.declared.plan.Plan.{Plan}
use Rattle.machine_desc.specs.Bounds.{IsGuest, IsPolicy, IsItem, item_steps, item_fails, IsInput}
use Rattle.machine_desc.specs.Described.{Described, described_seen}

-- a description that is accepted
pub record IsAccepted (d : Described) : Type 0 where
  pub some_nodes : 0 < d.nodes
  pub few_nodes : d.nodes ≤ 8
  pub some_frames : 0 < d.frames
  pub few_frames : d.frames ≤ 4096
  pub some_processors : 0 < length d.processors
  pub few_processors : length d.processors ≤ 32
  pub on_nodes : All (λ node. node.0 < d.nodes) d.processors
  pub some_cells : 0 < length d.lends
  pub few_cells : length d.lends ≤ 8
  pub small_lends : All (λ lend. lend ≤ 32768) d.lends
  pub in_cells : length d.cells ≡ d.nodes
  pub of_cells : All (λ cell. cell.0 < length d.lends) d.cells
  pub no_empty_cell : (cell : ℕ) → cell < length d.lends → Contains d.cells (record { 0 = cell })
  pub small_cache : d.cache ≤ 1024
  pub some_guests : 0 < length d.guests
  pub few_guests : length d.guests ≤ 8
  pub guests : All (IsGuest d.nodes) d.guests
  pub policy : IsPolicy d.policy
  pub few_items : length d.items ≤ 4096
  pub items : All (IsItem d) d.items
  pub few_steps : sum_by item_steps d.items ≤ 16000000
  pub failed_once : (cell : ℕ) → count_by (item_fails cell) d.items ≤ 1
  pub each_input : length d.input ≡ length d.guests
  pub few_entries : sum_by length d.input ≤ 1024
  pub input : All IsInput d.input

-- the machine and the plan are such
abbrev pub IsDescribed : Machine → Plan → Type 0
IsDescribed machine plan = IsAccepted (described_seen machine plan)
