-- How large a machine may be. The sets of processors and of cells have so many places.
use Rattle.std.specs.Prelude.{ℕ}

abbrev pub most_processors : ℕ
most_processors = 32

abbrev pub most_cells : ℕ
most_cells = 8
