-- What the guests of no run share.
use Rattle.std.proofs.Common.{[], ◌∷◌, arith}
use Rattle.frame_words.specs.Holders.{MadeTable}
use Rattle.guest_core.specs.GuestView.{Shared}

abbrev pub no_table : MadeTable
no_table = record {
  id = record { words = 0; slots = 0; views_name = 0; atom = 0; block = 0; offset = 0; slot_names = [] };
  terms = record { frames = 1; first = 0; lends = 0 ∷ []; some_frames = omega arith; numbered = omega arith; some_cells = omega arith; few_cells = omega arith };
}

abbrev pub nothing_shared : Shared
nothing_shared = record { table = no_table; wires = record { queues = []; terms = record { frames = 0; cells = []; homes = [] } }; indexes = [] }
