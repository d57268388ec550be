-- The machine and the plan of a guest of the command line are within all bounds, and built.
use Rattle.std.proofs.Common.{◌≡◌, ℕ, ◌<◌, ◌≤◌, Bool, [], ◌∷◌, None, refl, ap, arith}
use Rattle.std.specs.Prelude.{All}
use Rattle.std.proofs.lemmas.List.Elements.{All-nil, All-cons}
use Rattle.base_words.specs.declared.ids.CellId.{CellId}
use Rattle.base_words.specs.declared.ids.NodeId.{NodeId}
use Rattle.machine_desc.specs.Bounds.{IsGuest, IsItem, IsInput, IsEntry}
use Rattle.machine_desc.specs.Accepted.{IsAccepted}
use Rattle.node_frames.specs.Left.{has}
use Rattle.admission.specs.Jobs.{short_in, single_guest, single_described}

-- of a list of one item
one-all : {X : Type 0} (P : X → Type 0) (x : X) → P x → All P (x ∷ [])
one-all P x holds = All-cons P x [] holds (All-nil P)

pub single-accepted : (raw : Bool) (steps : ℕ) → steps ≤ 16000000 → IsAccepted (single_described raw steps)
single-accepted raw steps few = record {
  some_nodes = omega arith;
  few_nodes = omega arith;
  some_frames = omega arith;
  few_frames = omega arith;
  some_processors = omega arith;
  few_processors = omega arith;
  on_nodes = one-all (λ (node : NodeId). node.0 < 1) (record { 0 = 0 }) (omega arith);
  some_cells = omega arith;
  few_cells = omega arith;
  small_lends = one-all (λ (lend : ℕ). lend ≤ 32768) 0 (omega arith);
  in_cells = refl;
  of_cells = one-all (λ (cell : CellId). cell.0 < 1) (record { 0 = 0 }) (omega arith);
  no_empty_cell = λ cell lt. (let e : 0 ≡ cell = omega (arith, lt) in (0, omega arith, ap (λ (n : ℕ). let c : CellId = record { 0 = n } in c) e));
  small_cache = omega arith;
  some_guests = omega arith;
  few_guests = omega arith;
  guests = one-all (IsGuest 1) (single_guest raw) (record {
    image = record { some = omega arith; few = omega arith };
    some_pages = omega arith;
    few_pages = omega arith;
    some_vcpus = omega arith;
    few_vcpus = omega arith;
    home = omega arith;
    disk = tt;
    some_profile = omega arith;
    few_profiles = omega arith;
  });
  policy = record { migrate = omega arith; replicate = omega arith };
  few_items = omega arith;
  items = one-all (IsItem (single_described raw steps)) _ (record { on = omega arith; of = omega arith; few = few });
  few_steps = omega (arith, few);
  failed_once = λ cell. omega arith;
  each_input = refl;
  few_entries = omega arith;
  input = one-all IsInput [] (record { entries = All-nil IsEntry; in_order = λ i j d le lt. absurd (omega (arith, lt)) });
}

-- sixteen pages on as many frames
pub single-served : (raw : Bool) (steps : ℕ) → short_in (single_described raw steps) ≡ None
unfolding has
single-served raw steps = refl
