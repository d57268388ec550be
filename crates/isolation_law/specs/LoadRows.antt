-- What is loaded on processors: loads, unloads and acknowledgements.
use Rattle.std.specs.Prelude.{◌≡◌, ◌≢◌, ℕ, ◌<◌, false, [], length, map, Some, None, slice_set}
use Rattle.base_words.specs.Membership.{IsMember}
use Rattle.base_words.specs.Halves.{without_page}
use Rattle.private_machine.specs.Backing.{Move}
use Rattle.private_machine.specs.PageMove.{left_by}
use Rattle.isolation_law.specs.Surroundings.{cell_of_processor}
use Rattle.isolation_law.specs.GuestState.{GuestState, idle, page, processor, is_dead, with_page, with_processor, with_tlb}
use Rattle.isolation_law.specs.Phases.{GoesOn, GoesOnOrLingers, MayAct}

-- A virtual processor that is loaded nowhere is loaded on a processor on which nothing is, in a cell that lives.
pub record Loads (s : GuestState) (p v : ℕ) (t : GuestState) : Type 0 where
  pub goes_on : GoesOn s
  pub is_processor : p < length s.processors
  pub is_vcpu : v < length s.vcpus
  pub nowhere : (r : ℕ) → (processor s r).loaded ≢ Some v
  pub free : (processor s p).loaded ≡ None
  pub lives : is_dead s (cell_of_processor s.around p) ≡ false
  pub after : t ≡ with_processor s p (record { loaded = Some v; tlb = [] })

-- what is left by an unload: no page waits for the processor, and nothing is due on it
abbrev pub unloaded : ℕ → GuestState → GuestState
unloaded p s = record s { pages = map (left_by p) s.pages; processors = slice_set s.processors p idle; due = slice_set s.due p None }

-- What is loaded on a processor is unloaded, and its TLB is emptied.
pub record Unloads (s : GuestState) (p : ℕ) (t : GuestState) : Type 0 where
  pub phase : GoesOnOrLingers s
  pub loaded : (processor s p).loaded ≢ None
  pub after : t ≡ unloaded p s

-- what is left by an acknowledgement
abbrev pub page_left : ℕ → ℕ → GuestState → GuestState
page_left p q s = with_tlb (with_page s q (left_by p (page s q))) p (without_page q (processor s p).tlb)

-- A processor drops what its TLB has of a page that waits for it.
pub record Acks (s : GuestState) (p q : ℕ) (t : GuestState) : Type 0 where
  pub goes_on : GoesOn s
  pub may_act : MayAct s p
  pub move : Move
  pub open_move : (page s q).move ≡ Some move
  pub waits : IsMember move.waiting p
  pub after : t ≡ page_left p q s
