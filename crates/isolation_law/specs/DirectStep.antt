-- What a step through the TLB leaves of a guest.
use Rattle.std.specs.Prelude.{ℕ, ◌==◌, not, if◌then◌else◌, Bool, true, false, List, [], ◌∷◌, Option, None, map, slice_index_or, slice_set}
use Rattle.base_words.specs.declared.regs.Regs.{Regs}
use Rattle.base_words.specs.declared.effect.Request.{Request}
use Rattle.base_words.specs.declared.trap.DataAccess.{DataAccess}
use Rattle.base_words.specs.declared.trap.DataAccess.TheVariants as at_data
use Rattle.base_words.specs.Coprocessor.{interrupts, in_user_mode}
use Rattle.private_machine.specs.declared.vcpu.Vcpu.{Vcpu}
use Rattle.private_machine.specs.Vcpu.{with_registers, with_cp0, with_link, ticking}
use Rattle.private_machine.specs.RegisterPage.{registers_after}
use Rattle.private_machine.specs.OwnStep.{joined}
use Rattle.private_machine.specs.Backing.{Held, node_of_frame}
use Rattle.private_machine.specs.Reaching.{Sight}
use Rattle.private_machine.specs.HardwareStep.{Done}
use Rattle.private_machine.specs.DirectAccess.{data_reached, stepped_through, data_told}
use Rattle.isolation_law.specs.Surroundings.{Surroundings, cell_of_frame, node_of_processor}
use Rattle.isolation_law.specs.GuestState.{GuestState, processor, vcpu_of, block_at, with_vcpu, with_block, due_on, misses_of, with_misses}
use Rattle.isolation_law.specs.Content.{content, with_own}
use Rattle.private_machine.specs.Policy.{Misses, noted}
use Rattle.isolation_law.specs.Policy.{chosen, due_after}

-- input whose time has come joins the queue before a step
abbrev pub with_inputs : GuestState → ℕ → GuestState
with_inputs s v = with_own (joined (content s) v) s

-- the frames of cells that have failed
abbrev pub lost_frames : Surroundings → List Bool → ℕ → Bool
lost_frames w dead frame = slice_index_or dead (cell_of_frame w frame) false

-- what a processor goes by in a step of a virtual processor, once its input has joined
abbrev pub sight : GuestState → ℕ → ℕ → Sight
sight s p v =
    let c = vcpu_of s v in record {
      block = block_at s v;
      user = in_user_mode c.cp0.status;
      asid = c.cp0.entry_hi.asid;
      line = interrupts c.cp0;
      tlb = (processor s p).tlb;
      lost = lost_frames s.around s.dead;
    }

-- what a step can change: pages and links; they are put back
abbrev pub held_of : GuestState → Held
held_of s = record { pages = s.pages; links = map (λ c. c.link) s.vcpus }

abbrev pub relinked : List (Option ℕ) → List Vcpu → List Vcpu
relinked [] cs = cs
relinked (link ∷ links) [] = []
relinked (link ∷ links) (c ∷ cs) = with_link link c ∷ relinked links cs

abbrev pub with_held : Held → GuestState → GuestState
with_held h s = record s { pages = h.pages; vcpus = relinked h.links s.vcpus }

-- a virtual processor has these registers, a register of coprocessor 0 that was written on the register page takes its word, and the
-- step is over
abbrev pub ticked_with : ℕ → Regs → Request → GuestState → GuestState
ticked_with v regs request s =
    let c = vcpu_of s v in with_vcpu s v (ticking (with_cp0 (registers_after request c.cp0) (with_registers regs c)))

-- an access of a processor to a frame of a page is noted: the miss and the mark, and then the choice
abbrev pub is_miss : GuestState → ℕ → ℕ → Bool
is_miss s p frame = not (node_of_frame s.around.frames frame == node_of_processor s.around p)

abbrev pub misses_after : GuestState → ℕ → ℕ → ℕ → Bool → Misses
misses_after s p q frame store = noted (is_miss s p frame) store (node_of_processor s.around p) (misses_of s q)

abbrev pub access_noted : ℕ → ℕ → ℕ → Bool → GuestState → GuestState
access_noted p q frame store s =
    let misses = misses_after s p q frame store in
    let chosen = if is_miss s p frame then chosen s.around.policy q (node_of_processor s.around p) misses else None in
    record (with_misses s q misses) { due = slice_set s.due p (due_after chosen (due_on s p)) }

abbrev pub data_noted : ℕ → DataAccess → GuestState → GuestState
data_noted p at_data.NoData s = s
data_noted p (at_data.Load page frame) s = access_noted p page.0 frame.0 false s
data_noted p (at_data.Store page frame) s = access_noted p page.0 frame.0 true s

-- the step: what its access leaves is put back, with the register page, the step is counted, and its data access is noted
abbrev pub direct : GuestState → ℕ → ℕ → Done → GuestState
direct s p v d =
    let u = with_inputs s v in
    let after = stepped_through v (block_at u v) (held_of u) d in
    with_block v after.block (data_noted p (data_told v (data_reached d) d.does.request (held_of u)) (ticked_with v after.registers d.does.request (with_held after.held u)))
