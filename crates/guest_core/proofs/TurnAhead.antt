-- The turn of a step that traps, once room was made.
use Rattle.std.proofs.Common.{◌≡◌, ◌≢◌, ◌<◌, inl, ℕ, Option, Some, None, IfSome, Result, List, length, refl, sym, ap, ◌∙◌, subst}
use Rattle.base_words.specs.declared.ids.VcpuId.{VcpuId}
use Rattle.base_words.specs.declared.trap.TrapCause.{TrapCause}
use Rattle.std.specs.declared.alloc.AllocError.{AllocError}
use Rattle.std.proofs.lemmas.List.{append-nil}
use Rattle.base_words.specs.declared.events.End.TheVariants.{Budget}
use Rattle.shootdown.specs.declared.view.SidedNote.{SidedNote}
use Rattle.shootdown.specs.Notes.{Token}
use Rattle.guest_core.specs.declared.answers.Turn.{Turn}
use Rattle.isolation_law.specs.GuestState.{GuestState, processor}
use Rattle.isolation_law.specs.Phases.{MayAct}
use Rattle.isolation_law.specs.Start.{Boot}
use Rattle.guest_course.specs.StepCalls.{TrapsFor}
use Rattle.isolation_law.specs.Surroundings.{home_cell}
use Rattle.guest_core.specs.Blocks.{blocks_of, LieOnCell}
use Rattle.guest_core.specs.Holding.{FitsAround}
use Rattle.guest_core.specs.GuestView.{Monitored, Shared, AreOf, IsSameGuest}
use Rattle.guest_core.specs.GuestCalls.{MakesRoom, MayCall, StepsAhead, TrapsNext, TurnsAhead}
use Rattle.guest_core.specs.TurnParts.{MayRun}

same-guest : (g : Monitored) → IsSameGuest g g
same-guest g = record { number = refl; start = refl; disk = refl; board = refl; table = refl; wires = refl; own = refl }

none-budget : None ≡ Some Budget → ⊥
none-budget e = cc

-- the table, the wires and the blocks stay
pub shared-still : (shared : Shared) (g mid : Monitored) → IsSameGuest g mid → AreOf shared g → AreOf shared mid
shared-still shared g mid same of =
    let start : g.start ≡ mid.start = sym same.start in
    record {
      table = record { made = same.table ∙ of.table.made; fits = subst (λ (b : Boot). FitsAround shared.table b.around) start of.table.fits };
      wires = same.wires ∙ of.wires;
      blocks = subst (λ (b : Boot). LieOnCell b.around (home_cell b.around) (blocks_of shared.indexes (home_cell b.around))) start of.blocks;
    }

-- what a turn asks of the guest, beside room and rest
pub record MayTrap (shared : Shared) (g : Monitored) (token : Token) (v : VcpuId) (cause : TrapCause) : Type 0 where
  pub may : MayCall g token
  pub shared_is : AreOf shared g
  pub loaded : (processor g.state token.number).loaded ≡ Some v.0
  pub runs : MayRun g.state v.0
  pub acts : MayAct g.state token.number
  pub traps : TrapsFor g.state token.number v.0 cause

pub may-trap : (shared : Shared) (g mid : Monitored) (token : Token) (v : VcpuId) (cause : TrapCause) → MakesRoom g mid → MayCall g token → AreOf shared g → TrapsNext g token v cause → MayTrap shared mid token v cause
may-trap shared g mid token v cause room call of next =
    let same = room.same in
    let state : g.state ≡ mid.state = sym room.rests.stays.state in
    let start : g.start ≡ mid.start = sym same.start in
    record {
      may = record {
        notes = record {
          board = call.notes.board ∙ sym same.board;
          is_processor = subst (λ (b : Boot). token.number < length b.around.processors) start call.notes.is_processor;
        };
        before = λ e. call.before (ap (λ (s : GuestState). s.end) state ∙ e);
      };
      shared_is = shared-still shared g mid same of;
      loaded = subst (λ (s : GuestState). (processor s token.number).loaded ≡ Some v.0) state next.may.runs.loaded;
      runs = subst (λ (s : GuestState). MayRun s v.0) state (record { not_ended = next.may.goes_on.not_ended; running = next.may.runs.running });
      acts = subst (λ (s : GuestState). MayAct s token.number) state next.may.may_act;
      traps = subst (λ (s : GuestState). TrapsFor s token.number v.0 cause) state next.traps;
    }

-- ---- no step, and no turn

pub none-ahead : (shared : Shared) (g : Monitored) (token : Token) (v : VcpuId) → TurnsAhead shared g token v (record { steps = 0; turn = None }) g token
none-ahead shared g token v = record {
  mid = g;
  between = token;
  steps = record {
    rest = λ some. absurd (some refl);
    makes = record { makes = record { journal = sym (append-nil g.journal); run = inl refl }; passes = refl };
    learns = record { seat = sym (append-nil g.notes); token_is = ap (λ (ns : List SidedNote). record token { notes = ns }) (sym (append-nil token.notes)) };
    end = refl;
    same = same-guest g;
    handed = refl;
  };
  turn = (record { same = same-guest g; rests = record { stays = record { journal = refl; state = refl; view = refl }; passes = refl }; notes = refl; handed = refl }, refl);
}

-- ---- after the steps

-- the token's and the guest's rights stay
pub may-still : (g mid : Monitored) (token between : Token) (v : VcpuId) (n : ℕ) → StepsAhead g token v n mid between → MayCall g token → g.state.end ≡ None → MayCall mid between
may-still g mid token between v n steps call on =
    let same = steps.same in
    let number : between.number ≡ token.number = ap (λ (t : Token). t.number) steps.learns.token_is in
    let board : between.board ≡ token.board = ap (λ (t : Token). t.board) steps.learns.token_is in
    record {
      notes = record {
        board = board ∙ call.notes.board ∙ sym same.board;
        is_processor = subst (λ (b : Boot). between.number < length b.around.processors) (sym same.start) (subst (λ (p : ℕ). p < length g.start.around.processors) (sym number) call.notes.is_processor);
      };
      before = λ e. none-budget (sym (steps.end ∙ on) ∙ e);
    }

-- a turn comes only of a cause
pub fewer-by : (steps most : ℕ) (cause : Option TrapCause) (turn : Option (Result Turn AllocError)) → (cause ≡ None → turn ≡ None) → IfSome cause (λ c. steps < most) → IfSome turn (λ r. steps < most)
fewer-by steps most None turn caused fewer = subst (λ (o : Option (Result Turn AllocError)). IfSome o (λ r. steps < most)) (sym (caused refl)) tt
fewer-by steps most (Some cause) turn caused fewer = in-each turn fewer
  where
    in-each : (o : Option (Result Turn AllocError)) → steps < most → IfSome o (λ r. steps < most)
    in-each None lt = tt
    in-each (Some r) lt = lt
