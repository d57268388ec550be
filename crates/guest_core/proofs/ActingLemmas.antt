-- A turn that does what is left of a step: what it asked of frames, and what it then did.
use Rattle.std.proofs.Common.{◌≡◌, inl, inr, ⊎_elim, ℕ, ◌==◌, if◌then◌else◌, Bool, true, false, List, [], Some, None, refl, sym, ap, ◌∙◌, subst}
use Rattle.std.specs.Prelude.{◌⊎◌, IsErr, Result, Ok, Err}
use Rattle.base_words.specs.declared.ids.Ppn.{Ppn}
use Rattle.base_words.specs.declared.ids.ProcId.{ProcId}
use Rattle.base_words.specs.declared.ids.VcpuId.{VcpuId}
use Rattle.base_words.specs.declared.moves.MoveKind.{MoveKind}
use Rattle.base_words.specs.declared.moves.MoveKind.TheVariants.{Break, Collapse}
use Rattle.frame_words.specs.declared.view.View.{View}
use Rattle.guest_devs.specs.declared.act.DevAct.{DevAct}
use Rattle.guest_devs.specs.declared.act.DevAct.TheVariants as acts
use Rattle.private_machine.specs.DeviceAct.{ReadsDisk, StoresTo, NoAct}
use Rattle.private_machine.specs.DevicePage.{transfer_of}
use Rattle.private_machine.specs.Devices.{disk_status}
use Rattle.shootdown.specs.declared.notes.Note.{Note}
use Rattle.shootdown.specs.Notes.{Token}
use Rattle.isolation_law.specs.Content.{content}
use Rattle.isolation_law.specs.GuestState.{GuestState}
use Rattle.isolation_law.specs.StepAct.{at_hand}
use Rattle.guest_course.specs.Acting.{act_of, page_used}
use Rattle.guest_course.specs.Hurdles.{ActIsFree, ActNeeds}
use Rattle.guest_course.specs.Tasks.{read_page}
use Rattle.guest_core.specs.GuestCalls.{Leaves, Turns, TurnsEmulate, WantsMemory, told_of_turn}
use Rattle.guest_core.specs.declared.answers.Turn.{Turn}
use Rattle.std.specs.declared.alloc.AllocError.{AllocError}
use Rattle.guest_core.specs.GuestView.{AreOf, IsSameGuest, Monitored, Shared}
use Rattle.guest_course.specs.StepCalls.{LosesPage}
use Rattle.guest_core.specs.MoveCalls.{IsAtRest, StepIsOn}
use Rattle.guest_core.specs.Sharing.{BeginsForStep, BeginsWith, Copies, SendsPlain}
use Rattle.guest_core.specs.TurnParts.{BeginsFor, CarriesOut, StaysButView, WantsForAct}
use Rattle.guest_core.proofs.EnterProofs.{stepped-on}
use Rattle.guest_core.proofs.MoveLemmas.{needs-kind}

-- the page into which a block comes is used
pub read-used : (s : GuestState) (v q : ℕ) (act : DevAct) → read_page s v act ≡ Some q → page_used (act_of s v act) ≡ Some q
read-used s v q acts.Done reads = cc
read-used s v q acts.DiskRead reads = by (disk_status (content s) (transfer_of s.devices v) 1 == 0) reads
  where
    by : (done : Bool) → (if done then Some (transfer_of s.devices v).page else None) ≡ Some q → page_used (if done then ReadsDisk (transfer_of s.devices v).block (transfer_of s.devices v).page else NoAct) ≡ Some q
    by true is = is
    by false is = cc
read-used s v q acts.DiskWrite reads = cc
read-used s v q (acts.Send to) reads = cc

-- what the guest shares is the same of the same guest
pub are-again : (shared : Shared) (old new : Monitored) → AreOf shared old → IsSameGuest old new → AreOf shared new
are-again shared old new are same =
    subst (λ (g : Monitored). AreOf shared g) (λ i. record new { start = sym same.start i; table = sym same.table i; wires = sym same.wires i })
    (record { table = record { made = are.table.made; fits = are.table.fits }; wires = are.wires; blocks = are.blocks })

-- a call before which only the view changed
pub leaves-seen : (old mid new : Monitored) (token after : Token) (told : List Note) → mid ≡ record old { view = mid.view } → Leaves mid token told new after → Leaves old token told new after
leaves-seen old mid new token after told same leaves =
    let l : Leaves (record old { view = mid.view }) token told new after = subst (λ (g : Monitored). Leaves g token told new after) same leaves in
    record {
      learns = record { seat = l.learns.seat; token_is = l.learns.token_is };
      same = record { number = l.same.number; start = l.same.start; disk = l.same.disk; board = l.same.board; table = l.same.table; wires = l.same.wires; own = l.same.own };
      handed = l.handed;
      room = l.room;
    }

-- no frame was had, and memory was wanting
pub wants-then : (shared : Shared) (old mid new : Monitored) (v : ℕ) → StaysButView shared old v mid → WantsForAct mid v new → WantsMemory shared old v new
wants-then shared old mid new v stays wants =
    let w : WantsForAct (record old { view = mid.view }) v new = subst (λ (g : Monitored). WantsForAct g v new) stays.same wants in
    let view : new.view ≡ mid.view = ap (λ (g : Monitored). g.view) w.same in
    record {
      same = w.same ∙ (λ i. record old { view = sym view i; room = new.room });
      looks = inr (record { copies = subst (Copies shared old.disk old.state v old.view) (sym view) stays.copies; plain = subst (SendsPlain shared old.state v old.view) (sym view) stays.plain });
      takes = w.takes;
    }

pub wants-first : (shared : Shared) (old new : Monitored) (v : ℕ) → WantsForAct old v new → WantsMemory shared old v new
wants-first shared old new v wants =
    let view : new.view ≡ old.view = ap (λ (g : Monitored). g.view) wants.same in
    record { same = wants.same ∙ (λ i. record old { view = sym view i; room = new.room }); looks = inl view; takes = wants.takes }

-- no frame was had, and the step was made
pub carried-then : (shared : Shared) (old mid new : Monitored) (p : ProcId) (v : VcpuId) (act : DevAct) → IsAtRest old.state p.0 → at_hand old.state v.0 ≡ act_of old.state v.0 act → ActIsFree old.state v.0 act → StaysButView shared old v.0 mid → CarriesOut mid p v new
    → TurnsEmulate shared old p v new
carried-then shared old mid new p v act rest at free stays carries =
    let c : CarriesOut (record old { view = mid.view }) p v new = subst (λ (g : Monitored). CarriesOut g p v new) stays.same carries in
    stepped-on shared old new p v rest
    (record {
      free = λ q uses. inl (free.rests q (ap page_used (sym at) ∙ uses));
      copies = subst (Copies shared old.disk old.state v.0 old.view) (sym c.view) stays.copies;
      plain = subst (SendsPlain shared old.state v.0 old.view) (sym c.view) stays.plain;
    })
    c.row c.goes_on (record { journal = c.makes.journal; run = c.makes.run }) (record { out = c.sends.out; whole = c.sends.whole; sends = c.sends.sends; sent = c.sends.sent })

-- no frame was had, and the move began that the read needs to copy
with-kind : (shared : Shared) (disk : ℕ) (s : GuestState) (v q : ℕ) (t : GuestState) (kind : MoveKind) (old new : View) → (kind ≡ Break) ⊎ (kind ≡ Collapse) → Copies shared disk s v old new → BeginsWith kind shared disk s v q t old new
with-kind shared disk s v q t kind old new is copies =
    ⊎_elim (λ (e : kind ≡ Break). subst (λ (k : MoveKind). BeginsWith k shared disk s v q t old new) (sym e) copies) (λ (e : kind ≡ Collapse). subst (λ (k : MoveKind). BeginsWith k shared disk s v q t old new) (sym e) copies) is

pub begun-then : (shared : Shared) (old mid new : Monitored) (p : ProcId) (v : VcpuId) (act : DevAct) (q : Ppn) (kind : MoveKind) → IsAtRest old.state p.0 → at_hand old.state v.0 ≡ act_of old.state v.0 act → ActNeeds old.state v.0 act q.0 kind → StaysButView shared old v.0 mid
    → BeginsFor mid p q kind new → BeginsForStep shared old p v q new
begun-then shared old mid new p v act q kind rest at needs stays begins =
    let b : BeginsFor (record old { view = mid.view }) p q kind new = subst (λ (g : Monitored). BeginsFor g p q kind new) stays.same begins in
    record {
      rest = rest;
      step = inr (ap page_used at ∙ read-used old.state v.0 q.0 act needs.reads);
      kind = kind;
      shares = inr (with-kind shared old.disk old.state v.0 q.0 new.state kind old.view new.view (needs-kind old.state q.0 kind needs.needs.needs) (subst (Copies shared old.disk old.state v.0 old.view) (sym b.view) stays.copies));
      makes = record { makes = record { journal = b.makes.makes.journal; run = b.makes.makes.run }; passes = b.makes.passes };
    }

-- a store needs a move of its page, and reads no block
pub begun-store : (shared : Shared) (old new : Monitored) (p : ProcId) (v : VcpuId) (q : Ppn) (kind : MoveKind) → IsAtRest old.state p.0 → (kind ≡ Break) ⊎ (kind ≡ Collapse) → StepIsOn old.state p.0 v.0 q.0 → at_hand old.state v.0 ≡ StoresTo q.0 → BeginsFor old p q kind new
    → BeginsForStep shared old p v q new
begun-store shared old new p v q kind rest is step stores b = record {
  rest = rest;
  step = step;
  kind = kind;
  shares = inr (with-kind shared old.disk old.state v.0 q.0 new.state kind old.view new.view is (λ b r at rests. absurd (no b r (sym stores ∙ at))));
  makes = b.makes;
}
  where
    no : (b r : ℕ) → StoresTo q.0 ≡ ReadsDisk b r → ⊥
    no b r e = cc

-- a page is collapsed that was reached by a frame of a failed cell
pub begun-lost : (shared : Shared) (old new : Monitored) (p : ProcId) (v : VcpuId) (q : Ppn) → IsAtRest old.state p.0 → LosesPage old.state p.0 v.0 q.0 → BeginsFor old p q Collapse new → BeginsForStep shared old p v q new
begun-lost shared old new p v q rest loses b = record {
  rest = rest;
  step = inl (inr loses);
  kind = Collapse;
  shares = inl (record { loses = loses; is_collapse = refl; view = b.view });
  makes = b.makes;
}

-- ---- where memory was wanting

pub told-err : (p : ProcId) (v : VcpuId) (r : Result Turn AllocError) → IsErr r → told_of_turn p v r ≡ []
told-err p v (Ok x) err = absurd cc
told-err p v (Err e) err = refl

pub turns-err : (shared : Shared) (old : Monitored) (p : ProcId) (v : VcpuId) (new : Monitored) (r : Result Turn AllocError) → IsErr r → WantsMemory shared old v.0 new → Turns shared old p v new r
turns-err shared old p v new (Ok x) err wants = absurd cc
turns-err shared old p v new (Err e) err wants = wants
