-- A page that is taken shared: the end of that move by its own operation is its row.
use Rattle.std.proofs.Common.{◌≡◌, ◌≢◌, ◌⊎◌, inl, inr, subst, nat_eq, ℕ, ◌==◌, Bool, true, false, List, Option, Some, None, Ok, length, map, set, refl, sym, ap, ◌∙◌, length-set}
use Rattle.std.specs.Bool.{OnTrue}
use Rattle.std.proofs.lemmas.Bool.{eqb-true}
use Rattle.std.proofs.lemmas.Bool.Decides.{eqb_tells}
use Rattle.std.proofs.lemmas.List.{map-set}
use Rattle.base_words.specs.declared.device.DeviceRegister.TheVariants.{DiskCommand}
use Rattle.base_words.specs.Coprocessor.{interrupts}
use Rattle.private_machine.specs.Backing.{Copy, Page, page_at}
use Rattle.private_machine.specs.DeviceAct.{ReadsDisk}
use Rattle.private_machine.specs.Devices.{commanded}
use Rattle.private_machine.specs.Operation.{Packet, Operation as Purpose, ReadsBlock, Delivers}
use Rattle.private_machine.specs.OwnStep.{joined, attempted}
use Rattle.private_machine.specs.PageMove.{taken, spares_taken}
use Rattle.private_machine.specs.PrivateMachine.{vcpu}
use Rattle.guest_devs.specs.declared.act.DevAct.{DevAct}
use Rattle.guest_devs.specs.declared.act.DevAct.TheVariants as acts
use Rattle.trap_emulate.specs.Emulation.{Stores, Defers}
use Rattle.isolation_law.specs.Content.{content, with_own}
use Rattle.isolation_law.specs.Dues.{without_due}
use Rattle.isolation_law.specs.GuestState.{GuestState}
use Rattle.isolation_law.specs.StepAct.{at_hand}
use Rattle.isolation_law.specs.StepRows.{EndsRead, IsEmulated, taken_shared, shown_again}
use Rattle.guest_course.specs.declared.course.Course.{Course}
use Rattle.guest_course.specs.declared.task.Task.TheVariants as tasks
use Rattle.guest_course.specs.Acting.{IsOwnRead, IsTaken}
use Rattle.guest_course.specs.CourseView.{surroundings, purpose_of, due_of, state_of}
use Rattle.guest_course.specs.CourseRules.{AllStand}
use Rattle.guest_course.specs.Rebacking.{Rebacked}
use Rattle.guest_course.specs.TakingCalls.{place_of}
use Rattle.guest_course.proofs.CommandRows.{command-leads, command-does, acts_by, status}
use Rattle.guest_course.proofs.LeaveProofs.{Left, state-left}
use Rattle.guest_course.proofs.SendRows.{send-does, sends_if}
use Rattle.guest_course.proofs.TaskRows.{passed_by, Ticks, set_by, task_done}
use Rattle.private_machine.specs.Devices.{may_send}

-- what the end of the move makes of a guest's parts
pub record TakenBy (c d : Course) (q : ℕ) (target : Copy) : Type 0 where
  pub same : d ≡ record c { pmap = d.pmap; operations = d.operations; due = d.due }
  pub operations : d.operations.items ≡ set c.operations.items q None
  pub pages : d.pmap.pages ≡ set c.pmap.pages q (taken target (page_at c.pmap.pages q))
  pub spares : d.pmap.spares ≡ spares_taken (page_at c.pmap.pages q) c.pmap.spares
  pub long : length d.due.items ≡ length c.due.items
  pub dues : map due_of d.due.items ≡ map (without_due q) (map due_of c.due.items)

pub state-taken : (c d : Course) (q : ℕ) (target : Copy) → TakenBy c d q target → state_of d ≡ taken_shared q target (state_of c)
state-taken c d q target f =
    let s = state_of c in
    ap state_of f.same ∙ (λ i. record s {
      pages = f.pages i;
      operations = (ap (map purpose_of) f.operations ∙ map-set purpose_of c.operations.items q None) i;
      spares = f.spares i;
      due = f.dues i;
    })

pub taken-rebacked : (c d : Course) (q : ℕ) (target : Copy) → AllStand (surroundings c.around) 0 c.places.items → TakenBy c d q target → Rebacked c d
taken-rebacked c d q target all f =
    let places : d.places ≡ c.places = ap (λ (y : Course). y.places) f.same in
    record {
      vcpus = ap (λ (y : Course). y.vcpus) f.same;
      blocks = ap (λ (y : Course). y.blocks) f.same;
      devs = ap (λ (y : Course). y.devs) f.same;
      around = ap (λ (y : Course). y.around) f.same;
      counted = λ pages nodes is. rw (ap (λ (y : Course). y.counters) f.same) is;
      ended = ap (λ (y : Course). y.ended) f.same;
      hand = ap (λ (y : Course). y.hand) f.same;
      dead = ap (λ (y : Course). y.dead) f.same;
      sent_from = ap (λ (y : Course). y.sent_from) f.same;
      seconds = ap (λ (y : Course). length y.seconds.items) f.same;
      places = ap (λ (y : Course). length y.places.items) f.same;
      due = f.long;
      long = ap length f.pages ∙ length-set c.pmap.pages q (taken target (page_at c.pmap.pages q));
      stands = rw places all;
    }

-- where the pages are as before the page's move still takes it shared
abbrev pub still-taken : (c m : Course) (q : ℕ) → m.pmap.pages ≡ c.pmap.pages → IsTaken (state_of c) q → IsTaken (state_of m) q
still-taken c m q same taken = record {
  target = taken.target;
  waiting = taken.waiting;
  open_move = ap (λ (pages : List Page). (page_at pages q).move) same ∙ taken.open_move;
  nobody = taken.nobody;
}

-- ---- a disk read

-- what was set for a read that is carried out
pub record IsRead (s : GuestState) (v block q : ℕ) : Type 0 where
  pub off : interrupts (vcpu (joined (content s) v) v).cp0 ≡ false
  pub stores : Stores (joined (content s) v) v (attempted (joined (content s) v) v) (at_hand s v) 1 DiskCommand
  pub done : (status s v 1 == 0) ≡ true
  pub page_is : q ≡ (set_by s v).page

read-set : (s : GuestState) (v b q : ℕ) (done : Bool) → acts_by (set_by s v) 1 done ≡ ReadsDisk b q → (done ≡ true) × (q ≡ (set_by s v).page)
read-set s v b q true e = let same : (set_by s v).page ≡ q = cc in (refl, sym same)
read-set s v b q false e = cc

written-never : (s : GuestState) (v b q : ℕ) (done : Bool) → acts_by (set_by s v) 2 done ≡ ReadsDisk b q → ⊥
written-never s v b q true e = cc
written-never s v b q false e = cc

sent-never : (s : GuestState) (v to b q : ℕ) (may : Bool) → sends_if (set_by s v) to may ≡ ReadsDisk b q → ⊥
sent-never s v to b q true e = cc
sent-never s v to b q false e = cc

pub is-read : (s : GuestState) (v b q : ℕ) (act : DevAct) → Defers (joined (content s) v) v act → at_hand s v ≡ ReadsDisk b q → IsRead s v b q
is-read s v b q acts.Done defers is = absurd defers.leaves
is-read s v b q acts.DiskRead defers is =
    let set = read-set s v b q (status s v 1 == 0) (sym (command-does s v 1 defers.leaves) ∙ is) in
    record { off = defers.off; stores = defers.leaves; done = set.0; page_is = set.1 }
is-read s v b q acts.DiskWrite defers is = absurd (written-never s v b q (status s v 2 == 0) (sym (command-does s v 2 defers.leaves) ∙ is))
is-read s v b q (acts.Send to) defers is = absurd (sent-never s v to b q (may_send (content s) (set_by s v)) (sym (send-does s v to defers.leaves) ∙ is))

pub ends-read-row : (c m x d : Course) (p v q : ℕ) (act : DevAct) → Ticks → (own : IsOwnRead (state_of c) v q) → IsEmulated (state_of c) p v → Defers (joined (content (state_of c)) v) v act
    → Left c m v (tasks.Take (record { 0 = q })) → state_of x ≡ shown_again v (state_of m) → state_of d ≡ taken_shared q own.taken.target (state_of x) → EndsRead (state_of c) p v (state_of d)
ends-read-row c m x d p v q act ticks own traps defers l shown is =
    let s = state_of c in
    let g = content s in
    let n = passed_by g v in
    let t = set_by s v in
    let read = is-read s v own.block_read q act defers own.reads in
    let leads = command-leads s v 1 read.stores ∙ ap (λ (k : ℕ). Ok (commanded n v t 1 k)) (eqb-true (status s v 1) 0 read.done) in
    let whole = ticks g v _ traps.runs.running read.off leads in
    record {
      traps = traps;
      q = q;
      b = own.block_read;
      reads = own.reads;
      target = own.taken.target;
      waiting = own.taken.waiting;
      open_move = own.taken.open_move;
      its_own = own.its_own;
      nobody_waits = own.taken.nobody;
      unwritten = own.unwritten;
      after = is ∙ ap (taken_shared q own.taken.target) (shown ∙ ap (shown_again v) (state-left c m v (tasks.Take (record { 0 = q })) l))
          ∙ ap (λ (k : ℕ). taken_shared q own.taken.target (shown_again v (task_done s v (tasks.Take (record { 0 = k }))))) read.page_is
          ∙ (λ i. shown_again v (with_own (sym whole i) (taken_shared q own.taken.target s)));
    }

-- ---- a packet

-- the place is that of a packet, and of no other operation
pub delivers-at : (o : Option Purpose) (n : ℕ) → place_of o ≡ Some n → (kept : Packet) × (o ≡ Some (Delivers n kept))
delivers-at None n is = cc
delivers-at (Some (ReadsBlock v b)) n is = cc
delivers-at (Some (Delivers place packet)) n is = (packet, let e : place ≡ n = cc in λ i. Some (Delivers (e i) packet))

-- where two numbers are equal
pub on-equal : (a b : ℕ) (P : Type 0) → (a ≡ b → P) → OnTrue (nat_eq a b) P
on-equal a b P holds = by (eqb_tells a b)
  where
    by : (((a == b) ≡ true) × (a ≡ b)) ⊎ (((a == b) ≡ false) × (a ≢ b)) → OnTrue (nat_eq a b) P
    by (inl same) = subst (λ (x : Bool). OnTrue x P) (sym same.0) (holds same.1)
    by (inr apart) = subst (λ (x : Bool). OnTrue x P) (sym apart.0) tt
