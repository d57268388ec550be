-- What each row does to the number of pages with a move.
use Rattle.std.proofs.Common.{◌≡◌, ℕ, zero, suc, ◌+◌, ◌<◌, ◌==◌, cond, if◌then◌else◌, Bool, true, false, Option, Some, None, is_some, List, [], ◌∷◌, length, map, set, get_or, refl, ap, ◌∙◌, arith}
use Rattle.std.proofs.lemmas.List.Sums.{sum_by-cons}
use Rattle.std.specs.Prelude.{count_by}
use Rattle.base_words.specs.declared.effect.Request.{Request}
use Rattle.base_words.specs.declared.effect.Request.TheVariants as asks
use Rattle.base_words.specs.declared.events.End.{End}
use Rattle.base_words.specs.declared.moves.By.{By}
use Rattle.base_words.specs.declared.moves.MoveKind.{MoveKind}
use Rattle.base_words.specs.Memory.{with_word}
use Rattle.base_words.specs.declared.regs.Regs.{Regs}
use Rattle.private_machine.specs.Backing.{Change, Migrates, Replicates, Collapses, Breaks, TakesShared, GivesShared, Move, Page, stored_in, stored_through, with_bytes, with_first, no_page}
use Rattle.private_machine.specs.DeviceAct.{Act, StoresTo, ReadsDisk, WritesDisk, SendsPage, WritesEntry, NoAct}
use Rattle.private_machine.specs.DirectAccess.{data_reached}
use Rattle.private_machine.specs.PageMove.{left_by, named_by, begun, finished, taken}
use Rattle.private_machine.specs.Reaching.{Reached}
use Rattle.isolation_law.specs.DirectStep.{with_inputs, data_noted}
use Rattle.isolation_law.specs.EndRows.{CellFailsIn, LetsGo, Ends}
use Rattle.isolation_law.specs.GuestState.{GuestState, page}
use Rattle.isolation_law.specs.LoadRows.{Loads, Unloads, Acks}
use Rattle.isolation_law.specs.MoveCount.{is_moving, moving_count}
use Rattle.isolation_law.specs.MoveRows.{Begins, Finishes}
use Rattle.isolation_law.specs.PacketRows.{ComesToHand, Receives, EndsDelivery, Discards}
use Rattle.isolation_law.specs.RefillRow.{Refills}
use Rattle.isolation_law.specs.SkipRow.{Skips}
use Rattle.isolation_law.specs.StepAct.{at_hand}
use Rattle.isolation_law.specs.StepRows.{act_done, Steps, Emulates, EndsRead}
use Rattle.isolation_law.proofs.LeaveProofs.{moving_within}
use Rattle.isolation_law.proofs.PageCountProofs.{noted-pages}
use Rattle.isolation_law.proofs.Stepping.{stored, stored_if, accessed, ticked, told, steps-after}

-- ---- lists of pages

abbrev one : Option Move → ℕ
one move = cond (is_some move) 1 0

count-cons : (g : Page) (gs : List Page) → count_by is_moving (g ∷ gs) ≡ one g.move + count_by is_moving gs
count-cons g gs = sum_by-cons (λ (x : Page). one x.move) g gs

-- one page becomes another
count-set : (gs : List Page) (q : ℕ) (new : Page) → q < length gs → count_by is_moving (set gs q new) + one (get_or gs q no_page).move ≡ count_by is_moving gs + one new.move
count-set [] q new lt = absurd (omega arith)
count-set (g ∷ gs) zero new lt = let a = count-cons new gs in let b = count-cons g gs in omega arith
count-set (g ∷ gs) (suc q) new lt =
    let a = count-cons g (set gs q new) in
    let b = count-cons g gs in
    let rest = count-set gs q new (omega arith) in omega arith

-- with a move where it had one, whether it is there or not
count-same : (gs : List Page) (q : ℕ) (new : Page) → one new.move ≡ one (get_or gs q no_page).move → count_by is_moving (set gs q new) ≡ count_by is_moving gs
count-same [] q new same = refl
count-same (g ∷ gs) zero new same = let a = count-cons new gs in let b = count-cons g gs in omega arith
count-same (g ∷ gs) (suc q) new same =
    let a = count-cons g (set gs q new) in
    let b = count-cons g gs in
    let rest = count-same gs q new same in omega arith

left-one : (p : ℕ) (o : Option Move) → one (left_by p (record no_page { move = o })).move ≡ one o
left-one p None = refl
left-one p (Some m) = refl

count-left : (p : ℕ) (gs : List Page) → count_by is_moving (map (left_by p) gs) ≡ count_by is_moving gs
count-left p [] = refl
count-left p (g ∷ gs) =
    let a = count-cons (left_by p g) (map (left_by p) gs) in
    let b = count-cons g gs in
    let here = left-one p g.move in
    let rest = count-left p gs in omega arith

-- what a row leaves
counted : (s t made : GuestState) → t ≡ made → moving_count made ≡ moving_count s → moving_count t ≡ moving_count s
counted s t made after same = ap moving_count after ∙ same

-- ---- steps

act-count : (s : GuestState) (p v : ℕ) (a : Act) → moving_count (act_done s p v a) ≡ moving_count s
act-count s p v (StoresTo q) = refl
act-count s p v (ReadsDisk b q) = count-same s.pages q (with_first _ (page s q)) refl
act-count s p v (WritesDisk b q) = refl
act-count s p v (SendsPage q length to) = refl
act-count s p v (WritesEntry index) = refl
act-count s p v NoAct = refl

stored-move : (g : Page) (frame offset word : ℕ) → (stored_through g frame offset word).move ≡ g.move
stored-move g frame offset word = elim (g.master.frame == frame) as (λ b. (if b then record g { master = with_bytes (with_word g.master.bytes offset word) g.master } else record g { replicas = stored_in g.replicas frame offset word }).move ≡ g.move) [
  | true ↦ refl
  | false ↦ refl
]

stored-count : (s : GuestState) (v : ℕ) (h : Reached) (a word : ℕ) → moving_count (stored s v h a word) ≡ moving_count s
stored-count s v h a word = count-same s.pages h.page _ (ap one (stored-move (page s h.page) h.frame _ word))

accessed-count : (s : GuestState) (v : ℕ) (h : Reached) (regs : Regs) (r : Request) → moving_count (accessed s v h regs r) ≡ moving_count s
accessed-count s v h regs asks.Nothing = refl
accessed-count s v h regs (asks.Load kind address target) = refl
accessed-count s v h regs (asks.Store kind address value) = stored-count s v h address _
accessed-count s v h regs (asks.LoadLinked address target) = refl
accessed-count s v h regs (asks.StoreConditional address value target) = by _
  where
    by : (b : Bool) → moving_count (stored_if b s v h regs address value target) ≡ moving_count s
    by true = stored-count s v h address value
    by false = refl
accessed-count s v h regs (asks.ReadCp0 number target) = refl
accessed-count s v h regs (asks.WriteCp0 number value) = refl
accessed-count s v h regs (asks.System op) = refl

-- ---- row by row

pub loads-moves : (s t : GuestState) (p v : ℕ) → Loads s p v t → moving_count t ≡ moving_count s
loads-moves s t p v row = counted s t _ row.after refl

pub unloads-moves : (s t : GuestState) (p : ℕ) → Unloads s p t → moving_count t ≡ moving_count s
unloads-moves s t p row = counted s t _ row.after (count-left p s.pages)

pub steps-moves : (s t : GuestState) (p v : ℕ) → Steps s p v t → moving_count t ≡ moving_count s
steps-moves s t p v row =
    let d = row.done in
    let u = with_inputs s v in
    let left = accessed u v (data_reached d) d.does.registers d.does.request in
    let noted : (data_noted p (told s v d) (ticked left v)).pages ≡ left.pages = noted-pages p (told s v d) (ticked left v) in
    counted s t _ (steps-after s t p v row) (ap (λ (gs : List Page). count_by is_moving gs) noted ∙ accessed-count u v (data_reached d) d.does.registers d.does.request)

pub refills-moves : (s t : GuestState) (p : ℕ) → Refills s p t → moving_count t ≡ moving_count s
refills-moves s t p row = counted s t _ row.after (count-same s.pages _ (named_by p (page s _)) refl)

pub emulates-moves : (s t : GuestState) (p v : ℕ) → Emulates s p v t → moving_count t ≡ moving_count s
emulates-moves s t p v row = counted s t _ row.after (act-count s p v (at_hand s v))

pub acks-moves : (s t : GuestState) (p q : ℕ) → Acks s p q t → moving_count t ≡ moving_count s
acks-moves s t p q row = counted s t _ row.after (count-same s.pages q (left_by p (page s q)) (left-one p (page s q).move))

pub hand-moves : (s t : GuestState) → ComesToHand s t → moving_count t ≡ moving_count s
hand-moves s t row = counted s t _ row.after refl

pub receives-moves : (s t : GuestState) (k : ℕ) → Receives s k t → moving_count t ≡ moving_count s
receives-moves s t k row = counted s t _ row.after (count-same s.pages row.q (with_first row.packet.bytes (page s row.q)) refl)

pub discards-moves : (s t : GuestState) (k : ℕ) → Discards s k t → moving_count t ≡ moving_count s
discards-moves s t k row = counted s t _ row.after refl

pub skips-moves : (s t : GuestState) (k : ℕ) → Skips s k t → moving_count t ≡ moving_count s
skips-moves s t k row = counted s t _ row.after refl

pub fails-moves : (s t : GuestState) (c : ℕ) → CellFailsIn s c t → moving_count t ≡ moving_count s
fails-moves s t c row = counted s t _ row.after refl

-- a page comes to have a move
pub begins-moves : (s t : GuestState) (q : ℕ) (kind : MoveKind) (node : ℕ) (by : By) → Begins s q kind node by t → moving_count t ≡ suc (moving_count s)
begins-moves s t q kind node by row =
    let set = count-set s.pages q (begun row.change (page s q)) row.is_page in
    let none : one (page s q).move ≡ 0 = ap one row.rests in
    let some : one (begun row.change (page s q)).move ≡ 1 = refl in
    ap moving_count row.after ∙ omega arith

-- and has none any more
no-longer : (s t : GuestState) (q : ℕ) (m : Move) (new : Page) → (page s q).move ≡ Some m → new.move ≡ None → moving_count t ≡ count_by is_moving (set s.pages q new) → suc (moving_count t) ≡ moving_count s
no-longer s t q m new has over is =
    let set = count-set s.pages q new (moving_within s.pages q m has) in
    let some : one (page s q).move ≡ 1 = ap one has in
    let none : one new.move ≡ 0 = ap one over in omega arith

finished-rests : (change : Change) (g : Page) → (finished change g).move ≡ None
finished-rests (Migrates target) g = refl
finished-rests (Replicates target) g = refl
finished-rests Collapses g = refl
finished-rests (Breaks target) g = refl
finished-rests (TakesShared target) g = refl
finished-rests (GivesShared target) g = refl

pub finishes-moves : (s t : GuestState) (q : ℕ) → Finishes s q t → suc (moving_count t) ≡ moving_count s
finishes-moves s t q row = no-longer s t q row.move (finished row.move.change (page s q)) row.open_move (finished-rests row.move.change (page s q)) (ap moving_count row.after)

pub lets-go-moves : (s t : GuestState) (q : ℕ) → LetsGo s q t → suc (moving_count t) ≡ moving_count s
lets-go-moves s t q row = no-longer s t q _ (finished (TakesShared row.target) (page s q)) row.open_move refl (ap moving_count row.after)

pub ends-read-moves : (s t : GuestState) (p v : ℕ) → EndsRead s p v t → suc (moving_count t) ≡ moving_count s
ends-read-moves s t p v row = no-longer s t row.q _ (taken row.target (page s row.q)) row.open_move refl (ap moving_count row.after)

pub ends-delivery-moves : (s t : GuestState) (k : ℕ) → EndsDelivery s k t → suc (moving_count t) ≡ moving_count s
ends-delivery-moves s t k row = no-longer s t row.q _ (taken row.target (page s row.q)) row.open_move refl (ap moving_count row.after)

pub ends-moves : (s t : GuestState) (end : End) → Ends s end t → moving_count t ≡ 0
ends-moves s t end row = ap moving_count row.after
