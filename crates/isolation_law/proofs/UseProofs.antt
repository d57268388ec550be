-- What each row changes of the frames that a guest uses.
use Rattle.base_words.specs.declared.trap.DataAccess.{DataAccess}
use Rattle.std.proofs.Common.{◌≡◌, ℕ, zero, suc, ◌+◌, ◌/◌, ◌<◌, ◌==◌, Bool, true, false, if◌then◌else◌, cond, Option, Some, None, List, [], ◌∷◌, ◌++◌, length, map, set, get_or, refl, sym, ap, ◌∙◌, arith}
use Rattle.std.specs.Prelude.{flat_map, option_to_list, option_and_then, slice_get, remove}
use Rattle.base_words.specs.declared.regs.Regs.{Regs}
use Rattle.base_words.specs.Memory.{with_word}
use Rattle.private_machine.specs.Reaching.{Reached}
use Rattle.private_machine.specs.Backing.{Copy, Change, Migrates, Replicates, Collapses, Breaks, TakesShared, GivesShared, Move, Page, with_bytes, stored_in, stored_through, with_first, no_page}
use Rattle.private_machine.specs.Operation.{Operation}
use Rattle.private_machine.specs.DirectAccess.{data_reached}
use Rattle.private_machine.specs.PageMove.{target_of, left_by, named_by, begun, finished, taken, spares_finished, spares_taken}
use Rattle.isolation_law.proofs.Stepping.{stored, stored_if, accessed, ticked, told, steps-after}
use Rattle.base_words.specs.declared.trap.DataAccess.TheVariants as at_data
use Rattle.private_machine.specs.PageMove.{target_in, used_for}
use Rattle.isolation_law.specs.CellUse.{used_frames}
use Rattle.isolation_law.specs.DirectStep.{with_inputs, data_noted}
use Rattle.isolation_law.specs.EndRows.{CellFailsIn, LetsGo, Ends}
use Rattle.isolation_law.specs.Exchange.{count_of}
use Rattle.isolation_law.specs.UseChange.{UseChanged, joining, leaving, leaving_taken}
use Rattle.isolation_law.specs.GuestState.{GuestState, page, with_page}
use Rattle.isolation_law.specs.LoadRows.{Loads, Unloads, Acks}
use Rattle.isolation_law.specs.MoveRows.{Fits, Begins, Finishes}
use Rattle.isolation_law.specs.PacketRows.{ComesToHand, Receives, EndsDelivery, Discards}
use Rattle.isolation_law.specs.RefillRow.{Refills}
use Rattle.isolation_law.specs.SkipRow.{Skips}
use Rattle.isolation_law.specs.StepAct.{at_hand}
use Rattle.private_machine.specs.DeviceAct.{Act, StoresTo, ReadsDisk, WritesDisk, SendsPage, WritesEntry, NoAct}
use Rattle.isolation_law.specs.StepRows.{act_done, Steps, Emulates, EndsRead}
use Rattle.base_words.specs.declared.effect.Request.{Request}
use Rattle.base_words.specs.declared.effect.Request.TheVariants as asks
use Rattle.base_words.specs.declared.moves.By.{By}
use Rattle.base_words.specs.declared.events.End.{End}
use Rattle.base_words.specs.declared.moves.MoveKind.{MoveKind}
use Rattle.isolation_law.proofs.LeaveProofs.{moving_within}
use Rattle.isolation_law.proofs.LiveParts.{left-used, open-used}
use Rattle.isolation_law.proofs.ExchangeProofs.{tally, tally-count}

tally-append : (f : ℕ → ℕ → Bool) (cs ds : List Copy) → tally f (cs ++ ds) ≡ tally f cs + tally f ds
tally-append f [] ds = omega arith
tally-append f (c ∷ cs) ds = let rest = tally-append f cs ds in omega arith

tally-remove : (f : ℕ → ℕ → Bool) (cs : List Copy) (i : ℕ) (x : Copy) → slice_get cs i ≡ Some x → tally f cs ≡ cond (f x.frame x.generation) 1 0 + tally f (remove cs i)
tally-remove f [] i x e = cc
tally-remove f (c ∷ cs) zero x e = let same : c ≡ x = cc in ap (λ (z : Copy). cond (f z.frame z.generation) 1 0 + tally f cs) same
tally-remove f (c ∷ cs) (suc i) x e = let rest = tally-remove f cs i x e in omega arith

flat-set : (f : ℕ → ℕ → Bool) (gs : List Page) (q : ℕ) (new : Page) → q < length gs → tally f (flat_map used_for (set gs q new)) + tally f (used_for (get_or gs q no_page)) ≡ tally f (flat_map used_for gs) + tally f (used_for new)
flat-set f [] q new lt = absurd (omega arith)
flat-set f (g ∷ gs) zero new lt = let a = tally-append f (used_for new) (flat_map used_for gs) in let b = tally-append f (used_for g) (flat_map used_for gs) in omega arith
flat-set f (g ∷ gs) (suc q) new lt =
    let a = tally-append f (used_for g) (flat_map used_for (set gs q new)) in
    let b = tally-append f (used_for g) (flat_map used_for gs) in
    let rest = flat-set f gs q new (omega arith) in omega arith

flat-same : (f : ℕ → ℕ → Bool) (gs : List Page) (q : ℕ) (new : Page) → tally f (used_for new) ≡ tally f (used_for (get_or gs q no_page)) → tally f (flat_map used_for (set gs q new)) ≡ tally f (flat_map used_for gs)
flat-same f [] q new same = refl
flat-same f (g ∷ gs) zero new same = let a = tally-append f (used_for new) (flat_map used_for gs) in let b = tally-append f (used_for g) (flat_map used_for gs) in omega arith
flat-same f (g ∷ gs) (suc q) new same =
    let a = tally-append f (used_for g) (flat_map used_for (set gs q new)) in
    let b = tally-append f (used_for g) (flat_map used_for gs) in
    let rest = flat-same f gs q new same in omega arith

-- nothing is joining or leaving
abbrev pub Unchanged : GuestState → GuestState → Type 0
Unchanged s t = (f : ℕ → ℕ → Bool) → tally f (used_frames t) ≡ tally f (used_frames s)

pub unchanged : (s t : GuestState) → Unchanged s t → UseChanged s t [] []
unchanged s t same = record { balance = λ f. let a = tally-count f (used_frames t) in let b = tally-count f (used_frames s) in let c = same f in ap (λ (n : ℕ). n + count_of f []) (a ∙ c ∙ sym b) }

page-same : (s : GuestState) (q : ℕ) (new : Page) → ((f : ℕ → ℕ → Bool) → tally f (used_for new) ≡ tally f (used_for (page s q))) → Unchanged s (with_page s q new)
page-same s q new same f =
    let a = tally-append f (flat_map used_for (set s.pages q new)) s.spares in
    let b = tally-append f (flat_map used_for s.pages) s.spares in
    let c = flat-same f s.pages q new (same f) in omega arith

-- a page and the spares are replaced
exchange : (s t : GuestState) (q : ℕ) (new : Page) (spares : List Copy) (more less : List Copy) → q < length s.pages → used_frames t ≡ flat_map used_for (set s.pages q new) ++ spares
    → ((f : ℕ → ℕ → Bool) → tally f (used_for new) + tally f spares + tally f less ≡ tally f (used_for (page s q)) + tally f s.spares + tally f more) → UseChanged s t more less
exchange s t q new spares more less lt is balanced = record {
  balance = λ f.
      let a = tally-append f (flat_map used_for (set s.pages q new)) spares in
      let b = tally-append f (flat_map used_for s.pages) s.spares in
      let c = flat-set f s.pages q new lt in
      let d = balanced f in
      let sum : tally f (flat_map used_for (set s.pages q new) ++ spares) + tally f less ≡ tally f (used_frames s) + tally f more = omega arith in
      (λ i. (ap (count_of f) is ∙ tally-count f (flat_map used_for (set s.pages q new) ++ spares)) i + tally-count f less i) ∙ sum ∙ (λ i. sym (tally-count f (used_frames s)) i + sym (tally-count f more) i);
}

-- pages that keep their frames
stored-same : (f : ℕ → ℕ → Bool) (g : Page) (frame o w : ℕ) → tally f (used_for (stored_through g frame o w)) ≡ tally f (used_for g)
stored-same f g frame o w = by (g.master.frame == frame)
  where
    by : (b : Bool) → tally f (used_for (if b then record g { master = with_bytes (with_word g.master.bytes o w) g.master } else record g { replicas = stored_in g.replicas frame o w })) ≡ tally f (used_for g)
    by true = refl
    by false = refl

stored-unchanged : (s : GuestState) (v : ℕ) (h : Reached) (a word : ℕ) → Unchanged s (stored s v h a word)
stored-unchanged s v h a word = page-same s h.page (stored_through (page s h.page) h.frame _ word) (λ f. stored-same f (page s h.page) h.frame _ word)

accessed-unchanged : (s : GuestState) (v : ℕ) (h : Reached) (regs : Regs) (r : Request) → Unchanged s (accessed s v h regs r)
accessed-unchanged s v h regs asks.Nothing f = refl
accessed-unchanged s v h regs (asks.Load kind address target) f = refl
accessed-unchanged s v h regs (asks.Store kind address value) f = stored-unchanged s v h address _ f
accessed-unchanged s v h regs (asks.LoadLinked address target) f = refl
accessed-unchanged s v h regs (asks.StoreConditional address value target) f = by _
  where
    by : (b : Bool) → tally f (used_frames (stored_if b s v h regs address value target)) ≡ tally f (used_frames s)
    by true = stored-unchanged s v h address value f
    by false = refl
accessed-unchanged s v h regs (asks.ReadCp0 number target) f = refl
accessed-unchanged s v h regs (asks.WriteCp0 number value) f = refl
accessed-unchanged s v h regs (asks.System op) f = refl

noted-unchanged : (p : ℕ) (a : DataAccess) (s : GuestState) → Unchanged s (data_noted p a s)
noted-unchanged p at_data.NoData s f = refl
noted-unchanged p (at_data.Load page frame) s f = refl
noted-unchanged p (at_data.Store page frame) s f = refl

act-unchanged : (s : GuestState) (p v : ℕ) (a : Act) → Unchanged s (act_done s p v a)
act-unchanged s p v (StoresTo q) f = refl
act-unchanged s p v (ReadsDisk b q) f = page-same s q (with_first _ (page s q)) (λ f. refl) f
act-unchanged s p v (WritesDisk b q) f = refl
act-unchanged s p v (SendsPage q length to) f = refl
act-unchanged s p v (WritesEntry index) f = refl
act-unchanged s p v NoAct f = refl

all-left : (p : ℕ) (gs : List Page) → flat_map used_for (map (left_by p) gs) ≡ flat_map used_for gs
all-left p [] = refl
all-left p (g ∷ gs) = λ i. left-used p g i ++ all-left p gs i

-- the rows that keep all frames
pub loads_use : (s t : GuestState) (p v : ℕ) → Loads s p v t → UseChanged s t [] []
loads_use s t p v row = unchanged s t (λ f. ap (λ (x : GuestState). tally f (used_frames x)) row.after)

pub unloads_use : (s t : GuestState) (p : ℕ) → Unloads s p t → UseChanged s t [] []
unloads_use s t p row = unchanged s t (λ f. ap (λ (x : GuestState). tally f (used_frames x)) row.after ∙ ap (λ (l : List Copy). tally f (l ++ s.spares)) (all-left p s.pages))

pub steps_use : (s t : GuestState) (p v : ℕ) → Steps s p v t → UseChanged s t [] []
steps_use s t p v row =
    let d = row.done in
    let done = accessed (with_inputs s v) v (data_reached d) d.does.registers d.does.request in
    unchanged s t (λ f.
    ap (λ (x : GuestState). tally f (used_frames x)) (steps-after s t p v row)
    ∙ noted-unchanged p (told s v d) (ticked done v) f
    ∙ accessed-unchanged (with_inputs s v) v (data_reached d) d.does.registers d.does.request f)

pub refills_use : (s t : GuestState) (p : ℕ) → Refills s p t → UseChanged s t [] []
refills_use s t p row = unchanged s t (λ f.
    ap (λ (x : GuestState). tally f (used_frames x)) row.after ∙ page-same s (row.offset / 4096) (named_by p (page s (row.offset / 4096))) (λ f. refl) f)

pub acks_use : (s t : GuestState) (p q : ℕ) → Acks s p q t → UseChanged s t [] []
acks_use s t p q row = unchanged s t (λ f.
    ap (λ (x : GuestState). tally f (used_frames x)) row.after ∙ page-same s q (left_by p (page s q)) (λ f. ap (tally f) (left-used p (page s q))) f)

pub emulates_use : (s t : GuestState) (p v : ℕ) → Emulates s p v t → UseChanged s t [] []
emulates_use s t p v row = unchanged s t (λ f. ap (λ (x : GuestState). tally f (used_frames x)) row.after ∙ act-unchanged s p v (at_hand s v) f)

pub receives_use : (s t : GuestState) (k : ℕ) → Receives s k t → UseChanged s t [] []
receives_use s t k row = unchanged s t (λ f. ap (λ (x : GuestState). tally f (used_frames x)) row.after ∙ page-same s row.q (with_first row.packet.bytes (page s row.q)) (λ f. refl) f)

pub hand_use : (s t : GuestState) → ComesToHand s t → UseChanged s t [] []
hand_use s t row = unchanged s t (λ f. ap (λ (x : GuestState). tally f (used_frames x)) row.after)

pub discards_use : (s t : GuestState) (k : ℕ) → Discards s k t → UseChanged s t [] []
discards_use s t k row = unchanged s t (λ f. ap (λ (x : GuestState). tally f (used_frames x)) row.after)

pub skips_use : (s t : GuestState) (k : ℕ) → Skips s k t → UseChanged s t [] []
skips_use s t k row = unchanged s t (λ f. ap (λ (x : GuestState). tally f (used_frames x)) row.after)

pub fails_use : (s t : GuestState) (c : ℕ) → CellFailsIn s c t → UseChanged s t [] []
fails_use s t c row = unchanged s t (λ f. ap (λ (x : GuestState). tally f (used_frames x)) row.after)

-- a move begins
begun-balance : (s : GuestState) (f : ℕ → ℕ → Bool) (g : Page) (n : ℕ) (change : Change) (operation : Option Operation) (rest : List Copy) → g.move ≡ None → Fits s n change operation rest
    → tally f (used_for (begun change g)) + tally f rest + 0 ≡ tally f (used_for g) + tally f s.spares + tally f (joining change)
begun-balance s f g n change operation rest free fits =
    let was : tally f (used_for g) ≡ tally f (g.master ∷ []) = ap (λ (o : Option Move). tally f (g.master ∷ option_to_list (option_and_then target_in o))) free in
    let rest_of = by change fits in
    omega arith
  where
    by : (change : Change) → Fits s n change operation rest → tally f (option_to_list (target_of change)) + tally f rest ≡ tally f s.spares + tally f (joining change)
    by (Migrates target) fits = let same = ap (tally f) fits.2 in omega arith
    by (Replicates target) fits = let same = ap (tally f) fits.2 in omega arith
    by Collapses fits = let same = ap (tally f) fits in omega arith
    by (Breaks target) fits = let same = ap (tally f) fits.others in let out = tally-remove f s.spares fits.place target fits.is_it in omega arith
    by (TakesShared target) fits = let same = ap (tally f) fits.1 in omega arith
    by (GivesShared target) fits = let same = ap (tally f) fits.1 in omega arith

pub begins_use : (s t : GuestState) (q : ℕ) (kind : MoveKind) (node : ℕ) (by : By) → (row : Begins s q kind node by t) → UseChanged s t (joining row.change) []
begins_use s t q kind node by row =
    exchange s t q (begun row.change (page s q)) row.rest (joining row.change) [] row.is_page (ap used_frames row.after) (λ f. begun-balance s f (page s q) node row.change row.operation row.rest row.rests row.fits)

-- a move is done
done-balance : (f : ℕ → ℕ → Bool) (g : Page) (spares : List Copy) (change : Change)
    → tally f (used_for (finished change g)) + tally f (spares_finished change spares) + tally f (leaving g change) ≡ tally f (g.master ∷ option_to_list (target_of change)) + tally f spares + 0
done-balance f g spares (Migrates target) = omega arith
done-balance f g spares (Replicates target) = omega arith
done-balance f g spares Collapses = omega arith
done-balance f g spares (Breaks target) = omega arith
done-balance f g spares (TakesShared target) = omega arith
done-balance f g spares (GivesShared target) = let b = tally-append f spares (target ∷ []) in omega arith

done-exchange : (s t : GuestState) (q : ℕ) (m : Move) → (page s q).move ≡ Some m → used_frames t ≡ flat_map used_for (set s.pages q (finished m.change (page s q))) ++ spares_finished m.change s.spares → UseChanged s t [] (leaving (page s q) m.change)
done-exchange s t q m is_open is =
    exchange s t q (finished m.change (page s q)) (spares_finished m.change s.spares) [] (leaving (page s q) m.change) (moving_within s.pages q m is_open) is
    (λ f. done-balance f (page s q) s.spares m.change ∙ ap (λ (l : List Copy). tally f l + tally f s.spares + 0) (sym (open-used (page s q) m is_open)))

pub finishes_use : (s t : GuestState) (q : ℕ) → (row : Finishes s q t) → UseChanged s t [] (leaving (page s q) row.move.change)
finishes_use s t q row = done-exchange s t q row.move row.open_move (ap used_frames row.after)

pub lets_go_use : (s t : GuestState) (q : ℕ) → (row : LetsGo s q t) → UseChanged s t [] (row.target ∷ [])
lets_go_use s t q row = done-exchange s t q (record { change = TakesShared row.target; waiting = row.waiting }) row.open_move (ap used_frames row.after)

-- a page is taken shared
taken-exchange : (s t : GuestState) (q : ℕ) (target : Copy) (waiting : List Bool) → (page s q).move ≡ Some (record { change = TakesShared target; waiting = waiting })
    → used_frames t ≡ flat_map used_for (set s.pages q (taken target (page s q))) ++ spares_taken (page s q) s.spares → UseChanged s t [] (leaving_taken (page s q))
taken-exchange s t q target waiting is_open is =
    let g = page s q in
    let m : Move = record { change = TakesShared target; waiting = waiting } in
    exchange s t q (taken target g) (spares_taken g s.spares) [] (leaving_taken g) (moving_within s.pages q m is_open) is
    (λ f. by f g s.spares g.shared ∙ ap (λ (l : List Copy). tally f l + tally f s.spares + 0) (sym (open-used g m is_open)))
  where
    by : (f : ℕ → ℕ → Bool) (g : Page) (spares : List Copy) (b : Bool) → tally f (used_for (taken target g)) + tally f (if b then spares else spares ++ g.master ∷ []) + tally f (if b then g.master ∷ [] else []) ≡ tally f (g.master ∷ target ∷ []) + tally f spares + 0
    by f g spares true = omega arith
    by f g spares false = let b = tally-append f spares (g.master ∷ []) in omega arith

pub ends_read_use : (s t : GuestState) (p v : ℕ) → (row : EndsRead s p v t) → UseChanged s t [] (leaving_taken (page s row.q))
ends_read_use s t p v row = taken-exchange s t row.q row.target row.waiting row.open_move (ap used_frames row.after)

pub ends_delivery_use : (s t : GuestState) (k : ℕ) → (row : EndsDelivery s k t) → UseChanged s t [] (leaving_taken (page s row.q))
ends_delivery_use s t k row = taken-exchange s t row.q row.target row.waiting row.open_move (ap used_frames row.after)

-- all frames are released
pub ends_use : (s t : GuestState) (end : End) → Ends s end t → UseChanged s t [] (used_frames s)
ends_use s t end row = record {
  balance = λ f.
      (λ i. (ap (λ (x : GuestState). count_of f (used_frames x)) row.after ∙ tally-count f []) i + tally-count f (used_frames s) i) ∙ omega arith ∙ (λ i. sym (tally-count f (used_frames s)) i + sym (tally-count f []) i);
}
