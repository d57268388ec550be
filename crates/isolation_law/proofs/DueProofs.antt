-- The policy's choices that are due fit the guest, row by row.
use Rattle.std.proofs.Common.{◌≡◌, ℕ, zero, suc, ◌<◌, ◌==◌, Bool, true, false, if◌then◌else◌, ◌⊎◌, inl, inr, ⊎_elim, Option, Some, None, List, [], ◌∷◌, length, map, set, get_or, refl, sym, ap, ◌∙◌, subst, length-set}
use Rattle.std.proofs.lemmas.Bool.{eqb-true}
use Rattle.std.proofs.lemmas.List.{length-map}
use Rattle.std.specs.Prelude.{option_map, is_some}
use Rattle.base_words.specs.declared.effect.Request.{Request}
use Rattle.base_words.specs.declared.effect.Request.TheVariants as asks
use Rattle.base_words.specs.declared.events.Event.{Event}
use Rattle.base_words.specs.declared.events.Event.TheVariants.{Load, Unload, Direct, Refill, Emulate, Begin, Ack, Finish, PacketIn, Discard, Skip, CellFails, End as Ending}
use Rattle.base_words.specs.declared.moves.MoveKind.{MoveKind}
use Rattle.base_words.specs.declared.moves.MoveKind.TheVariants.{Migrate, Replicate}
use Rattle.base_words.specs.declared.moves.Policy.{Policy}
use Rattle.base_words.specs.declared.regs.Regs.{Regs}
use Rattle.base_words.specs.declared.trap.DataAccess.{DataAccess}
use Rattle.base_words.specs.declared.trap.DataAccess.TheVariants as at_data
use Rattle.private_machine.specs.Backing.{Page, page_at}
use Rattle.private_machine.specs.DeviceAct.{Act, StoresTo, ReadsDisk, WritesDisk, SendsPage, WritesEntry, NoAct}
use Rattle.private_machine.specs.DirectAccess.{data_reached}
use Rattle.private_machine.specs.PageMove.{left_by}
use Rattle.private_machine.specs.Policy.{Misses}
use Rattle.private_machine.specs.Reaching.{Reached}
use Rattle.isolation_law.specs.Causes.{seeks_frame}
use Rattle.isolation_law.specs.Coherence.{Consistent, Coherent}
use Rattle.isolation_law.specs.DataWithin.{IsWithinPages}
use Rattle.isolation_law.specs.DirectStep.{with_inputs, is_miss, misses_after, access_noted, data_noted}
use Rattle.isolation_law.specs.Dues.{without_due, without_moving}
use Rattle.isolation_law.specs.DuesFit.{AreFit, DuesFit}
use Rattle.isolation_law.specs.EndRows.{LetsGo}
use Rattle.isolation_law.specs.GuestState.{GuestState, processor, due_on}
use Rattle.isolation_law.specs.LoadsIn.{loaded_after}
use Rattle.isolation_law.specs.MachineEvent.{Row}
use Rattle.isolation_law.specs.MoveRows.{Finishes}
use Rattle.isolation_law.specs.PacketRows.{ComesToHand, Receives, EndsDelivery}
use Rattle.isolation_law.specs.Parts.{Wish}
use Rattle.isolation_law.specs.Policy.{chosen, due_after}
use Rattle.isolation_law.specs.Run.{Silent, Run}
use Rattle.isolation_law.specs.Start.{Boot, start}
use Rattle.isolation_law.specs.StepAct.{at_hand}
use Rattle.isolation_law.specs.StepRows.{act_done, Steps, Emulates, EndsRead}
use Rattle.isolation_law.specs.Surroundings.{Surroundings, node_of_processor}
use Rattle.isolation_law.proofs.AroundProofs.{row-around}
use Rattle.isolation_law.proofs.DataWithinProofs.{data-within}
use Rattle.isolation_law.proofs.LawProofs.{run_coherent}
use Rattle.isolation_law.proofs.MirrorProofs.{hand-mirrors}
use Rattle.isolation_law.proofs.LoadedProofs.{row-loading}
use Rattle.isolation_law.proofs.Parts.{at_place}
use Rattle.isolation_law.proofs.SmallRows.{hand_keeps}
use Rattle.isolation_law.proofs.StartProofs.{all_same}
use Rattle.isolation_law.proofs.Stepping.{stored, stored_if, accessed, ticked, told, steps-after}

none-some : {A : Type 0} (x : A) → None ≡ Some x → ⊥
none-some x e = cc

-- ---- where nothing new becomes due

-- what is due was due, and until its end the guest has as many pages
abbrev Fewer : GuestState → GuestState → Type 0
Fewer s t = ((p : ℕ) (wish : Wish) → due_on t p ≡ Some wish → due_on s p ≡ Some wish) × (t.end ≡ None → s.end ≡ None) × (t.end ≡ None → length t.pages ≡ length s.pages)

-- on a processor on which nothing is loaded nothing was, or nothing is due now
abbrev Lapses : GuestState → GuestState → Type 0
Lapses s t = (p : ℕ) → (processor t p).loaded ≡ None → ((processor s p).loaded ≡ None) ⊎ (due_on t p ≡ None)

fewer-fit : (s t : GuestState) → DuesFit s → Fewer s t → Lapses s t → t.around ≡ s.around → DuesFit t
fewer-fit s t fit less lapses around = record {
  lapse = λ p none. ⊎_elim (λ (free : (processor s p).loaded ≡ None). by p free (due_on t p) refl) (λ (gone : due_on t p ≡ None). gone) (lapses p none);
  page = λ p wish on is. subst (λ (n : ℕ). wish.page < n) (sym (less.2 on)) (fit.page p wish (less.1 on) (less.0 p wish is));
  node = λ p wish is. fit.node p wish (less.0 p wish is) ∙ ap (λ (w : Surroundings). node_of_processor w p) (sym around);
  seeks = λ p wish is. fit.seeks p wish (less.0 p wish is);
}
  where
    by : (p : ℕ) → (processor s p).loaded ≡ None → (o : Option Wish) → due_on t p ≡ o → o ≡ None
    by p free None is = refl
    by p free (Some wish) is = absurd (none-some wish (sym (fit.lapse p free) ∙ less.0 p wish is))

-- choices that are cleared
cleared-was : (f : Option Wish → Option Wish) → ((o : Option Wish) (wish : Wish) → f o ≡ Some wish → o ≡ Some wish) → (due : List (Option Wish)) (p : ℕ) (wish : Wish) → get_or (map f due) p None ≡ Some wish → get_or due p None ≡ Some wish
cleared-was f keeps [] p wish is = is
cleared-was f keeps (o ∷ due) zero wish is = keeps o wish is
cleared-was f keeps (o ∷ due) (suc p) wish is = cleared-was f keeps due p wish is

without-was : (q : ℕ) (o : Option Wish) (wish : Wish) → without_due q o ≡ Some wish → o ≡ Some wish
without-was q None wish is = is
without-was q (Some other) wish is = by (other.page == q) is
  where
    by : (b : Bool) → (if b then None else Some other) ≡ Some wish → Some other ≡ Some wish
    by true is = cc
    by false is = is

moving-was : (pages : List Page) (o : Option Wish) (wish : Wish) → without_moving pages o ≡ Some wish → o ≡ Some wish
moving-was pages None wish is = is
moving-was pages (Some other) wish is = by (is_some (page_at pages other.page).move) is
  where
    by : (b : Bool) → (if b then None else Some other) ≡ Some wish → Some other ≡ Some wish
    by true is = cc
    by false is = is

gone-was : (due : List (Option Wish)) (p r : ℕ) (wish : Wish) → get_or (set due p None) r None ≡ Some wish → get_or due r None ≡ Some wish
gone-was due p r wish is = at_place (λ (k : ℕ) (o : Option Wish). o ≡ Some wish → get_or due k None ≡ Some wish) due p None None r (λ there none. absurd (none-some wish none)) (λ other old. old) is

gone-here : (due : List (Option Wish)) (p : ℕ) → get_or (set due p None) p None ≡ None
gone-here [] p = refl
gone-here (o ∷ due) zero = refl
gone-here (o ∷ due) (suc p) = gone-here due p

-- a page is replaced, and what is due of it perhaps cleared
page-fewer : (s : GuestState) (q : ℕ) (new : Page) → Fewer s (record s { pages = set s.pages q new })
page-fewer s q new = (λ p wish is. is, λ on. on, λ on. length-set s.pages q new)

cleared-fewer : (s : GuestState) (q : ℕ) (new : Page) → Fewer s (record s { pages = set s.pages q new; due = map (without_due q) s.due })
cleared-fewer s q new = (cleared-was (without_due q) (without-was q) s.due, λ on. on, λ on. length-set s.pages q new)

same-fewer : (s : GuestState) → Fewer s s
same-fewer s = (λ p wish is. is, λ on. on, λ on. refl)

act-fewer : (s : GuestState) (p v : ℕ) (a : Act) → Fewer s (act_done s p v a)
act-fewer s p v (StoresTo q) = same-fewer s
act-fewer s p v (ReadsDisk b q) = page-fewer s q _
act-fewer s p v (WritesDisk b q) = same-fewer s
act-fewer s p v (SendsPage q length to) = same-fewer s
act-fewer s p v (WritesEntry index) = same-fewer s
act-fewer s p v NoAct = same-fewer s

-- an entry that leaves what is loaded
keep : (s t : GuestState) (e : Event) → DuesFit s → Row s e t → ((r : ℕ) → loaded_after e r (processor s r).loaded ≡ (processor s r).loaded) → Fewer s t → DuesFit t
keep s t e fit row same less = fewer-fit s t fit less (λ p none. inl (sym (same p) ∙ sym ((row-loading s t e row).loaded p) ∙ none)) (row-around s t e row)

-- ---- where the policy chooses

chosen-fits : (policy : Policy) (q node : ℕ) (m : Misses) (wish : Wish) → chosen policy q node m ≡ Some wish → (wish.page ≡ q) × (wish.node ≡ node) × (seeks_frame wish.kind ≡ true)
chosen-fits policy q node m wish e = by _ _ e
  where
    is : (kind : MoveKind) → seeks_frame kind ≡ true → ◌≡◌ {A = Wish} (record { page = q; kind = kind; node = node }) wish → (wish.page ≡ q) × (wish.node ≡ node) × (seeks_frame wish.kind ≡ true)
    is kind seeks same = (ap (λ (w : Wish). w.page) (sym same), ap (λ (w : Wish). w.node) (sym same), ap (λ (w : Wish). seeks_frame w.kind) (sym same) ∙ seeks)

    the : (w : Wish) → Some w ≡ Some wish → w ≡ wish
    the w e = cc

    by : (a b : Bool) → option_map (λ (kind : MoveKind). record { page = q; kind = kind; node = node }) (if a then Some Migrate else if b then Some Replicate else None) ≡ Some wish → (wish.page ≡ q) × (wish.node ≡ node) × (seeks_frame wish.kind ≡ true)
    by true b e = is Migrate refl (the _ e)
    by false true e = is Replicate refl (the _ e)
    by false false e = cc

-- what becomes due on a processor on which something is loaded
set-fit : (s : GuestState) (p : ℕ) (new : Option Wish) → DuesFit s → ((processor s p).loaded ≡ None → ⊥)
    → ((wish : Wish) → new ≡ Some wish → (wish.page < length s.pages) × (wish.node ≡ node_of_processor s.around p) × (seeks_frame wish.kind ≡ true)) → DuesFit (record s { due = set s.due p new })
set-fit s p new fit loaded news = record {
  lapse = λ r none. at_place (λ (k : ℕ) (o : Option Wish). (processor s k).loaded ≡ None → o ≡ None) s.due p new None r (λ there free. absurd (loaded free)) (λ other free. fit.lapse r free) none;
  page = λ r wish on is. at_place (λ (k : ℕ) (o : Option Wish). o ≡ Some wish → wish.page < length s.pages) s.due p new None r (λ there here. (news wish here).0) (λ other old. fit.page r wish on old) is;
  node = λ r wish is. at_place (λ (k : ℕ) (o : Option Wish). o ≡ Some wish → wish.node ≡ node_of_processor s.around k) s.due p new None r (λ there here. (news wish here).1) (λ other old. fit.node r wish old) is;
  seeks = λ r wish is. at_place (λ (k : ℕ) (o : Option Wish). o ≡ Some wish → seeks_frame wish.kind ≡ true) s.due p new None r (λ there here. (news wish here).2) (λ other old. fit.seeks r wish old) is;
}

-- a guest that goes on, of so many pages, with something loaded on the processor
abbrev Ready : ℕ → ℕ → GuestState → Type 0
Ready pages p s = DuesFit s × (s.end ≡ None) × ((processor s p).loaded ≡ None → ⊥) × (length s.pages ≡ pages)

noted-fit : (s : GuestState) (pages p q frame : ℕ) (store : Bool) → Ready pages p s → q < pages → DuesFit (access_noted p q frame store s)
noted-fit s pages p q frame store ready lt =
    let fit = ready.0 in
    set-fit s p (due_after (if is_miss s p frame then asked else None) (due_on s p)) fit ready.2 (λ wish is. by wish (is_miss s p frame) asked refl is)
  where
    asked : Option Wish
    asked = chosen s.around.policy q (node_of_processor s.around p) (misses_after s p q frame store)

    Fine : Wish → Type 0
    Fine wish = (wish.page < length s.pages) × (wish.node ≡ node_of_processor s.around p) × (seeks_frame wish.kind ≡ true)

    old : (wish : Wish) → due_on s p ≡ Some wish → Fine wish
    old wish is = (ready.0.page p wish ready.1 is, ready.0.node p wish is, ready.0.seeks p wish is)

    the : (a b : Wish) → Some a ≡ Some b → a ≡ b
    the a b e = cc

    by : (wish : Wish) (miss : Bool) (o : Option Wish) → asked ≡ o → due_after (if miss then o else None) (due_on s p) ≡ Some wish → Fine wish
    by wish false o at is = old wish is
    by wish true None at is = old wish is
    by wish true (Some new) at is =
        let here = chosen-fits s.around.policy q (node_of_processor s.around p) (misses_after s p q frame store) new at in
        let below : new.page < length s.pages = subst (λ (n : ℕ). new.page < n) (sym ready.3) (subst (λ (n : ℕ). n < pages) (sym here.0) lt) in
        subst Fine (the new wish is) (below, here.1, here.2)

data-fit : (s : GuestState) (pages p : ℕ) (a : DataAccess) → Ready pages p s → IsWithinPages pages a → DuesFit (data_noted p a s)
data-fit s pages p at_data.NoData ready within = ready.0
data-fit s pages p (at_data.Load page frame) ready within = noted-fit s pages p page.0 frame.0 false ready within
data-fit s pages p (at_data.Store page frame) ready within = noted-fit s pages p page.0 frame.0 true ready within

-- an access changes pages, but not how many there are
stored-ready : (s : GuestState) (pages p v : ℕ) (h : Reached) (a word : ℕ) → Ready pages p s → Ready pages p (stored s v h a word)
stored-ready s pages p v h a word ready =
    let same = length-set s.pages h.page _ in
    (subst (λ (n : ℕ). AreFit s.around s.end n s.processors s.due) (sym same) ready.0, ready.1, ready.2, same ∙ ready.3)

accessed-ready : (s : GuestState) (pages p v : ℕ) (h : Reached) (regs : Regs) (r : Request) → Ready pages p s → Ready pages p (accessed s v h regs r)
accessed-ready s pages p v h regs asks.Nothing ready = ready
accessed-ready s pages p v h regs (asks.Load kind address target) ready = ready
accessed-ready s pages p v h regs (asks.Store kind address value) ready = stored-ready s pages p v h address _ ready
accessed-ready s pages p v h regs (asks.LoadLinked address target) ready = ready
accessed-ready s pages p v h regs (asks.StoreConditional address value target) ready = by _
  where
    by : (b : Bool) → Ready pages p (stored_if b s v h regs address value target)
    by true = stored-ready s pages p v h address value ready
    by false = ready
accessed-ready s pages p v h regs (asks.ReadCp0 number target) ready = ready
accessed-ready s pages p v h regs (asks.WriteCp0 number value) ready = ready
accessed-ready s pages p v h regs (asks.System op) ready = ready

steps-fit : (s t : GuestState) (p v : ℕ) → Consistent s → DuesFit s → Steps s p v t → DuesFit t
steps-fit s t p v co fit row =
    let d = row.done in
    let u = with_inputs s v in
    let pages = length s.pages in
    let before : Ready pages p u = (fit, row.goes_on.not_ended, λ none. none-some v (sym none ∙ row.runs.loaded), refl) in
    let left = accessed u v (data_reached d) d.does.registers d.does.request in
    let after : Ready pages p left = accessed-ready u pages p v (data_reached d) d.does.registers d.does.request before in
    subst DuesFit (sym (steps-after s t p v row)) (data-fit (ticked left v) pages p (told s v d) after (data-within s p v d co row.does))

-- ---- row by row

pub row-fit : (s t : GuestState) (e : Event) → (s.end ≡ None → Consistent s) → DuesFit s → Row s e t → DuesFit t
row-fit s t (Load p v) co fit row = fewer-fit s t fit (subst (Fewer s) (sym row.after) (same-fewer s)) (λ r none. by r (r == p.0) (sym ((row-loading s t (Load p v) row).loaded r) ∙ none)) (row-around s t (Load p v) row)
  where
    some-none : Some v.0 ≡ None → ⊥
    some-none e = cc

    by : (r : ℕ) (b : Bool) → (if b then Some v.0 else (processor s r).loaded) ≡ None → ((processor s r).loaded ≡ None) ⊎ (due_on t r ≡ None)
    by r true none = absurd (some-none none)
    by r false none = inl none
row-fit s t (Unload p) co fit row = fewer-fit s t fit (subst (Fewer s) (sym row.after) (gone-was s.due p.0, λ on. on, λ on. length-map s.pages (left_by p.0))) (λ r none. by r (r == p.0) refl (sym ((row-loading s t (Unload p) row).loaded r) ∙ none)) (row-around s t (Unload p) row)
  where
    by : (r : ℕ) (b : Bool) → (r == p.0) ≡ b → (if b then None else (processor s r).loaded) ≡ None → ((processor s r).loaded ≡ None) ⊎ (due_on t r ≡ None)
    by r true same none = inr (ap (λ (x : GuestState). due_on x r) row.after ∙ ap (λ (k : ℕ). get_or (set s.due p.0 None) k None) (eqb-true r p.0 same) ∙ gone-here s.due p.0)
    by r false other none = inl none
row-fit s t (Direct p v) co fit row = steps-fit s t p.0 v.0 (co row.goes_on.not_ended) fit row
row-fit s t (Refill p) co fit row = keep s t (Refill p) fit row (λ r. refl) (subst (Fewer s) (sym row.after) (page-fewer s _ _))
row-fit s t (Emulate p v) co fit row = keep s t (Emulate p v) fit row (λ r. refl) (⊎_elim
    (λ (x : Emulates s p.0 v.0 t). subst (Fewer s) (sym x.after) (act-fewer s p.0 v.0 (at_hand s v.0)))
    (λ (x : EndsRead s p.0 v.0 t). subst (Fewer s) (sym x.after) (cleared-fewer s x.q _))
    row)
row-fit s t (Begin q kind node by) co fit row = keep s t (Begin q kind node by) fit row (λ r. refl) (subst (Fewer s) (sym row.after) (cleared-fewer s q.0 _))
row-fit s t (Ack p q) co fit row = keep s t (Ack p q) fit row (λ r. refl) (subst (Fewer s) (sym row.after) (page-fewer s q.0 _))
row-fit s t (Finish q) co fit row = keep s t (Finish q) fit row (λ r. refl) (⊎_elim
    (λ (x : Finishes s q.0 t). subst (Fewer s) (sym x.after) (cleared-fewer s q.0 _))
    (λ (x : LetsGo s q.0 t). subst (Fewer s) (sym x.after) (cleared-fewer s q.0 _))
    row)
row-fit s t (PacketIn k) co fit row = keep s t (PacketIn k) fit row (λ r. refl) (⊎_elim
    (λ (x : Receives s k t). subst (Fewer s) (sym x.after) (page-fewer s x.q _))
    (λ (x : EndsDelivery s k t). subst (Fewer s) (sym x.after) (cleared-fewer s x.q _))
    row)
row-fit s t (Discard k) co fit row = keep s t (Discard k) fit row (λ r. refl) (subst (Fewer s) (sym row.after) (same-fewer s))
row-fit s t (Skip k) co fit row = keep s t (Skip k) fit row (λ r. refl) (subst (Fewer s) (sym row.after) (cleared-was (without_due row.entry.wish.page) (without-was row.entry.wish.page) s.due, λ on. on, λ on. refl))
row-fit s t (CellFails c) co fit row = keep s t (CellFails c) fit row (λ r. refl) (subst (Fewer s) (sym row.after) (same-fewer s))
row-fit s t (Ending end) co fit row = keep s t (Ending end) fit row (λ r. refl) (subst (Fewer s) (sym row.after) (cleared-was (without_moving s.pages) (moving-was s.pages) s.due, λ on. absurd (some-none on), λ on. absurd (some-none on)))
  where
    some-none : Some end ≡ None → ⊥
    some-none e = cc

pub hand-fit : (s t : GuestState) → DuesFit s → ComesToHand s t → DuesFit t
hand-fit s t fit row = subst DuesFit (sym row.after) fit

pub start-fit : (b : Boot) → DuesFit (start b)
start-fit b =
    let n = length b.around.processors in record {
      lapse = λ p free. all_same n p None;
      page = λ p wish on is. absurd (none-some wish (sym (all_same n p None) ∙ is));
      node = λ p wish is. absurd (none-some wish (sym (all_same n p None) ∙ is));
      seeks = λ p wish is. absurd (none-some wish (sym (all_same n p None) ∙ is));
    }

-- ---- along a run

pub row-going : (s t : GuestState) (e : Event) → Row s e t → t.end ≡ None → s.end ≡ None
row-going s t (Load p v) row on = row.goes_on.not_ended
row-going s t (Unload p) row on = sym (ap (λ (x : GuestState). x.end) row.after) ∙ on
row-going s t (Direct p v) row on = row.goes_on.not_ended
row-going s t (Refill p) row on = row.goes_on.not_ended
row-going s t (Emulate p v) row on = ⊎_elim (λ (x : Emulates s p.0 v.0 t). x.traps.goes_on.not_ended) (λ (x : EndsRead s p.0 v.0 t). x.traps.goes_on.not_ended) row
row-going s t (Begin q kind node by) row on = row.goes_on.not_ended
row-going s t (Ack p q) row on = row.goes_on.not_ended
row-going s t (Finish q) row on = ⊎_elim (λ (x : Finishes s q.0 t). x.goes_on.not_ended) (λ (x : LetsGo s q.0 t). x.not_ended) row
row-going s t (PacketIn k) row on = ⊎_elim (λ (x : Receives s k t). x.delivered.goes_on.not_ended) (λ (x : EndsDelivery s k t). x.delivered.goes_on.not_ended) row
row-going s t (Discard k) row on = row.goes_on.not_ended
row-going s t (Skip k) row on = sym (ap (λ (x : GuestState). x.end) row.after) ∙ on
row-going s t (CellFails c) row on = sym (ap (λ (x : GuestState). x.end) row.after) ∙ on
row-going s t (Ending end) row on = absurd (some-none (sym (ap (λ (x : GuestState). x.end) row.after) ∙ on))
  where
    some-none : Some end ≡ None → ⊥
    some-none e = cc

row-coherent : (s t : GuestState) (e : Event) → (s.end ≡ None → Coherent s) → Row s e t → t.end ≡ None → Coherent t
row-coherent s t e co row on = run_coherent s t (e ∷ []) (co (row-going s t e row on)) (s, t, inl refl, row, inl refl) on

silent-coherent : (s t : GuestState) → (s.end ≡ None → Coherent s) → Silent s t → t.end ≡ None → Coherent t
silent-coherent s t co silent on = ⊎_elim
    (λ (e : t ≡ s). subst Coherent (sym e) (co (sym (ap (λ (x : GuestState). x.end) e) ∙ on)))
    (λ (x : ComesToHand s t). let c = co x.goes_on.not_ended in record { consistent = hand_keeps s t c.consistent x; mirrors = hand-mirrors s t c.mirrors x })
    silent

silent-fit : (s t : GuestState) → DuesFit s → Silent s t → DuesFit t
silent-fit s t fit silent = ⊎_elim (λ (e : t ≡ s). subst DuesFit (sym e) fit) (λ (x : ComesToHand s t). hand-fit s t fit x) silent

pub run-fit : (s t : GuestState) (journal : List Event) → (s.end ≡ None → Coherent s) → DuesFit s → Run s journal t → DuesFit t
run-fit s t [] co fit run = silent-fit s t fit run
run-fit s t (e ∷ journal) co fit run =
    let here : run.0.end ≡ None → Coherent run.0 = silent-coherent s run.0 co run.2 in
    run-fit run.1 t journal (row-coherent run.0 run.1 e here run.3) (row-fit run.0 run.1 e (λ on. (here on).consistent) (silent-fit s run.0 fit run.2) run.3) run.4
