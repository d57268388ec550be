-- A row other than a failure leaves all that a guest uses in cells that live, where it was.
use Rattle.base_words.specs.declared.trap.DataAccess.{DataAccess}
use Rattle.std.proofs.Common.{◌≡◌, ℕ, ◌/◌, ◌<◌, Bool, true, false, inl, ⊎_elim, Option, Some, None, List, [], length, map, set, sym, subst, arith}
use Rattle.std.proofs.lemmas.List.{get_or-map, length-map}
use Rattle.std.specs.Prelude.{option_to_list}
use Rattle.base_words.specs.declared.regs.Regs.{Regs}
use Rattle.private_machine.specs.Reaching.{Reached}
use Rattle.base_words.specs.Membership.{Has}
use Rattle.private_machine.specs.Backing.{Copy, Change, Migrates, Replicates, Collapses, Breaks, TakesShared, GivesShared, Move, Page, stored_through, with_first, no_page}
use Rattle.private_machine.specs.DirectAccess.{data_reached}
use Rattle.private_machine.specs.PageMove.{target_of, left_by, named_by, begun, finished, taken, spares_taken, spares_finished}
use Rattle.isolation_law.proofs.Stepping.{stored, stored_if, accessed, ticked, told, steps-after}
use Rattle.base_words.specs.declared.trap.DataAccess.TheVariants as at_data
use Rattle.private_machine.specs.PageMove.{used_for}
use Rattle.isolation_law.specs.DirectStep.{with_inputs, data_noted}
use Rattle.isolation_law.specs.EndRows.{Ends}
use Rattle.isolation_law.specs.GuestState.{GuestState, idle, page, with_page}
use Rattle.isolation_law.specs.LoadRows.{Loads, Unloads, Acks}
use Rattle.isolation_law.specs.MoveRows.{Fits, LiesAlive, Begins}
use Rattle.isolation_law.specs.RefillRow.{Refills}
use Rattle.private_machine.specs.DeviceAct.{Act, StoresTo, ReadsDisk, WritesDisk, SendsPage, WritesEntry, NoAct}
use Rattle.isolation_law.specs.StepRows.{act_done, taken_shared, Steps}
use Rattle.base_words.specs.declared.effect.Request.{Request}
use Rattle.base_words.specs.declared.effect.Request.TheVariants as asks
use Rattle.base_words.specs.declared.events.End.{End}
use Rattle.base_words.specs.declared.moves.By.{By}
use Rattle.base_words.specs.declared.moves.MoveKind.{MoveKind}
use Rattle.isolation_law.proofs.LeaveProofs.{moving_within}
use Rattle.isolation_law.proofs.LiveParts.{HasFrame, Lives, LiveParts, Alive, HasFrame-remove, stored-frames, left-used, begun-frames, target-used, finished-frames, spares-frames, spares-taken-frames, live-page, live-spares, live-processor}

-- what is used by a living guest lives
pub page-lives : (s : GuestState) (q : ℕ) (new : Page) → Alive s → ((f : ℕ) → HasFrame (used_for new) f → HasFrame (used_for (page s q)) f) → Alive (with_page s q new)
page-lives s q new co less = live-page s.around s.dead s.pages s.spares s.processors q new co (λ f there has. co.on_pages q f there (less f has))

left-lives : (s : GuestState) (p q : ℕ) → Alive s → Alive (with_page s q (left_by p (page s q)))
left-lives s p q co = page-lives s q (left_by p (page s q)) co (λ f has. subst (λ (l : List Copy). HasFrame l f) (left-used p (page s q)) has)

pub loads-live : (s t : GuestState) (p v : ℕ) → Alive s → Loads s p v t → Alive t
loads-live s t p v co row = subst Alive (sym row.after) (live-processor s.around s.dead s.pages s.spares s.processors p (record { loaded = Some v; tlb = [] }) co (λ u is. row.lives))

pub unloads-live : (s t : GuestState) (p : ℕ) → Alive s → Unloads s p t → Alive t
unloads-live s t p co row = subst Alive (sym row.after) (live-processor s.around s.dead (map (left_by p) s.pages) s.spares s.processors p idle all (λ u is. absurd (none u is)))
  where
    none : (u : ℕ) → None ≡ Some u → ⊥
    none u e = cc

    all : LiveParts s.around s.dead (map (left_by p) s.pages) s.spares s.processors
    all = record {
      on_pages = λ q f lt has.
          let within : q < length s.pages = rw length-map at lt in
          co.on_pages q f within (subst (λ (l : List Copy). HasFrame l f) (left-used p (page s q))
          (subst (λ (g : Page). HasFrame (used_for g) f) (get_or-map (left_by p) s.pages q no_page no_page within) has));
      on_spares = co.on_spares;
      on_processors = co.on_processors;
    }

pub refills-live : (s t : GuestState) (p : ℕ) → Alive s → Refills s p t → Alive t
refills-live s t p co row =
    let q = row.offset / 4096 in
    let new = named_by p (page s q) in
    let co1 : Alive (with_page s q new) = page-lives s q new co (λ f has. has) in
    subst Alive (sym row.after) (live-processor s.around s.dead (set s.pages q new) s.spares s.processors p _ co1 (λ u is. co.on_processors p u is))

pub acks-live : (s t : GuestState) (p q : ℕ) → Alive s → Acks s p q t → Alive t
acks-live s t p q co row =
    subst Alive (sym row.after) (live-processor s.around s.dead (set s.pages q (left_by p (page s q))) s.spares s.processors p _ (left-lives s p q co) (λ u is. co.on_processors p u is))

stored-live : (s : GuestState) (v : ℕ) (h : Reached) (a word : ℕ) → Alive s → Alive (stored s v h a word)
stored-live s v h a word co = page-lives s h.page (stored_through (page s h.page) h.frame _ word) co (λ f has. subst (λ (l : List ℕ). Has l f) (stored-frames (page s h.page) h.frame _ word) has)

accessed-live : (s : GuestState) (v : ℕ) (h : Reached) (regs : Regs) (r : Request) → Alive s → Alive (accessed s v h regs r)
accessed-live s v h regs asks.Nothing co = co
accessed-live s v h regs (asks.Load kind address target) co = co
accessed-live s v h regs (asks.Store kind address value) co = stored-live s v h address _ co
accessed-live s v h regs (asks.LoadLinked address target) co = co
accessed-live s v h regs (asks.StoreConditional address value target) co = by _
  where
    by : (b : Bool) → Alive (stored_if b s v h regs address value target)
    by true = stored-live s v h address value co
    by false = co
accessed-live s v h regs (asks.ReadCp0 number target) co = co
accessed-live s v h regs (asks.WriteCp0 number value) co = co
accessed-live s v h regs (asks.System op) co = co

noted-live : (p : ℕ) (a : DataAccess) (s : GuestState) → Alive s → Alive (data_noted p a s)
noted-live p at_data.NoData s co = co
noted-live p (at_data.Load page frame) s co = co
noted-live p (at_data.Store page frame) s co = co

pub steps-live : (s t : GuestState) (p v : ℕ) → Alive s → Steps s p v t → Alive t
steps-live s t p v co row =
    let d = row.done in
    let done = accessed (with_inputs s v) v (data_reached d) d.does.registers d.does.request in
    subst Alive (sym (steps-after s t p v row)) (noted-live p (told s v d) (ticked done v) (accessed-live (with_inputs s v) v (data_reached d) d.does.registers d.does.request co))

pub act-live : (s : GuestState) (p v : ℕ) (a : Act) → Alive s → Alive (act_done s p v a)
act-live s p v (StoresTo q) co = co
act-live s p v (ReadsDisk b q) co = page-lives s q (with_first _ (page s q)) co (λ f has. has)
act-live s p v (WritesDisk b q) co = co
act-live s p v (SendsPage q length to) co = co
act-live s p v (WritesEntry index) co =
    let co1 = live-processor s.around s.dead s.pages s.spares s.processors p _ co (λ u is. co.on_processors p u is) in
    live-processor s.around s.dead s.pages s.spares _ p _ co1 (λ u is. co1.on_processors p u is)
act-live s p v NoAct co = co

pub taken-live : (s : GuestState) (q : ℕ) (target : Copy) (waiting : List Bool) → Alive s → (page s q).move ≡ Some (record { change = TakesShared target; waiting = waiting }) → Alive (taken_shared q target s)
taken-live s q target waiting co is_open =
    let g = page s q in
    let m : Move = record { change = TakesShared target; waiting = waiting } in
    let there = moving_within s.pages q m is_open in
    let co1 : Alive (with_page s q (taken target g)) = page-lives s q (taken target g) co
    (λ f has. ⊎_elim
    (λ (is : target.frame ≡ f). target-used g m f is_open (inl is))
    (λ none. absurd none) has) in
    live-spares s.around s.dead (set s.pages q (taken target g)) s.spares s.processors (spares_taken g s.spares) co1
    (λ f has. ⊎_elim (λ (x : HasFrame s.spares f). co.on_spares f x) (λ (x : HasFrame (used_for g) f). co.on_pages q f there x) (spares-taken-frames g s.spares f has))

pub begins-live : (s t : GuestState) (q : ℕ) (kind : MoveKind) (node : ℕ) (by : By) → Alive s → Begins s q kind node by t → Alive t
begins-live s t q kind node by co row =
    let g = page s q in
    let co1 = live-page s.around s.dead s.pages s.spares s.processors q (begun row.change g) co
    (λ f there has. ⊎_elim (λ (x : HasFrame (used_for g) f). co.on_pages q f there x) (λ (x : HasFrame (option_to_list (target_of row.change)) f). target-lives (target_of row.change) f row.lives x) (begun-frames row.change g f has)) in
    subst Alive (sym row.after) (live-spares s.around s.dead (set s.pages q (begun row.change g)) s.spares s.processors row.rest co1 (λ f has. co.on_spares f (rest row.change f row.fits has)))
  where
    target-lives : (o : Option Copy) (f : ℕ) → LiesAlive s o → HasFrame (option_to_list o) f → Lives s.around s.dead f
    target-lives None f lives has = absurd has
    target-lives (Some target) f lives has = ⊎_elim (λ (is : target.frame ≡ f). subst (Lives s.around s.dead) is lives) (λ none. absurd none) has

    rest : (change : Change) (f : ℕ) → Fits s node change row.operation row.rest → HasFrame row.rest f → HasFrame s.spares f
    rest (Migrates target) f fits has = subst (λ (l : List Copy). HasFrame l f) fits.2 has
    rest (Replicates target) f fits has = subst (λ (l : List Copy). HasFrame l f) fits.2 has
    rest Collapses f fits has = subst (λ (l : List Copy). HasFrame l f) fits has
    rest (Breaks target) f fits has = HasFrame-remove s.spares fits.place f (subst (λ (l : List Copy). HasFrame l f) fits.others has)
    rest (TakesShared target) f fits has = subst (λ (l : List Copy). HasFrame l f) fits.1 has
    rest (GivesShared target) f fits has = subst (λ (l : List Copy). HasFrame l f) fits.1 has

pub done-live : (s : GuestState) (q : ℕ) (m : Move) → Alive s → (page s q).move ≡ Some m → LiveParts s.around s.dead (set s.pages q (finished m.change (page s q))) (spares_finished m.change s.spares) s.processors
done-live s q m co is_open =
    let g = page s q in
    let there = moving_within s.pages q m is_open in
    let co1 : Alive (with_page s q (finished m.change g)) = page-lives s q (finished m.change g) co (λ f has. finished-frames g m f is_open has) in
    live-spares s.around s.dead (set s.pages q (finished m.change g)) s.spares s.processors (spares_finished m.change s.spares) co1
    (λ f has. ⊎_elim (λ (x : HasFrame s.spares f). co.on_spares f x) (λ (x : HasFrame (used_for g) f). co.on_pages q f there x) (spares-frames g m s.spares f is_open has))

pub ends-live : (s t : GuestState) (end : End) → Alive s → Ends s end t → Alive t
ends-live s t end co row = subst Alive (sym row.after) (record { on_pages = λ q f lt has. absurd (below q lt); on_spares = λ f has. absurd has; on_processors = co.on_processors })
  where
    below : (q : ℕ) → q < 0 → ⊥
    below q lt = omega arith
