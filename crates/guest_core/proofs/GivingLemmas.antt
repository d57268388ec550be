-- Which page an act shares, against what the step at hand does.
use Rattle.std.proofs.Common.{◌≡◌, ℕ, ◌==◌, not, ◌&&◌, if◌then◌else◌, Bool, true, false, Some, None, refl, sym, ap, ◌∙◌, subst, zero, suc, cond, List, [], ◌∷◌, ◌<◌, get_or, length, arith}
use Rattle.base_words.specs.declared.ids.NodeId.{NodeId}
use Rattle.guest_devs.specs.declared.act.DevAct.{DevAct}
use Rattle.guest_devs.specs.declared.act.DevAct.TheVariants as acts
use Rattle.node_frames.specs.Layout.{Layout, layout_of}
use Rattle.private_machine.specs.DeviceAct.{ReadsDisk, WritesDisk, SendsPage, NoAct}
use Rattle.private_machine.specs.DevicePage.{transfer_of}
use Rattle.private_machine.specs.Devices.{disk_status, may_send}
use Rattle.isolation_law.specs.Content.{content}
use Rattle.isolation_law.specs.GuestState.{GuestState, page, is_dead}
use Rattle.isolation_law.specs.Needs.{Need, for_send, may_offer}
use Rattle.isolation_law.specs.Surroundings.{Surroundings, cell_of_node}
use Rattle.base_words.specs.declared.device.Transfer.{Transfer}
use Rattle.guest_course.specs.Acting.{act_of, page_used}
use Rattle.guest_course.specs.CourseView.{surroundings}
use Rattle.guest_course.specs.Posting.{to_give}
use Rattle.guest_course.specs.declared.site.Around.{Around}
use Rattle.guest_core.specs.MoveCalls.{IsLayoutOf}
use Rattle.guest_core.proofs.CountedCopies.{same-cells}
use Rattle.guest_core.proofs.ShapeLemmas.{nodes-of}
use Rattle.std.specs.Prelude.{slice_get, filter}
use Rattle.private_machine.specs.Backing.{Copy, lies_on}
use Rattle.node_frames.specs.BootOrder.{boot_nodes}
use Rattle.isolation_law.specs.MoveRows.{LiesAlive}
use Rattle.guest_core.specs.Sharing.{lives_on, spare_nodes}
use Rattle.guest_core.proofs.CauseLemmas.{lies-alive}

no-some : {A : Type 0} (a : A) → None ≡ Some a → ⊥
no-some a e = cc

-- a step that reads a block sends nothing
pub reads-or-sends : (b q r length to : ℕ) → ReadsDisk b q ≡ SendsPage r length to → ⊥
reads-or-sends b q r length to e = cc

-- an act whose page has to be given first reads no block
pub gives-no-read : (s : GuestState) (v q b r : ℕ) (act : DevAct) → to_give s v act ≡ Some q → act_of s v act ≡ ReadsDisk b r → ⊥
gives-no-read s v q b r acts.Done gives reads = no-some q gives
gives-no-read s v q b r acts.DiskRead gives reads = no-some q gives
gives-no-read s v q b r acts.DiskWrite gives reads = no-some q gives
gives-no-read s v q b r (acts.Send to) gives reads = by (may_send (content s) (transfer_of s.devices v)) reads
  where
    by : (may : Bool) → (if may then SendsPage (transfer_of s.devices v).send_page (transfer_of s.devices v).send_length to else NoAct) ≡ ReadsDisk b r → ⊥
    by true e = cc
    by false e = cc

-- an act that gives a page uses it
pub gives-used : (s : GuestState) (v q : ℕ) (act : DevAct) → to_give s v act ≡ Some q → page_used (act_of s v act) ≡ Some q
gives-used s v q acts.Done gives = absurd (no-some q gives)
gives-used s v q acts.DiskRead gives = absurd (no-some q gives)
gives-used s v q acts.DiskWrite gives = absurd (no-some q gives)
gives-used s v q (acts.Send to) gives = by (may_send (content s) t) (may_offer s t.send_page t.send_length to && not (page s t.send_page).shared) gives
  where
    t : Transfer
    t = transfer_of s.devices v

    by : (may offers : Bool) → (if may && offers then Some t.send_page else None) ≡ Some q → page_used (if may then SendsPage t.send_page t.send_length to else NoAct) ≡ Some q
    by true true is = is
    by true false is = absurd (no-some q is)
    by false offers is = absurd (no-some q is)

read-done : (t-block t-page q length to : ℕ) (done : Bool) → (if done then ReadsDisk t-block t-page else NoAct) ≡ SendsPage q length to → ⊥
read-done b p q length to true e = cc
read-done b p q length to false e = cc

write-done : (t-block t-page q length to : ℕ) (done : Bool) → (if done then WritesDisk t-block t-page else NoAct) ≡ SendsPage q length to → ⊥
write-done b p q length to true e = cc
write-done b p q length to false e = cc

-- where no page has to be given a send needs no move
pub gives-none : (s : GuestState) (v q length to : ℕ) (need : Need) (act : DevAct) → to_give s v act ≡ None → act_of s v act ≡ SendsPage q length to → for_send s true q length to ≡ Some need → ⊥
gives-none s v q length to need acts.Done none sends is = cc
gives-none s v q length to need acts.DiskRead none sends is = read-done (transfer_of s.devices v).block (transfer_of s.devices v).page q length to (disk_status (content s) (transfer_of s.devices v) 1 == 0) sends
gives-none s v q length to need acts.DiskWrite none sends is = write-done (transfer_of s.devices v).block (transfer_of s.devices v).page q length to (disk_status (content s) (transfer_of s.devices v) 2 == 0) sends
gives-none s v q length to need (acts.Send other) none sends is = by (may_send (content s) (transfer_of s.devices v)) sends none
  where
    t-page : ℕ
    t-page = (transfer_of s.devices v).send_page

    t-length : ℕ
    t-length = (transfer_of s.devices v).send_length

    offers : ℕ → ℕ → ℕ → Bool
    offers r n x = may_offer s r n x && not (page s r).shared

    some : (b : Bool) (r : ℕ) → (if b then Some r else None) ≡ None → b ≡ false
    some true r e = absurd (no-some r (sym e))
    some false r e = refl

    nothing : (b : Bool) (x : Need) → b ≡ false → (if true && b then Some x else None) ≡ Some need → ⊥
    nothing b x off e = no-some need (sym (ap (λ (o : Bool). if true && o then Some x else None) off) ∙ e)

    by : (may : Bool) → (if may then SendsPage t-page t-length other else NoAct) ≡ SendsPage q length to → (if may && offers t-page t-length other then Some t-page else None) ≡ None → ⊥
    by false e none' = cc
    by true e none' =
        let page-is : t-page ≡ q = cc in
        let length-is : t-length ≡ length = cc in
        let to-is : other ≡ to = cc in
        let off : offers q length to ≡ false = sym (λ i. offers (page-is i) (length-is i) (to-is i)) ∙ some (offers t-page t-length other) t-page none' in
        nothing (offers q length to) _ off is

-- the machine has one layout
pub the-layout : (a : Around) → IsLayoutOf (surroundings a) (layout_of a.site.shape)
the-layout a = record { nodes = sym (nodes-of a); frames = refl; cells = refl }

pub same-layout : (w : Surroundings) (a b : Layout) → IsLayoutOf w a → IsLayoutOf w b → a ≡ b
same-layout w a b x y =
    let nodes : a.nodes ≡ b.nodes = x.nodes ∙ sym y.nodes in
    let frames : a.frames ≡ b.frames = x.frames ∙ sym y.frames in
    let cells = same-cells a.cells b.cells (x.cells ∙ sym y.cells) in
    λ i. record { nodes = nodes i; frames = frames i; cells = cells i }

-- a node on which a spare is sought is of a cell that lives
passes-at : (p : NodeId → Bool) (xs : List NodeId) (place : ℕ) (node : NodeId) → slice_get (filter p xs) place ≡ Some node → p node ≡ true
passes-at p [] place node e = absurd (no-some node e)
passes-at p (x ∷ xs) place node e = by (p x) refl place e (λ k later. passes-at p xs k node later)
  where
    same : (y z : NodeId) → Some y ≡ Some z → y ≡ z
    same y z e = cc

    by : (b : Bool) → p x ≡ b → (k : ℕ) → slice_get (cond b (x ∷ filter p xs) (filter p xs)) k ≡ Some node → ((k : ℕ) → slice_get (filter p xs) k ≡ Some node → p node ≡ true) → p node ≡ true
    by true is zero e more = ap p (sym (same x node e)) ∙ is
    by true is (suc k) e more = more k e
    by false is k e more = more k e

-- and it is one of the machine's
pub nodes-kept : (p : NodeId → Bool) (n : ℕ) (xs : List NodeId) → ((k : ℕ) (d : NodeId) → k < length xs → (get_or xs k d).0 < n) → (k : ℕ) (d : NodeId) → k < length (filter p xs) → (get_or (filter p xs) k d).0 < n
nodes-kept p n [] below k d lt = absurd (omega arith)
nodes-kept p n (x ∷ xs) below k d lt = by (p x) k lt (λ j less. nodes-kept p n xs (λ i e under. below (suc i) e (omega arith)) j d less)
  where
    by : (b : Bool) (j : ℕ) → j < length (cond b (x ∷ filter p xs) (filter p xs)) → ((i : ℕ) → i < length (filter p xs) → (get_or (filter p xs) i d).0 < n) → (get_or (cond b (x ∷ filter p xs) (filter p xs)) j d).0 < n
    by true zero less more = below 0 d (omega arith)
    by true (suc j) less more = more j (omega arith)
    by false j less more = more j less

not-true : (b : Bool) → not b ≡ true → b ≡ false
not-true true e = cc
not-true false e = refl

pub spare-alive : (s : GuestState) (layout : Layout) (order : List NodeId) (node : NodeId) (place : ℕ) (c : Copy) → order ≡ spare_nodes s layout → slice_get order place ≡ Some node → lies_on s.around.frames node.0 c ≡ true → LiesAlive s (Some c)
spare-alive s layout order node place c is at lies =
    lies-alive s node.0 c lies (not-true (is_dead s (cell_of_node s.around node.0)) (passes-at (lives_on s) (boot_nodes layout (record { 0 = s.around.home })) place node (subst (λ (l : List NodeId). slice_get l place ≡ Some node) is at)))
