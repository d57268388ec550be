-- What a task leaves of a guest's parts: their numbers, and what is shown.
use Rattle.std.proofs.Common.{◌≡◌, ℕ, ◌==◌, if◌then◌else◌, Bool, true, false, subst, List, [], ◌∷◌, ◌++◌, ◌+◌, Some, None, length, map, get_or, refl, sym, ap, ◌∙◌, length-set}
use Rattle.std.proofs.lemmas.List.{map-append, length-map, length-append}
use Rattle.base_words.specs.declared.device.Transfer.{Transfer}
use Rattle.base_words.specs.declared.ids.CellId.{CellId}
use Rattle.private_machine.specs.declared.vcpu.Vcpu.{Vcpu}
use Rattle.private_machine.specs.Showing.{shown_by}
use Rattle.private_machine.specs.Backing.{Page, page_at, with_first}
use Rattle.private_machine.specs.DevicePage.{DevicePage, transfer_of}
use Rattle.private_machine.specs.Disk.{Block, no_block, block_now}
use Rattle.private_machine.specs.Links.{unlinked_page}
use Rattle.private_machine.specs.Devices.{disk_status}
use Rattle.guest_devs.specs.declared.act.DevAct.{DevAct}
use Rattle.guest_devs.specs.declared.act.DevAct.TheVariants as acts
use Rattle.isolation_law.specs.GuestState.{GuestState}
use Rattle.isolation_law.specs.Content.{content}
use Rattle.guest_course.specs.declared.task.Task.{Task}
use Rattle.guest_course.specs.declared.task.Task.TheVariants as tasks
use Rattle.guest_course.specs.Tasks.{IsTask, IsClear, MayRead, done_page, done_cells, done_pages, done_vcpus, done_disk}

-- the cells of what was sent, as the state has them
abbrev pub done_sent : Task → List ℕ → List ℕ
done_sent (tasks.Refuse status) sent = sent
done_sent (tasks.Read block q) sent = sent
done_sent (tasks.Write block q) sent = sent
done_sent (tasks.Take q) sent = sent
done_sent (tasks.Send parcel) sent = sent ++ parcel.cell.0 ∷ []
done_sent tasks.Skip sent = sent

pub sent-done : (task : Task) (cells : List CellId) → map (λ (x : CellId). x.0) (done_cells task cells) ≡ done_sent task (map (λ (x : CellId). x.0) cells)
sent-done (tasks.Refuse status) cells = refl
sent-done (tasks.Read block q) cells = refl
sent-done (tasks.Write block q) cells = refl
sent-done (tasks.Take q) cells = refl
sent-done (tasks.Send parcel) cells = map-append (λ (x : CellId). x.0) cells (parcel.cell ∷ [])
sent-done tasks.Skip cells = refl

-- there are as many pages
pub pages-long : (disk : List Block) (task : Task) (pages : List Page) → length (done_pages disk task pages) ≡ length pages
pages-long disk (tasks.Refuse status) pages = refl
pages-long disk (tasks.Read block q) pages = length-set pages q.0 (with_first (block_now (get_or disk block no_block)) (page_at pages q.0))
pages-long disk (tasks.Write block q) pages = refl
pages-long disk (tasks.Take q) pages = refl
pages-long disk (tasks.Send parcel) pages = refl
pages-long disk tasks.Skip pages = refl

-- a page into which a block comes may change where no page is in the way
pub may-read : (s : GuestState) (v : ℕ) (act : DevAct) (task : Task) → IsTask s v act task → IsClear s v act → MayRead s.pages task
may-read s v acts.Done task is clear = absurd is
may-read s v acts.DiskRead task is clear = by (disk_status (content s) t 1 == 0) refl is
  where
    t : Transfer
    t = transfer_of s.devices v

    by : (b : Bool) → (disk_status (content s) t 1 == 0) ≡ b → task ≡ (if b then tasks.Read t.block (record { 0 = t.page }) else tasks.Refuse (disk_status (content s) t 1)) → MayRead s.pages task
    by true e is = subst (MayRead s.pages) (sym is) (clear t.page (ap (λ (b : Bool). if b then Some t.page else None) e))
    by false e is = subst (MayRead s.pages) (sym is) tt
may-read s v acts.DiskWrite task is clear = by (disk_status (content s) t 2 == 0) is
  where
    t : Transfer
    t = transfer_of s.devices v

    by : (b : Bool) → task ≡ (if b then tasks.Write t.block (record { 0 = t.page }) else tasks.Refuse (disk_status (content s) t 2)) → MayRead s.pages task
    by true is = subst (MayRead s.pages) (sym is) tt
    by false is = subst (MayRead s.pages) (sym is) tt
may-read s v (acts.Send to) (tasks.Refuse status) is clear = tt
may-read s v (acts.Send to) (tasks.Read block q) is clear = absurd is
may-read s v (acts.Send to) (tasks.Write block q) is clear = tt
may-read s v (acts.Send to) (tasks.Take q) is clear = tt
may-read s v (acts.Send to) (tasks.Send parcel) is clear = tt
may-read s v (acts.Send to) tasks.Skip is clear = tt

pub transfers-done : (v : ℕ) (task : Task) (d : DevicePage) → length (done_page v task d).transfers ≡ length d.transfers
transfers-done v (tasks.Refuse status) d = length-set d.transfers v (record (transfer_of d v) { status = status })
transfers-done v (tasks.Read block q) d = length-set d.transfers v (record (transfer_of d v) { status = 0 })
transfers-done v (tasks.Write block q) d = length-set d.transfers v (record (transfer_of d v) { status = 0 })
transfers-done v (tasks.Take q) d = length-set d.transfers v (record (transfer_of d v) { status = 0 })
transfers-done v (tasks.Send parcel) d = refl
transfers-done v tasks.Skip d = refl

pub done-length : (task : Task) (cs : List Vcpu) → length (done_vcpus task cs) ≡ length cs
done-length (tasks.Refuse status) cs = refl
done-length (tasks.Read block q) cs = length-map cs (unlinked_page q.0)
done-length (tasks.Write block q) cs = refl
done-length (tasks.Take q) cs = length-map cs (unlinked_page q.0)
done-length (tasks.Send parcel) cs = refl
done-length tasks.Skip cs = refl

-- what a task is done with is what stood there before a page went into a block
pub pages-saved : (pages : List Page) (task : Task) (disk : List Block) → done_pages (done_disk pages task disk) task pages ≡ done_pages disk task pages
pages-saved pages (tasks.Refuse status) disk = refl
pages-saved pages (tasks.Read block q) disk = refl
pages-saved pages (tasks.Write block q) disk = refl
pages-saved pages (tasks.Take q) disk = refl
pages-saved pages (tasks.Send parcel) disk = refl
pages-saved pages tasks.Skip disk = refl

-- what is done shows nothing new
pub shown-unlinked : (q : ℕ) (cs : List Vcpu) → map shown_by (map (unlinked_page q) cs) ≡ map shown_by cs
shown-unlinked q [] = refl
shown-unlinked q (c ∷ cs) = ap (λ l. shown_by c ∷ l) (shown-unlinked q cs)

pub done-shown : (task : Task) (cs : List Vcpu) → map shown_by (done_vcpus task cs) ≡ map shown_by cs
done-shown (tasks.Refuse status) cs = refl
done-shown (tasks.Read block q) cs = shown-unlinked q.0 cs
done-shown (tasks.Write block q) cs = refl
done-shown (tasks.Take q) cs = shown-unlinked q.0 cs
done-shown (tasks.Send parcel) cs = refl
done-shown tasks.Skip cs = refl

-- there is a cell for each packet that was sent
pub cells-done : (v : ℕ) (task : Task) (cells : List CellId) (d : DevicePage) → length cells ≡ length d.sent → length (done_cells task cells) ≡ length (done_page v task d).sent
cells-done v (tasks.Refuse status) cells d e = e
cells-done v (tasks.Read block q) cells d e = e
cells-done v (tasks.Write block q) cells d e = e
cells-done v (tasks.Take q) cells d e = e
cells-done v (tasks.Send parcel) cells d e = length-append cells (parcel.cell ∷ []) ∙ ap (λ (n : ℕ). n + 1) e ∙ sym (length-append d.sent (record { to = parcel.to; bytes = parcel.bytes } ∷ []))
cells-done v tasks.Skip cells d e = e
