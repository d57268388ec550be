-- The packet of a send goes on the wire to its receiver, be it a copy or with its page's frame.
use Rattle.std.proofs.Common.{◌≡◌, ℕ, zero, suc, [], ◌∷◌, ◌/◌, ◌<◌, ◌≤◌, ◌==◌, ◌&&◌, not, nat_lt, nat_le, if◌then◌else◌, Bool, true, false, List, Option, Some, None, length, map, slice_get, slice_index, refl, sym, ap, ◌∙◌, subst, arith}
use Rattle.std.specs.Borrow.{Bor}
use Rattle.std.specs.Option.{option_map, option_copied}
use Rattle.std.proofs.lemmas.Bool.{eqb-true, ltb-true, leb-true}
use Rattle.std.proofs.lemmas.List.{length-map}
use Rattle.std.proofs.lemmas.Nat.{div_below}
use Rattle.base_words.specs.declared.device.Transfer.{Transfer}
use Rattle.base_words.specs.declared.frame.SharedFrame.{SharedFrame}
use Rattle.base_words.specs.declared.ids.CellId.{CellId}
use Rattle.private_machine.specs.DevicePage.{transfer_of}
use Rattle.private_machine.specs.Devices.{may_send}
use Rattle.isolation_law.specs.Content.{content}
use Rattle.isolation_law.specs.GuestState.{GuestState, page}
use Rattle.isolation_law.specs.Needs.{may_offer, is_home_of_receiver}
use Rattle.isolation_law.specs.Surroundings.{cell_of_frame}
use Rattle.wire_queue.specs.Packets.{Handed}
use Rattle.wire_queue.specs.Lines.{Line, Fits, LiesOn, IsHome}
use Rattle.virtual_subnet.specs.Offering.{handed_of, handed_on, offered}
use Rattle.guest_course.specs.Posting.{AreTermsOf, AreWithin, sent_handed}

abbrev pub PlainFits : Type 0
PlainFits = (line : Line) (page : List ℕ) (length : ℕ) (shared : Option Handed) (cell : ℕ) → 1 ≤ length → length ≤ 4096 → handed_on length shared ≡ None → Fits line (offered page length shared cell line.from)

abbrev pub WholeFits : Type 0
WholeFits = (line : Line) (page : List ℕ) (handed : Handed) (cell : ℕ) → LiesOn line.terms handed.frame cell → IsHome line.terms line.to cell → Fits line (offered page 4096 (Some handed) cell line.from)

both : (a b : Bool) → (a && b) ≡ true → (a ≡ true) × (b ≡ true)
both true b e = (refl, e)
both false b e = cc

-- how long a packet is
few-bytes : (s : GuestState) (v : ℕ) → may_send (content s) (transfer_of s.devices v) ≡ true → (1 ≤ (transfer_of s.devices v).send_length) × ((transfer_of s.devices v).send_length ≤ 4096)
few-bytes s v may =
    let t = transfer_of s.devices v in
    let e = both (nat_lt t.send_page (length s.pages)) (nat_lt 0 t.send_length && nat_le t.send_length 4096) may in
    let f = both (nat_lt 0 t.send_length) (nat_le t.send_length 4096) e.1 in
    (let some = ltb-true 0 t.send_length f.0 in omega (arith, some), leb-true t.send_length 4096 f.1)

page-there : (s : GuestState) (v : ℕ) → may_send (content s) (transfer_of s.devices v) ≡ true → (transfer_of s.devices v).send_page < length s.pages
page-there s v may =
    let t = transfer_of s.devices v in
    ltb-true t.send_page (length s.pages) (both (nat_lt t.send_page (length s.pages)) (nat_lt 0 t.send_length && nat_le t.send_length 4096) may).0

-- a number that is found among cells
cell-at : (cells : List CellId) (n cell : ℕ) → n < length cells → slice_index (map (λ (c : CellId). c.0) cells) n ≡ cell → slice_get cells n ≡ Some (record { 0 = cell })
cell-at [] n cell lt is = absurd (let l : n < 0 = lt in omega arith)
cell-at (c ∷ cells) zero cell lt is = λ i. Some (record { 0 = is i })
cell-at (c ∷ cells) (suc n) cell lt is = cell-at cells n cell (omega (arith, lt)) is

home-at : (homes : List CellId) (n cell : ℕ) → is_home_of_receiver cell (slice_get (map (λ (c : CellId). c.0) homes) n) ≡ true → slice_get homes n ≡ Some (record { 0 = cell })
home-at [] n cell is = cc
home-at (c ∷ homes) zero cell is = λ i. Some (record { 0 = sym (eqb-true cell c.0 is) i })
home-at (c ∷ homes) (suc n) cell is = home-at homes n cell is

pub offered-fits : PlainFits → WholeFits → (s : GuestState) (v to : ℕ) → AreWithin s → 0 < s.around.frames → may_send (content s) (transfer_of s.devices v) ≡ true → (bytes : List ℕ)
    → (line : Line) → line.from ≡ s.around.guest → line.to ≡ to → AreTermsOf s.around line.terms
    → Fits line (offered bytes (transfer_of s.devices v).send_length (sent_handed s v to) (cell_of_frame s.around (page s (transfer_of s.devices v).send_page).master.frame) s.around.guest)
offered-fits plain whole s v to within some may bytes line from to_is terms = decide (may_offer s t.send_page t.send_length to && (page s t.send_page).shared) refl
  where
    t : Transfer
    t = transfer_of s.devices v

    frame : ℕ
    frame = (page s t.send_page).master.frame

    given : Handed
    given = record { frame = frame; generation = (page s t.send_page).master.generation }

    no-frame : (b : Bool) → ◌≡◌ {A = Option Handed} (if b then None else None) None
    no-frame true = refl
    no-frame false = refl

    copied : sent_handed s v to ≡ None → Fits line (offered bytes t.send_length (sent_handed s v to) (cell_of_frame s.around frame) s.around.guest)
    copied none =
        subst (λ (g : ℕ). Fits line (offered bytes t.send_length (sent_handed s v to) (cell_of_frame s.around frame) g)) from
        (plain line bytes t.send_length (sent_handed s v to) (cell_of_frame s.around frame) (few-bytes s v may).0 (few-bytes s v may).1
        (ap (λ (h : Option Handed). if t.send_length == 4096 then h else None) none ∙ no-frame (t.send_length == 4096)))

    lies : LiesOn line.terms frame (cell_of_frame s.around frame)
    lies =
        let low = div_below frame s.around.frames (length s.around.nodes) some (within t.send_page (page-there s v may)) in
        let count : length line.terms.cells ≡ length s.around.nodes = sym (length-map line.terms.cells (λ (c : CellId). c.0)) ∙ ap length terms.cells in
        let place : frame / line.terms.frames ≡ frame / s.around.frames = ap (λ (n : ℕ). frame / n) terms.frames in
        let at : slice_get line.terms.cells (frame / s.around.frames) ≡ Some (record { 0 = cell_of_frame s.around frame }) =
        cell-at line.terms.cells (frame / s.around.frames) (cell_of_frame s.around frame) (omega (arith, low, count)) (ap (λ (l : List ℕ). slice_index l (frame / s.around.frames)) terms.cells) in
        ap (slice_get line.terms.cells) place ∙ at

    decide : (b : Bool) → (may_offer s t.send_page t.send_length to && (page s t.send_page).shared) ≡ b → Fits line (offered bytes t.send_length (sent_handed s v to) (cell_of_frame s.around frame) s.around.guest)
    decide false e = copied (ap (λ (b : Bool). if b then Some given else None) e)
    decide true e =
        let offer = both (t.send_length == 4096) (not (to == s.around.guest) && is_home_of_receiver (cell_of_frame s.around frame) (slice_get s.around.homes to)) (both (may_offer s t.send_page t.send_length to) (page s t.send_page).shared e).0 in
        let full : t.send_length ≡ 4096 = eqb-true t.send_length 4096 offer.0 in
        let home = (both (not (to == s.around.guest)) (is_home_of_receiver (cell_of_frame s.around frame) (slice_get s.around.homes to)) offer.1).1 in
        let at : IsHome line.terms line.to (cell_of_frame s.around frame) =
        ap (slice_get line.terms.homes) to_is ∙ home-at line.terms.homes to (cell_of_frame s.around frame) (ap (λ (l : List ℕ). is_home_of_receiver (cell_of_frame s.around frame) (slice_get l to)) terms.homes ∙ home) in
        let is : sent_handed s v to ≡ Some given = ap (λ (b : Bool). if b then Some given else None) e in
        subst (λ (g : ℕ). Fits line (offered bytes t.send_length (sent_handed s v to) (cell_of_frame s.around frame) g)) from
        (subst (λ (n : ℕ). Fits line (offered bytes n (sent_handed s v to) (cell_of_frame s.around frame) line.from)) (sym full)
        (subst (λ (h : Option Handed). Fits line (offered bytes 4096 h (cell_of_frame s.around frame) line.from)) (sym is)
        (whole line bytes given (cell_of_frame s.around frame) lies at)))

-- a lent frame, as it is handed on
pub lent : (o : Option (Bor SharedFrame)) → option_map (λ (f : Bor SharedFrame). handed_of f.now) o ≡ option_map handed_of (option_copied o)
lent None = refl
lent (Some f) = refl
