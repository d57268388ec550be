-- Skips, packets that come to hand or are thrown away, and failures keep coherence and content; so does a page that is let go.
use Rattle.std.proofs.Common.{◌≡◌, ℕ, ◌≤◌, not, ◌&&◌, Some, length, refl, sym, ap, ◌∙◌, subst, None, List, ◌++◌, ◌∷◌, ⊎_elim, [], ◌<◌, inl, arith, get_or-set_same}
use Rattle.private_machine.specs.Backing.{TakesShared, Page, no_page}
use Rattle.private_machine.specs.Operation.{Packet, Operation, ReadsBlock, Delivers}
use Rattle.private_machine.specs.PageMove.{finished}
use Rattle.isolation_law.specs.Coherence.{Consistent}
use Rattle.isolation_law.specs.PageRules.{is_breaking, needs_spare, HasBytes, sources}
use Rattle.isolation_law.specs.Content.{content}
use Rattle.isolation_law.specs.EndRows.{CellFailsIn, LetsGo}
use Rattle.isolation_law.specs.GuestState.{GuestState, page, hand_place, with_page}
use Rattle.isolation_law.specs.PacketRows.{ComesToHand, Discards}
use Rattle.isolation_law.proofs.Parts.{coherent_with_page, count_same, content-page, coherent_with_operation}
use Rattle.isolation_law.proofs.LeaveProofs.{moving_within}
use Rattle.isolation_law.proofs.SourceProofs.{coherent_with_sources, passed}
use Rattle.isolation_law.specs.SkipRow.{Skips}
use Rattle.std.proofs.lemmas.List.{length-append}

pub fails_keeps : (s t : GuestState) (c : ℕ) → Consistent s → CellFailsIn s c t → Consistent t
fails_keeps s t c co row = subst Consistent (sym row.after) co

pub fails_content : (s t : GuestState) (c : ℕ) → CellFailsIn s c t → content t ≡ content s
fails_content s t c row = ap content row.after

pub skips_keeps : (s t : GuestState) (k : ℕ) → Consistent s → Skips s k t → Consistent t
skips_keeps s t k co row = subst Consistent (sym row.after) co

pub skips_content : (s t : GuestState) (k : ℕ) → Skips s k t → content t ≡ content s
skips_content s t k row = ap content row.after

pub hand_keeps : (s t : GuestState) → Consistent s → ComesToHand s t → Consistent t
hand_keeps s t co row = subst Consistent (sym row.after) (coherent_with_sources s (sources (record s { hand = Some row.packet })) co (λ o bytes old. source o bytes old) co.blocks (λ x e. short row.packet x row.within e))
  where
    short : (y x : Packet) → length y.bytes ≤ 4096 → Some y ≡ Some x → length x.bytes ≤ 4096
    short y x within e = let same : y ≡ x = cc in subst (λ (z : Packet). length z.bytes ≤ 4096) same within

    none-some : (x : Packet) → None ≡ Some x → ⊥
    none-some x e = cc

    source : (o : Operation) (bytes : List ℕ) → HasBytes (sources s) bytes o → HasBytes (sources (record s { hand = Some row.packet })) bytes o
    source (ReadsBlock v b) bytes old = old
    source (Delivers place packet) bytes old = (
      old.0,
      ⊎_elim
          (λ (lt : place < hand_place s). inl lt)
          (λ (here : (place ≡ hand_place s) × (s.hand ≡ Some packet)). absurd (none-some packet (sym row.free ∙ here.1)))
          old.1,
    )

pub hand_content : (s t : GuestState) → ComesToHand s t → content t ≡ content s
hand_content s t row = ap content row.after

pub discards_keeps : (s t : GuestState) (k : ℕ) → Consistent s → Discards s k t → Consistent t
discards_keeps s t k co row =
    let u : GuestState = record s { hand = None; discarded = s.discarded ++ row.packet ∷ [] } in
    let more : hand_place s < hand_place u = let one = length-append s.discarded (row.packet ∷ []) in omega arith in
    subst Consistent (sym row.after) (coherent_with_sources s (sources u) co (λ o bytes old. passed (sources s) (sources u) o bytes refl more old) co.blocks (λ x e. cc))

pub discards_content : (s t : GuestState) (k : ℕ) → Discards s k t → content t ≡ content s
discards_content s t k row = ap content row.after

-- a page that is let go
pub lets_go_keeps : (s t : GuestState) (q : ℕ) → Consistent s → LetsGo s q t → Consistent t
lets_go_keeps s t q co row =
    let g = page s q in
    let there = moving_within s.pages q (record { change = TakesShared row.target; waiting = row.waiting }) row.open_move in
    let rule = co.by_page q there in
    let needs : needs_spare (finished (TakesShared row.target) g) ≡ needs_spare g = ap (λ b. g.shared && not b) (sym (ap is_breaking row.open_move)) in
    let done : Consistent (with_page s q (finished (TakesShared row.target) g)) = coherent_with_page s q (finished (TakesShared row.target) g) there co
    (record { whole = rule.whole; equal = rule.equal; single = rule.single; moves = tt; sized = rule.sized })
    (λ p h has at old. record { backed = old.backed; is_mapped = old.is_mapped; alone = old.alone })
    (λ p h has at old. (refl, refl))
    (λ v e has at none. refl)
    (rw (count_same s.pages q (finished (TakesShared row.target) g) there needs) co.enough) in
    subst Consistent (sym row.after) (coherent_with_operation (with_page s q (finished (TakesShared row.target) g)) q None done (ap (λ (x : Page). x.move) (get_or-set_same s.pages q (finished (TakesShared row.target) g) no_page there)))

pub lets_go_content : (s t : GuestState) (q : ℕ) → LetsGo s q t → content t ≡ content s
lets_go_content s t q row = ap content row.after ∙ content-page s q (finished (TakesShared row.target) (page s q)) refl
