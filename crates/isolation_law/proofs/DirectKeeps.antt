-- A step through the TLB keeps coherence.
use Rattle.std.proofs.Common.{◌≡◌, inl, inr, ℕ, ◌+◌, ◌≤◌, ◌%◌, true, ⊎_elim, List, [], ◌++◌, length, take, drop, refl, sym, ap, ◌∙◌, subst, arith}
use Rattle.std.proofs.lemmas.Bool.{eq-eqb}
use Rattle.std.proofs.lemmas.List.{length-append, length-drop, length-take-le}
use Rattle.base_words.specs.Memory.{with_word}
use Rattle.byteorder.specs.Endian.{big_bytes}
use Rattle.base_words.specs.Halves.{Half}
use Rattle.base_words.specs.Membership.{Has}
use Rattle.private_machine.specs.Backing.{Copy, Page, copies, with_bytes, stored_through}
use Rattle.private_machine.specs.Links.{word_offset}
use Rattle.isolation_law.specs.Coherence.{Consistent}
use Rattle.isolation_law.specs.GuestState.{GuestState, page, processor, with_page}
use Rattle.isolation_law.proofs.Parts.{coherent_with_page, count_same}

with_word-length : (bytes : List ℕ) (o w : ℕ) → o + 4 ≤ length bytes → length (with_word bytes o w) ≡ length bytes
with_word-length bytes o w room =
    let front = length-take-le o bytes (omega arith) in
    let rest = length-drop (o + 4) bytes in
    length-append (take o bytes) (big_bytes 4 w ++ drop (o + 4) bytes)
    ∙ (let sum : length (take o bytes) + length (big_bytes 4 w ++ drop (o + 4) bytes) ≡ length bytes = rw (length-append (big_bytes 4 w) (drop (o + 4) bytes)) (omega arith) in sum)

-- a word is stored through a writable half
pub stored_keeps : (s : GuestState) (p : ℕ) (h : Half) (a word : ℕ) → Consistent s → Has (processor s p).tlb h → h.writable ≡ true → Consistent (with_page s h.page (stored_through (page s h.page) h.frame (word_offset (a % 4096)) word))
stored_keeps s p h a word co has writable =
    let g = page s h.page in
    let o = word_offset (a % 4096) in
    let lt = co.within p h has in
    let rule = co.by_page h.page lt in
    let on = co.on_page p h has in
    let alone = on.alone writable in
    let is_master : g.master.frame ≡ h.frame = only_master g on.backed.0 on.backed.1 alone.1 ∙ on.backed.2 in
    let new : Page = record g { master = with_bytes (with_word g.master.bytes o word) g.master } in
    let same : stored_through g h.frame o word ≡ new = rw (eq-eqb g.master.frame h.frame is_master) refl in
    let room : o + 4 ≤ length g.master.bytes = rw rule.whole (omega arith) in
    let co1 : Consistent (with_page s h.page new) = coherent_with_page s h.page new lt co
    (record { whole = with_word-length g.master.bytes o word room ∙ rule.whole; equal = λ c has. absurd (subst (λ (l : List Copy). Has l c) alone.1 has); single = rule.single; moves = rule.moves; sized = rule.sized })
    (λ r k has at old. record { backed = backed g new (with_word g.master.bytes o word) k refl old.backed.0 old.backed.1 old.backed.2; is_mapped = old.is_mapped; alone = old.alone })
    (λ r k has at old. (refl, refl))
    (λ v e has at none. none)
    (rw (count_same s.pages h.page new lt refl) co.enough) in
    subst (λ (x : Page). Consistent (with_page s h.page x)) (sym same) co1
  where
    only_master : (g : Page) (c : Copy) → Has (copies g) c → g.replicas ≡ [] → g.master.frame ≡ c.frame
    only_master g c has none = ⊎_elim (λ (e : g.master ≡ c). ap (λ (z : Copy). z.frame) e) (λ later. absurd (subst (λ (l : List Copy). Has l c) none later)) has

    backed : (g new : Page) (bytes : List ℕ) (k : Half) → record g { master = with_bytes bytes g.master } ≡ new → (c : Copy) → Has (copies g) c → c.frame ≡ k.frame → (d : Copy) × Has (copies (record g { master = with_bytes bytes g.master })) d × (d.frame ≡ k.frame)
    backed g new bytes k is c has e = ⊎_elim
        (λ (one : g.master ≡ c). (with_bytes bytes g.master, inl refl, ap (λ (z : Copy). z.frame) one ∙ e))
        (λ later. (c, inr later, e))
        has
