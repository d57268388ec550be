-- A segment's bytes copied into a page.
use Rattle.std.proofs.Common.{◌≡◌, ℕ, ◌+◌, ◌-◌, ◌*◌, ◌<◌, ◌≤◌, cond, leb, ltb, ◌&&◌, inl, inr, List, length, get_or, take, drop, min, max, sym, ap, ◌∙◌, arith}
use Rattle.std.proofs.lemmas.Bool.{cases_lt, cond-true, cond-false, and_left, and_right, and_from, le-leb, lt-leb, lt-ltb, le-ltb}
use Rattle.std.proofs.lemmas.List.{length-take, length-drop, get_or-take, get_or-drop}
use Rattle.elf_image.specs.declared.segment.LoadSegment.{LoadSegment}
use Rattle.elf_image.specs.declared.segment.ProgramHeader.TheVariants.{Load}
use Rattle.elf_image.specs.Physical.{physical_start, lies_at, file_byte}
use Rattle.elf_image.specs.Filling.{PutsBytes}
use Rattle.elf_image.proofs.Lists.{replaced, length-replaced, replaced-below, replaced-within, replaced-above}

-- a segment's bytes from one address to another, written into a page
puts_at : (start size offset base from to : ℕ) (file old : List ℕ) → from ≡ max start base → to ≡ min (start + size) (base + 4096) → from < to → offset + size ≤ length file → length old ≡ 4096
    → (part : List ℕ) → part ≡ take (to - from) (drop (offset + (from - start)) file) → (k : ℕ) → k < 4096
    → get_or (replaced old (from - base) part) k 0 ≡ cond (leb start (base + k) && ltb (base + k) (start + size)) (get_or file (offset + (base + k - start)) 0) (get_or old k 0)
puts_at start size offset base from to file old from-is to-is lt fits page part part-is k below =
    let size-is : length part ≡ to - from = ap length part-is ∙ simp (length-take, length-drop) (omega arith) in
    let room : (from - base) + length part ≤ length old = omega arith in
    let address : ℕ = base + k in
    elim (cases_lt address from) [
      | inl before ↦
          replaced-below old (from - base) part k room (omega arith)
          ∙ sym (cond-false (leb start address && ltb address (start + size)) _ _ (and_left (leb start address) (ltb address (start + size)) (lt-leb start address (omega arith))))
      | inr from_on ↦ elim (cases_lt address to) [
        | inl inside ↦
            let place : (offset + (from - start)) + (k - (from - base)) ≡ offset + (address - start) = omega arith in
            replaced-within old (from - base) part k room (omega arith) (omega arith)
            ∙ ap (λ l. get_or l (k - (from - base)) 0) part-is
            ∙ get_or-take (to - from) (drop (offset + (from - start)) file) (k - (from - base)) 0 (omega arith)
            ∙ get_or-drop (offset + (from - start)) file (k - (from - base)) 0
            ∙ ap (λ i. get_or file i 0) place
            ∙ sym (cond-true (leb start address && ltb address (start + size)) _ _ (and_from (leb start address) (ltb address (start + size)) (le-leb start address (omega arith)) (lt-ltb address (start + size) (omega arith))))
        | inr behind ↦
            replaced-above old (from - base) part k room (omega arith)
            ∙ sym (cond-false (leb start address && ltb address (start + size)) _ _ (and_right (leb start address) (ltb address (start + size)) (le-ltb address (start + size) (omega arith))))
      ]
    ]

-- what copying a segment's bytes into a page leaves, as the code computes their places
pub PutsBytes-from_copy : (s : LoadSegment) (file old new : List ℕ) (number start from to place : ℕ) → start ≡ physical_start s → from ≡ max start (4096 * number) → to ≡ min (start + s.p_filesz) (4096 * number + 4096)
    → from < to → place ≡ s.p_offset + (from - start) → s.p_offset + s.p_filesz ≤ length file → length old ≡ 4096
    → new ≡ replaced old (from - 4096 * number) (take (place + (to - from) - place) (drop place file))
    → PutsBytes old new number (lies_at (Load s)) (file_byte file (Load s))
PutsBytes-from_copy s file old new number start from to place start-is from-is to-is lt place-is fits page new-is =
    let part : List ℕ = take (place + (to - from) - place) (drop place file) in
    let base : ℕ = 4096 * number in
    let first : ℕ = physical_start s in
    let count : place + (to - from) - place ≡ to - from = omega arith in
    let part-is : part ≡ take (to - from) (drop (s.p_offset + (from - first)) file) = ap (λ n. take n (drop place file)) count ∙ ap (λ i. take (to - from) (drop i file)) (place-is ∙ ap (λ a. s.p_offset + (from - a)) start-is) in
    let from-first : from ≡ max first base = from-is ∙ ap (λ a. max a base) start-is in
    let to-first : to ≡ min (first + s.p_filesz) (base + 4096) = to-is ∙ ap (λ a. min (a + s.p_filesz) (base + 4096)) start-is in
    let size-is : length part ≡ to - from = ap length part-is ∙ simp (length-take, length-drop) (omega arith) in
    record {
      whole = ap length new-is ∙ length-replaced old (from - base) part (omega arith) ∙ page;
      bytes = λ k below. ap (λ l. get_or l k 0) new-is ∙ puts_at first s.p_filesz s.p_offset base from to file old from-first to-first lt fits page part part-is k below;
    }
