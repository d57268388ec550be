use Rattle.std.proofs.Common.{◌≡◌, ℕ, ◌+◌, ◌<◌, List, [], ◌∷◌, ◌++◌, map, length, sym, ap, ◌∙◌, arith}
use Rattle.std.specs.List.{range_with_len}
use Rattle.std.proofs.lemmas.List.FromFn.{map-range_with_len_more, length-map-range_with_len}
use Rattle.elf_image.specs.declared.segment.ProgramHeader.{ProgramHeader}
use Rattle.elf_image.proofs.segments.read_headers.Goals as goal

one_more : (header_at : ℕ → ProgramHeader) (front all : List ProgramHeader) (n : ℕ) (header : ProgramHeader) → all ≡ front ++ header ∷ [] → front ≡ map header_at (range_with_len 0 n) → header ≡ header_at n
    → all ≡ map header_at (range_with_len 0 (n + 1))
one_more header_at front all n header more so_far read =
    more ∙ ap (λ f. f ++ header ∷ []) so_far ∙ ap (λ h. map header_at (range_with_len 0 n) ++ h ∷ []) read ∙ sym (map-range_with_len_more header_at 0 n n (omega arith))

pub loop-number-preserved : goal.loop-number-preserved
loop-number-preserved c = one_more _ _ _ _ _ c.in_ok-push.ensures.items c.loop-number.invariant c.read.ensures

few : (header_at : ℕ → ProgramHeader) (all : List ProgramHeader) (n : ℕ) → all ≡ map header_at (range_with_len 0 n) → n < 65536 → length all < 65536
few header_at all n is lt = rw (is, length-map-range_with_len header_at 0 n) lt

pub returns-clause-count : goal.returns-clause-count
returns-clause-count c = few _ _ _ c.loop-number.invariant (omega arith)
