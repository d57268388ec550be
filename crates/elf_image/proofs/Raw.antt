-- A raw file laid into pages.
use Rattle.std.proofs.Common.{◌≡◌, ℕ, ◌+◌, ◌-◌, ◌*◌, ◌≤◌, List, [], ◌++◌, length, get_or, slice_index, take, drop, map, replicate, min, inl, inr, refl, sym, ap, ◌∙◌, arith}
use Rattle.std.specs.List.{range_with_len}
use Rattle.std.proofs.lemmas.Bool.{cases_lt}
use Rattle.std.proofs.lemmas.List.{length-append, length-take, length-drop, length-replicate, get_or-take, get_or-drop, get_or-replicate, get_or_past, get_or_append_left, get_or-append_right, take_all, take_rest, drop_all}
use Rattle.std.proofs.lemmas.List.FromFn.{fill_by_all}
use Rattle.elf_image.specs.Filling.{IsPageOf}
use Rattle.elf_image.proofs.Lists.{replaced, length-replaced, replaced-within, replaced-above}

-- the part of a file from a place on, cut at its end
pub part-is : (file : List ℕ) (n start : ℕ) → start ≡ min (length file) n → take (min (length file) (start + 4096) - start) (drop start file) ≡ take 4096 (drop n file)
part-is file n start start-is =
    elim (cases_lt (length file) n) [
      | inl past ↦
          let none : drop start file ≡ [] = drop_all start file (omega arith) in
          let nothing : drop n file ≡ [] = drop_all n file (omega arith) in
          ap (take (min (length file) (start + 4096) - start)) none ∙ take_all _ [] (omega arith) ∙ sym (ap (take 4096) nothing ∙ take_all 4096 [] (omega arith))
      | inr within ↦
          let here : start ≡ n = omega arith in
          ap (λ s. take (min (length file) (s + 4096) - s) (drop s file)) here
          ∙ elim (cases_lt (length file) (n + 4096)) [
            | inl short ↦
                let count : min (length file) (n + 4096) - n ≡ length file - n = omega arith in
                ap (λ c. take c (drop n file)) count ∙ take_rest file n ∙ sym (take_all 4096 (drop n file) (simp length-drop (omega arith)))
            | inr long ↦
                let count : min (length file) (n + 4096) - n ≡ 4096 = omega arith in
                ap (λ c. take c (drop n file)) count
          ]
    ]

-- a page of zeros with the part of the file that lies on it
pub IsPageOf-part : (file : List ℕ) (number : ℕ) (old new part : List ℕ) → old ≡ replicate 4096 0 → part ≡ take 4096 (drop (4096 * number) file) → new ≡ replaced old 0 part → IsPageOf (slice_index file) number new
IsPageOf-part file number old new part zeros part-is new-is =
    let size : length old ≡ 4096 = ap length zeros ∙ length-replicate {A = ℕ} 4096 0 in
    let len : length part ≡ min 4096 (length file - 4096 * number) = ap length part-is ∙ simp (length-take, length-drop) in
    let room : 0 + length part ≤ length old = omega arith in
    record {
      whole = ap length new-is ∙ length-replaced old 0 part room ∙ size;
      bytes = λ k below. ap (λ l. get_or l k 0) new-is ∙
          elim (cases_lt k (length part)) [
            | inl within ↦
                replaced-within old 0 part k room (omega arith) (omega arith)
                ∙ ap (λ i. get_or part i 0) (let same : k - 0 ≡ k = omega arith in same)
                ∙ ap (λ l. get_or l k 0) part-is ∙ get_or-take 4096 (drop (4096 * number) file) k 0 below ∙ get_or-drop (4096 * number) file k 0
            | inr behind ↦
                replaced-above old 0 part k room (omega arith)
                ∙ ap (λ l. get_or l k 0) zeros ∙ get_or-replicate {A = ℕ} 4096 k 0 0 below
                ∙ sym (get_or_past file (4096 * number + k) 0 (omega arith))
          ];
    }

-- a file and zeros behind it, place by place
pub zeros_behind : (file : List ℕ) (n : ℕ) → length file ≤ n → file ++ replicate (n - length file) 0 ≡ map (slice_index file) (range_with_len 0 n)
zeros_behind file n fits =
    let rest : ℕ = n - length file in
    fill_by_all (slice_index file) (file ++ replicate rest 0) n 0 (length-append file (replicate rest 0) ∙ ap (λ r. length file + r) (length-replicate {A = ℕ} rest 0) ∙ omega arith) (λ k lt.
    elim (cases_lt k (length file)) [
      | inl within ↦ get_or_append_left file (replicate rest 0) 0 k within
      | inr behind ↦ get_or-append_right file (replicate rest 0) (length file) k 0 refl behind ∙ get_or-replicate {A = ℕ} rest (k - length file) 0 0 (omega arith) ∙ sym (get_or_past file k 0 behind)
    ])
