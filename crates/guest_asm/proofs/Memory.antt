-- The memory of an image of one segment, and the words in it.
use Rattle.std.proofs.Common.{◌≡◌, ◌∙◌, ℕ, ◌+◌, ◌-◌, ◌*◌, ◌<◌, ◌≤◌, false, List, [], ◌∷◌, ◌++◌, append_assoc, length, take, drop, map, replicate, get_or, ap, sym, refl, arith, inl, inr}
use Rattle.std.specs.Prelude.{All}
use Rattle.std.specs.List.{range_with_len}
use Rattle.std.proofs.lemmas.Bool.{cases_lt, cond_both}
use Rattle.std.proofs.lemmas.Bool.Decides.{nat_tests}
use Rattle.std.proofs.lemmas.List.{length-append, length-replicate, drop_at, take_at, drop-drop, get_or_append_left, get_or-append-add, get_or-append_right, get_or-replicate, get_or_past, ext_get_or}
use Rattle.std.proofs.lemmas.List.Elements.{All-nil, All-cons, All-head, All-tail}
use Rattle.std.proofs.lemmas.List.FromFn.{length-map-range_with_len, get_or-map-range_with_len}
use Rattle.byteorder.specs.Endian.{big_bytes}
use Rattle.elf_image.specs.declared.segment.ProgramHeader.{ProgramHeader}
use Rattle.elf_image.specs.Physical.{lies_at, file_byte, byte_of, bytes_of}
use Rattle.guest_asm.specs.declared.assembled.Placed.{Placed}
use Rattle.guest_asm.specs.Addresses.{end}
use Rattle.guest_asm.specs.Image.{file_header, program_header, bytes_from, AreInOrder}
use Rattle.guest_asm.specs.Loading.{IsBeside}
use Rattle.guest_asm.proofs.Headers.{segment_of}
use Rattle.guest_asm.proofs.InPlace.{HasPlace}

-- ---- the bytes of the segment are those of memory

abbrev zeros : ℕ → List ℕ
zeros n = replicate n 0

zeros-long : (n : ℕ) → length (zeros n) ≡ n
zeros-long n = length-replicate {A = ℕ} n 0

zeros-at : (n i : ℕ) → get_or (zeros n) i 0 ≡ 0
zeros-at n i = elim (cases_lt i n) [
  | inl below ↦ get_or-replicate {A = ℕ} n i 0 0 below
  | inr above ↦ get_or_past (zeros n) i 0 (let long : length (zeros n) ≡ n = zeros-long n in omega arith)
]

padded-at : (bytes : List ℕ) (n i : ℕ) → get_or (bytes ++ zeros n) i 0 ≡ get_or bytes i 0
padded-at bytes n i = elim (cases_lt i (length bytes)) [
  | inl below ↦ get_or_append_left bytes (zeros n) 0 i below
  | inr above ↦ get_or-append_right bytes (zeros n) (length bytes) i 0 refl above ∙ zeros-at n (i - length bytes) ∙ sym (get_or_past bytes i 0 above)
]

byte-at : (entry : ℕ) (bytes : List ℕ) (i : ℕ) → byte_of (segment_of (length bytes) ∷ []) (file_header entry ++ (program_header (length bytes) ++ bytes)) i ≡ get_or bytes i 0
byte-at entry bytes i =
    let file : List ℕ = file_header entry ++ (program_header (length bytes) ++ bytes) in
    let there : get_or file (84 + i) 0 ≡ get_or bytes i 0 = get_or-append-add (file_header entry ++ program_header (length bytes)) bytes i 0 in
    let segment : ProgramHeader = segment_of (length bytes) in
    let same : i - 0 ≡ i = omega arith in
    cond_both (lies_at segment i) (file_byte file segment i) 0 (λ (byte : ℕ). byte ≡ get_or bytes i 0)
    (λ yes. ap (λ (n : ℕ). get_or file (84 + n) 0) same ∙ there)
    (λ outside. let above : length bytes ≤ i = past i (length bytes) outside in sym (get_or_past bytes i 0 above))
  where
    past : (i count : ℕ) → lies_at (segment_of count) i ≡ false → count ≤ i
    past i count outside = grind (arith, nat_tests)

-- memory has the bytes of the segment, and zeros behind them
pub memory-is : (entry : ℕ) (bytes : List ℕ) (pages : ℕ) → length bytes ≤ 4096 * pages
    → bytes_of (byte_of (segment_of (length bytes) ∷ []) (file_header entry ++ (program_header (length bytes) ++ bytes))) pages ≡ bytes ++ zeros (4096 * pages - length bytes)
memory-is entry bytes pages fits =
    let byte : ℕ → ℕ = byte_of (segment_of (length bytes) ∷ []) (file_header entry ++ (program_header (length bytes) ++ bytes)) in
    let long : length (map byte (range_with_len 0 (4096 * pages))) ≡ 4096 * pages = length-map-range_with_len byte 0 (4096 * pages) in
    let whole : length (bytes ++ zeros (4096 * pages - length bytes)) ≡ 4096 * pages = simp (length-append, length-replicate) (omega arith) in
    ext_get_or 0 (map byte (range_with_len 0 (4096 * pages))) (bytes ++ zeros (4096 * pages - length bytes)) (long ∙ sym whole)
    (λ i within. get_or-map-range_with_len byte 0 (4096 * pages) i i 0 (omega arith) (omega arith) ∙ byte-at entry bytes i ∙ sym (padded-at bytes (4096 * pages - length bytes) i))

-- ---- the segment's bytes

four-long : (word : ℕ) → length (big_bytes 4 word) ≡ 4
four-long word = refl

pub long-from : (from : ℕ) (words : List Placed) → AreInOrder from words → All HasPlace words → from ≤ end → from + length (bytes_from from words) ≤ end
long-from from [] ordered places low = omega arith
long-from from (placed ∷ behind) ordered places low =
    let here : placed.address + 4 ≤ end = All-head HasPlace placed behind places in
    let rest : placed.address + 4 + length (bytes_from (placed.address + 4) behind) ≤ end = long-from (placed.address + 4) behind ordered.1 (All-tail HasPlace placed behind places) here in
    let above : from ≤ placed.address = ordered.0 in
    let long : length (bytes_from from (placed ∷ behind)) ≡ placed.address - from + (4 + length (bytes_from (placed.address + 4) behind)) =
    length-append (zeros (placed.address - from)) (big_bytes 4 placed.word ++ bytes_from (placed.address + 4) behind)
    ∙ ap (λ (n : ℕ). n + length (big_bytes 4 placed.word ++ bytes_from (placed.address + 4) behind)) (zeros-long (placed.address - from))
    ∙ ap (λ (n : ℕ). placed.address - from + n) (length-append (big_bytes 4 placed.word) (bytes_from (placed.address + 4) behind)) in
    omega arith

above-all : (from : ℕ) (words : List Placed) → AreInOrder from words → All (λ placed. from ≤ placed.address) words
above-all from [] ordered = All-nil (λ (placed : Placed). from ≤ placed.address)
above-all from (placed ∷ behind) ordered =
    let rest : All (λ (p : Placed). placed.address + 4 ≤ p.address) behind = above-all (placed.address + 4) behind ordered.1 in
    All-cons (λ (p : Placed). from ≤ p.address) placed behind ordered.0 (λ k d lt. let on : placed.address + 4 ≤ (get_or behind k d).address = rest k d lt in let first : from ≤ placed.address = ordered.0 in omega arith)

-- a word stands in bytes that begin at an address
abbrev StandsFrom : ℕ → List ℕ → Placed → Type 0
StandsFrom from bytes placed = take 4 (drop (placed.address - from) bytes) ≡ big_bytes 4 placed.word

regrouped : (from : ℕ) (placed : Placed) (behind : List Placed) (rest : List ℕ)
    → bytes_from from (placed ∷ behind) ++ rest ≡ zeros (placed.address - from) ++ (big_bytes 4 placed.word ++ (bytes_from (placed.address + 4) behind ++ rest))
regrouped from placed behind rest =
    append_assoc (zeros (placed.address - from)) (big_bytes 4 placed.word ++ bytes_from (placed.address + 4) behind) rest
    ∙ ap (λ (bs : List ℕ). zeros (placed.address - from) ++ bs) (append_assoc (big_bytes 4 placed.word) (bytes_from (placed.address + 4) behind) rest)

pub stand-from : (from : ℕ) (words : List Placed) (rest : List ℕ) → AreInOrder from words → All (StandsFrom from (bytes_from from words ++ rest)) words
stand-from from [] rest ordered = All-nil (StandsFrom from rest)
stand-from from (placed ∷ behind) rest ordered =
    let gap : ℕ = placed.address - from in
    let next : ℕ = placed.address + 4 in
    let tail : List ℕ = bytes_from next behind ++ rest in
    let whole : List ℕ = bytes_from from (placed ∷ behind) ++ rest in
    let grouped : whole ≡ zeros gap ++ (big_bytes 4 placed.word ++ tail) = regrouped from placed behind rest in
    let here : take 4 (drop gap whole) ≡ big_bytes 4 placed.word =
    ap (λ (bs : List ℕ). take 4 (drop gap bs)) grouped
    ∙ ap (take 4) (drop_at (zeros gap) (big_bytes 4 placed.word ++ tail) gap (zeros-long gap))
    ∙ take_at (big_bytes 4 placed.word) tail 4 (four-long placed.word) in
    let there : All (StandsFrom next tail) behind = stand-from next behind rest ordered.1 in
    let above : All (λ (p : Placed). next ≤ p.address) behind = above-all next behind ordered.1 in
    All-cons (StandsFrom from whole) placed behind here (λ k d lt.
    let p : Placed = get_or behind k d in
    let on : next ≤ p.address = above k d lt in
    let low : from ≤ placed.address = ordered.0 in
    let split : p.address - from ≡ gap + (4 + (p.address - next)) = omega arith in
    ap (λ (n : ℕ). take 4 (drop n whole)) split
    ∙ ap (take 4) (sym (drop-drop (4 + (p.address - next)) gap whole)
    ∙ ap (λ (bs : List ℕ). drop (4 + (p.address - next)) (drop gap bs)) grouped
    ∙ ap (drop (4 + (p.address - next))) (drop_at (zeros gap) (big_bytes 4 placed.word ++ tail) gap (zeros-long gap))
    ∙ sym (drop-drop (p.address - next) 4 (big_bytes 4 placed.word ++ tail))
    ∙ ap (drop (p.address - next)) (drop_at (big_bytes 4 placed.word) tail 4 (four-long placed.word)))
    ∙ there k d lt)

-- a byte that is none of a word's is 0
pub zero-from : (from address : ℕ) (words : List Placed) → AreInOrder from words → from ≤ address → All (IsBeside address) words → get_or (bytes_from from words) (address - from) 0 ≡ 0
zero-from from address [] ordered low beside = refl
zero-from from address (placed ∷ behind) ordered low beside =
    let gap : ℕ = placed.address - from in
    let next : ℕ = placed.address + 4 in
    let above : from ≤ placed.address = ordered.0 in
    elim (All-head (IsBeside address) placed behind beside) [
      | inl before ↦
          let within : address - from < length (zeros gap) = rw (zeros-long gap) (omega arith) in
          get_or_append_left (zeros gap) (big_bytes 4 placed.word ++ bytes_from next behind) 0 (address - from) within ∙ zeros-at gap (address - from)
      | inr on ↦
          let split : address - from ≡ gap + (4 + (address - next)) = omega arith in
          let first : get_or (zeros gap ++ (big_bytes 4 placed.word ++ bytes_from next behind)) (gap + (4 + (address - next))) 0 ≡ get_or (big_bytes 4 placed.word ++ bytes_from next behind) (4 + (address - next)) 0 =
          ap (λ (n : ℕ). get_or (zeros gap ++ (big_bytes 4 placed.word ++ bytes_from next behind)) (n + (4 + (address - next))) 0) (sym (zeros-long gap))
          ∙ get_or-append-add (zeros gap) (big_bytes 4 placed.word ++ bytes_from next behind) (4 + (address - next)) 0 in
          ap (λ (n : ℕ). get_or (zeros gap ++ (big_bytes 4 placed.word ++ bytes_from next behind)) n 0) split
          ∙ first
          ∙ get_or-append-add (big_bytes 4 placed.word) (bytes_from next behind) (address - next) 0
          ∙ zero-from next address behind ordered.1 on (All-tail (IsBeside address) placed behind beside)
    ]

-- so it is with zeros behind the bytes
pub zero-padded : (from address n : ℕ) (words : List Placed) → AreInOrder from words → from ≤ address → All (IsBeside address) words → get_or (bytes_from from words ++ zeros n) (address - from) 0 ≡ 0
zero-padded from address n words ordered low beside = padded-at (bytes_from from words) n (address - from) ∙ zero-from from address words ordered low beside
