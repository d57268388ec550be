-- The blocks of a disk in order.
use Rattle.std.proofs.Common.{◌≡◌, ℕ, suc, ◌+◌, ◌<◌, List, [], ◌∷◌, ◌++◌, drop, take, length, Some, refl, sym, ap, ◌∙◌, subst, arith}
use Rattle.std.specs.Prelude.{All, slice_get}
use Rattle.std.specs.Option.{option_map}
use Rattle.std.proofs.lemmas.List.{take_more, take-append-drop, length-take-le}
use Rattle.std.proofs.lemmas.List.Elements.{All-nil, All-cons}
use Rattle.std.proofs.lemmas.Option.{slice_get-map, slice_get_within, get_or_from_slice_get}
use Rattle.private_machine.specs.Disk.{Block}
use Rattle.block_caches.specs.Filling.{Wanted, blocks_in, numbered}

-- the bytes of a block that a disk was asked for
pub bytes-at : (disk : List Block) (block : ℕ) (bytes : List ℕ) → Some bytes ≡ option_map (λ (b : Block). b.given) (slice_get disk block) → slice_get (blocks_in disk) block ≡ Some bytes
bytes-at disk block bytes read = slice_get-map (λ (b : Block). b.given) disk block ∙ sym read

numbered-append : (disk first : ℕ) (blocks more : List (List ℕ)) → numbered disk first (blocks ++ more) ≡ numbered disk first blocks ++ numbered disk (first + length blocks) more
numbered-append disk first [] more = ap (λ n. numbered disk n more) (let same : first ≡ first + 0 = omega arith in same)
numbered-append disk first (bytes ∷ blocks) more =
    ap (λ (l : List Wanted). record { disk = disk; block = first; bytes = bytes } ∷ l)
    (numbered-append disk (suc first) blocks more
    ∙ ap (λ n. numbered disk (suc first) blocks ++ numbered disk n more) (let same : suc first + length blocks ≡ first + suc (length blocks) = omega arith in same))

-- so many blocks, and one more
pub numbered-next : (disk block : ℕ) (blocks : List (List ℕ)) (bytes : List ℕ) → slice_get blocks block ≡ Some bytes → numbered disk 0 (take (block + 1) blocks) ≡ numbered disk 0 (take block blocks) ++ record { disk = disk; block = block; bytes = bytes } ∷ []
numbered-next disk block blocks bytes at =
    let within : block < length blocks = slice_get_within blocks block bytes at in
    let count : length (take block blocks) ≡ block = length-take-le block blocks (omega arith) in
    ap (numbered disk 0) (take_more blocks block bytes within)
    ∙ ap (λ (b : List ℕ). numbered disk 0 (take block blocks ++ b ∷ [])) (get_or_from_slice_get blocks block bytes bytes at)
    ∙ numbered-append disk 0 (take block blocks) (bytes ∷ [])
    ∙ ap (λ n. numbered disk 0 (take block blocks) ++ record { disk = disk; block = n; bytes = bytes } ∷ []) (let same : 0 + length (take block blocks) ≡ block = omega (arith, count) in same)

-- so many blocks, and all others
pub numbered-rest : (disk block : ℕ) (blocks : List (List ℕ)) → numbered disk 0 blocks ≡ numbered disk 0 (take block blocks) ++ numbered disk (0 + length (take block blocks)) (drop block blocks)
numbered-rest disk block blocks =
    ap (numbered disk 0) (sym (take-append-drop block blocks)) ∙ numbered-append disk 0 (take block blocks) (drop block blocks)

-- a block of this disk whose number is below this one
abbrev pub IsBelow : ℕ → ℕ → Wanted → Type 0
IsBelow disk block w = (w.disk ≡ disk) × (w.block < block)

pub All-numbered : (disk first : ℕ) (blocks : List (List ℕ)) → All (IsBelow disk (first + length blocks)) (numbered disk first blocks)
All-numbered disk first [] = All-nil (IsBelow disk (first + 0))
All-numbered disk first (bytes ∷ blocks) =
    let more : suc first + length blocks ≡ first + suc (length blocks) = omega arith in
    All-cons (IsBelow disk (first + suc (length blocks))) (record { disk = disk; block = first; bytes = bytes }) (numbered disk (suc first) blocks) (refl, omega arith)
    (subst (λ n. All (IsBelow disk n) (numbered disk (suc first) blocks)) more (All-numbered disk (suc first) blocks))
