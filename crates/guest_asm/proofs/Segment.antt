-- The bytes of words, one after the other.
use Rattle.std.proofs.Common.{◌≡◌, ◌∙◌, ℕ, ◌+◌, ◌-◌, ◌^◌, ◌<◌, ◌≤◌, List, ◌∷◌, ◌++◌, append_assoc, length, get_or, drop, replicate, ap, sym, subst, arith}
use Rattle.std.proofs.lemmas.List.{length-append, length-replicate}
use Rattle.std.proofs.lemmas.Grind.{common_steps}
use Rattle.byteorder.specs.Endian.{big_bytes}
use Rattle.guest_asm.specs.declared.assembled.Placed.{Placed}
use Rattle.guest_asm.specs.Addresses.{start}
use Rattle.guest_asm.specs.Image.{bytes_from, extended, AreInOrder}
use Rattle.guest_asm.proofs.Ranges.{drop_next}

-- the bytes so far, those that are left, and the order of the words that are left
pub record Laid (bytes : List ℕ) (words : List Placed) (i : ℕ) : Type 0 where
  pub joined : bytes ++ bytes_from (start + length bytes) (drop i words) ≡ bytes_from start words
  pub short : length bytes ≤ 2 ^ 30 + 4
  pub ordered : AreInOrder (start + length bytes) (drop i words)

four-long : (word : ℕ) → length (big_bytes 4 word) ≡ 4
four-long word = grind (arith, common_steps)

long-extended : (bytes : List ℕ) (count word : ℕ) → length bytes ≤ count → length (extended bytes count word) ≡ count + 4
long-extended bytes count word fits =
    let four : length (big_bytes 4 word) ≡ 4 = four-long word in
    simp (length-append, length-replicate) (omega arith)

-- the next word
pub Laid-more : (bytes new : List ℕ) (words : List Placed) (i : ℕ) (d : Placed) → i < length words → (get_or words i d).address < 2 ^ 32
    → new ≡ extended bytes ((get_or words i d).address - start) (get_or words i d).word → Laid bytes words i → Laid new words (i + 1)
Laid-more bytes new words i d there fits puts laid =
    let placed : Placed = get_or words i d in
    let rest : List Placed = drop (i + 1) words in
    let next : drop i words ≡ placed ∷ rest = drop_next words i d there in
    let ordered : AreInOrder (start + length bytes) (placed ∷ rest) = subst (AreInOrder (start + length bytes)) next laid.ordered in
    let above : start + length bytes ≤ placed.address = ordered.0 in
    let long : length new ≡ placed.address - start + 4 = ap length puts ∙ long-extended bytes (placed.address - start) placed.word (omega arith) in
    let end : start + length new ≡ placed.address + 4 = omega arith in
    let gap : placed.address - start - length bytes ≡ placed.address - (start + length bytes) = omega arith in
    record {
      joined =
          ap (λ (bs : List ℕ). bs ++ bytes_from (start + length new) rest) puts
          ∙ ap (λ (a : ℕ). extended bytes (placed.address - start) placed.word ++ bytes_from a rest) end
          ∙ ap (λ (g : ℕ). (bytes ++ (replicate g 0 ++ big_bytes 4 placed.word)) ++ bytes_from (placed.address + 4) rest) gap
          ∙ append_assoc bytes (replicate (placed.address - (start + length bytes)) 0 ++ big_bytes 4 placed.word) (bytes_from (placed.address + 4) rest)
          ∙ ap (λ (bs : List ℕ). bytes ++ bs) (append_assoc (replicate (placed.address - (start + length bytes)) 0) (big_bytes 4 placed.word) (bytes_from (placed.address + 4) rest))
          ∙ ap (λ (ws : List Placed). bytes ++ bytes_from (start + length bytes) ws) (sym next)
          ∙ laid.joined;
      short = omega arith;
      ordered = subst (λ (a : ℕ). AreInOrder a rest) (sym end) ordered.1;
    }
