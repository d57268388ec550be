-- Pages filled one after the other, each by one segment after the other.
use Rattle.std.proofs.Common.{◌≡◌, ℕ, ◌+◌, ◌*◌, ◌<◌, true, false, cond, List, [], ◌∷◌, ◌++◌, length, get_or, take, map, replicate, sym, ap, ◌∙◌, arith}
use Rattle.std.proofs.lemmas.List.{length-take, get_or-take, get_or_default, length-replicate, get_or-replicate, take_more, length-append, flat_map_more}
use Rattle.std.proofs.lemmas.List.Elements.{All-push}
use Rattle.std.specs.Global.{Box}
use Rattle.std.specs.List.{range_with_len}
use Rattle.base_words.specs.declared.page.Page.{Page}
use Rattle.elf_image.specs.declared.segment.ProgramHeader.{ProgramHeader}
use Rattle.elf_image.specs.declared.segment.ProgramHeader.TheVariants.{Other}
use Rattle.elf_image.specs.Fields.{header_at}
use Rattle.elf_image.specs.Physical.{lies_at, file_byte, byte_of, memory_of}
use Rattle.elf_image.specs.Filling.{CanBeCopied, IsPageOf, PutsBytes, ArePagesOf}
use Rattle.elf_image.proofs.Lists.{map-range_with_len-append}
use Rattle.elf_image.proofs.ByteOf.{byte_of-push}

-- a page of zeros, before any segment is copied
pub IsPageOf-zeroed : (file : List ℕ) (number : ℕ) (page : List ℕ) → page ≡ replicate 4096 0 → IsPageOf (byte_of [] file) number page
IsPageOf-zeroed file number page zeros = record {
  whole = ap length zeros ∙ length-replicate {A = ℕ} 4096 0;
  bytes = λ k below. ap (λ l. get_or l k 0) zeros ∙ get_or-replicate {A = ℕ} 4096 k 0 0 below;
}

-- a page on which the segments before a number are copied, and then the one of that number
pub IsPageOf-more : (headers : List ProgramHeader) (file : List ℕ) (i number : ℕ) (d : ProgramHeader) (before old new : List ℕ) → i < length headers → CanBeCopied headers (length file)
    → IsPageOf (byte_of (take i headers) file) number before → old ≡ before → PutsBytes old new number (lies_at (get_or headers i d)) (file_byte file (get_or headers i d))
    → IsPageOf (byte_of (take (i + 1) headers) file) number new
IsPageOf-more headers file i number d before old new lt sound so_far same puts =
    let h : ProgramHeader = get_or headers i d in
    let named : h ≡ header_at headers i = get_or_default headers i d Other lt in
    record {
      whole = puts.whole;
      bytes = λ k below.
          let address : ℕ = 4096 * number + k in
          let front : length (take i headers) ≡ i = simp length-take (omega arith) in
          let apart : (n : ℕ) → n < length (take i headers) → lies_at (get_or (take i headers) n Other) address ≡ true → lies_at h address ≡ false =
          λ n inside at. ap (λ g. lies_at g address) named ∙ sound.apart n i address (omega arith) lt (ap (λ g. lies_at g address) (sym (get_or-take i headers n Other (omega arith))) ∙ at) in
          puts.bytes k below
          ∙ ap (λ b. cond (lies_at h address) (file_byte file h address) b) (ap (λ l. get_or l k 0) same ∙ so_far.bytes k below)
          ∙ sym (byte_of-push (take i headers) h Other file address apart)
          ∙ ap (λ hs. byte_of hs file address) (sym (take_more headers i d lt));
    }

-- one more page behind the others
pub ArePagesOf-more : (byte : ℕ → ℕ) (number : ℕ) (old : List (Box Page)) (page : Box Page) (new : List (Box Page)) → ArePagesOf byte number old → IsPageOf byte number page.value → new ≡ old ++ page ∷ [] → ArePagesOf byte (number + 1) new
ArePagesOf-more byte number old page new so_far here new-is =
    let each : (k : ℕ) → k < 4096 → get_or page.value k 0 ≡ byte (4096 * number + k) = here.bytes in
    let joined : memory_of new ≡ memory_of old ++ page.value = ap memory_of new-is ∙ sym (flat_map_more (λ (p : Box Page). p.value) [] old page) in
    let size : 4096 * number + 4096 ≡ 4096 * (number + 1) = omega arith in
    record {
      bytes = joined ∙ map-range_with_len-append byte (4096 * number) 4096 (memory_of old) page.value so_far.bytes here.whole each ∙ ap (λ n. map byte (range_with_len 0 n)) size;
      whole = rw new-is (All-push (λ (p : Box Page). length p.value ≡ 4096) old page so_far.whole here.whole);
      count = ap length new-is ∙ length-append old (page ∷ []) ∙ omega arith;
    }
