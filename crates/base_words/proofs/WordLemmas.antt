-- A word written through a part of a slice.
use Rattle.std.proofs.Common.{◌≡◌, ℕ, ◌+◌, ◌-◌, ◌≤◌, List, [], ◌++◌, length, take, drop, ap, ◌∙◌, arith}
use Rattle.std.proofs.lemmas.List.{append-nil, drop_all, length-take}
use borrow.Rule.Slice.PartMut.{put_mid, mid_of, post_of, Post-is}
use Rattle.byteorder.specs.Endian.{big_bytes}
use Rattle.base_words.specs.Memory.{with_word}

-- the part is the four bytes from a on, and no byte of it lies behind the word
pub with_word-put_mid : (a w : ℕ) (xs ys : List ℕ) → a + 4 ≤ length xs → ys ≡ big_bytes 4 w ++ drop 4 (mid_of a (a + 4 - a) xs) → put_mid a (a + 4 - a) xs ys ≡ with_word xs a w
with_word-put_mid a w xs ys fits is =
    let none : drop 4 (mid_of a (a + 4 - a) xs) ≡ [] = drop_all 4 (mid_of a (a + 4 - a) xs) (simp length-take (omega arith)) in
    let word : ys ≡ big_bytes 4 w = is ∙ ap (λ l. big_bytes 4 w ++ l) none ∙ append-nil (big_bytes 4 w) in
    ap (λ l. take a xs ++ (l ++ post_of a (a + 4 - a) xs)) word
    ∙ ap (λ l. take a xs ++ (big_bytes 4 w ++ l)) (Post-is a (a + 4) xs (omega arith))
