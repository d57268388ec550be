-- Words that are put one after the other.
use Rattle.std.proofs.Common.{◌≡◌, ℕ, ◌+◌, ◌<◌, List, [], ◌∷◌, ◌++◌, length, take, get_or, ap, sym, ◌∙◌, append_assoc}
use Rattle.std.specs.List.{flat_map}
use Rattle.std.proofs.lemmas.List.{flat_map_more, take_more}
use Rattle.byteorder.specs.Endian.{big_bytes}

-- behind the first words of a list comes the next one
pub put_next : (before now new : List ℕ) (words : List ℕ) (place word : ℕ) → place < length words → word ≡ get_or words place 0
    → now ≡ before ++ flat_map (big_bytes 4) (take place words) → new ≡ now ++ big_bytes 4 word → new ≡ before ++ flat_map (big_bytes 4) (take (place + 1) words)
put_next before now new words place word there is far put =
    let next : take (place + 1) words ≡ take place words ++ word ∷ [] = rw is (take_more words place 0 there) in
    put ∙ ap (λ (xs : List ℕ). xs ++ big_bytes 4 word) far ∙ flat_map_more (big_bytes 4) before (take place words) word
    ∙ ap (λ (ws : List ℕ). before ++ flat_map (big_bytes 4) ws) (sym next)

-- behind what was put comes a part
pub put_part : (whole now new part : List ℕ) → now ≡ whole → new ≡ now ++ part → new ≡ whole ++ part
put_part whole now new part far put = put ∙ ap (λ (xs : List ℕ). xs ++ part) far

-- three parts
pub put_three : (a b c d e f : List ℕ) → a ≡ d → b ≡ e → c ≡ f → (a ++ b) ++ c ≡ d ++ (e ++ f)
put_three a b c d e f p q r = append_assoc a b c ∙ ap (λ (xs : List ℕ). xs ++ (b ++ c)) p ∙ ap (λ (xs : List ℕ). d ++ (xs ++ c)) q ∙ ap (λ (xs : List ℕ). d ++ (e ++ xs)) r

-- behind what the first of a list give comes what the next gives
pub put_more : {X : Type 0} (f : X → List ℕ) (before now new : List ℕ) (xs : List X) (place : ℕ) (d : X) → place < length xs
    → now ≡ before ++ flat_map f (take place xs) → new ≡ now ++ f (get_or xs place d) → new ≡ before ++ flat_map f (take (place + 1) xs)
put_more f before now new xs place d there far put =
    put ∙ ap (λ (ys : List ℕ). ys ++ f (get_or xs place d)) far ∙ flat_map_more f before (take place xs) (get_or xs place d)
    ∙ ap (λ ys. before ++ flat_map f ys) (sym (take_more xs place d there))
