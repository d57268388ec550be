-- The first state keeps the rights rule.
use Rattle.std.proofs.Common.{◌≡◌, ℕ, zero, suc, ◌+◌, ◌-◌, ◌*◌, ◌<◌, ◌≤◌, List, [], ◌∷◌, ◌++◌, length, replicate, get_or, refl, sym, ap, ◌∙◌, subst, arith, length-append, lt_of_not-le}
use Rattle.std.proofs.lemmas.List.{get_or_append_left, get_or-append_right, get_or-replicate, length-replicate}
use mathlib.Core.Option.{some-injective, some-ne-none}
use mathlib.Core.Logic.{dite}
use native.Mathlib.Decide.{dec_le}
use Rattle.atomic_table.specs.Table.{opening}
use Rattle.frame_words.specs.FrameWords.{count, generation}
use Rattle.frame_words.specs.FrameRights.{AreUnder, IsOnly, IsView, FrameRights, first_view}
use Rattle.frame_words.specs.declared.view.View.{View}
use Rattle.frame_words.specs.declared.terms.Terms.{Terms}
use Rattle.frame_words.proofs.WordLemmas.{count-at, generation-at}

-- eight of one number and then n of another
abbrev row : ℕ → ℕ → ℕ → List ℕ
row a n b = replicate 8 a ++ replicate n b

abbrev first_words : Terms → List ℕ
first_words t = row 0 t.frames (t.first * 4294967296)

abbrev first_known : Terms → List ℕ
first_known t = row 0 t.frames t.first

length-row : (a n b : ℕ) → length (row a n b) ≡ n + 8
length-row a n b = omega (arith, length-append (replicate 8 a) (replicate n b), length-replicate {A = ℕ} 8 a, length-replicate {A = ℕ} n b)

low : (a n b i : ℕ) → i < 8 → get_or (row a n b) i 0 ≡ a
low a n b i below = get_or_append_left (replicate 8 a) (replicate n b) 0 i (omega (arith, length-replicate {A = ℕ} 8 a)) ∙ get_or-replicate 8 i a 0 below

high : (a n b i : ℕ) → 8 ≤ i → i < n + 8 → get_or (row a n b) i 0 ≡ b
high a n b i above below = get_or-append_right (replicate 8 a) (replicate n b) 8 i 0 (length-replicate 8 a) above ∙ get_or-replicate n (i - 8) b 0 (omega arith)

-- the first view knows the generation of each word
each : (t : Terms) (i : ℕ) → i < t.frames + 8 → get_or (first_known t) i 0 ≡ generation (get_or (first_words t) i 0)
each t i inside = dite (dec_le 8 i)
    (λ le. high 0 t.frames t.first i le inside ∙ sym (generation-at t.first) ∙ ap generation (sym (high 0 t.frames (t.first * 4294967296) i le inside)))
    (λ above. let lt = lt_of_not-le above in low 0 t.frames t.first i lt ∙ ap generation (sym (low 0 t.frames (t.first * 4294967296) i lt)))

unheld : (t : Terms) (i : ℕ) → i < t.frames + 8 → 0 ≡ count (get_or (first_words t) i 0)
unheld t i inside = dite (dec_le 8 i)
    (λ le. sym (count-at t.first) ∙ ap count (sym (high 0 t.frames (t.first * 4294967296) i le inside)))
    (λ above. ap count (sym (low 0 t.frames (t.first * 4294967296) i (lt_of_not-le above))))

alone_there : (t : Terms) (ws : List ℕ) (j : ℕ) (u : View) (P : View → Type 0) → P (first_view t) → IsView (first_view t ∷ []) j u → P u
alone_there t ws zero u P here there = subst P (some-injective (first_view t) u there) here
alone_there t ws (suc j) u P here there = absurd (some-ne-none u (sym there))

pub begins : (t : Terms) (ws : List ℕ) → ws ≡ first_words t → FrameRights t (opening ws [] (first_view t))
begins t ws is = subst (λ l. FrameRights t (opening l [] (first_view t))) (sym is) rights
  where
    rights : FrameRights t (opening (first_words t) [] (first_view t))
    rights = record {
      whole = length-row 0 t.frames (t.first * 4294967296);
      counts = λ i inside. unheld t i inside;
      generations = λ j u there. alone_there t [] j u (λ v. AreUnder (first_words t) v.holds) tt there;
      loans = λ c cell. let e = low 0 t.frames (t.first * 4294967296) c cell in rw e refl;
      lent = λ c cell. let e = low 0 t.frames (t.first * 4294967296) c cell in omega arith;
      only = λ j u there alone. alone_there t [] j u (λ v. IsOnly (first_words t) (first_view t ∷ []) v)
          (record {
            one = refl;
            all = length-row 0 t.frames t.first ∙ sym (length-row 0 t.frames (t.first * 4294967296));
            each = λ i inside. each t i (let e = length-row 0 t.frames (t.first * 4294967296) in omega arith);
          })
          there;
    }
