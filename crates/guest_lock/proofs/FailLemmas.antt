-- A failure under one guest's lock after another.
use Rattle.std.proofs.Common.{◌≡◌, ◌⊎◌, inl, inr, ℕ, suc, ◌+◌, ◌≤◌, ◌<◌, min, Bool, true, false, List, [], ◌∷◌, ◌++◌, map, length, length-append, append_assoc, append-nil, refl, sym, ap, ◌∙◌, subst, arith}
use Rattle.std.specs.Prelude.{nat_lt}
use Rattle.base_words.specs.declared.ids.CellId.{CellId}
use Rattle.base_words.specs.declared.ids.GuestId.{GuestId}
use Rattle.shootdown.specs.declared.notes.Note.{Note}
use Rattle.shootdown.specs.declared.view.SidedNote.{SidedNote}
use Rattle.shootdown.specs.Notes.{Token, sided}
use Rattle.guest_core.specs.declared.answers.Fate.{Fate}
use Rattle.guest_lock.specs.Fates.{AreToldFates, ended_by, ended_from, FailsFirst, FailsOne, FailsNext, FailsSome, WantsAt, IsToldFate}
use Rattle.guest_lock.specs.Told.{with_told}

fates-more : (c : CellId) (g : ℕ) (fates : List Fate) (notes : List SidedNote) (fate : Fate) (told : List Note) → AreToldFates c g fates notes → IsToldFate c fate told → AreToldFates c g (fates ++ fate ∷ []) (notes ++ map (sided (g + length fates)) told)
fates-more c g [] notes fate told are is = (
  told,
  [],
  is,
  ap (λ (l : List SidedNote). l ++ map (sided (g + 0)) told) are ∙ ap (λ (n : ℕ). map (sided n) told) (let e : g + 0 ≡ g = omega arith in e) ∙ sym (append-nil (map (sided g) told)),
  refl,
)
fates-more c g (f ∷ fates) notes fate told are is = (
  are.0,
  are.1 ++ map (sided (suc g + length fates)) told,
  are.2,
  ap (λ (l : List SidedNote). l ++ map (sided (g + suc (length fates))) told) are.3
      ∙ append_assoc (map (sided g) are.0) are.1 (map (sided (g + suc (length fates))) told)
      ∙ ap (λ (n : ℕ). map (sided g) are.0 ++ (are.1 ++ map (sided n) told)) (let e : g + suc (length fates) ≡ suc g + length fates = omega arith in e),
  fates-more c (suc g) fates are.1 fate told are.4 is,
)

ended-more : (g : ℕ) (fates : List Fate) (fate : Fate) → ended_from g (fates ++ fate ∷ []) ≡ ended_from g fates ++ ended_by (g + length fates) fate
ended-more g [] fate = append-nil (ended_by g fate) ∙ ap (λ (n : ℕ). ended_by n fate) (let e : g ≡ g + 0 = omega arith in e)
ended-more g (f ∷ fates) fate =
    ap (λ (l : List GuestId). ended_by g f ++ l) (ended-more (suc g) fates fate)
    ∙ sym (append_assoc (ended_by g f) (ended_from (suc g) fates) (ended_by (suc g + length fates) fate))
    ∙ ap (λ (n : ℕ). (ended_by g f ++ ended_from (suc g) fates) ++ ended_by n fate) (let e : suc g + length fates ≡ g + suc (length fates) = omega arith in e)

pub fails-none : (c : CellId) (count : ℕ) (token : Token) (ended : List GuestId) → ended ≡ [] → FailsFirst c (min 0 count) token token ended
fails-none c count token ended none = record { fates = []; all = (let e : 0 ≡ min 0 count = omega arith in e); told = []; are = refl; token = ap (λ (l : List SidedNote). record token { notes = l }) (sym (append-nil token.notes)); ended_are = none }

within : (n k : ℕ) → nat_lt k n ≡ true → k < n
within n k e = grind arith

past : (n k : ℕ) → nat_lt k n ≡ false → n ≤ k
past n k e = grind arith

-- the guest of the next number, if there is one
pub fails-next : (c : CellId) (count g : ℕ) (old mid new : Token) (ended ended_after : List GuestId) → FailsFirst c (min g count) old mid ended → FailsNext c count g mid ended new ended_after → FailsFirst c (min (g + 1) count) old new ended_after
fails-next c count g old mid new ended ended_after first next = by (nat_lt g count) refl next
  where
    by : (b : Bool) → nat_lt g count ≡ b → FailsOne b c g mid ended new ended_after → FailsFirst c (min (g + 1) count) old new ended_after
    by false is n =
        let over = past count g is in
        let same : min g count ≡ min (g + 1) count = omega arith in
        record {
          fates = first.fates;
          all = first.all ∙ same;
          told = first.told;
          are = first.are;
          token = n.0 ∙ first.token;
          ended_are = n.1 ∙ first.ended_are;
        }
    by true is n =
        let there = within count g is in
        let all = first.all in
        let here : 0 + length first.fates ≡ g = omega arith in
        let long = length-append first.fates (n.fate ∷ []) in
        record {
          fates = first.fates ++ n.fate ∷ [];
          all = omega arith;
          told = first.told ++ map (sided g) n.told;
          are = subst (λ (k : ℕ). AreToldFates c 0 (first.fates ++ n.fate ∷ []) (first.told ++ map (sided k) n.told)) here (fates-more c 0 first.fates first.told n.fate n.told first.are n.is);
          token = n.token ∙ ap (λ (t : Token). with_told t g n.told) first.token ∙ ap (λ (l : List SidedNote). record old { notes = l }) (append_assoc old.notes first.told (map (sided g) n.told));
          ended_are = n.ended_are ∙ ap (λ (l : List GuestId). l ++ ended_by g n.fate) first.ended_are ∙ ap (λ (k : ℕ). ended_from 0 first.fates ++ ended_by k n.fate) (sym here) ∙ sym (ended-more 0 first.fates n.fate);
        }

below : (n k : ℕ) → k < n → nat_lt k n ≡ true
below n k l = grind arith

-- memory was wanting at the guest of the next number
pub fails-some : (c : CellId) (count g : ℕ) (old mid new : Token) (ended : List GuestId) → FailsFirst c (min g count) old mid ended → WantsAt c count g mid new → FailsSome c count old new
fails-some c count g old mid new ended first wants = by wants.1
  where
    by : (new ≡ mid) ⊎ ((fate : Fate) × (told : List Note) × IsToldFate c fate told × (new ≡ with_told mid g told)) → FailsSome c count old new
    by (inl same) = (min g count, ended, (let e : min g count ≤ count = omega arith in e), subst (λ (t : Token). FailsFirst c (min g count) old t ended) (sym same) first)
    by (inr had) =
        let ended_after : List GuestId = ended ++ ended_by g had.0 in
        let one : FailsOne true c g mid ended new ended_after = record { fate = had.0; told = had.1; is = had.2; token = had.3; ended_are = refl } in
        let next : FailsNext c count g mid ended new ended_after = subst (λ b. FailsOne b c g mid ended new ended_after) (sym (below count g wants.0)) one in
        (min (g + 1) count, ended_after, (let e : min (g + 1) count ≤ count = omega arith in e), fails-next c count g old mid new ended ended_after first next)
