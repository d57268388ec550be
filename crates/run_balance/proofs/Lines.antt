-- Where stretches stand among all.
use Rattle.std.proofs.Common.{◌≡◌, ℕ, zero, suc, ◌+◌, ◌<◌, ◌≤◌, List, [], ◌∷◌, ◌++◌, length, slice_index_or, refl, sym, ap, ◌∙◌, subst, arith, ⊎_elim}
use Rattle.std.proofs.lemmas.List.{length-append}
use Rattle.run_balance.specs.Shares.{Share, share_of, own_shares, flat_from, flat, whose_at, first_of, stretches_of, deque_no, StandsThere}
use Rattle.run_balance.proofs.Numbers.{past_or}

length_own : (n : ℕ) (own : List (List ℕ)) → length (own_shares n own) ≡ length own
length_own n [] = refl
length_own n (x ∷ own) = let e = length_own n own in omega arith

own_at : (n : ℕ) (own : List (List ℕ)) (more : List Share) (d : ℕ) → d < length own → slice_index_or (own_shares n own ++ more) d (share_of 0 []) ≡ share_of n (slice_index_or own d [])
own_at n [] more d less = absurd (omega arith)
own_at n (x ∷ own) more zero less = refl
own_at n (x ∷ own) more (suc d) less = own_at n own more d (omega arith)

own_past : (n : ℕ) (own : List (List ℕ)) (more : List Share) (d e : ℕ) → d ≡ length own + e → slice_index_or (own_shares n own ++ more) d (share_of 0 []) ≡ slice_index_or more e (share_of 0 [])
own_past n [] more d e is = ap (λ (k : ℕ). slice_index_or more k (share_of 0 [])) (let z : d ≡ e = omega arith in z)
own_past n (x ∷ own) more zero e is = absurd (omega arith)
own_past n (x ∷ own) more (suc d) e is = own_past n own more d e (omega arith)

less_by : (d n : ℕ) → n ≤ d → (e : ℕ) × (d ≡ n + e)
less_by d zero le = (d, omega arith)
less_by zero (suc n) le = absurd (omega arith)
less_by (suc d) (suc n) le = let rest = less_by d n (omega arith) in (rest.0, (let e = rest.1 in omega arith))

pub record Within (n : ℕ) (shares : List (List (List ℕ))) (d : ℕ) : Type 0 where
  pub p : ℕ
  pub k : ℕ
  pub few : p < length shares
  pub inside : k < length (stretches_of shares p)
  pub is : d ≡ deque_no shares p k
  pub at : slice_index_or (flat_from n shares) d (share_of 0 []) ≡ share_of (n + p) (slice_index_or (stretches_of shares p) k [])

pub within : (n : ℕ) (shares : List (List (List ℕ))) (d : ℕ) → d < length (flat_from n shares) → Within n shares d
within n [] d less = absurd (omega arith)
within n (own ∷ shares) d less =
    ⊎_elim (λ (z : d < length own). record {
      p = 0;
      k = d;
      few = omega arith;
      inside = z;
      is = omega arith;
      at = own_at n own (flat_from (suc n) shares) d z ∙ ap (λ (m : ℕ). share_of m (slice_index_or own d [])) (let e : n ≡ n + 0 = omega arith in e);
    })
    (λ (z : length own ≤ d).
    let e = less_by d (length own) z in
    let a = length-append (own_shares n own) (flat_from (suc n) shares) in
    let b = length_own n own in
    let f = e.1 in
    let rest = within (suc n) shares e.0 (let y : e.0 < length (flat_from (suc n) shares) = omega arith in y) in
    record {
      p = suc rest.p;
      k = rest.k;
      few = let y = rest.few in omega arith;
      inside = rest.inside;
      is = let y = rest.is in omega arith;
      at = own_past n own (flat_from (suc n) shares) d e.0 e.1 ∙ rest.at ∙ ap (λ (m : ℕ). share_of m (slice_index_or (stretches_of shares rest.p) rest.k [])) (let y : suc n + rest.p ≡ n + suc rest.p = omega arith in y);
    })
    (past_or d (length own))

pub record There (n : ℕ) (shares : List (List (List ℕ))) (p k : ℕ) : Type 0 where
  pub inside : deque_no shares p k < length (flat_from n shares)
  pub at : slice_index_or (flat_from n shares) (deque_no shares p k) (share_of 0 []) ≡ share_of (n + p) (slice_index_or (stretches_of shares p) k [])

pub there_from : (n : ℕ) (shares : List (List (List ℕ))) (p k : ℕ) → p < length shares → k < length (stretches_of shares p) → There n shares p k
there_from n [] p k few inside = absurd (omega arith)
there_from n (own ∷ shares) zero k few inside =
    let a = length-append (own_shares n own) (flat_from (suc n) shares) in
    let b = length_own n own in
    let same : deque_no (own ∷ shares) 0 k ≡ k = omega arith in
    record {
      inside = omega arith;
      at = ap (λ (d : ℕ). slice_index_or (flat_from n (own ∷ shares)) d (share_of 0 [])) same ∙ own_at n own (flat_from (suc n) shares) k inside ∙ ap (λ (m : ℕ). share_of m (slice_index_or own k [])) (let e : n ≡ n + 0 = omega arith in e);
    }
there_from n (own ∷ shares) (suc p) k few inside =
    let a = length-append (own_shares n own) (flat_from (suc n) shares) in
    let b = length_own n own in
    let rest = there_from (suc n) shares p k (omega arith) inside in
    let less = rest.inside in
    record {
      inside = omega arith;
      at = own_past n own (flat_from (suc n) shares) (deque_no (own ∷ shares) (suc p) k) (deque_no shares p k) (omega arith) ∙ rest.at ∙ ap (λ (m : ℕ). share_of m (slice_index_or (stretches_of shares p) k [])) (let y : suc n + p ≡ n + suc p = omega arith in y);
    }

zero_more : (n : ℕ) → 0 + n ≡ n
zero_more n = omega arith

pub stands_there : (shares : List (List (List ℕ))) (p k : ℕ) → p < length shares → k < length (stretches_of shares p) → StandsThere shares p k
stands_there shares p k few inside = let t = there_from 0 shares p k few inside in record {
  inside = t.inside;
  whose = ap (λ (s : Share). s.whose) t.at ∙ zero_more p;
  items = ap (λ (s : Share). s.items) t.at;
}

pub stands_within : (shares : List (List (List ℕ))) (d : ℕ) → d < length (flat shares) → (p : ℕ) × (k : ℕ) × (p < length shares) × (k < length (stretches_of shares p)) × (d ≡ deque_no shares p k) × (whose_at (flat shares) d ≡ p)
stands_within shares d less = let w = within 0 shares d less in (w.p, w.k, w.few, w.inside, w.is, ap (λ (s : Share). s.whose) w.at ∙ zero_more w.p)

pub first_below : (shares : List (List (List ℕ))) (d : ℕ) → d < length (flat shares) → (whose_at (flat shares) d < length shares) × (first_of shares (whose_at (flat shares) d) ≤ d)
first_below shares d less =
    let w = stands_within shares d less in
    (subst (λ (p : ℕ). p < length shares) (sym w.5) w.2, subst (λ (p : ℕ). first_of shares p ≤ d) (sym w.5) (let e = w.4 in let z : first_of shares w.0 ≤ d = omega arith in z))

pub first_next : (shares : List (List (List ℕ))) (k : ℕ) → k < length shares → first_of shares (k + 1) ≡ first_of shares k + length (slice_index_or shares k [])
first_next [] k less = absurd (omega arith)
first_next (own ∷ shares) zero less = let z : length own + 0 ≡ 0 + length own = omega arith in z
first_next (own ∷ shares) (suc k) less = ap (first_of (own ∷ shares)) (let e : suc k + 1 ≡ suc (k + 1) = omega arith in e) ∙ (let rest = first_next shares k (omega arith) in let z : length own + first_of shares (k + 1) ≡ (length own + first_of shares k) + length (slice_index_or shares k []) = omega arith in z)
