-- The pages that wait for processors, and those that are ready.
use Rattle.std.proofs.Common.{◌≡◌, ◌≢◌, ◌↔◌, ℕ, zero, suc, ◌+◌, ◌<◌, ◌==◌, if◌then◌else◌, Bool, true, false, IsTrue, List, [], ◌∷◌, length, get_or, set, take, replicate, None, inl, inr, sym, ap, ◌∙◌, refl, subst, arith, get_or-set_same, get_or-set_other}
use Rattle.std.proofs.lemmas.Bool.{cases_eq, cases_lt}
use Rattle.std.proofs.lemmas.List.{get_or_default, get_or_past, length-take}
use Rattle.base_words.specs.Limits.{most_processors}
use Rattle.base_words.specs.Membership.{HasNone}
use Rattle.base_words.specs.Memory.{with_word}
use Rattle.private_machine.specs.Backing.{Page, page_at, no_page, with_bytes, stored_in, stored_through}
use Rattle.pmap_table.specs.PageSets.{has_page}
use Rattle.pmap_table.specs.Tracking.{nobody, TracksMove, SameAt, Tracks}
use Rattle.pmap_table.specs.declared.open_pages.OpenPages.{OpenPages}
use Rattle.pmap_table.proofs.PageSetLemmas.{none-has}

-- nobody is waited for exactly where the set has no member
pub nobody-has : (waiting : List Bool) → nobody waiting ≡ true → HasNone waiting
nobody-has [] is n = refl
nobody-has (true ∷ waiting) is n = cc
nobody-has (false ∷ waiting) is zero = refl
nobody-has (false ∷ waiting) is (suc n) = nobody-has waiting is n

pub has-nobody : (waiting : List Bool) → HasNone waiting → nobody waiting ≡ true
has-nobody [] none = refl
has-nobody (true ∷ waiting) none = let some : true ≡ false = none zero in cc
has-nobody (false ∷ waiting) none = has-nobody waiting (λ n. none (suc n))

pub is-nobody : (b : Bool) (waiting : List Bool) → (IsTrue b ↔ HasNone waiting) → b ≡ nobody waiting
is-nobody true waiting both = sym (has-nobody waiting (both.0 refl))
is-nobody false waiting both = elim (nobody waiting) as (λ (n : Bool). nobody waiting ≡ n → false ≡ n) [
  | true ↦ λ is. both.1 (nobody-has waiting is)
  | false ↦ λ is. refl
] refl

-- sets without a page
pub empty-sets : (n p q : ℕ) → has_page (get_or (replicate n (replicate 32 0)) p []) q ≡ false
empty-sets zero p q = none-has 0 q
empty-sets (suc n) zero q = none-has 32 q
empty-sets (suc n) (suc p) q = empty-sets n p q

-- a page's move is tracked once it is noted, and those of the others stay so
pub tracks-set : (o n : OpenPages) (pages : List Page) (q : ℕ) (new : Page) → Tracks o pages → q < length pages
    → length n.waiting.items ≡ most_processors → TracksMove n q new.move → ((r : ℕ) → r ≢ q → SameAt o n r) → Tracks n (set pages q new)
tracks-set o n pages q new tracks lt sized here others = record {
  sized = sized;
  all = λ r.
      elim (cases_eq r q) [
        | inl same ↦ rw (same, get_or-set_same pages q new no_page lt) here
        | inr apart ↦
            let old = tracks.all r in
            let stays = others r apart in
            rw (get_or-set_other pages q r new no_page apart) (record {
              waiting = λ p below. stays.waiting p below ∙ old.waiting p below;
              ready = stays.ready ∙ old.ready;
            })
      ];
}

-- another page with the same move
pub move-same : (pages : List Page) (q r : ℕ) (new : Page) → new.move ≡ (page_at pages q).move → (page_at (set pages q new) r).move ≡ (page_at pages r).move
move-same [] q r new same = refl
move-same (g ∷ pages) zero zero new same = same
move-same (g ∷ pages) zero (suc r) new same = refl
move-same (g ∷ pages) (suc q) zero new same = refl
move-same (g ∷ pages) (suc q) (suc r) new same = move-same pages q r new same

pub tracks-same : (o : OpenPages) (pages : List Page) (q : ℕ) (new : Page) → Tracks o pages → new.move ≡ (page_at pages q).move → Tracks o (set pages q new)
tracks-same o pages q new tracks same = record {
  sized = tracks.sized;
  all = λ r. rw (move-same pages q r new same) (tracks.all r);
}

-- so it is where the move of the page is as it was
pub tracks-still : (o : OpenPages) (pages : List Page) (q : ℕ) (old new : Page) → Tracks o pages → q < length pages → old ≡ get_or pages q old → new.move ≡ old.move → Tracks o (set pages q new)
tracks-still o pages q old new tracks lt is same = tracks-same o pages q new tracks (same ∙ ap (λ (g : Page). g.move) (is ∙ get_or_default pages q old no_page lt))

-- another word of a page leaves its move
pub move-stored : (g : Page) (frame offset word : ℕ) → (stored_through g frame offset word).move ≡ g.move
move-stored g frame offset word = elim (g.master.frame == frame) as (λ b. (if b then record g { master = with_bytes (with_word g.master.bytes offset word) g.master } else record g { replicas = stored_in g.replicas frame offset word }).move ≡ g.move) [
  | true ↦ refl
  | false ↦ refl
]

-- without the last page, whose move is over
pub tracks-take : (o n : OpenPages) (pages : List Page) (q : ℕ) → Tracks o pages → q + 1 ≡ length pages → length n.waiting.items ≡ most_processors
    → TracksMove n q None → ((r : ℕ) → r ≢ q → SameAt o n r) → Tracks n (take q pages)
tracks-take o n pages q tracks one sized here others = record {
  sized = sized;
  all = λ r.
      elim (cases_lt r q) [
        | inl lt ↦ rw (page-taken pages q r lt) (stays-at r (λ e. absurd (omega arith)))
        | inr past ↦
            let gone : page_at (take q pages) r ≡ no_page = get_or_past (take q pages) r no_page (omega (arith, length-take q pages)) in
            elim (cases_eq r q) [
              | inl same ↦ rw (gone, same) here
              | inr apart ↦
                  let out : page_at pages r ≡ no_page = get_or_past pages r no_page (omega arith) in
                  rw gone (subst (λ (g : Page). TracksMove n r g.move) out (stays-at r apart))
            ]
      ];
}
  where
    stays-at : (r : ℕ) → r ≢ q → TracksMove n r (page_at pages r).move
    stays-at r apart =
        let old = tracks.all r in
        let stays = others r apart in
        record {
          waiting = λ p below. stays.waiting p below ∙ old.waiting p below;
          ready = stays.ready ∙ old.ready;
        }

    page-taken : (pages : List Page) (q r : ℕ) → r < q → page_at (take q pages) r ≡ page_at pages r
    page-taken [] zero r lt = refl
    page-taken [] (suc q) r lt = refl
    page-taken (g ∷ pages) zero r lt = absurd (omega arith)
    page-taken (g ∷ pages) (suc q) zero lt = refl
    page-taken (g ∷ pages) (suc q) (suc r) lt = page-taken pages q r (omega arith)
