-- Tails of looks: one behind another, and what each answer of a call adds.
use Rattle.std.proofs.Common.{◌≡◌, ℕ, ◌+◌, Bool, true, false, true≢false, List, [], ◌∷◌, ◌++◌, refl, sym, ap, ◌∙◌, inl, inr, ⊎_elim, arith, append_assoc, append-nil, ◌==◌, if◌then◌else◌}
use Rattle.frame_words.specs.FrameWords.{IsFree}
use Rattle.frame_words.specs.Views.{look}
use Rattle.frame_words.specs.Taking.{loaded, Changed, FindsHeld, TookBy}
use Rattle.frame_words.specs.Borrowing.{FindsLimit, BorrowedBy}
use Rattle.frame_words.specs.Tails.{looked, AreLoads, GainNothing, Omits, IsFirstLook, borrows_of, repays_of}
use Rattle.frame_words.specs.StepKinds.{is_load, gains, lends, pays}
use Rattle.frame_words.specs.Refusals.{Refuses, AddsRefusal, ShareRefusal, RefusesShare, AddsShareRefusal, IsAtLimit, IsLost}
use Rattle.frame_words.specs.declared.view.Look.{Look}
use Rattle.frame_words.specs.declared.view.View.{View}
use Rattle.frame_words.specs.declared.view.StepKind.{StepKind}
use Rattle.frame_words.specs.declared.view.StepKind.TheVariants.{Load, Take, Share, GiveBack, Borrow, Repay, Split, Join}
use Rattle.frame_words.specs.declared.answers.Took.TheVariants as took
use Rattle.frame_words.specs.declared.answers.Borrow.TheVariants as lent

-- a tail behind a tail
pub looked-looked : (v : View) (xs ys : List Look) → looked (looked v xs) ys ≡ looked v (xs ++ ys)
looked-looked v xs ys = ap (λ ls. record v { looks = ls }) (append_assoc v.looks xs ys)

-- two loads are a tail of two
pub loaded-loaded : (v : View) (i m n : ℕ) → loaded (loaded v i m) i n ≡ looked v (look Load i m ∷ look Load i n ∷ [])
loaded-loaded v i m n = looked-looked v (look Load i m ∷ []) (look Load i n ∷ [])

pub AreLoads-append : (xs ys : List Look) → AreLoads xs → AreLoads ys → AreLoads (xs ++ ys)
AreLoads-append [] ys p q = q
AreLoads-append (x ∷ xs) ys p q = (p.0, AreLoads-append xs ys p.1 q)

pub GainNothing-append : (xs ys : List Look) → GainNothing xs → GainNothing ys → GainNothing (xs ++ ys)
GainNothing-append [] ys p q = q
GainNothing-append (x ∷ xs) ys p q = (p.0, GainNothing-append xs ys p.1 q)

load_gains_nothing : (k : StepKind) → is_load k ≡ true → gains k ≡ false
load_gains_nothing Load e = refl
load_gains_nothing Take e = absurd (cc)
load_gains_nothing Share e = absurd (cc)
load_gains_nothing GiveBack e = refl
load_gains_nothing Borrow e = refl
load_gains_nothing Repay e = refl
load_gains_nothing Split e = refl
load_gains_nothing Join e = refl

-- loads alone gain nothing
pub loads_gain_nothing : (xs : List Look) → AreLoads xs → GainNothing xs
loads_gain_nothing [] p = tt
loads_gain_nothing (x ∷ xs) p = (load_gains_nothing x.kind p.0, loads_gain_nothing xs p.1)

pub borrows_of-append : (c : ℕ) (xs ys : List Look) → borrows_of c (xs ++ ys) ≡ borrows_of c xs + borrows_of c ys
borrows_of-append c [] ys = omega arith
borrows_of-append c (x ∷ xs) ys = omega (arith, borrows_of-append c xs ys)

pub repays_of-append : (c : ℕ) (xs ys : List Look) → repays_of c (xs ++ ys) ≡ repays_of c xs + repays_of c ys
repays_of-append c [] ys = omega arith
repays_of-append c (x ∷ xs) ys = omega (arith, repays_of-append c xs ys)

-- loads neither borrow nor repay
load_lends_nothing : (k : StepKind) → is_load k ≡ true → (lends k ≡ 0) × (pays k ≡ 0)
load_lends_nothing Load e = (refl, refl)
load_lends_nothing Take e = absurd (cc)
load_lends_nothing Share e = absurd (cc)
load_lends_nothing GiveBack e = (refl, refl)
load_lends_nothing Borrow e = absurd (cc)
load_lends_nothing Repay e = absurd (cc)
load_lends_nothing Split e = (refl, refl)
load_lends_nothing Join e = (refl, refl)

either_zero : (b : Bool) (n : ℕ) → n ≡ 0 → (if b then n else 0) ≡ 0
either_zero true n e = e
either_zero false n e = refl

pub loads_borrow_nothing : (c : ℕ) (xs : List Look) → AreLoads xs → borrows_of c xs ≡ repays_of c xs
loads_borrow_nothing c [] p = refl
loads_borrow_nothing c (x ∷ xs) p =
    let own = load_lends_nothing x.kind p.0 in
    let a = either_zero (x.word == c) (lends x.kind) own.0 in
    let b = either_zero (x.word == c) (pays x.kind) own.1 in
    omega (arith, loads_borrow_nothing c xs p.1)

-- a refusal stays one among more looks
pub Refuses-longer : (xs ys : List Look) (i : ℕ) → Refuses xs i → Refuses (xs ++ ys) i
Refuses-longer xs ys i r = record {
  before = r.before;
  looks = r.looks;
  later = r.later ++ ys;
  refusal = r.refusal;
  parts = ap (λ ls. ls ++ ys) r.parts ∙ append_assoc r.before (r.looks ++ r.later) ys ∙ ap (λ ls. r.before ++ ls) (append_assoc r.looks r.later ys);
}

pub Refuses-behind : (xs ys : List Look) (i : ℕ) → Refuses ys i → Refuses (xs ++ ys) i
Refuses-behind xs ys i r = record {
  before = xs ++ r.before;
  looks = r.looks;
  later = r.later;
  refusal = r.refusal;
  parts = ap (λ ls. xs ++ ls) r.parts ∙ sym (append_assoc xs r.before (r.looks ++ r.later));
}

-- looks that omit a word
pub Omits-append : (i : ℕ) (xs ys : List Look) → Omits i xs → Omits i ys → Omits i (xs ++ ys)
Omits-append i [] ys p q = q
Omits-append i (x ∷ xs) ys p q = (p.0, Omits-append i xs ys p.1 q)

-- a share's refusal stays one among more looks, and behind looks that omit the frame
pub RefusesShare-longer : (xs ys : List Look) (i under : ℕ) → RefusesShare xs i under → RefusesShare (xs ++ ys) i under
RefusesShare-longer xs ys i under r = record {
  before = r.before;
  looks = r.looks;
  later = r.later ++ ys;
  refusal = r.refusal;
  first = r.first;
  parts = ap (λ ls. ls ++ ys) r.parts ∙ append_assoc r.before (r.looks ++ r.later) ys ∙ ap (λ ls. r.before ++ ls) (append_assoc r.looks r.later ys);
}

pub RefusesShare-behind : (xs ys : List Look) (i under : ℕ) → Omits i xs → RefusesShare ys i under → RefusesShare (xs ++ ys) i under
RefusesShare-behind xs ys i under omits r = record {
  before = xs ++ r.before;
  looks = r.looks;
  later = r.later;
  refusal = r.refusal;
  first = Omits-append i xs r.before omits r.first;
  parts = ap (λ ls. xs ++ ls) r.parts ∙ sym (append_assoc xs r.before (r.looks ++ r.later));
}

pub AddsShareRefusal-refuses : (v : View) (i under : ℕ) (w : View) (a : AddsShareRefusal v i under w) → RefusesShare a.looks i under
AddsShareRefusal-refuses v i under w a = record { before = []; looks = a.looks; later = []; refusal = a.refusal; first = tt; parts = sym (append-nil a.looks) }

-- its load is the first look of the tail on the word
share_load_first : (before looks later tail : List Look) (i under : ℕ) → ShareRefusal i under looks → Omits i before → tail ≡ before ++ (looks ++ later)
    → (n : ℕ) × IsFirstLook tail (look Load i n)
share_load_first before [] later tail i under r omits parts = absurd r
share_load_first before (l ∷ []) later tail i under r omits parts =
    (l.seen, record { before = before; later = later; omits = omits; parts = parts ∙ ap (λ (x : Look). before ++ x ∷ later) r.0 })
share_load_first before (l ∷ m ∷ []) later tail i under r omits parts =
    (l.seen, record { before = before; later = m ∷ later; omits = omits; parts = parts ∙ ap (λ (x : Look). before ++ x ∷ m ∷ later) r.0 })
share_load_first before (l ∷ m ∷ n ∷ ls) later tail i under r omits parts = absurd r

pub RefusesShare-first : (tail : List Look) (i under : ℕ) → RefusesShare tail i under → (n : ℕ) × IsFirstLook tail (look Load i n)
RefusesShare-first tail i under r = share_load_first r.before r.looks r.later tail i under r.refusal r.first r.parts

pub IsAtLimit-longer : (xs ys : List Look) (c most seen : ℕ) → IsAtLimit xs c most seen → IsAtLimit (xs ++ ys) c most seen
IsAtLimit-longer xs ys c most seen r = record {
  before = r.before;
  later = r.later ++ ys;
  full = r.full;
  repaid = r.repaid;
  parts = ap (λ ls. ls ++ ys) r.parts ∙ append_assoc r.before (look Load c seen ∷ r.later) ys;
}

pub IsAtLimit-behind : (xs ys : List Look) (c most seen : ℕ) → borrows_of c xs ≡ repays_of c xs → IsAtLimit ys c most seen → IsAtLimit (xs ++ ys) c most seen
IsAtLimit-behind xs ys c most seen even r = record {
  before = xs ++ r.before;
  later = r.later;
  full = r.full;
  repaid = borrows_of-append c xs r.before ∙ (λ k. even k + r.repaid k) ∙ sym (repays_of-append c xs r.before);
  parts = ap (λ ls. xs ++ ls) r.parts ∙ sym (append_assoc xs r.before (look Load c seen ∷ r.later));
}

pub IsLost-longer : (xs ys : List Look) (c most seen : ℕ) → IsLost xs c most seen → IsLost (xs ++ ys) c most seen
IsLost-longer xs ys c most seen r = record {
  before = r.before;
  later = r.later ++ ys;
  first = r.first;
  below = r.below;
  other = r.other;
  repaid = r.repaid;
  parts = ap (λ ls. ls ++ ys) r.parts ∙ append_assoc r.before (look Load c r.first ∷ look Load c seen ∷ r.later) ys;
}

pub IsLost-behind : (xs ys : List Look) (c most seen : ℕ) → borrows_of c xs ≡ repays_of c xs → IsLost ys c most seen → IsLost (xs ++ ys) c most seen
IsLost-behind xs ys c most seen even r = record {
  before = xs ++ r.before;
  later = r.later;
  first = r.first;
  below = r.below;
  other = r.other;
  repaid = borrows_of-append c xs r.before ∙ (λ k. even k + r.repaid k) ∙ sym (repays_of-append c xs r.before);
  parts = ap (λ ls. xs ++ ls) r.parts ∙ sym (append_assoc xs r.before (look Load c r.first ∷ look Load c seen ∷ r.later));
}

-- what an answer adds
pub held_refuses : (v : View) (i seen : ℕ) (w : View) → TookBy v i (took.Held seen) w → AddsRefusal v i w
held_refuses v i seen w told = ⊎_elim
    (λ (f : FindsHeld v i seen w). record { looks = look Load i seen ∷ []; refusal = (refl, inl f.some); loads = (refl, tt); own = λ a. inl (f.own a); after = f.after })
    (λ (f : (first : ℕ) × IsFree first × Changed v i first seen w). record {
      looks = look Load i f.0 ∷ look Load i seen ∷ [];
      refusal = (refl, refl, f.1, f.2.other);
      loads = (refl, (refl, tt));
      own = λ a. absurd (true≢false (sym a ∙ f.2.crowd));
      after = f.2.after ∙ loaded-loaded v i f.0 seen;
    })
    told

pub spent_refuses : (v : View) (i seen : ℕ) (w : View) → TookBy v i (took.Spent seen) w → AddsRefusal v i w
spent_refuses v i seen w told = record { looks = look Load i seen ∷ []; refusal = (refl, inr told.last); loads = (refl, tt); own = λ a. inr (told.known a); after = told.after }

pub AddsRefusal-refuses : (v : View) (i : ℕ) (w : View) (a : AddsRefusal v i w) → Refuses a.looks i
AddsRefusal-refuses v i w a = record { before = []; looks = a.looks; later = []; refusal = a.refusal; parts = sym (append-nil a.looks) }

-- what a `borrow` that answers AtLimit or Lost adds
pub limit_adds : (v : View) (c most seen : ℕ) (w : View) → FindsLimit v c most seen w → (w ≡ looked v (look Load c seen ∷ [])) × IsAtLimit (look Load c seen ∷ []) c most seen
limit_adds v c most seen w f = (f.after, record { before = []; later = []; full = f.full; repaid = refl; parts = refl })

pub lost_adds : (v : View) (c most seen : ℕ) (w : View) (f : BorrowedBy v c most (lent.Lost seen) w)
    → (w ≡ looked v (look Load c f.0 ∷ look Load c seen ∷ [])) × IsLost (look Load c f.0 ∷ look Load c seen ∷ []) c most seen
lost_adds v c most seen w f = (f.2.after ∙ loaded-loaded v c f.0 seen, record { before = []; later = []; first = f.0; below = f.1; other = f.2.other; repaid = refl; parts = refl })
