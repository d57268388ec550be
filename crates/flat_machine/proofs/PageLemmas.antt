-- Accesses of one kind to one virtual page lead to one page of memory.
use Rattle.std.proofs.Common.{◌≡◌, ℕ, ◌<◌, ◌≤◌, ◌+◌, ◌-◌, ◌*◌, ◌/◌, ◌%◌, ◌^◌, ◌==◌, if◌then◌else◌, nat_lt, Bool, true, false, List, find, Option, Some, None, Ok, Err, refl, sym, ap, ◌∙◌, subst, eq-eqb, mod-lt, arith}
use Rattle.base_words.specs.declared.exception.Use.{Use}
use Rattle.base_words.specs.declared.exception.Exception.TheVariants.{BusError, AddressError}
use Rattle.base_words.specs.declared.place.Place.TheVariants.{Memory, Device}
use Rattle.base_words.specs.declared.tlb.Entry.{Entry}
use Rattle.base_words.specs.declared.tlb.TlbAnswer.{TlbAnswer}
use Rattle.base_words.specs.declared.tlb.TlbAnswer.TheVariants.{Hit, Miss, Invalid, ReadOnly}
use Rattle.base_words.specs.Tlb.{page_pair, matches, permitted, answer, looked_up}
use Rattle.base_words.specs.Place.{Segment, Mapped, Direct, Outside, segment, physical, AddressSpace, through_tlb, is_store, translated, place}
use Rattle.flat_machine.specs.Windows.{IsPageOf}

less-true : (k n : ℕ) → k < n → nat_lt k n ≡ true
less-true k n l = grind arith

true-less : (k n : ℕ) → nat_lt k n ≡ true → k < n
true-less k n e = grind arith

-- ---- each range of addresses is whole pages

below : (a b limit : ℕ) → limit % 4096 ≡ 0 → a / 4096 ≡ b / 4096 → nat_lt a limit ≡ nat_lt b limit
below a b limit whole same = grind arith

same-segment : (user : Bool) (a b : ℕ) → a / 4096 ≡ b / 4096 → segment user a ≡ segment user b
same-segment true a b same = ap (λ c. if c then Mapped else Outside) (below a b 0x8000_0000 refl same)
same-segment false a b same =
    ap (λ c. if c then Mapped else if nat_lt a 0xC000_0000 then Outside else if nat_lt a 0xD000_0000 then Direct else if nat_lt a 0xE000_0000 then Mapped else Outside) (below a b 0x8000_0000 refl same)
    ∙ ap (λ c. if nat_lt b 0x8000_0000 then Mapped else if c then Outside else if nat_lt a 0xD000_0000 then Direct else if nat_lt a 0xE000_0000 then Mapped else Outside) (below a b 0xC000_0000 refl same)
    ∙ ap (λ c. if nat_lt b 0x8000_0000 then Mapped else if nat_lt b 0xC000_0000 then Outside else if c then Direct else if nat_lt a 0xE000_0000 then Mapped else Outside) (below a b 0xD000_0000 refl same)
    ∙ ap (λ c. if nat_lt b 0x8000_0000 then Mapped else if nat_lt b 0xC000_0000 then Outside else if nat_lt b 0xD000_0000 then Direct else if c then Mapped else Outside) (below a b 0xE000_0000 refl same)

-- the direct one begins there
direct-above : (user : Bool) (a : ℕ) → segment user a ≡ Direct → 0xC000_0000 ≤ a
direct-above true a is = by (nat_lt a 0x8000_0000) is
  where
    by : (b : Bool) → (if b then Mapped else Outside) ≡ Direct → 0xC000_0000 ≤ a
    by true e = cc
    by false e = cc
direct-above false a is = by (nat_lt a 0x8000_0000) (nat_lt a 0xC000_0000) refl is
  where
    by : (b c : Bool) → nat_lt a 0xC000_0000 ≡ c → (if b then Mapped else if c then Outside else if nat_lt a 0xD000_0000 then Direct else if nat_lt a 0xE000_0000 then Mapped else Outside) ≡ Direct → 0xC000_0000 ≤ a
    by true c lt e = cc
    by false true lt e = cc
    by false false lt e = grind arith

-- ---- the TLB answers a page at once

pair-same : (a b : ℕ) → a / 4096 ≡ b / 4096 → page_pair a ≡ page_pair b
pair-same a b same = omega (arith, same)

answer-same : (a b : ℕ) (store : Bool) (o : Option Entry) → a / 4096 ≡ b / 4096 → answer a store o ≡ answer b store o
answer-same a b store None same = refl
answer-same a b store (Some e) same = ap (λ (n : ℕ). permitted store (if n % 2 == 1 then e.lo1 else e.lo0)) same

lookup-same : (es : List Entry) (asid : ℕ) (store : Bool) (a b : ℕ) → a / 4096 ≡ b / 4096 → looked_up es a asid store ≡ looked_up es b asid store
lookup-same es asid store a b same =
    ap (λ p. answer a store (find (matches p asid) es)) (pair-same a b same) ∙ answer-same a b store (find (matches (page_pair b) asid) es) same

-- ---- a page of memory

record InPage (purpose : Use) (pages base : ℕ) : Type 0 where
  pub whole : base + 4096 ≤ 4096 * pages
  pub all : (j : ℕ) → j < 4096 → physical pages purpose (base + j) ≡ Ok (Memory (base + j))

in-page : (purpose : Use) (pages base k o : ℕ) → base % 4096 ≡ 0 → k < 4096 → physical pages purpose (base + k) ≡ Ok (Memory o) → (o ≡ base + k) × InPage purpose pages base
in-page purpose pages base k o whole within is = by (nat_lt ((base + k) / 4096) pages) refl is
  where
    rest : (b : Bool) → (if b then Ok (Device ((base + k) % 4096)) else Err (BusError purpose)) ≡ Ok (Memory o) → (o ≡ base + k) × InPage purpose pages base
    rest true e = cc
    rest false e = cc

    by : (b : Bool) → nat_lt ((base + k) / 4096) pages ≡ b → (if b then Ok (Memory (base + k)) else if (base + k) / 4096 == 0xFFFF then Ok (Device ((base + k) % 4096)) else Err (BusError purpose)) ≡ Ok (Memory o) → (o ≡ base + k) × InPage purpose pages base
    by true lt e =
        let less = true-less ((base + k) / 4096) pages lt in (
          (let at : o ≡ base + k = cc in at),
          record {
            whole = omega (arith, less, whole, within);
            all = λ j small.
                let there : (base + j) / 4096 < pages = omega (arith, less, whole, within, small) in
                ap (λ c. if c then Ok (Memory (base + j)) else if (base + j) / 4096 == 0xFFFF then Ok (Device ((base + j) % 4096)) else Err (BusError purpose)) (less-true ((base + j) / 4096) pages there);
          },
        )
    by false lt e = rest ((base + k) / 4096 == 0xFFFF) e

-- where an address leads into memory, and all of its page with it
record Led (purpose : Use) (space : AddressSpace) (pages a o : ℕ) (s : Segment) : Type 0 where
  pub base : ℕ
  pub aligned : base % 4096 ≡ 0
  pub at : o ≡ base + a % 4096
  pub whole : base + 4096 ≤ 4096 * pages
  pub all : (pc : ℕ) → pc / 4096 ≡ a / 4096 → translated space pages purpose pc s ≡ Ok (Memory (base + pc % 4096))

led-through : (purpose : Use) (space : AddressSpace) (pages a o : ℕ) (t : TlbAnswer) → looked_up space.entries a space.asid (is_store purpose) ≡ t → through_tlb pages purpose a t ≡ Ok (Memory o) → Led purpose space pages a o Mapped
led-through purpose space pages a o (Hit frame) looked is =
    let page = in-page purpose pages (frame * 4096) (a % 4096) o (omega arith) (mod-lt a (omega arith)) is in
    record {
      base = frame * 4096;
      aligned = omega arith;
      at = page.0;
      whole = page.1.whole;
      all = λ pc same. ap (through_tlb pages purpose pc) (lookup-same space.entries space.asid (is_store purpose) pc a same ∙ looked) ∙ page.1.all (pc % 4096) (mod-lt pc (omega arith));
    }
led-through purpose space pages a o Miss looked is = cc
led-through purpose space pages a o Invalid looked is = cc
led-through purpose space pages a o ReadOnly looked is = cc

led-directly : (purpose : Use) (space : AddressSpace) (pages a o : ℕ) → 0xC000_0000 ≤ a → physical pages purpose (a - 0xC000_0000) ≡ Ok (Memory o) → Led purpose space pages a o Direct
led-directly purpose space pages a o above is =
    let base : ℕ = a - 0xC000_0000 - a % 4096 in
    let from : a - 0xC000_0000 ≡ base + a % 4096 = omega (arith, above) in
    let page = in-page purpose pages base (a % 4096) o (omega (arith, above)) (mod-lt a (omega arith)) (ap (physical pages purpose) (sym from) ∙ is) in
    record {
      base = base;
      aligned = omega (arith, above);
      at = page.0;
      whole = page.1.whole;
      all = λ pc same. ap (physical pages purpose) (let there : pc - 0xC000_0000 ≡ base + pc % 4096 = omega (arith, above, same) in there) ∙ page.1.all (pc % 4096) (mod-lt pc (omega arith));
    }

led : (purpose : Use) (space : AddressSpace) (pages a o : ℕ) (s : Segment) → segment space.user a ≡ s → translated space pages purpose a s ≡ Ok (Memory o) → Led purpose space pages a o s
led purpose space pages a o Mapped at is = led-through purpose space pages a o (looked_up space.entries a space.asid (is_store purpose)) refl is
led purpose space pages a o Direct at is = led-directly purpose space pages a o (direct-above space.user a at) is
led purpose space pages a o Outside at is = cc

-- the page of an offset to which an address leads that is a multiple of 1, as all are
pub page-of : (purpose : Use) (space : AddressSpace) (pages unit a o : ℕ) → o < 2 ^ 36 → place space pages unit purpose a ≡ Ok (Memory o) → IsPageOf purpose space pages (record { number = a / 4096; start = o - a % 4096 })
page-of purpose space pages unit a o low is = by (a % unit == 0) is
  where
    by : (b : Bool) → (if b then translated space pages purpose a (segment space.user a) else Err (AddressError purpose a)) ≡ Ok (Memory o) → IsPageOf purpose space pages (record { number = a / 4096; start = o - a % 4096 })
    by false e = cc
    by true e =
        let l = led purpose space pages a o (segment space.user a) refl e in
        let start : l.base ≡ o - a % 4096 = omega (arith, l.at) in
        record {
          aligned = subst (λ (n : ℕ). n % 4096 ≡ 0) start l.aligned;
          whole = subst (λ (n : ℕ). n + 4096 ≤ 4096 * pages) start l.whole;
          physical = let at = l.at in let begins = l.aligned in omega (arith, low, at, begins);
          leads = λ other pc same aligned.
              ap (λ c. if c then translated space pages purpose pc (segment space.user pc) else Err (AddressError purpose pc)) (eq-eqb (pc % other) 0 aligned)
              ∙ ap (translated space pages purpose pc) (same-segment space.user pc a same)
              ∙ l.all pc same
              ∙ ap (λ (n : ℕ). Ok (Memory (n + pc % 4096))) start;
        }
