-- Accesses of one kind to one virtual page.
use Rattle.std.proofs.Common.{◌≡◌, ℕ, ◌/◌, ◌%◌, ◌==◌, if◌then◌else◌, Bool, true, false, not, ◌&&◌, nat_lt, Option, Some, None, Result, Ok, Err, refl, sym, ap, ◌∙◌, subst, eq-eqb, arith}
use Rattle.std.specs.Prelude.{find}
use Rattle.base_words.specs.declared.exception.Use.{Use}
use Rattle.base_words.specs.Halves.{Half, is_of}
use Rattle.base_words.specs.Place.{Segment, Mapped, Direct, Outside, segment, is_store}
use Rattle.private_machine.specs.Backing.{Held}
use Rattle.private_machine.specs.Serving.{Backs, BacksAlone, AllServe}
use Rattle.private_machine.specs.Reaching.{Sight, Wanted, Reached, Lack, NoRange, NoStore, DeadFrame, through_half, in_segment, reached, at_half}
use Rattle.hw_cpu.specs.Steps.{wanted_at, is_within}
use Rattle.hw_cpu.proofs.Serving.{ServesIf, found-serves}

-- each range is whole pages
below : (a b limit : ℕ) → limit % 4096 ≡ 0 → a / 4096 ≡ b / 4096 → nat_lt a limit ≡ nat_lt b limit
below a b limit whole same = grind arith

same-segment : (user : Bool) (a b : ℕ) → a / 4096 ≡ b / 4096 → segment user a ≡ segment user b
same-segment true a b same = ap (λ c. if c then Mapped else Outside) (below a b 0x8000_0000 refl same)
same-segment false a b same =
    ap (λ c. if c then Mapped else if nat_lt a 0xC000_0000 then Outside else if nat_lt a 0xD000_0000 then Direct else if nat_lt a 0xE000_0000 then Mapped else Outside) (below a b 0x8000_0000 refl same)
    ∙ ap (λ c. if nat_lt b 0x8000_0000 then Mapped else if c then Outside else if nat_lt a 0xD000_0000 then Direct else if nat_lt a 0xE000_0000 then Mapped else Outside) (below a b 0xC000_0000 refl same)
    ∙ ap (λ c. if nat_lt b 0x8000_0000 then Mapped else if nat_lt b 0xC000_0000 then Outside else if c then Direct else if nat_lt a 0xE000_0000 then Mapped else Outside) (below a b 0xD000_0000 refl same)
    ∙ ap (λ c. if nat_lt b 0x8000_0000 then Mapped else if nat_lt b 0xC000_0000 then Outside else if nat_lt b 0xD000_0000 then Direct else if c then Mapped else Outside) (below a b 0xE000_0000 refl same)

-- what an access reaches in a segment, by the number of its page
abbrev in-page : Sight → Use → ℕ → Segment → Result Reached Lack
in-page x purpose number Mapped = through_half x (wanted_at purpose 1 0) (find (is_of number x.asid) x.tlb)
in-page x purpose number Direct = through_half x (wanted_at purpose 1 0) (find (is_of number x.asid) x.tlb)
in-page x purpose number Outside = Err NoRange

pub half-as : (x : Sight) (purpose : Use) (unit address unit' address' : ℕ) (o : Option Half) → through_half x (wanted_at purpose unit address) o ≡ through_half x (wanted_at purpose unit' address') o
half-as x purpose unit address unit' address' None = refl
half-as x purpose unit address unit' address' (Some half) = refl

segment-as : (x : Sight) (purpose : Use) (unit address : ℕ) (s : Segment) → in_segment x (wanted_at purpose unit address) s ≡ in-page x purpose (address / 4096) s
segment-as x purpose unit address Mapped = half-as x purpose unit address 1 0 (find (is_of (address / 4096) x.asid) x.tlb)
segment-as x purpose unit address Direct = half-as x purpose unit address 1 0 (find (is_of (address / 4096) x.asid) x.tlb)
segment-as x purpose unit address Outside = refl

aligned-as : (x : Sight) (purpose : Use) (unit address : ℕ) → address % unit ≡ 0 → reached x (wanted_at purpose unit address) ≡ in-page x purpose (address / 4096) (segment x.user address)
aligned-as x purpose unit address aligned = ap (λ b. if b then in_segment x (wanted_at purpose unit address) (segment x.user address) else Err NoRange) (eq-eqb (address % unit) 0 aligned) ∙ segment-as x purpose unit address (segment x.user address)

pub same-reached : (x : Sight) (purpose : Use) (u v a b : ℕ) → a % u ≡ 0 → b % v ≡ 0 → a / 4096 ≡ b / 4096 → reached x (wanted_at purpose u a) ≡ reached x (wanted_at purpose v b)
same-reached x purpose u v a b aligned too same =
    aligned-as x purpose u a aligned
    ∙ ap (λ n. in-page x purpose n (segment x.user a)) same
    ∙ ap (in-page x purpose (b / 4096)) (same-segment x.user a b same)
    ∙ sym (aligned-as x purpose v b too)

-- the half that matches, in a segment of the mode
pub within-reached : (x : Sight) (purpose : Use) (unit address : ℕ) → address % unit ≡ 0 → is_within (segment x.user address) ≡ true → reached x (wanted_at purpose unit address) ≡ through_half x (wanted_at purpose 1 address) (find (is_of (address / 4096) x.asid) x.tlb)
within-reached x purpose unit address aligned within = aligned-as x purpose unit address aligned ∙ by (segment x.user address) within
  where
    by : (s : Segment) → is_within s ≡ true → in-page x purpose (address / 4096) s ≡ through_half x (wanted_at purpose 1 address) (find (is_of (address / 4096) x.asid) x.tlb)
    by Mapped w = half-as x purpose 1 0 1 address (find (is_of (address / 4096) x.asid) x.tlb)
    by Direct w = half-as x purpose 1 0 1 address (find (is_of (address / 4096) x.asid) x.tlb)
    by Outside w = cc

-- what is reached backs its page
backs-half : (h : Held) (x : Sight) (w : Wanted) (at : Reached) (o : Option Half) → ServesIf h o → through_half x w o ≡ Ok at → Backs h at.page at.frame
backs-half h x w at None serves is = cc
backs-half h x w at (Some half) serves is = by (x.lost half.frame) (is_store w.purpose && not half.writable) is
  where
    by : (lost refused : Bool) → (if lost then Err (DeadFrame (at_half half)) else if refused then Err NoStore else Ok (at_half half)) ≡ Ok at → Backs h at.page at.frame
    by true refused e = cc
    by false true e = cc
    by false false e = subst (λ (r : Reached). Backs h r.page r.frame) (let same : at_half half ≡ at = cc in same) serves.0

pub reached-backs : (h : Held) (x : Sight) (w : Wanted) (at : Reached) → AllServe h x.tlb → reached x w ≡ Ok at → Backs h at.page at.frame
reached-backs h x w at all is = by (w.address % w.unit == 0) (segment x.user w.address) is
  where
    by : (b : Bool) (s : Segment) → (if b then in_segment x w s else Err NoRange) ≡ Ok at → Backs h at.page at.frame
    by false s e = cc
    by true Mapped e = backs-half h x w at (find (is_of (w.address / 4096) x.asid) x.tlb) (found-serves h (is_of (w.address / 4096) x.asid) x.tlb all) e
    by true Direct e = backs-half h x w at (find (is_of (w.address / 4096) x.asid) x.tlb) (found-serves h (is_of (w.address / 4096) x.asid) x.tlb all) e
    by true Outside e = cc

-- what a store reaches backs its page alone
alone-half : (h : Held) (x : Sight) (w : Wanted) (at : Reached) (o : Option Half) → is_store w.purpose ≡ true → ServesIf h o → through_half x w o ≡ Ok at → BacksAlone h at.page at.frame
alone-half h x w at None stores serves is = cc
alone-half h x w at (Some half) stores serves is = by (x.lost half.frame) half.writable refl (sym (ap (λ b. if x.lost half.frame then Err (DeadFrame (at_half half)) else if b && not half.writable then Err NoStore else Ok (at_half half)) stores) ∙ is)
  where
    by : (lost writable : Bool) → half.writable ≡ writable → (if lost then Err (DeadFrame (at_half half)) else if true && not writable then Err NoStore else Ok (at_half half)) ≡ Ok at → BacksAlone h at.page at.frame
    by true writable is-so e = cc
    by false false is-so e = cc
    by false true is-so e = subst (λ (r : Reached). BacksAlone h r.page r.frame) (let same : at_half half ≡ at = cc in same) (serves.1 is-so)

pub reached-alone : (h : Held) (x : Sight) (w : Wanted) (at : Reached) → is_store w.purpose ≡ true → AllServe h x.tlb → reached x w ≡ Ok at → BacksAlone h at.page at.frame
reached-alone h x w at stores all is = by (w.address % w.unit == 0) (segment x.user w.address) is
  where
    by : (b : Bool) (s : Segment) → (if b then in_segment x w s else Err NoRange) ≡ Ok at → BacksAlone h at.page at.frame
    by false s e = cc
    by true Mapped e = alone-half h x w at (find (is_of (w.address / 4096) x.asid) x.tlb) stores (found-serves h (is_of (w.address / 4096) x.asid) x.tlb all) e
    by true Direct e = alone-half h x w at (find (is_of (w.address / 4096) x.asid) x.tlb) stores (found-serves h (is_of (w.address / 4096) x.asid) x.tlb all) e
    by true Outside e = cc
