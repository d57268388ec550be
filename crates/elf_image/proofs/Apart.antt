-- Where no address lies in two segments, no two of them share a byte.
use Rattle.std.proofs.Common.{◌≡◌, ℕ, ◌+◌, ◌<◌, ◌≤◌, max, Bool, true, false, cond, leb, ltb, ◌&&◌, List, [], ◌∷◌, length, get_or, take, position, IsPermutation, Some, None, refl, ◌∙◌, ap, arith}
use Rattle.std.specs.List.{count_by, filter_map, cons_option, position_from}
use Rattle.std.proofs.lemmas.Bool.{false_from_ne_true, and_from, and_parts, le-leb, lt-ltb, leb-true, ltb-true}
use Rattle.std.proofs.lemmas.Iterator.Adapters.{position_from-zero}
use Rattle.std.proofs.lemmas.List.Sorted.{sum_by-IsPermutation}
use Rattle.std.proofs.lemmas.List.Sums.{sum_by-cons, sum_by_more}
use Rattle.elf_image.specs.declared.segment.ProgramHeader.{ProgramHeader}
use Rattle.elf_image.specs.declared.segment.ProgramHeader.TheVariants.{Load, Interpreter, Other}
use Rattle.elf_image.specs.declared.segment.Span.{Span}
use Rattle.elf_image.specs.Segments.{shares_byte}
use Rattle.elf_image.specs.Spans.{span_of, has_address, AreApart}
use Rattle.elf_image.specs.FirstFault.{overlap_from, overlap}
use Rattle.elf_image.proofs.NoFault.{first_of-one}

abbrev one_if : Bool → ℕ
one_if b = cond b 1 0

-- how many of the segments have the address
abbrev count_at : ℕ → List ProgramHeader → ℕ
count_at address headers = count_by (has_address address) (filter_map span_of headers)

abbrev spans_at : ℕ → List Span → ℕ
spans_at address spans = count_by (has_address address) spans

-- the segment has the address
abbrev lies_in : ℕ → ProgramHeader → Bool
lies_in address (Load s) = ltb 0 s.p_memsz && (leb s.p_vaddr address && ltb address (s.p_vaddr + s.p_memsz))
lies_in address Interpreter = false
lies_in address Other = false

count_option : (address : ℕ) (b : Bool) (span : Span) (rest : List Span)
    → spans_at address (cons_option (cond b (Some span) None) rest) ≡ one_if (b && has_address address span) + spans_at address rest
count_option address true span rest = sum_by-cons (λ x. cond (has_address address x) 1 0) span rest
count_option address false span rest = omega arith

count_at-cons : (address : ℕ) (header : ProgramHeader) (later : List ProgramHeader) → count_at address (header ∷ later) ≡ one_if (lies_in address header) + count_at address later
count_at-cons address (Load s) later = count_option address (ltb 0 s.p_memsz) (record { start = s.p_vaddr; end = s.p_vaddr + s.p_memsz }) (filter_map span_of later)
count_at-cons address Interpreter later = omega arith
count_at-cons address Other later = omega arith

-- two segments that share a byte both have its address
record ShareAt (g h : ProgramHeader) : Type 0 where
  address : ℕ
  first : lies_in address g ≡ true
  second : lies_in address h ≡ true

lies_in-from : (start size address : ℕ) → ltb 0 size ≡ true → start ≤ address → address < start + size → (ltb 0 size && (leb start address && ltb address (start + size))) ≡ true
lies_in-from start size address some from to = and_from _ _ some (and_from _ _ (le-leb start address from) (lt-ltb address (start + size) to))

ShareAt-from : (g h : ProgramHeader) → shares_byte g h ≡ true → ShareAt g h
ShareAt-from (Load s) (Load t) shares =
    let parts = and_parts (ltb 0 s.p_memsz && ltb 0 t.p_memsz) (ltb s.p_vaddr (t.p_vaddr + t.p_memsz) && ltb t.p_vaddr (s.p_vaddr + s.p_memsz)) shares in
    let some = and_parts (ltb 0 s.p_memsz) (ltb 0 t.p_memsz) parts.0 in
    let ends = and_parts (ltb s.p_vaddr (t.p_vaddr + t.p_memsz)) (ltb t.p_vaddr (s.p_vaddr + s.p_memsz)) parts.1 in
    let first_some : 0 < s.p_memsz = ltb-true _ _ some.0 in
    let second_some : 0 < t.p_memsz = ltb-true _ _ some.1 in
    let first_end : s.p_vaddr < t.p_vaddr + t.p_memsz = ltb-true _ _ ends.0 in
    let second_end : t.p_vaddr < s.p_vaddr + s.p_memsz = ltb-true _ _ ends.1 in
    record {
      address = max s.p_vaddr t.p_vaddr;
      first = lies_in-from s.p_vaddr s.p_memsz (max s.p_vaddr t.p_vaddr) some.0 (omega arith) (omega arith);
      second = lies_in-from t.p_vaddr t.p_memsz (max s.p_vaddr t.p_vaddr) some.1 (omega arith) (omega arith);
    }
ShareAt-from (Load s) Interpreter shares = absurd cc
ShareAt-from (Load s) Other shares = absurd cc
ShareAt-from Interpreter h shares = absurd cc
ShareAt-from Other h shares = absurd cc

-- none of these has an address of the segment
abbrev NoneAt : ProgramHeader → List ProgramHeader → Type 0
NoneAt g later = (address : ℕ) → lies_in address g ≡ true → count_at address later ≡ 0

none_shares : (g : ProgramHeader) (later : List ProgramHeader) (i : ℕ) → NoneAt g later → position_from (shares_byte g) i later ≡ None
none_shares g [] i none = refl
none_shares g (h ∷ later) i none =
    let apart : shares_byte g h ≡ false = false_from_ne_true (shares_byte g h) (λ shares.
    let at = ShareAt-from g h shares in
    let one : one_if (lies_in at.address h) ≡ 1 = ap one_if at.second in
    omega (arith, count_at-cons at.address h later, none at.address at.first)) in
    let rest = none_shares g later (i + 1) (λ address at. omega (arith, count_at-cons address h later, none address at)) in
    rw apart rest

overlap_from-apart : (headers : List ProgramHeader) (n : ℕ) → ((address : ℕ) → count_at address headers ≤ 1) → overlap_from n headers ≡ None
overlap_from-apart [] n few = refl
overlap_from-apart (g ∷ later) n few =
    let none : NoneAt g later = λ address at.
    let one : one_if (lies_in address g) ≡ 1 = ap one_if at in
    omega (arith, count_at-cons address g later, few address) in
    let here : position (shares_byte g) later ≡ None = position_from-zero (shares_byte g) later ∙ none_shares g later 0 none in
    let rest = overlap_from-apart later (n + 1) (λ address. omega (arith, count_at-cons address g later, few address)) in
    rw here (first_of-one (overlap_from (n + 1) later) ∙ rest)

-- where the segments' places are apart in some order, none share a byte
pub no_overlap : (headers : List ProgramHeader) (spans : List Span) → IsPermutation (filter_map span_of headers) spans → AreApart spans → overlap headers ≡ None
no_overlap headers spans same apart =
    overlap_from-apart headers 0 (λ address.
    omega (arith, apart address, sum_by-IsPermutation (λ x. cond (has_address address x) 1 0) (filter_map span_of headers) spans same))

-- among the first places no address is one of two, and none of one from here on
pub record ApartBelow (end : ℕ) (spans : List Span) : Type 0 where
  pub apart : AreApart spans
  pub behind : (address : ℕ) → end ≤ address → spans_at address spans ≡ 0

one_more : (b : Bool) (count : ℕ) → count ≤ 1 → (b ≡ true → count ≡ 0) → count + one_if b ≤ 1
one_more true count few none = omega (arith, none refl)
one_more false count few none = omega arith

pub ApartBelow-more : (spans : List Span) (i : ℕ) (d : Span) (end : ℕ) → i < length spans → end ≤ (get_or spans i d).start → ApartBelow end (take i spans)
    → ApartBelow (max end (get_or spans i d).end) (take (i + 1) spans)
ApartBelow-more spans i d end within from below =
    let span = get_or spans i d in
    let more = λ (address : ℕ). sum_by_more (λ x. cond (has_address address x) 1 0) spans i d within in
    record {
      apart = λ address.
          let has = has_address address span in
          let next = one_more has (spans_at address (take i spans)) (below.apart address) (λ at.
          below.behind address (omega (arith, leb-true span.start address (and_parts (leb span.start address) (ltb address span.end) at).0))) in
          omega (arith, more address, next);
      behind = λ address late.
          let none : has_address address span ≡ false = false_from_ne_true (has_address address span) (λ at.
          omega (arith, ltb-true address span.end (and_parts (leb span.start address) (ltb address span.end) at).1)) in
          let zero : one_if (has_address address span) ≡ 0 = ap one_if none in
          omega (arith, more address, below.behind address (omega arith));
    }
