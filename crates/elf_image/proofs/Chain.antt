-- The first fault, once the tests before it have found nothing.
use Rattle.std.proofs.Common.{◌≡◌, ℕ, ◌*◌, ◌%◌, ◌≤◌, List, [], ◌∷◌, length, Option, Some, None, ◌++◌, refl, sym, ap, subst, ◌∙◌}
use Rattle.std.proofs.lemmas.Bool.{eq-eqb, le-leb}
use Rattle.elf_image.specs.declared.fault.ImageFault.{ImageFault}
use Rattle.elf_image.specs.declared.fault.ImageFault.TheVariants as fault
use Rattle.elf_image.specs.declared.header.ElfHeader.{ElfHeader}
use Rattle.elf_image.specs.declared.segment.ProgramHeader.{ProgramHeader}
use Rattle.elf_image.specs.Fields.{elf_header, program_headers, program_headers_of}
use Rattle.elf_image.specs.FirstFault.{first_of, short, magic, class, order, version, kind, processor, table, interp, segment, place, overlap, entry, first_fault}
use Rattle.elf_image.specs.Checks.{header_fault, segments_fault}
use Rattle.elf_image.specs.Loading.{Refuses, raw_fault}

-- a fault that was found is what is refused
pub Refuses-found : (refusal : ImageFault) (found : Option ImageFault) → found ≡ Some refusal → Refuses found refusal
Refuses-found fault.Memory found e = tt
Refuses-found refusal found e = e

skip : (found : Option ImageFault) (others : List (Option ImageFault)) → found ≡ None → first_of (found ∷ others) ≡ first_of others
skip found others e = ap (λ f. first_of (f ∷ others)) e

at : (found : Option ImageFault) (others : List (Option ImageFault)) (refusal : ImageFault) → found ≡ Some refusal → first_of (found ∷ others) ≡ Some refusal
at found others refusal e = ap (λ f. first_of (f ∷ others)) e

-- rows that are looked through together
first_of-joined : (front back : List (Option ImageFault)) → first_of (first_of front ∷ back) ≡ first_of (front ++ back)
first_of-joined [] back = refl
first_of-joined (None ∷ front) back = first_of-joined front back
first_of-joined (Some found ∷ front) back = refl

-- the same rows in front of rows with the same first fault
first_of-behind : (front xs ys : List (Option ImageFault)) → first_of xs ≡ first_of ys → first_of (front ++ xs) ≡ first_of (front ++ ys)
first_of-behind [] xs ys e = e
first_of-behind (None ∷ front) xs ys e = first_of-behind front xs ys e
first_of-behind (Some found ∷ front) xs ys e = refl

-- the first fault, as the steps of the check find it
first_fault-by_steps : (file : List ℕ) (pages : ℕ)
    → first_fault file pages ≡ first_of (short file ∷ header_fault (elf_header file) (length file) ∷ segments_fault (program_headers file) (length file) pages ∷ entry (elf_header file) pages ∷ [])
unfolding first_fault header_fault segments_fault
first_fault-by_steps file pages =
    let header = elf_header file in
    let headers = program_headers file in
    let rows : List (Option ImageFault) = magic header ∷ class header ∷ order header ∷ version header ∷ kind header ∷ processor header ∷ table header (length file) ∷ [] in
    let others : List (Option ImageFault) = interp headers ∷ segment headers (length file) ∷ place headers pages ∷ overlap headers ∷ [] in
    let last : List (Option ImageFault) = entry header pages ∷ [] in
    first_of-behind (short file ∷ []) (rows ++ (others ++ last)) (first_of rows ∷ first_of others ∷ last)
    (first_of-behind rows (others ++ last) (first_of others ∷ last) (sym (first_of-joined others last)) ∙ sym (first_of-joined rows (first_of others ∷ last)))

-- a file of whole words that the memory holds
pub raw_fault_none : (file : List ℕ) (pages : ℕ) → length file % 4 ≡ 0 → length file ≤ 4096 * pages → raw_fault file pages ≡ None
raw_fault_none file pages words fits = rw (eq-eqb _ _ words, le-leb _ _ fits) refl

-- the tests before the last one have found nothing
pub record Passed (file : List ℕ) (pages : ℕ) : Type 0 where
  pub long : short file ≡ None
  pub header : header_fault (elf_header file) (length file) ≡ None
  pub segments : segments_fault (program_headers file) (length file) pages ≡ None

pub first_fault-short : (file : List ℕ) (pages : ℕ) (refusal : ImageFault) → short file ≡ Some refusal → first_fault file pages ≡ Some refusal
first_fault-short file pages refusal e = first_fault-by_steps file pages ∙ at (short file) _ refusal e

pub first_fault-header : (file : List ℕ) (pages : ℕ) (refusal : ImageFault) → short file ≡ None → header_fault (elf_header file) (length file) ≡ Some refusal → first_fault file pages ≡ Some refusal
first_fault-header file pages refusal long e = first_fault-by_steps file pages ∙ skip (short file) _ long ∙ at (header_fault (elf_header file) (length file)) _ refusal e

pub first_fault-segments : (file : List ℕ) (pages : ℕ) (refusal : ImageFault) → short file ≡ None → header_fault (elf_header file) (length file) ≡ None
    → segments_fault (program_headers file) (length file) pages ≡ Some refusal → first_fault file pages ≡ Some refusal
first_fault-segments file pages refusal long header e =
    first_fault-by_steps file pages ∙ skip (short file) _ long ∙ skip (header_fault (elf_header file) (length file)) _ header
    ∙ at (segments_fault (program_headers file) (length file) pages) _ refusal e

pub first_fault-entry : (file : List ℕ) (pages : ℕ) → Passed file pages → first_fault file pages ≡ first_of (entry (elf_header file) pages ∷ [])
first_fault-entry file pages passed =
    first_fault-by_steps file pages ∙ skip (short file) _ passed.long ∙ skip (header_fault (elf_header file) (length file)) _ passed.header
    ∙ skip (segments_fault (program_headers file) (length file) pages) _ passed.segments

-- the headers that were read are those of the file
pub of_file : (P : List ProgramHeader → Type 0) (file : List ℕ) (header : ElfHeader) (items headers : List ProgramHeader) → header ≡ elf_header file → items ≡ program_headers_of file header → headers ≡ items → P headers → P (program_headers file)
of_file P file header items headers header-is items-is headers-is h = subst P (headers-is ∙ items-is ∙ ap (program_headers_of file) header-is) h
