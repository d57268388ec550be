-- What is loaded of the image of a text.
use Rattle.std.proofs.Common.{◌≡◌, ◌∙◌, ℕ, ◌+◌, ◌-◌, ◌*◌, ◌%◌, ◌^◌, ◌<◌, ◌≤◌, Bool, true, false, ◌&&◌, ◌||◌, leb, ltb, eqb, eq-eqb, List, [], ◌∷◌, ◌++◌, length, replicate, get_or, Option, Some, None, Result, Ok, Err, ap, sym, subst, refl, arith}
use Rattle.std.specs.Prelude.{All}
use Rattle.std.specs.List.{position}
use Rattle.std.specs.Option.{option_map}
use Rattle.std.proofs.lemmas.Bool.{le-leb, lt-ltb, le-ltb}
use Rattle.std.proofs.lemmas.List.{length-append}
use Rattle.elf_image.specs.declared.fault.ImageFault.{ImageFault}
use Rattle.elf_image.specs.declared.header.ElfHeader.{ElfHeader}
use Rattle.elf_image.specs.declared.segment.ProgramHeader.{ProgramHeader}
use Rattle.elf_image.specs.declared.image.Image.{Image}
use Rattle.elf_image.specs.Loading.{Loads, Refuses}
use Rattle.elf_image.specs.Fields.{elf_header, program_headers_of, program_headers}
use Rattle.elf_image.specs.Segments.{memory_end, is_cut, is_outside}
use Rattle.elf_image.specs.declared.fault.ImageFault.TheVariants as fault
use Rattle.elf_image.specs.FirstFault.{first_of, needs, magic, class, order, version, kind, processor, table, interp, segment, place, overlap, entry as entry_fault, first_fault}
use Rattle.elf_image.specs.Physical.{byte_of, bytes_of, image_memory}
use Rattle.guest_asm.specs.declared.assembled.Placed.{Placed}
use Rattle.guest_asm.specs.Lines.{lines_of}
use Rattle.guest_asm.specs.Addresses.{start, end, address_of, entry_of}
use Rattle.guest_asm.specs.Image.{file_header, program_header, bytes_from, image_of, AreInOrder}
use Rattle.guest_asm.specs.Assembled.{words_below, IsAccepted}
use Rattle.guest_asm.specs.Assembly.{Assembly, assembly_in}
use Rattle.guest_asm.specs.Loading.{Stands, IsLoaded, LoadsWords, AllAreLoaded, AllLoadWords}
use Rattle.guest_asm.proofs.Agree.{accepted-from}
use Rattle.guest_asm.proofs.Headers.{header_with, segment_of, elf_header-is, program_header-is}
use Rattle.guest_asm.proofs.InPlace.{HasPlace, IsEntry, ArePlaced, words-placed, entry-is}
use Rattle.guest_asm.proofs.Memory.{memory-is, long-from, stand-from, zero-padded}
use Rattle.guest_asm.proofs.Ordered.{AreInOrder-from}

-- ---- an image of one segment within the memory has no fault

passed : (found : Option ImageFault) (others : List (Option ImageFault)) → found ≡ None → first_of others ≡ None → first_of (found ∷ others) ≡ None
passed None others is rest = rest
passed (Some fault) others is rest = absurd (cc)

-- the only one doesn't pass
nowhere : (p : ProgramHeader → Bool) (header : ProgramHeader) → p header ≡ false → position p (header ∷ []) ≡ None
nowhere p header fails = rw fails refl

-- the rows of the first fault, by the headers
abbrev fault_by : ElfHeader → List ProgramHeader → ℕ → ℕ → Option ImageFault
fault_by header headers file_length pages = first_of (
    needs (leb 52 file_length) fault.Short
    ∷ magic header
    ∷ class header
    ∷ order header
    ∷ version header
    ∷ kind header
    ∷ processor header
    ∷ table header file_length
    ∷ interp headers
    ∷ segment headers file_length
    ∷ place headers pages
    ∷ overlap headers
    ∷ entry_fault header pages
    ∷ [])

fault_by-is : (file : List ℕ) (pages : ℕ) → first_fault file pages ≡ fault_by (elf_header file) (program_headers file) (length file) pages
unfolding first_fault
fault_by-is file pages = refl

needs-passes : (test : Bool) (fault : ImageFault) → test ≡ true → needs test fault ≡ None
needs-passes test fault is = rw is refl

no_fault_by : (entry count file_length pages : ℕ) → IsEntry entry → count ≤ 65536 → file_length ≡ 84 + count → 16 ≤ pages
    → fault_by (header_with entry) (segment_of count ∷ []) file_length pages ≡ None
no_fault_by entry count file_length pages at small long room =
    let long_enough : leb 52 file_length ≡ true = le-leb 52 file_length (omega arith) in
    let fits : leb 84 file_length ≡ true = le-leb 84 file_length (omega arith) in
    let whole : is_cut file_length (segment_of count) ≡ false = rw (le-ltb count count (omega arith), le-ltb file_length (84 + count) (omega arith)) refl in
    let within : is_outside pages (segment_of count) ≡ false = outside-not (ltb 0 count) (start + count) (memory_end pages) (omega arith) in
    let runs : (eqb (entry % 4) 0 && (leb start entry && ltb entry (memory_end pages))) ≡ true =
    rw (eq-eqb (entry % 4) 0 at.1, le-leb start entry at.0, lt-ltb entry (memory_end pages) (let below : entry < end = at.2 in omega arith)) refl in
    passed _ _ (needs-passes (leb 52 file_length) fault.Short long_enough)
    (passed (table (header_with entry) file_length) _ (needs-passes (leb 84 file_length) fault.Headers fits)
    (passed (segment (segment_of count ∷ []) file_length) _ (ap (option_map (λ n. fault.Segment n)) (nowhere (is_cut file_length) (segment_of count) whole))
    (passed (place (segment_of count ∷ []) pages) _ (ap (option_map (λ n. fault.Place n)) (nowhere (is_outside pages) (segment_of count) within))
    (passed (entry_fault (header_with entry) pages) [] (needs-passes _ fault.Entry runs) refl))))
  where
    outside-not : (some : Bool) (to limit : ℕ) → to ≤ limit → (some && (ltb start start || ltb limit to)) ≡ false
    outside-not true to limit le = le-ltb limit to le
    outside-not false to limit le = refl

no_fault : (entry count pages : ℕ) (file : List ℕ) → IsEntry entry → count ≤ 65536 → length file ≡ 84 + count → 16 ≤ pages
    → elf_header file ≡ header_with entry → program_headers file ≡ segment_of count ∷ [] → first_fault file pages ≡ None
no_fault entry count pages file at small long room header headers =
    fault_by-is file pages
    ∙ ap (λ (h : ElfHeader). fault_by h (program_headers file) (length file) pages) header
    ∙ ap (λ (hs : List ProgramHeader). fault_by (header_with entry) hs (length file) pages) headers
    ∙ no_fault_by entry count (length file) pages at small long room

-- ---- the image of words

abbrev file_of : ℕ → List ℕ → List ℕ
file_of entry bytes = file_header entry ++ (program_header (length bytes) ++ bytes)

headers-is : (entry : ℕ) (bytes : List ℕ) → entry < 2 ^ 32 → length bytes < 2 ^ 32 → program_headers (file_of entry bytes) ≡ segment_of (length bytes) ∷ []
headers-is entry bytes small short =
    ap (program_headers_of (file_of entry bytes)) (elf_header-is entry (program_header (length bytes) ++ bytes) small)
    ∙ ap (λ (h : ProgramHeader). h ∷ []) (program_header-is entry (length bytes) bytes short)

-- the words of an image stand in memory
loaded-words : (entry pages : ℕ) (words : List Placed) → IsEntry entry → AreInOrder start words → All HasPlace words → 16 ≤ pages
    → IsLoaded (record { words = words; entry = entry; image = image_of entry words }) pages
unfolding image_of image_memory
loaded-words entry pages words at ordered places room =
    let bytes : List ℕ = bytes_from start words in
    let file : List ℕ = file_of entry bytes in
    let short : start + length bytes ≤ end = long-from start words ordered places (omega arith) in
    let small : entry < 2 ^ 32 = (let below : entry < end = at.2 in omega arith) in
    let header : elf_header file ≡ header_with entry = elf_header-is entry (program_header (length bytes) ++ bytes) small in
    let headers : program_headers file ≡ segment_of (length bytes) ∷ [] = headers-is entry bytes small (omega arith) in
    let memory : bytes_of (byte_of (program_headers file) file) pages ≡ bytes ++ replicate (4096 * pages - length bytes) 0 =
    ap (λ (hs : List ProgramHeader). bytes_of (byte_of hs file) pages) headers ∙ memory-is entry bytes pages (omega arith) in
    record {
      sound = no_fault entry (length bytes) pages file at (omega arith) (length-append (file_header entry ++ program_header (length bytes)) bytes) room header headers;
      holds = record {
        begins = ap (λ (h : ElfHeader). h.e_entry) header;
        words = subst (λ (m : List ℕ). All (Stands m) words) (sym memory) (stand-from start words (replicate (4096 * pages - length bytes) 0) ordered);
        zeros = λ address low beside. ap (λ (m : List ℕ). get_or m (address - start) 0) memory ∙ zero-padded start address (4096 * pages - length bytes) words ordered low beside;
      };
    }

pub all_are_loaded : AllAreLoaded
all_are_loaded text assembly pages is room =
    let lines : List (List ℕ) = lines_of text in
    let known : IsAccepted lines × (assembly_in lines ≡ assembly) = accepted-from text assembly is in
    let placed : ArePlaced lines (length lines) = words-placed lines known.0 (length lines) (omega arith) in
    subst (λ (a : Assembly). IsLoaded a pages) known.1
    (loaded-words (entry_of lines) pages (words_below lines (length lines)) (entry-is lines known.0)
    (AreInOrder-from start (words_below lines (length lines)) (address_of lines (length lines)) placed.ordered) placed.places room)

-- ---- what `load` answers

-- where nothing is found, only memory may be wanting
refused_memory : (refusal : ImageFault) → Refuses None refusal → refusal ≡ fault.Memory
refused_memory fault.Memory refuses = refl
refused_memory refusal refuses = absurd (cc)

answered : (assembly : Assembly) (pages : ℕ) (answer : Result Image ImageFault) → IsLoaded assembly pages → Loads assembly.image pages answer → LoadsWords assembly answer
answered assembly pages (Ok image) is loads = record {
  begins = loads.entry ∙ is.holds.begins;
  words = subst (λ (m : List ℕ). All (Stands m) assembly.words) (sym loads.memory) is.holds.words;
  zeros = λ address low beside. ap (λ (m : List ℕ). get_or m (address - start) 0) loads.memory ∙ is.holds.zeros address low beside;
}
answered assembly pages (Err refusal) is loads = refused_memory refusal (subst (λ (found : Option ImageFault). Refuses found refusal) is.sound loads)

pub all_load_words : AllLoadWords
all_load_words text assembly pages answer is room loads = answered assembly pages answer (all_are_loaded text assembly pages is room) loads
