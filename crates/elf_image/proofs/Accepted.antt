-- What an accepted file's headers allow.
use Rattle.std.proofs.Common.{◌≡◌, ℕ, ◌+◌, ◌*◌, ◌<◌, ◌≤◌, Bool, true, false, leb, ltb, eqb, ◌&&◌, ◌||◌, inl, inr, List, [], length, None, refl, arith}
use Rattle.std.proofs.lemmas.Bool.{both_ways, false_from_ne_true, and_from, and_parts, and_cases, or_parts, or_cases, eqb-true, leb-true, ltb-true, ltb-false, lt-ltb}
use Rattle.elf_image.specs.declared.fault.ImageFault.{ImageFault}
use Rattle.elf_image.specs.declared.fault.ImageFault.TheVariants as fault
use Rattle.elf_image.specs.declared.header.ElfHeader.{ElfHeader}
use Rattle.elf_image.specs.declared.segment.LoadSegment.{LoadSegment}
use Rattle.elf_image.specs.declared.segment.ProgramHeader.{ProgramHeader}
use Rattle.elf_image.specs.declared.segment.ProgramHeader.TheVariants.{Load, Interpreter, Other}
use Rattle.elf_image.specs.Segments.{memory_start, memory_end, is_cut, is_outside, shares_byte}
use Rattle.elf_image.specs.FirstFault.{needs, magic, class, order, version, kind, processor, table_fits, table, interp, segment, place, overlap}
use Rattle.elf_image.specs.Checks.{header_fault, segments_fault}
use Rattle.elf_image.specs.Fields.{header_at}
use Rattle.elf_image.specs.Physical.{physical_start, lies_at}
use Rattle.elf_image.specs.Filling.{CanBeCopied}
use Rattle.elf_image.proofs.NoFault.{first_of_none, option_map_none, position_none}
use Rattle.elf_image.proofs.Overlaps.{overlap_from_none}

needs_none : (b : Bool) (found : ImageFault) → needs b found ≡ None → b ≡ true
needs_none true found e = refl
needs_none false found e = absurd cc

-- the program headers lie within the file
pub room_for_table : (header : ElfHeader) (file_length : ℕ) → header_fault header file_length ≡ None → 0 < header.e_phnum → header.e_phoff + 32 * header.e_phnum ≤ file_length
unfolding header_fault
room_for_table header file_length e some =
    let a = first_of_none (magic header) _ e in
    let b = first_of_none (class header) _ a.1 in
    let c = first_of_none (order header) _ b.1 in
    let d = first_of_none (version header) _ c.1 in
    let f = first_of_none (kind header) _ d.1 in
    let g = first_of_none (processor header) _ f.1 in
    let h = first_of_none (table header file_length) [] g.1 in
    elim (or_cases (eqb header.e_phnum 0) (eqb header.e_phentsize 32 && leb (header.e_phoff + 32 * header.e_phnum) file_length) (needs_none (table_fits header file_length) fault.Headers h.0)) [
      | inl none ↦ absurd (omega (arith, eqb-true header.e_phnum 0 none))
      | inr fits ↦ leb-true _ _ (and_parts (eqb header.e_phentsize 32) (leb (header.e_phoff + 32 * header.e_phnum) file_length) fits).1
    ]

-- where a byte of the file lies, its segment has a byte of memory
record HasByte (s : LoadSegment) (address : ℕ) : Type 0 where
  some : 0 < s.p_memsz
  from : s.p_vaddr ≤ memory_start + address
  to : memory_start + address < s.p_vaddr + s.p_memsz

HasByte-from : (s : LoadSegment) (file_length pages address : ℕ) → is_cut file_length (Load s) ≡ false → is_outside pages (Load s) ≡ false → lies_at (Load s) address ≡ true → HasByte s address
HasByte-from s file_length pages address whole inside at =
    let ends = and_parts (leb (physical_start s) address) (ltb address (physical_start s + s.p_filesz)) at in
    let low : physical_start s ≤ address = leb-true _ _ ends.0 in
    let high : address < physical_start s + s.p_filesz = ltb-true _ _ ends.1 in
    let cut = or_parts (ltb s.p_memsz s.p_filesz) (ltb file_length (s.p_offset + s.p_filesz)) whole in
    let less : s.p_filesz ≤ s.p_memsz = ltb-false _ _ cut.0 in
    elim (and_cases (ltb 0 s.p_memsz) (ltb s.p_vaddr memory_start || ltb (memory_end pages) (s.p_vaddr + s.p_memsz)) inside) [
      | inl none ↦ absurd (omega (arith, ltb-false 0 s.p_memsz none))
      | inr within ↦
          let start : memory_start ≤ s.p_vaddr = ltb-false _ _ (or_parts (ltb s.p_vaddr memory_start) (ltb (memory_end pages) (s.p_vaddr + s.p_memsz)) within).0 in
          record { some = omega arith; from = omega arith; to = omega arith }
    ]

-- two segments that share no byte of memory have no byte of the file at one address
apart_at : (g h : ProgramHeader) (file_length pages address : ℕ) → is_cut file_length g ≡ false → is_cut file_length h ≡ false → is_outside pages g ≡ false → is_outside pages h ≡ false
    → shares_byte g h ≡ false → lies_at g address ≡ true → lies_at h address ≡ false
apart_at (Load s) (Load t) file_length pages address gw hw gi hi none at =
    false_from_ne_true (lies_at (Load t) address) (λ also.
    let p = HasByte-from s file_length pages address gw gi at in
    let q = HasByte-from t file_length pages address hw hi also in
    both_ways (shares_byte (Load s) (Load t)) none
    (and_from (ltb 0 s.p_memsz && ltb 0 t.p_memsz) (ltb s.p_vaddr (t.p_vaddr + t.p_memsz) && ltb t.p_vaddr (s.p_vaddr + s.p_memsz))
    (and_from (ltb 0 s.p_memsz) (ltb 0 t.p_memsz) (lt-ltb _ _ p.some) (lt-ltb _ _ q.some))
    (and_from (ltb s.p_vaddr (t.p_vaddr + t.p_memsz)) (ltb t.p_vaddr (s.p_vaddr + s.p_memsz)) (lt-ltb _ _ (omega arith)) (lt-ltb _ _ (omega arith)))))
apart_at (Load s) Interpreter file_length pages address gw hw gi hi none at = refl
apart_at (Load s) Other file_length pages address gw hw gi hi none at = refl
apart_at Interpreter h file_length pages address gw hw gi hi none at = absurd cc
apart_at Other h file_length pages address gw hw gi hi none at = absurd cc

pub CanBeCopied-from : (headers : List ProgramHeader) (file_length pages : ℕ) → segments_fault headers file_length pages ≡ None → CanBeCopied headers file_length
unfolding segments_fault
CanBeCopied-from headers file_length pages e =
    let a = first_of_none (interp headers) _ e in
    let b = first_of_none (segment headers file_length) _ a.1 in
    let c = first_of_none (place headers pages) _ b.1 in
    let d = first_of_none (overlap headers) [] c.1 in
    let whole : (n : ℕ) → n < length headers → is_cut file_length (header_at headers n) ≡ false = position_none (is_cut file_length) headers Other (option_map_none (λ n. fault.Segment n) _ b.0) in
    let inside : (n : ℕ) → n < length headers → is_outside pages (header_at headers n) ≡ false = position_none (is_outside pages) headers Other (option_map_none (λ n. fault.Place n) _ c.0) in
    record {
      whole = whole;
      apart = λ n m address lt within. apart_at (header_at headers n) (header_at headers m) file_length pages address (whole n (omega arith)) (whole m within) (inside n (omega arith)) (inside m within)
          (overlap_from_none 0 headers Other d.0 n m lt within);
    }
