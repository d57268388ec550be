use Rattle.std.proofs.Common.{◌≡◌, length, Some, None, ap, sym, ◌∙◌, arith}
use Rattle.std.proofs.lemmas.Result.{err_from_is_err_and}
use Rattle.elf_image.specs.FirstFault.{entry}
use Rattle.elf_image.specs.Checks.{header_fault, segments_fault}
use Rattle.elf_image.specs.Fields.{elf_header, program_headers}
use Rattle.elf_image.specs.Physical.{memory_of, bytes_of, byte_of, image_memory}
use Rattle.elf_image.proofs.Chain.{Refuses-found, first_fault-short, first_fault-header, first_fault-segments, first_fault-entry, of_file}
use Rattle.elf_image.proofs.ByteOf.{IsPlaced-from}
use Rattle.elf_image.proofs.Accepted.{room_for_table, CanBeCopied-from}
use Rattle.elf_image.proofs.NoFault.{first_of-one}
use Rattle.elf_image.proofs.image.load.Goals as goal

pub returns-in_err-header : goal.returns-in_err-header
returns-in_err-header c =
    let p = err_from_is_err_and c.from_residual.result c.from_residual.ensures.1 in
    rw (p.1, p.2) (Refuses-found c.in_err-header.field-0.0 _ (first_fault-short c.args.bytes.now c.args.pages c.in_err-header.field-0.0 c.in_err-header.ensures.fault))

pub returns-in_err-check : goal.returns-in_err-check
returns-in_err-check c =
    let p = err_from_is_err_and c.from_residual-in_err-check.result c.from_residual-in_err-check.ensures.1 in
    let found = ap (λ h. header_fault h (length c.args.bytes.now)) (sym c.in_ok-header.ensures.value) ∙ c.in_err-check.ensures in
    rw (p.1, p.2) (Refuses-found c.in_err-check.field-0.0 _ (first_fault-header c.args.bytes.now c.args.pages c.in_err-check.field-0.0 c.in_ok-header.ensures.fault found))

pub read_headers-requires : goal.read_headers-requires
read_headers-requires c = room_for_table c.in_ok-header.header (length c.args.bytes.now) c.in_ok-check.ensures

pub check-requires-2 : goal.check-requires-2
check-requires-2 c = omega (arith, ap length c.deref.ensures.value, c.in_ok-headers.ensures.count)

pub returns-in_err-check-2 : goal.returns-in_err-check-2
returns-in_err-check-2 c =
    let p = err_from_is_err_and c.from_residual-in_err-check-2.result c.from_residual-in_err-check-2.ensures.1 in
    let head = ap (λ h. header_fault h (length c.args.bytes.now)) (sym c.in_ok-header.ensures.value) ∙ c.in_ok-check.ensures in
    let found = of_file (λ hs. segments_fault hs (length c.args.bytes.now) c.args.pages ≡ Some c.in_err-check-2.field-0.0) c.args.bytes.now c.in_ok-header.header c.in_ok-headers.headers.items c.deref.result.now
    c.in_ok-header.ensures.value c.in_ok-headers.ensures.value c.deref.ensures.value c.in_err-check-2.ensures in
    rw (p.1, p.2) (Refuses-found c.in_err-check-2.field-0.0 _ (first_fault-segments c.args.bytes.now c.args.pages c.in_err-check-2.field-0.0 c.in_ok-header.ensures.fault head found))

pub returns-in_err-check_entry : goal.returns-in_err-check_entry
returns-in_err-check_entry c =
    let p = err_from_is_err_and c.from_residual-in_err-check_entry.result c.from_residual-in_err-check_entry.ensures.1 in
    let head = ap (λ h. header_fault h (length c.args.bytes.now)) (sym c.in_ok-header.ensures.value) ∙ c.in_ok-check.ensures in
    let none = of_file (λ hs. segments_fault hs (length c.args.bytes.now) c.args.pages ≡ None) c.args.bytes.now c.in_ok-header.header c.in_ok-headers.headers.items c.deref.result.now
    c.in_ok-header.ensures.value c.in_ok-headers.ensures.value c.deref.ensures.value c.in_ok-check-2.ensures in
    let last = ap (λ h. entry h c.args.pages) (sym c.in_ok-header.ensures.value) ∙ c.in_err-check_entry.ensures in
    rw (p.1, p.2) (Refuses-found c.in_err-check_entry.field-0.0 _
    (first_fault-entry c.args.bytes.now c.args.pages (record { long = c.in_ok-header.ensures.fault; header = head; segments = none }) ∙ first_of-one (entry (elf_header c.args.bytes.now) c.args.pages) ∙ last))

pub lay_out-requires : goal.lay_out-requires
lay_out-requires c =
    CanBeCopied-from c.deref-2.result.now (length c.args.bytes.now) c.args.pages
    (ap (λ hs. segments_fault hs (length c.args.bytes.now) c.args.pages) (c.deref-2.ensures.value ∙ sym c.deref.ensures.value) ∙ c.in_ok-check-2.ensures)

pub returns : goal.returns
unfolding image_memory
returns c =
    let head = ap (λ h. header_fault h (length c.args.bytes.now)) (sym c.in_ok-header.ensures.value) ∙ c.in_ok-check.ensures in
    let none = of_file (λ hs. segments_fault hs (length c.args.bytes.now) c.args.pages ≡ None) c.args.bytes.now c.in_ok-header.header c.in_ok-headers.headers.items c.deref.result.now
    c.in_ok-header.ensures.value c.in_ok-headers.ensures.value c.deref.ensures.value c.in_ok-check-2.ensures in
    let last = ap (λ h. entry h c.args.pages) (sym c.in_ok-header.ensures.value) ∙ c.in_ok-check_entry.ensures in
    record {
      sound = first_fault-entry c.args.bytes.now c.args.pages (record { long = c.in_ok-header.ensures.fault; header = head; segments = none }) ∙ first_of-one (entry (elf_header c.args.bytes.now) c.args.pages) ∙ last;
      entry = ap (λ h. h.e_entry) c.in_ok-header.ensures.value;
      memory = of_file (λ hs. memory_of c.in_ok-lay_out.field-0 ≡ bytes_of (byte_of hs c.args.bytes.now) c.args.pages) c.args.bytes.now c.in_ok-header.header c.in_ok-headers.headers.items c.deref-2.result.now
          c.in_ok-header.ensures.value c.in_ok-headers.ensures.value c.deref-2.ensures.value c.in_ok-lay_out.ensures.bytes;
      whole = c.in_ok-lay_out.ensures.whole;
      placed = IsPlaced-from (program_headers c.args.bytes.now) c.args.bytes.now (CanBeCopied-from (program_headers c.args.bytes.now) (length c.args.bytes.now) c.args.pages none);
      count = c.in_ok-lay_out.ensures.count;
    }
