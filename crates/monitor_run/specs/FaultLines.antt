-- The line of a refusal, and its exit status.
use Rattle.std.specs.Prelude.{ℕ, List, ◌++◌, codes, decimal}
use Rattle.std.specs.Fmt.{signed_decimal}
use Rattle.elf_image.specs.declared.fault.ImageFault.{ImageFault}
use Rattle.elf_image.specs.declared.fault.ImageFault.TheVariants as image
use Rattle.guest_asm.specs.declared.fault.AsmCause.{AsmCause}
use Rattle.guest_asm.specs.declared.fault.AsmCause.TheVariants as cause
use Rattle.machine_desc.specs.declared.fault.Amount.{Amount}
use Rattle.machine_desc.specs.declared.fault.Amount.TheVariants.{Number, Length}
use Rattle.machine_desc.specs.declared.fault.DescFault.{DescFault}
use Rattle.machine_desc.specs.declared.fault.DescFault.TheVariants as description
use Rattle.admission.specs.declared.faults.Fault.{Fault}
use Rattle.admission.specs.declared.faults.Fault.TheVariants.{Words, Read, Long, Asm, Description, BadImage, CacheAdmission, Admission}
use Rattle.run_report.specs.Report.{line_end}

-- an integer, or the length of a text, a list or an array
abbrev pub amount_text : Amount → List ℕ
amount_text (Number number) = signed_decimal number
amount_text (Length length) = decimal length

abbrev pub description_text : DescFault → List ℕ
description_text description.Toml = codes "toml"
description_text (description.Missing name) = codes "missing " ++ name
description_text (description.Unknown name) = codes "unknown " ++ name
description_text (description.Kind name) = codes "kind " ++ name
description_text (description.Range name amount) = codes "range " ++ (name ++ (codes " " ++ amount_text amount))
description_text (description.Names name number) = codes "names " ++ (name ++ (codes " " ++ decimal number))
description_text (description.Twice name number) = codes "twice " ++ (name ++ (codes " " ++ decimal number))
description_text (description.Steps total) = codes "steps " ++ decimal total
description_text description.Memory = codes "memory"

abbrev pub image_text : ImageFault → List ℕ
image_text image.Short = codes "short"
image_text image.Magic = codes "magic"
image_text image.Class = codes "class"
image_text image.Order = codes "order"
image_text image.Version = codes "version"
image_text image.Kind = codes "kind"
image_text image.Processor = codes "processor"
image_text image.Headers = codes "headers"
image_text image.Interp = codes "interp"
image_text (image.Segment n) = codes "segment " ++ decimal n
image_text (image.Place n) = codes "place " ++ decimal n
image_text (image.Overlap n m) = codes "overlap " ++ (decimal n ++ (codes " " ++ decimal m))
image_text image.Entry = codes "entry"
image_text image.Memory = codes "memory"

-- why a line of a text is refused
abbrev pub cause_text : AsmCause → List ℕ
cause_text cause.Syntax = codes "syntax"
cause_text cause.Mnemonic = codes "mnemonic"
cause_text cause.Operands = codes "operands"
cause_text cause.Twice = codes "twice"
cause_text cause.Label = codes "label"
cause_text cause.Range = codes "range"
cause_text cause.Place = codes "place"

abbrev pub fault_line : Fault → List ℕ
fault_line Words = codes "fault words" ++ line_end
fault_line (Read name) = codes "fault read " ++ (name ++ line_end)
fault_line (Long name) = codes "fault long " ++ (name ++ line_end)
fault_line (Asm line cause) = codes "fault asm " ++ (decimal line ++ (codes " " ++ (cause_text cause ++ line_end)))
fault_line (Description fault) = codes "fault description " ++ (description_text fault ++ line_end)
fault_line (BadImage guest fault) = codes "fault image " ++ (decimal guest.0 ++ (codes " " ++ (image_text fault ++ line_end)))
fault_line (CacheAdmission cell needs has) =
    codes "fault admission cell " ++ (decimal cell.0 ++ (codes " needs " ++ (decimal needs ++ (codes " has " ++ (decimal has ++ line_end)))))
fault_line (Admission guest needs has) =
    codes "fault admission guest " ++ (decimal guest.0 ++ (codes " needs " ++ (decimal needs ++ (codes " has " ++ (decimal has ++ line_end)))))

-- the exit status of a refusal
abbrev pub status_of : Fault → ℕ
status_of Words = 2
status_of (Read name) = 3
status_of (Description fault) = 5
status_of (BadImage guest fault) = 6
status_of (CacheAdmission cell needs has) = 7
status_of (Admission guest needs has) = 7
status_of (Long name) = 8
status_of (Asm line cause) = 9
