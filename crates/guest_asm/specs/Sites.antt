-- What the code keeps of the labels, and what the steps of reading a line answer.
use Rattle.std.specs.Prelude.{◌≡◌, ℕ, List, Option, Some, None, Result, Ok, Err, option_map, unwrap_or, codes, if◌then◌else◌}
use Rattle.std.specs.BTreeMap.{get_by}
use Rattle.std.specs.Ordering.{nat_cmp}
use Rattle.std.specs.Cmp.Lexicographic.{slice_cmp}
use Rattle.guest_asm.specs.declared.fault.AsmCause.{AsmCause}
use Rattle.guest_asm.specs.declared.fault.LineFault.{LineFault}
use Rattle.guest_asm.specs.declared.fault.LineFault.TheVariants as refused
use Rattle.guest_asm.specs.declared.labels.Labels.{Labels}
use Rattle.guest_asm.specs.declared.labels.Site.{Site}
use Rattle.guest_asm.specs.Addresses.{start, same_name, address_of, label_line}

-- where a label stands that is kept
abbrev pub site_in : Labels → List ℕ → Option Site
site_in labels name = get_by (λ key. slice_cmp nat_cmp name key.now) labels.sites

abbrev pub address_in : Labels → List ℕ → Option ℕ
address_in labels name = option_map (λ site. site.address) (site_in labels name)

-- where the run begins
abbrev pub entry_in : Labels → ℕ
entry_in labels = unwrap_or (address_in labels (codes "start")) start

-- a site, where a line has this label
abbrev pub site_under : List ℕ → Option (List ℕ) → Site → Option Site
site_under name label site = if same_name name label then Some site else None

-- the first line that has a label, with its address
abbrev pub site_of : List (List ℕ) → List ℕ → Option Site
site_of lines name = option_map (λ i. record { line = i; address = address_of lines i }) (label_line lines name)

-- each label of the lines is kept, and no other
abbrev pub IsKept : List (List ℕ) → Labels → Type 0
IsKept lines labels = (name : List ℕ) → site_in labels name ≡ site_of lines name

-- a step answers what was to be found, or that memory is wanting
abbrev pub Answers : {X : Type 0} → Result X AsmCause → Result X LineFault → Type 0
Answers found (Ok x) = found ≡ Ok x
Answers found (Err (refused.Cause cause)) = found ≡ Err cause
Answers found (Err refused.Memory) = Unit {0}
