-- The line of a refused litmus file.
use Rattle.std.specs.Prelude.{ℕ, List, ◌++◌, codes, decimal}
use Rattle.std.specs.Fmt.{signed_decimal}
use Rattle.litmus_file.specs.declared.fault.Amount.{Amount}
use Rattle.litmus_file.specs.declared.fault.Amount.TheVariants.{Number, Length}
use Rattle.litmus_file.specs.declared.fault.LitmusFault.{LitmusFault}
use Rattle.litmus_file.specs.declared.fault.LitmusFault.TheVariants.{Toml, Missing, Unknown, Kind, Range, Memory}
use Rattle.litmus_run.specs.Texts.{line_end}

-- an integer, or the length of a list or an array
abbrev pub amount_text : Amount → List ℕ
amount_text (Number number) = signed_decimal number
amount_text (Length length) = decimal length

-- why the file is refused
abbrev pub fault_text : LitmusFault → List ℕ
fault_text Toml = codes "toml"
fault_text (Missing name) = codes "missing " ++ name
fault_text (Unknown name) = codes "unknown " ++ name
fault_text (Kind name) = codes "kind " ++ name
fault_text (Range name amount) = codes "range " ++ (name ++ (codes " " ++ amount_text amount))
fault_text Memory = codes "memory"

-- the whole line
abbrev pub fault_line : LitmusFault → List ℕ
fault_line fault = codes "fault litmus " ++ (fault_text fault ++ line_end)
