-- What is read is what the bytes describe.
use Rattle.std.proofs.Common.{◌≡◌, List, ℕ, length, Bool, true, false, if◌then◌else◌, Result, Ok, Err, refl, ap, sym, ◌∙◌}
use Rattle.std.specs.Prelude.{IfOk}
use Rattle.std.specs.Str.{is_utf8}
use Rattle.std.proofs.lemmas.Bool.{true≢false}
use Rattle.std.proofs.lemmas.Str.{IsUtf8-from_is_utf8, is_utf8-from_IsUtf8}
use Rattle.toml.specs.Parse.{parse_document}
use Rattle.machine_desc.specs.declared.fault.DescFault.{DescFault}
use Rattle.machine_desc.specs.declared.fault.DescFault.TheVariants.{Toml}
use Rattle.machine_desc.specs.declared.machine.Machine.{Machine}
use Rattle.machine_desc.specs.declared.plan.Plan.{Plan}
use Rattle.machine_desc.specs.declared.sheet.Named.{Named}
use Rattle.machine_desc.specs.declared.sheet.Sheet.{Sheet}
use Rattle.machine_desc.specs.Reads.{Read, ◌>>=◌, Gives}
use Rattle.machine_desc.specs.Reading.{Describes, HasFault, Reads, read_of}
use Rattle.machine_desc.specs.Described.{Described, described_of, described_seen, description_of}
use Rattle.machine_desc.specs.Accepted.{IsDescribed}
use Rattle.machine_desc.proofs.AcceptedHolds.{description_of-accepted}
use Rattle.machine_desc.proofs.InputSizes.{inputs_of-is}

same-described : (bytes : List ℕ) (machine : Machine) (plan : Plan) (d : Describes bytes machine plan) → described_of d.sheet d.named ≡ described_seen machine plan
same-described bytes machine plan d = sym (λ i. record {
  nodes = d.is_machine.nodes i;
  frames = d.is_machine.frames i;
  cells = d.is_machine.cells i;
  processors = d.is_machine.processors i;
  lends = d.is_machine.lends i;
  cache = d.is_machine.cache i;
  guests = d.is_machine.guests i;
  policy = d.is_machine.policy i;
  items = d.is_plan.items i;
  input = (inputs_of-is (length d.sheet.guests) d.sheet.input plan.input d.is_plan.input) i;
})

-- what the bytes describe, by whether they are text
abbrev by_text : List ℕ → Bool → Read Described
by_text bytes text = (let r : Read (Sheet × Named) = if text then read_of (parse_document bytes) else Err Toml in r) >>= λ both. Ok (described_of both.0 both.1)

description-by : (bytes : List ℕ) → description_of bytes ≡ by_text bytes (is_utf8 bytes)
unfolding description_of
description-by bytes = refl

described-value : (bytes : List ℕ) (machine : Machine) (plan : Plan) → Describes bytes machine plan → description_of bytes ≡ Ok (described_seen machine plan)
described-value bytes machine plan d =
    description-by bytes ∙ (ap (by_text bytes) (is_utf8-from_IsUtf8 bytes d.utf8)
    ∙ (ap (λ (r : Read (Sheet × Named)). r >>= λ both. Ok (described_of both.0 both.1)) d.no_fault ∙ ap (λ (x : Described). let r : Read Described = Ok x in r) (same-described bytes machine plan d)))

described-fault : (bytes : List ℕ) (fault : DescFault) → HasFault bytes fault → description_of bytes ≡ Err fault
described-fault bytes fault has = description-by bytes ∙ by (is_utf8 bytes) refl
  where
    by : (b : Bool) → is_utf8 bytes ≡ b → by_text bytes b ≡ Err fault
    by true is = ap (λ (r : Read (Sheet × Named)). r >>= λ both. Ok (described_of both.0 both.1)) (has.text (IsUtf8-from_is_utf8 bytes is))
    by false is = ap (λ (f : DescFault). let r : Read Described = Err f in r) (sym (has.other (λ utf8. true≢false (sym (is_utf8-from_IsUtf8 bytes utf8) ∙ is))))

pub gives_described : (bytes : List ℕ) (answer : Result (Machine × Plan) DescFault) → Reads bytes answer → Gives (λ both. described_seen both.0 both.1) answer (description_of bytes)
gives_described bytes (Ok both) reads = described-value bytes both.0 both.1 reads
gives_described bytes (Err fault) reads = λ other. described-fault bytes fault (reads other)

pub accepts_described : (bytes : List ℕ) (answer : Result (Machine × Plan) DescFault) → Reads bytes answer → IfOk answer (λ both. IsDescribed both.0 both.1)
accepts_described bytes (Ok both) reads = description_of-accepted bytes (described_seen both.0 both.1) (described-value bytes both.0 both.1 reads)
accepts_described bytes (Err fault) reads = tt

pub ruleset reading_gives = (gives_described, accepts_described)
