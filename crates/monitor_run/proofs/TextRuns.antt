-- A text's run at status 0 is that of its image.
use Rattle.std.proofs.Common.{◌≡◌, ◌≢◌, ℕ, List, [], ◌∷◌, length, nat_le, Bool, true, false, if◌then◌else◌, Option, Some, None, Result, Ok, Err, refl, sym, ◌∙◌, subst, arith, inl, inr}
use Rattle.outside_io.specs.Reading.{ShelfView}
use Rattle.outside_io.specs.Writing.{SinkView}
use Rattle.guest_core.specs.declared.records.RunRecord.{RunRecord}
use Rattle.guest_asm.specs.Assembly.{Assembly, RefusedLine, assembly_of}
use Rattle.guest_asm.specs.Loading.{IsLoaded, AllAreLoaded}
use Rattle.admission.specs.declared.faults.Fault.{Fault}
use Rattle.admission.specs.declared.faults.Fault.TheVariants.{Words, Read, Long, Asm, Description, BadImage, CacheAdmission, Admission}
use Rattle.admission.specs.Chain.{◌>>=◌, known_form, fitting, of_text, longest_text}
use Rattle.admission.specs.Jobs.{Job, asm_image, asm_from, asm_run, asm_run_checked, single_described, job_by}
use Rattle.admission.specs.Words.{Form, AsmSteps, form_of}
use Rattle.monitor_run.specs.Ends.{Ends, IsDone, Runs}
use Rattle.monitor_run.specs.FaultLines.{status_of}
use Rattle.monitor_run.specs.Headline.{Answers}
use Rattle.monitor_run.specs.Monitored.{IsRun}
use Rattle.monitor_run.specs.TextRuns.{RunsText}
use Rattle.monitor_run.proofs.EndLemmas.{Runs-completed}

-- no refusal has status 0
refusal-some : (fault : Fault) → status_of fault ≢ 0
refusal-some Words is = omega (arith, is)
refusal-some (Read name) is = omega (arith, is)
refusal-some (Long name) is = omega (arith, is)
refusal-some (Asm line cause) is = omega (arith, is)
refusal-some (Description fault) is = omega (arith, is)
refusal-some (BadImage guest fault) is = omega (arith, is)
refusal-some (CacheAdmission cell needs has) is = omega (arith, is)
refusal-some (Admission guest needs has) is = omega (arith, is)

module _ (c d : SinkView) (out : RunRecord) (status : ℕ) (zero : status ≡ 0) where
  refused-never : (fault : Fault) → Ends (Err fault) c d out status → ⊥
  refused-never fault (empty, inl refuses) = refusal-some fault (sym refuses.answer ∙ zero)
  refused-never fault (empty, inr wants) = (let one : status ≡ 1 = wants.answer in omega (arith, one, zero))

  done : (job : Job) → Runs job c d out status → IsDone job out
  done job runs = (Runs-completed job c d out status zero runs).done

  -- what a text is assembled to
  abbrev RunsAs : List ℕ → ℕ → Type 0
  RunsAs text steps = (assembly : Assembly) × (assembly_of text ≡ Ok assembly) × IsRun (single_described false steps) (record { image = asm_image assembly; disk = [] } ∷ []) out

  by_assembly : (text : List ℕ) (steps : ℕ) (found : Result Assembly RefusedLine) → assembly_of text ≡ found
      → Ends (of_text found >>= λ assembly. (let r : Result Job Fault = Ok (asm_from steps assembly) in r)) c d out status → RunsAs text steps
  by_assembly text steps (Ok assembly) is ends = (assembly, is, done (asm_from steps assembly) ends)
  by_assembly text steps (Err refused) is ends = absurd (refused-never (Asm refused.line refused.cause) ends)

  by_length : (name text : List ℕ) (steps : ℕ) (fits : Bool)
      → Ends ((let r : Result (List ℕ) Fault = if fits then Ok text else Err (Long name) in r) >>= asm_run_checked steps) c d out status → RunsAs text steps
  by_length name text steps true ends = by_assembly text steps (assembly_of text) refl ends
  by_length name text steps false ends = absurd (refused-never (Long name) ends)

  by_file : (name : List ℕ) (steps : ℕ) (held : Option (List ℕ)) → Ends (fitting name longest_text held >>= asm_run_checked steps) c d out status → (text : List ℕ) × (held ≡ Some text) × RunsAs text steps
  by_file name steps None ends = absurd (refused-never (Read name) ends)
  by_file name steps (Some text) ends = (text, refl, by_length name text steps (nat_le (length text) longest_text) ends)

-- the run of a text, at status 0
pub RunsText-from : AllAreLoaded → (w : List (List ℕ)) (a b : ShelfView) (c d : SinkView) (out : RunRecord) (status : ℕ) (name : List ℕ) (steps : ℕ)
    → Answers w a b c d out status → form_of w ≡ Some (AsmSteps name steps) → status ≡ 0 → RunsText name steps a b out
RunsText-from loaded w a b c d out status name steps answers form zero =
    let ends : Ends (asm_run answers.files name steps) c d out status =
    subst (λ (f : Option Form). Ends (known_form f >>= job_by answers.files) c d out status) form answers.ends in
    let found = by_file c d out status zero name steps (answers.files name) ends in
    let is : IsLoaded found.2.0 16 = loaded found.0 found.2.0 16 found.2.1 (omega arith) in
    record {
      files = answers.files;
      given = answers.given;
      text = found.0;
      held = found.1;
      assembly = found.2.0;
      assembled = found.2.1;
      words = record { begins = refl; words = is.holds.words; zeros = is.holds.zeros };
      run = found.2.2;
    }
