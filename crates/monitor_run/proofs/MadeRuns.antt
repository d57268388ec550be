-- What is made from a number is run, or printed.
use Rattle.std.proofs.Common.{◌≡◌, ℕ, List, Option, Some, None, Result, Ok, refl, subst}
use Rattle.outside_io.specs.Reading.{ShelfView}
use Rattle.outside_io.specs.Writing.{SinkView}
use Rattle.guest_core.specs.declared.records.RunRecord.{RunRecord}
use Rattle.guest_gen.specs.Made.{made_of}
use Rattle.admission.specs.declared.faults.Fault.{Fault}
use Rattle.admission.specs.Chain.{◌>>=◌, known_form}
use Rattle.admission.specs.Jobs.{Job, Print, job_by, load_job, made_run}
use Rattle.admission.specs.Words.{Form, Raw, Machine, Private, Make, Load, Litmus, Asm, AsmSteps, form_of}
use Rattle.monitor_run.specs.Ends.{Completes, Ends, Runs}
use Rattle.monitor_run.specs.Exactly.{IsMade, OrFails}
use Rattle.monitor_run.specs.Headline.{Answers}
use Rattle.monitor_run.specs.MadeRuns.{RunsMade, PrintsMade}
use Rattle.monitor_run.proofs.EndLemmas.{Runs-completed}
use Rattle.monitor_run.proofs.Statuses.{runs_status}

-- what is made is accepted, for every number
abbrev pub IsAlwaysAccepted : Type 0
IsAlwaysAccepted = (seed : ℕ) → load_job seed ≡ Ok (made_run seed)

module _ (w : List (List ℕ)) (a b : ShelfView) (c d : SinkView) (out : RunRecord) (status : ℕ) (answers : Answers w a b c d out status) where
  ends_by : (form : Form) → form_of w ≡ Some form → Ends (job_by answers.files form) c d out status
  ends_by form is = subst (λ (f : Option Form). Ends (known_form f >>= job_by answers.files) c d out status) is answers.ends

  load_ends : IsAlwaysAccepted → (seed : ℕ) → form_of w ≡ Some (Load seed) → Runs (made_run seed) c d out status
  load_ends accepted seed form = subst (λ (r : Result Job Fault). Ends r c d out status) (accepted seed) (ends_by (Load seed) form)

  make_ends : (seed : ℕ) → form_of w ≡ Some (Make seed) → Runs (Print (made_of seed 4 50000)) c d out status
  make_ends seed form = ends_by (Make seed) form

  made_by : IsAlwaysAccepted → (f : Option Form) → form_of w ≡ f → IsMade f → OrFails 0 c d status
  made_by accepted (Some (Make seed)) form made = runs_status (Print (made_of seed 4 50000)) c d out status (make_ends seed form)
  made_by accepted (Some (Load seed)) form made = runs_status (made_run seed) c d out status (load_ends accepted seed form)
  made_by accepted (Some (Raw file steps)) form made = absurd made
  made_by accepted (Some (Machine file)) form made = absurd made
  made_by accepted (Some (Private file)) form made = absurd made
  made_by accepted (Some (Litmus file)) form made = absurd made
  made_by accepted (Some (Asm file)) form made = absurd made
  made_by accepted (Some (AsmSteps file steps)) form made = absurd made
  made_by accepted None form made = absurd made

  -- no number is refused
  pub made_status : IsAlwaysAccepted → IsMade (form_of w) → OrFails 0 c d status
  made_status accepted made = made_by accepted (form_of w) refl made

  pub RunsMade-from : IsAlwaysAccepted → (seed : ℕ) → form_of w ≡ Some (Load seed) → status ≡ 0 → RunsMade seed c d out
  RunsMade-from accepted seed form zero =
      let completes : Completes (made_run seed) c d out status = Runs-completed (made_run seed) c d out status zero (load_ends accepted seed form) in
      record { run = completes.done; sink = completes.sink }

  pub PrintsMade-from : (seed : ℕ) → form_of w ≡ Some (Make seed) → status ≡ 0 → PrintsMade seed c d out
  PrintsMade-from seed form zero =
      let completes : Completes (Print (made_of seed 4 50000)) c d out status = Runs-completed (Print (made_of seed 4 50000)) c d out status zero (make_ends seed form) in
      record { empty = completes.done; sink = completes.sink }
