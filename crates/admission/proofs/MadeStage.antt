-- A stage over files at hand that reads nothing else, whatever other files there are.
use Rattle.std.proofs.Common.{◌≡◌, ◌∙◌, ℕ, false, arith, List, [], ◌++◌, Result, Ok, Err, refl, ap, sym, subst}
use Rattle.std.proofs.lemmas.List.{append-nil}
use Rattle.outside_io.specs.declared.memory.HeldFile.{HeldFile}
use Rattle.outside_io.specs.Reading.{ShelfView}
use Rattle.admission.specs.declared.faults.Fault.{Fault}
use Rattle.admission.specs.declared.faults.Refusal.{Refusal}
use Rattle.admission.specs.declared.faults.Refusal.TheVariants.{Fault as Faulty, Memory as NoMemory}
use Rattle.machine_desc.specs.Described.{Described, description_of}
use Rattle.guest_gen.specs.Description.{description_text}
use Rattle.guest_gen.specs.Made.{files_of as made_files}
use Rattle.admission.specs.Chain.{Files, of_description}
use Rattle.admission.specs.Generated.{generated}
use Rattle.admission.specs.Jobs.{Job, guests_of, load_job, made_run}
use Rattle.admission.specs.Stages.{Agrees, Found, Gives, Stage, known}
use Rattle.admission.proofs.MadeLaw.{described_made, guests_made, load_made}
use Rattle.admission.proofs.StageLemmas.{Agrees-front, known-append}
use Rattle.admission.proofs.StageChains.{none_explained}
use Rattle.admission.proofs.WholeCall.{files_of, files_agree}

-- such a stage is calm, and answers what the chain gives with the files at hand
pub Stage-at_hand : {A : Type 0} (old new : ShelfView) (files hand after : List HeldFile) (chain : Files → Result A Fault) (x : A) (answer : Result A Refusal)
    → ((f : Files) → Agrees (known hand) f → chain f ≡ Ok x) → Stage old new hand after chain answer → Stage old new files files (λ all. Ok x) answer
Stage-at_hand {A} old new files hand after chain x (Ok y) is stage =
    let fs : List Found = known hand ++ known stage.more in
    let all = files_of old fs in
    let agree : Agrees (known after) all = subst (λ (gs : List Found). Agrees gs all) (sym (ap known stage.kept ∙ known-append hand stage.more)) (files_agree old fs) in
    let same : Ok x ≡ Ok y = sym (is all (Agrees-front (known hand) (known stage.more) all (files_agree old fs))) ∙ stage.gives all agree in
    record {
      more = [];
      kept = sym (append-nil files);
      given = none_explained old new;
      calm = stage.calm;
      told = stage.told;
      gives = λ others agree. same;
    }
Stage-at_hand {A} old new files hand after chain x (Err (Faulty fault)) is stage =
    let fs : List Found = known hand ++ stage.more in
    let all = files_of old fs in
    let same : (let r : Result A Fault = Ok x in r) ≡ Err fault = sym (is all (Agrees-front (known hand) stage.more all (files_agree old fs))) ∙ stage.gives all (files_agree old fs) in
    absurd (cc)
Stage-at_hand {A} old new files hand after chain x (Err NoMemory) is stage = stage

-- ---- what is made

module _ (text : List ℕ) (is_text : text ≡ description_text 4 50000) where
  -- its description is read as it is meant
  read_made : of_description (description_of text) ≡ Ok (generated 4 50000)
  read_made = ap (λ (bytes : List ℕ). of_description (description_of bytes)) is_text ∙ ap of_description described_made

  same_made : (d : Described) → of_description (description_of text) ≡ Ok d → d ≡ generated 4 50000
  same_made d is = let both : (let r : Result Described Fault = Ok d in r) ≡ Ok (generated 4 50000) = sym is ∙ read_made in cc

  pub load_stage : (old new : ShelfView) (files hand after : List HeldFile) (seed : ℕ) (d : Described) (answer : Result Job Refusal) → hand ≡ made_files seed 4 → of_description (description_of text) ≡ Ok d
      → Stage old new hand after (λ all. guests_of false all d) answer → Stage old new files files (λ all. load_job seed) answer
  load_stage old new files hand after seed d answer is_hand is stage =
      let runs : (f : Files) → Agrees (known hand) f → guests_of false f d ≡ Ok (made_run seed) = λ f agrees.
      ap (guests_of false f) (same_made d is) ∙ guests_made seed f (subst (λ (hs : List HeldFile). Agrees (known hs) f) is_hand agrees) in
      subst (λ (r : Result Job Fault). Stage old new files files (λ all. r) answer) (sym (load_made seed))
      (Stage-at_hand old new files hand after (λ all. guests_of false all d) (made_run seed) answer runs stage)

  -- so only memory can be wanting for it
  pub load_refused : (old : ShelfView) (files : List HeldFile) (seed : ℕ) (refusal : Refusal) → Gives {A = Described} (Err refusal) (of_description (description_of text))
      → Stage {A = Job} old old files files (λ all. load_job seed) (Err refusal)
  load_refused old files seed (Faulty fault) gives =
      let both : (let r : Result Described Fault = Err fault in r) ≡ Ok (generated 4 50000) = sym gives ∙ read_made in absurd (cc)
  load_refused old files seed NoMemory gives = record { told = refl; counts = omega arith }
