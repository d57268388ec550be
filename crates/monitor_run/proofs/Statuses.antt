-- When each status comes.
use Rattle.std.proofs.Common.{◌≡◌, ◌≢◌, ◌⊎◌, ◌<◌, ℕ, List, Option, Some, None, Result, Ok, Err, refl, ap, sym, ◌∙◌, subst, arith, inl, inr}
use Rattle.base_words.specs.Counts.{Rose}
use Rattle.outside_io.specs.Reading.{Told, Absent, Holds, ShelfView, MayBe}
use Rattle.outside_io.specs.Writing.{SinkView}
use Rattle.guest_core.specs.declared.records.RunRecord.{RunRecord}
use Rattle.guest_asm.specs.declared.fault.AsmCause.{AsmCause}
use Rattle.admission.specs.declared.faults.Fault.{Fault}
use Rattle.admission.specs.declared.faults.Fault.TheVariants.{Words, Read, Long, Asm, Description, BadImage, CacheAdmission, Admission}
use Rattle.admission.specs.Chain.{Files}
use Rattle.admission.specs.Texts.{RefusesLine}
use Rattle.admission.specs.Jobs.{Job, Monitored, Alone, Print, Litmus, Listing, job_of}
use Rattle.admission.specs.Ready.{AreGiven}
use Rattle.admission.specs.Stages.{FailedAt}
use Rattle.admission.specs.Steady.{Extends, IsSteady, NeverReads}
use Rattle.admission.specs.Words.{form_of}
use Rattle.page_slots.specs.declared.op.Litmus.{Litmus as Accesses}
use Rattle.litmus_file.specs.declared.fault.LitmusFault.{LitmusFault}
use Rattle.litmus_file.specs.Reads.{Read as LitmusRead}
use Rattle.litmus_file.specs.File.{litmus_of}
use Rattle.litmus_run.specs.Command.{Answers as LitmusAnswers}
use Rattle.monitor_run.specs.Ends.{Ends, Runs}
use Rattle.monitor_run.specs.Exactly.{AreTold, Failed, FailedFile, IsExactly, OrFails, RefusedLitmus, RefusedText, due_status, litmus_status}
use Rattle.monitor_run.specs.FaultLines.{status_of}
use Rattle.monitor_run.specs.Headline.{Answers, IsRead}

-- ---- one call's end

pub runs_status : (job : Job) (c d : SinkView) (out : RunRecord) (status : ℕ) → Runs job c d out status → OrFails 0 c d status
runs_status job c d out status (inl completes) = inl completes.answer
runs_status job c d out status (inr (inl unwritten)) = inr (inr (unwritten.answer, unwritten.sink.rose))
runs_status job c d out status (inr (inr wants)) = inr (inl wants.1.answer)

answers_status : (r : LitmusRead Accesses) (c d : SinkView) (status : ℕ) → LitmusAnswers r c d status → OrFails (litmus_status r) c d status
answers_status (Ok accesses) c d status (inl completes) = inl completes.answer
answers_status (Ok accesses) c d status (inr (inl unwritten)) = inr (inr (unwritten.answer, unwritten.sink.rose))
answers_status (Ok accesses) c d status (inr (inr (inl unfinished))) = inr (inl unfinished.answer)
answers_status (Ok accesses) c d status (inr (inr (inr wants))) = inr (inl wants.answer)
answers_status (Err fault) c d status (inl (inl refuses)) = inl refuses.answer
answers_status (Err fault) c d status (inl (inr untold)) = inr (inl untold.answer)
answers_status (Err fault) c d status (inr wants) = inr (inl wants.answer)

ends_status : (r : Result Job Fault) (c d : SinkView) (out : RunRecord) (status : ℕ) → Ends r c d out status → OrFails (due_status r) c d status
ends_status (Ok (Monitored m starts sums)) c d out status runs = runs_status (Monitored m starts sums) c d out status runs
ends_status (Ok (Alone m starts)) c d out status runs = runs_status (Alone m starts) c d out status runs
ends_status (Ok (Print made)) c d out status runs = runs_status (Print made) c d out status runs
ends_status (Ok (Listing assembly)) c d out status runs = runs_status (Listing assembly) c d out status runs
ends_status (Ok (Litmus bytes)) c d out status (empty, answers) = answers_status (litmus_of bytes) c d status answers
ends_status (Err fault) c d out status (empty, inl refuses) = inl refuses.answer
ends_status (Err fault) c d out status (empty, inr wants) = inr (inl wants.answer)

refused_status : (fault : Fault) (c d : SinkView) (out : RunRecord) (status : ℕ) → Ends (Err fault) c d out status → (status ≡ status_of fault) ⊎ (status ≡ 1)
refused_status fault c d out status (empty, inl refuses) = inl refuses.answer
refused_status fault c d out status (empty, inr wants) = inr wants.answer

-- a litmus file has no status but 0 and 10
litmus_not : (r : LitmusRead Accesses) (status : ℕ) → 0 < status → status < 10 → litmus_status r ≡ status → ⊥
litmus_not (Ok accesses) status some few is = omega (arith, some, is)
litmus_not (Err fault) status some few is = omega (arith, few, is)

litmus_ten : (r : LitmusRead Accesses) → litmus_status r ≡ 10 → (fault : LitmusFault) × (r ≡ Err fault)
litmus_ten (Ok accesses) is = absurd (omega (arith, is))
litmus_ten (Err fault) is = (fault, refl)

-- which refusals have a status
due_two : (r : Result Job Fault) → due_status r ≡ 2 → r ≡ Err Words
due_two (Ok (Monitored m starts sums)) is = absurd (omega (arith, is))
due_two (Ok (Alone m starts)) is = absurd (omega (arith, is))
due_two (Ok (Print made)) is = absurd (omega (arith, is))
due_two (Ok (Listing assembly)) is = absurd (omega (arith, is))
due_two (Ok (Litmus bytes)) is = absurd (litmus_not (litmus_of bytes) 2 (omega arith) (omega arith) is)
due_two (Err Words) is = refl
due_two (Err (Read name)) is = absurd (omega (arith, is))
due_two (Err (Long name)) is = absurd (omega (arith, is))
due_two (Err (Asm line cause)) is = absurd (omega (arith, is))
due_two (Err (Description fault)) is = absurd (omega (arith, is))
due_two (Err (BadImage guest fault)) is = absurd (omega (arith, is))
due_two (Err (CacheAdmission cell needs has)) is = absurd (omega (arith, is))
due_two (Err (Admission guest needs has)) is = absurd (omega (arith, is))

due_three : (r : Result Job Fault) → due_status r ≡ 3 → (name : List ℕ) × (r ≡ Err (Read name))
due_three (Ok (Monitored m starts sums)) is = absurd (omega (arith, is))
due_three (Ok (Alone m starts)) is = absurd (omega (arith, is))
due_three (Ok (Print made)) is = absurd (omega (arith, is))
due_three (Ok (Listing assembly)) is = absurd (omega (arith, is))
due_three (Ok (Litmus bytes)) is = absurd (litmus_not (litmus_of bytes) 3 (omega arith) (omega arith) is)
due_three (Err Words) is = absurd (omega (arith, is))
due_three (Err (Read name)) is = (name, refl)
due_three (Err (Long name)) is = absurd (omega (arith, is))
due_three (Err (Asm line cause)) is = absurd (omega (arith, is))
due_three (Err (Description fault)) is = absurd (omega (arith, is))
due_three (Err (BadImage guest fault)) is = absurd (omega (arith, is))
due_three (Err (CacheAdmission cell needs has)) is = absurd (omega (arith, is))
due_three (Err (Admission guest needs has)) is = absurd (omega (arith, is))

not_four : (r : Result Job Fault) → due_status r ≡ 4 → ⊥
not_four (Ok (Monitored m starts sums)) is = omega (arith, is)
not_four (Ok (Alone m starts)) is = omega (arith, is)
not_four (Ok (Print made)) is = omega (arith, is)
not_four (Ok (Listing assembly)) is = omega (arith, is)
not_four (Ok (Litmus bytes)) is = litmus_not (litmus_of bytes) 4 (omega arith) (omega arith) is
not_four (Err Words) is = omega (arith, is)
not_four (Err (Read name)) is = omega (arith, is)
not_four (Err (Long name)) is = omega (arith, is)
not_four (Err (Asm line cause)) is = omega (arith, is)
not_four (Err (Description fault)) is = omega (arith, is)
not_four (Err (BadImage guest fault)) is = omega (arith, is)
not_four (Err (CacheAdmission cell needs has)) is = omega (arith, is)
not_four (Err (Admission guest needs has)) is = omega (arith, is)

due_nine : (r : Result Job Fault) → due_status r ≡ 9 → (line : ℕ) × (cause : AsmCause) × (r ≡ Err (Asm line cause))
due_nine (Ok (Monitored m starts sums)) is = absurd (omega (arith, is))
due_nine (Ok (Alone m starts)) is = absurd (omega (arith, is))
due_nine (Ok (Print made)) is = absurd (omega (arith, is))
due_nine (Ok (Listing assembly)) is = absurd (omega (arith, is))
due_nine (Ok (Litmus bytes)) is = absurd (litmus_not (litmus_of bytes) 9 (omega arith) (omega arith) is)
due_nine (Err Words) is = absurd (omega (arith, is))
due_nine (Err (Read name)) is = absurd (omega (arith, is))
due_nine (Err (Long name)) is = absurd (omega (arith, is))
due_nine (Err (Asm line cause)) is = (line, cause, refl)
due_nine (Err (Description fault)) is = absurd (omega (arith, is))
due_nine (Err (BadImage guest fault)) is = absurd (omega (arith, is))
due_nine (Err (CacheAdmission cell needs has)) is = absurd (omega (arith, is))
due_nine (Err (Admission guest needs has)) is = absurd (omega (arith, is))

due_ten : (r : Result Job Fault) → due_status r ≡ 10 → (bytes : List ℕ) × (r ≡ Ok (Litmus bytes)) × (fault : LitmusFault) × (litmus_of bytes ≡ Err fault)
due_ten (Ok (Monitored m starts sums)) is = absurd (omega (arith, is))
due_ten (Ok (Alone m starts)) is = absurd (omega (arith, is))
due_ten (Ok (Print made)) is = absurd (omega (arith, is))
due_ten (Ok (Listing assembly)) is = absurd (omega (arith, is))
due_ten (Ok (Litmus bytes)) is = (let found = litmus_ten (litmus_of bytes) is in (bytes, refl, found.0, found.1))
due_ten (Err Words) is = absurd (omega (arith, is))
due_ten (Err (Read name)) is = absurd (omega (arith, is))
due_ten (Err (Long name)) is = absurd (omega (arith, is))
due_ten (Err (Asm line cause)) is = absurd (omega (arith, is))
due_ten (Err (Description fault)) is = absurd (omega (arith, is))
due_ten (Err (BadImage guest fault)) is = absurd (omega (arith, is))
due_ten (Err (CacheAdmission cell needs has)) is = absurd (omega (arith, is))
due_ten (Err (Admission guest needs has)) is = absurd (omega (arith, is))

-- a chain is refused at a read, or it isn't
abbrev Stops : Result Job Fault → Type 0
Stops r = NeverReads r ⊎ ((name : List ℕ) × (r ≡ Err (Read name)))

stops : (r : Result Job Fault) → Stops r
stops (Ok job) = inl tt
stops (Err Words) = inl tt
stops (Err (Read name)) = inr (name, refl)
stops (Err (Long name)) = inl tt
stops (Err (Asm line cause)) = inl tt
stops (Err (Description fault)) = inl tt
stops (Err (BadImage guest fault)) = inl tt
stops (Err (CacheAdmission cell needs has)) = inl tt
stops (Err (Admission guest needs has)) = inl tt

-- ---- the files of a call, and others

-- what the first have, and else what the second have
pub filled_with : Option (List ℕ) → Option (List ℕ) → Option (List ℕ)
filled_with None more = more
filled_with (Some bytes) more = Some bytes

pub filled : Files → Files → Files
filled files more = λ name. filled_with (files name) (more name)

extends_first : (files more : Files) → Extends files (filled files more)
unfolding filled filled_with
extends_first files more = λ name bytes is. ap (λ (o : Option (List ℕ)). filled_with o (more name)) is

module _ (a b : ShelfView) (found files : Files) (given : AreGiven a b found) (told : AreTold a files) where
  same_bytes : (name bytes : List ℕ) → a.told name ≡ Holds bytes → (o : Option (List ℕ)) → found name ≡ o → filled_with o (Some bytes) ≡ Some bytes
  unfolding filled_with
  same_bytes name bytes holds None is = refl
  same_bytes name bytes holds (Some other) is =
      let same : other ≡ bytes = subst (λ (t : Told). MayBe t other) holds (given.held name other is) in ap (λ (l : List ℕ). let o : Option (List ℕ) = Some l in o) same

  -- what is told is as it was found
  pub extends_told : Extends files (filled found files)
  unfolding filled
  extends_told = λ name bytes is. ap (filled_with (found name)) is ∙ same_bytes name bytes (told name bytes is) (found name) refl

  none_found : (name : List ℕ) → a.told name ≡ Absent → (o : Option (List ℕ)) → found name ≡ o → o ≡ None
  none_found name absent None is = refl
  none_found name absent (Some bytes) is = absurd (let no : ⊥ = subst (λ (t : Told). MayBe t bytes) absent (given.held name bytes is) in no)

  none_told : (name : List ℕ) → a.told name ≡ Absent → (o : Option (List ℕ)) → files name ≡ o → o ≡ None
  none_told name absent None is = refl
  none_told name absent (Some bytes) is = absurd (let no : Holds bytes ≡ Absent = sym (told name bytes is) ∙ absent in cc)

  -- what isn't there isn't found
  pub filled_absent : (name : List ℕ) → a.told name ≡ Absent → filled found files name ≡ None
  unfolding filled filled_with
  filled_absent name absent = ap (λ (o : Option (List ℕ)). filled_with o (files name)) (none_found name absent (found name) refl) ∙ none_told name absent (files name) refl

-- ---- the law

module _ (w : List (List ℕ)) (a b : ShelfView) (c d : SinkView) (out : RunRecord) (status : ℕ) (answers : Answers w a b c d out status) where
  comes : OrFails (due_status (job_of w answers.files)) c d status
  comes = ends_status (job_of w answers.files) c d out status answers.ends

  pub words_status : form_of w ≡ None → (status ≡ 2) ⊎ (status ≡ 1)
  words_status none =
      let chain : job_of w answers.files ≡ Err Words = rw none refl in
      refused_status Words c d out status (subst (λ (x : Result Job Fault). Ends x c d out status) chain answers.ends)

  pub only_write_status : status ≡ 4 → Rose c.faults d.faults
  only_write_status four = by comes
    where
      by : OrFails (due_status (job_of w answers.files)) c d status → Rose c.faults d.faults
      by (inl due) = absurd (not_four (job_of w answers.files) (sym due ∙ four))
      by (inr (inl one)) = absurd (omega (arith, one, four))
      by (inr (inr failed)) = failed.1

  pub only_words_status : ((files : Files) → job_of w files ≡ Err Words → form_of w ≡ None) → status ≡ 2 → form_of w ≡ None
  only_words_status told two = by comes
    where
      by : OrFails (due_status (job_of w answers.files)) c d status → form_of w ≡ None
      by (inl due) = told answers.files (due_two (job_of w answers.files) (sym due ∙ two))
      by (inr (inl one)) = absurd (omega (arith, one, two))
      by (inr (inr failed)) = absurd (let four = failed.0 in omega (arith, four, two))

  -- a refused read was the shelf's fault
  read_failed : (name : List ℕ) → status ≢ 1 → job_of w answers.files ≡ Err (Read name) → FailedAt a b name
  read_failed name other is = subst (λ (x : Result Job Fault). IsRead x a b) is (answers.read other)

  pub only_read_status : status ≡ 3 → FailedFile w a b
  only_read_status three = by comes
    where
      other : status ≢ 1
      other = λ one. omega (arith, one, three)

      by : OrFails (due_status (job_of w answers.files)) c d status → FailedFile w a b
      by (inl due) =
          let found = due_three (job_of w answers.files) (sym due ∙ three) in
          record { files = answers.files; given = answers.given; name = found.0; asked = found.1; failed = read_failed found.0 other found.1 }
      by (inr (inl one)) = absurd (other one)
      by (inr (inr failed)) = absurd (let four = failed.0 in omega (arith, four, three))

  pub only_asm_status : ((files : Files) (line : ℕ) (cause : AsmCause) → job_of w files ≡ Err (Asm line cause) → RefusesLine w files line cause) → status ≡ 9 → RefusedText w a b
  only_asm_status lines nine = by comes
    where
      by : OrFails (due_status (job_of w answers.files)) c d status → RefusedText w a b
      by (inl due) =
          let found = due_nine (job_of w answers.files) (sym due ∙ nine) in
          record { files = answers.files; given = answers.given; line = found.0; cause = found.1; refused = lines answers.files found.0 found.1 found.2 }
      by (inr (inl one)) = absurd (omega (arith, one, nine))
      by (inr (inr failed)) = absurd (let four = failed.0 in omega (arith, four, nine))

  pub only_litmus_status : status ≡ 10 → RefusedLitmus w a b
  only_litmus_status ten = by comes
    where
      by : OrFails (due_status (job_of w answers.files)) c d status → RefusedLitmus w a b
      by (inl due) =
          let found = due_ten (job_of w answers.files) (sym due ∙ ten) in
          record { files = answers.files; given = answers.given; bytes = found.0; asked = found.1; fault = found.2; refused = found.3 }
      by (inr (inl one)) = absurd (omega (arith, one, ten))
      by (inr (inr failed)) = absurd (let four = failed.0 in omega (arith, four, ten))

  -- a call that stopped at a read
  read_status : (name : List ℕ) → job_of w answers.files ≡ Err (Read name) → (status ≡ 1) ⊎ ((status ≡ 3) × Failed a b)
  read_status name is = by (refused_status (Read name) c d out status (subst (λ (x : Result Job Fault). Ends x c d out status) is answers.ends))
    where
      by : (status ≡ 3) ⊎ (status ≡ 1) → (status ≡ 1) ⊎ ((status ≡ 3) × Failed a b)
      by (inl three) = inr (three, (name, read_failed name (λ one. omega (arith, one, three)) is))
      by (inr one) = inl one

  module _ (steady : IsSteady (λ files. job_of w files)) (files : Files) (told : AreTold a files) where
    -- the call went as the files that are told, where it stopped at no read
    as_found : NeverReads (job_of w answers.files) → job_of w (filled answers.files files) ≡ job_of w answers.files
    as_found never = steady.same answers.files (filled answers.files files) (extends_first answers.files files) never

    pub told_status : NeverReads (job_of w files) → IsExactly (due_status (job_of w files)) a b c d status
    told_status never = by (stops (job_of w answers.files))
      where
        reads : (status ≡ 1) ⊎ ((status ≡ 3) × Failed a b) → IsExactly (due_status (job_of w files)) a b c d status
        reads (inl one) = inr (inl one)
        reads (inr three) = inr (inr (inl three))

        due : OrFails (due_status (job_of w files)) c d status → IsExactly (due_status (job_of w files)) a b c d status
        due (inl is) = inl is
        due (inr (inl one)) = inr (inl one)
        due (inr (inr broken)) = inr (inr (inr broken))

        by : Stops (job_of w answers.files) → IsExactly (due_status (job_of w files)) a b c d status
        by (inl calm) =
            let same = sym (as_found calm) ∙ steady.same files (filled answers.files files) (extends_told a b answers.files files answers.given told) never in
            due (subst (λ (r : Result Job Fault). OrFails (due_status r) c d status) same comes)
        by (inr stopped) = reads (read_status stopped.0 stopped.1)

    pub absent_status : (name : List ℕ) → a.told name ≡ Absent → job_of w files ≡ Err (Read name) → (status ≡ 1) ⊎ ((status ≡ 3) × Failed a b)
    absent_status name absent is = by (stops (job_of w answers.files))
      where
        whole : job_of w (filled answers.files files) ≡ Err (Read name)
        whole = steady.stops files (filled answers.files files) name (extends_told a b answers.files files answers.given told) (filled_absent a b answers.files files answers.given told name absent) is

        by : Stops (job_of w answers.files) → (status ≡ 1) ⊎ ((status ≡ 3) × Failed a b)
        by (inl calm) = absurd (let no : ⊥ = subst NeverReads (sym (as_found calm) ∙ whole) calm in no)
        by (inr stopped) = read_status stopped.0 stopped.1
