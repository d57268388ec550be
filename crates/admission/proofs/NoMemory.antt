-- No refusal is want of memory.
use Rattle.std.proofs.Common.{◌≡◌, ◌≢◌, ℕ, suc, ◌+◌, ◌*◌, ◌%◌, ◌==◌, ◌≤◌, List, [], ◌∷◌, length, nat_le, Bool, true, false, if◌then◌else◌, Option, Some, None, Result, Ok, Err, refl, ap, sym, ◌∙◌, subst, arith}
use Rattle.std.proofs.lemmas.Bool.Decides.{nat_tests}
use Rattle.std.specs.Prelude.{option_map, position}
use Rattle.private_machine.specs.PrivateRun.{Image}
use Rattle.elf_image.specs.declared.fault.ImageFault.{ImageFault}
use Rattle.elf_image.specs.declared.fault.ImageFault.TheVariants as image
use Rattle.elf_image.specs.declared.segment.ProgramHeader.{ProgramHeader}
use Rattle.elf_image.specs.Fields.{elf_header, program_headers}
use Rattle.elf_image.specs.FirstFault.{first_of, needs, short, magic, class, order, version, kind, processor, table, interp, segment, place, overlap_from, overlap, entry, first_fault}
use Rattle.elf_image.specs.Loading.{raw_fault}
use Rattle.elf_image.specs.Segments.{is_cut, is_outside, shares_byte}
use Rattle.guest_asm.specs.declared.fault.AsmCause.{AsmCause}
use Rattle.guest_asm.specs.Assembly.{Assembly, RefusedLine, assembly_of}
use Rattle.machine_desc.specs.declared.fault.DescFault.{DescFault}
use Rattle.machine_desc.specs.declared.fault.DescFault.TheVariants as description
use Rattle.machine_desc.specs.declared.machine.GuestSpec.{GuestSpec}
use Rattle.machine_desc.specs.Described.{Described, description_of}
use Rattle.admission.specs.declared.faults.Fault.{Fault}
use Rattle.admission.specs.declared.faults.Fault.TheVariants.{Words, Read, Long, Asm as AsmFault, Description, BadImage, CacheAdmission, Admission}
use Rattle.admission.specs.Words.{Form, Raw, Machine, Private, Make, Load, Litmus, Asm, AsmSteps, form_of}
use Rattle.boot_frames.specs.declared.answers.Shortage.{Shortage}
use Rattle.boot_frames.specs.declared.answers.Shortage.TheVariants.{Memory, Cell, Guest}
use Rattle.admission.specs.Chain.{Files, ◌>>=◌, known_form, fitting, content, of_description, of_text, assembled, longest_description, longest_litmus, longest_text, longest_image, longest_disk}
use Rattle.admission.specs.Starts.{Start, unless, raw_image, elf_image, guest_image, of_guest, image_at, disk_at, start_at, starts_from}
use Rattle.admission.specs.Jobs.{short_in, served, checks, checked, described_from, described_job, raw_job, litmus_job, Job, Listing, asm_from, asm_checked, asm_run_checked, job_by, job_of}
use Rattle.admission.specs.Texts.{Names, RefusesLine}
use Rattle.admission.specs.Tells.{Tells, DescriptionsTell}

-- ---- images

abbrev TellsFound : Option ImageFault → Type 0
TellsFound None = Unit {0}
TellsFound (Some fault) = fault ≢ image.Memory

abbrev AllTell : List (Option ImageFault) → Type 0
AllTell [] = Unit {0}
AllTell (found ∷ others) = TellsFound found × AllTell others

first_of-tells : (rows : List (Option ImageFault)) → AllTell rows → TellsFound (first_of rows)
first_of-tells [] all = tt
first_of-tells (None ∷ rows) all = first_of-tells rows all.1
first_of-tells (Some found ∷ rows) all = all.0

needs-tells : (passes : Bool) (fault : ImageFault) → fault ≢ image.Memory → TellsFound (needs passes fault)
needs-tells true fault other = tt
needs-tells false fault other = other

numbered-tells : (fault : ℕ → ImageFault) → ((n : ℕ) → fault n ≢ image.Memory) → (found : Option ℕ) → TellsFound (option_map fault found)
numbered-tells fault other None = tt
numbered-tells fault other (Some n) = other n

overlap-tells : (n : ℕ) (headers : List ProgramHeader) → TellsFound (overlap_from n headers)
overlap-tells n [] = tt
overlap-tells n (header ∷ later) =
    first_of-tells (option_map (λ k. image.Overlap n (n + 1 + k)) (position (shares_byte header) later) ∷ overlap_from (n + 1) later ∷ [])
    (numbered-tells (λ k. image.Overlap n (n + 1 + k)) (λ k is. cc) (position (shares_byte header) later), (overlap-tells (n + 1) later, tt))

pub first_fault-tells : (file : List ℕ) (pages : ℕ) → TellsFound (first_fault file pages)
unfolding first_fault
first_fault-tells file pages =
    let h = elf_header file in
    let hs = program_headers file in
    first_of-tells (
    short file
    ∷ magic h
    ∷ class h
    ∷ order h
    ∷ version h
    ∷ kind h
    ∷ processor h
    ∷ table h (length file)
    ∷ interp hs
    ∷ segment hs (length file)
    ∷ place hs pages
    ∷ overlap hs
    ∷ entry h pages
    ∷ []) (
      needs-tells _ image.Short (λ is. cc),
      (
        needs-tells _ image.Magic (λ is. cc),
        (
          needs-tells _ image.Class (λ is. cc),
          (
            needs-tells _ image.Order (λ is. cc),
            (
              needs-tells _ image.Version (λ is. cc),
              (
                needs-tells _ image.Kind (λ is. cc),
                (
                  needs-tells _ image.Processor (λ is. cc),
                  (
                    needs-tells _ image.Headers (λ is. cc),
                    (
                      needs-tells _ image.Interp (λ is. cc),
                      (
                        numbered-tells (λ n. image.Segment n) (λ n is. cc) (position (is_cut (length file)) (program_headers file)),
                        (
                          numbered-tells (λ n. image.Place n) (λ n is. cc) (position (is_outside pages) (program_headers file)),
                          (
                            overlap-tells 0 (program_headers file),
                            (needs-tells _ image.Entry (λ is. cc), tt),
                          ),
                        ),
                      ),
                    ),
                  ),
                ),
              ),
            ),
          ),
        ),
      ),
    )

raw_fault-tells : (file : List ℕ) (pages : ℕ) → TellsFound (raw_fault file pages)
raw_fault-tells file pages = first_of-tells (needs (length file % 4 == 0) image.Short ∷ needs (nat_le (length file) (4096 * pages)) (image.Place 0) ∷ []) (needs-tells _ image.Short (λ is. cc), (needs-tells _ (image.Place 0) (λ is. cc), tt))

-- ---- stages

-- a refusal of what comes behind the words, of a form that names no text
abbrev TellsBehind : Fault → Type 0
TellsBehind Words = ⊥
TellsBehind (Read name) = Unit {0}
TellsBehind (Long name) = Unit {0}
TellsBehind (AsmFault line cause) = ⊥
TellsBehind (Description fault) = fault ≢ description.Memory
TellsBehind (BadImage guest fault) = fault ≢ image.Memory
TellsBehind (CacheAdmission cell needs has) = Unit {0}
TellsBehind (Admission guest needs has) = Unit {0}

tells_behind : (fault : Fault) → TellsBehind fault → Tells fault
tells_behind Words tells = absurd tells
tells_behind (Read name) tells = tt
tells_behind (Long name) tells = tt
tells_behind (AsmFault line cause) tells = absurd tells
tells_behind (Description fault) tells = tells
tells_behind (BadImage guest fault) tells = tells
tells_behind (CacheAdmission cell needs has) tells = tt
tells_behind (Admission guest needs has) tells = tt

-- no refusal of a stage is want of memory, the words' or a line's
abbrev AlwaysTells : {A : Type 0} → Result A Fault → Type 0
AlwaysTells (Ok x) = Unit {0}
AlwaysTells (Err fault) = TellsBehind fault

then-tells : {A B : Type 0} (r : Result A Fault) (next : A → Result B Fault) → AlwaysTells r → ((x : A) → AlwaysTells (next x)) → AlwaysTells (r >>= next)
then-tells (Ok x) next first last = last x
then-tells (Err fault) next first last = first

content-tells : (files : Files) (name : List ℕ) (most : ℕ) → AlwaysTells (content files name most)
content-tells files name most = by (files name)
  where
    by : (found : Option (List ℕ)) → AlwaysTells (fitting name most found)
    by None = tt
    by (Some bytes) = elim (nat_le (length bytes) most) as (λ b. AlwaysTells (let r : Result (List ℕ) Fault = if b then Ok bytes else Err (Long name) in r)) [ true ↦ tt | false ↦ tt ]

unless-tells : (guest : ℕ) (found : Option ImageFault) (image : Image) → TellsFound found → AlwaysTells (of_guest guest (unless found image))
unless-tells guest None image tells = tt
unless-tells guest (Some fault) image tells = tells

guest_image-tells : (guest : ℕ) (spec : GuestSpec) (bytes : List ℕ) → AlwaysTells (of_guest guest (guest_image spec bytes))
guest_image-tells guest spec bytes =
    elim spec.raw as (λ raw. AlwaysTells (of_guest guest (let r : Result Image ImageFault = if raw then raw_image bytes spec.pages else elf_image bytes spec.pages in r))) [
      | true ↦ unless-tells guest (raw_fault bytes spec.pages) _ (raw_fault-tells bytes spec.pages)
      | false ↦ unless-tells guest (first_fault bytes spec.pages) _ (first_fault-tells bytes spec.pages)
    ]

disk_at-tells : (files : Files) (disk : Option (List ℕ)) → AlwaysTells (disk_at files disk)
disk_at-tells files None = tt
disk_at-tells files (Some name) = then-tells (content files name longest_disk) _ (content-tells files name longest_disk) (λ bytes. tt)

start_at-tells : (files : Files) (guest : ℕ) (spec : GuestSpec) → AlwaysTells (start_at files guest spec)
start_at-tells files guest spec =
    then-tells (image_at files guest spec) _ (then-tells (content files spec.image longest_image) _ (content-tells files spec.image longest_image) (guest_image-tells guest spec)) λ image.
    then-tells (disk_at files spec.disk) _ (disk_at-tells files spec.disk) (λ disk. tt)

starts_from-tells : (files : Files) (guest : ℕ) (specs : List GuestSpec) → AlwaysTells (starts_from files guest specs)
unfolding starts_from
starts_from-tells files guest [] = tt
starts_from-tells files guest (spec ∷ specs) =
    then-tells (start_at files guest spec) _ (start_at-tells files guest spec) λ start.
    then-tells (starts_from files (suc guest) specs) _ (starts_from-tells files (suc guest) specs) (λ starts. tt)

served-tells : (short : Option Shortage) → AlwaysTells (served short)
served-tells None = tt
served-tells (Some Memory) = tt
served-tells (Some (Cell cell needs has)) = tt
served-tells (Some (Guest guest needs has)) = tt

checked-tells : (alone : Bool) (d : Described) (starts : List Start) → AlwaysTells (checked alone d starts)
checked-tells alone d starts =
    then-tells (checks d) _ (served-tells (short_in d)) (λ _. tt)

of_description-tells : (r : Result Described DescFault) → ((fault : DescFault) → r ≡ Err fault → Tells (Description fault)) → AlwaysTells (of_description r)
of_description-tells (Ok d) told = tt
of_description-tells (Err fault) told = told fault refl

described_from-tells : DescriptionsTell → (alone : Bool) (files : Files) (bytes : List ℕ) → AlwaysTells (described_from alone files bytes)
described_from-tells tell alone files bytes =
    then-tells (of_description (description_of bytes)) _ (of_description-tells (description_of bytes) (tell bytes)) λ d.
    then-tells (starts_from files 0 d.guests) _ (starts_from-tells files 0 d.guests) (checked-tells alone d)

described_job-tells : DescriptionsTell → (alone : Bool) (files : Files) (name : List ℕ) → AlwaysTells (described_job alone files name)
described_job-tells tell alone files name = then-tells (content files name longest_description) _ (content-tells files name longest_description) (described_from-tells tell alone files)

raw_job-tells : (files : Files) (name : List ℕ) (steps : ℕ) → AlwaysTells (raw_job files name steps)
raw_job-tells files name steps =
    then-tells (content files name longest_image) _ (content-tells files name longest_image) λ bytes.
    then-tells (of_guest 0 (raw_image bytes 16)) _ (unless-tells 0 (raw_fault bytes 16) _ (raw_fault-tells bytes 16)) (λ image. tt)

litmus_job-tells : (files : Files) (name : List ℕ) → AlwaysTells (litmus_job files name)
litmus_job-tells files name = then-tells (content files name longest_litmus) _ (content-tells files name longest_litmus) (λ bytes. tt)

-- what a text's reading and its lines refuse
abbrev TellsText : {A : Type 0} → List ℕ → Option (List ℕ) → Result A Fault → Type 0
TellsText name held (Ok x) = Unit {0}
TellsText name held (Err (Read other)) = Unit {0}
TellsText name held (Err (Long other)) = Unit {0}
TellsText name held (Err (AsmFault line cause)) =
    (text : List ℕ) × (held ≡ Some text) × (length text ≤ longest_text) × (assembly_of text ≡ Err (record { line = line; cause = cause }))
TellsText name held (Err other) = ⊥

checked_text-tells : {A : Type 0} (name text : List ℕ) (next : Assembly → A) → length text ≤ longest_text → (found : Result Assembly RefusedLine) → assembly_of text ≡ found
    → TellsText name (Some text) (of_text found >>= λ assembly. (let r : Result A Fault = Ok (next assembly) in r))
checked_text-tells name text next few (Ok assembly) is = tt
checked_text-tells name text next few (Err refused) is = (text, refl, few, is)

text-tells : {A : Type 0} (name : List ℕ) (next : Assembly → A) (held : Option (List ℕ))
    → TellsText name held (fitting name longest_text held >>= λ text. (assembled text >>= λ assembly. (let r : Result A Fault = Ok (next assembly) in r)))
text-tells name next None = tt
text-tells {A = A} name next (Some text) =
    (elim (nat_le (length text) longest_text) as (λ b. nat_le (length text) longest_text ≡ b
    → TellsText name (Some text) ((let r : Result (List ℕ) Fault = if b then Ok text else Err (Long name) in r) >>= λ text. (assembled text >>= λ assembly. (let r : Result A Fault = Ok (next assembly) in r)))) [
      | true ↦ λ test. (let few : length text ≤ longest_text = grind (arith, nat_tests) in checked_text-tells name text next few (assembly_of text) refl)
      | false ↦ λ test. tt
    ]) refl

-- by the form
abbrev TellsBy : Files → Form → Result Job Fault → Type 0
TellsBy files (Raw file steps) r = AlwaysTells r
TellsBy files (Machine file) r = AlwaysTells r
TellsBy files (Private file) r = AlwaysTells r
TellsBy files (Make seed) r = AlwaysTells r
TellsBy files (Load seed) r = AlwaysTells r
TellsBy files (Litmus file) r = AlwaysTells r
TellsBy files (Asm file) r = TellsText file (files file) r
TellsBy files (AsmSteps file steps) r = TellsText file (files file) r

job_by-tells : DescriptionsTell → (files : Files) (form : Form) → TellsBy files form (job_by files form)
job_by-tells tell files (Raw file steps) = raw_job-tells files file steps
job_by-tells tell files (Machine file) = described_job-tells tell false files file
job_by-tells tell files (Private file) = described_job-tells tell true files file
job_by-tells tell files (Make seed) = tt
job_by-tells tell files (Load seed) = described_from-tells tell false _ _
job_by-tells tell files (Litmus file) = litmus_job-tells files file
job_by-tells tell files (Asm file) = text-tells file (λ assembly. Listing assembly) (files file)
job_by-tells tell files (AsmSteps file steps) = text-tells file (asm_from steps) (files file)

text_told : (name : List ℕ) (held : Option (List ℕ)) (fault : Fault) → TellsText {A = Job} name held (Err fault) → Tells fault
text_told name held Words tells = absurd tells
text_told name held (Read other) tells = tt
text_told name held (Long other) tells = tt
text_told name held (AsmFault line cause) tells = tt
text_told name held (Description fault) tells = absurd tells
text_told name held (BadImage guest fault) tells = absurd tells
text_told name held (CacheAdmission cell needs has) tells = tt
text_told name held (Admission guest needs has) tells = tt

told_of : (files : Files) (form : Form) (fault : Fault) → TellsBy files form (Err fault) → Tells fault
told_of files (Raw file steps) fault tells = tells_behind fault tells
told_of files (Machine file) fault tells = tells_behind fault tells
told_of files (Private file) fault tells = tells_behind fault tells
told_of files (Make seed) fault tells = tells_behind fault tells
told_of files (Load seed) fault tells = tells_behind fault tells
told_of files (Litmus file) fault tells = tells_behind fault tells
told_of files (Asm file) fault tells = text_told file (files file) fault tells
told_of files (AsmSteps file steps) fault tells = text_told file (files file) fault tells

told_by : DescriptionsTell → (files : Files) (form : Option Form) (fault : Fault) → (known_form form >>= job_by files) ≡ Err fault → Tells fault
told_by tell files None fault is = let same : Words ≡ fault = cc in subst Tells same tt
told_by tell files (Some form) fault is = told_of files form fault (subst (TellsBy files form) is (job_by-tells tell files form))

pub job_of-told : DescriptionsTell → (words : List (List ℕ)) (files : Files) (fault : Fault) → job_of words files ≡ Err fault → Tells fault
job_of-told tell words files fault is = told_by tell files (form_of words) fault is

never_words : (files : Files) (form : Form) → TellsBy files form (Err Words) → ⊥
never_words files (Raw file steps) tells = tells
never_words files (Machine file) tells = tells
never_words files (Private file) tells = tells
never_words files (Make seed) tells = tells
never_words files (Load seed) tells = tells
never_words files (Litmus file) tells = tells
never_words files (Asm file) tells = tells
never_words files (AsmSteps file steps) tells = tells

words_by : DescriptionsTell → (files : Files) (form : Option Form) → (known_form form >>= job_by files) ≡ Err Words → form ≡ None
words_by tell files None is = refl
words_by tell files (Some form) is = absurd (never_words files form (subst (TellsBy files form) is (job_by-tells tell files form)))

-- the words are refused only where they are no form
pub job_of-words : DescriptionsTell → (words : List (List ℕ)) (files : Files) → job_of words files ≡ Err Words → form_of words ≡ None
job_of-words tell words files is = words_by tell files (form_of words) is

-- ---- lines that are refused

lines_of : (words : List (List ℕ)) (files : Files) (form : Form) (line : ℕ) (cause : AsmCause) → form_of words ≡ Some form → TellsBy files form (Err (AsmFault line cause)) → RefusesLine words files line cause
lines_of words files (Raw file steps) line cause is tells = absurd tells
lines_of words files (Machine file) line cause is tells = absurd tells
lines_of words files (Private file) line cause is tells = absurd tells
lines_of words files (Make seed) line cause is tells = absurd tells
lines_of words files (Load seed) line cause is tells = absurd tells
lines_of words files (Litmus file) line cause is tells = absurd tells
lines_of words files (Asm file) line cause is tells =
    record { name = file; named = subst (Names file) (sym is) refl; text = tells.0; held = tells.1; short = tells.2; refused = tells.3 }
lines_of words files (AsmSteps file steps) line cause is tells =
    record { name = file; named = subst (Names file) (sym is) refl; text = tells.0; held = tells.1; short = tells.2; refused = tells.3 }

lines_by : DescriptionsTell → (words : List (List ℕ)) (files : Files) (form : Option Form) (line : ℕ) (cause : AsmCause) → form_of words ≡ form → (known_form form >>= job_by files) ≡ Err (AsmFault line cause)
    → RefusesLine words files line cause
lines_by tell words files None line cause is refuses = absurd (cc)
lines_by tell words files (Some form) line cause is refuses = lines_of words files form line cause is (subst (TellsBy files form) refuses (job_by-tells tell files form))

-- a refused line is the text's that the words name
pub job_of-lines : DescriptionsTell → (words : List (List ℕ)) (files : Files) (line : ℕ) (cause : AsmCause) → job_of words files ≡ Err (AsmFault line cause) → RefusesLine words files line cause
job_of-lines tell words files line cause is = lines_by tell words files (form_of words) line cause refl is

refuses_text : {A : Type 0} (name text : List ℕ) (next : List ℕ → Result A Fault) → length text ≤ longest_text → (fitting name longest_text (Some text) >>= next) ≡ next text
refuses_text {A = A} name text next few =
    let test : nat_le (length text) longest_text ≡ true = grind (arith, nat_tests) in
    ap (λ (b : Bool). (let r : Result (List ℕ) Fault = if b then Ok text else Err (Long name) in r) >>= next) test

refused_by : (words : List (List ℕ)) (files : Files) (form : Option Form) (line : ℕ) (cause : AsmCause) (name text : List ℕ) → Names name form → files name ≡ Some text → length text ≤ longest_text
    → assembly_of text ≡ Err (record { line = line; cause = cause }) → (known_form form >>= job_by files) ≡ Err (AsmFault line cause)
refused_by words files None line cause name text named held few refused = absurd named
refused_by words files (Some (Raw file steps)) line cause name text named held few refused = absurd named
refused_by words files (Some (Machine file)) line cause name text named held few refused = absurd named
refused_by words files (Some (Private file)) line cause name text named held few refused = absurd named
refused_by words files (Some (Make seed)) line cause name text named held few refused = absurd named
refused_by words files (Some (Load seed)) line cause name text named held few refused = absurd named
refused_by words files (Some (Litmus file)) line cause name text named held few refused = absurd named
refused_by words files (Some (Asm file)) line cause name text named held few refused =
    ap (λ (o : Option (List ℕ)). fitting file longest_text o >>= asm_checked) (ap files named ∙ held)
    ∙ refuses_text file text asm_checked few
    ∙ ap (λ (r : Result Assembly RefusedLine). of_text r >>= λ assembly. (let j : Result Job Fault = Ok (Listing assembly) in j)) refused
refused_by words files (Some (AsmSteps file steps)) line cause name text named held few refused =
    ap (λ (o : Option (List ℕ)). fitting file longest_text o >>= asm_run_checked steps) (ap files named ∙ held)
    ∙ refuses_text file text (asm_run_checked steps) few
    ∙ ap (λ (r : Result Assembly RefusedLine). of_text r >>= λ assembly. (let j : Result Job Fault = Ok (asm_from steps assembly) in j)) refused

-- and where a line of it is refused, so is the job
pub lines-job_of : (words : List (List ℕ)) (files : Files) (line : ℕ) (cause : AsmCause) → RefusesLine words files line cause → job_of words files ≡ Err (AsmFault line cause)
lines-job_of words files line cause is = refused_by words files (form_of words) line cause is.name is.text is.named is.held is.short is.refused
