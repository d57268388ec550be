-- A chain that asks for no file that fails gives the same where more files are known.
use Rattle.std.proofs.Common.{◌≡◌, ◌∙◌, ℕ, suc, List, [], ◌∷◌, length, nat_le, Bool, true, false, if◌then◌else◌, Option, Some, None, Result, Ok, Err, refl, ap, sym, subst}
use Rattle.machine_desc.specs.declared.machine.GuestSpec.{GuestSpec}
use Rattle.machine_desc.specs.Described.{description_of}
use Rattle.admission.specs.declared.faults.Fault.{Fault}
use Rattle.admission.specs.declared.faults.Fault.TheVariants.{Read, Long}
use Rattle.admission.specs.Words.{Form, Raw, Machine, Private, Make, Load, Litmus, Asm, AsmSteps, form_of}
use Rattle.admission.specs.Chain.{Files, ◌>>=◌, known_form, fitting, content, of_description, longest_description, longest_litmus, longest_text, longest_image, longest_disk}
use Rattle.admission.specs.Starts.{Start, guest_image, of_guest, image_at, disk_at, blocks_of, start_at, starts_from}
use Rattle.guest_gen.specs.Made.{made_of}
use Rattle.admission.specs.Jobs.{Job, Print, Litmus as LitmusJob, checked, guests_of, described_job, raw_checked, raw_job, load_job, litmus_job, asm_checked, asm_run_checked, job_by, job_of}
use Rattle.admission.specs.Steady.{Extends, NeverReads, IsSteady}

-- a stage that asks for no file
steady-without : {A : Type 0} (r : Result A Fault) → IsSteady (λ files. r)
steady-without r = record { same = λ files more extends never. refl; stops = λ files more name extends none is. is }

module _ {A B : Type 0} (first : Files → Result A Fault) (next : Files → A → Result B Fault) (one : IsSteady first) (two : (x : A) → IsSteady (λ files. next files x)) where
  same-then : (files more : Files) → Extends files more → NeverReads (first files >>= next files) → (first more >>= next more) ≡ (first files >>= next files)
  same-then files more extends never = by (first files) refl never
    where
      by : (r : Result A Fault) → first files ≡ r → NeverReads (r >>= next files) → (first more >>= next more) ≡ (first files >>= next files)
      by (Ok x) is never =
          let before : first more ≡ Ok x = one.same files more extends (subst NeverReads (sym is) tt) ∙ is in
          ap (λ (r : Result A Fault). r >>= next more) before ∙ ((two x).same files more extends never ∙ sym (ap (λ (r : Result A Fault). r >>= next files) is))
      by (Err fault) is never =
          let before : first more ≡ Err fault = one.same files more extends (subst NeverReads (sym is) never) ∙ is in
          ap (λ (r : Result A Fault). r >>= next more) before ∙ sym (ap (λ (r : Result A Fault). r >>= next files) is)

  stops-then : (files more : Files) (name : List ℕ) → Extends files more → more name ≡ None → (first files >>= next files) ≡ Err (Read name) → (first more >>= next more) ≡ Err (Read name)
  stops-then files more name extends none stopped = by (first files) refl stopped
    where
      by : (r : Result A Fault) → first files ≡ r → (r >>= next files) ≡ Err (Read name) → (first more >>= next more) ≡ Err (Read name)
      by (Ok x) is stopped =
          let before : first more ≡ Ok x = one.same files more extends (subst NeverReads (sym is) tt) ∙ is in
          ap (λ (r : Result A Fault). r >>= next more) before ∙ (two x).stops files more name extends none stopped
      by (Err fault) is stopped =
          let read : fault ≡ Read name = cc in
          let here : first files ≡ Err (Read name) = is ∙ ap (λ (f : Fault). let r : Result A Fault = Err f in r) read in
          ap (λ (r : Result A Fault). r >>= next more) (one.stops files more name extends none here)

  -- a stage, and then another
  steady-then : IsSteady (λ files. first files >>= next files)
  steady-then = record { same = same-then; stops = stops-then }

steady-content : (name : List ℕ) (most : ℕ) → IsSteady (λ files. content files name most)
steady-content name most = record {
  same = λ files more extends never. same (files name) files more extends refl never;
  stops = λ files more other extends none is. stops (files name) files more other refl none is;
}
  where
    same : (found : Option (List ℕ)) (files more : Files) → Extends files more → files name ≡ found → NeverReads (fitting name most (files name)) → content more name most ≡ content files name most
    same None files more extends is never = absurd (let no : NeverReads (fitting name most None) = subst (λ (o : Option (List ℕ)). NeverReads (fitting name most o)) is never in no)
    same (Some bytes) files more extends is never = ap (fitting name most) (extends name bytes is ∙ sym is)

    differ : (b : Bool) (bytes other : List ℕ) → (let r : Result (List ℕ) Fault = if b then Ok bytes else Err (Long name) in r ≡ Err (Read other)) → ⊥
    differ true bytes other is = cc
    differ false bytes other is = cc

    stops : (found : Option (List ℕ)) (files more : Files) (other : List ℕ) → files name ≡ found → more other ≡ None → content files name most ≡ Err (Read other) → content more name most ≡ Err (Read other)
    stops None files more other is none stopped =
        let read : fitting name most None ≡ Err (Read other) = sym (ap (fitting name most) is) ∙ stopped in
        let same_name : name ≡ other = cc in
        subst (λ (n : List ℕ). fitting n most (more n) ≡ Err (Read other)) (sym same_name) (ap (fitting other most) none)
    stops (Some bytes) files more other is none stopped = absurd (differ (nat_le (length bytes) most) bytes other (sym (ap (fitting name most) is) ∙ stopped))

steady-disk : (disk : Option (List ℕ)) → IsSteady (λ files. disk_at files disk)
steady-disk None = steady-without (Ok [])
steady-disk (Some name) = steady-then (λ files. content files name longest_disk) (λ files bytes. Ok (blocks_of bytes)) (steady-content name longest_disk) (λ bytes. steady-without (Ok (blocks_of bytes)))

steady-image : (guest : ℕ) (spec : GuestSpec) → IsSteady (λ files. image_at files guest spec)
steady-image guest spec =
    steady-then (λ files. content files spec.image longest_image) (λ files bytes. of_guest guest (guest_image spec bytes)) (steady-content spec.image longest_image) (λ bytes. steady-without (of_guest guest (guest_image spec bytes)))

steady-start : (guest : ℕ) (spec : GuestSpec) → IsSteady (λ files. start_at files guest spec)
steady-start guest spec =
    steady-then (λ files. image_at files guest spec) _ (steady-image guest spec) λ image.
    steady-then (λ files. disk_at files spec.disk) (λ files disk. let r : Result Start Fault = Ok (record { image = image; disk = disk }) in r) (steady-disk spec.disk) (λ disk. steady-without (Ok (record { image = image; disk = disk })))

steady-starts : (guest : ℕ) (specs : List GuestSpec) → IsSteady (λ files. starts_from files guest specs)
unfolding starts_from
steady-starts guest [] = steady-without (Ok [])
steady-starts guest (spec ∷ specs) =
    steady-then (λ files. start_at files guest spec) _ (steady-start guest spec) λ start.
    steady-then (λ files. starts_from files (suc guest) specs) (λ files starts. let r : Result (List Start) Fault = Ok (start ∷ starts) in r) (steady-starts (suc guest) specs) (λ starts. steady-without (Ok (start ∷ starts)))

steady-described : (alone : Bool) (name : List ℕ) → IsSteady (λ files. described_job alone files name)
steady-described alone name =
    steady-then (λ files. content files name longest_description) _ (steady-content name longest_description) λ bytes.
    steady-then (λ files. of_description (description_of bytes)) (guests_of alone) (steady-without (of_description (description_of bytes))) λ d.
    steady-then (λ files. starts_from files 0 d.guests) (λ files starts. checked alone d starts) (steady-starts 0 d.guests) (λ starts. steady-without (checked alone d starts))

steady-raw : (name : List ℕ) (steps : ℕ) → IsSteady (λ files. raw_job files name steps)
steady-raw name steps = steady-then (λ files. content files name longest_image) (λ files bytes. raw_checked steps bytes) (steady-content name longest_image) (λ bytes. steady-without (raw_checked steps bytes))

steady-litmus : (name : List ℕ) → IsSteady (λ files. litmus_job files name)
steady-litmus name =
    steady-then (λ files. content files name longest_litmus) (λ files bytes. let r : Result Job Fault = Ok (LitmusJob bytes) in r) (steady-content name longest_litmus) (λ bytes. steady-without (Ok (LitmusJob bytes)))

-- a text's reading, and what follows of its bytes
steady-text : (name : List ℕ) (next : List ℕ → Result Job Fault) → IsSteady (λ files. content files name longest_text >>= next)
steady-text name next = steady-then (λ files. content files name longest_text) (λ files text. next text) (steady-content name longest_text) (λ text. steady-without (next text))

steady-form : (form : Form) → IsSteady (λ files. job_by files form)
steady-form (Raw file steps) = steady-raw file steps
steady-form (Machine file) = steady-described false file
steady-form (Private file) = steady-described true file
steady-form (Make seed) = steady-without (Ok (Print (made_of seed 4 50000)))
steady-form (Load seed) = steady-without (load_job seed)
steady-form (Litmus file) = steady-litmus file
steady-form (Asm file) = steady-text file asm_checked
steady-form (AsmSteps file steps) = steady-text file (asm_run_checked steps)

pub steady-job : (words : List (List ℕ)) → IsSteady (λ files. job_of words files)
steady-job words = steady-then (λ files. known_form (form_of words)) job_by (steady-without (known_form (form_of words))) steady-form
