-- What guests that are made start from.
use Rattle.std.proofs.Common.{◌≡◌, ℕ, suc, ◌+◌, ◌*◌, ◌%◌, ◌^◌, nat_le, true, false, List, [], ◌∷◌, length, map, Option, Some, None, Result, Ok, ap, refl, ◌∙◌, arith, length-append}
use Rattle.std.specs.List.{range_with_len, flat_map}
use Rattle.std.proofs.lemmas.List.FromFn.{length-map-range_with_len}
use Rattle.byteorder.specs.Endian.{big_bytes}
use Rattle.private_machine.specs.PrivateRun.{Image}
use Rattle.elf_image.specs.Fields.{elf_header}
use Rattle.elf_image.specs.FirstFault.{first_fault}
use Rattle.elf_image.specs.Physical.{image_memory}
use Rattle.machine_desc.specs.declared.machine.GuestSpec.{GuestSpec}
use Rattle.admission.specs.declared.faults.Fault.{Fault}
use Rattle.boot_frames.specs.declared.answers.Shortage.{Shortage}
use Rattle.machine_desc.specs.Described.{Described}
use Rattle.admission.specs.Chain.{Files, ◌>>=◌, content, longest_image, longest_disk}
use Rattle.admission.specs.Jobs.{Monitored, short_in, served, checked, job_from, guests_of}
use Rattle.admission.specs.Starts.{Start, elf_image, guest_image, of_guest, unless, image_at, disk_at, start_at, starts_from, blocks_of}
use Rattle.guest_gen.specs.Description.{image_name, disk_name}
use Rattle.guest_gen.specs.Disk.{disk_word, disk_of}
use Rattle.guest_gen.specs.Image.{image_of}
use Rattle.admission.specs.Generated.{spec_of, disk_if_any}
use Rattle.admission.specs.MadeRun.{made_image, made_disk, made_start}

-- ---- lengths

pub length_image : (start : ℕ) → length (image_of start) ≡ 836
unfolding image_of
length_image start = refl

length_words : (ws : List ℕ) → length (flat_map (big_bytes 4) ws) ≡ 4 * length ws
length_words [] = refl
length_words (w ∷ ws) = omega (arith, length-append (big_bytes 4 w) (flat_map (big_bytes 4) ws), length_words ws)

pub length_disk : (seed : ℕ) → length (disk_of seed) ≡ 32768
unfolding disk_of
length_disk seed = omega (arith, length_words (map (disk_word seed) (range_with_len 0 8192)), length-map-range_with_len (disk_word seed) 0 8192)

-- ---- files that are found

-- a file that is there and fits
content_found : (f : Files) (name : List ℕ) (most : ℕ) (bytes : List ℕ) → f name ≡ Some bytes → nat_le (length bytes) most ≡ true → content f name most ≡ Ok bytes
content_found f name most bytes there fits = rw (there, fits) refl

module _ (f : Files) (guest : ℕ) (spec : GuestSpec) where
  image_found : (bytes : List ℕ) (image : Image) → content f spec.image longest_image ≡ Ok bytes → guest_image spec bytes ≡ Ok image → image_at f guest spec ≡ Ok image
  image_found bytes image there loads =
      ap (λ (r : Result (List ℕ) Fault). r >>= λ bytes. of_guest guest (guest_image spec bytes)) there ∙ ap (of_guest guest) loads

  start_found : (image : Image) (disk : List (List ℕ)) → image_at f guest spec ≡ Ok image → disk_at f spec.disk ≡ Ok disk → start_at f guest spec ≡ Ok (record { image = image; disk = disk })
  start_found image disk here there =
      ap (λ (r : Result Image Fault). r >>= λ image. disk_at f spec.disk >>= λ disk. Ok (record { image = image; disk = disk })) here
      ∙ ap (λ (r : Result (List (List ℕ)) Fault). r >>= λ disk. Ok (record { image = image; disk = disk })) there

  pub starts_next : (specs : List GuestSpec) (start : Start) (starts : List Start) → start_at f guest spec ≡ Ok start → starts_from f (suc guest) specs ≡ Ok starts
      → starts_from f guest (spec ∷ specs) ≡ Ok (start ∷ starts)
  unfolding starts_from
  starts_next specs start starts one others =
      ap (λ (r : Result Start Fault). r >>= λ start. starts_from f (suc guest) specs >>= λ starts. Ok (start ∷ starts)) one
      ∙ ap (λ (r : Result (List Start) Fault). r >>= λ starts. Ok (start ∷ starts)) others

pub starts_none : (f : Files) (guest : ℕ) → starts_from f guest [] ≡ Ok []
unfolding starts_from
starts_none f guest = refl

-- ---- guests that are made

-- an image that is made loads
image_loads : ((start : ℕ) → first_fault (image_of start) 64 ≡ None) → ((start : ℕ) → (elf_header (image_of start)).e_entry ≡ 0xC000_0200)
    → (start : ℕ) → elf_image (image_of start) 64 ≡ Ok (record { entry = 0xC000_0200; pages = 64; memory = image_memory (image_of start) 64 })
image_loads sound entry start =
    ap (λ (r : _). unless r (record { entry = (elf_header (image_of start)).e_entry; pages = 64; memory = image_memory (image_of start) 64 })) (sound start)
    ∙ ap (λ (e : ℕ). Ok (record { entry = e; pages = 64; memory = image_memory (image_of start) 64 })) (entry start)

pub disk_made : (f : Files) (seed : ℕ) → f disk_name ≡ Some (disk_of seed) → disk_at f (Some disk_name) ≡ Ok (blocks_of (disk_of seed))
disk_made f seed there =
    let fits : nat_le (length (disk_of seed)) longest_disk ≡ true = rw length_disk refl in
    ap (λ (r : Result (List ℕ) Fault). r >>= λ bytes. Ok (blocks_of bytes))
    (content_found f disk_name longest_disk (disk_of seed) there fits)

pub start_made : ((start : ℕ) → first_fault (image_of start) 64 ≡ None) → ((start : ℕ) → (elf_header (image_of start)).e_entry ≡ 0xC000_0200)
    → (f : Files) (seed guest : ℕ) → f (image_name guest) ≡ Some (image_of ((seed + guest) % 2 ^ 32)) → disk_at f (disk_if_any guest) ≡ Ok (made_disk seed guest)
    → start_at f guest (spec_of guest) ≡ Ok (made_start seed guest)
start_made sound entry f seed guest there disk =
    let start = (seed + guest) % 2 ^ 32 in
    let fits : nat_le (length (image_of start)) longest_image ≡ true = rw length_image refl in
    let bytes = content_found f (image_name guest) longest_image (image_of start) there fits in
    start_found f guest (spec_of guest) (made_image seed guest) (made_disk seed guest)
    (image_found f guest (spec_of guest) (image_of start) (made_image seed guest) bytes (image_loads sound entry start)) disk

-- ---- the job

-- guests that start and that fit are run
pub guests_run : (f : Files) (d : Described) (starts : List Start) → starts_from f 0 d.guests ≡ Ok starts → short_in d ≡ None
    → guests_of false f d ≡ Ok (Monitored d starts true)
guests_run f d starts start fit =
    ap (λ (r : Result (List Start) Fault). r >>= checked false d) start
    ∙ ap (λ (short : Option Shortage). served short >>= λ _. Ok (job_from false d starts)) fit
