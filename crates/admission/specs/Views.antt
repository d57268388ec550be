-- How contracts see what is kept: images, disks, and what guests start from.
use Rattle.std.specs.Prelude.{◌≡◌, ℕ, ◌<◌, List, [], ◌∷◌, ◌++◌, map, length, slice_index_or, Option, Some, None, IfSome}
use Rattle.std.specs.Global.{Box}
use Rattle.base_words.specs.declared.page.Page.{Page}
use Rattle.private_machine.specs.PrivateRun.{Image as Start_from}
use Rattle.elf_image.specs.declared.image.Image.{Image}
use Rattle.elf_image.specs.Physical.{memory_of}
use Rattle.outside_io.specs.declared.memory.HeldFile.{HeldFile}
use Rattle.machine_desc.specs.Described.{described_seen}
use Rattle.admission.specs.declared.guests.Start.{Start as Held}
use Rattle.admission.specs.declared.guests.Starts.{Starts as AllHeld}
use Rattle.admission.specs.declared.setup.Setup.{Setup}
use Rattle.admission.specs.declared.setup.Job.{Job as Kept}
use Rattle.admission.specs.declared.setup.Job.TheVariants as kept
use Rattle.admission.specs.Starts.{Start, blocks_of}
use Rattle.guest_asm.specs.Assembly.{assembly_seen}
use Rattle.admission.specs.Jobs.{Job, Monitored, Alone, Print, Litmus, Listing}
use Rattle.admission.specs.Stages.{bytes_at}

-- an image, as the private machine starts from it
abbrev pub image_seen : Image → Start_from
image_seen image = record { entry = image.entry; pages = length image.pages; memory = memory_of image.pages }

-- ---- disks

abbrev pub blocks_seen : List (Box Page) → List (List ℕ)
blocks_seen blocks = map (λ block. block.value) blocks

abbrev pub disks_seen : List (List (Box Page)) → List (List (List ℕ))
disks_seen disks = map blocks_seen disks

-- a guest's disk, by where its file is kept
abbrev pub disk_held : List HeldFile → Option ℕ → List (List ℕ)
disk_held files None = []
disk_held files (Some place) = blocks_of (bytes_at files place)

-- a guest's disk, by its number among the disks
abbrev pub disk_numbered : List (List (List ℕ)) → Option ℕ → List (List ℕ)
disk_numbered disks None = []
disk_numbered disks (Some number) = slice_index_or disks number []

-- the blocks are those of the files that are kept at these places
abbrev pub AreMade : List HeldFile → List ℕ → List (List (Box Page)) → Type 0
AreMade files places disks = disks_seen disks ≡ map (λ place. blocks_of (bytes_at files place)) places

-- the blocks of the file at a place have a number, behind those that were made before
pub record IsMadeAt (files : List HeldFile) (old : List (List (Box Page))) (places : List ℕ) (new : List (List (Box Page))) (place number : ℕ) : Type 0 where
  pub made : AreMade files places new
  pub more : List (List (Box Page))
  pub grown : new ≡ old ++ more
  pub there : number < length new
  pub blocks : disk_numbered (disks_seen new) (Some number) ≡ disk_held files (Some place)

-- the same for a guest, which has a disk or has none
abbrev pub IsMadeFor : List HeldFile → List ℕ → List (List (Box Page)) → List ℕ → List (List (Box Page)) → Option ℕ → Option ℕ → Type 0
IsMadeFor files old_places old places new None number = (number ≡ None) × (places ≡ old_places) × (new ≡ old)
IsMadeFor files old_places old places new (Some place) number = (n : ℕ) × (number ≡ Some n) × IsMadeAt files old places new place n

-- the file of the disk is kept
abbrev pub IsDiskKept : List HeldFile → Option ℕ → Type 0
IsDiskKept files disk = IfSome disk (λ place. place < length files)

-- ---- starts

-- each image with its disk
abbrev pub paired : List Image → List (List (List ℕ)) → List Start
paired (image ∷ images) (disk ∷ disks) = record { image = image_seen image; disk = disk } ∷ paired images disks
paired images disks = []

abbrev pub start_seen : List HeldFile → Held → Start
start_seen files start = record { image = image_seen start.image; disk = disk_held files start.disk }

abbrev pub starts_seen : List HeldFile → AllHeld → List Start
starts_seen files starts = paired starts.images (map (disk_held files) starts.disks)

-- there are so many
pub record AreAsMany (count : ℕ) (starts : AllHeld) : Type 0 where
  pub images : length starts.images ≡ count
  pub disks : length starts.disks ≡ count

-- ---- jobs

-- what the guests of a setup start from
abbrev pub starts_of : Setup → List Start
starts_of setup = paired setup.images (map (disk_numbered (disks_seen setup.disks)) setup.numbers)

abbrev pub job_seen : Kept → Job
job_seen (kept.Monitored setup sums) = Monitored (described_seen setup.machine setup.plan) (starts_of setup) sums
job_seen (kept.Alone setup) = Alone (described_seen setup.machine setup.plan) (starts_of setup)
job_seen (kept.Print made) = Print made
job_seen (kept.Litmus bytes) = Litmus bytes
job_seen (kept.Listing assembled) = Listing (assembly_seen assembled)
