-- What is to be done, and why it is refused: all stages in order.
use Rattle.std.specs.Prelude.{ℕ, List, [], ◌∷◌, map, length, Bool, true, false, codes, Option, Some, None, Result, Ok, Err}
use Rattle.private_machine.specs.PrivateRun.{Image}
use Rattle.guest_asm.specs.Assembly.{Assembly}
use Rattle.outside_io.specs.declared.memory.HeldFile.{HeldFile}
use Rattle.guest_gen.specs.declared.made.Made.{Made}
use Rattle.guest_gen.specs.Description.{description_text}
use Rattle.guest_gen.specs.Made.{files_of, made_of}
use Rattle.elf_image.specs.Physical.{image_memory}
use Rattle.node_frames.specs.Layout.{Layout}
use Rattle.node_frames.specs.Left.{first_left}
use Rattle.boot_frames.specs.Chain.{first_short}
use Rattle.boot_frames.specs.Claims.{claims_of}
use Rattle.boot_frames.specs.Needs.{need_of}
use Rattle.boot_frames.specs.declared.answers.Shortage.{Shortage}
use Rattle.boot_frames.specs.declared.answers.Shortage.TheVariants.{Memory, Cell, Guest}
use Rattle.machine_desc.specs.declared.machine.GuestSpec.{GuestSpec}
use Rattle.machine_desc.specs.declared.plan.Item.{Item}
use Rattle.machine_desc.specs.declared.plan.Item.TheVariants.{Run}
use Rattle.machine_desc.specs.Described.{Described, description_of}
use Rattle.admission.specs.declared.faults.Fault.{Fault}
use Rattle.admission.specs.declared.faults.Fault.TheVariants.{CacheAdmission, Admission}
use Rattle.admission.specs.Words.{Form, Raw, Machine, Private, Make, Load, Litmus as LitmusForm, Asm, AsmSteps, form_of}
use Rattle.admission.specs.Chain.{Files, ◌>>=◌, known_form, content, of_description, assembled, longest_description, longest_litmus, longest_text, longest_image}
use Rattle.admission.specs.Starts.{Start, raw_image, of_guest, starts_from}
use Rattle.admission.specs.Generated.{generated}
use Rattle.admission.specs.MadeRun.{made_starts}
use Rattle.admission.specs.Stages.{known, look}

-- what is to be done
pub data Job : Type 0 where
  -- what a description says, under the monitor, from these images and disks; with sums or without
  Monitored : Described → List Start → Bool → Job
  -- the same, each guest alone on its private machine
  Alone : Described → List Start → Job
  -- what is made is printed
  Print : Made → Job
  -- what a litmus file of these bytes asks for, or its refusal
  Litmus : List ℕ → Job
  -- what a text is assembled to is printed
  Listing : Assembly → Job

-- how the machine's frames lie
abbrev pub layout_in : Described → Layout
layout_in d = record { nodes = d.nodes; frames = d.frames; cells = d.cells }

-- the first cell that doesn't get the frames of its cache, or else the first guest that doesn't get its own, each of what those before
-- it left
abbrev pub short_in : Described → Option Shortage
short_in d = first_short (layout_in d) (claims_of (length d.lends) d.cache (map need_of d.guests)) (first_left (layout_in d) d.lends)

-- such a cell or guest is refused; memory is never short here
abbrev pub served : Option Shortage → Result (Unit {0}) Fault
served None = Ok tt
served (Some Memory) = Ok tt
served (Some (Cell cell needs has)) = Err (CacheAdmission cell needs has)
served (Some (Guest guest needs has)) = Err (Admission guest needs has)

-- the cells and the guests have to get their frames
abbrev pub checks : Described → Result (Unit {0}) Fault
checks d = served (short_in d)

abbrev pub job_from : Bool → Described → List Start → Job
job_from true d starts = Alone d starts
job_from false d starts = Monitored d starts true

abbrev pub checked : Bool → Described → List Start → Result Job Fault
checked alone d starts = checks d >>= λ _. Ok (job_from alone d starts)

-- the guests' files, and then the checks
abbrev pub guests_of : Bool → Files → Described → Result Job Fault
guests_of alone files d = starts_from files 0 d.guests >>= checked alone d

-- a description's faults, and then its guests
abbrev pub described_from : Bool → Files → List ℕ → Result Job Fault
described_from alone files bytes = of_description (description_of bytes) >>= guests_of alone files

-- the description's reading, its faults, and then its guests
abbrev pub described_job : Bool → Files → List ℕ → Result Job Fault
described_job alone files name = content files name longest_description >>= described_from alone files

-- files that are at hand, and no others
abbrev pub held_or_none : Option (Option (List ℕ)) → Option (List ℕ)
held_or_none None = None
held_or_none (Some held) = held

abbrev pub at_hand : List HeldFile → Files
at_hand files name = held_or_none (look (known files) name)

-- what is made from a number for four guests of 50,000 steps a run, with its files at hand: its description's faults, and then its guests
abbrev pub load_job : ℕ → Result Job Fault
load_job seed = described_from false (at_hand (files_of seed 4)) (description_text 4 50000)

-- the run of what is made
abbrev pub made_run : ℕ → Job
made_run seed = Monitored (generated 4 50000) (made_starts seed) true

-- a guest of the command line has 16 pages and one virtual processor, on one node of 16 frames with one processor; its image is a raw
-- file or an ELF file, whose name isn't kept
abbrev pub single_guest : Bool → GuestSpec
single_guest raw = record { image = codes "guest"; raw = raw; pages = 16; vcpus = 1; node = record { 0 = 0 }; disk = None; profile = 1 }

abbrev pub single_items : ℕ → List Item
single_items steps = Run (record { 0 = 0 }) (record { 0 = 0 }) (record { 0 = 0 }) steps ∷ []

abbrev pub single_described : Bool → ℕ → Described
single_described raw steps = record {
  nodes = 1;
  frames = 16;
  cells = record { 0 = 0 } ∷ [];
  processors = record { 0 = 0 } ∷ [];
  lends = 0 ∷ [];
  cache = 0;
  guests = single_guest raw ∷ [];
  policy = record { migrate = 0; replicate = 0 };
  items = single_items steps;
  input = [] ∷ [];
}

abbrev pub single_from : Bool → ℕ → Image → Job
single_from raw steps image = Monitored (single_described raw steps) (record { image = image; disk = [] } ∷ []) false

abbrev pub raw_checked : ℕ → List ℕ → Result Job Fault
raw_checked steps bytes = of_guest 0 (raw_image bytes 16) >>= λ image. Ok (single_from true steps image)

-- the raw file's reading, and then its image's faults
abbrev pub raw_job : Files → List ℕ → ℕ → Result Job Fault
raw_job files name steps = content files name longest_image >>= raw_checked steps

-- the litmus file's reading; what it asks for is the run's to read
abbrev pub litmus_job : Files → List ℕ → Result Job Fault
litmus_job files name = content files name longest_litmus >>= λ bytes. Ok (Litmus bytes)

-- the image of what was assembled, in the guest's memory; it has no fault
abbrev pub asm_image : Assembly → Image
asm_image assembly = record { entry = assembly.entry; pages = 16; memory = image_memory assembly.image 16 }

abbrev pub asm_from : ℕ → Assembly → Job
asm_from steps assembly = single_from false steps (asm_image assembly)

-- the text's reading, and then its first line that is refused; what it is assembled to is printed
abbrev pub asm_checked : List ℕ → Result Job Fault
asm_checked text = assembled text >>= λ assembly. Ok (Listing assembly)

abbrev pub asm_job : Files → List ℕ → Result Job Fault
asm_job files name = content files name longest_text >>= asm_checked

-- or its image is run, as a raw guest is
abbrev pub asm_run_checked : ℕ → List ℕ → Result Job Fault
asm_run_checked steps text = assembled text >>= λ assembly. Ok (asm_from steps assembly)

abbrev pub asm_run : Files → List ℕ → ℕ → Result Job Fault
asm_run files name steps = content files name longest_text >>= asm_run_checked steps

abbrev pub job_by : Files → Form → Result Job Fault
job_by files (Raw file steps) = raw_job files file steps
job_by files (Machine file) = described_job false files file
job_by files (Private file) = described_job true files file
job_by files (Make seed) = Ok (Print (made_of seed 4 50000))
job_by files (Load seed) = load_job seed
job_by files (LitmusForm file) = litmus_job files file
job_by files (Asm file) = asm_job files file
job_by files (AsmSteps file steps) = asm_run files file steps

-- what the words and the files ask for
abbrev pub job_of : List (List ℕ) → Files → Result Job Fault
job_of words files = known_form (form_of words) >>= job_by files
