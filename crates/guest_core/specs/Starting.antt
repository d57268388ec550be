-- What a guest is booted with.
use Rattle.std.specs.Prelude.{◌≡◌, ℕ, ◌*◌, ◌<◌, ◌≤◌, ◌^◌, List, [], ◌∷◌, length, map, slice_index_or}
use Rattle.std.specs.Global.{Box}
use Rattle.base_words.specs.Limits.{most_processors}
use Rattle.base_words.specs.declared.page.Page.{Page}
use Rattle.base_words.specs.declared.frame.Frame.{Frame}
use Rattle.base_words.specs.declared.input.InputEntry.{InputEntry}
use Rattle.private_machine.specs.Disk.{Block, as_given}
use Rattle.private_machine.specs.PrivateRun.{Image as Given}
use Rattle.elf_image.specs.declared.image.Image.{Image}
use Rattle.elf_image.specs.Physical.{memory_of}
use Rattle.isolation_law.specs.Start.{Boot}
use Rattle.guest_course.specs.declared.site.Around.{Around}
use Rattle.guest_course.specs.CourseView.{surroundings}
use Rattle.guest_course.specs.BootCalls.{AllBelow, given_blocks, found_of}

-- an image, as the private machine starts from it
abbrev pub image_of : Image → Given
image_of image = record { entry = image.entry; pages = length image.pages; memory = memory_of image.pages }

-- each page has the next of these frames, with the image's bytes in it; the disk has its blocks as they were given
abbrev pub booted_with : Around → Image → ℕ → List Frame → List Block → List InputEntry → Boot
booted_with around image vcpus frames disk input = record {
  around = surroundings around;
  image = image_of image;
  vcpus = vcpus;
  disk = given_blocks disk;
  input = input;
  frames = map found_of frames;
}

-- the frames with the pages' bytes, each with those of the page at its place
abbrev pub filled : List Frame → List (Box Page) → List Frame
filled (f ∷ frames) (page ∷ pages) = record f { page = page } ∷ filled frames pages
filled frames pages = []

-- there are virtual processors and not too many, nor too many pages, processors and frames of the machine; a frame for each page; and
-- the disk is as it was given, in whole blocks
pub record MayStart (around : Around) (image : Image) (vcpus : ℕ) (frames : List Frame) (disk : List Block) : Type 0 where
  pub some_vcpus : 0 < vcpus
  pub few_vcpus : vcpus ≤ 4
  pub few_pages : length image.pages ≤ 2048
  pub backed : length frames ≡ length image.pages
  pub few_processors : length around.site.processors ≤ most_processors
  pub few_guests : length around.site.homes ≤ 8
  pub few_frames : around.site.shape.nodes * around.site.shape.frames < 2 ^ 32
  pub on_nodes : AllBelow around.site.shape.nodes around.site.processors
  pub at_home : around.home.0 < around.site.shape.nodes
  pub unwritten : disk ≡ map as_given (given_blocks disk)
  pub blocks : (k : ℕ) → k < length (given_blocks disk) → length (slice_index_or (given_blocks disk) k []) ≡ 4096
