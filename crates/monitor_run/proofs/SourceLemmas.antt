-- What guests are started from: their images, and their disks by number.
use Rattle.std.proofs.Common.{◌≡◌, ◌∙◌, ℕ, zero, suc, ◌<◌, ◌≤◌, List, [], ◌∷◌, ◌++◌, map, length, get_or, Option, None, Some, refl, ap, sym, subst, length-append, arith}
use Rattle.std.specs.List.{AllByRecursion as ByRecursion}
use Rattle.std.specs.Prelude.{All}
use Rattle.std.specs.Arc.{arc_value}
use Rattle.std.specs.Global.{Box, Global}
use Rattle.std.specs.declared.sync.Arc.{Arc}
use Rattle.base_words.specs.declared.page.Page.{Page}
use Rattle.cow_disk.specs.DiskView.{bytes_of}
use Rattle.std.proofs.lemmas.List.Elements.{All-from_recursion}
use Rattle.elf_image.specs.declared.image.Image.{Image}
use Rattle.private_machine.specs.Disk.{as_given}
use Rattle.guest_course.specs.BootCalls.{given_blocks}
use Rattle.machine_desc.specs.declared.machine.GuestSpec.{GuestSpec}
use Rattle.admission.specs.Started.{AreStarted, IsStarted}
use Rattle.admission.specs.Views.{disk_numbered, image_seen, paired}
use Rattle.guest_boot.specs.declared.source.Source.{Source}
use Rattle.guest_boot.specs.Starting.{AreSources, IsSource}
use Rattle.monitor_run.specs.Sources.{shared_blocks, source_of, sources_of}

-- a disk of which nothing is written has the blocks of which it was made
pub given_blocks-as_given : (disk : List (List ℕ)) → given_blocks (map as_given disk) ≡ disk
given_blocks-as_given [] = refl
given_blocks-as_given (block ∷ disk) = ap (λ (l : List (List ℕ)). block ∷ l) (given_blocks-as_given disk)

-- the source of the image behind the first ones has the disk of its place
pub sources_of-next : (disks : List (List (List ℕ))) (images : List Image) (numbers : List (Option ℕ)) (image : Image) (number : Option ℕ) → length images < length numbers → number ≡ get_or numbers (length images) None
    → sources_of disks (images ++ image ∷ []) numbers ≡ sources_of disks images numbers ++ source_of disks image number ∷ []
sources_of-next disks [] [] image number there is = absurd (omega (arith, there))
sources_of-next disks [] (n ∷ numbers) image number there is = ap (λ (x : Option ℕ). source_of disks image x ∷ []) (sym is)
sources_of-next disks (i ∷ images) [] image number there is = absurd (omega (arith, there))
sources_of-next disks (i ∷ images) (n ∷ numbers) image number there is = ap (λ (l : List Source). source_of disks i n ∷ l) (sources_of-next disks images numbers image number (omega (arith, there)) is)

-- an image that comes behind the first ones is one of all
pub image-there : (all images left behind : List Image) (image : Image) → images ++ left ≡ all → left ≡ image ∷ behind → length images < length all
image-there all images left behind image is next =
    let count = sym (ap (λ (l : List Image). length l) is) ∙ length-append images left in
    let more = ap (λ (l : List Image). length l) next in
    omega (arith, count, more)

-- no guest has more blocks than a disk may have
few_by_number : (specs : List GuestSpec) (images : List Image) (f : Option ℕ → List (List ℕ)) (numbers : List (Option ℕ)) → length images ≡ length numbers → AreStarted specs (paired images (map f numbers))
    → ByRecursion (λ (number : Option ℕ). length (f number) ≤ 1024) numbers
few_by_number specs images f [] same are = tt
few_by_number specs [] f (n ∷ numbers) same are = absurd (omega (arith, same))
few_by_number [] (image ∷ images) f (n ∷ numbers) same are = absurd are
few_by_number (spec ∷ specs) (image ∷ images) f (n ∷ numbers) same are = (are.0.few_blocks, few_by_number specs images f numbers (omega (arith, same)) are.1)

pub few-started : (specs : List GuestSpec) (images : List Image) (f : Option ℕ → List (List ℕ)) (numbers : List (Option ℕ)) → length images ≡ length numbers → AreStarted specs (paired images (map f numbers))
    → All (λ (number : Option ℕ). length (f number) ≤ 1024) numbers
few-started specs images f numbers same are = All-from_recursion (λ (number : Option ℕ). length (f number) ≤ 1024) numbers (few_by_number specs images f numbers same are)

-- each guest that starts has an image of its pages, and a disk of whole blocks
IsSource-started : (disks : List (List (List ℕ))) (spec : GuestSpec) (image : Image) (number : Option ℕ) → IsStarted spec (record { image = image_seen image; disk = disk_numbered disks number }) → IsSource spec (source_of disks image number)
IsSource-started disks spec image number started =
    let same = sym (given_blocks-as_given (disk_numbered disks number)) in
    record {
      pages = started.pages;
      unwritten = ap (λ (l : List (List ℕ)). map as_given l) same;
      blocks = subst (λ (l : List (List ℕ)). (k : ℕ) → k < length l → length (get_or l k []) ≡ 4096) same started.blocks;
    }

pub AreSources-started : (disks : List (List (List ℕ))) (specs : List GuestSpec) (images : List Image) (numbers : List (Option ℕ)) → length images ≡ length numbers → AreStarted specs (paired images (map (disk_numbered disks) numbers))
    → AreSources specs (sources_of disks images numbers)
AreSources-started disks [] [] numbers same are = tt
AreSources-started disks [] (image ∷ images) [] same are = absurd (omega (arith, same))
AreSources-started disks [] (image ∷ images) (n ∷ numbers) same are = absurd are
AreSources-started disks (spec ∷ specs) [] numbers same are = absurd are
AreSources-started disks (spec ∷ specs) (image ∷ images) [] same are = absurd are
AreSources-started disks (spec ∷ specs) (image ∷ images) (n ∷ numbers) same are = (IsSource-started disks spec image n are.0, AreSources-started disks specs images numbers (omega (arith, same)) are.1)

-- the blocks of a number are those of the base that stands there, and none where there is none
pub blocks_at : (bases : List (Arc (List (Box Page)) Global)) (n : ℕ) (d : Arc (List (Box Page)) Global) → n < length bases → disk_numbered (shared_blocks bases) (Some n) ≡ bytes_of (arc_value (get_or bases n d))
blocks_at [] n d there = absurd (omega arith)
blocks_at (b ∷ bases) zero d there = refl
blocks_at (b ∷ bases) (suc n) d there = blocks_at bases n d (omega arith)

pub blocks_past : (bases : List (Arc (List (Box Page)) Global)) (n : ℕ) → length bases ≤ n → disk_numbered (shared_blocks bases) (Some n) ≡ []
blocks_past [] n past = refl
blocks_past (b ∷ bases) zero past = absurd (omega arith)
blocks_past (b ∷ bases) (suc n) past = blocks_past bases n (omega arith)
