-- Frames that are filled with the pages of an image.
use Rattle.std.proofs.Common.{◌≡◌, ℕ, zero, suc, ◌*◌, ◌<◌, ◌≤◌, cond, List, [], ◌∷◌, ◌++◌, is_some, length, map, replicate, get_or, take, drop, refl, sym, ap, ◌∙◌, subst, arith}
use Rattle.std.proofs.lemmas.List.{length-append, length-map, length-replicate}
use Rattle.std.proofs.lemmas.List.Elements.{All-nil}
use Rattle.std.proofs.lemmas.List.Sums.{sum_by-cons}
use Rattle.std.specs.Prelude.{flat_map, count_by}
use Rattle.std.specs.Global.{Box}
use Rattle.base_words.specs.Limits.{most_processors}
use Rattle.base_words.specs.declared.frame.Frame.{Frame}
use Rattle.base_words.specs.declared.ids.NodeId.{NodeId}
use Rattle.base_words.specs.declared.input.InputEntry.{InputEntry}
use Rattle.base_words.specs.declared.page.Page.{Page}
use Rattle.private_machine.specs.Backing.{Page as Backed}
use Rattle.private_machine.specs.Disk.{Block}
use Rattle.pmap_table.specs.PageMap.{is_moving}
use Rattle.private_machine.specs.Vcpu.{started as beginning}
use Rattle.shootdown.specs.declared.view.SidedNote.{SidedNote}
use Rattle.elf_image.specs.Physical.{memory_of}
use Rattle.elf_image.specs.declared.image.Image.{Image}
use Rattle.isolation_law.specs.GuestState.{idle}
use Rattle.isolation_law.specs.Parts.{Processor}
use Rattle.isolation_law.specs.Run.{Run}
use Rattle.isolation_law.specs.Start.{Found, Boot, IsBoot, page_at_start, pages_at_start, start as started}
use Rattle.guest_course.specs.BootCalls.{AreWhole, MayBoot, given_blocks, boot_of, found_of}
use Rattle.guest_course.specs.CourseView.{surroundings}
use Rattle.guest_course.specs.declared.site.Around.{Around}
use Rattle.guest_core.specs.GuestView.{is_loaded, loaded_count, open_count, entries_due}
use Rattle.guest_core.specs.Kept.{Kept}
use Rattle.guest_core.specs.Noting.{IsOwn, HoldsOf}
use Rattle.guest_core.specs.Starting.{booted_with, filled, MayStart}
use Rattle.guest_core.proofs.CountLemmas.{one, count_by-cons}

pub filled-none : (fs : List Frame) → filled fs [] ≡ []
filled-none [] = refl
filled-none (f ∷ fs) = refl

pub filled-more : (fs : List Frame) (ps : List (Box Page)) (p : Box Page) (d : Frame) → length ps < length fs → filled fs (ps ++ p ∷ []) ≡ filled fs ps ++ record (get_or fs (length ps) d) { page = p } ∷ []
filled-more [] ps p d lt = absurd (omega arith)
filled-more (f ∷ fs) [] p d lt = ap (λ l. record f { page = p } ∷ l) (filled-none fs)
filled-more (f ∷ fs) (q ∷ ps) p d lt = ap (λ l. record f { page = q } ∷ l) (filled-more fs ps p d (omega arith))

pub length-filled : (fs : List Frame) (ps : List (Box Page)) → length ps ≤ length fs → length (filled fs ps) ≡ length ps
length-filled [] [] lt = refl
length-filled [] (p ∷ ps) lt = absurd (omega arith)
length-filled (f ∷ fs) [] lt = refl
length-filled (f ∷ fs) (p ∷ ps) lt = ap suc (length-filled fs ps (omega arith))

pub whole-more : (fs : List Frame) (f : Frame) → AreWhole fs → length f.page.value ≡ 4096 → AreWhole (fs ++ f ∷ [])
whole-more [] f all it = (it, tt)
whole-more (x ∷ fs) f all it = (all.0, whole-more fs f all.1 it)

-- the numbers and generations stay, and the bytes are the pages'
pub found-filled : (fs : List Frame) (ps : List (Box Page)) → length fs ≡ length ps → map found_of (filled fs ps) ≡ map found_of fs
found-filled [] [] e = refl
found-filled [] (p ∷ ps) e = absurd (omega arith)
found-filled (f ∷ fs) [] e = absurd (omega arith)
found-filled (f ∷ fs) (p ∷ ps) e = ap (λ l. found_of f ∷ l) (found-filled fs ps (omega arith))

pub bytes-filled : (fs : List Frame) (ps : List (Box Page)) → length fs ≡ length ps → flat_map (λ (f : Frame). f.page.value) (filled fs ps) ≡ memory_of ps
bytes-filled [] [] e = refl
bytes-filled [] (p ∷ ps) e = absurd (omega arith)
bytes-filled (f ∷ fs) [] e = absurd (omega arith)
bytes-filled (f ∷ fs) (p ∷ ps) e = ap (λ l. p.value ++ l) (bytes-filled fs ps (omega arith))

-- there is a frame for a page that is to come
pub frame-there : (fs : List Frame) (pages yielded items rest : List (Box Page)) (p : Box Page) → length fs ≡ length pages → yielded ++ items ≡ pages → items ≡ p ∷ rest → length yielded < length fs
frame-there fs pages yielded items rest p e all next = omega (arith, e, ap length all, length-append yielded items, ap length next)

-- a guest of these frames is booted with this image
pub same-boot : (around : Around) (image : Image) (vcpus : ℕ) (fs : List Frame) (disk : List Block) (input : List InputEntry) → length fs ≡ length image.pages → boot_of around image.entry vcpus (filled fs image.pages) (given_blocks disk) input ≡ booted_with around image vcpus fs disk input
same-boot around image vcpus fs disk input e =
    let pages = length-filled fs image.pages (omega (arith, e)) in
    λ i. record {
      around = surroundings around;
      image = record { entry = image.entry; pages = pages i; memory = bytes-filled fs image.pages e i };
      vcpus = vcpus;
      disk = given_blocks disk;
      input = input;
      frames = found-filled fs image.pages e i;
    }

pub may-boot : (around : Around) (image : Image) (vcpus : ℕ) (fs : List Frame) (disk : List Block) → MayStart around image vcpus fs disk → AreWhole (filled fs image.pages) → MayBoot around vcpus (filled fs image.pages) disk
may-boot around image vcpus fs disk may whole = record {
  some_vcpus = may.some_vcpus;
  few_vcpus = may.few_vcpus;
  few_pages = subst (λ (n : ℕ). n ≤ 2048) (sym (length-filled fs image.pages (let e = may.backed in omega arith))) may.few_pages;
  few_processors = may.few_processors;
  few_frames = may.few_frames;
  on_nodes = may.on_nodes;
  whole = whole;
  unwritten = may.unwritten;
  blocks = may.blocks;
}

-- each page has its bytes
whole-bytes : (fs : List Frame) → AreWhole fs → length (flat_map (λ (f : Frame). f.page.value) fs) ≡ 4096 * length fs
whole-bytes [] all = omega arith
whole-bytes (f ∷ fs) all = omega (arith, length-append f.page.value (flat_map (λ (x : Frame). x.page.value) fs), all.0, whole-bytes fs all.1)

pub is-boot : (around : Around) (image : Image) (vcpus : ℕ) (fs : List Frame) (disk : List Block) (input : List InputEntry) → MayStart around image vcpus fs disk → AreWhole (filled fs image.pages) → IsBoot (booted_with around image vcpus fs disk input)
is-boot around image vcpus fs disk input may whole =
    let pages = length-filled fs image.pages (let e = may.backed in omega arith) in
    record {
      has_vcpu = may.some_vcpus;
      few_processors = subst (λ (n : ℕ). n ≤ most_processors) (sym (length-map around.site.processors (λ (n : NodeId). n.0))) may.few_processors;
      backed = length-map fs found_of ∙ may.backed;
      whole = ap length (sym (bytes-filled fs image.pages may.backed)) ∙ whole-bytes (filled fs image.pages) whole ∙ ap (λ (n : ℕ). 4096 * n) pages;
      blocks = may.blocks;
    }

-- ---- a guest at its start

at-replicate : {A : Type 0} (n p : ℕ) (a : A) → get_or (replicate n a) p a ≡ a
at-replicate zero p a = refl
at-replicate (suc n) zero a = refl
at-replicate (suc n) (suc p) a = at-replicate n p a

none-loaded : (n : ℕ) → count_by is_loaded (replicate n idle) ≡ 0
none-loaded zero = refl
none-loaded (suc n) = let here : one idle.loaded ≡ 0 = refl in omega (arith, here, count_by-cons idle (replicate n idle), none-loaded n)

no-loads : (b : Boot) → loaded_count (started b) ≡ 0
no-loads b = none-loaded (length b.around.processors)

none-moving : (fs : List Found) (memory : List ℕ) → count_by is_moving (pages_at_start fs memory) ≡ 0
none-moving [] memory = refl
none-moving (f ∷ fs) memory =
    let here = sum_by-cons (λ (g : Backed). cond {A = ℕ} (is_some g.move) 1 0) (page_at_start f (take 4096 memory)) (pages_at_start fs (drop 4096 memory)) in
    let rest = none-moving fs (drop 4096 memory) in omega arith

pub nothing-due : (b : Boot) → entries_due (started b) ≡ 0
nothing-due b =
    let moves : open_count (started b) ≡ 0 = none-moving b.frames b.image.memory in
    omega (arith, no-loads b, moves)

pub kept-start : (b : Boot) → Run (started b) [] (started b) → Kept b (started b) [] []
kept-start b none = record {
  run = none;
  noted = record {
    sides = All-nil (λ (n : SidedNote). n.side < length (started b).processors);
    own = All-nil IsOwn;
    made = refl;
    asked = refl;
    holds = All-nil (λ (n : SidedNote). HoldsOf (started b) n.note);
    ordered = tt;
    loaded = λ p lt. ap (λ (x : Processor). x.loaded) (sym (at-replicate (length b.around.processors) p idle));
  };
  around = refl;
  processors = length-replicate (length b.around.processors) idle;
  vcpus = length-replicate b.vcpus (beginning b.image.entry);
}
