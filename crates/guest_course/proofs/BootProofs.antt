-- A guest that is booted is the law's start.
use Rattle.std.proofs.Common.{◌≡◌, ℕ, zero, suc, ◌+◌, ◌*◌, ◌^◌, slice_index, ◌<◌, ◌≤◌, false, List, [], ◌∷◌, ◌++◌, Option, Some, None, length, map, flat_map, get_or, option_map, replicate, take, drop, refl, sym, ap, ◌∙◌, subst, arith, Bool}
use Rattle.std.proofs.lemmas.List.{length-map, length-append, length-replicate}
use Rattle.std.proofs.Math.Nat.{suc-mul, mul-le-mul_right}
use Rattle.base_words.specs.Limits.{most_processors, most_cells}
use Rattle.private_machine.specs.DevicePage.{nothing_set}
use Rattle.private_machine.specs.Disk.{Block}
use Rattle.private_machine.specs.Showing.{shown_by, shown_from}
use Rattle.std.specs.List.{Contains}
use Rattle.base_words.specs.declared.frame.Frame.{Frame}
use Rattle.base_words.specs.declared.ids.NodeId.{NodeId}
use Rattle.base_words.specs.declared.input.InputEntry.{InputEntry}
use Rattle.private_machine.specs.Vcpu.{started}
use Rattle.private_machine.specs.SecondLevel.{no_seconds}
use Rattle.private_machine.specs.Operation.{Operation as Purpose}
use Rattle.private_machine.specs.Policy.{no_misses}
use Rattle.guest_devs.specs.DeviceState.{DeviceState, fresh}
use Rattle.page_policy.specs.Pages.{AreCounters}
use Rattle.pmap_table.specs.BackedPages.{own_page}
use Rattle.private_machine.specs.RegisterPage.{has_page}
use Rattle.isolation_law.specs.Mirrors.{blocks_for}
use Rattle.isolation_law.specs.Surroundings.{Surroundings, node_of_processor}
use Rattle.isolation_law.specs.GuestState.{idle}
use Rattle.isolation_law.specs.Parts.{Processor}
use Rattle.isolation_law.specs.Start.{pages_at_start, IsBoot, start}
use Rattle.guest_course.specs.SkipView.{skip_of}
use Rattle.guest_course.specs.CourseView.{surroundings, processor_of, purpose_of, due_of, hand_of, got_of, state_of}
use Rattle.guest_course.specs.CourseRules.{AllStand, IsSound}
use Rattle.guest_course.specs.declared.site.Around.{Around}
use Rattle.guest_course.specs.declared.course.Course.{Course}
use Rattle.guest_course.specs.BootCalls.{found_of, given_blocks, boot_of, free_place, AreWhole, AllBelow, MayBoot}
use Rattle.guest_course.specs.Failures.{dead_cells}
use Rattle.guest_course.proofs.RebackLemmas.{IsWell}

taken : (bytes rest : List ℕ) (n : ℕ) → length bytes ≡ n → take n (bytes ++ rest) ≡ bytes
taken [] rest zero e = refl
taken [] rest (suc n) e = cc
taken (b ∷ bytes) rest zero e = cc
taken (b ∷ bytes) rest (suc n) e = ap (λ l. b ∷ l) (taken bytes rest n (omega arith))

dropped : (bytes rest : List ℕ) (n : ℕ) → length bytes ≡ n → drop n (bytes ++ rest) ≡ rest
dropped [] rest zero e = refl
dropped [] rest (suc n) e = cc
dropped (b ∷ bytes) rest zero e = cc
dropped (b ∷ bytes) rest (suc n) e = dropped bytes rest n (omega arith)

-- the pages, each with the next of the frames
pub pages-start : (frames : List Frame) → AreWhole frames → pages_at_start (map found_of frames) (flat_map (λ (f : Frame). f.page.value) frames) ≡ map own_page frames
pages-start [] whole = refl
pages-start (f ∷ frames) whole =
    let rest = flat_map (λ (g : Frame). g.page.value) frames in
    ap (λ bytes. record { master = record { frame = f.number.0; generation = f.generation; bytes = bytes }; shared = false; replicas = []; mapped = replicate most_processors false; move = None } ∷ pages_at_start (map found_of frames) (drop 4096 (f.page.value ++ rest))) (taken f.page.value rest 4096 whole.0)
    ∙ ap (λ (l : List ℕ). own_page f ∷ pages_at_start (map found_of frames) l) (dropped f.page.value rest 4096 whole.0)
    ∙ ap (λ l. own_page f ∷ l) (pages-start frames whole.1)

memory-length : (frames : List Frame) → AreWhole frames → length (flat_map (λ (f : Frame). f.page.value) frames) ≡ 4096 * length frames
memory-length [] whole = refl
memory-length (f ∷ frames) whole =
    length-append f.page.value (flat_map (λ (g : Frame). g.page.value) frames) ∙ (let rest = memory-length frames whole.1 in let here = whole.0 in omega arith)

-- the processors, on which nothing is loaded
pub idle-places : (frames : ℕ) (nodes : List NodeId) → map processor_of (map (free_place frames) nodes) ≡ replicate (length nodes) idle
idle-places frames [] = refl
idle-places frames (n ∷ nodes) = ap (λ l. idle ∷ l) (idle-places frames nodes)

idle-loaded : (count p : ℕ) → (get_or (replicate count idle) p idle).loaded ≡ None
idle-loaded zero p = refl
idle-loaded (suc count) zero = refl
idle-loaded (suc count) (suc p) = idle-loaded count p

pub nothing-loaded : (ps : List Processor) (count p v : ℕ) → ps ≡ replicate count idle → (get_or ps p idle).loaded ≡ Some v → ⊥
nothing-loaded ps count p v is loaded = none (sym (idle-loaded count p) ∙ ap (λ l. (get_or l p idle).loaded) (sym is) ∙ loaded)
  where
    none : None ≡ Some v → ⊥
    none e = cc

-- each processor stands at its node
free-stand : (around : Surroundings) (frames k : ℕ) (nodes : List NodeId) → frames ≡ around.frames → AllBelow (length around.nodes) nodes
    → ((i : ℕ) → i < length nodes → (get_or nodes i (record { 0 = 0 })).0 ≡ node_of_processor around (k + i)) → AllStand around k (map (free_place frames) nodes)
free-stand around frames k [] same below told = tt
free-stand around frames k (n ∷ nodes) same below told = (
  record {
    node = told 0 (omega arith) ∙ ap (node_of_processor around) (let e : k + 0 ≡ k = omega arith in e);
    is_node = below.0;
    first = ap (λ (m : ℕ). n.0 * m) same;
    past = ap (λ (m : ℕ). n.0 * frames + m) same;
  },
  free-stand around frames (suc k) nodes same below.1
      (λ i lt. told (suc i) (omega arith) ∙ ap (node_of_processor around) (let e : k + suc i ≡ suc k + i = omega arith in e)),
)

-- what a course has that is booted
pub record Booted (c : Course) (around : Around) (entry vcpus : ℕ) (frames : List Frame) (disk : List Block) (input : List InputEntry) : Type 0 where
  pub around_is : c.around ≡ around
  pub vcpus_are : c.vcpus.items ≡ replicate vcpus (started entry)
  pub blocks_are : c.blocks.items ≡ blocks_for (has_page around.profile) (replicate vcpus (started entry))
  pub devs : c.devs.state ≡ fresh vcpus (length frames) input
  pub disk_is : c.disk ≡ disk
  pub pages : c.pmap.pages ≡ map own_page frames
  pub spares : c.pmap.spares ≡ []
  pub places : c.places.items ≡ map (free_place around.site.shape.frames) around.site.processors
  pub seconds : c.seconds.items ≡ replicate vcpus no_seconds
  pub counters : c.counters ≡ replicate (length frames) (no_misses around.site.shape.nodes)
  pub counted : AreCounters (length frames) around.site.shape.nodes c.counters
  pub operations : c.operations.items ≡ replicate (length frames) None
  pub due : c.due.items ≡ replicate (length around.site.processors) None
  pub sent_from : c.sent_from.items ≡ []
  pub received : c.received.items ≡ []
  pub discarded : c.discarded.items ≡ []
  pub skips : c.skips.items ≡ []
  pub hand : c.hand ≡ None
  pub dead : c.dead ≡ None
  pub ended : c.ended ≡ None

map-replicate : {A B : Type 0} (f : A → B) (n : ℕ) (a : A) → map f (replicate n a) ≡ replicate n (f a)
map-replicate f zero a = refl
map-replicate f (suc n) a = ap (λ l. f a ∷ l) (map-replicate f n a)

node-count : (around : Around) → length (surroundings around).nodes ≡ around.site.shape.nodes
node-count around = length-map around.site.shape.cells _ ∙ around.site.shape.has_cells

pub booted-state : (c : Course) (around : Around) (entry vcpus : ℕ) (frames : List Frame) (disk : List Block) (input : List InputEntry) → MayBoot around vcpus frames disk → Booted c around entry vcpus frames disk input
    → state_of c ≡ start (boot_of around entry vcpus frames (given_blocks disk) input)
booted-state c around entry vcpus frames disk input may b =
    let count : length (map found_of frames) ≡ length frames = length-map frames found_of in
    let pages = b.pages ∙ sym (pages-start frames may.whole) in
    let blocks = b.disk_is ∙ may.unwritten in
    let operations = ap (map purpose_of) b.operations ∙ map-replicate purpose_of (length frames) None ∙ ap (λ (n : ℕ). replicate {A = Option Purpose} n None) (sym count) in
    let misses = b.counters ∙ (λ i. replicate (sym count i) (no_misses (sym (node-count around) i))) in
    let processors : length around.site.processors ≡ length (surroundings around).processors = sym (length-map around.site.processors _) in
    λ i. record {
      around = surroundings (b.around_is i);
      vcpus = b.vcpus_are i;
      blocks = b.blocks_are i;
      devices = (b.devs i).page;
      disk = blocks i;
      sent_from = map (λ x. x.0) (b.sent_from i);
      received = map got_of (b.received i);
      discarded = map got_of (b.discarded i);
      skips = map skip_of (b.skips i);
      hand = option_map hand_of (b.hand i);
      end = b.ended i;
      closing = None;
      pages = pages i;
      operations = operations i;
      misses = misses i;
      spares = b.spares i;
      processors = (ap (map processor_of) b.places ∙ idle-places around.site.shape.frames around.site.processors ∙ ap (λ n. replicate n idle) processors) i;
      due = (ap (map due_of) b.due ∙ map-replicate due_of (length around.site.processors) None ∙ ap (λ n. replicate n None) processors) i;
      seconds = b.seconds i;
      dead = dead_cells (b.dead i);
    }

-- the boot is the law's
pub is-boot : (around : Around) (entry vcpus : ℕ) (frames : List Frame) (disk : List Block) (input : List InputEntry) → MayBoot around vcpus frames disk → IsBoot (boot_of around entry vcpus frames (given_blocks disk) input)
is-boot around entry vcpus frames disk input may = record {
  has_vcpu = may.some_vcpus;
  few_processors = subst (λ (n : ℕ). n ≤ most_processors) (sym (length-map around.site.processors _)) may.few_processors;
  backed = length-map frames found_of;
  whole = memory-length frames may.whole;
  blocks = may.blocks;
}

-- nothing is shown yet
shown-start : (entry n : ℕ) → map shown_by (replicate n (started entry)) ≡ shown_from false (replicate n false) (replicate n false)
shown-start entry zero = refl
shown-start entry (suc n) = ap (λ l. record { halted = false; called = false; packet = false } ∷ l) (shown-start entry n)

index-told : (nodes : List NodeId) (i : ℕ) → i < length nodes → (get_or nodes i (record { 0 = 0 })).0 ≡ slice_index (map (λ (n : NodeId). n.0) nodes) i
index-told [] i lt = absurd (omega arith)
index-told (n ∷ nodes) zero lt = refl
index-told (n ∷ nodes) (suc i) lt = index-told nodes i (omega arith)

places-stand : (around : Around) → AllBelow around.site.shape.nodes around.site.processors → AllStand (surroundings around) 0 (map (free_place around.site.shape.frames) around.site.processors)
places-stand around below = free-stand (surroundings around) around.site.shape.frames 0 around.site.processors refl (subst (λ (n : ℕ). AllBelow n around.site.processors) (sym (node-count around)) below) (λ i lt. index-told around.site.processors i lt ∙ ap (node_of_processor (surroundings around)) (let e : i ≡ 0 + i = omega arith in e))

pub booted-sound : (c : Course) (around : Around) (entry vcpus : ℕ) (frames : List Frame) (disk : List Block) (input : List InputEntry) → MayBoot around vcpus frames disk → Booted c around entry vcpus frames disk input
    → IsWell (state_of c) → IsSound c
booted-sound c around entry vcpus frames disk input may b w =
    let count : length c.vcpus.items ≡ vcpus = ap length b.vcpus_are ∙ length-replicate vcpus (started entry) in
    let place_count : length c.places.items ≡ length around.site.processors = ap length b.places ∙ length-map around.site.processors (free_place around.site.shape.frames) in
    let page_count : length c.pmap.pages ≡ length frames = ap length b.pages ∙ length-map frames own_page in
    record {
      sized = record {
        some_vcpus = subst (λ (n : ℕ). 0 < n) (sym count) may.some_vcpus;
        few_vcpus = subst (λ (n : ℕ). n ≤ 4) (sym count) may.few_vcpus;
        blocks = ap length b.blocks_are ∙ length-map (replicate vcpus (started entry)) _ ∙ length-replicate vcpus (started entry) ∙ sym count;
        transfers = ap (λ (d : DeviceState). length d.page.transfers) b.devs ∙ length-replicate vcpus nothing_set ∙ sym count;
        seconds = ap length b.seconds ∙ length-replicate vcpus no_seconds ∙ sym count;
        few_processors = subst (λ (n : ℕ). n ≤ most_processors) (sym place_count) may.few_processors;
        due = ap length b.due ∙ length-replicate (length around.site.processors) None ∙ sym place_count;
        few_pages = subst (λ (n : ℕ). n ≤ 2048) (sym page_count) may.few_pages;
        cells = ap length b.sent_from ∙ ap (λ (d : DeviceState). length d.page.sent) (sym b.devs);
        dead = ap (λ (o : Option (List Bool)). length (dead_cells o)) b.dead ∙ length-replicate most_cells false;
      };
      agree = rw (b.devs, b.vcpus_are) (shown-start entry vcpus);
      loaded = λ p v is. absurd (nothing-loaded (map processor_of c.places.items) (length around.site.processors) p v (ap (map processor_of) b.places ∙ idle-places around.site.shape.frames around.site.processors) is);
      places = rw (b.around_is, b.places) (places-stand around may.on_nodes);
      in_hand = rw b.hand tt;
      going = λ on. record {
        coherent = w.coherent;
        live = w.live;
        pages = ap (λ (d : DeviceState). d.pages) b.devs ∙ sym page_count;
        counted = subst (λ a. AreCounters (length c.pmap.pages) (length a.site.shape.cells) c.counters) (sym b.around_is)
            (subst (λ (n : ℕ). AreCounters (length c.pmap.pages) n c.counters) (sym around.site.shape.has_cells) (subst (λ (n : ℕ). AreCounters n around.site.shape.nodes c.counters) (sym page_count) b.counted));
      };
    }

-- a node's frames have numbers of 32 bits
node-fits : (node nodes frames : ℕ) → node < nodes → nodes * frames < 2 ^ 32 → node * frames + frames < 2 ^ 32
node-fits node nodes frames lt fits =
    let most : suc node * frames ≤ nodes * frames = mul-le-mul_right frames lt in
    let next : suc node * frames ≡ node * frames + frames = suc-mul node frames in
    omega arith

below-at : (count : ℕ) (nodes : List NodeId) (node : NodeId) → AllBelow count nodes → Contains nodes node → node.0 < count
below-at count [] node all it = absurd (omega arith)
below-at count (n ∷ nodes) node all (zero, lt, is) = subst (λ (m : NodeId). m.0 < count) is all.0
below-at count (n ∷ nodes) node all (suc k, lt, is) = below-at count nodes node all.1 (k, (omega arith), is)

pub frames-fit : (around : Around) (vcpus : ℕ) (frames : List Frame) (disk : List Block) → MayBoot around vcpus frames disk → (node : NodeId) → Contains around.site.processors node → node.0 * around.site.shape.frames + around.site.shape.frames < 2 ^ 32
frames-fit around vcpus frames disk may node it = node-fits node.0 around.site.shape.nodes around.site.shape.frames (below-at around.site.shape.nodes around.site.processors node may.on_nodes it) may.few_frames

-- nothing but nothing is a copy of nothing
pub only-none : {A : Type 0} (P : Option A → Type 0) → ((x : A) → P (Some x) → ⊥) → (y : Option A) → P y → y ≡ None
only-none P never None e = refl
only-none P never (Some x) e = absurd (never x e)
