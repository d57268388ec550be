-- A private machine's run, item by item, and guests one after the other.
use Rattle.std.proofs.Common.{◌≡◌, ℕ, zero, suc, ◌+◌, ◌<◌, ◌≤◌, List, [], ◌∷◌, ◌++◌, map, length, get_or, drop, Bool, true, false, ◌&&◌, Option, Some, refl, ap, ap₂, sym, ◌∙◌, subst, append_assoc, add-one, drop-cons, arith}
use Rattle.std.proofs.lemmas.List.{append-nil, drop_all}
use Rattle.std.proofs.lemmas.List.Elements.{All-weaker}
use Rattle.std.specs.Option.{IsSomeAnd, option_map_or}
use Rattle.std.specs.Prelude.{All, slice_get}
use Rattle.base_words.specs.declared.events.OwnEvent.{OwnEvent}
use Rattle.base_words.specs.declared.input.InputEntry.{InputEntry}
use Rattle.private_machine.specs.declared.vcpu.Vcpu.{Vcpu}
use Rattle.private_machine.specs.PrivateMachine.{PrivateMachine}
use Rattle.private_machine.specs.PrivateRun.{own_event, private_run}
use Rattle.isolation_law.specs.Phases.{all_halted}
use Rattle.elf_image.specs.declared.image.Image.{Image}
use Rattle.machine_desc.specs.declared.machine.GuestSpec.{GuestSpec}
use Rattle.machine_desc.specs.declared.plan.Item.{Item}
use Rattle.machine_desc.specs.declared.plan.Item.TheVariants.{Run, Move, Fail}
use Rattle.machine_desc.specs.Bounds.{IsItem}
use Rattle.machine_desc.specs.Described.{Described}
use Rattle.admission.specs.Starts.{Start}
use Rattle.admission.specs.Views.{image_seen, paired}
use Rattle.run_report.specs.declared.alone.Alone.{Alone}
use Rattle.monitor_run.specs.Alone.{item_events, own_events, left_alone, machine_alone, all_alone, left_from, MayRun}

pub private_run-append : (m : PrivateMachine) (xs ys : List OwnEvent) → private_run m (xs ++ ys) ≡ private_run (private_run m xs) ys
private_run-append m [] ys = refl
private_run-append m (e ∷ xs) ys = private_run-append (own_event m e) xs ys

-- ---- items

-- the run over the items that are left goes on by the next
pub items-next : (guest : ℕ) (items : List Item) (i : ℕ) (d : Item) (m : PrivateMachine) → i < length items
    → private_run m (own_events guest (drop i items)) ≡ private_run (private_run m (item_events guest (get_or items i d))) (own_events guest (drop (i + 1) items))
items-next guest items i d m there =
    let next : drop i items ≡ get_or items i d ∷ drop (i + 1) items = rw add-one (drop-cons items i d there) in
    ap (λ (l : List Item). private_run m (own_events guest l)) next ∙ private_run-append m (item_events guest (get_or items i d)) (own_events guest (drop (i + 1) items))

pub items-end : (guest : ℕ) (items : List Item) (i : ℕ) (m : PrivateMachine) → length items ≤ i → private_run m (own_events guest (drop i items)) ≡ m
items-end guest items i m le = ap (λ (l : List Item). private_run m (own_events guest l)) (drop_all i items le)

-- ---- ends

module _ (vcpus : List Vcpu) (v : ℕ) (d : Vcpu) (there : v < length vcpus) where
  next_vcpu : drop v vcpus ≡ get_or vcpus v d ∷ drop (v + 1) vcpus
  next_vcpu = rw add-one (drop-cons vcpus v d there)

  -- whether the virtual processors that are left have all halted
  pub all_halted-next : (get_or vcpus v d).halted ≡ true → all_halted (drop v vcpus) ≡ all_halted (drop (v + 1) vcpus)
  all_halted-next is = ap all_halted next_vcpu ∙ ap (λ (b : Bool). b && all_halted (drop (v + 1) vcpus)) is

  pub all_halted-not : (get_or vcpus v d).halted ≡ false → all_halted (drop v vcpus) ≡ false
  all_halted-not is = ap all_halted next_vcpu ∙ ap (λ (b : Bool). b && all_halted (drop (v + 1) vcpus)) is

pub all_halted-end : (vcpus : List Vcpu) (v : ℕ) → length vcpus ≤ v → all_halted (drop v vcpus) ≡ true
all_halted-end vcpus v le = ap all_halted (drop_all v vcpus le)

-- ---- guests

cell : {A : Type 0} (xs : List A) (i : ℕ) (x : A) → i < length xs → x ≡ get_or xs i x → drop i xs ≡ x ∷ drop (suc i) xs
cell {A} xs i x there is = drop-cons xs i x there ∙ ap (λ (y : A). y ∷ drop (suc i) xs) (sym is)

left_by : List Item → ℕ → List GuestSpec → List Start → List (List InputEntry) → List Alone
left_by items guest specs starts inputs = all_alone items guest specs starts inputs

module _ (d : Described) (starts : List Start) where
  -- the next guest, and those behind it
  pub left_from-next : (guest : ℕ) (spec : GuestSpec) (start : Start) (input : List InputEntry) → guest < length d.guests → guest < length starts → guest < length d.input
      → spec ≡ get_or d.guests guest spec → start ≡ get_or starts guest start → input ≡ get_or d.input guest input
      → left_from d starts guest ≡ left_alone (machine_alone d.items guest spec start input) ∷ left_from d starts (guest + 1)
  unfolding left_by
  left_from-next guest spec start input in_specs in_starts in_inputs is_spec is_start is_input =
      rw add-one (
      ap (λ (ss : List GuestSpec). left_by d.items guest ss (drop guest starts) (drop guest d.input)) (cell d.guests guest spec in_specs is_spec)
      ∙ ap (λ (ss : List Start). left_by d.items guest (spec ∷ drop (suc guest) d.guests) ss (drop guest d.input)) (cell starts guest start in_starts is_start)
      ∙ ap (λ (ns : List (List InputEntry)). left_by d.items guest (spec ∷ drop (suc guest) d.guests) (start ∷ drop (suc guest) starts) ns) (cell d.input guest input in_inputs is_input))

  -- a guest more has been run
  pub left-push : (left : List Alone) (guest : ℕ) (one : Alone) (all : List Alone) → left ++ left_from d starts guest ≡ all → left_from d starts guest ≡ one ∷ left_from d starts (guest + 1)
      → (left ++ one ∷ []) ++ left_from d starts (guest + 1) ≡ all
  left-push left guest one all far next = append_assoc left (one ∷ []) (left_from d starts (guest + 1)) ∙ ap (λ (l : List Alone). left ++ l) (sym next) ∙ far

  -- all have been run
  pub left-end : (left : List Alone) (guest : ℕ) (all : List Alone) → length d.guests ≤ guest → left ++ left_from d starts guest ≡ all → left ≡ all
  left-end left guest all le far =
      let none : left_from d starts guest ≡ [] = ap (λ (ss : List GuestSpec). all_alone d.items guest ss (drop guest starts) (drop guest d.input)) (drop_all guest d.guests le) in
      sym (append-nil left) ∙ ap (λ (l : List Alone). left ++ l) (sym none) ∙ far

-- what a guest starts from stands at its place
pub paired-at : (images : List Image) (disks : List (List (List ℕ))) (i : ℕ) (image : Image) (disk : List (List ℕ)) (d : Start) → i < length images → i < length disks
    → image ≡ get_or images i image → disk ≡ get_or disks i disk → (let start : Start = record { image = image_seen image; disk = disk } in start ≡ get_or (paired images disks) i d)
paired-at [] disks i image disk d in_images in_disks is_image is_disk = absurd (omega (arith, in_images))
paired-at (x ∷ images) [] i image disk d in_images in_disks is_image is_disk = absurd (omega (arith, in_disks))
paired-at (x ∷ images) (y ∷ disks) zero image disk d in_images in_disks is_image is_disk = ap₂ (λ (a : Image) (b : List (List ℕ)). let start : Start = record { image = image_seen a; disk = b } in start) is_image is_disk
paired-at (x ∷ images) (y ∷ disks) (suc i) image disk d in_images in_disks is_image is_disk = paired-at images disks i image disk d (omega (arith, in_images)) (omega (arith, in_disks)) is_image is_disk

pub paired-there : (images : List Image) (disks : List (List (List ℕ))) (i : ℕ) → i < length images → i < length disks → i < length (paired images disks)
paired-there [] disks i in_images in_disks = absurd (omega (arith, in_images))
paired-there (x ∷ images) [] i in_images in_disks = absurd (omega (arith, in_disks))
paired-there (x ∷ images) (y ∷ disks) zero in_images in_disks = omega arith
paired-there (x ∷ images) (y ∷ disks) (suc i) in_images in_disks = (let behind = paired-there images disks i (omega (arith, in_images)) (omega (arith, in_disks)) in omega (arith, behind))

-- ---- what a description says of its guests

-- a guest's disk is at its place among the disks
pub disk-is : (f : Option ℕ → List (List ℕ)) (numbers : List (Option ℕ)) (i : ℕ) (disk : List (List ℕ)) → i < length numbers → disk ≡ option_map_or f (slice_get numbers i) [] → disk ≡ get_or (map f numbers) i disk
disk-is f [] i disk there is = absurd (omega (arith, there))
disk-is f (n ∷ numbers) zero disk there is = is
disk-is f (n ∷ numbers) (suc i) disk there is = disk-is f numbers i disk (omega (arith, there)) is

found_at : (specs : List GuestSpec) (i : ℕ) (spec : GuestSpec) → i < length specs → spec ≡ get_or specs i spec → slice_get specs i ≡ Some spec
found_at [] i spec there is = absurd (omega (arith, there))
found_at (s ∷ specs) zero spec there is = ap (λ (x : GuestSpec). let o : Option GuestSpec = Some x in o) (sym is)
found_at (s ∷ specs) (suc i) spec there is = found_at specs i spec (omega (arith, there)) is

may_run : (d : Described) (i : ℕ) (spec : GuestSpec) → slice_get d.guests i ≡ Some spec → (item : Item) → IsItem d item → MayRun i spec.vcpus item
may_run d i spec found (Run p g v steps) is = λ same.
    (let here : slice_get d.guests g.0 ≡ Some spec = ap (slice_get d.guests) same ∙ found in
    subst (λ (o : Option GuestSpec). IsSomeAnd o (λ s. v.0 < s.vcpus)) here is.of)
may_run d i spec found (Move p g page kind node) is = tt
may_run d i spec found (Fail p cell) is = tt

-- no item runs a virtual processor that its guest doesn't have
pub MayRun-all : (d : Described) (i : ℕ) (spec : GuestSpec) → i < length d.guests → spec ≡ get_or d.guests i spec → All (IsItem d) d.items → All (MayRun i spec.vcpus) d.items
MayRun-all d i spec there is items = All-weaker (IsItem d) (MayRun i spec.vcpus) (may_run d i spec (found_at d.guests i spec there is)) d.items items
