-- Guests under the monitor: how they are booted, and that each is its private machine.
use Rattle.std.proofs.Common.{◌≡◌, ℕ, suc, ◌*◌, ◌<◌, ◌≤◌, List, [], ◌∷◌, Option, length, map, ap, sym, ◌∙◌, subst, arith}
use Rattle.std.specs.List.{AllByRecursion as ByRecursion}
use Rattle.std.specs.Prelude.{slice_index_or}
use Rattle.std.proofs.lemmas.List.{length-map}
use Rattle.std.proofs.lemmas.List.Elements.{recursion_from_All}
use Rattle.base_words.specs.declared.input.InputEntry.{InputEntry}
use Rattle.elf_image.specs.declared.image.Image.{Image}
use Rattle.isolation_law.specs.GuestState.{GuestState}
use Rattle.isolation_law.specs.Isolation.{IsolationHolds}
use Rattle.isolation_law.specs.OwnHistory.{own}
use Rattle.isolation_law.specs.Surroundings.{Surroundings}
use Rattle.private_machine.specs.Operation.{Packet}
use Rattle.isolation_law.specs.Start.{Boot, IsBoot, private_start}
use Rattle.private_machine.specs.PrivateRun.{private_run, Image as Given}
use Rattle.machine_desc.specs.declared.machine.GuestSpec.{GuestSpec}
use Rattle.machine_desc.specs.Accepted.{IsAccepted}
use Rattle.machine_desc.specs.Bounds.{IsGuest}
use Rattle.machine_desc.specs.Described.{Described}
use Rattle.guest_core.specs.declared.records.GuestRecord.{GuestRecord}
use Rattle.guest_core.specs.declared.records.RunRecord.{RunRecord}
use Rattle.guest_core.specs.Records.{IsRecord}
use Rattle.guest_boot.specs.Starting.{AreStarts, IsStart}
use Rattle.run_workers.specs.WholeRecord.{AreRecords, IsWhole}
use Rattle.admission.specs.Starts.{Start}
use Rattle.admission.specs.Started.{AreStarted, IsStarted}
use Rattle.admission.specs.Views.{disk_numbered, image_seen, paired}
use Rattle.monitor_run.specs.Monitored.{AreBooted, IsBooted, ArePrivate, IsPrivate, IsRun}
use Rattle.monitor_run.specs.Sources.{source_of, sources_of}
use Rattle.monitor_run.proofs.SourceLemmas.{given_blocks-as_given}

-- ---- starts

IsBooted-from : (d : Described) (guest : ℕ) (spec : GuestSpec) (disks : List (List (List ℕ))) (image : Image) (number : Option ℕ) (input : List InputEntry) (b : Boot) → length d.processors ≤ 32 → IsGuest d.nodes spec
    → IsStarted spec (record { image = image_seen image; disk = disk_numbered disks number }) → IsStart d guest spec (source_of disks image number) input b → IsBooted d guest spec (record { image = image_seen image; disk = disk_numbered disks number }) input b
IsBooted-from d guest spec disks image number input b few is started start =
    let pages : spec.pages ≡ b.image.pages = sym started.pages ∙ sym (ap (λ (i : Given). i.pages) start.image_is) in
    let disk-is = start.disk_is ∙ given_blocks-as_given (disk_numbered disks number) in
    record {
      around = start.around;
      image = start.image_is;
      vcpus = start.vcpus;
      disk = disk-is;
      input_is = start.input_is;
      placed = start.placed;
      sound = record {
        has_vcpu = subst (λ (n : ℕ). 0 < n) (sym start.vcpus) is.some_vcpus;
        few_processors = (let same = ap (λ (a : Surroundings). length a.processors) start.around in let long = length-map d.processors (λ n. n.0) in omega (arith, same, long, few));
        backed = start.placed.count ∙ pages;
        whole = ap (λ (i : Given). length i.memory) start.image_is ∙ started.whole ∙ ap (λ (n : ℕ). 4096 * n) pages;
        blocks = subst (λ (l : List (List ℕ)). (k : ℕ) → k < length l → length (slice_index_or l k []) ≡ 4096) (sym disk-is) started.blocks;
      };
    }

abbrev AreBoots : List Boot → Type 0
AreBoots [] = Unit {0}
AreBoots (b ∷ boots) = IsBoot b × AreBoots boots

module _ (d : Described) where
  AreBooted-from : (disks : List (List (List ℕ))) (guest : ℕ) (specs : List GuestSpec) (images : List Image) (numbers : List (Option ℕ)) (inputs : List (List InputEntry)) (boots : List Boot) → length d.processors ≤ 32 → ByRecursion (IsGuest d.nodes) specs → length images ≡ length numbers
      → AreStarted specs (paired images (map (disk_numbered disks) numbers)) → AreStarts d guest specs (sources_of disks images numbers) inputs boots → AreBooted d guest specs (paired images (map (disk_numbered disks) numbers)) inputs boots
  AreBooted-from disks guest [] [] numbers [] [] few is same are starts = tt
  AreBooted-from disks guest [] [] numbers [] (b ∷ boots) few is same are starts = absurd starts
  AreBooted-from disks guest [] [] numbers (input ∷ inputs) boots few is same are starts = absurd starts
  AreBooted-from disks guest [] (image ∷ images) [] inputs boots few is same are starts = absurd (omega (arith, same))
  AreBooted-from disks guest [] (image ∷ images) (n ∷ numbers) inputs boots few is same are starts = absurd are
  AreBooted-from disks guest (spec ∷ specs) [] numbers inputs boots few is same are starts = absurd are
  AreBooted-from disks guest (spec ∷ specs) (image ∷ images) [] inputs boots few is same are starts = absurd are
  AreBooted-from disks guest (spec ∷ specs) (image ∷ images) (n ∷ numbers) [] boots few is same are starts = absurd starts
  AreBooted-from disks guest (spec ∷ specs) (image ∷ images) (n ∷ numbers) (input ∷ inputs) [] few is same are starts = absurd starts
  AreBooted-from disks guest (spec ∷ specs) (image ∷ images) (n ∷ numbers) (input ∷ inputs) (b ∷ boots) few is same are starts =
      (IsBooted-from d guest spec disks image n input b few is.0 are.0 starts.0, AreBooted-from disks (suc guest) specs images numbers inputs boots few is.1 (omega (arith, same)) are.1 starts.1)

  -- ---- private machines

  AreBoots-from : (guest : ℕ) (specs : List GuestSpec) (starts : List Start) (inputs : List (List InputEntry)) (boots : List Boot) → AreBooted d guest specs starts inputs boots → AreBoots boots
  AreBoots-from guest [] [] [] [] booted = tt
  AreBoots-from guest [] [] [] (b ∷ boots) booted = absurd booted
  AreBoots-from guest [] [] (input ∷ inputs) boots booted = absurd booted
  AreBoots-from guest [] (start ∷ starts) inputs boots booted = absurd booted
  AreBoots-from guest (spec ∷ specs) [] inputs boots booted = absurd booted
  AreBoots-from guest (spec ∷ specs) (start ∷ starts) [] boots booted = absurd booted
  AreBoots-from guest (spec ∷ specs) (start ∷ starts) (input ∷ inputs) [] booted = absurd booted
  AreBoots-from guest (spec ∷ specs) (start ∷ starts) (input ∷ inputs) (b ∷ boots) booted = (booted.0.sound, AreBoots-from (suc guest) specs starts inputs boots booted.1)

  module _ (isolation : IsolationHolds) where
    IsPrivate-from : (b : Boot) (s : GuestState) (guest : GuestRecord) → IsBoot b → IsRecord b s guest → IsPrivate b guest
    IsPrivate-from b s guest boot left =
        let isolated = isolation b guest.journal.entries s boot left.run in
        record {
          console = left.console ∙ isolated.console ∙ ap (λ (got : List Packet). (private_run (private_start b) (own got guest.journal.entries)).devices.console) (sym left.received);
          sent = left.sent ∙ isolated.sent ∙ ap (λ (got : List Packet). (private_run (private_start b) (own got guest.journal.entries)).devices.sent) (sym left.received);
        }

    ArePrivate-from : (boots : List Boot) (states : List GuestState) (guests : List GuestRecord) → AreBoots boots → AreRecords boots states guests → ArePrivate boots guests
    ArePrivate-from [] [] [] boots left = tt
    ArePrivate-from [] [] (guest ∷ guests) boots left = absurd left
    ArePrivate-from [] (s ∷ states) guests boots left = absurd left
    ArePrivate-from (b ∷ bs) [] guests boots left = absurd left
    ArePrivate-from (b ∷ bs) (s ∷ states) [] boots left = absurd left
    ArePrivate-from (b ∷ bs) (s ∷ states) (guest ∷ guests) boots left = (IsPrivate-from b s guest boots.0 left.0, ArePrivate-from bs states guests boots.1 left.1)

    -- a whole record is one of guests that each ran as their private machines do
    pub IsRun-from : (disks : List (List (List ℕ))) (images : List Image) (numbers : List (Option ℕ)) (boots : List Boot) (out : RunRecord) → IsAccepted d → length images ≡ length numbers → AreStarted d.guests (paired images (map (disk_numbered disks) numbers))
        → AreStarts d 0 d.guests (sources_of disks images numbers) d.input boots → IsWhole d boots out → IsRun d (paired images (map (disk_numbered disks) numbers)) out
    IsRun-from disks images numbers boots out accepted same started starts whole =
        let are = recursion_from_All (IsGuest d.nodes) d.guests accepted.guests in
        let booted = AreBooted-from disks 0 d.guests images numbers d.input boots accepted.few_processors are same started starts in
        let sound = AreBoots-from 0 d.guests (paired images (map (disk_numbered disks) numbers)) d.input boots booted in
        record { boots = boots; booted = booted; whole = whole; private = ArePrivate-from boots whole.states out.guests sound whole.guests }
