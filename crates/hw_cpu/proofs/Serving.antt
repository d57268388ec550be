-- What the condition on all halves says of the one that matches.
use Rattle.std.proofs.Common.{◌≡◌, ℕ, ◌/◌, Bool, true, false, not, ◌&&◌, if◌then◌else◌, List, [], ◌∷◌, Option, Some, None, refl}
use Rattle.std.specs.Prelude.{find}
use Rattle.base_words.specs.Halves.{Half, is_of}
use Rattle.hw_tlb.specs.declared.answer.HwAnswer.{HwAnswer}
use Rattle.hw_tlb.specs.declared.answer.HwAnswer.TheVariants.{Hit, Miss, ReadOnly}
use Rattle.hw_tlb.specs.Lookup.{through, looked_up}
use Rattle.private_machine.specs.Backing.{Held}
use Rattle.private_machine.specs.Serving.{Backs, BacksAlone, Serves, AllServe}

abbrev pub ServesIf : Held → Option Half → Type 0
ServesIf h None = Unit {0}
ServesIf h (Some half) = Serves h half

found-at : (h : Held) (half : Half) (o : Option Half) → Serves h half → ServesIf h o → (b : Bool) → ServesIf h (if b then Some half else o)
found-at h half o here later true = here
found-at h half o here later false = later

pub found-serves : (h : Held) (p : Half → Bool) (halves : List Half) → AllServe h halves → ServesIf h (find p halves)
found-serves h p [] all = tt
found-serves h p (half ∷ halves) all = found-at h half (find p halves) all.0 (found-serves h p halves all.1) (p half)

-- what a hit is good for
abbrev pub Good : Held → Bool → HwAnswer → Type 0
Good h store (Hit frame page) = Backs h page.0 frame.0 × (store ≡ true → BacksAlone h page.0 frame.0)
Good h store Miss = Unit {0}
Good h store (ReadOnly frame page) = Backs h page.0 frame.0

good-writable : (h : Held) (store writable : Bool) (half : Half) → half.writable ≡ writable → Serves h half
    → Good h store (if store && not writable then ReadOnly (record { 0 = half.frame }) (record { 0 = half.page }) else Hit (record { 0 = half.frame }) (record { 0 = half.page }))
good-writable h false writable half is serves = (serves.0, λ s. cc)
good-writable h true true half is serves = (serves.0, λ s. serves.1 is)
good-writable h true false half is serves = serves.0

good-through : (h : Held) (store : Bool) (o : Option Half) → ServesIf h o → Good h store (through store o)
good-through h store None serves = tt
good-through h store (Some half) serves = good-writable h store half.writable half refl serves

-- what the TLB answers, of a guest whose halves all serve
pub good : (h : Held) (halves : List Half) (address asid : ℕ) (store : Bool) → AllServe h halves → Good h store (looked_up halves address asid store)
good h halves address asid store all = good-through h store (find (is_of (address / 4096) asid) halves) (found-serves h (is_of (address / 4096) asid) halves all)
