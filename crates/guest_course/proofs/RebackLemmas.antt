-- A guest after a change of what backs it: processors, pages, second-level entries and choices that are due.
use Rattle.std.proofs.Common.{◌≡◌, ◌⊎◌, inl, inr, ◌+◌, ℕ, zero, suc, ◌<◌, ◌≤◌, List, [], ◌∷◌, Some, None, length, map, get_or, set, refl, sym, ap, ◌∙◌, subst, arith}
use Rattle.std.specs.Global.{Vec}
use Rattle.base_words.specs.Limits.{most_processors}
use Rattle.base_words.specs.declared.events.Event.{Event}
use Rattle.base_words.specs.Halves.{Half}
use Rattle.isolation_law.specs.Surroundings.{Surroundings}
use Rattle.isolation_law.specs.Parts.{Processor}
use Rattle.isolation_law.specs.GuestState.{GuestState, idle, processor}
use Rattle.isolation_law.specs.Coherence.{Coherent}
use Rattle.isolation_law.specs.LiveCells.{UsesLive}
use Rattle.isolation_law.specs.MachineEvent.{Row}
use Rattle.guest_course.specs.declared.place.Place.{Place}
use Rattle.guest_course.specs.declared.course.Course.{Course}
use Rattle.guest_course.specs.CourseView.{processor_of, state_of}
use Rattle.guest_course.specs.CourseRules.{IsGoing, IsSound, StandsAt, AllStand}
use Rattle.guest_course.specs.Rebacking.{Rebacked}

-- a guest is coherent and uses no cell that has failed
pub record IsWell (s : GuestState) : Type 0 where
  pub coherent : Coherent s
  pub live : UsesLive s

pub is-well : {c : Course} → IsGoing c → IsWell (state_of c)
is-well going = record { coherent = going.coherent; live = going.live }

-- an entry keeps that
pub well : ((s t : GuestState) (e : Event) → Coherent s → Row s e t → t.end ≡ None → Coherent t) → ((s t : GuestState) (e : Event) → UsesLive s → Row s e t → UsesLive t)
    → (s t : GuestState) (e : Event) → IsWell s → Row s e t → t.end ≡ None → IsWell t
well keeps stays s t e w row on = record { coherent = keeps s t e w.coherent row on; live = stays s t e w.live row }

going-rebacked : (c d : Course) → Rebacked c d → IsGoing c → IsWell (state_of d) → IsGoing d
going-rebacked c d r going w = record {
  coherent = w.coherent;
  live = w.live;
  pages = rw r.devs going.pages ∙ sym r.long;
  counted = rw (r.around, r.long) (r.counted _ _ going.counted);
}

pub sound-rebacked : (c d : Course) → IsSound c → Rebacked c d
    → ((p v : ℕ) → (processor (state_of d) p).loaded ≡ Some v → v < length c.vcpus.items)
    → (d.ended ≡ None → IsWell (state_of d)) → IsSound d
sound-rebacked c d sound r loaded w =
    let sized = sound.sized in
    record {
      sized = record {
        some_vcpus = rw r.vcpus sized.some_vcpus;
        few_vcpus = rw r.vcpus sized.few_vcpus;
        blocks = rw (r.blocks, r.vcpus) sized.blocks;
        transfers = rw (r.devs, r.vcpus) sized.transfers;
        seconds = r.seconds ∙ sized.seconds ∙ ap (λ l. length l.items) (sym r.vcpus);
        few_processors = subst (λ (k : ℕ). k ≤ most_processors) (sym r.places) sized.few_processors;
        due = r.due ∙ sized.due ∙ sym r.places;
        few_pages = subst (λ (k : ℕ). k ≤ 2048) (sym r.long) sized.few_pages;
        cells = rw (r.sent_from, r.devs) sized.cells;
        dead = rw r.dead sized.dead;
      };
      agree = rw (r.devs, r.vcpus) sound.agree;
      loaded = λ p v is. subst (λ (l : Vec _). v < length l.items) (sym r.vcpus) (loaded p v is);
      places = rw r.around r.stands;
      in_hand = rw (r.hand, r.around) sound.in_hand;
      going = λ on. going-rebacked c d r (sound.going (sym r.ended ∙ on)) (w on);
    }

-- a processor's node with its frames is told whatever is loaded on it
stands-set-at : (around : Surroundings) (k p : ℕ) (places : List Place) (new : Place) → AllStand around k places → StandsAt around (k + p) new → AllStand around k (set places p new)
stands-set-at around k p [] new all it = tt
stands-set-at around k zero (place ∷ places) new all it = (subst (λ (n : ℕ). StandsAt around n new) (let e : k + 0 ≡ k = omega arith in e) it, all.1)
stands-set-at around k (suc p) (place ∷ places) new all it =
    (all.0, stands-set-at around (suc k) p places new all.1 (subst (λ (n : ℕ). StandsAt around n new) (let e : k + suc p ≡ suc k + p = omega arith in e) it))

pub stands-set : (around : Surroundings) (p : ℕ) (places : List Place) (new : Place) → AllStand around 0 places → StandsAt around p new → AllStand around 0 (set places p new)
stands-set around p places new all it = stands-set-at around 0 p places new all (subst (λ (n : ℕ). StandsAt around n new) (let e : p ≡ 0 + p = omega arith in e) it)

-- a processor as it is seen
pub processor-at : (places : List Place) (p : ℕ) (x : Place) → p < length places → x ≡ get_or places p x → get_or (map processor_of places) p idle ≡ processor_of x
processor-at [] p x lt is = absurd (omega arith)
processor-at (y ∷ places) zero x lt is = ap processor_of (sym is)
processor-at (y ∷ places) (suc p) x lt is = processor-at places p x (omega arith) is

-- what is loaded somewhere once one processor has become another is loaded on this one, or was there
pub loaded-set : (ps : List Processor) (p r u : ℕ) (new : Processor) → (get_or (set ps p new) r idle).loaded ≡ Some u → (new.loaded ≡ Some u) ⊎ ((get_or ps r idle).loaded ≡ Some u)
loaded-set [] p r u new is = inr is
loaded-set (y ∷ ps) zero zero u new is = inl is
loaded-set (y ∷ ps) zero (suc r) u new is = inr is
loaded-set (y ∷ ps) (suc p) zero u new is = inr is
loaded-set (y ∷ ps) (suc p) (suc r) u new is = loaded-set ps p r u new is

-- another TLB of a processor leaves what is loaded
pub loaded-elsewhere : (ps : List Processor) (p r : ℕ) (tlb : List Half) → (get_or (set ps p (record (get_or ps p idle) { tlb = tlb })) r idle).loaded ≡ (get_or ps r idle).loaded
loaded-elsewhere [] p r tlb = refl
loaded-elsewhere (y ∷ ps) zero zero tlb = refl
loaded-elsewhere (y ∷ ps) zero (suc r) tlb = refl
loaded-elsewhere (y ∷ ps) (suc p) zero tlb = refl
loaded-elsewhere (y ∷ ps) (suc p) (suc r) tlb = loaded-elsewhere ps p r tlb
