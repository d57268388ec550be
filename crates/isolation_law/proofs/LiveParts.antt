-- A guest that uses no failed cell: the parts that tell it, and how they change.
use Rattle.std.proofs.Common.{◌≡◌, ℕ, zero, suc, ◌<◌, Bool, true, false, if◌then◌else◌, ◌⊎◌, inl, inr, ⊎_elim, Option, Some, None, List, [], ◌∷◌, ◌++◌, length, map, set, get_or, ◌==◌, refl, sym, ap, subst, length-set}
use Rattle.std.specs.Prelude.{option_map, option_to_list, option_and_then, remove}
use Rattle.base_words.specs.Membership.{Has}
use Rattle.private_machine.specs.Backing.{Copy, Change, Migrates, Replicates, Collapses, Breaks, TakesShared, GivesShared, Move, Page, copies, with_bytes, stored_in, stored_through, no_page}
use Rattle.private_machine.specs.PageMove.{target_of, acknowledged, left_by, begun, finished, spares_finished, spares_taken}
use Rattle.private_machine.specs.PageMove.{target_in, held_for, used_for}
use Rattle.isolation_law.specs.GuestState.{GuestState, idle}
use Rattle.isolation_law.specs.Parts.{Processor}
use Rattle.isolation_law.specs.Surroundings.{Surroundings, cell_of_frame, cell_of_processor}
use Rattle.isolation_law.proofs.Parts.{at_place}
use Rattle.base_words.specs.Memory.{with_word}

-- the frame is one of these
abbrev pub HasFrame : List Copy → ℕ → Type 0
HasFrame cs f = Has (map (λ c. c.frame) cs) f

abbrev pub Lives : Surroundings → List Bool → ℕ → Type 0
Lives w dead f = get_or dead (cell_of_frame w f) false ≡ false

-- all frames that pages use and all spares, and each processor on which something is loaded, are of cells that live
pub record LiveParts (w : Surroundings) (dead : List Bool) (pages : List Page) (spares : List Copy) (processors : List Processor) : Type 0 where
  pub on_pages : (q f : ℕ) → q < length pages → HasFrame (used_for (get_or pages q no_page)) f → Lives w dead f
  pub on_spares : (f : ℕ) → HasFrame spares f → Lives w dead f
  pub on_processors : (p v : ℕ) → (get_or processors p idle).loaded ≡ Some v → get_or dead (cell_of_processor w p) false ≡ false

abbrev pub Alive : GuestState → Type 0
Alive s = LiveParts s.around s.dead s.pages s.spares s.processors

-- lists of frames
pub HasFrame-append : (cs ds : List Copy) (f : ℕ) → HasFrame (cs ++ ds) f → HasFrame cs f ⊎ HasFrame ds f
HasFrame-append [] ds f has = inr has
HasFrame-append (c ∷ cs) ds f has = ⊎_elim (λ (is : c.frame ≡ f). inl (inl is)) (λ later. ⊎_elim (λ (x : HasFrame cs f). inl (inr x)) (λ (x : HasFrame ds f). inr x) (HasFrame-append cs ds f later)) has

pub HasFrame-left : (cs ds : List Copy) (f : ℕ) → HasFrame cs f → HasFrame (cs ++ ds) f
HasFrame-left [] ds f has = absurd has
HasFrame-left (c ∷ cs) ds f has = ⊎_elim (λ (is : c.frame ≡ f). inl is) (λ later. inr (HasFrame-left cs ds f later)) has

pub HasFrame-right : (cs ds : List Copy) (f : ℕ) → HasFrame ds f → HasFrame (cs ++ ds) f
HasFrame-right [] ds f has = has
HasFrame-right (c ∷ cs) ds f has = inr (HasFrame-right cs ds f has)

pub HasFrame-remove : (cs : List Copy) (i f : ℕ) → HasFrame (remove cs i) f → HasFrame cs f
HasFrame-remove [] zero f has = has
HasFrame-remove [] (suc i) f has = has
HasFrame-remove (c ∷ cs) zero f has = inr has
HasFrame-remove (c ∷ cs) (suc i) f has = ⊎_elim (λ (is : c.frame ≡ f). inl is) (λ later. inr (HasFrame-remove cs i f later)) has

-- pages: each of these has no further frame
pub stored-frames : (g : Page) (frame o w : ℕ) → map (λ c. c.frame) (used_for (stored_through g frame o w)) ≡ map (λ c. c.frame) (used_for g)
stored-frames g frame o w = by (g.master.frame == frame)
  where
    by : (b : Bool) → map (λ c. c.frame) (used_for (if b then record g { master = with_bytes (with_word g.master.bytes o w) g.master } else record g { replicas = stored_in g.replicas frame o w })) ≡ map (λ c. c.frame) (used_for g)
    by true = refl
    by false = refl

left-targets : (p : ℕ) (m : Option Move) → option_and_then target_in (option_map (acknowledged p) m) ≡ option_and_then target_in m
left-targets p None = refl
left-targets p (Some m) = refl

pub left-held : (p : ℕ) (g : Page) → held_for (left_by p g) ≡ held_for g
left-held p g = ap (λ (t : Option Copy). copies g ++ option_to_list t) (left-targets p g.move)

pub left-used : (p : ℕ) (g : Page) → used_for (left_by p g) ≡ used_for g
left-used p g = ap (λ (t : Option Copy). g.master ∷ option_to_list t) (left-targets p g.move)

pub begun-frames : (change : Change) (g : Page) (f : ℕ) → HasFrame (used_for (begun change g)) f → HasFrame (used_for g) f ⊎ HasFrame (option_to_list (target_of change)) f
begun-frames change g f has = ⊎_elim (λ (is : g.master.frame ≡ f). inl (inl is)) (λ (x : HasFrame (option_to_list (target_of change)) f). inr x) has

-- the frames of a page with an open move
pub open-held : (g : Page) (m : Move) → g.move ≡ Some m → held_for g ≡ copies g ++ option_to_list (target_of m.change)
open-held g m e = ap (λ (o : Option Move). copies g ++ option_to_list (option_and_then target_in o)) e

pub open-used : (g : Page) (m : Move) → g.move ≡ Some m → used_for g ≡ g.master ∷ option_to_list (target_of m.change)
open-used g m e = ap (λ (o : Option Move). g.master ∷ option_to_list (option_and_then target_in o)) e

pub target-used : (g : Page) (m : Move) (f : ℕ) → g.move ≡ Some m → HasFrame (option_to_list (target_of m.change)) f → HasFrame (used_for g) f
target-used g m f e has = subst (λ (l : List Copy). HasFrame l f) (sym (open-used g m e)) (inr has)

finished-of : (change : Change) (g : Page) (f : ℕ) → HasFrame (used_for (finished change g)) f → HasFrame (g.master ∷ option_to_list (target_of change)) f
finished-of (Migrates target) g f has = ⊎_elim (λ (is : target.frame ≡ f). inr (inl is)) (λ none. absurd none) has
finished-of (Replicates target) g f has = ⊎_elim (λ (is : g.master.frame ≡ f). inl is) (λ none. absurd none) has
finished-of Collapses g f has = has
finished-of (Breaks target) g f has = ⊎_elim (λ (is : target.frame ≡ f). inr (inl is)) (λ none. absurd none) has
finished-of (TakesShared target) g f has = ⊎_elim (λ (is : g.master.frame ≡ f). inl is) (λ none. absurd none) has
finished-of (GivesShared target) g f has = ⊎_elim (λ (is : g.master.frame ≡ f). inl is) (λ none. absurd none) has

pub finished-frames : (g : Page) (m : Move) (f : ℕ) → g.move ≡ Some m → HasFrame (used_for (finished m.change g)) f → HasFrame (used_for g) f
finished-frames g m f e has = subst (λ (l : List Copy). HasFrame l f) (sym (open-used g m e)) (finished-of m.change g f has)

-- the spares that join are frames of the page
pub spares-frames : (g : Page) (m : Move) (spares : List Copy) (f : ℕ) → g.move ≡ Some m → HasFrame (spares_finished m.change spares) f → HasFrame spares f ⊎ HasFrame (used_for g) f
spares-frames g m spares f e has = ⊎_elim (λ (x : HasFrame spares f). inl x)
    (λ (x : HasFrame (option_to_list (target_of m.change)) f). inr (target-used g m f e x))
    (by m.change has)
  where
    by : (change : Change) → HasFrame (spares_finished change spares) f → HasFrame spares f ⊎ HasFrame (option_to_list (target_of change)) f
    by (Migrates target) has = inl has
    by (Replicates target) has = inl has
    by Collapses has = inl has
    by (Breaks target) has = inl has
    by (TakesShared target) has = inl has
    by (GivesShared target) has = HasFrame-append spares (target ∷ []) f has

pub spares-taken-frames : (g : Page) (spares : List Copy) (f : ℕ) → HasFrame (spares_taken g spares) f → HasFrame spares f ⊎ HasFrame (used_for g) f
spares-taken-frames g spares f has = by g.shared has
  where
    by : (b : Bool) → HasFrame (if b then spares else spares ++ g.master ∷ []) f → HasFrame spares f ⊎ HasFrame (used_for g) f
    by true has = inl has
    by false has = ⊎_elim (λ (x : HasFrame spares f). inl x) (λ (x : HasFrame (g.master ∷ []) f). ⊎_elim (λ (is : g.master.frame ≡ f). inr (inl is)) (λ none. absurd none) x) (HasFrame-append spares (g.master ∷ []) f has)

-- one part is replaced
pub live-page : (w : Surroundings) (dead : List Bool) (pages : List Page) (spares : List Copy) (processors : List Processor) (q : ℕ) (new : Page) → LiveParts w dead pages spares processors
    → ((f : ℕ) → q < length pages → HasFrame (used_for new) f → Lives w dead f) → LiveParts w dead (set pages q new) spares processors
live-page w dead pages spares processors q new co news = record {
  on_pages = λ r f lt. let within : r < length pages = rw length-set at lt in
      at_place (λ (k : ℕ) (g : Page). k < length pages → HasFrame (used_for g) f → Lives w dead f) pages q new no_page r (λ there within. news f there) (λ other within. co.on_pages r f within) within;
  on_spares = co.on_spares;
  on_processors = co.on_processors;
}

pub live-spares : (w : Surroundings) (dead : List Bool) (pages : List Page) (spares : List Copy) (processors : List Processor) (new : List Copy) → LiveParts w dead pages spares processors
    → ((f : ℕ) → HasFrame new f → Lives w dead f) → LiveParts w dead pages new processors
live-spares w dead pages spares processors new co news = record { on_pages = co.on_pages; on_spares = news; on_processors = co.on_processors }

pub live-processor : (w : Surroundings) (dead : List Bool) (pages : List Page) (spares : List Copy) (processors : List Processor) (p : ℕ) (new : Processor) → LiveParts w dead pages spares processors
    → ((v : ℕ) → new.loaded ≡ Some v → get_or dead (cell_of_processor w p) false ≡ false) → LiveParts w dead pages spares (set processors p new)
live-processor w dead pages spares processors p new co news = record {
  on_pages = co.on_pages;
  on_spares = co.on_spares;
  on_processors = λ r v. at_place (λ (k : ℕ) (x : Processor). x.loaded ≡ Some v → get_or dead (cell_of_processor w k) false ≡ false) processors p new idle r (λ there. news v) (λ other. co.on_processors r v);
}
