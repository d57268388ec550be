-- The policy's choice that is due on a processor may be asked for.
use Rattle.std.proofs.Common.{◌≡◌, inl, inr, ℕ, zero, suc, ◌+◌, ◌<◌, true, false, List, [], ◌∷◌, Option, None, length, map, get_or, refl, sym, ap, ◌∙◌, subst, arith}
use Rattle.std.proofs.lemmas.List.{length-map}
use Rattle.base_words.specs.declared.moves.MoveKind.{MoveKind}
use Rattle.base_words.specs.declared.moves.MoveKind.TheVariants.{Migrate, Replicate, Collapse, Break, TakeShared, GiveShared}
use Rattle.isolation_law.specs.Causes.{seeks_frame}
use Rattle.isolation_law.specs.GuestState.{due_on}
use Rattle.isolation_law.specs.Surroundings.{Surroundings, node_of_processor}
use Rattle.guest_course.specs.CourseView.{due_of, processor_of, state_of}
use Rattle.guest_course.specs.CourseRules.{StandsAt, AllStand}
use Rattle.guest_course.specs.declared.place.Place.{Place}
use Rattle.guest_course.specs.declared.place.Wish.{Wish}
use Rattle.guest_core.specs.Kept.{IsKept}
use Rattle.guest_core.specs.MoveCalls.{IsPlanned}
use Rattle.guest_core.specs.declared.parts.Parts.{Parts}

-- what is due on a processor
pub due-there : (dues : List (Option Wish)) (p : ℕ) (x : Option Wish) → p < length dues → x ≡ get_or dues p x → get_or (map due_of dues) p None ≡ due_of x
due-there [] p x lt at = absurd (omega arith)
due-there (y ∷ dues) zero x lt at = ap due_of (sym at)
due-there (y ∷ dues) (suc p) x lt at = due-there dues p x (omega arith) at

-- a processor of the guest's has its place, and what is due there
pub is-place : (g : Parts) (p : ℕ) → IsKept g → p < length g.start.around.processors → p < length g.course.places.items
is-place g p k lt = subst (λ (n : ℕ). p < n) (sym k.kept.processors ∙ length-map g.course.places.items processor_of) lt

pub is-due : (g : Parts) (p : ℕ) (x : Option Wish) → IsKept g → p < length g.start.around.processors → x ≡ get_or g.course.due.items p x → due_of x ≡ due_on (state_of g.course) p
is-due g p x k lt at = sym (due-there g.course.due.items p x (subst (λ (n : ℕ). p < n) (sym k.sound.sized.due) (is-place g p k lt)) at)

stands-on : (w : Surroundings) (k p : ℕ) (place : Place) → k ≡ p → StandsAt w k place → node_of_processor w p < length w.nodes
stands-on w k p place same is = subst (λ (n : ℕ). n < length w.nodes) (is.node ∙ ap (node_of_processor w) same) is.is_node

-- each processor's node is there
pub node-there : (w : Surroundings) (k p : ℕ) (places : List Place) → AllStand w k places → p < length places → node_of_processor w (k + p) < length w.nodes
node-there w k p [] all lt = absurd (omega arith)
node-there w k zero (place ∷ places) all lt = stands-on w k (k + 0) place (let e : k ≡ k + 0 = omega arith in e) all.0
node-there w k (suc p) (place ∷ places) all lt =
    subst (λ (n : ℕ). node_of_processor w n < length w.nodes) (let e : suc k + p ≡ k + suc p = omega arith in e) (node-there w (suc k) p places all.1 (omega arith))

-- a move for which a frame is sought may be asked for
pub seeks-planned : (w : Surroundings) (page node : ℕ) (kind : MoveKind) → seeks_frame kind ≡ true → IsPlanned w (record { page = page; kind = kind; node = node })
seeks-planned w page node Migrate seeks = inl refl
seeks-planned w page node Replicate seeks = inr (inl refl)
seeks-planned w page node Collapse seeks = absurd (let no : false ≡ true = seeks in cc)
seeks-planned w page node Break seeks = absurd (let no : false ≡ true = seeks in cc)
seeks-planned w page node TakeShared seeks = absurd (let no : false ≡ true = seeks in cc)
seeks-planned w page node GiveShared seeks = absurd (let no : false ≡ true = seeks in cc)
