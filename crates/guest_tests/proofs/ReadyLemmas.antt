-- The guests of a description that was booted are ready.
use Rattle.std.proofs.Common.{◌≡◌, ℕ, zero, suc, ◌+◌, ◌<◌, List, [], ◌∷◌, length, refl, sym, ap, ◌∙◌, subst, arith, Some}
use Rattle.std.specs.Prelude.{slice_get, slice_index_or}
use Rattle.std.proofs.lemmas.List.{length-map}
use Rattle.frame_words.specs.Holders.{Holding}
use Rattle.shootdown.specs.Notes.{Token}
use Rattle.shootdown.specs.Making.{numbered, fresh_token}
use Rattle.isolation_law.specs.Surroundings.{Surroundings}
use Rattle.machine_desc.specs.declared.machine.GuestSpec.{GuestSpec}
use Rattle.machine_desc.specs.declared.machine.Machine.{Machine}
use Rattle.machine_desc.specs.declared.plan.Plan.{Plan}
use Rattle.machine_desc.specs.Bounds.{IsGuest}
use Rattle.machine_desc.specs.Described.{described_seen}
use Rattle.machine_desc.specs.Accepted.{IsDescribed}
use Rattle.guest_core.specs.GuestView.{Monitored, Shared}
use Rattle.guest_boot.specs.declared.source.Source.{Source}
use Rattle.guest_boot.specs.Starting.{IsSource}
use Rattle.guest_boot.specs.Booting.{HasBooted}
use Rattle.guest_tests.specs.Ready.{HasSize, IsReady, AreReady}

-- there is an item at each place of a list
there : {A : Type 0} (xs : List A) (i : ℕ) → i < length xs → (x : A) × (slice_get xs i ≡ Some x)
there [] i l = absurd (omega arith)
there (x ∷ xs) zero l = (x, refl)
there (x ∷ xs) (suc i) l = there xs i (omega arith)

-- what is got of a list stands at its place
place : {A : Type 0} (xs : List A) (i : ℕ) (x d : A) → slice_get xs i ≡ Some x → (i < length xs) × (slice_index_or xs i d ≡ x)
place [] i x d e = absurd cc
place (y ∷ ys) zero x d e = (omega arith, cc)
place (y ∷ ys) (suc i) x d e = let r = place ys i x d e in (omega (arith, r.0), r.1)

-- the thing of a number
numbered-at : {A : Type 0} (of : ℕ → A) (k n p : ℕ) (x : A) → slice_get (numbered of k n) p ≡ Some x → (p < n) × (x ≡ of (k + p))
numbered-at of k zero p x e = absurd cc
numbered-at of k (suc n) zero x e =
    let same : of k ≡ x = cc in
    (omega arith, sym same ∙ ap of (let m : k ≡ k + 0 = omega arith in m))
numbered-at of k (suc n) (suc p) x e =
    let rest = numbered-at of (suc k) n p x e in
    let few = rest.0 in
    (omega (arith, few), rest.1 ∙ ap of (let m : suc k + p ≡ k + suc p = omega arith in m))

pub ready : (machine : Machine) (plan : Plan) (sources : List Source) (guests : List Monitored) (tokens : List Token) (shared : Shared) (holder : Holding) → IsDescribed machine plan → ((g : ℕ) (source : Source) (spec : GuestSpec) → slice_get sources g ≡ Some source → slice_get machine.guests g ≡ Some spec → IsSource spec source) → HasBooted (described_seen machine plan) sources guests tokens shared holder
    → AreReady machine guests tokens shared
ready machine plan sources guests tokens shared holder described from booted = record {
  each = λ number vcpus pages nodes guest token size guest-is token-is. one number vcpus pages nodes guest token size guest-is token-is;
}
  where
    one : (number vcpus pages nodes : ℕ) (guest : Monitored) (token : Token) → HasSize machine number vcpus pages nodes → slice_get guests number ≡ Some guest → slice_get tokens number ≡ Some token → IsReady vcpus pages nodes shared number guest token
    one number vcpus pages nodes guest token size guest-is token-is =
        let few = (place guests number guest guest guest-is).0 in
        let count = booted.guests_are.count in
        let source = there sources number (omega (arith, few, count)) in
        let started = booted.guests_are.each number guest source.0 guest-is source.1 in
        let start = started.start in
        let said = size.guest started.spec started.spec_is in
        let spec-at = place machine.guests number started.spec started.spec started.spec_is in
        let spec = subst (IsGuest machine.shape.nodes) spec-at.1 (described.guests number started.spec spec-at.0) in
        let some = spec.some_vcpus in
        let of = from number source.0 started.spec source.1 started.spec_is in
        let seat = numbered-at (fresh_token booted.board) 0 (length machine.processors) number token (ap (λ (l : List Token). slice_get l number) (sym booted.tokens_are) ∙ token-is) in
        let processors : length guest.start.around.processors ≡ length machine.processors = ap (λ (w : Surroundings). length w.processors) start.around ∙ length-map machine.processors (λ n. n.0) in
        let pages : guest.start.image.pages ≡ length source.0.image.pages = λ k. (start.image_is k).pages in
        let numbered-so : token.number ≡ 0 + number = ap (λ (t : Token). t.number) seat.1 in
        let on = seat.0 in
        record {
          number_is = started.fresh.number_is;
          own_is = started.fresh.own_is;
          goes_on = started.fresh.goes_on;
          shares = started.fresh.shared_is;
          some_vcpus = omega (arith, some, said.0);
          vcpus_are = start.vcpus ∙ sym said.0;
          pages_are = pages ∙ of.pages ∙ sym said.1;
          nodes_are = ap (λ (w : Surroundings). length w.nodes) start.around ∙ length-map machine.shape.cells (λ c. c.0) ∙ described.in_cells ∙ sym size.machine_is;
          board_is = ap (λ (t : Token). t.board) seat.1 ∙ sym started.fresh.board_is;
          is_processor = omega (arith, processors, numbered-so, on);
          unnoted = ap (λ (t : Token). t.notes) seat.1;
        }
