-- A claim's frames, one more at a time.
use Rattle.std.proofs.Common.{◌≡◌, ℕ, zero, suc, ◌+◌, ◌*◌, ◌<◌, ◌⊎◌, inl, inr, ⊎_elim, List, [], ◌∷◌, ◌++◌, length, Some, refl, sym, ap, ◌∙◌, subst, arith, length-append}
use Rattle.std.specs.Prelude.{slice_get, option_map}
use Rattle.std.proofs.lemmas.Option.{none-some, same_Some}
use Rattle.std.proofs.lemmas.List.Elements.{All-nil, All-push}
use Rattle.base_words.specs.declared.frame.Frame.{Frame}
use Rattle.node_frames.specs.Layout.{Layout}
use Rattle.frame_words.specs.Holders.{MadeTable}
use Rattle.frame_words.specs.declared.terms.Terms.{Terms}
use Rattle.frame_words.specs.declared.view.View.{View}
use Rattle.node_frames.specs.Places.{IsOn}
use Rattle.node_frames.specs.Left.{Left, left_of, first_giving, after_search}
use Rattle.boot_frames.specs.Claims.{home_of, order_of, has_of}
use Rattle.boot_frames.specs.Chain.{after_frames, lowest_frame, frame_at}
use Rattle.boot_frames.specs.Lots.{IsNew, AreTaken}
use Rattle.boot_frames.specs.Gains.{GainsAll}
use Rattle.boot_frames.specs.Takings.{OnlyTook, TakesNext, Fills}
use Rattle.boot_frames.specs.declared.claims.Claim.{Claim}
use Rattle.boot_frames.specs.declared.claims.Taker.{Taker}
use Rattle.boot_frames.proofs.GainLemmas.{gains_none, gains_more}
use Rattle.boot_frames.proofs.LowestLemmas.{found_lowest, found_only}

-- an element of a list with one more behind it
pub slice_get-push : {X : Type 0} (xs : List X) (x y : X) (i : ℕ) → slice_get (xs ++ x ∷ []) i ≡ Some y → (slice_get xs i ≡ Some y) ⊎ ((i ≡ length xs) × (x ≡ y))
slice_get-push [] x y zero is = inr (refl, same_Some x y is)
slice_get-push [] x y (suc i) is = absurd (none-some y is)
slice_get-push (a ∷ xs) x y zero is = inl is
slice_get-push (a ∷ xs) x y (suc i) is = ⊎_elim (λ e. inl e) (λ e. inr (let n = e.0 in omega arith, e.1)) (slice_get-push xs x y i is)

-- a claim for so many
abbrev pub wanting : Taker → ℕ → Claim
wanting taker k = record { taker = taker; frames = k }

pub taken_none : (terms : Terms) (layout : Layout) (left : Left) (taker : Taker) → AreTaken terms layout left (wanting taker 0) []
taken_none terms layout left taker = record { count = refl; new = All-nil (IsNew terms); placed = λ place frame is. absurd (none-some frame is) }

pub taken_more : (terms : Terms) (layout : Layout) (left : Left) (taker : Taker) (k : ℕ) (fs : List Frame) (f : Frame) → AreTaken terms layout left (wanting taker k) fs → IsNew terms f
    → frame_at layout taker left k ≡ Some f.number.0
    → AreTaken terms layout left (wanting taker (k + 1)) (fs ++ f ∷ [])
taken_more terms layout left taker k fs f p new next = record {
  count = length-append fs (f ∷ []) ∙ ap (λ n. n + 1) p.count;
  new = All-push (IsNew terms) fs f p.new new;
  placed = λ place frame is. ⊎_elim
      (λ (before : slice_get fs place ≡ Some frame). p.placed place frame before)
      (λ (last : (place ≡ length fs) × (f ≡ frame)).
      ap (frame_at layout taker left) (last.0 ∙ p.count) ∙ next ∙ ap (λ (x : Frame). Some x.number.0) last.1)
      (slice_get-push fs f frame place is);
}

-- what is known after so many searches
pub record Filling (table : MadeTable) (layout : Layout) (taker : Taker) (k : ℕ) (frames : List Frame) (v w : View) : Type 0 where
  pub taken : AreTaken table.terms layout (left_of layout table.terms.lends v) (wanting taker k) frames
  pub gains : GainsAll layout (home_of layout taker) frames v w
  pub after : left_of layout table.terms.lends w ≡ after_frames layout taker k (left_of layout table.terms.lends v)
  pub only : OnlyTook table.terms layout w
  pub most : has_of layout taker (left_of layout table.terms.lends w) + k ≡ has_of layout taker (left_of layout table.terms.lends v)

pub filling_none : (table : MadeTable) (layout : Layout) (taker : Taker) (v : View) → OnlyTook table.terms layout v → Filling table layout taker 0 [] v v
filling_none table layout taker v only = record { taken = taken_none table.terms layout (left_of layout table.terms.lends v) taker; gains = gains_none layout (home_of layout taker) v; after = refl; only = only; most = omega arith }

-- which numbers a node's frames have
abbrev pub Ranges : MadeTable → Layout → Type 0
Ranges table layout =
    ((node k : ℕ) → k < layout.frames → IsOn layout node (node * layout.frames + k))
    × ((node frame : ℕ) → IsOn layout node frame → (k : ℕ) × (k < layout.frames) × (frame ≡ node * layout.frames + k))
    × ((node frame : ℕ) → node < layout.nodes → IsOn layout node frame → frame < table.terms.frames)

pub filling_more : (table : MadeTable) (layout : Layout) (taker : Taker) (k : ℕ) (frames : List Frame) (f : Frame) (v m w : View) → Ranges table layout
    → after_frames layout taker (k + 1) (left_of layout table.terms.lends v) ≡ after_search layout (home_of layout taker) (order_of layout taker) (after_frames layout taker k (left_of layout table.terms.lends v))
    → Filling table layout taker k frames v m → TakesNext table layout taker f m w → Filling table layout taker (k + 1) (frames ++ f ∷ []) v w
filling_more table layout taker k frames f v m w ranges more i t =
    let lends = table.terms.lends in
    let home = home_of layout taker in
    let order = order_of layout taker in
    let within = ranges.2 t.next.node.0 f.number.0 t.next.within t.next.on in
    let place = ranges.1 t.next.node.0 f.number.0 t.next.on in
    let known = i.only.known f.number.0 within t.lowest.unheld in
    let before = i.most in
    let fewer = t.fewer in record {
      taken = taken_more table.terms layout (left_of layout lends v) taker k frames f i.taken
          (record { within = within; zeroed = t.zeroed; first = t.gains.next ∙ ap (λ n. n + 1) known })
          (ap (λ (l : Left). option_map (lowest_frame layout l) (first_giving layout home l order)) (sym i.after)
          ∙ ap (option_map (lowest_frame layout (left_of layout lends m))) t.next.next
          ∙ ap (λ n. Some n) (found_lowest table layout taker f m w ranges.0 t within place i.only));
      gains = gains_more layout home frames f v m w i.gains t.gains;
      after = t.next.chained ∙ ap (after_search layout home order) i.after ∙ sym more;
      only = found_only table layout taker f m w ranges.0 t within place i.only;
      most = omega arith;
    }

-- the claim has all its frames
pub filled : (table : MadeTable) (layout : Layout) (claim : Claim) (k : ℕ) (frames : List Frame) (v w : View) → k ≡ claim.frames → k < 4294967296 → Filling table layout claim.taker k frames v w → Fills table layout claim frames v w
filled table layout claim k frames v w is small i =
    let f : Filling table layout claim.taker claim.frames frames v w = subst (λ n. Filling table layout claim.taker n frames v w) is i in
    let most = f.most in
    record { taken = f.taken; gains = f.gains; after = f.after; only = f.only; enough = omega arith; few = omega arith }
