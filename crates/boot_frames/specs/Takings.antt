-- The private steps by which frames are taken, for one claim after another.
use Rattle.std.specs.Prelude.{◌≡◌, ℕ, ◌+◌, ◌-◌, ◌*◌, ◌<◌, ◌≤◌, true, List, [], ◌∷◌, replicate, slice_index, Option, Some, None, ⊤}
use Rattle.base_words.specs.declared.frame.Frame.{Frame}
use Rattle.node_frames.specs.Layout.{Layout}
use Rattle.frame_words.specs.FrameWords.{frame_word}
use Rattle.frame_words.specs.Views.{frame_holds}
use Rattle.frame_words.specs.Holders.{MadeTable}
use Rattle.frame_words.specs.declared.terms.Terms.{Terms}
use Rattle.frame_words.specs.declared.view.View.{View}
use Rattle.node_frames.specs.Left.{Left, left_of}
use Rattle.node_frames.specs.Alone.{FindsNext, IsLowest, Gains}
use Rattle.boot_frames.specs.Claims.{home_of, order_of, has_of}
use Rattle.boot_frames.specs.Chain.{after_claim, after_claims, first_short}
use Rattle.boot_frames.specs.Gains.{GainsAll}
use Rattle.boot_frames.specs.Givings.{HasAll}
use Rattle.boot_frames.specs.Lots.{AreTaken}
use Rattle.boot_frames.specs.declared.claims.Claim.{Claim}
use Rattle.boot_frames.specs.declared.claims.Taker.{Taker}
use Rattle.boot_frames.specs.declared.taken.Taken.{Taken}
use Rattle.boot_frames.specs.declared.filling.Filled.{Filled}
use Rattle.boot_frames.specs.declared.filling.Filled.TheVariants.{Full, Short}

-- how many frames of a node are gone
abbrev pub gone : Terms → Layout → View → ℕ → ℕ
gone terms layout v node = layout.frames - (left_of layout terms.lends v).frames node

-- a view that is alone and only took frames, of each node in order of number: it holds none twice, and each that it
-- doesn't hold is as at first
pub record OnlyTook (terms : Terms) (layout : Layout) (v : View) : Type 0 where
  pub alone : v.alone ≡ true
  pub fresh : terms.first < 4294967295
  pub once : (frame : ℕ) → frame_holds v frame ≤ 1
  pub known : (frame : ℕ) → frame < terms.frames → frame_holds v frame ≡ 0 → slice_index v.known (frame_word frame) ≡ terms.first
  pub most : (node : ℕ) → (left_of layout terms.lends v).frames node ≤ layout.frames
  pub low : (node k : ℕ) → k < gone terms layout v node → 0 < frame_holds v (node * layout.frames + k)
  pub high : (node k : ℕ) → gone terms layout v node ≤ k → k < layout.frames → frame_holds v (node * layout.frames + k) ≡ 0

-- a search by a view that is alone found this frame, of all that there are
pub record TakesNext (table : MadeTable) (layout : Layout) (taker : Taker) (frame : Frame) (v w : View) : Type 0 where
  pub next : FindsNext layout table.terms.lends (home_of layout taker) (order_of layout taker) frame.number.0 v w
  pub lowest : IsLowest layout frame.number.0 v
  pub gains : Gains layout (home_of layout taker) frame.number.0 frame.generation v w
  pub fewer : has_of layout taker (left_of layout table.terms.lends w) + 1 ≡ has_of layout taker (left_of layout table.terms.lends v)
  pub zeroed : frame.page.value ≡ replicate 4096 0

-- or there was none
abbrev pub NextBy : MadeTable → Layout → Taker → View → Option Frame → View → Type 0
NextBy table layout taker v (Some frame) w = TakesNext table layout taker frame v w
NextBy table layout taker v None w = has_of layout taker (left_of layout table.terms.lends v) ≡ 0

-- a claim's frames were taken, of which there were enough
pub record Fills (table : MadeTable) (layout : Layout) (claim : Claim) (frames : List Frame) (v w : View) : Type 0 where
  pub enough : claim.frames ≤ has_of layout claim.taker (left_of layout table.terms.lends v)
  pub few : claim.frames < 4294967296
  pub taken : AreTaken table.terms layout (left_of layout table.terms.lends v) claim frames
  pub gains : GainsAll layout (home_of layout claim.taker) frames v w
  pub after : left_of layout table.terms.lends w ≡ after_claim layout claim (left_of layout table.terms.lends v)
  pub only : OnlyTook table.terms layout w

-- all frames of a claim, or how many there are, which are too few
abbrev pub FilledBy : MadeTable → Layout → Claim → View → Filled → View → Type 0
FilledBy table layout claim v (Full frames) w = Fills table layout claim frames v w
FilledBy table layout claim v (Short number) w =
    (number ≡ has_of layout claim.taker (left_of layout table.terms.lends v)) × (number < claim.frames)

-- the same for each claim in order
pub record TakesFor (terms : Terms) (layout : Layout) (left : Left) (claim : Claim) (taken : Taken) : Type 0 where
  pub home : taken.home.0 ≡ home_of layout claim.taker
  pub few : claim.frames < 4294967296
  pub frames : AreTaken terms layout left claim taken.frames

abbrev pub TakesForAll : Terms → Layout → Left → List Claim → List Taken → Type 0
TakesForAll terms layout left [] [] = ⊤
TakesForAll terms layout left [] (t ∷ ts) = ⊥
TakesForAll terms layout left (claim ∷ claims) [] = ⊥
TakesForAll terms layout left (claim ∷ claims) (t ∷ ts) =
    TakesFor terms layout left claim t × TakesForAll terms layout (after_claim layout claim left) claims ts

-- all claims have their frames, of all that was left; a view that had nothing has exactly these
pub record TakesAll (table : MadeTable) (layout : Layout) (claims : List Claim) (takens : List Taken) (v w : View) : Type 0 where
  pub none : first_short layout claims (left_of layout table.terms.lends v) ≡ None
  pub taken : TakesForAll table.terms layout (left_of layout table.terms.lends v) claims takens
  pub has : v.holds ≡ [] → HasAll layout w takens
  pub after : left_of layout table.terms.lends w ≡ after_claims layout claims (left_of layout table.terms.lends v)
  pub only : OnlyTook table.terms layout w
