-- What the cells and the guests get.
use Rattle.std.specs.Prelude.{◌≡◌, ℕ, ◌+◌, ◌<◌, List, [], ◌∷◌, length, replicate, slice_get, All, Contains, Some, ⊤}
use Rattle.base_words.specs.declared.frame.Frame.{Frame}
use Rattle.node_frames.specs.Layout.{Layout}
use Rattle.frame_words.specs.FrameWords.{frame_word}
use Rattle.frame_words.specs.Views.{hold}
use Rattle.frame_words.specs.Holders.{MadeTable, IsMade}
use Rattle.frame_words.specs.Splits.{named, frame_times}
use Rattle.frame_words.specs.Steps.{begun_with}
use Rattle.frame_words.specs.declared.view.Hold.{Hold}
use Rattle.frame_words.specs.declared.terms.Terms.{Terms}
use Rattle.node_frames.specs.Left.{Left}
use Rattle.boot_frames.specs.Claims.{home_of}
use Rattle.boot_frames.specs.Chain.{after_claim, frame_at}
use Rattle.boot_frames.specs.Loans.{loans_of}
use Rattle.boot_frames.specs.declared.claims.Claim.{Claim}
use Rattle.boot_frames.specs.declared.lots.Lot.{Lot}

-- a frame of the table, taken for the first time, with a page of zeros
pub record IsNew (terms : Terms) (frame : Frame) : Type 0 where
  pub within : frame.number.0 < terms.frames
  pub zeroed : frame.page.value ≡ replicate 4096 0
  pub first : frame.generation ≡ terms.first + 1

-- a claim's frames: as many as it says, and in order, as a guest's pages are
pub record AreTaken (terms : Terms) (layout : Layout) (left : Left) (claim : Claim) (frames : List Frame) : Type 0 where
  pub count : length frames ≡ claim.frames
  pub new : All (IsNew terms) frames
  pub placed : (place : ℕ) (frame : Frame) → slice_get frames place ≡ Some frame → frame_at layout claim.taker left place ≡ Some frame.number.0

-- a claim has its frames, and a holder of this table that holds exactly these and a loan for each outside the home cell
pub record Serves (table : MadeTable) (layout : Layout) (left : Left) (claim : Claim) (lot : Lot) : Type 0 where
  pub taken : AreTaken table.terms layout left claim lot.frames
  pub holds : lot.holder.view ≡ begun_with (named lot.frames (loans_of layout (home_of layout claim.taker) lot.frames))
  pub made : IsMade table lot.holder

-- each claim in order has its lot, of what the claims before it left
abbrev pub ServesAll : MadeTable → Layout → Left → List Claim → List Lot → Type 0
ServesAll table layout left [] [] = ⊤
ServesAll table layout left [] (lot ∷ lots) = ⊥
ServesAll table layout left (claim ∷ claims) [] = ⊥
ServesAll table layout left (claim ∷ claims) (lot ∷ lots) =
    Serves table layout left claim lot × ServesAll table layout (after_claim layout claim left) claims lots

-- how often a frame is among the frames of these lots
abbrev pub times_given : ℕ → List Lot → ℕ
times_given frame [] = 0
times_given frame (lot ∷ lots) = frame_times frame lot.frames + times_given frame lots

-- among these holds is one of the frame, under its generation
abbrev pub Has : List Hold → Frame → Type 0
Has holds frame = Contains holds (hold (frame_word frame.number.0) frame.generation)
