-- The claims one after another, by what is left of the machine: which of them is the first that doesn't get its
-- frames. All of it is counted from numbers alone.
use Rattle.std.specs.Prelude.{◌≡◌, ℕ, ◌+◌, ◌-◌, ◌*◌, if◌then◌else◌, nat_lt, List, [], ◌∷◌, Option, Some, None, option_map, ⊤}
use Rattle.node_frames.specs.Layout.{Layout}
use Rattle.base_words.specs.declared.ids.NodeId.{NodeId}
use Rattle.node_frames.specs.Left.{Left, first_giving, after_searches}
use Rattle.boot_frames.specs.Claims.{home_of, order_of, has_of}
use Rattle.boot_frames.specs.declared.claims.Claim.{Claim}
use Rattle.boot_frames.specs.declared.claims.Taker.{Taker}
use Rattle.boot_frames.specs.declared.claims.Taker.TheVariants.{Cache, Pages}
use Rattle.boot_frames.specs.declared.answers.Shortage.{Shortage}
use Rattle.boot_frames.specs.declared.answers.Shortage.TheVariants.{Memory, Cell, Guest}

-- what is left when so many frames are taken
abbrev pub after_frames : Layout → Taker → ℕ → Left → Left
after_frames layout taker count left = after_searches layout (home_of layout taker) (order_of layout taker) count left

-- what is left when a claim has its frames, and when all these claims have theirs
abbrev pub after_claim : Layout → Claim → Left → Left
after_claim layout claim left = after_frames layout claim.taker claim.frames left

abbrev pub after_claims : Layout → List Claim → Left → Left
after_claims layout [] left = left
after_claims layout (claim ∷ claims) left = after_claims layout claims (after_claim layout claim left)

-- the lowest free frame of a node, of which the frames go in order of number
abbrev pub lowest_frame : Layout → Left → NodeId → ℕ
lowest_frame layout left node = node.0 * layout.frames + (layout.frames - left.frames node.0)

-- the frame that is taken when so many are: the lowest free one of the first node that gives one
abbrev pub frame_at : Layout → Taker → Left → ℕ → Option ℕ
frame_at layout taker left count =
    let now = after_frames layout taker count left in
    option_map (lowest_frame layout now) (first_giving layout (home_of layout taker) now (order_of layout taker))

-- the shortage of who needs so many frames and has so many
abbrev pub shortage_of : Taker → ℕ → ℕ → Shortage
shortage_of (Cache cell) needs has = Cell cell needs has
shortage_of (Pages guest node) needs has = Guest guest needs has

-- the first claim for more than there is
abbrev pub first_short : Layout → List Claim → Left → Option Shortage
first_short layout [] left = None
first_short layout (claim ∷ claims) left =
    if nat_lt (has_of layout claim.taker left) claim.frames
    then Some (shortage_of claim.taker claim.frames (has_of layout claim.taker left))
    else first_short layout claims (after_claim layout claim left)

-- a refusal names the first claim that is short, unless memory was wanting
abbrev pub Tells : Option Shortage → Shortage → Type 0
Tells short Memory = ⊤
Tells short (Cell cell needs has) = short ≡ Some (Cell cell needs has)
Tells short (Guest guest needs has) = short ≡ Some (Guest guest needs has)
