-- Who gets frames at boot, one after another: first each cell for its cache, then each guest for its pages.
use Rattle.std.specs.Prelude.{ℕ, zero, suc, ◌+◌, ◌<◌, List, [], ◌∷◌, ◌++◌, ⊤}
use Rattle.node_frames.specs.Layout.{Layout}
use Rattle.base_words.specs.declared.ids.NodeId.{NodeId}
use Rattle.node_frames.specs.Places.{cell_of_node}
use Rattle.node_frames.specs.BootOrder.{boot_nodes, cell_nodes}
use Rattle.node_frames.specs.Left.{Left, has, cell_frames}
use Rattle.boot_frames.specs.declared.needs.Need.{Need}
use Rattle.boot_frames.specs.declared.claims.Claim.{Claim}
use Rattle.boot_frames.specs.declared.claims.Taker.{Taker}
use Rattle.boot_frames.specs.declared.claims.Taker.TheVariants.{Cache, Pages}

-- the home cell, whose frames take no loan: the cell of the cache, or that of the guest's home node
abbrev pub home_of : Layout → Taker → ℕ
home_of layout (Cache cell) = cell.0
home_of layout (Pages guest node) = cell_of_node layout node.0

-- the nodes in the order in which they are asked: the cell's own and no others, or all of them from the guest's home node on
abbrev pub order_of : Layout → Taker → List NodeId
order_of layout (Cache cell) = cell_nodes layout cell.0
order_of layout (Pages guest node) = boot_nodes layout node

-- how many frames there are: the free frames of the cell's nodes, or what a guest of that home cell has, loans included
abbrev pub has_of : Layout → Taker → Left → ℕ
has_of layout (Cache cell) left = cell_frames layout left cell.0
has_of layout (Pages guest node) left = has layout (cell_of_node layout node.0) left

-- a guest is at home on a node of the layout
abbrev pub IsAtHome : Layout → Taker → Type 0
IsAtHome layout (Cache cell) = ⊤
IsAtHome layout (Pages guest node) = node.0 < layout.nodes

-- so many frames for the cache of a cell, and for each of so many cells from this one on
abbrev pub cache_claim : ℕ → ℕ → Claim
cache_claim cache cell = record { taker = Cache (record { 0 = cell }); frames = cache }

abbrev pub cache_claims : ℕ → ℕ → ℕ → List Claim
cache_claims cache cell zero = []
cache_claims cache cell (suc more) = cache_claim cache cell ∷ cache_claims cache (cell + 1) more

-- a frame for each page of a guest, and for each of these guests, of which the first has this number
abbrev pub page_claim : ℕ → Need → Claim
page_claim guest need = record { taker = Pages (record { 0 = guest }) need.node; frames = need.pages }

abbrev pub page_claims : ℕ → List Need → List Claim
page_claims guest [] = []
page_claims guest (need ∷ needs) = page_claim guest need ∷ page_claims (guest + 1) needs

-- all claims in order: of so many cells with a cache of so many frames each, then of these guests
abbrev pub claims_of : ℕ → ℕ → List Need → List Claim
claims_of cells cache needs = cache_claims cache 0 cells ++ page_claims 0 needs
