-- What the caches of a machine's cells have: by the guests' disks, and by the frames that were claimed.
use Rattle.std.specs.Prelude.{◌≡◌, ℕ, zero, suc, ◌<◌, ◌+◌, ◌/◌, ◌==◌, ◌&&◌, if◌then◌else◌, List, [], ◌∷◌, ◌++◌, length, map, drop, Some, slice_get}
use Rattle.frame_words.specs.declared.terms.Terms.{Terms}
use Rattle.node_frames.specs.Layout.{Layout}
use Rattle.node_frames.specs.Places.{cell_of_node}
use Rattle.node_frames.specs.Left.{Left}
use Rattle.private_machine.specs.Disk.{Block}
use Rattle.cow_disk.specs.IndexView.{Cached, Index}
use Rattle.cow_disk.specs.declared.index.CacheFrame.{CacheFrame}
use Rattle.boot_frames.specs.Chain.{after_claims, frame_at}
use Rattle.boot_frames.specs.Claims.{cache_claims}
use Rattle.boot_frames.specs.declared.claims.Taker.TheVariants.{Cache}
use Rattle.block_caches.specs.declared.filling.HomeDisk.{HomeDisk}

-- ---- the blocks that are to be kept

-- the blocks of a disk, as they were given
abbrev pub blocks_in : List Block → List (List ℕ)
blocks_in disk = map (λ (b : Block). b.given) disk

-- the disk of a guest, as it is seen: the guest's home cell, the disk's number and its blocks
pub record DiskSeen : Type 0 where
  pub cell : ℕ
  pub number : ℕ
  pub blocks : List (List ℕ)

abbrev pub disk_seen : HomeDisk → DiskSeen
disk_seen home = record { cell = home.cell.0; number = home.number; blocks = blocks_in home.disk.now }

abbrev pub disks_seen : List HomeDisk → List DiskSeen
disks_seen disks = map disk_seen disks

-- the blocks of the disk of a number, where a guest has it that is at home on the cell
abbrev pub disk_at : ℕ → ℕ → List DiskSeen → List (List ℕ)
disk_at cell number [] = []
disk_at cell number (d ∷ disks) = if (d.cell == cell) && (d.number == number) then d.blocks else disk_at cell number disks

-- a block that is to be kept
pub record Wanted : Type 0 where
  pub disk : ℕ
  pub block : ℕ
  pub bytes : List ℕ

-- the blocks of a disk from one on, in order
abbrev pub numbered : ℕ → ℕ → List (List ℕ) → List Wanted
numbered disk block [] = []
numbered disk block (bytes ∷ blocks) = record { disk = disk; block = block; bytes = bytes } ∷ numbered disk (suc block) blocks

-- the blocks that the cell of a number wants, in order of disk and block, of the disks whose numbers are below this one
abbrev pub wanted : ℕ → ℕ → List DiskSeen → List Wanted
wanted cell zero disks = []
wanted cell (suc numbers) disks = wanted cell numbers disks ++ numbered numbers 0 (disk_at cell numbers disks)

-- ---- what is kept

-- each block in the next frame, until the blocks or the frames are used up
abbrev pub kept_in : List Wanted → List CacheFrame → List Cached
kept_in [] frames = []
kept_in (w ∷ blocks) [] = []
kept_in (w ∷ blocks) (f ∷ frames) = record { disk = w.disk; block = w.block; copy = record { frame = f.number.0; generation = f.generation; bytes = w.bytes } } ∷ kept_in blocks frames

-- an index that keeps these blocks, too
abbrev pub kept_with : List Wanted → Index → Index
kept_with blocks index = record index { entries = index.entries ++ kept_in blocks (drop (length index.entries) index.frames) }

-- ---- the caches of all cells

-- the k-th frame of a cell's cache is the k-th that boot takes for it of what the cells before it left: a frame of the machine that lies in
-- the cell and was taken for the first time
pub record IsCacheFrame (terms : Terms) (layout : Layout) (left : Left) (cell k : ℕ) (f : CacheFrame) : Type 0 where
  pub placed : frame_at layout (Cache (record { 0 = cell })) left k ≡ Some f.number.0
  pub within : f.number.0 < terms.frames
  pub inside : cell_of_node layout (f.number.0 / layout.frames) ≡ cell
  pub first : f.generation ≡ terms.first + 1

-- what the cells before this one left
abbrev pub left_for : Layout → Left → ℕ → ℕ → Left
left_for layout left cache cell = after_claims layout (cache_claims cache 0 cell) left

-- a cell's cache has so many frames, and in them just the first of the blocks that the cell wants
pub record IsCache (terms : Terms) (layout : Layout) (left : Left) (cache numbers : ℕ) (disks : List DiskSeen) (cell : ℕ) (index : Index) : Type 0 where
  pub count : length index.frames ≡ cache
  pub frames : (k : ℕ) (f : CacheFrame) → slice_get index.frames k ≡ Some f → IsCacheFrame terms layout (left_for layout left cache cell) cell k f
  pub entries : index.entries ≡ kept_in (wanted cell numbers disks) index.frames

-- each of so many cells has its cache
pub record AreCaches (terms : Terms) (layout : Layout) (left : Left) (cache cells numbers : ℕ) (disks : List DiskSeen) (indexes : List Index) : Type 0 where
  pub count : length indexes ≡ cells
  pub each : (cell : ℕ) (index : Index) → slice_get indexes cell ≡ Some index → IsCache terms layout left cache numbers disks cell index
