-- An index, inside: each entry lies in the frame of its place.
use Rattle.std.specs.Prelude.{◌≡◌, map, take, length}
use Rattle.base_words.specs.declared.frame.Frame.{Frame}
use Rattle.base_words.specs.declared.frame.SharedFrame.{SharedFrame}
use Rattle.cow_disk.specs.IndexView.{Cached, Index, copy_in}
use Rattle.cow_disk.specs.declared.index.BlockId.{BlockId}
use Rattle.cow_disk.specs.declared.index.CacheFrame.{CacheFrame}
use Rattle.cow_disk.specs.declared.index.SharedIndex.TheInside.{Inside}

abbrev pub place_of : Frame → CacheFrame
place_of f = record { number = f.number; generation = f.generation }

abbrev pub cached_of : BlockId × SharedFrame → Cached
cached_of e = record { disk = e.0.disk; block = e.0.block; copy = copy_in e.1 }

abbrev pub place_used : BlockId × SharedFrame → CacheFrame
place_used e = record { number = e.1.number; generation = e.1.generation }

abbrev pub index_of : Inside → Index
index_of index = record { entries = map cached_of index.entries.entries; frames = index.frames.items }

pub record IsFilled (index : Inside) : Type 0 where
  pub in_places : map place_used index.entries.entries ≡ take (length index.entries.entries) index.frames.items
