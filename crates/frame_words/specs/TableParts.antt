-- A table of frame words, inside: its key is its terms, it has no slots,
-- and a word for each of eight cells and each frame.
use Rattle.std.specs.Prelude.{◌≡◌, ◌+◌}
use Rattle.frame_words.specs.declared.table.FrameTable.TheInside.{Inside}

pub record IsWhole (a : Inside) : Type 0 where
  pub known : a.table.shared.key ≡ a.terms
  pub slotless : a.table.shared.table_id.slots ≡ 0
  pub wide : a.table.shared.table_id.words ≡ a.terms.frames + 8
