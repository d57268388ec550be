-- A page and its history: the history is legal, and the words are what it stored last.
use Rattle.std.specs.Prelude.{◌≡◌, ℕ, ◌<◌, ◌%◌, length}
use Rattle.base_words.specs.Memory.{word_at}
use Rattle.page_slots.specs.declared.kept.KeptPage.TheInside.{Inside}
use Rattle.page_slots.specs.Histories.{IsLegal, last_stored}

-- the history is legal, and the word at each offset is what was stored there last
pub record IsKept (a : Inside) : Type 0 where
  pub legal : IsLegal a.history
  pub words : (offset : ℕ) → offset < 4096 → offset % 4 ≡ 0 → word_at a.page.value offset ≡ last_stored offset a.history
  pub whole : length a.page.value ≡ 4096
