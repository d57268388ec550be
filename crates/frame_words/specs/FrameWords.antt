-- One word of 64 bits a cell and one a frame.
-- Words 0 to 7 are the cells' loans. Word f + 8 is frame f: its count of holders in the low 32 bits, its generation in the high 32.
use Rattle.std.specs.Prelude.{◌≡◌, ℕ, ◌+◌, ◌/◌, ◌%◌, ◌<◌}

-- the word of a cell's loans
abbrev pub cell_word : ℕ → ℕ
cell_word cell = cell

-- the word of a frame
abbrev pub frame_word : ℕ → ℕ
frame_word frame = frame + 8

-- how many hold a word's frame, or how many loans a cell's word has
abbrev pub count : ℕ → ℕ
count word = word % 4294967296

-- under which generation
abbrev pub generation : ℕ → ℕ
generation word = word / 4294967296

-- nobody holds the frame, and it has a generation left
pub record IsFree (word : ℕ) : Type 0 where
  pub unheld : count word ≡ 0
  pub fresh : generation word < 4294967295

-- somebody holds the frame under this generation, and one more may
pub record IsShareable (word under : ℕ) : Type 0 where
  pub held : 0 < count word
  pub room : count word < 4294967295
  pub same : generation word ≡ under
