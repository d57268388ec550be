-- What a key of a table may hold, and what stands for it where it is absent.
use Rattle.std.specs.Prelude.{ℕ, List, Option, Some, None}
use Rattle.base_words.specs.declared.ids.NodeId.{NodeId}
use Rattle.toml.specs.Data.{Members}

-- what a key may hold
pub data Kind : Type 0 where
  -- an integer from the first to the second number
  between : ℕ → ℕ → Kind
  -- a list of 1 to so many node numbers 0 to 7
  node_list : ℕ → Kind
  -- a text of 1 to so many bytes
  text_to : ℕ → Kind
  -- one of these words
  one_of : List (List ℕ) → Kind
  -- a table
  one_table : Kind
  -- an array of so many to so many tables
  array_of : ℕ → ℕ → Kind

-- what a key holds
pub data Cell : Type 0 where
  a_number : ℕ → Cell
  a_list : List NodeId → Cell
  a_text : List ℕ → Cell
  a_table : Members → Cell
  some_tables : List Members → Cell
  nothing : Cell

-- a key, what it may hold, and what stands for it where it is absent, if it may be
pub record Row : Type 0 where
  pub key : List ℕ
  pub kind : Kind
  pub default : Option Cell

-- a key that has to be there
abbrev pub required : List ℕ → Kind → Row
required key kind = record { key = key; kind = kind; default = None }

-- a key that may be left out
abbrev pub optional : List ℕ → Kind → Cell → Row
optional key kind default = record { key = key; kind = kind; default = Some default }
