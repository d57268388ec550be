-- What a contract sees of a table and of a holder.
use Rattle.std.specs.Prelude.{◌≡◌}
use Rattle.atomic_table.specs.Seated.{TableId}
use Rattle.frame_words.specs.Views.{OneGeneration}
use Rattle.frame_words.specs.declared.view.View.{View}
use Rattle.frame_words.specs.declared.terms.Terms.{Terms}

-- a table: which one it is, and what it was made of
pub record MadeTable : Type 0 where
  pub id : TableId
  pub terms : Terms

-- a holder: the table that made it, and its view, which holds no frame under two generations
pub record Holding : Type 0 where
  pub table : TableId
  pub view : View
  pub agrees : OneGeneration view.holds

-- this table made the holder
abbrev pub IsMade : MadeTable → Holding → Type 0
IsMade table holder = holder.table ≡ table.id

-- the holder is of the same table and has the same holds and loans
abbrev pub HasSame : Holding → Holding → Type 0
HasSame old new = (new.table ≡ old.table) × (new.view.holds ≡ old.view.holds)
