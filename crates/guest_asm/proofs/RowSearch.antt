-- A search through the rows of a table.
use Rattle.std.proofs.Common.{◌≡◌, ◌∙◌, ℕ, ◌+◌, ◌<◌, false, List, ◌∷◌, map, drop, get_or, length, ap, sym, refl, Bor}
use Rattle.std.specs.Str.{bytes_eq}
use Rattle.guest_asm.specs.declared.mnemonics.Form.{Form}
use Rattle.guest_asm.specs.declared.mnemonics.Operation.{Operation}
use Rattle.guest_asm.specs.Mnemonics.{Row, row_in}
use Rattle.guest_asm.proofs.Ranges.{drop_next}

-- a row of the code's table
abbrev pub row_of : Bor (List ℕ) × Form × Operation → Row
row_of row = (row.0.now, row.1, row.2)

past : (row : Row) (rows : List Row) (name : List ℕ) → bytes_eq row.0 name ≡ false → row_in (row ∷ rows) name ≡ row_in rows name
past row rows name differs = rw differs refl

-- past a row with another name
pub row_past : (rows : List (Bor (List ℕ) × Form × Operation)) (i : ℕ) (d : Bor (List ℕ) × Form × Operation) (name : List ℕ) → i < length rows → bytes_eq (get_or rows i d).0.now name ≡ false
    → row_in (map row_of (drop (i + 1) rows)) name ≡ row_in (map row_of (drop i rows)) name
row_past rows i d name there differs =
    sym (ap (λ (rs : List (Bor (List ℕ) × Form × Operation)). row_in (map row_of rs) name) (drop_next rows i d there)
    ∙ past (row_of (get_or rows i d)) (map row_of (drop (i + 1) rows)) name differs)
