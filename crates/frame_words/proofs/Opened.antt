-- What a call knows of the insides of the table and the holder that it takes.
use Rattle.std.proofs.Common.{◌≡◌, ℕ, ◌+◌, ◌<◌, List, [], length, get_or, sym, ap, subst, ◌∙◌, arith}
use Rattle.frame_words.specs.Views.{held}
use Rattle.frame_words.specs.Splits.{HasHolds}
use Rattle.frame_words.specs.declared.view.Hold.{Hold}
use Rattle.frame_words.specs.Holders.{MadeTable, Holding, IsMade}
use Rattle.frame_words.specs.TableParts.{IsWhole}
use Rattle.frame_words.specs.declared.table.FrameTable.TheInside as table
use Rattle.frame_words.specs.declared.holder.Holder.TheInside as holder
use Rattle.frame_words.specs.declared.terms.Terms.{Terms}

abbrev Table : table.Inside → MadeTable
Table a = record { id = a.table.shared.table_id; terms = a.terms }

abbrev pub Held : holder.Inside → Holding
Held h = record { table = h.seat.table_id; view = h.seat.me.0; agrees = h.agrees }

-- the seat fits the table
pub fits_table : (a : table.Inside) (h : holder.Inside) (t : MadeTable) (v : Holding) → Table a ≡ t → Held h ≡ v → IsMade t v → h.seat.table_id ≡ a.table.shared.table_id
fits_table a h t v is has made = ap (λ (x : Holding). x.table) has ∙ made ∙ sym (ap (λ (x : MadeTable). x.id) is)

-- a frame's word is one of the table's
pub frame_within : (a : table.Inside) (t : MadeTable) (f : ℕ) → Table a ≡ t → IsWhole a → f < t.terms.frames → (f + 8 < a.table.shared.table_id.words) × (f + 8 < a.table.shared.key.frames + 8)
frame_within a t f is whole within =
    let known : a.table.shared.key.frames ≡ a.terms.frames = ap (λ (x : Terms). x.frames) whole.known in
    let seen : a.terms.frames ≡ t.terms.frames = ap (λ (x : MadeTable). x.terms.frames) is in
    let wide = whole.wide in (omega arith, omega arith)

-- a cell's word is one of the table's, before those of the frames, and the key has its lend
pub record CellWithin (a : table.Inside) (t : MadeTable) (c : ℕ) : Type 0 where
  pub word : c < a.table.shared.table_id.words
  pub key : c < a.table.shared.key.frames + 8
  pub low : c < 8
  pub lend : get_or a.table.shared.key.lends c 0 ≡ get_or t.terms.lends c 0

pub cell_within : (a : table.Inside) (t : MadeTable) (c : ℕ) → Table a ≡ t → IsWhole a → c < length t.terms.lends → CellWithin a t c
cell_within a t c is whole within =
    let seen : length a.terms.lends ≡ length t.terms.lends = ap (λ (x : MadeTable). length x.terms.lends) is in
    let few = t.terms.few_cells in
    let wide = whole.wide in record {
      word = omega arith;
      key = omega arith;
      low = omega arith;
      lend = ap (λ (x : Terms). get_or x.lends c 0) whole.known ∙ ap (λ (x : MadeTable). get_or x.terms.lends c 0) is;
    }

-- the holder holds the word, inside too
pub held_within : (h : holder.Inside) (v : Holding) (i j : ℕ) → Held h ≡ v → j ≡ i → 0 < held i v.view → 0 < held j h.seat.me.0
held_within h v i j is same some = rw (same, ap (λ (x : Holding). held i x.view) is) some

-- the other holder has nothing, inside too
pub nothing_within : (h : holder.Inside) (v : Holding) → Held h ≡ v → v.view.holds ≡ [] → h.seat.me.0.holds ≡ []
nothing_within h v is none = ap (λ (x : Holding). x.view.holds) is ∙ none

pub has_within : (h : holder.Inside) (v : Holding) (part : List Hold) → Held h ≡ v → HasHolds v.view part → HasHolds h.seat.me.0 part
has_within h v part is has = subst (λ (x : Holding). HasHolds x.view part) (sym is) has
