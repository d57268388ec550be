-- What a guest holds and uses once a move of a page has begun, with the frame that it gained or with none.
use Rattle.std.proofs.Common.{◌≡◌, ℕ, ◌+◌, ◌<◌, ◌==◌, cond, if◌then◌else◌, Bool, true, false, List, [], ◌++◌, Option, Some, None, length, map, refl, sym, ap, ◌∙◌, subst, arith}
use Rattle.std.specs.Prelude.{count_by}
use Rattle.std.proofs.lemmas.List.{get_or-set_same}
use Rattle.std.proofs.lemmas.List.Sums.{sum_by-append}
use Rattle.base_words.specs.declared.moves.By.{By}
use Rattle.base_words.specs.declared.moves.MoveKind.{MoveKind}
use Rattle.base_words.specs.declared.moves.MoveKind.TheVariants.{Migrate, Replicate, Collapse, Break, TakeShared, GiveShared}
use Rattle.cell_depend.specs.CellUse.{lies_in as lies}
use Rattle.cell_depend.specs.Counters.{UsesState}
use Rattle.frame_words.specs.declared.view.View.{View}
use Rattle.private_machine.specs.Backing.{Copy, Change, Move, Page, no_page}
use Rattle.private_machine.specs.Backing.{Migrates, Replicates, Collapses, Breaks, TakesShared, GivesShared}
use Rattle.private_machine.specs.Operation.{Operation}
use Rattle.private_machine.specs.PageMove.{begun, gained, kind_of}
use Rattle.isolation_law.specs.CellUse.{held, used_frames, lies_in}
use Rattle.isolation_law.specs.Exchange.{Exchanged, count_of}
use Rattle.isolation_law.specs.GuestState.{GuestState, page}
use Rattle.isolation_law.specs.MoveRows.{Begins, with_begun}
use Rattle.isolation_law.specs.Needs.{Need, none_of, for_change}
use Rattle.isolation_law.specs.Surroundings.{Surroundings, cell_of_frame, home_cell}
use Rattle.isolation_law.specs.UseChange.{UseChanged}
use Rattle.guest_core.specs.Holding.{is_copy, frames_around, HoldsCopies, IsHolding}
use Rattle.guest_core.specs.MoveCalls.{IsDoing}
use Rattle.guest_core.specs.Using.{AreUses, CountsCopies, IsShapeOf, frame_of, loaded_cells, rows_of}
use Rattle.guest_core.proofs.UsingProofs.{frames-counted, recounted}

-- ---- what the guest holds and uses with the frames that it gained

-- the copies that were counted beside it are its own now
abbrev pub AreNow : List Copy → List Copy → Type 0
AreNow copies own = (test : ℕ → ℕ → Bool) → count_of test own ≡ count_of test copies

counted-too : (test : ℕ → ℕ → Bool) (more own : List Copy) → count_of test (more ++ own) ≡ count_of test more + count_of test own
counted-too test more own = sum_by-append (λ (c : Copy). cond {A = ℕ} (test c.frame c.generation) 1 0) more own

joined : (more own now : List Copy) → ((test : ℕ → ℕ → Bool) → count_of test now + count_of test [] ≡ count_of test own + count_of test more) → AreNow (more ++ own) now
joined more own now balance test = let none : count_of test [] ≡ 0 = refl in omega (arith, none, balance test, counted-too test more own)

pub held-now : (s t : GuestState) (more : List Copy) → Exchanged s t more [] → AreNow (more ++ held s) (held t)
held-now s t more ex = joined more (held s) (held t) ex.balance

pub used-now : (s t : GuestState) (more : List Copy) → UseChanged s t more [] → AreNow (more ++ used_frames s) (used_frames t)
used-now s t more ex = joined more (used_frames s) (used_frames t) ex.balance

abbrev loans-in : Surroundings → ℕ → ℕ → ℕ
loans-in w cell n = if cell == home_cell w then 0 else n

pub holding-now : (w : Surroundings) (t : GuestState) (copies : List Copy) (view : View) → AreNow copies (held t) → t.around ≡ w → HoldsCopies w copies view → IsHolding t view
holding-now w t copies view same around h = record {
  counted = λ frame. h.counted frame ∙ sym (same (λ f g. f == frame));
  same_generation = λ frame generation some. h.same_generation frame generation (subst (λ (n : ℕ). 0 < n) (same (is_copy frame generation)) some);
  borrowed = λ cell low. h.borrowed cell low
      ∙ sym (ap (λ (x : Surroundings). loans-in x cell (count_by (lies_in x cell) (held t))) around ∙ ap (loans-in w cell) (same (λ f g. cell_of_frame w f == cell)));
  within = λ frame some. subst (λ (x : Surroundings). frame < frames_around x) (sym around) (h.within frame (subst (λ (n : ℕ). 0 < n) (same (λ f g. f == frame)) some));
}

pub uses-now : (s t : GuestState) (copies : List Copy) (uses : UsesState) → AreNow copies (used_frames t) → t.around ≡ s.around → t.processors ≡ s.processors → CountsCopies s copies uses → AreUses t uses
uses-now s t copies uses same around processors u = record {
  shape = u.shape;
  told = subst (λ (w : Surroundings). IsShapeOf w u.shape) (sym around) u.told;
  cells = u.cells;
  counts = recounted u.shape (record { frames = map frame_of copies; loaded = loaded_cells s.around 0 s.processors }) (rows_of t) uses
      (λ q. frames-counted u.shape q (used_frames t) ∙ same (λ frame generation. lies u.shape q (record { 0 = frame })) ∙ sym (frames-counted u.shape q copies))
      (λ i. loaded_cells (around i) 0 (processors i)) u.counts;
}

-- ---- which change began

abbrev change-in : Change → Option Move → Change
change-in d None = d
change-in d (Some m) = m.change

-- the change of the row is the one that was opened
pub same-change : (s t : GuestState) (q : ℕ) (kind : MoveKind) (node : ℕ) (by : By) (change : Change) → (row : Begins s q kind node by t) → t ≡ with_begun s q change None s.spares → row.change ≡ change
same-change s t q kind node by change row is =
    ap (change-in change) (sym (ap (λ (g : Page). g.move) (get_or-set_same s.pages q (begun row.change (page s q)) no_page row.is_page)) ∙ ap (λ (x : GuestState). (page x q).move) (sym row.after ∙ is) ∙ ap (λ (g : Page). g.move) (get_or-set_same s.pages q (begun change (page s q)) no_page row.is_page))

-- of whatever operation, and whatever stays of the spares
pub same-begun : (s t : GuestState) (q : ℕ) (kind : MoveKind) (node : ℕ) (by : By) (change : Change) (operation : Option Operation) (rest : List Copy) → (row : Begins s q kind node by t) → t ≡ with_begun s q change operation rest → row.change ≡ change
same-begun s t q kind node by change operation rest row is =
    ap (change-in change) (sym (ap (λ (g : Page). g.move) (get_or-set_same s.pages q (begun row.change (page s q)) no_page row.is_page)) ∙ ap (λ (x : GuestState). (page x q).move) (sym row.after ∙ is) ∙ ap (λ (g : Page). g.move) (get_or-set_same s.pages q (begun change (page s q)) no_page row.is_page))

-- the page is doing what was begun
pub does-begun : (s t : GuestState) (q : ℕ) (change : Change) (operation : Option Operation) (rest : List Copy) → q < length s.pages → t ≡ with_begun s q change operation rest → IsDoing t q change
does-begun s t q change operation rest lt is = record {
  move = record { change = change; waiting = (page s q).mapped };
  open_move = ap (λ (x : GuestState). (page x q).move) is ∙ ap (λ (g : Page). g.move) (get_or-set_same s.pages q (begun change (page s q)) no_page lt);
  does = refl;
}

-- ---- a move that a page needs before its bytes change takes no frame

abbrev pub IsInside : MoveKind → Type 0
IsInside Migrate = ⊥
IsInside Replicate = ⊥
IsInside Collapse = Unit {0}
IsInside Break = Unit {0}
IsInside TakeShared = ⊥
IsInside GiveShared = ⊥

abbrev kind-in : MoveKind → Option Need → MoveKind
kind-in kind None = kind
kind-in kind (Some need) = need.kind

abbrev need-of : ℕ → Bool → Bool → Option Need
need-of q shared none =
    if◌then◌else◌ {A = Option Need} shared (Some (record { page = q; kind = Break; operation = None })) (if◌then◌else◌ {A = Option Need} none None (Some (record { page = q; kind = Collapse; operation = None })))

abbrev the-need : ℕ → MoveKind → Option Need
the-need q kind = Some (record { page = q; kind = kind; operation = None })

pub inside-need : (s : GuestState) (q : ℕ) (kind : MoveKind) → for_change s q ≡ Some (record { page = q; kind = kind; operation = None }) → IsInside kind
inside-need s q kind is = by (page s q).shared (none_of (page s q).replicas) is
  where
    no : None ≡ the-need q kind → ⊥
    no e = cc

    by : (shared none : Bool) → need-of q shared none ≡ the-need q kind → IsInside kind
    by true none e = subst IsInside (ap (kind-in Break) e) tt
    by false true e = absurd (no e)
    by false false e = subst IsInside (ap (kind-in Collapse) e) tt

none-gained : (change : Change) → IsInside (kind_of change) → gained change ≡ []
none-gained (Migrates target) is = absurd is
none-gained (Replicates target) is = absurd is
none-gained Collapses is = refl
none-gained (Breaks target) is = refl
none-gained (TakesShared target) is = absurd is
none-gained (GivesShared target) is = absurd is

pub exchanged-inside : (s t : GuestState) (q : ℕ) (kind : MoveKind) (node : ℕ) (by : By) → (row : Begins s q kind node by t) → IsInside kind → Exchanged s t (gained row.change) [] → Exchanged s t [] []
exchanged-inside s t q kind node by row is ex = subst (λ (l : List Copy). Exchanged s t l []) (none-gained row.change (subst IsInside (sym row.is_kind) is)) ex

pub changed-inside : (s t : GuestState) (q : ℕ) (kind : MoveKind) (node : ℕ) (by : By) → (row : Begins s q kind node by t) → IsInside kind → UseChanged s t (gained row.change) [] → UseChanged s t [] []
changed-inside s t q kind node by row is ex = subst (λ (l : List Copy). UseChanged s t l []) (none-gained row.change (subst IsInside (sym row.is_kind) is)) ex
