-- The entries by which pages are let go before an end, page by page; and what is kept over them and the end.
use Rattle.std.proofs.Common.{◌≡◌, ℕ, zero, suc, ◌+◌, ◌<◌, ◌≤◌, if◌then◌else◌, cond, ⊎_elim, Bool, true, false, List, [], ◌∷◌, ◌++◌, Option, Some, None, length, take, get_or, refl, sym, ap, ◌∙◌, subst, arith, append_assoc}
use Rattle.std.specs.Prelude.{◌↔◌, IsTrue, All, count_by, flat_map, is_some}
use Rattle.std.proofs.lemmas.List.Sums.{sum_by-cons}
use Rattle.std.proofs.lemmas.List.{append-nil, length-append}
use Rattle.std.proofs.lemmas.List.Elements.{All-nil, All-cons}
use Rattle.base_words.specs.declared.events.End.{End}
use Rattle.base_words.specs.declared.events.Event.{Event}
use Rattle.base_words.specs.declared.events.Event.TheVariants.{Emulate, Finish, End as Ending}
use Rattle.base_words.specs.declared.events.End.TheVariants.{Halted as ByHalt}
use Rattle.base_words.specs.declared.ids.ProcId.{ProcId}
use Rattle.base_words.specs.declared.ids.VcpuId.{VcpuId}
use Rattle.private_machine.specs.Backing.{Change, Migrates, Replicates, Collapses, Breaks, TakesShared, GivesShared, Move, Page, no_page, page_at}
use Rattle.page_moves.specs.Ending.{IsTaking}
use Rattle.pmap_table.specs.PageMap.{PageMap, is_moving}
use Rattle.shootdown.specs.declared.view.SidedNote.{SidedNote}
use Rattle.isolation_law.specs.EndRows.{is_taking, takes}
use Rattle.isolation_law.specs.GuestState.{GuestState}
use Rattle.isolation_law.specs.PacketRows.{ComesToHand}
use Rattle.isolation_law.specs.Parts.{SkipEntry}
use Rattle.isolation_law.specs.Run.{Run, Silent}
use Rattle.isolation_law.specs.Start.{Boot}
use Rattle.isolation_law.specs.WireHistory.{Tells, taken_by}
use Rattle.guest_course.specs.EndCalls.{letting_go}
use Rattle.guest_core.specs.EntryNotes.{note_of_entry}
use Rattle.guest_core.specs.GuestCalls.{step_entries}
use Rattle.guest_core.specs.Kept.{Kept}
use Rattle.guest_core.specs.Laws.{RowLaws, RunLaws}
use Rattle.guest_core.proofs.HandProofs.{Grows, kept-comes}
use Rattle.guest_core.proofs.KeptProofs.{kept-none}
use Rattle.guest_core.proofs.WiringProofs.{AreQuiet}

-- ---- page by page

abbrev pub let-at : Bool → ℕ → List Event
let-at taking k = if taking then Finish (record { 0 = k }) ∷ [] else []

joined : (taking : Bool) (q : ℕ) (more : List Event) → (if taking then Finish (record { 0 = q }) ∷ more else more) ≡ let-at taking q ++ more
joined true q more = refl
joined false q more = refl

letting-from : (q n k : ℕ) (pages : List Page) → q + n ≡ k → n < length pages → letting_go q (take (suc n) pages) ≡ letting_go q (take n pages) ++ let-at (is_taking (get_or pages n no_page).move) k
letting-from q n k [] is lt = absurd (omega arith)
letting-from q zero k (g ∷ pages) is lt = joined (is_taking g.move) q [] ∙ append-nil (let-at (is_taking g.move) q) ∙ ap (let-at (is_taking g.move)) (let e : q ≡ k = omega arith in e)
letting-from q (suc n) k (g ∷ pages) is lt =
    let later = letting-from (suc q) n k pages (omega arith) (omega arith) in
    joined (is_taking g.move) q (letting_go (suc q) (take (suc n) pages))
    ∙ ap (λ (l : List Event). let-at (is_taking g.move) q ++ l) later
    ∙ sym (append_assoc (let-at (is_taking g.move) q) (letting_go (suc q) (take n pages)) (let-at (is_taking (get_or pages n no_page).move) k))
    ∙ ap (λ (l : List Event). l ++ let-at (is_taking (get_or pages n no_page).move) k) (sym (joined (is_taking g.move) q (letting_go (suc q) (take n pages))))

pub letting-next : (n : ℕ) (pages : List Page) → n < length pages → letting_go 0 (take (n + 1) pages) ≡ letting_go 0 (take n pages) ++ let-at (is_taking (get_or pages n no_page).move) n
letting-next n pages lt = ap (λ (k : ℕ). letting_go 0 (take k pages)) (let e : n + 1 ≡ suc n = omega arith in e) ∙ letting-from 0 n n pages (omega arith) lt

-- of some pages there are no more than of all
letting-fewer : (q n : ℕ) (pages : List Page) → length (letting_go q (take n pages)) ≤ length (letting_go q pages)
letting-fewer q n [] = subst (λ (l : List Page). length (letting_go q l) ≤ 0) (sym (none n)) (omega arith)
  where
    none : (n : ℕ) → ◌≡◌ {A = List Page} (take n []) []
    none zero = refl
    none (suc n) = refl
letting-fewer q zero (g ∷ pages) = omega arith
letting-fewer q (suc n) (g ∷ pages) =
    let later = letting-fewer (suc q) n pages in
    let here = ap length (joined (is_taking g.move) q (letting_go (suc q) (take n pages))) in
    let all = ap length (joined (is_taking g.move) q (letting_go (suc q) pages)) in
    let a = length-append (let-at (is_taking g.move) q) (letting_go (suc q) (take n pages)) in
    let b = length-append (let-at (is_taking g.move) q) (letting_go (suc q) pages) in
    omega (arith, later, here, all, a, b)

-- one more page is let go, for which there is room
pub letting-room : (n : ℕ) (pages : List Page) → n < length pages → is_taking (get_or pages n no_page).move ≡ true → suc (length (letting_go 0 (take n pages))) ≤ length (letting_go 0 pages)
letting-room n pages lt is =
    let one = ap length (letting-next n pages lt ∙ ap (λ (b : Bool). letting_go 0 (take n pages) ++ let-at b n) is) in
    let split = length-append (letting_go 0 (take n pages)) (let-at true n) in
    omega (arith, letting-fewer 0 (n + 1) pages, one, split)

-- each of them has a move
pub letting-open : (q : ℕ) (pages : List Page) → length (letting_go q pages) ≤ count_by is_moving pages
letting-open q [] = omega arith
letting-open q (g ∷ pages) =
    let later = letting-open (suc q) pages in
    let all = ap length (joined (is_taking g.move) q (letting_go (suc q) pages)) in
    let split = length-append (let-at (is_taking g.move) q) (letting_go (suc q) pages) in
    let one = sum_by-cons (λ (x : Page). cond {A = ℕ} (is_moving x) 1 0) g pages in
    omega (arith, later, all, split, one, at g.move)
  where
    at : (m : Option Move) → length (let-at (is_taking m) q) ≤ cond {A = ℕ} (is_some m) 1 0
    at None = omega arith
    at (Some m) = few (takes m.change)
      where
        few : (b : Bool) → length (let-at b q) ≤ 1
        few true = omega arith
        few false = omega arith

-- ---- a page that is being taken shared

some-same : {A : Type 0} (a b : A) → Some a ≡ Some b → a ≡ b
some-same a b e = cc

none-is : {A : Type 0} (a : A) → None ≡ Some a → ⊥
none-is a e = cc

taking-is : (m : PageMap) (q : ℕ) → IsTaking m q → is_taking (page_at m.pages q).move ≡ true
taking-is m q t = ap is_taking t.has ∙ ap takes t.takes

taking-of : (m : PageMap) (q : ℕ) → is_taking (page_at m.pages q).move ≡ true → IsTaking m q
taking-of m q is = by (page_at m.pages q).move refl is
  where
    at : (x : Move) (c : Change) → (page_at m.pages q).move ≡ Some x → x.change ≡ c → takes c ≡ true → IsTaking m q
    at x (Migrates target) e f is = cc
    at x (Replicates target) e f is = cc
    at x Collapses e f is = cc
    at x (Breaks target) e f is = cc
    at x (TakesShared target) e f is = record { move = x; target = target; has = e; takes = f }
    at x (GivesShared target) e f is = cc

    by : (x : Option Move) → (page_at m.pages q).move ≡ x → is_taking x ≡ true → IsTaking m q
    by None e is = cc
    by (Some x) e is = at x x.change e refl is

pub taking-told : (m : PageMap) (q : ℕ) (answer : Bool) → (IsTrue answer ↔ IsTaking m q) → is_taking (page_at m.pages q).move ≡ answer
taking-told m q true told = taking-is m q (told.0 refl)
taking-told m q false told = by (is_taking (page_at m.pages q).move) refl
  where
    by : (b : Bool) → is_taking (page_at m.pages q).move ≡ b → is_taking (page_at m.pages q).move ≡ false
    by true is = absurd (let no : false ≡ true = told.1 (taking-of m q is) in cc)
    by false is = is

-- ---- over a run of entries of which no notes are made

abbrev pub NoNote : Event → Type 0
NoNote e = (skips : List SkipEntry) → note_of_entry 0 skips e ≡ []

abbrev pub AllQuiet : List Event → Type 0
AllQuiet [] = Unit {0}
AllQuiet (e ∷ more) = NoNote e × AllQuiet more

pub kept-silent : Grows → (b : Boot) (s t : GuestState) (journal : List Event) (notes : List SidedNote) → Kept b s journal notes → Silent s t → Kept b t journal notes
kept-silent grows b s t journal notes k silent =
    ⊎_elim (λ (e : t ≡ s). subst (λ (x : GuestState). Kept b x journal notes) (sym e) k) (λ (c : ComesToHand s t). kept-comes grows b s t journal notes k c) silent

pub kept-run : Grows → RowLaws → RunLaws → (b : Boot) (s t : GuestState) (journal more : List Event) (notes : List SidedNote) → Kept b s journal notes → Run s more t
    → AllQuiet more → Kept b t (journal ++ more) notes
kept-run grows w r b s t journal [] notes k run quiet = subst (λ (j : List Event). Kept b t j notes) (sym (append-nil journal)) (kept-silent grows b s t journal notes k run)
kept-run grows w r b s t journal (e ∷ more) notes k run quiet =
    let a = run.0 in
    let m = run.1 in
    let first = kept-silent grows b s a journal notes k run.2 in
    let next = kept-none w r b a m journal notes e first run.3 (quiet.0 m.skips) in
    subst (λ (j : List Event). Kept b t j notes) (append_assoc journal (e ∷ []) more) (kept-run grows w r b m t (journal ++ e ∷ []) more notes next run.4 quiet.1)

-- ---- which entries these are

quiet-finish : (q : ℕ) → NoNote (Finish (record { 0 = q }))
quiet-finish q skips = refl

quiet-lets : (q : ℕ) (pages : List Page) (end : End) → AllQuiet (letting_go q pages ++ Ending end ∷ [])
quiet-lets q [] end = (λ skips. refl, tt)
quiet-lets q (g ∷ pages) end =
    subst (λ (l : List Event). AllQuiet (l ++ Ending end ∷ [])) (sym (joined (is_taking g.move) q (letting_go (suc q) pages))) (by (is_taking g.move) (quiet-lets (suc q) pages end))
  where
    by : (b : Bool) → AllQuiet (letting_go (suc q) pages ++ Ending end ∷ []) → AllQuiet ((let-at b q ++ letting_go (suc q) pages) ++ Ending end ∷ [])
    by true rest = (quiet-finish q, rest)
    by false rest = rest

pub kept-closed : Grows → RowLaws → RunLaws → (b : Boot) (s t : GuestState) (journal : List Event) (pages : List Page) (end : End) (notes : List SidedNote) → Kept b s journal notes → Run s (letting_go 0 pages ++ Ending end ∷ []) t
    → Kept b t (journal ++ (letting_go 0 pages ++ Ending end ∷ [])) notes
kept-closed grows w r b s t journal pages end notes k run = kept-run grows w r b s t journal (letting_go 0 pages ++ Ending end ∷ []) notes k run (quiet-lets 0 pages end)

-- they tell of no packet
quiet-packets : (s : GuestState) (q : ℕ) (pages : List Page) (end : End) → flat_map (taken_by s.received s.discarded) (letting_go q pages ++ Ending end ∷ []) ≡ []
quiet-packets s q [] end = refl
quiet-packets s q (g ∷ pages) end = ap (λ (l : List Event). flat_map (taken_by s.received s.discarded) (l ++ Ending end ∷ [])) (joined (is_taking g.move) q (letting_go (suc q) pages)) ∙ by (is_taking g.move) (quiet-packets s (suc q) pages end)
  where
    by : (b : Bool) → flat_map (taken_by s.received s.discarded) (letting_go (suc q) pages ++ Ending end ∷ []) ≡ [] → flat_map (taken_by s.received s.discarded) ((let-at b q ++ letting_go (suc q) pages) ++ Ending end ∷ []) ≡ []
    by true rest = rest
    by false rest = rest

quiet-tells : (t : GuestState) (q : ℕ) (pages : List Page) (end : End) → All (Tells t) (letting_go q pages ++ Ending end ∷ [])
quiet-tells t q [] end = All-cons (Tells t) (Ending end) [] tt (All-nil (Tells t))
quiet-tells t q (g ∷ pages) end = subst (λ (l : List Event). All (Tells t) (l ++ Ending end ∷ [])) (sym (joined (is_taking g.move) q (letting_go (suc q) pages))) (by (is_taking g.move) (quiet-tells t (suc q) pages end))
  where
    by : (b : Bool) → All (Tells t) (letting_go (suc q) pages ++ Ending end ∷ []) → All (Tells t) ((let-at b q ++ letting_go (suc q) pages) ++ Ending end ∷ [])
    by true rest = All-cons (Tells t) (Finish (record { 0 = q })) (letting_go (suc q) pages ++ Ending end ∷ []) tt rest
    by false rest = rest

pub quiet-closing : (s : GuestState) (pages : List Page) (end : End) → AreQuiet s (letting_go 0 pages ++ Ending end ∷ [])
quiet-closing s pages end = record { none = quiet-packets s 0 pages end; tell = λ t. quiet-tells t 0 pages end }

-- nor does a step by the monitor's hand
pub quiet-step : (s : GuestState) (p : ProcId) (v : VcpuId) (halted : Bool) (pages : List Page) → AreQuiet s (step_entries p v halted pages)
quiet-step s p v false pages = record { none = refl; tell = λ t. All-cons (Tells t) (Emulate p v) [] tt (All-nil (Tells t)) }
quiet-step s p v true pages = record { none = quiet-packets s 0 pages ByHalt; tell = λ t. All-cons (Tells t) (Emulate p v) (letting_go 0 pages ++ Ending ByHalt ∷ []) tt (quiet-tells t 0 pages ByHalt) }
