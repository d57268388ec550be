-- What the end of a move leaves.
use Rattle.std.proofs.Common.{◌≡◌, ℕ, ◌≤◌, if◌then◌else◌, Bool, true, false, List, [], ◌∷◌, ◌++◌, Option, Some, None, option_map, map, set, ap, sym, ◌∙◌, refl}
use Rattle.std.specs.Option.{option_to_list}
use Rattle.std.proofs.lemmas.List.{append-nil}
use Rattle.base_words.specs.declared.frame.Frame.{Frame}
use Rattle.std.proofs.lemmas.Option.{same_Some}
use Rattle.private_machine.specs.Backing.{Copy, Change, Migrates, Replicates, Collapses, Breaks, TakesShared, GivesShared, Move, Page, page_at}
use Rattle.private_machine.specs.PageMove.{finished, taken, spares_finished, spares_taken, dropped, dropped_taken}
use Rattle.pmap_table.specs.Frames.{copy_of}
use Rattle.pmap_table.specs.declared.open_move.Change.{Change as Kept}
use Rattle.pmap_table.specs.declared.open_move.Change.TheVariants.{Migrate, Replicate, Collapse, Break, TakeShared, GiveShared}
use Rattle.pmap_table.specs.OpenMoves.{change_of, TakesPage}
use Rattle.pmap_table.specs.PageMap.{PageMap}
use Rattle.pmap_table.specs.Tracking.{is_taking}
use Rattle.pmap_table.specs.Ending.{numbers_of, spare_of, spare_taken, Finishes, Takes}

abbrev pub without_move : Page → Page
without_move g = record g { move = None }

pub rests-finished : (change : Change) (g : Page) → (finished change g).move ≡ None
rests-finished (Migrates target) g = refl
rests-finished (Replicates target) g = refl
rests-finished Collapses g = refl
rests-finished (Breaks target) g = refl
rests-finished (TakesShared target) g = refl
rests-finished (GivesShared target) g = refl

-- a page is done whether its move stands or has been taken out
finished-still : (change : Change) (g : Page) → finished change (without_move g) ≡ finished change g
finished-still (Migrates target) g = refl
finished-still (Replicates target) g = refl
finished-still Collapses g = refl
finished-still (Breaks target) g = refl
finished-still (TakesShared target) g = refl
finished-still (GivesShared target) g = refl

freed-still : (change : Change) (g : Page) → dropped (without_move g) change ≡ dropped g change
freed-still (Migrates target) g = refl
freed-still (Replicates target) g = refl
freed-still Collapses g = refl
freed-still (Breaks target) g = refl
freed-still (TakesShared target) g = refl
freed-still (GivesShared target) g = refl

spares-finished : (change : Change) (spares : List Copy) → spares ++ spare_of change ≡ spares_finished change spares
spares-finished (Migrates target) spares = append-nil spares
spares-finished (Replicates target) spares = append-nil spares
spares-finished Collapses spares = append-nil spares
spares-finished (Breaks target) spares = append-nil spares
spares-finished (TakesShared target) spares = append-nil spares
spares-finished (GivesShared target) spares = refl

spares-taken : (shared : Bool) (c : Copy) (spares : List Copy) → spares ++ (if shared then [] else c ∷ []) ≡ (if shared then spares else spares ++ c ∷ [])
spares-taken true c spares = append-nil spares
spares-taken false c spares = refl

-- a move that its own operation ends takes its page shared, from one frame
pub takes-page : (change : Kept) → is_taking (change_of change) ≡ true → TakesPage change
takes-page (Migrate target) is = cc
takes-page (Replicate target) is = cc
takes-page Collapse is = cc
takes-page (Break target) is = cc
takes-page (TakeShared target) is = tt
takes-page (GiveShared target) is = cc

pub same-target : (a b : Copy) → ◌≡◌ {A = Change} (TakesShared a) (TakesShared b) → a ≡ b
same-target a b e = cc

-- the copy of a frame that there may be
pub copies-of : (o : Option Frame) → map copy_of (option_to_list o) ≡ option_to_list (option_map copy_of o)
copies-of None = refl
copies-of (Some f) = refl

pub finishes-by : (m n : PageMap) (q : ℕ) (g : Page) (change : Change) (y x : Move) (spare : List Copy) (freed : List ℕ)
    → g ≡ page_at m.pages q → g.move ≡ Some y → y.change ≡ change → (page_at m.pages q).move ≡ Some x
    → n.pages ≡ set m.pages q (finished change (without_move g)) → n.spares ≡ m.spares ++ spare → spare ≡ spare_of change
    → freed ≡ numbers_of (dropped (without_move g) change) → m.room ≤ n.room → Finishes m q x.change n freed
finishes-by m n q g change y x spare freed is moves its there pages spares spare_is freed_is room =
    let same : change ≡ x.change = sym its ∙ ap (λ (k : Move). k.change) (same_Some y x (sym moves ∙ ap (λ (h : Page). h.move) is ∙ there)) in
    record {
      pages = pages ∙ ap (set m.pages q) (finished-still change g ∙ (λ i. finished (same i) (is i)));
      spares = spares ∙ ap (λ l. m.spares ++ l) spare_is ∙ spares-finished change m.spares ∙ ap (λ k. spares_finished k m.spares) same;
      released = freed_is ∙ ap numbers_of (freed-still change g ∙ (λ i. dropped (is i) (same i)));
      room = room;
    }

pub takes-by : (m n : PageMap) (q : ℕ) (g : Page) (target : Copy) (spare : List Copy) (freed : List ℕ)
    → g ≡ page_at m.pages q → n.pages ≡ set m.pages q (taken target (without_move g)) → n.spares ≡ m.spares ++ spare → spare ≡ spare_taken (without_move g)
    → freed ≡ numbers_of (dropped_taken (without_move g)) → m.room ≤ n.room → Takes m q target n freed
takes-by m n q g target spare freed is pages spares spare_is freed_is room = record {
  pages = pages ∙ ap (λ h. set m.pages q (taken target h)) is;
  spares = spares ∙ ap (λ l. m.spares ++ l) spare_is ∙ spares-taken g.shared g.master m.spares ∙ ap (λ h. spares_taken h m.spares) is;
  released = freed_is ∙ ap (λ h. numbers_of (dropped_taken h)) is;
  room = room;
}
