-- The page is taken shared, and has no move any more.
use Rattle.std.proofs.Common.{◌≡◌, ◌<◌, ◌-◌, true, None, Some, Option, option_map, length, map, set, ◌++◌, ◌+◌, ap, ◌∙◌, sym, arith, subst, length-set}
use Rattle.std.specs.Option.{is_some, option_to_list}
use Rattle.std.proofs.lemmas.List.{get_or_default, map-append}
use Rattle.std.proofs.lemmas.Option.{same_Some}
use Rattle.private_machine.specs.Backing.{Page, Move, page_at, no_page}
use Rattle.private_machine.specs.PageMove.{taken, dropped_taken}
use Rattle.pmap_table.specs.declared.open_move.PendingMove.{PendingMove}
use Rattle.pmap_table.specs.Frames.{copy_of, shared_copy_of}
use Rattle.pmap_table.specs.OpenMoves.{change_of, move_of}
use Rattle.pmap_table.specs.PageMap.{PageMap}
use Rattle.pmap_table.specs.Tracking.{is_taking, TracksMove}
use Rattle.pmap_table.specs.BackedPages.{page_of}
use Rattle.pmap_table.specs.Ending.{numbers_of, spare_taken}
use Rattle.pmap_table.proofs.EndingLemmas.{without_move, takes-page, same-target, copies-of, takes-by}
use Rattle.pmap_table.proofs.MovingLemmas.{count-closed, some-move}
use Rattle.pmap_table.proofs.TrackingLemmas.{tracks-set}
use Rattle.pmap_table.proofs.pmap.Pmap.take_shared.Goals as goal

pub into_shared-target-requires : goal.into_shared-target-requires
into_shared-target-requires c =
    let pages = c.self.inside.pages.items in
    let q = c.args.page.0 in
    let old = c.index_mut-backed.result.now in
    let pending = c.in-Some.pending in
    let m = c.requires.moves.0 in
    let lt : q < length pages = omega (arith, c.requires.page, ap (λ (m : PageMap). length m.pages) c.self.view_is) in
    let here = c.index_mut-backed.ensures.value ∙ get_or_default pages q old no_page lt ∙ ap (λ (m : PageMap). page_at m.pages q) c.self.view_is in
    let moves : old.move ≡ Some (move_of pending) =
    ap (λ (g : Page). g.move) (sym c.backed.view_is) ∙ ap (option_map move_of) (sym c.take.ensures.value ∙ c.in-Some.is) in
    let same : move_of pending ≡ m = same_Some (move_of pending) m (sym moves ∙ ap (λ (g : Page). g.move) here ∙ c.requires.moves.1) in
    takes-page pending.change (ap (λ (x : Move). is_taking x.change) same ∙ c.requires.moves.2)

pub invariant_of-self : goal.invariant_of-self
invariant_of-self c =
    let pages = c.self.inside.pages.items in
    let q = c.args.page.0 in
    let old = c.index_mut-backed.result.now in
    let new = c.take-spare.new.self in
    let lt : q < length pages = omega (arith, c.requires.page, ap (λ (m : PageMap). length m.pages) c.self.view_is) in
    let is = c.index_mut-backed.ensures.value in
    let moves : is_some old.move ≡ true =
    ap (λ (g : Page). is_some g.move) (sym c.backed.view_is) ∙ some-move c.backed.inside.pending ∙ ap is_some (sym c.take.ensures.value ∙ c.in-Some.is) in
    let rests : new.move ≡ None = ap (λ (g : Page). g.move) c.take-spare.ensures.page in
    let count = count-closed pages q old new lt is moves (ap is_some rests) in
    let few = length-set pages q new in
    let settled = c.settle-self-inside.ensures in
    let some : c.self.inside.moving ≡ c.self.inside.moving - 1 + 1 = omega (arith, c.self.invariant.moving) in
    record {
      few = omega (arith, c.self.invariant.few);
      moving = omega (arith, c.self.invariant.moving);
      fits = omega (arith, c.self.invariant.fits, settled.counted, settled.capacity, c.settle-self-inside.new.spares.ok.0, c.self.inside.spares.ok.0);
      counted = omega (arith, c.self.invariant.counted, settled.counted, c.settle-self-inside.new.spares.ok.0, c.self.inside.spares.ok.0);
      tracks =
          tracks-set c.self.inside.open c.track.new.self pages q new c.self.invariant.tracks lt c.track.ensures.sized
          (subst (λ (m : Option Move). TracksMove c.track.new.self q m) (sym rests) c.track.ensures.here) c.track.ensures.others;
    }

pub returns : goal.returns
returns c = λ m target is takes.
    let pages = c.self.inside.pages.items in
    let q = c.args.page.0 in
    let old = c.index_mut-backed.result.now in
    let pending = c.in-Some.pending in
    let now = c.args.self.now in
    let lt : q < length pages = omega (arith, c.requires.page, ap (λ (m : PageMap). length m.pages) c.self.view_is) in
    let here : old ≡ page_at now.pages q = c.index_mut-backed.ensures.value ∙ get_or_default pages q old no_page lt ∙ ap (λ (m : PageMap). page_at m.pages q) c.self.view_is in
    let moves : old.move ≡ Some (move_of pending) =
    ap (λ (g : Page). g.move) (sym c.backed.view_is) ∙ ap (option_map move_of) (sym c.take.ensures.value ∙ c.in-Some.is) in
    let same : move_of pending ≡ m = same_Some (move_of pending) m (sym moves ∙ ap (λ (g : Page). g.move) here ∙ is) in
    let whose : shared_copy_of c.into_shared-target.result ≡ target =
    same-target (shared_copy_of c.into_shared-target.result) target (ap change_of (sym c.into_shared-target.ensures) ∙ ap (λ (x : Move). x.change) same ∙ takes) in
    let still = ap (λ (o : Option PendingMove). page_of (record c.backed.inside { pending = o })) c.take.ensures.after ∙ ap without_move c.backed.view_is in
    let before : pages ≡ now.pages = ap (λ (x : PageMap). x.pages) c.self.view_is in
    let spares = ap (map copy_of) c.settle-self-inside.ensures.spares ∙ map-append copy_of c.self.inside.spares.items (option_to_list c.take-spare.result.spare)
    ∙ (λ i. (c.self.view_is i).spares ++ copies-of c.take-spare.result.spare i) in
    takes-by now _ q old target (option_to_list (option_map copy_of c.take-spare.result.spare)) c.take-spare.result.freed
    here (λ i. set (before i) q ((c.take-spare.ensures.page ∙ (λ j. taken (whose j) (still j))) i)) spares (c.take-spare.ensures.spare ∙ ap spare_taken still)
    (c.take-spare.ensures.freed ∙ ap (λ (g : Page). numbers_of (dropped_taken g)) still)
    (omega (arith, c.settle-self-inside.ensures.room, ap (λ (x : PageMap). x.room) c.self.view_is))
