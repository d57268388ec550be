use Rattle.std.proofs.Common.{◌≡◌, ◌<◌, ◌-◌, true, None, Some, Option, option_map, length, map, set, ◌++◌, ◌+◌, ap, ◌∙◌, sym, refl, arith, subst, length-set}
use Rattle.std.specs.Option.{is_some}
use Rattle.std.specs.Option.{option_to_list}
use Rattle.std.proofs.lemmas.List.{get_or_default, map-append}
use Rattle.private_machine.specs.Backing.{Page, Move, page_at, no_page}
use Rattle.pmap_table.specs.Frames.{copy_of}
use Rattle.pmap_table.specs.OpenMoves.{change_of, move_of}
use Rattle.pmap_table.specs.PageMap.{PageMap}
use Rattle.pmap_table.specs.Tracking.{TracksMove}
use Rattle.private_machine.specs.PageMove.{finished, dropped}
use Rattle.pmap_table.specs.declared.open_move.PendingMove.{PendingMove}
use Rattle.pmap_table.specs.BackedPages.{page_of}
use Rattle.pmap_table.specs.Ending.{numbers_of}
use Rattle.pmap_table.proofs.EndingLemmas.{without_move, rests-finished, copies-of, finishes-by}
use Rattle.pmap_table.proofs.MovingLemmas.{count-closed, some-move}
use Rattle.pmap_table.proofs.TrackingLemmas.{tracks-set}
use Rattle.pmap_table.proofs.pmap.Pmap.finish.Goals as goal

pub invariant_of-self : goal.invariant_of-self
invariant_of-self c =
    let pages = c.self.inside.pages.items in
    let q = c.args.page.0 in
    let old = c.index_mut-backed.result.now in
    let new = c.finish-spare.new.self in
    let lt : q < length pages = omega (arith, c.requires.page, ap (λ (m : PageMap). length m.pages) c.self.view_is) in
    let is = c.index_mut-backed.ensures.value in
    let moves : is_some old.move ≡ true =
    ap (λ (g : Page). is_some g.move) (sym c.backed.view_is) ∙ some-move c.backed.inside.pending ∙ ap is_some (sym c.take.ensures.value ∙ c.in-Some.is) in
    let rests : new.move ≡ None = ap (λ (g : Page). g.move) c.finish-spare.ensures.page ∙ rests-finished (change_of c.in-Some.pending.change) _ in
    let count = count-closed pages q old new lt is moves (ap is_some rests) in
    let few = length-set pages q new in
    let settled = c.settle-self-inside.ensures in
    let some : c.self.inside.moving ≡ c.self.inside.moving - 1 + 1 = omega (arith, c.self.invariant.moving) in
    record {
      few = omega (arith, c.self.invariant.few);
      moving = omega (arith, c.self.invariant.moving);
      fits = omega (arith, c.self.invariant.fits, settled.counted, settled.capacity, c.settle-self-inside.new.spares.ok.0, c.self.inside.spares.ok.0);
      counted = omega (arith, c.self.invariant.counted, settled.counted, c.settle-self-inside.new.spares.ok.0, c.self.inside.spares.ok.0);
      tracks =
          tracks-set c.self.inside.open c.track.new.self pages q new c.self.invariant.tracks lt c.track.ensures.sized
          (subst (λ (m : Option Move). TracksMove c.track.new.self q m) (sym rests) c.track.ensures.here) c.track.ensures.others;
    }

pub returns : goal.returns
returns c = λ m is.
    let pages = c.self.inside.pages.items in
    let q = c.args.page.0 in
    let old = c.index_mut-backed.result.now in
    let pending = c.in-Some.pending in
    let now = c.args.self.now in
    let lt : q < length pages = omega (arith, c.requires.page, ap (λ (m : PageMap). length m.pages) c.self.view_is) in
    let here : old ≡ page_at now.pages q = c.index_mut-backed.ensures.value ∙ get_or_default pages q old no_page lt ∙ ap (λ (m : PageMap). page_at m.pages q) c.self.view_is in
    let moves : old.move ≡ Some (move_of pending) =
    ap (λ (g : Page). g.move) (sym c.backed.view_is) ∙ ap (option_map move_of) (sym c.take.ensures.value ∙ c.in-Some.is) in
    let change = change_of pending.change in
    let still = ap (λ (o : Option PendingMove). page_of (record c.backed.inside { pending = o })) c.take.ensures.after ∙ ap without_move c.backed.view_is in
    let before : pages ≡ now.pages = ap (λ (x : PageMap). x.pages) c.self.view_is in
    let spares = ap (map copy_of) c.settle-self-inside.ensures.spares ∙ map-append copy_of c.self.inside.spares.items (option_to_list c.finish-spare.result.spare)
    ∙ (λ i. (c.self.view_is i).spares ++ copies-of c.finish-spare.result.spare i) in
    finishes-by now _ q old change (move_of pending) m (option_to_list (option_map copy_of c.finish-spare.result.spare)) c.finish-spare.result.freed
    here moves refl is (λ i. set (before i) q ((c.finish-spare.ensures.page ∙ ap (finished change) still) i)) spares c.finish-spare.ensures.spare
    (c.finish-spare.ensures.freed ∙ ap (λ (g : Page). numbers_of (dropped g change)) still)
    (omega (arith, c.settle-self-inside.ensures.room, ap (λ (x : PageMap). x.room) c.self.view_is))
