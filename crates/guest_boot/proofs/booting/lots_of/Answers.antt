use Rattle.std.proofs.Common.{◌≡◌, ◌<◌, ℕ, List, length, map, sym, ap, ◌∙◌, subst}
use Rattle.std.specs.Prelude.{All}
use Rattle.node_frames.specs.Layout.{layout_of}
use Rattle.node_frames.specs.Left.{Left, first_left}
use Rattle.machine_desc.specs.Bounds.{IsGuest}
use Rattle.machine_desc.specs.declared.machine.GuestSpec.{GuestSpec}
use Rattle.boot_frames.specs.Chain.{after_claims}
use Rattle.boot_frames.specs.Claims.{cache_claims, page_claims}
use Rattle.boot_frames.specs.Lots.{ServesAll}
use Rattle.boot_frames.specs.Needs.{need_of}
use Rattle.boot_frames.specs.declared.needs.Need.{Need}
use Rattle.guest_boot.specs.Booting.{left_by_caches}
use Rattle.guest_boot.proofs.LotLemmas.{rest-once}
use Rattle.guest_boot.proofs.booting.lots_of.Goals as goal

-- each guest is at home on a node that is there
pub place-requires-clause-nodes : goal.place-requires-clause-nodes
place-requires-clause-nodes c =
    let nodes = c.args.machine.now.shape.nodes in
    let guests = subst (λ (l : List GuestSpec). All (IsGuest nodes) l) (sym c.as_slice.ensures) c.requires.described.guests in
    subst (λ (l : List Need). All (λ (need : Need). need.node.0 < nodes) l) (sym c.as_slice-2.ensures.value) (c.in_ok-needs.ensures.at_home nodes guests)

-- the caches have what they claim of all that there is
pub returns-in-Ok-clause-caches : goal.returns-in-Ok-clause-caches
returns-in-Ok-clause-caches c =
    let machine = c.args.machine.now in
    let table = c.args.table.now in
    let layout = layout_of machine.shape in
    let lots = c.in-Ok.placed.caches.items in
    subst (λ (lends : List ℕ). ServesAll table layout (first_left layout lends) (cache_claims machine.cache 0 (length machine.lends)) lots) c.requires.lends
    (subst (λ (cells : ℕ). ServesAll table layout (first_left layout table.terms.lends) (cache_claims machine.cache 0 cells) lots) c.len-cells.ensures c.in-Ok.ensures.caches)

-- and leave the rest to the guests
pub returns-in-Ok-clause-guests : goal.returns-in-Ok-clause-guests
returns-in-Ok-clause-guests c =
    let machine = c.args.machine.now in
    let table = c.args.table.now in
    let layout = layout_of machine.shape in
    let lots = c.in-Ok.placed.guests.items in
    let needs = c.as_slice-2.ensures.value ∙ c.in_ok-needs.ensures.needs ∙ ap (λ (l : List GuestSpec). map need_of l) c.as_slice.ensures in
    let left : after_claims layout (cache_claims machine.cache 0 c.len-cells.result) (first_left layout table.terms.lends) ≡ left_by_caches machine =
    (λ i. after_claims layout (cache_claims machine.cache 0 (c.len-cells.ensures i)) (first_left layout (c.requires.lends i))) in
    subst (λ (l : Left). ServesAll table layout l (page_claims 0 (map need_of machine.guests)) lots) left
    (subst (λ (ns : List Need). ServesAll table layout (after_claims layout (cache_claims machine.cache 0 c.len-cells.result) (first_left layout table.terms.lends)) (page_claims 0 ns) lots) needs c.in-Ok.ensures.guests)

pub returns-in-Ok-clause-once : goal.returns-in-Ok-clause-once
returns-in-Ok-clause-once c = λ frame. rest-once frame c.in-Ok.placed.caches.items c.in-Ok.placed.guests.items (c.in-Ok.ensures.apart frame)
