use Rattle.std.proofs.Common.{length, get_or, ap, ◌∙◌, arith}
use Rattle.std.proofs.lemmas.List.Edits.{get_or-remove_below}
use Rattle.frame_tests.proofs.wire_queue_packets.two_guests.Goals as goal

pub returns-clause-first : goal.returns-clause-first
returns-clause-first g c =
    let wires = c.in-Ok.wires in
    let made = c.in-Ok.ensures in
    let lists = c.in-Ok.passes in
    let first = c.remove-first.result in
    let is = c.each_guest_has_its_list.ensures.own wires lists 0 first made.passes (omega (arith, made.guests))
    (c.remove-first.ensures.value ∙ ap (λ l. get_or l 0 first) c.remove-second.ensures.items
    ∙ get_or-remove_below c.into_vec-lists.result.items 1 first 0 (omega arith) (omega (arith, made.guests, made.passes.all, ap length c.into_vec-lists.ensures))
    ∙ ap (λ l. get_or l 0 first) c.into_vec-lists.ensures) in
    (is.0, is.1, c.each_guest_has_its_list.ensures.sends wires first 0 1 made.joins is.0 is.1 (omega (arith, made.guests)) (omega (arith, made.guests)) (λ same. omega arith))

pub returns-clause-second : goal.returns-clause-second
returns-clause-second g c =
    let wires = c.in-Ok.wires in
    let made = c.in-Ok.ensures in
    let second = c.remove-second.result in
    let is = c.each_guest_has_its_list.ensures.own wires c.in-Ok.passes 1 second made.passes (omega (arith, made.guests)) (c.remove-second.ensures.value ∙ ap (λ l. get_or l 1 second) c.into_vec-lists.ensures) in
    (is.0, is.1, c.each_guest_has_its_list.ensures.takes wires second 1 0 made.joins is.0 is.1 (omega (arith, made.guests)) (omega (arith, made.guests)) (λ same. omega arith))
