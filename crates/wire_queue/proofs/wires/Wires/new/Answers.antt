use Rattle.wire_queue.specs.Lines.{terms_of}
use Rattle.wire_queue.specs.WireParts.{ids_of}
use Rattle.wire_queue.proofs.MadeLemmas.{none_made}
use Rattle.wire_queue.proofs.ListLemmas.{all_of, unused_of}
use Rattle.wire_queue.proofs.wires.Wires.new.Goals as goal

pub connect_all-requires : goal.connect_all-requires
connect_all-requires c =
    none_made c.args.guests (terms_of c.args.shape.now c.args.homes.now) (ids_of c.in_ok-rows.rows.items) c.in_ok-lists.lists.items c.in_ok-rows.ensures c.in_ok-lists.ensures.sends
    c.in_ok-lists.ensures.takes c.in_ok-lists.ensures.asks c.in_ok-lists.ensures.guests

pub returns-clause-passes : goal.returns-clause-passes
returns-clause-passes c =
    all_of c.args.guests (terms_of c.args.shape.now c.args.homes.now) c.in_ok-terms.terms (ids_of c.connect_all.new.rows.items) c.connect_all.new.lists.items c.from_vec.result
    c.in_ok-terms.ensures c.from_vec.ensures c.in_ok-connect_all.ensures.made

pub returns-clause-unused : goal.returns-clause-unused
returns-clause-unused c =
    unused_of c.args.guests (terms_of c.args.shape.now c.args.homes.now) (ids_of c.connect_all.new.rows.items) c.connect_all.new.lists.items c.from_vec.result c.from_vec.ensures
    c.in_ok-connect_all.ensures.made
