use Rattle.private_machine.specs.SecondLevel.{unless_of_pair}
use Rattle.l2_tlb.specs.Seconds.{second_of}
use Rattle.l2_tlb.proofs.Places.{emptied, unless_of_pair-gone}
use Rattle.l2_tlb.proofs.entry.drop_of_pair.Goals as goal

pub returns-then-entry-vpn2 : goal.returns-then-entry-vpn2
returns-then-entry-vpn2 c =
    let e = c.in-Some.entry in
    emptied (unless_of_pair c.args.vpn2) c.args.places.now c.args.place e c.requires c.in-Some.is (unless_of_pair-gone c.args.vpn2 (second_of e) c.if-entry-vpn2.true)
