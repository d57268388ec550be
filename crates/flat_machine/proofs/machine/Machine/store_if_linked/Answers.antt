use Rattle.std.proofs.Common.{◌≡◌, ℕ, Bool, None, Ok, ap, sym, ◌∙◌}
use Rattle.private_machine.specs.declared.vcpu.Vcpu.{Vcpu}
use Rattle.private_machine.specs.PrivateMachine.{PrivateMachine, vcpu, on_vcpu}
use Rattle.private_machine.specs.Links.{line_of, is_linked}
use Rattle.flat_machine.specs.FlatView.{machine_of}
use Rattle.flat_machine.proofs.MachineLemmas.{put_with, stored_if-once, stored_not-once}
use Rattle.flat_machine.proofs.machine.Machine.store_if_linked.Goals as goal

-- the test of the link, as it was made
tested : (m : PrivateMachine) (v offset line : ℕ) (kept : Vcpu) (b : Bool) → line ≡ line_of offset → kept ≡ vcpu m v → b ≡ is_linked kept.link line → is_linked (vcpu m v).link (line_of offset) ≡ b
tested m v offset line kept b is_line is_kept is =
    ap (is_linked (vcpu m v).link) (sym is_line) ∙ ap (λ (x : Vcpu). is_linked x.link line) (sym is_kept) ∙ sym is

pub returns-then-links-clause-stored : goal.returns-then-links-clause-stored
returns-then-links-clause-stored c =
    let m = machine_of c.args.self.now in
    let v = c.args.vcpu.0 in
    stored_if-once m v c.args.target c.args.value c.args.offset c.requires.there
    (tested m v c.args.offset c.line_of-line.result c.vcpu.result.now c.links.result c.line_of-line.ensures c.vcpu.ensures c.links.ensures ∙ c.if-links.true)
    ∙ ap (λ w. Ok (on_vcpu w v (put_with None c.args.target 1))) (sym c.write.ensures.written) ∙ ap Ok (sym c.put_unlinked.ensures.put)

pub returns-else-links-clause-stored : goal.returns-else-links-clause-stored
returns-else-links-clause-stored c =
    let m = machine_of c.args.self.now in
    let v = c.args.vcpu.0 in
    stored_not-once m v c.args.target c.args.value c.args.offset c.requires.there
    (tested m v c.args.offset c.line_of-line.result c.vcpu.result.now c.links.result c.line_of-line.ensures c.vcpu.ensures c.links.ensures ∙ c.if-links.false)
    ∙ ap Ok (sym c.put_unlinked-else-links.ensures.put)
