use Rattle.std.proofs.Common.{◌-◌, take, drop, ap, ◌∙◌}
use Rattle.guest_asm.proofs.Rows.{row-is}
use Rattle.guest_asm.proofs.listing.row_of.Goals as goal

pub returns : goal.returns
returns c = ap (λ e. take (e - c.min-start.result) (drop c.min-start.result c.args.bytes.now)) c.min-end.ensures ∙ row-is c.args.bytes.now _ c.min-start.result c.min-start.ensures
