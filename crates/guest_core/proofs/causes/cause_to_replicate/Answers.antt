-- The page has a frame on the node, or it has none.
use Rattle.std.proofs.Common.{if◌then◌else◌, Option, Some, None, Bool, sym, ap, ◌∙◌}
use Rattle.isolation_law.specs.Parts.{Cause, SameNode}
use Rattle.guest_core.proofs.causes.cause_to_replicate.Goals as goal

abbrev as-cause : Bool → Option Cause
as-cause b = if b then Some SameNode else None

pub returns-then-is_on : goal.returns-then-is_on
returns-then-is_on c = ap as-cause (sym (sym c.is_on.ensures ∙ c.if-is_on.true))

pub returns-else-is_on : goal.returns-else-is_on
returns-else-is_on c = ap as-cause (sym (sym c.is_on.ensures ∙ c.if-is_on.false))
