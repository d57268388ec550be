use Rattle.std.proofs.Common.{◌≡◌, ◌∙◌, ap, sym, ℕ, List, Option}
use mathlib.Core.Path.{fun_ext}
use Rattle.std.specs.Option.{option_map}
use Rattle.guest_asm.specs.declared.labels.Site.{Site}
use Rattle.guest_asm.specs.Operands.{no_labels}
use Rattle.guest_asm.specs.Statements.{statement_on}
use Rattle.guest_asm.specs.Addresses.{moved_by}
use Rattle.guest_asm.specs.Sites.{address_in}
use Rattle.guest_asm.proofs.address.origin.Goals as goal

pub returns-in-Ok : goal.returns-in-Ok
returns-in-Ok c =
    let none : address_in c.new.result ≡ no_labels = fun_ext (λ name. ap (option_map (λ (site : Site). site.address)) (c.new.ensures name)) in
    c.moved_by.ensures ∙ ap (moved_by c.args.address) (sym c.in-Ok.ensures ∙ ap (λ (labels : List ℕ → Option ℕ). statement_on labels c.args.line.now) none)
