use Rattle.std.proofs.Common.{◌∙◌, sym, ap, List, slice_get}
use Rattle.shootdown.specs.Notes.{Token}
use Rattle.guest_tests.proofs.booting.two_of.Goals as goal

pub returns-clause-first : goal.returns-clause-first
returns-clause-first c =
    let both = c.in_ok-first.ensures.first in
    c.requires.ready.each 0 c.args.one.vcpus c.args.one.pages c.args.one.nodes c.in_ok-first.first.0 c.in_ok-first.first.1 c.requires.first both.0 (ap (λ (l : List Token). slice_get l 0) (sym c.into_vec.ensures) ∙ both.1)

pub returns-clause-second : goal.returns-clause-second
returns-clause-second c =
    let both = c.in_ok-first.ensures.second in
    c.requires.ready.each 1 c.args.other.vcpus c.args.other.pages c.args.other.nodes c.in_ok-first.second.0 c.in_ok-first.second.1 c.requires.second both.0 (ap (λ (l : List Token). slice_get l 1) (sym c.into_vec.ensures) ∙ both.1)
