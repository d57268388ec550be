use Rattle.std.proofs.Common.{◌≡◌, ℕ, List, sym, ap, subst, ◌∙◌}
use Rattle.frame_words.specs.Views.{OneGeneration, KeepsRest}
use Rattle.frame_words.specs.Steps.{Own, left_with}
use Rattle.frame_words.specs.Splits.{named, HasHolds}
use Rattle.frame_words.specs.declared.view.View.{View}
use Rattle.base_words.specs.declared.frame.Frame.{Frame}
use Rattle.frame_words.specs.Holders.{Holding}
use Rattle.frame_words.proofs.Bags.{one_among}
use Rattle.frame_words.proofs.NamedLemmas.{keeps_unnamed}
use Rattle.frame_words.proofs.Parts.{keeps_rest, one_left}
use Rattle.frame_words.proofs.seats.split.Goals as goal

-- what stays with the first holder
rest : (v w : Holding) (fs : List Frame) (ns : List ℕ) (m : View) → w ≡ v → HasHolds v.view (named fs ns) → m ≡ left_with (named fs ns) w.view → KeepsRest v.view (named fs ns) m
rest v w fs ns m is has left = keeps_rest v.view (named fs ns) m v.agrees has.often (ap (λ (x : View). x.holds) (left ∙ ap (λ (x : Holding). left_with (named fs ns) x.view) is))

pub returns-clause-rest : goal.returns-clause-rest
returns-clause-rest c = rest c.args.holder.now _ c.args.frames.now c.args.loans.now _ c.holder.view_is c.requires.has (ap (λ (m : Own). m.0) c.cut.ensures.left)

pub returns-clause-unnamed : goal.returns-clause-unnamed
returns-clause-unnamed c = λ few. keeps_unnamed c.args.holder.now.view _ c.args.frames.now c.args.loans.now few
    (rest c.args.holder.now _ c.args.frames.now c.args.loans.now _ c.holder.view_is c.requires.has (ap (λ (m : Own). m.0) c.cut.ensures.left))

pub invariant_of-holder-inside : goal.invariant_of-holder-inside
invariant_of-holder-inside c = (subst (λ (m : Own). OneGeneration m.0.holds) (sym c.cut.ensures.left) (one_left (named c.args.frames.now c.args.loans.now) c.holder.inside.seat.me.0.holds c.holder.inside.agrees), tt)

pub invariant_of-result : goal.invariant_of-result
invariant_of-result c = (subst (λ (m : Own). OneGeneration m.0.holds) (sym c.cut.ensures.right) (one_among c.args.holder.now.view.holds (named c.args.frames.now c.args.loans.now) c.requires.has.under c.args.holder.now.agrees), tt)
