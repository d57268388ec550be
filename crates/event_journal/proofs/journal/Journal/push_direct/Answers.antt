use Rattle.std.proofs.Common.{◌≡◌, ◌∷◌, ◌++◌, [], Some, ap, ◌∙◌, rules}
use Rattle.base_words.specs.declared.events.Event.TheVariants.{Direct}
use Rattle.event_journal.proofs.PartLemmas.{all-same, Agree-same}
use Rattle.event_journal.proofs.journal.Journal.push_direct.Goals as goal

pub invariant_of-self : goal.invariant_of-self
invariant_of-self c =
    let is : c.self.inside.last ≡ Some (Direct c.args.processor c.args.vcpu) =
    (c.self.invariant.marked _ _ (search rules) (search rules)).0 (search rules) in
    Agree-same _ _ _ _ _ _ is c.self.invariant

pub returns-then-self-direct_mark-clause-entries : goal.returns-then-self-direct_mark-clause-entries
returns-then-self-direct_mark-clause-entries c =
    let is : c.self.inside.last ≡ Some (Direct c.args.processor c.args.vcpu) =
    (c.self.invariant.marked _ _ (search rules) (search rules)).0 (search rules) in
    all-same _ _ _ _ _ _ is c.self.invariant
    ∙ ap (λ v. v.entries ++ Direct c.args.processor c.args.vcpu ∷ []) c.self.view_is
