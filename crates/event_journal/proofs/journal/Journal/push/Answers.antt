use Rattle.std.proofs.Common.{◌≢◌, ◌+◌, ◌∷◌, ◌++◌, [], Some, sym, ap, subst, ◌∙◌}
use Rattle.std.proofs.lemmas.Bool.{false≢true}
use Rattle.event_journal.specs.Parts.{Agree}
use Rattle.event_journal.proofs.PartLemmas.{all-same, Agree-same, Agree-other}
use Rattle.event_journal.proofs.journal.Journal.push.Goals as goal

pub invariant_of-self : goal.invariant_of-self
invariant_of-self c = Agree-same _ _ _ _ _ _ (c.is_one_more.ensures.0 c.if-is_one_more.true) c.self.invariant

pub returns-then-is_one_more-clause-entries : goal.returns-then-is_one_more-clause-entries
returns-then-is_one_more-clause-entries c =
    all-same _ _ _ _ _ _ (c.is_one_more.ensures.0 c.if-is_one_more.true) c.self.invariant
    ∙ ap (λ v. v.entries ++ c.args.event ∷ []) c.self.view_is

pub invariant_of-self-2 : goal.invariant_of-self-2
invariant_of-self-2 c =
    let j = c.self.inside in
    let number = c.mark_of-self-inside.result in
    let other : j.last ≢ Some c.args.event = λ is. false≢true (sym c.if-is_one_more.false ∙ c.is_one_more.ensures.1 is) in
    subst (λ runs. Agree runs j.entries (Some c.args.event) (j.entries + 1) number) (sym c.end_run.ensures.items)
    (Agree-other _ _ _ _ _ _ _ other c.mark_of-self-inside.ensures c.self.invariant)
