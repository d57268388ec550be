use Rattle.std.proofs.Common.{◌≡◌, suc, ◌-◌, ◌∷◌, ◌++◌, [], replicate, Some, ap, ◌∙◌, arith, append_assoc}
use Rattle.base_words.specs.declared.events.Event.{Event}
use Rattle.base_words.specs.declared.events.Event.TheVariants.{Direct}
use Rattle.event_journal.proofs.PartLemmas.{last-is, all-as_many, Agree-as_many}
use Rattle.event_journal.proofs.journal.Journal.push_directs.Goals as goal

pub invariant_of-self : goal.invariant_of-self
invariant_of-self c =
    let is : c.self.inside.last ≡ Some (Direct c.args.processor c.args.vcpu) =
    last-is _ _ _ _ c.args.self.now.entries _ _ (ap (λ v. v.entries) c.self.view_is ∙ c.push_direct.ensures.entries) c.self.invariant in
    Agree-as_many _ _ _ _ (c.args.count - 1) _ _ is c.self.invariant

pub returns-clause-entries : goal.returns-clause-entries
returns-clause-entries c =
    let e : Event = Direct c.args.processor c.args.vcpu in
    let old = c.args.self.now.entries in
    let first = ap (λ v. v.entries) c.self.view_is ∙ c.push_direct.ensures.entries in
    let is : c.self.inside.last ≡ Some e = last-is _ _ _ _ old _ _ first c.self.invariant in
    let all : suc (c.args.count - 1) ≡ c.args.count = omega (arith, c.if-count-eq0.false) in
    all-as_many _ _ _ _ (c.args.count - 1) _ _ is c.self.invariant
    ∙ ap (λ es. es ++ replicate (c.args.count - 1) e) first
    ∙ append_assoc old (e ∷ []) (replicate (c.args.count - 1) e)
    ∙ ap (λ n. old ++ replicate n e) all
