use Rattle.std.proofs.Common.{◌≡◌, ◌∙◌, ap, map, length, sym, subst, List}
use Rattle.page_slots.specs.Making.{AreFresh}
use Rattle.litmus_run.specs.Workers.{caller_of, ops_of, AreDone}
use Rattle.litmus_run.specs.declared.workers.Worker.{Worker}
use Rattle.litmus_run.proofs.WorkerLemmas.{all_ready, still_all, outcome, kept}
use Rattle.litmus_run.proofs.running.run.Goals as goal

pub all_work-requires-clause-ready : goal.all_work-requires-clause-ready
all_work-requires-clause-ready g c κs within =
    let fresh = c.in_ok-slots.ensures in
    let value = c.deref_mut.ensures.value in
    all_ready c.args.litmus c.requires c.in_ok-slots.slots c.in_ok-slots.made (subst (λ n. AreFresh c.in_ok-slots.slots c.args.litmus.pages n c.in_ok-slots.made) c.len.ensures fresh) c.deref_mut.result.now
    (ap (λ (l : List Worker). map caller_of l) value ∙ c.in_ok-workers.ensures.callers)
    (ap (λ (l : List Worker). map ops_of l) value ∙ c.in_ok-workers.ensures.ops)

pub close-requires : goal.close-requires
close-requires g c =
    let fresh = c.in_ok-slots.ensures in
    let value = c.deref_mut.ensures.value in
    let was = c.deref_mut.result.now in
    let now = c.all_work.new.workers in
    let items = c.in_ok-workers.workers.items in
    let same : length now ≡ length items = c.all_work.ensures.all ∙ ap (λ (l : List Worker). length l) value in
    let whole = kept c.in_ok-workers.workers.len items now (sym c.in_ok-workers.workers.ok.0) same in
    still_all c.args.litmus c.requires c.in_ok-slots.slots c.in_ok-slots.made (subst (λ n. AreFresh c.in_ok-slots.slots c.args.litmus.pages n c.in_ok-slots.made) c.len.ensures fresh) was
    (ap (λ (l : List Worker). map caller_of l) value ∙ c.in_ok-workers.ensures.callers)
    (ap (λ (l : List Worker). map ops_of l) value ∙ c.in_ok-workers.ensures.ops)
    now c.all_work.ensures.each c.all_work.ensures.all
    c.in_ok-made.made (c.in_ok-made.ensures.callers ∙ ap (λ (l : List Worker). map caller_of l) whole)

pub returns : goal.returns
returns g c =
    let fresh = c.in_ok-slots.ensures in
    let value = c.deref_mut.ensures.value in
    let was = c.deref_mut.result.now in
    let now = c.all_work.new.workers in
    let items = c.in_ok-workers.workers.items in
    let same : length now ≡ length items = c.all_work.ensures.all ∙ ap (λ (l : List Worker). length l) value in
    let whole = kept c.in_ok-workers.workers.len items now (sym c.in_ok-workers.workers.ok.0) same in
    outcome c.args.litmus c.requires c.in_ok-slots.slots c.in_ok-slots.made (subst (λ n. AreFresh c.in_ok-slots.slots c.args.litmus.pages n c.in_ok-slots.made) c.len.ensures fresh) was
    (ap (λ (l : List Worker). map caller_of l) value ∙ c.in_ok-workers.ensures.callers)
    (ap (λ (l : List Worker). map ops_of l) value ∙ c.in_ok-workers.ensures.ops)
    now c.all_work.ensures.each c.all_work.ensures.all
    c.in_ok-made.made c.close.result (c.in_ok-made.ensures.callers ∙ ap (λ (l : List Worker). map caller_of l) whole)
    (subst (λ (l : List Worker). AreDone l) whole c.in_ok-made.ensures.done) c.close.ensures
