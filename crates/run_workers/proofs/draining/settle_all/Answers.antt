-- The next guest is settled, with the guests before it and behind it as others.
use Rattle.std.proofs.Common.{rules, ◌≡◌, ◌<◌, ◌++◌, ◌∷◌, [], List, length, sym, ap, ◌∙◌, subst}
use Rattle.std.proofs.lemmas.List.{append_assoc, with_items_is}
use Rattle.guest_core.specs.GuestView.{Monitored, Shared, AreOf, shared_by}
use Rattle.guest_lock.specs.Guests.{GuestsFrom}
use Rattle.run_workers.specs.Draining.{AreKept, AreOthers}
use Rattle.run_workers.proofs.SettledLemmas.{AreSettled, from-next, others-before, others-after, next-shared, settled-more, split}
use Rattle.run_workers.proofs.draining.settle_all.Goals as goal

pub settle-requires-clause-shared : goal.settle-requires-clause-shared
settle-requires-clause-shared g c =
    let i = c.loop-alloc.invariant in
    let done = c.loop-alloc.done.items in
    let some : 0 < length c.loop-alloc.rest.items = search rules in
    let rest : c.loop-alloc.rest.items ≡ c.remove-guest.result ∷ c.remove-guest.new.self.items = split c.loop-alloc.rest.items c.remove-guest.result c.remove-guest.result c.remove-guest.new.self.items some c.remove-guest.ensures.value c.remove-guest.ensures.items in
    let from = subst (λ (l : List Monitored). GuestsFrom g.N.Starts.starts g.N.Starts.board g.N.Starts.shared 0 (done ++ l)) rest i.0 in
    subst (λ (s : Shared). AreOf s c.remove-guest.result) (sym c.requires.shared) (next-shared g.N.Starts.starts g.N.Starts.board g.N.Starts.shared done c.remove-guest.result c.remove-guest.new.self.items from)

pub settle-requires-clause-before : goal.settle-requires-clause-before
settle-requires-clause-before g c =
    let i = c.loop-alloc.invariant in
    let done = c.loop-alloc.done.items in
    let some : 0 < length c.loop-alloc.rest.items = search rules in
    let rest : c.loop-alloc.rest.items ≡ c.remove-guest.result ∷ c.remove-guest.new.self.items = split c.loop-alloc.rest.items c.remove-guest.result c.remove-guest.result c.remove-guest.new.self.items some c.remove-guest.ensures.value c.remove-guest.ensures.items in
    let from = subst (λ (l : List Monitored). GuestsFrom g.N.Starts.starts g.N.Starts.board g.N.Starts.shared 0 (done ++ l)) rest i.0 in
    let shared : g.N.Starts.shared ≡ shared_by c.args.resources.now = sym c.requires.shared in
    let value : c.deref_mut.result.now ≡ done = c.deref_mut.ensures.value in
    subst (λ (s : Shared). AreOthers s c.remove-guest.result c.deref_mut.result.now) shared
    (subst (AreOthers g.N.Starts.shared c.remove-guest.result) (sym value) (others-before g.N.Starts.starts g.N.Starts.board g.N.Starts.shared done c.remove-guest.result c.remove-guest.new.self.items from))

pub settle-requires-clause-after : goal.settle-requires-clause-after
settle-requires-clause-after g c =
    let i = c.loop-alloc.invariant in
    let done = c.loop-alloc.done.items in
    let some : 0 < length c.loop-alloc.rest.items = search rules in
    let rest : c.loop-alloc.rest.items ≡ c.remove-guest.result ∷ c.remove-guest.new.self.items = split c.loop-alloc.rest.items c.remove-guest.result c.remove-guest.result c.remove-guest.new.self.items some c.remove-guest.ensures.value c.remove-guest.ensures.items in
    let from = subst (λ (l : List Monitored). GuestsFrom g.N.Starts.starts g.N.Starts.board g.N.Starts.shared 0 (done ++ l)) rest i.0 in
    let shared : g.N.Starts.shared ≡ shared_by c.args.resources.now = sym c.requires.shared in
    let value : c.deref_mut-in-loop-alloc.result.now ≡ c.remove-guest.new.self.items = c.deref_mut-in-loop-alloc.ensures.value in
    subst (λ (s : Shared). AreOthers s c.remove-guest.result c.deref_mut-in-loop-alloc.result.now) shared
    (subst (AreOthers g.N.Starts.shared c.remove-guest.result) (sym value) (others-after g.N.Starts.starts g.N.Starts.board g.N.Starts.shared done c.remove-guest.result c.remove-guest.new.self.items from))

pub loop-alloc-preserved : goal.loop-alloc-preserved
loop-alloc-preserved g c =
    let i = c.loop-alloc.invariant in
    let starts = g.N.Starts.starts in
    let board = g.N.Starts.board in
    let shared = g.N.Starts.shared in
    let done = c.loop-alloc.done.items in
    let guest = c.remove-guest.result in
    let xs = c.remove-guest.new.self.items in
    let now = c.settle.new.guest in
    let before = c.settle.new.before in
    let after = c.settle.new.after in
    let some : 0 < length c.loop-alloc.rest.items = search rules in
    let rest : c.loop-alloc.rest.items ≡ guest ∷ xs = split c.loop-alloc.rest.items guest guest xs some c.remove-guest.ensures.value c.remove-guest.ensures.items in
    let from = subst (λ (l : List Monitored). GuestsFrom starts board shared 0 (done ++ l)) rest i.0 in
    let old = subst (AreSettled done) rest i.1 in
    let e = c.in_ok-settle.ensures in
    let value : c.deref_mut.result.now ≡ done = c.deref_mut.ensures.value in
    let value' : c.deref_mut-in-loop-alloc.result.now ≡ xs = c.deref_mut-in-loop-alloc.ensures.value in
    let kept = subst (λ (l : List Monitored). AreKept l before) value e.before in
    let kept' = subst (λ (l : List Monitored). AreKept l after) value' e.after in
    let items = with_items_is c.remove-guest.new.self after (kept'.count ∙ sym c.remove-guest.new.self.ok.0) in
    let grown : c.push.new.self.items ≡ before ++ now ∷ [] = c.in_ok-push.ensures.items ∙ ap (λ (l : List Monitored). l ++ now ∷ []) (with_items_is c.loop-alloc.done before (kept.count ∙ sym c.loop-alloc.done.ok.0)) in
    let next = from-next starts board shared 0 done before guest now xs after kept e.receives kept' from in
    let settled = settled-more done before guest now xs after kept e.receives kept' old e.none e.all_before e.all_after in (
      subst (λ (l : List Monitored). GuestsFrom starts board shared 0 (c.push.new.self.items ++ l)) (sym items)
          (subst (λ (l : List Monitored). GuestsFrom starts board shared 0 (l ++ after)) (sym grown) (subst (λ (l : List Monitored). GuestsFrom starts board shared 0 l) (sym (append_assoc before (now ∷ []) after)) next)),
      subst (AreSettled c.push.new.self.items) (sym items) (subst (λ (l : List Monitored). AreSettled l after) (sym grown) settled),
    )
