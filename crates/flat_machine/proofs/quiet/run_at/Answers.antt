-- The virtual processors are put together again.
use Rattle.std.proofs.Common.{◌≡◌, ◌++◌, map, get_or, set, ap, sym, ◌∙◌, subst}
use Rattle.base_words.specs.Place.{AddressSpace}
use Rattle.private_machine.specs.declared.vcpu.Vcpu.{Vcpu}
use Rattle.private_machine.specs.Showing.{shown_by}
use Rattle.private_machine.specs.Vcpu.{no_vcpu, space_of}
use Rattle.flat_machine.specs.Parts.{GoesAt}
use Rattle.flat_machine.specs.Windows.{AreKept}
use Rattle.flat_machine.proofs.PartsLemmas.{Apart, goes-at, shows-at, space-at}
use Rattle.flat_machine.proofs.quiet.run_at.Goals as goal

pub returns-clause-went : goal.returns-clause-went
returns-clause-went c =
    let first = c.split_at_mut-before in
    let second = c.split_at_mut-one in
    let made = c.run_between-made in
    let n = made.result in
    let before = first.result.0.now in
    let rest = first.result.1.now in
    let one = second.result.0.now in
    let behind = second.result.1.now in
    let old = get_or one 0 c.index-one-0.result in
    let apart : Apart c.args.vcpu n c.args.vcpus.now before rest one behind made.new.before made.new.behind old made.new.current = record {
      parts = first.ensures.value;
      more = second.ensures.value;
      single = second.ensures.front_len;
      is = ap (λ (x : Vcpu). get_or one 0 x) c.index-one-0.is;
      long = first.ensures.front_len;
      same = made.ensures.current;
      before_shows = made.ensures.before_shows;
      behind_shows = made.ensures.behind_shows;
    } in
    subst (λ (x : Vcpu). GoesAt c.args.pages c.args.is_open c.args.vcpu n c.args.vcpus.now c.args.memory.now (made.new.before ++ (set one 0 x ++ made.new.behind)) made.new.memory) (sym c.tick_by.ensures)
    (goes-at c.args.pages c.args.is_open c.args.vcpu n c.args.vcpus.now before rest one behind made.new.before made.new.behind old made.new.current c.args.memory.now made.new.memory apart made.ensures.goes)

pub returns-clause-shows : goal.returns-clause-shows
returns-clause-shows c =
    let first = c.split_at_mut-before in
    let second = c.split_at_mut-one in
    let made = c.run_between-made in
    let n = made.result in
    let before = first.result.0.now in
    let rest = first.result.1.now in
    let one = second.result.0.now in
    let behind = second.result.1.now in
    let old = get_or one 0 c.index-one-0.result in
    let apart : Apart c.args.vcpu n c.args.vcpus.now before rest one behind made.new.before made.new.behind old made.new.current = record {
      parts = first.ensures.value;
      more = second.ensures.value;
      single = second.ensures.front_len;
      is = ap (λ (x : Vcpu). get_or one 0 x) c.index-one-0.is;
      long = first.ensures.front_len;
      same = made.ensures.current;
      before_shows = made.ensures.before_shows;
      behind_shows = made.ensures.behind_shows;
    } in
    subst (λ (x : Vcpu). map shown_by (made.new.before ++ (set one 0 x ++ made.new.behind)) ≡ map shown_by c.args.vcpus.now) (sym c.tick_by.ensures)
    (shows-at c.shown_stays.ensures.ticked c.args.vcpu n c.args.vcpus.now before rest one behind made.new.before made.new.behind old made.new.current apart)

pub returns-clause-kept : goal.returns-clause-kept
returns-clause-kept c =
    let first = c.split_at_mut-before in
    let second = c.split_at_mut-one in
    let made = c.run_between-made in
    let n = made.result in
    let before = first.result.0.now in
    let rest = first.result.1.now in
    let one = second.result.0.now in
    let behind = second.result.1.now in
    let old = get_or one 0 c.index-one-0.result in
    let apart : Apart c.args.vcpu n c.args.vcpus.now before rest one behind made.new.before made.new.behind old made.new.current = record {
      parts = first.ensures.value;
      more = second.ensures.value;
      single = second.ensures.front_len;
      is = ap (λ (x : Vcpu). get_or one 0 x) c.index-one-0.is;
      long = first.ensures.front_len;
      same = made.ensures.current;
      before_shows = made.ensures.before_shows;
      behind_shows = made.ensures.behind_shows;
    } in
    let space = ap (λ (x : Vcpu). space_of (get_or (made.new.before ++ (set one 0 x ++ made.new.behind)) c.args.vcpu no_vcpu)) c.tick_by.ensures ∙ space-at c.args.vcpu n c.args.vcpus.now before rest one behind made.new.before made.new.behind old made.new.current apart in
    subst (λ (s : AddressSpace). AreKept s c.args.pages made.new.kept) (sym space) made.ensures.kept
