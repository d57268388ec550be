-- A stretch, and then a load or a store, are so many steps more.
use Rattle.std.proofs.Common.{◌≡◌, ◌<◌, ◌+◌, ◌-◌, ◌/◌, ℕ, Bool, List, map, Option, Some, IfSome, length, take, drop, sym, ap, ◌∙◌, subst, arith}
use Rattle.std.proofs.lemmas.List.{length-map, length-take, length-drop}
use Rattle.base_words.specs.declared.exception.Use.TheVariants.{Fetch}
use Rattle.base_words.specs.declared.regs.Regs.{Regs}
use Rattle.base_words.specs.declared.effect.Request.{Request}
use Rattle.base_words.specs.Place.{AddressSpace}
use Rattle.private_machine.specs.declared.vcpu.Vcpu.{Vcpu}
use Rattle.private_machine.specs.RegisterPage.{redirected}
use Rattle.private_machine.specs.Showing.{shown_by}
use Rattle.private_machine.specs.Vcpu.{space_of, with_registers}
use Rattle.page_ops.specs.Pages.{Goes as GoesOn, StopsAt}
use Rattle.page_ops.specs.declared.stretch.Stop.{Stop}
use Rattle.flat_machine.specs.declared.window.KeptPage.{KeptPage}
use Rattle.flat_machine.specs.Parts.{Parts, Answers, Goes}
use Rattle.flat_machine.specs.Stretches.{IsOfMemory}
use Rattle.flat_machine.specs.Windows.{AreKept, IsKeptPage, IsPageOf}
use Rattle.flat_machine.proofs.PartsLemmas.{Fetches, goes-straight, goes-touched}
use Rattle.flat_machine.proofs.WindowLemmas.{QuietPass}
use Rattle.flat_machine.proofs.quiet.run_between.Goals as goal

pub straight-stretch-requires-clause-whole : goal.straight-stretch-requires-clause-whole
straight-stretch-requires-clause-whole c =
    let l = c.loop-made in
    let start = c.in-Some.start in
    let of = c.in-Some.ensures.page in
    let within = of.whole in
    let all = l.invariant.whole ∙ c.requires.whole in
    let behind = length-drop start l.memory in
    let bytes = ap length c.page_from-bytes.ensures ∙ length-take 4096 (drop start l.memory) in
    omega (arith, bytes, behind, all, within)

-- what a stretch begins with
record Begins (pages : ℕ) (opens : Bool) (c : Vcpu) (made : ℕ) (first p : Parts) (current : Vcpu) (page : KeptPage) (bytes : List ℕ) : Type 0 where
  pub pass : QuietPass
  pub same : current ≡ with_registers p.registers c
  pub shows : map shown_by p.before ≡ map shown_by first.before
  pub of : IsPageOf Fetch (space_of current) pages page
  pub are : bytes ≡ take 4096 (drop page.start p.memory)
  pub goes : Goes pages opens c made first p

long : (p first : Parts) → map shown_by p.before ≡ map shown_by first.before → length p.before ≡ length first.before
long p first shows = sym (length-map p.before shown_by) ∙ ap length shows ∙ length-map first.before shown_by

fetches : (pages : ℕ) (opens : Bool) (c : Vcpu) (made : ℕ) (first p : Parts) (current : Vcpu) (page : KeptPage) (bytes : List ℕ) → Begins pages opens c made first p current page bytes → Fetches pages c p page bytes
fetches pages opens c made first p current page bytes b = record { of = subst (λ (s : AddressSpace). IsPageOf Fetch s pages page) (ap space_of b.same) b.of; are = b.are }

gone : (pages : ℕ) (opens : Bool) (c : Vcpu) (made n : ℕ) (first p : Parts) (current : Vcpu) (page : KeptPage) (bytes : List ℕ) (s : Regs) → Begins pages opens c made first p current page bytes → GoesOn bytes page.number n p.registers s → Goes pages opens c (made + n) first (record p { registers = s })
gone pages opens c made n first p current page bytes s b on = goes-straight b.pass pages opens c made n first p page bytes s (long p first b.shows) (fetches pages opens c made first p current page bytes b) b.goes on

touched : (pages : ℕ) (opens : Bool) (c : Vcpu) (made n : ℕ) (first p q : Parts) (current : Vcpu) (page : KeptPage) (bytes : List ℕ) (s : Regs) (stop : Stop) (request asked : Request) → Begins pages opens c made first p current page bytes → GoesOn bytes page.number n p.registers s → map shown_by q.before ≡ map shown_by first.before
    → StopsAt bytes page.number s stop → stop.asks ≡ Some request → asked ≡ redirected opens request → IsOfMemory asked → Answers pages (space_of current) asked (record p { registers = s }) q → Goes pages opens c (made + n + 1) first q
touched pages opens c made n first p q current page bytes s stop request asked b on shows stops asks-it is memory answers =
    let f = fetches pages opens c made first p current page bytes b in
    goes-touched b.pass pages opens c (made + n) first (record p { registers = s }) q page bytes stop request asked (long p first b.shows) (long q first shows) (record { of = f.of; are = f.are })
    (gone pages opens c made n first p current page bytes s b on) stops asks-it is memory (subst (λ (a : AddressSpace). Answers pages a asked (record p { registers = s }) q) (ap space_of b.same) answers)

pub returns-in_default-asks-clause-goes : goal.returns-in_default-asks-clause-goes
returns-in_default-asks-clause-goes c =
    let l = c.loop-made in
    let now : Vcpu = c.args.current.now in
    let bytes = c.page_from-bytes.result.now in
    let s = c.straight-stretch.new.regs in
    let made = c.straight-stretch.result.made in
    let page : KeptPage = record { number = l.current.registers.pc / 4096; start = c.in-Some.start } in
    let first : Parts = record { before = c.args.before.now; registers = now.registers; behind = c.args.behind.now; memory = c.args.memory.now } in
    let p : Parts = record { before = l.before; registers = l.current.registers; behind = l.behind; memory = l.memory } in
    let so : Begins c.args.pages c.args.is_open now l.made first p l.current page bytes =
    record { pass = c.quiet_steps_pass.ensures; same = l.invariant.current; shows = l.invariant.before_shows; of = c.in-Some.ensures.page; are = c.page_from-bytes.ensures; goes = l.invariant.goes } in
    gone c.args.pages c.args.is_open now l.made made first p l.current page bytes s so c.straight-stretch.ensures.goes

pub loop-made-preserved-in_default-stop : goal.loop-made-preserved-in_default-stop
loop-made-preserved-in_default-stop c =
    let l = c.loop-made in
    let now : Vcpu = c.args.current.now in
    let bytes = c.page_from-bytes.result.now in
    let s = c.straight-stretch.new.regs in
    let made = c.straight-stretch.result.made in
    let page : KeptPage = record { number = l.current.registers.pc / 4096; start = c.in-Some.start } in
    let first : Parts = record { before = c.args.before.now; registers = now.registers; behind = c.args.behind.now; memory = c.args.memory.now } in
    let p : Parts = record { before = l.before; registers = l.current.registers; behind = l.behind; memory = l.memory } in
    let so : Begins c.args.pages c.args.is_open now l.made first p l.current page bytes =
    record { pass = c.quiet_steps_pass.ensures; same = l.invariant.current; shows = l.invariant.before_shows; of = c.in-Some.ensures.page; are = c.page_from-bytes.ensures; goes = l.invariant.goes } in
    let few = c.straight-stretch.ensures.few in
    let more = c.loop-made-test.true in
    record {
      few = omega (arith, few, more);
      whole = l.invariant.whole;
      current = ap (with_registers s) l.invariant.current;
      zero = c.straight-stretch.ensures.zero;
      before_shows = l.invariant.before_shows;
      behind_shows = l.invariant.behind_shows;
      kept = record { fetched = subst (λ (a : AddressSpace). IsKeptPage Fetch a c.args.pages c.reach-reached.new.kept) (ap space_of l.invariant.current) c.reach-reached.ensures.kept; loaded = l.invariant.kept.loaded; stored = l.invariant.kept.stored };
      goes = gone c.args.pages c.args.is_open now l.made made first p l.current page bytes s so c.straight-stretch.ensures.goes;
    }

pub loop-made-preserved : goal.loop-made-preserved
loop-made-preserved c =
    let l = c.loop-made in
    let now : Vcpu = c.args.current.now in
    let bytes = c.page_from-bytes.result.now in
    let s = c.straight-stretch.new.regs in
    let made = c.straight-stretch.result.made in
    let page : KeptPage = record { number = l.current.registers.pc / 4096; start = c.in-Some.start } in
    let first : Parts = record { before = c.args.before.now; registers = now.registers; behind = c.args.behind.now; memory = c.args.memory.now } in
    let p : Parts = record { before = l.before; registers = l.current.registers; behind = l.behind; memory = l.memory } in
    let so : Begins c.args.pages c.args.is_open now l.made first p l.current page bytes =
    record { pass = c.quiet_steps_pass.ensures; same = l.invariant.current; shows = l.invariant.before_shows; of = c.in-Some.ensures.page; are = c.page_from-bytes.ensures; goes = l.invariant.goes } in
    let more = c.loop-made-test.true in
    let stop = c.in-Some-stop.stop in
    let stops : StopsAt bytes page.number s stop = subst (λ (o : Option Stop). IfSome o (StopsAt bytes page.number s)) c.in-Some-stop.is c.straight-stretch.ensures.stops in
    let before : made < c.args.most - l.made = subst (λ (o : Option Stop). IfSome o (λ z. made < c.args.most - l.made)) c.in-Some-stop.is c.straight-stretch.ensures.stops_before in
    let t = c.touch.new in
    let u = c.touch.ensures in
    let is-so = c.if-not-touch.false in
    let q : Parts = record { before = t.before; registers = t.current.registers; behind = t.behind; memory = t.memory } in
    let asks-it = ap (λ (z : Stop). z.asks) (sym c.in-Some-stop.stop-is) ∙ c.in-Some-asks.is in
    record {
      few = omega (arith, before, more);
      whole = u.whole ∙ l.invariant.whole;
      current = u.current ∙ ap (with_registers t.current.registers) l.invariant.current;
      zero = u.zero c.straight-stretch.ensures.zero;
      before_shows = u.before_shows ∙ l.invariant.before_shows;
      behind_shows = u.behind_shows ∙ l.invariant.behind_shows;
      kept = subst (λ (a : AddressSpace). AreKept a c.args.pages t.kept) (ap space_of l.invariant.current) u.kept;
      goes = touched c.args.pages c.args.is_open now l.made made first p q l.current page bytes s stop c.in-Some-asks.request c.redirected-asked.result so c.straight-stretch.ensures.goes (u.before_shows ∙ l.invariant.before_shows)
          stops asks-it (c.redirected-asked.ensures ∙ ap (redirected c.args.is_open) c.in-Some-asks.request-is) (u.memory is-so) (u.answers is-so);
    }

pub returns-then-not-touch-clause-goes : goal.returns-then-not-touch-clause-goes
returns-then-not-touch-clause-goes c =
    let l = c.loop-made in
    let now : Vcpu = c.args.current.now in
    let bytes = c.page_from-bytes.result.now in
    let s = c.straight-stretch.new.regs in
    let made = c.straight-stretch.result.made in
    let page : KeptPage = record { number = l.current.registers.pc / 4096; start = c.in-Some.start } in
    let first : Parts = record { before = c.args.before.now; registers = now.registers; behind = c.args.behind.now; memory = c.args.memory.now } in
    let p : Parts = record { before = l.before; registers = l.current.registers; behind = l.behind; memory = l.memory } in
    let so : Begins c.args.pages c.args.is_open now l.made first p l.current page bytes =
    record { pass = c.quiet_steps_pass.ensures; same = l.invariant.current; shows = l.invariant.before_shows; of = c.in-Some.ensures.page; are = c.page_from-bytes.ensures; goes = l.invariant.goes } in
    let t = c.touch.new in
    let same = c.touch.ensures.same c.if-not-touch.true in
    let stays : record p { registers = s } ≡ record { before = t.before; registers = t.current.registers; behind = t.behind; memory = t.memory } =
    λ i. record { before = sym same.1 i; registers = (sym same.0 i).registers; behind = sym same.2 i; memory = sym same.3 i } in
    subst (Goes c.args.pages c.args.is_open now (l.made + made) first) stays (gone c.args.pages c.args.is_open now l.made made first p l.current page bytes s so c.straight-stretch.ensures.goes)
