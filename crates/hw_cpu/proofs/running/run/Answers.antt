-- A stretch, and then an access, are so many steps more.
use Rattle.std.proofs.Common.{◌≡◌, ◌<◌, ◌≤◌, ◌+◌, ◌-◌, IfSome, ◌/◌, ◌&&◌, ℕ, false, true, not, Bool, List, Option, Some, is_some, refl, sym, ap, ◌∙◌, subst, arith}
use Rattle.base_words.specs.declared.regs.Regs.{Regs}
use Rattle.base_words.specs.declared.effect.Request.{Request}
use Rattle.base_words.specs.declared.exception.Use.TheVariants.{Fetch as fetches, Load as loads, Store as stores}
use Rattle.private_machine.specs.declared.register_page.RegBlock.{RegBlock}
use Rattle.private_machine.specs.RegisterPage.{redirected}
use Rattle.private_machine.specs.Backing.{Held}
use Rattle.private_machine.specs.Reaching.{Sight, Reached as Place, is_open_to}
use Rattle.hw_tlb.specs.Tlb.{halves}
use Rattle.private_machine.specs.Serving.{AllServe}
use Rattle.page_ops.specs.Pages.{Goes, StopsAt, word_in}
use Rattle.page_ops.specs.declared.stretch.Stop.{Stop}
use Rattle.hw_cpu.specs.declared.reaching.KeptPage.{KeptPage}
use Rattle.hw_cpu.specs.declared.reaching.Reached.{Reached}
use Rattle.hw_cpu.specs.Site.{Site}
use Rattle.hw_cpu.specs.Steps.{sight_of, with_page, place_of}
use Rattle.hw_cpu.specs.KeptPages.{IsKeptPage, IsQuietPage}
use Rattle.hw_cpu.specs.Runs.{IsPlainAccess, Runs, RunsOpen, Touched, Touches}
use Rattle.hw_cpu.proofs.RunLemmas.{Unprivileged, Fetches, goes-many, touches-one, kept-fetches}
use Rattle.hw_cpu.proofs.running.run.Goals as goal

-- what a stretch goes by
record Stretches (unnoted : ℕ → ℕ → Bool → Bool) (x : Sight) (is_open : Bool) (v before : ℕ) (first : Regs) (start : Held) (regs : Regs) (held : Held) (last : Option KeptPage) (at : Reached) (bytes : List ℕ) : Type 0 where
  pub law : Unprivileged
  pub quiet : x.line ≡ false
  pub ran : RunsOpen unnoted before x is_open v first start regs held
  pub is : last ≡ Some (record { number = regs.pc / 4096; at = at })
  pub kept : IsKeptPage fetches x last
  pub fetched : (block : Option RegBlock) → Fetches (with_page block x) held (regs.pc / 4096) bytes (place_of at)

gone : (unnoted : ℕ → ℕ → Bool → Bool) (x : Sight) (is_open : Bool) (v before n : ℕ) (first : Regs) (start : Held) (regs s : Regs) (held : Held) (last : Option KeptPage) (at : Reached) (bytes : List ℕ) → Stretches unnoted x is_open v before first start regs held last at bytes → Goes bytes (regs.pc / 4096) n regs s → RunsOpen unnoted (before + n) x is_open v first start s held
gone unnoted x is_open v before n first start regs s held last at bytes so goes block opens =
    goes-many so.law unnoted (with_page block x) v start held (regs.pc / 4096) bytes (place_of at) before n first regs s so.quiet (so.fetched block) (so.ran block opens) goes

-- an access reaches what it does, whatever register page there is
paged : (unnoted : ℕ → ℕ → Bool → Bool) (x : Sight) (v word : ℕ) (fetched : Place) (block : Option RegBlock) (q : Request) (s : Regs) (held : Held) (t : Regs) (left : Held) → Touched unnoted x v word fetched block q s held t left → Touched unnoted (with_page block x) v word fetched block q s held t left
paged unnoted x v word fetched block q s held t left it = record { access = it.access; makes = it.makes; quiet = it.quiet }

touched : (unnoted : ℕ → ℕ → Bool → Bool) (x : Sight) (is_open : Bool) (v before n : ℕ) (first : Regs) (start : Held) (regs s : Regs) (held : Held) (last : Option KeptPage) (at : Reached) (bytes : List ℕ) (stop : Stop) (request asked : Request) (t : Regs) (left : Held) → Stretches unnoted x is_open v before first start regs held last at bytes → Goes bytes (regs.pc / 4096) n regs s
    → StopsAt bytes (regs.pc / 4096) s stop → stop.asks ≡ Some request → asked ≡ redirected is_open request → IsPlainAccess asked → Touches unnoted x v asked s held t left → RunsOpen unnoted (before + n + 1) x is_open v first start t left
touched unnoted x is_open v before n first start regs s held last at bytes stop request asked t left so goes stops asks-it is memory touches block opens =
    let y : Sight = with_page block x in
    let same : asked ≡ redirected (is_open_to y) request = is ∙ ap (λ b. redirected b request) (sym opens) in
    touches-one so.law unnoted y v start held (regs.pc / 4096) bytes (place_of at) (before + n) first s stop request t left so.quiet (so.fetched block) (gone unnoted x is_open v before n first start regs s held last at bytes so goes block opens) stops asks-it
    (subst IsPlainAccess same memory) (subst (λ (q : Request). Touched unnoted y v (word_in bytes s) (place_of at) block q s held t left) same (paged unnoted x v (word_in bytes s) (place_of at) block asked s held t left (touches (word_in bytes s) (place_of at) block)))

pub returns-in_default-asks-clause-runs : goal.returns-in_default-asks-clause-runs
returns-in_default-asks-clause-runs g c =
    let unnoted : ℕ → ℕ → Bool → Bool = g.U.Unnoted.unnoted c.args.unnoted.now in
    let site : Site = g.B.Bus.site c.args.bus.now in
    let x : Sight = sight_of c.args.user c.args.asid false (halves c.args.tlb.now) site in
    let l = c.loop-made in
    let held = g.B.Bus.held l.bus in
    let kept : IsKeptPage fetches x c.fetch.new.last = subst (λ (s : Site). IsKeptPage fetches (sight_of c.args.user c.args.asid false (halves c.args.tlb.now) s) c.fetch.new.last) l.invariant.site c.fetch.ensures.last in
    let is = c.in-Some.ensures.kept in
    let so : Stretches unnoted x c.args.is_open site.stepping l.made c.args.regs.now (g.B.Bus.held c.args.bus.now) l.regs held c.fetch.new.last c.in-Some.at c.bytes-bytes.result.now =
    record { law = c.memory_words_are_unprivileged.ensures; quiet = refl; ran = l.invariant.runs; is = is; kept = kept; fetched = λ block. kept-fetches x block held c.fetch.new.last (l.regs.pc / 4096) c.in-Some.at c.bytes-bytes.result.now is kept c.bytes-bytes.ensures.bytes } in
    let made = c.straight-stretch.result.made in
    let s = c.straight-stretch.new.regs in
    gone unnoted x c.args.is_open site.stepping l.made made c.args.regs.now (g.B.Bus.held c.args.bus.now) l.regs s held c.fetch.new.last c.in-Some.at c.bytes-bytes.result.now so c.straight-stretch.ensures.goes

pub loop-made-preserved-in_default-stop : goal.loop-made-preserved-in_default-stop
loop-made-preserved-in_default-stop g c =
    let unnoted : ℕ → ℕ → Bool → Bool = g.U.Unnoted.unnoted c.args.unnoted.now in
    let site : Site = g.B.Bus.site c.args.bus.now in
    let x : Sight = sight_of c.args.user c.args.asid false (halves c.args.tlb.now) site in
    let l = c.loop-made in
    let held = g.B.Bus.held l.bus in
    let kept : IsKeptPage fetches x c.fetch.new.last = subst (λ (s : Site). IsKeptPage fetches (sight_of c.args.user c.args.asid false (halves c.args.tlb.now) s) c.fetch.new.last) l.invariant.site c.fetch.ensures.last in
    let is = c.in-Some.ensures.kept in
    let so : Stretches unnoted x c.args.is_open site.stepping l.made c.args.regs.now (g.B.Bus.held c.args.bus.now) l.regs held c.fetch.new.last c.in-Some.at c.bytes-bytes.result.now =
    record { law = c.memory_words_are_unprivileged.ensures; quiet = refl; ran = l.invariant.runs; is = is; kept = kept; fetched = λ block. kept-fetches x block held c.fetch.new.last (l.regs.pc / 4096) c.in-Some.at c.bytes-bytes.result.now is kept c.bytes-bytes.ensures.bytes } in
    let made = c.straight-stretch.result.made in
    let s = c.straight-stretch.new.regs in
    let few = c.straight-stretch.ensures.few in
    let more = c.loop-made-test.true in
    record {
      names = l.invariant.names;
      site = l.invariant.site;
      few = omega (arith, few, more);
      zero = c.straight-stretch.ensures.zero;
      serves = l.invariant.serves;
      last = kept;
      loaded = l.invariant.loaded;
      stored = l.invariant.stored;
      runs = gone unnoted x c.args.is_open site.stepping l.made made c.args.regs.now (g.B.Bus.held c.args.bus.now) l.regs s held c.fetch.new.last c.in-Some.at c.bytes-bytes.result.now so c.straight-stretch.ensures.goes;
    }

pub returns-then-not-touch_quietly-clause-runs : goal.returns-then-not-touch_quietly-clause-runs
returns-then-not-touch_quietly-clause-runs g c =
    let unnoted : ℕ → ℕ → Bool → Bool = g.U.Unnoted.unnoted c.args.unnoted.now in
    let site : Site = g.B.Bus.site c.args.bus.now in
    let x : Sight = sight_of c.args.user c.args.asid false (halves c.args.tlb.now) site in
    let l = c.loop-made in
    let held = g.B.Bus.held l.bus in
    let kept : IsKeptPage fetches x c.fetch.new.last = subst (λ (s : Site). IsKeptPage fetches (sight_of c.args.user c.args.asid false (halves c.args.tlb.now) s) c.fetch.new.last) l.invariant.site c.fetch.ensures.last in
    let is = c.in-Some.ensures.kept in
    let so : Stretches unnoted x c.args.is_open site.stepping l.made c.args.regs.now (g.B.Bus.held c.args.bus.now) l.regs held c.fetch.new.last c.in-Some.at c.bytes-bytes.result.now =
    record { law = c.memory_words_are_unprivileged.ensures; quiet = refl; ran = l.invariant.runs; is = is; kept = kept; fetched = λ block. kept-fetches x block held c.fetch.new.last (l.regs.pc / 4096) c.in-Some.at c.bytes-bytes.result.now is kept c.bytes-bytes.ensures.bytes } in
    let made = c.straight-stretch.result.made in
    let s = c.straight-stretch.new.regs in
    let t = c.touch_quietly.new.regs in
    let left = g.B.Bus.held c.touch_quietly.new.bus in
    let not-so = c.if-not-touch_quietly.true in
    let first = c.args.regs.now in
    let start = g.B.Bus.held c.args.bus.now in
    subst (λ (h : Held). RunsOpen unnoted (l.made + made) x c.args.is_open site.stepping first start t h) (sym (c.touch_quietly.ensures.held not-so))
    (subst (λ (r : Regs). RunsOpen unnoted (l.made + made) x c.args.is_open site.stepping first start r held) (sym (c.touch_quietly.ensures.regs not-so)) (gone unnoted x c.args.is_open site.stepping l.made made c.args.regs.now (g.B.Bus.held c.args.bus.now) l.regs s held c.fetch.new.last c.in-Some.at c.bytes-bytes.result.now so c.straight-stretch.ensures.goes))

pub loop-made-preserved : goal.loop-made-preserved
loop-made-preserved g c =
    let unnoted : ℕ → ℕ → Bool → Bool = g.U.Unnoted.unnoted c.args.unnoted.now in
    let site : Site = g.B.Bus.site c.args.bus.now in
    let x : Sight = sight_of c.args.user c.args.asid false (halves c.args.tlb.now) site in
    let l = c.loop-made in
    let held = g.B.Bus.held l.bus in
    let kept : IsKeptPage fetches x c.fetch.new.last = subst (λ (s : Site). IsKeptPage fetches (sight_of c.args.user c.args.asid false (halves c.args.tlb.now) s) c.fetch.new.last) l.invariant.site c.fetch.ensures.last in
    let is = c.in-Some.ensures.kept in
    let so : Stretches unnoted x c.args.is_open site.stepping l.made c.args.regs.now (g.B.Bus.held c.args.bus.now) l.regs held c.fetch.new.last c.in-Some.at c.bytes-bytes.result.now =
    record { law = c.memory_words_are_unprivileged.ensures; quiet = refl; ran = l.invariant.runs; is = is; kept = kept; fetched = λ block. kept-fetches x block held c.fetch.new.last (l.regs.pc / 4096) c.in-Some.at c.bytes-bytes.result.now is kept c.bytes-bytes.ensures.bytes } in
    let made = c.straight-stretch.result.made in
    let s = c.straight-stretch.new.regs in
    let t = c.touch_quietly.new.regs in
    let left = g.B.Bus.held c.touch_quietly.new.bus in
    let is-so = c.if-not-touch_quietly.false in
    let few = c.straight-stretch.ensures.few in
    let more = c.loop-made-test.true in
    let stop = c.in-Some-stop.stop in
    let stops : StopsAt c.bytes-bytes.result.now (l.regs.pc / 4096) s stop = subst (λ (o : Option Stop). IfSome o (StopsAt c.bytes-bytes.result.now (l.regs.pc / 4096) s)) c.in-Some-stop.is c.straight-stretch.ensures.stops in
    let before : made < c.args.most - l.made = subst (λ (o : Option Stop). IfSome o (λ z. made < c.args.most - l.made)) c.in-Some-stop.is c.straight-stretch.ensures.stops_before in
    let u = c.touch_quietly.ensures in
    record {
      names = u.names ∙ l.invariant.names;
      site = u.site ∙ l.invariant.site;
      few = omega (arith, before, more);
      zero = u.zero;
      serves = u.serves;
      last = kept;
      loaded = subst (λ (z : Site). IsQuietPage unnoted loads (sight_of c.args.user c.args.asid false (halves c.args.tlb.now) z) c.touch_quietly.new.loaded) l.invariant.site u.loaded;
      stored = subst (λ (z : Site). IsQuietPage unnoted stores (sight_of c.args.user c.args.asid false (halves c.args.tlb.now) z) c.touch_quietly.new.stored) l.invariant.site u.stored;
      runs = touched unnoted x c.args.is_open site.stepping l.made made c.args.regs.now (g.B.Bus.held c.args.bus.now) l.regs s held c.fetch.new.last c.in-Some.at c.bytes-bytes.result.now stop c.in-Some-asks.request c.redirected-asked.result t left so c.straight-stretch.ensures.goes
          stops (ap (λ (z : Stop). z.asks) (sym c.in-Some-stop.stop-is) ∙ c.in-Some-asks.is) (c.redirected-asked.ensures ∙ ap (redirected c.args.is_open) c.in-Some-asks.request-is) (u.memory is-so) (subst (λ (z : Site). Touches unnoted (sight_of c.args.user c.args.asid false (halves c.args.tlb.now) z) z.stepping c.redirected-asked.result s held t left) l.invariant.site (u.touches is-so));
    }
