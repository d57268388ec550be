-- What a stretch of plain instructions goes by, and what ends it.
use Rattle.std.proofs.Common.{◌≡◌, ℕ, zero, suc, ◌≤◌, ◌+◌, ◌-◌, ◌*◌, ◌^◌, List, take, drop, replicate, Option, Some, None, Ok, IfSome, slice_index, refl, sym, ap, ◌∙◌, subst, arith}
use Rattle.std.proofs.lemmas.List.{get_or-take, get_or-drop}
use Rattle.byteorder.specs.Endian.{big_from}
use Rattle.base_words.specs.declared.exception.Use.TheVariants.{Fetch}
use Rattle.base_words.specs.declared.events.OwnEvent.{OwnEvent}
use Rattle.private_machine.specs.declared.vcpu.Vcpu.{Vcpu}
use Rattle.private_machine.specs.Vcpu.{space_of, ticking}
use Rattle.private_machine.specs.Ticking.{ticking_often}
use Rattle.private_machine.specs.Showing.{shown_by}
use Rattle.private_machine.specs.PrivateMachine.{PrivateMachine, vcpu}
use Rattle.private_machine.specs.PrivateRun.{own_event, private_run}
use Rattle.flat_machine.specs.declared.window.KeptPage.{KeptPage}
use Rattle.page_ops.specs.Pages.{StopsAt, effect_in}
use Rattle.page_ops.specs.Ops.{Runs}
use Rattle.page_ops.specs.declared.stretch.Stop.{Stop}
use Rattle.base_words.specs.declared.effect.Request.{Request}
use Rattle.base_words.specs.Instruction.{effect}
use Rattle.base_words.specs.OpcodeMap.{decoded}
use Rattle.mips_alu.specs.Execution.{Executes}
use Rattle.private_machine.specs.OwnStep.{fetched}
use Rattle.flat_machine.specs.Windows.{IsPageOf}
use Rattle.flat_machine.specs.Stretches.{ShowsPage, Asks, IsStop}
use Rattle.flat_machine.proofs.PlainLemmas.{plain-fetched}

-- ---- a page's bytes are those of memory

bytes-within : (n o start long : ℕ) (xs : List ℕ) → o + n ≤ long → big_from o n (take long (drop start xs)) ≡ big_from (start + o) n xs
bytes-within zero o start long xs fits = refl
bytes-within (suc n) o start long xs fits =
    let here : slice_index (take long (drop start xs)) o ≡ slice_index xs (start + o) = get_or-take long (drop start xs) o 0 (omega (arith, fits)) ∙ get_or-drop start xs o 0 in
    let next : start + suc o ≡ suc (start + o) = omega arith in
    ap (λ (b : ℕ). b * 256 ^ n + big_from (suc o) n (take long (drop start xs))) here
    ∙ ap (λ (r : ℕ). slice_index xs (start + o) * 256 ^ n + r) (bytes-within n (suc o) start long xs (omega (arith, fits)) ∙ ap (λ (k : ℕ). big_from k n xs) next)

pub page-shown : (m : PrivateMachine) (page : KeptPage) → ShowsPage m page (take 4096 (drop page.start m.memory))
page-shown m page offset lt aligned = bytes-within 4 offset page.start 4096 m.memory (omega (arith, lt, aligned))

-- ---- so many ticks

-- the law of mips_retire
abbrev pub TicksStay : Type 0
TicksStay = (c : Vcpu) → shown_by (ticking c) ≡ shown_by c

pub ticks-stay : TicksStay → (n : ℕ) (c : Vcpu) → shown_by (ticking_often n c) ≡ shown_by c
ticks-stay law zero c = refl
ticks-stay law (suc n) c = law (ticking_often n c) ∙ ticks-stay law n c

-- ---- so many events more

pub run-more : (m : PrivateMachine) (a b : ℕ) (e : OwnEvent) → private_run m (replicate (a + b) e) ≡ private_run (private_run m (replicate a e)) (replicate b e)
run-more m zero b e = ap (λ (k : ℕ). private_run m (replicate k e)) (let same : zero + b ≡ b = omega arith in same)
run-more m (suc a) b e = ap (λ (k : ℕ). private_run m (replicate k e)) (let same : suc a + b ≡ suc (a + b) = omega arith in same) ∙ run-more (own_event m e) a b e

-- ---- what ended a stretch

-- it is the next instruction
pub stop-asks : (m : PrivateMachine) (v : ℕ) (page : KeptPage) (bytes : List ℕ) (stop : Stop) → IsPageOf Fetch (space_of (vcpu m v)) m.pages page → bytes ≡ take 4096 (drop page.start m.memory) → StopsAt bytes page.number (vcpu m v).registers stop → IsStop m v stop
stop-asks m v page bytes stop of are stops =
    let shows : ShowsPage m page bytes = subst (ShowsPage m page) (sym are) (page-shown m page) in
    let fetched-word : fetched m v ≡ Ok stop.word = plain-fetched m v page bytes of shows stops.there ∙ ap Ok (sym stops.word) in
    by stop.asks refl fetched-word
  where
    by : (o : Option Request) → stop.asks ≡ o → fetched m v ≡ Ok stop.word → IfSome o (Asks m v stop.word)
    by None is there = tt
    by (Some request) is there = record {
      fetched = there;
      waits = subst (λ (w : ℕ). Executes (effect (decoded w) (vcpu m v).registers) (vcpu m v).registers (vcpu m v).registers (Ok request)) (sym stops.word)
          (subst (Runs (effect_in bytes (vcpu m v).registers) (vcpu m v).registers (vcpu m v).registers) is stops.runs);
    }
