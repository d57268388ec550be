-- A machine in parts, and steps of the virtual processor between the others.
use Rattle.std.proofs.Common.{◌≡◌, ℕ, zero, suc, ◌<◌, ◌+◌, ◌-◌, ◌++◌, Bool, not, ◌&&◌, List, [], ◌∷◌, length, map, set, get_or, Option, Some, IfSome, Ok, replicate, take, drop, refl, sym, ap, ◌∙◌, subst, arith}
use Rattle.std.proofs.lemmas.List.{length-map}
use Rattle.base_words.specs.declared.exception.Use.TheVariants.{Fetch}
use Rattle.base_words.specs.declared.ids.VcpuId.{VcpuId}
use Rattle.base_words.specs.declared.regs.Regs.{Regs}
use Rattle.base_words.specs.declared.effect.Request.{Request}
use Rattle.base_words.specs.declared.events.OwnEvent.TheVariants.{Step}
use Rattle.base_words.specs.Memory.{with_word}
use Rattle.base_words.specs.Place.{AddressSpace}
use Rattle.private_machine.specs.declared.vcpu.Vcpu.{Vcpu}
use Rattle.private_machine.specs.Vcpu.{no_vcpu, space_of, ticking, with_registers}
use Rattle.private_machine.specs.Showing.{shown_by}
use Rattle.private_machine.specs.Ticking.{ticking_often}
use Rattle.private_machine.specs.Links.{line_of, unlinked, unlinked_others, word_offset, written}
use Rattle.private_machine.specs.OwnStep.{own_step}
use Rattle.private_machine.specs.PrivateMachine.{PrivateMachine, vcpu, on_vcpu, left, is_open}
use Rattle.private_machine.specs.PrivateRun.{private_run}
use Rattle.private_machine.specs.RegisterPage.{redirected}
use Rattle.guest_devs.specs.Quiet.{AreQuiet}
use Rattle.page_ops.specs.Pages.{Goes as GoesOn, IsPlain, StopsAt}
use Rattle.page_ops.specs.declared.stretch.Stop.{Stop}
use Rattle.flat_machine.specs.declared.window.KeptPage.{KeptPage}
use Rattle.flat_machine.specs.Attempts.{requested}
use Rattle.flat_machine.specs.Parts.{Parts, put_together, Answers, Went, MayGo, Goes, GoesAt}
use Rattle.flat_machine.specs.Stretches.{Asks, IsOfMemory, IsStop, ShowsPage}
use Rattle.flat_machine.specs.Windows.{IsPageOf, Keeps}
use Rattle.flat_machine.proofs.PlainLemmas.{plain-step, memory-step}
use Rattle.flat_machine.proofs.StretchLemmas.{TicksStay, page-shown, stop-asks, ticks-stay}
use Rattle.flat_machine.proofs.WindowLemmas.{QuietPass, keeps-left, quiet-after, quiet-less, running-after, run-again}

-- ---- a list in parts

at-front : (xs ys : List Vcpu) (x : Vcpu) → get_or (xs ++ (x ∷ ys)) (length xs) no_vcpu ≡ x
at-front [] ys x = refl
at-front (z ∷ xs) ys x = at-front xs ys x

set-front : (xs ys : List Vcpu) (x y : Vcpu) → set (xs ++ (x ∷ ys)) (length xs) y ≡ xs ++ (y ∷ ys)
set-front [] ys x y = refl
set-front (z ∷ xs) ys x y = ap (λ cs. z ∷ cs) (set-front xs ys x y)

map-parts : {B : Type 0} (f : Vcpu → B) (xs ys : List Vcpu) → map f (xs ++ ys) ≡ map f xs ++ map f ys
map-parts f [] ys = refl
map-parts f (x ∷ xs) ys = ap (λ cs. f x ∷ cs) (map-parts f xs ys)

below-parts : (xs ys : List Vcpu) (x : Vcpu) → length xs < length (xs ++ (x ∷ ys))
below-parts [] ys x = omega arith
below-parts (z ∷ xs) ys x = let less = below-parts xs ys x in omega (arith, less)

-- ---- a machine in parts

pub vcpu-parts : (m : PrivateMachine) (c : Vcpu) (p : Parts) (v : ℕ) → v ≡ length p.before → vcpu (put_together m c p) v ≡ with_registers p.registers c
vcpu-parts m c p v at = ap (vcpu (put_together m c p)) at ∙ at-front p.before p.behind (with_registers p.registers c)

pub there-parts : (m : PrivateMachine) (c : Vcpu) (p : Parts) (v : ℕ) → v ≡ length p.before → v < length (put_together m c p).vcpus
there-parts m c p v at = let below = below-parts p.before p.behind (with_registers p.registers c) in omega (arith, below, at)

on-parts : (m : PrivateMachine) (c : Vcpu) (p : Parts) (f : Vcpu → Vcpu) → on_vcpu (put_together m c p) (length p.before) f ≡ record m { memory = p.memory; vcpus = p.before ++ (f (with_registers p.registers c) ∷ p.behind) }
on-parts m c p f =
    let x = with_registers p.registers c in
    ap (λ (y : Vcpu). record m { memory = p.memory; vcpus = set (p.before ++ (x ∷ p.behind)) (length p.before) (f y) }) (at-front p.before p.behind x)
    ∙ ap (λ (cs : List Vcpu). record m { memory = p.memory; vcpus = cs }) (set-front p.before p.behind x (f x))

pub left-parts : (m : PrivateMachine) (c : Vcpu) (p : Parts) (r : Regs) → left (put_together m c p) (length p.before) r ≡ put_together m c (record p { registers = r })
left-parts m c p r = on-parts m c p (with_registers r)

tick-parts : (m : PrivateMachine) (c : Vcpu) (p : Parts) (v : ℕ) → v ≡ length p.before → on_vcpu (put_together m c p) v ticking ≡ put_together m (ticking c) p
tick-parts m c p v at = ap (λ (n : ℕ). on_vcpu (put_together m c p) n ticking) at ∙ on-parts m c p ticking

-- a store into a line unlinks it before and behind
others-parts : (line : ℕ) (xs ys : List Vcpu) (x : Vcpu) → unlinked_others line (length xs) (xs ++ (x ∷ ys)) ≡ map (unlinked line) xs ++ (x ∷ map (unlinked line) ys)
others-parts line xs ys x =
    let fs = map (unlinked line) xs in
    let gs = map (unlinked line) ys in
    ap (λ (cs : List Vcpu). set cs (length xs) (get_or (xs ++ (x ∷ ys)) (length xs) no_vcpu)) (map-parts (unlinked line) xs (x ∷ ys))
    ∙ ap (λ (c : Vcpu). set (fs ++ (unlinked line x ∷ gs)) (length xs) c) (at-front xs ys x)
    ∙ ap (λ (n : ℕ). set (fs ++ (unlinked line x ∷ gs)) n x) (sym (length-map xs (unlinked line)))
    ∙ set-front fs gs (unlinked line x) x

pub written-parts : (m : PrivateMachine) (c : Vcpu) (p : Parts) (offset word : ℕ) → written (put_together m c p) (length p.before) offset word
    ≡ put_together m c (record p { before = map (unlinked (line_of offset)) p.before; behind = map (unlinked (line_of offset)) p.behind; memory = with_word p.memory (word_offset offset) word })
written-parts m c p offset word =
    ap (λ (cs : List Vcpu). record m { memory = with_word p.memory (word_offset offset) word; vcpus = cs }) (others-parts (line_of offset) p.before p.behind (with_registers p.registers c))

-- ---- ticks

pub space-often : (n : ℕ) (c : Vcpu) → space_of (ticking_often n c) ≡ space_of c
space-often zero c = refl
space-often (suc n) c = space-often n c

-- ticks don't look at registers
pub tick-swap : (n : ℕ) (r : Regs) (c : Vcpu) → ticking_often n (with_registers r c) ≡ with_registers r (ticking_often n c)
tick-swap zero r c = refl
tick-swap (suc n) r c = ap ticking (tick-swap n r c)

-- ---- one step more

more : QuietPass → (v : VcpuId) (quiet made : ℕ) (from k n : PrivateMachine) → made < quiet → v.0 < length n.vcpus → Went v quiet made from k → Keeps k v.0 n → own_step k v.0 ≡ on_vcpu n v.0 ticking → Went v quiet (suc made) from (on_vcpu n v.0 ticking)
more pass v quiet made from k n less there went keeps step = record {
  run = subst (λ (j : ℕ). on_vcpu n v.0 ticking ≡ private_run from (replicate j (Step v))) (let next : made + 1 ≡ suc made = omega arith in next)
      (sym (run-again from made (Step v) ∙ ap (λ (w : PrivateMachine). own_step w v.0) (sym went.run) ∙ step));
  quiet = subst (λ (rest : ℕ). AreQuiet rest v.0 (on_vcpu n v.0 ticking).vcpus n.devices) (let next : quiet - made - 1 ≡ quiet - suc made = omega arith in next) (quiet-after pass (quiet - made) v.0 k n there keeps went.quiet);
  running = running-after k n v.0 there keeps went.running;
}

-- ---- the steps of the one between

-- none
pub goes-none : (pages : ℕ) (opens : Bool) (c : Vcpu) (p : Parts) → Goes pages opens c zero p p
goes-none pages opens c p m v quiet at few may = record {
  run = refl;
  quiet = subst (λ (rest : ℕ). AreQuiet rest v.0 (put_together m c p).vcpus m.devices) (let same : quiet ≡ quiet - 0 = omega arith in same) may.quiet;
  running = may.running;
}

-- a page from which it fetches, and its bytes
pub record Fetches (pages : ℕ) (c : Vcpu) (p : Parts) (page : KeptPage) (bytes : List ℕ) : Type 0 where
  pub of : IsPageOf Fetch (space_of c) pages page
  pub are : bytes ≡ take 4096 (drop page.start p.memory)

-- the page is that of the machine
page-there : (pages n v : ℕ) (m : PrivateMachine) (c : Vcpu) (p : Parts) (page : KeptPage) (bytes : List ℕ) → v ≡ length p.before → m.pages ≡ pages → Fetches pages c p page bytes → IsPageOf Fetch (space_of (vcpu (put_together m (ticking_often n c) p) v)) m.pages page
page-there pages n v m c p page bytes at many f =
    let space : space_of c ≡ space_of (vcpu (put_together m (ticking_often n c) p) v) = sym (ap space_of (vcpu-parts m (ticking_often n c) p v at) ∙ space-often n c) in
    subst (λ (k : ℕ). IsPageOf Fetch (space_of (vcpu (put_together m (ticking_often n c) p) v)) k page) (sym many) (subst (λ (s : AddressSpace). IsPageOf Fetch s pages page) space f.of)

shown-there : (pages n : ℕ) (m : PrivateMachine) (c : Vcpu) (p : Parts) (page : KeptPage) (bytes : List ℕ) → Fetches pages c p page bytes → ShowsPage (put_together m (ticking_often n c) p) page bytes
shown-there pages n m c p page bytes f = subst (ShowsPage (put_together m (ticking_often n c) p) page) (sym f.are) (page-shown (put_together m (ticking_often n c) p) page)

-- a plain one more
goes-plain : QuietPass → (pages : ℕ) (opens : Bool) (c : Vcpu) (made : ℕ) (first p : Parts) (page : KeptPage) (bytes : List ℕ) (s : Regs) → length p.before ≡ length first.before → Fetches pages c p page bytes → Goes pages opens c made first p → IsPlain bytes page.number p.registers s → Goes pages opens c (suc made) first (record p { registers = s })
goes-plain pass pages opens c made first p page bytes s long f goes plain m v quiet at few may =
    let k : PrivateMachine = put_together m (ticking_often made c) p in
    let here : v.0 ≡ length p.before = at ∙ sym long in
    let went = goes m v quiet at (omega (arith, few)) may in
    let there = there-parts m (ticking_often made c) p v.0 here in
    let is = vcpu-parts m (ticking_often made c) p v.0 here in
    let step = plain-step k v.0 page bytes s there went.running (quiet-less (quiet - made) 1 v.0 k.vcpus k.devices (omega (arith, few)) went.quiet) (page-there pages made v.0 m c p page bytes here may.pages f) (shown-there pages made m c p page bytes f)
    (subst (λ (r : Regs). IsPlain bytes page.number r s) (sym (ap (λ (x : Vcpu). x.registers) is)) plain) in
    let q : Parts = record p { registers = s } in
    let left-is : left k v.0 s ≡ put_together m (ticking_often made c) q = ap (λ (n : ℕ). left k n s) here ∙ left-parts m (ticking_often made c) p s in
    let after : on_vcpu (left k v.0 s) v.0 ticking ≡ put_together m (ticking_often (suc made) c) q = ap (λ (w : PrivateMachine). on_vcpu w v.0 ticking) left-is ∙ tick-parts m (ticking_often made c) q v.0 here in
    let left-there : v.0 < length (left k v.0 s).vcpus = subst (λ (w : PrivateMachine). v.0 < length w.vcpus) (sym left-is) (there-parts m (ticking_often made c) q v.0 here) in
    subst (Went v quiet (suc made) (put_together m c first)) after (more pass v quiet made (put_together m c first) k (left k v.0 s) (omega (arith, few)) left-there went (keeps-left k v.0 s there) step)

-- so many plain ones more
pub goes-straight : QuietPass → (pages : ℕ) (opens : Bool) (c : Vcpu) (made n : ℕ) (first p : Parts) (page : KeptPage) (bytes : List ℕ) (s : Regs) → length p.before ≡ length first.before → Fetches pages c p page bytes → Goes pages opens c made first p → GoesOn bytes page.number n p.registers s → Goes pages opens c (made + n) first (record p { registers = s })
goes-straight pass pages opens c made zero first p page bytes s long f goes on =
    subst (λ (k : ℕ). Goes pages opens c k first (record p { registers = s })) (let same : made ≡ made + zero = omega arith in same) (subst (λ (r : Regs). Goes pages opens c made first (record p { registers = r })) (sym on) goes)
goes-straight pass pages opens c made (suc n) first p page bytes s long f goes on =
    let mid : Parts = record p { registers = on.0 } in
    let before : Goes pages opens c (made + n) first mid = goes-straight pass pages opens c made n first p page bytes on.0 long f goes on.1 in
    let there : Fetches pages c mid page bytes = record { of = f.of; are = f.are } in
    subst (λ (k : ℕ). Goes pages opens c k first (record p { registers = s })) (let same : suc (made + n) ≡ made + suc n = omega arith in same) (goes-plain pass pages opens c (made + n) first mid page bytes s long there before on.2)

-- a machine whose virtual processor has other registers alone keeps all else
keeps-parts : (m : PrivateMachine) (c : Vcpu) (p q : Parts) (v : ℕ) → v ≡ length p.before → v ≡ length q.before → Keeps (put_together m c p) v (put_together m c q)
keeps-parts m c p q v at then-at =
    let a = vcpu-parts m c p v at in
    let b = vcpu-parts m c q v then-at in
    record {
      cp0 = ap (λ (x : Vcpu). x.cp0) b ∙ sym (ap (λ (x : Vcpu). x.cp0) a);
      tlb = ap (λ (x : Vcpu). x.tlb) b ∙ sym (ap (λ (x : Vcpu). x.tlb) a);
      steps = ap (λ (x : Vcpu). x.steps) b ∙ sym (ap (λ (x : Vcpu). x.steps) a);
      halted = ap (λ (x : Vcpu). x.halted) b ∙ sym (ap (λ (x : Vcpu). x.halted) a);
      devices = refl;
      pages = refl;
    }

-- whether the register page is open stays
opens-parts : (m : PrivateMachine) (c : Vcpu) (n v : ℕ) (p q : Parts) → v ≡ length p.before → v ≡ length q.before → is_open (put_together m (ticking_often n c) q) v ≡ is_open (put_together m c p) v
opens-parts m c n v p q at then-at =
    let user : (s : AddressSpace) → Bool = λ s. s.user in
    let same : space_of (vcpu (put_together m (ticking_often n c) q) v) ≡ space_of (vcpu (put_together m c p) v) = ap space_of (vcpu-parts m (ticking_often n c) q v then-at) ∙ space-often n c ∙ sym (ap space_of (vcpu-parts m c p v at)) in
    λ i. m.register_page && not (same i).user

-- and one that touches memory
pub goes-touched : QuietPass → (pages : ℕ) (opens : Bool) (c : Vcpu) (made : ℕ) (first p q : Parts) (page : KeptPage) (bytes : List ℕ) (stop : Stop) (request asked : Request) → length p.before ≡ length first.before → length q.before ≡ length first.before → Fetches pages c p page bytes → Goes pages opens c made first p
    → StopsAt bytes page.number p.registers stop → stop.asks ≡ Some request → asked ≡ redirected opens request → IsOfMemory asked → Answers pages (space_of c) asked p q → Goes pages opens c (made + 1) first q
goes-touched pass pages opens c made first p q page bytes stop request asked long after-long f goes stops asks-it is memory answers m v quiet at few may =
    let x : Vcpu = ticking_often made c in
    let k : PrivateMachine = put_together m x p in
    let n : PrivateMachine = put_together m x q in
    let here : v.0 ≡ length p.before = at ∙ sym long in
    let then-here : v.0 ≡ length q.before = at ∙ sym after-long in
    let went = goes m v quiet at (omega (arith, few)) may in
    let regs = ap (λ (y : Vcpu). y.registers) (vcpu-parts m x p v.0 here) in
    let stop-there : IsStop k v.0 stop = stop-asks k v.0 page bytes stop (page-there pages made v.0 m c p page bytes here may.pages f) f.are (subst (λ (r : Regs). StopsAt bytes page.number r stop) (sym regs) stops) in
    let asking : Asks k v.0 stop.word request = subst (λ (o : Option Request). IfSome o (Asks k v.0 stop.word)) asks-it stop-there in
    let opens-so : is_open k v.0 ≡ opens = opens-parts m c made v.0 first p at here ∙ may.opens in
    let so : asked ≡ redirected (is_open k v.0) request = is ∙ ap (λ b. redirected b request) (sym opens-so) in
    let done : requested k v.0 asked ≡ Ok n = ap (λ (w : ℕ). requested k w asked) here ∙ answers m x may.pages (space-often made c) in
    let step = memory-step k v.0 stop.word request n went.running (quiet-less (quiet - made) 1 v.0 k.vcpus k.devices (omega (arith, few)) went.quiet) asking (subst IsOfMemory so memory) (subst (λ (r : Request). requested k v.0 r ≡ Ok n) so done) in
    let next : suc made ≡ made + 1 = omega arith in
    subst (λ (j : ℕ). Went v quiet j (put_together m c first) (put_together m (ticking_often j c) q)) next
    (subst (Went v quiet (suc made) (put_together m c first)) (tick-parts m x q v.0 then-here) (more pass v quiet made (put_together m c first) k n (omega (arith, few)) (there-parts m x q v.0 then-here) went (keeps-parts m x p q v.0 here then-here) step))

-- ---- put together again

one-of : (cs : List Vcpu) (c : Vcpu) → length cs ≡ 1 → c ≡ get_or cs 0 c → cs ≡ c ∷ []
one-of [] c n is = cc
one-of (x ∷ []) c n is = ap (λ (y : Vcpu). y ∷ []) (sym is)
one-of (x ∷ (y ∷ cs)) c n is = absurd (omega arith)

-- how virtual processors were taken apart, and what became of them
pub record Apart (at n : ℕ) (vcpus before rest one behind before' behind' : List Vcpu) (old mid : Vcpu) : Type 0 where
  pub parts : vcpus ≡ before ++ rest
  pub more : rest ≡ one ++ behind
  pub single : length one ≡ 1
  pub is : old ≡ get_or one 0 old
  pub long : length before ≡ at
  pub same : mid ≡ with_registers mid.registers old
  pub before_shows : map shown_by before' ≡ map shown_by before
  pub behind_shows : map shown_by behind' ≡ map shown_by behind

all-of : (at n : ℕ) (vcpus before rest one behind before' behind' : List Vcpu) (old mid : Vcpu) → Apart at n vcpus before rest one behind before' behind' old mid → vcpus ≡ before ++ (old ∷ behind)
all-of at n vcpus before rest one behind before' behind' old mid a = a.parts ∙ ap (λ (l : List Vcpu). before ++ l) (a.more ∙ ap (λ (l : List Vcpu). l ++ behind) (one-of one old a.single a.is))

last-of : (at n : ℕ) (vcpus before rest one behind before' behind' : List Vcpu) (old mid : Vcpu) → Apart at n vcpus before rest one behind before' behind' old mid → before' ++ (ticking_often n mid ∷ behind') ≡ before' ++ (set one 0 (ticking_often n mid) ++ behind')
last-of at n vcpus before rest one behind before' behind' old mid a = ap (λ (l : List Vcpu). before' ++ (set l 0 (ticking_often n mid) ++ behind')) (sym (one-of one old a.single a.is))

pub goes-at : (pages : ℕ) (opens : Bool) (at n : ℕ) (vcpus before rest one behind before' behind' : List Vcpu) (old mid : Vcpu) (memory memory' : List ℕ) → Apart at n vcpus before rest one behind before' behind' old mid
    → Goes pages opens old n (record { before = before; registers = old.registers; behind = behind; memory = memory }) (record { before = before'; registers = mid.registers; behind = behind'; memory = memory' })
    → GoesAt pages opens at n vcpus memory (before' ++ (set one 0 (ticking_often n mid) ++ behind')) memory'
goes-at pages opens at n vcpus before rest one behind before' behind' old mid memory memory' a goes m v quiet here few may =
    let all = all-of at n vcpus before rest one behind before' behind' old mid a in
    let from : List Vcpu → PrivateMachine = λ cs. record m { memory = memory; vcpus = cs } in
    let to : List Vcpu → PrivateMachine = λ cs. record m { memory = memory'; vcpus = cs } in
    let went : Went v quiet n (from (before ++ (old ∷ behind))) (to (before' ++ (with_registers mid.registers (ticking_often n old) ∷ behind'))) = goes m v quiet (here ∙ sym a.long) few (subst (λ (cs : List Vcpu). MayGo v.0 quiet pages opens (from cs)) all may) in
    let ticked : with_registers mid.registers (ticking_often n old) ≡ ticking_often n mid = sym (tick-swap n mid.registers old) ∙ ap (ticking_often n) (sym a.same) in
    let last = ap (λ (c : Vcpu). before' ++ (c ∷ behind')) ticked ∙ last-of at n vcpus before rest one behind before' behind' old mid a in
    subst (λ (cs : List Vcpu). Went v quiet n (from cs) (to (before' ++ (set one 0 (ticking_often n mid) ++ behind')))) (sym all) (subst (λ (cs : List Vcpu). Went v quiet n (from (before ++ (old ∷ behind))) (to cs)) last went)

pub shows-at : TicksStay → (at n : ℕ) (vcpus before rest one behind before' behind' : List Vcpu) (old mid : Vcpu) → Apart at n vcpus before rest one behind before' behind' old mid → map shown_by (before' ++ (set one 0 (ticking_often n mid) ++ behind')) ≡ map shown_by vcpus
shows-at law at n vcpus before rest one behind before' behind' old mid a =
    let here : shown_by (ticking_often n mid) ≡ shown_by old = ticks-stay law n mid ∙ ap shown_by a.same in
    ap (map shown_by) (sym (last-of at n vcpus before rest one behind before' behind' old mid a))
    ∙ map-parts shown_by before' (ticking_often n mid ∷ behind')
    ∙ (λ i. a.before_shows i ++ (here i ∷ a.behind_shows i))
    ∙ sym (map-parts shown_by before (old ∷ behind))
    ∙ sym (ap (map shown_by) (all-of at n vcpus before rest one behind before' behind' old mid a))

pub space-at : (at n : ℕ) (vcpus before rest one behind before' behind' : List Vcpu) (old mid : Vcpu) → Apart at n vcpus before rest one behind before' behind' old mid → space_of (get_or (before' ++ (set one 0 (ticking_often n mid) ++ behind')) at no_vcpu) ≡ space_of old
space-at at n vcpus before rest one behind before' behind' old mid a =
    let long : at ≡ length before' = sym a.long ∙ sym (length-map before shown_by) ∙ sym (ap length a.before_shows) ∙ length-map before' shown_by in
    ap (λ (cs : List Vcpu). space_of (get_or cs at no_vcpu)) (sym (last-of at n vcpus before rest one behind before' behind' old mid a))
    ∙ ap (λ (k : ℕ). space_of (get_or (before' ++ (ticking_often n mid ∷ behind')) k no_vcpu)) long
    ∙ ap space_of (at-front before' behind' (ticking_often n mid))
    ∙ space-often n mid ∙ ap space_of a.same
