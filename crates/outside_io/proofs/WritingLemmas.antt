-- How an output grows.
use Rattle.std.proofs.Common.{◌≡◌, ℕ, ◌≤◌, List, [], ◌++◌, Option, Some, None, option_map, Result, Ok, Err, refl, ap, sym, ◌∙◌, append_assoc, arith}
use Rattle.std.proofs.lemmas.List.{append-nil}
use Rattle.base_words.specs.Counts.{Rose}
use Rattle.outside_io.specs.declared.sink.SinkFault.{SinkFault}
use Rattle.outside_io.specs.declared.sink.SinkFault.TheVariants.{Failed, Memory}
use Rattle.outside_io.specs.Writing.{SinkView, Grows, GrowsWithin, Took, Starves, Puts, Writes, Finishes}

-- a count that rose since a later moment rose since an earlier one
rose_later : {before between now : ℕ} → before ≤ between → Rose between now → Rose before now
rose_later le rose = omega (arith, le, rose)

-- an output that stays grows by nothing
Grows-nothing_of : (held : Option (List ℕ)) → held ≡ option_map (λ bytes. bytes ++ []) held
Grows-nothing_of None = refl
Grows-nothing_of (Some bytes) = ap Some (sym (append-nil bytes))

pub Grows-nothing : (old new : SinkView) → new.holds ≡ old.holds → Grows old new []
Grows-nothing old new same = same ∙ Grows-nothing_of old.holds

-- an output that stays has grown within any text
pub GrowsWithin-nothing : (old new : SinkView) (text : List ℕ) → new.holds ≡ old.holds → GrowsWithin old new text
GrowsWithin-nothing old new text same = record { part = []; rest = text; prefix = refl; grows = Grows-nothing old new same }

-- growth by nothing, and then by a text and another
Grows-twice_of : (held : Option (List ℕ)) (first second : List ℕ) → option_map (λ bytes. bytes ++ second) (option_map (λ bytes. bytes ++ first) held) ≡ option_map (λ bytes. bytes ++ (first ++ second)) held
Grows-twice_of None first second = refl
Grows-twice_of (Some bytes) first second = ap Some (append_assoc bytes first second)

pub Grows-twice : (a b c : SinkView) (first second : List ℕ) → Grows a b first → Grows b c second → Grows a c (first ++ second)
Grows-twice a b c first second one two = two ∙ ap (λ (held : Option (List ℕ)). option_map (λ bytes. bytes ++ second) held) one ∙ Grows-twice_of a.holds first second

-- a text that was taken, and a part of another
pub GrowsWithin-behind : (a b c : SinkView) (first second : List ℕ) → Grows a b first → GrowsWithin b c second → GrowsWithin a c (first ++ second)
GrowsWithin-behind a b c first second one within = record {
  part = first ++ within.part;
  rest = within.rest;
  prefix = append_assoc first within.part within.rest ∙ ap (λ (xs : List ℕ). first ++ xs) within.prefix;
  grows = Grows-twice a b c first within.part one within.grows;
}

-- a part of a text is a part of what begins with it
pub GrowsWithin-before : (a b : SinkView) (first second : List ℕ) → GrowsWithin a b first → GrowsWithin a b (first ++ second)
GrowsWithin-before a b first second within = record {
  part = within.part;
  rest = within.rest ++ second;
  prefix = sym (append_assoc within.part within.rest second) ∙ ap (λ (xs : List ℕ). xs ++ second) within.prefix;
  grows = within.grows;
}

-- a whole text is a part of what begins with it
pub GrowsWithin-whole : (a b : SinkView) (text : List ℕ) → Grows a b text → GrowsWithin a b text
GrowsWithin-whole a b text grows = record { part = text; rest = []; prefix = append-nil text; grows = grows }

-- two texts, one after the other
pub Took-twice : (a b c : SinkView) (first second : List ℕ) → Took a b first → Took b c second → Took a c (first ++ second)
Took-twice a b c first second one two = record { grows = Grows-twice a b c first second one.grows two.grows; counts = omega (arith, one.counts, two.counts) }

-- a text that was taken, and then another, whatever became of it
pub Puts-behind : (a b c : SinkView) (first second : List ℕ) (result : Result (Unit {0}) SinkFault) → Took a b first → Puts b c second result → Puts a c (first ++ second) result
Puts-behind a b c first second (Ok done) one two = Took-twice a b c first second one two
Puts-behind a b c first second (Err Failed) one two = record { within = GrowsWithin-behind a b c first second one.grows two.within; rose = rose_later one.counts two.rose }
Puts-behind a b c first second (Err Memory) one two = record { within = GrowsWithin-behind a b c first second one.grows two.within; counts = omega (arith, one.counts, two.counts) }

-- a text at which the output stopped, and another behind it
pub Puts-stopped : (a b : SinkView) (first second : List ℕ) (fault : SinkFault) → Puts a b first (Err fault) → Puts a b (first ++ second) (Err fault)
Puts-stopped a b first second Failed stopped = record { within = GrowsWithin-before a b first second stopped.within; rose = stopped.rose }
Puts-stopped a b first second Memory stopped = record { within = GrowsWithin-before a b first second stopped.within; counts = stopped.counts }

-- nothing was put, since memory was wanting
pub Starves-nothing : (a : SinkView) (text : List ℕ) → Starves a a text
Starves-nothing a text = record { within = GrowsWithin-nothing a a text refl; counts = omega arith }

-- a text that was put, and then settled or not
pub Writes-finished : (a b c : SinkView) (text : List ℕ) (result : Result (Unit {0}) SinkFault) → Took a b text → c.holds ≡ b.holds → Finishes b c result → Writes a c text result
Writes-finished a b c text (Ok done) took same finishes = record { grows = same ∙ took.grows; counts = omega (arith, took.counts, finishes.0); settled = finishes.1 }
Writes-finished a b c text (Err Failed) took same finishes = record { within = GrowsWithin-whole a c text (same ∙ took.grows); rose = rose_later took.counts finishes.0 }
Writes-finished a b c text (Err Memory) took same finishes = record { within = GrowsWithin-whole a c text (same ∙ took.grows); counts = omega (arith, took.counts, finishes.0) }

-- a text at which the output stopped isn't settled
pub Writes-stopped : (a b : SinkView) (text : List ℕ) (fault : SinkFault) → Puts a b text (Err fault) → Writes a b text (Err fault)
Writes-stopped a b text Failed stopped = stopped
Writes-stopped a b text Memory stopped = stopped
