-- What a journal keeps, after one entry more.
use Rattle.std.proofs.Common.{◌≡◌, ◌≢◌, ℕ, zero, suc, ◌+◌, ◌-◌, ◌<◌, List, [], ◌∷◌, ◌++◌, length, replicate, Option, Some, None, sym}
use Rattle.std.proofs.Common.{ap, ◌∙◌, subst, arith, append_assoc, length-append}
use Rattle.std.proofs.lemmas.List.{append-nil, nil_from_length, length-replicate, replicate-append-replicate}
use Rattle.std.proofs.lemmas.List.Concat.{flat_map-append}
use Rattle.base_words.specs.declared.events.Event.{Event}
use Rattle.event_journal.specs.declared.run.Run.{Run}
use Rattle.event_journal.specs.Runs.{expanded, entries_of}
use Rattle.event_journal.specs.RunCount.{HasRuns}
use Rattle.event_journal.specs.Parts.{runs_in, GoesOn, IsMarkOf, Agree}
use Rattle.event_journal.proofs.CountLemmas.{EndsWith, EndsWith-one, ends_with_run, ends_with_last_one, HasRuns-push_same, HasRuns-push_other}

-- a run behind others
entries_of-push : (runs : List Run) (e : Event) (n : ℕ)
    → entries_of (runs ++ record { event = e; count = n } ∷ []) ≡ entries_of runs ++ replicate n e
entries_of-push runs e n =
    flat_map-append expanded runs _ ∙ ap (λ es. entries_of runs ++ es) (append-nil (replicate n e))

-- a run of one entry behind others
entries_of-first : (runs : List Run) (e : Event) (entries : ℕ)
    → entries_of (runs_in runs entries (Some e) (entries + 1)) ≡ entries_of runs ++ e ∷ []
entries_of-first runs e entries =
    let one : entries + 1 - entries ≡ 1 = omega arith in
    entries_of-push runs e (entries + 1 - entries) ∙ ap (λ n. entries_of runs ++ replicate n e) one

module _ (ended : List Run) (before : ℕ) where
  -- all entries, and how many runs they are kept as
  abbrev all : Option Event → ℕ → List Event
  all last entries = entries_of (runs_in ended before last entries)

  abbrev runs : Option Event → ℕ → ℕ
  runs last entries = length (runs_in ended before last entries)

  -- there are as many entries as are counted
  length-all : (last : Option Event) (entries : ℕ) → before ≡ length (entries_of ended) → GoesOn last before entries
      → length (all last entries) ≡ entries
  length-all None entries is goes = ap (λ rs. length (entries_of rs)) (append-nil ended) ∙ sym is ∙ goes.0 ∙ sym goes.1
  length-all (Some e) entries is goes =
      let n = entries - before in
      let sum = ap length (entries_of-push ended e n) ∙ length-append (entries_of ended) (replicate n e) in
      let run = length-replicate n e in omega arith

  -- the run that goes on is the last
  ends_with_last : (e : Event) (entries : ℕ) → before < entries → EndsWith e (all (Some e) entries)
  ends_with_last e entries goes =
      let run = ends_with_run e (entries_of ended) (entries - before) (omega arith) in
      subst (EndsWith e) (sym (entries_of-push ended e (entries - before))) run

  -- so many entries more in it
  all-many : (e : Event) (many entries : ℕ) → before < entries → all (Some e) (entries + many) ≡ all (Some e) entries ++ replicate many e
  all-many e many entries goes =
      let n = entries - before in
      let more : entries + many - before ≡ n + many = omega arith in
      entries_of-push ended e (entries + many - before)
      ∙ ap (λ m. entries_of ended ++ replicate m e) more
      ∙ ap (λ es. entries_of ended ++ es) (sym (replicate-append-replicate n many e))
      ∙ sym (append_assoc (entries_of ended) (replicate n e) (replicate many e))
      ∙ ap (λ es. es ++ replicate many e) (sym (entries_of-push ended e n))

  Agree-more : (e : Event) (entries mark : ℕ) → Agree ended before (Some e) entries mark
      → Agree ended before (Some e) (entries + 1) mark
  Agree-more e entries mark a =
      let goes : before < entries = a.goes_on in
      let same = HasRuns-push_same e _ _ (ends_with_last e entries goes) a.runs in
      let kept : HasRuns (all (Some e) (entries + 1)) (runs (Some e) entries) =
      subst (λ es. HasRuns es (runs (Some e) entries)) (sym (all-many e 1 entries goes)) same in
      record {
        counted = a.counted;
        goes_on = omega arith;
        runs = subst (HasRuns (all (Some e) (entries + 1))) (length-append ended _ ∙ sym (length-append ended _)) kept;
        marked = a.marked;
      }

  Agree-many : (e : Event) (many entries mark : ℕ) → Agree ended before (Some e) entries mark
      → Agree ended before (Some e) (entries + many) mark
  Agree-many e zero entries mark a = subst (λ n. Agree ended before (Some e) n mark) (omega arith) a
  Agree-many e (suc many) entries mark a =
      let next : entries + 1 + many ≡ entries + suc many = omega arith in
      subst (λ n. Agree ended before (Some e) n mark) next (Agree-many e many (entries + 1) mark (Agree-more e entries mark a))

  -- the last entry is that of the run that goes on
  pub last-is : (last : Option Event) (e : Event) (es : List Event) (entries mark : ℕ) → all last entries ≡ es ++ e ∷ []
      → Agree ended before last entries mark → last ≡ Some e
  last-is None e es entries mark is a =
      let none = length-all None entries a.counted a.goes_on ∙ a.goes_on.1 in
      let some = sym (ap length is) ∙ none in
      let sum = length-append es (e ∷ []) in
      absurd (omega (arith, some, sum))
  last-is (Some d) e es entries mark is a =
      let own = subst (EndsWith d) is (ends_with_last d entries a.goes_on) in
      ap Some (EndsWith-one d e (es ++ e ∷ []) own (ends_with_last_one e es))

  -- the last entry comes so many times more
  pub all-as_many : (last : Option Event) (e : Event) (many entries mark : ℕ) → last ≡ Some e → Agree ended before last entries mark
      → all last (entries + many) ≡ all last entries ++ replicate many e
  all-as_many last e many entries mark is a =
      let goes : before < entries = subst (λ l. GoesOn l before entries) is a.goes_on in
      subst (λ l. all l (entries + many) ≡ all l entries ++ replicate many e) (sym is) (all-many e many entries goes)

  pub Agree-as_many : (last : Option Event) (e : Event) (many entries mark : ℕ) → last ≡ Some e
      → Agree ended before last entries mark → Agree ended before last (entries + many) mark
  Agree-as_many last e many entries mark is a =
      let more = Agree-many e many entries mark (subst (λ l. Agree ended before l entries mark) is a) in
      subst (λ l. Agree ended before l (entries + many) mark) (sym is) more

  -- the last entry comes once more
  pub all-same : (last : Option Event) (e : Event) (entries mark : ℕ) → last ≡ Some e → Agree ended before last entries mark
      → all last (entries + 1) ≡ all last entries ++ e ∷ []
  all-same last e entries mark = all-as_many last e 1 entries mark

  pub Agree-same : (last : Option Event) (e : Event) (entries mark : ℕ) → last ≡ Some e → Agree ended before last entries mark
      → Agree ended before last (entries + 1) mark
  Agree-same last e entries mark = Agree-as_many last e 1 entries mark

  -- another entry makes one run more
  HasRuns-other : (last : Option Event) (e : Event) (entries mark : ℕ) → last ≢ Some e → Agree ended before last entries mark
      → HasRuns (all last entries ++ e ∷ []) (runs last entries + 1)
  HasRuns-other None e entries mark ne a =
      let none : length (all None entries) ≡ 0 = length-all None entries a.counted a.goes_on ∙ a.goes_on.1 in
      let empty : all None entries ≡ [] = nil_from_length _ none in
      let zero : runs None entries ≡ 0 = subst (λ es. HasRuns es (runs None entries)) empty a.runs in
      subst (λ es. HasRuns (es ++ e ∷ []) (runs None entries + 1)) (sym empty) (omega arith, omega arith)
  HasRuns-other (Some d) e entries mark ne a =
      HasRuns-push_other d e _ _ (ends_with_last d entries a.goes_on) (λ same. ne (ap Some (sym same))) a.runs

  pub Agree-other : (last : Option Event) (e : Event) (entries mark number : ℕ) → last ≢ Some e → IsMarkOf number (Some e)
      → Agree ended before last entries mark
      → Agree (runs_in ended before last entries) entries (Some e) (entries + 1) number
  Agree-other last e entries mark number ne marked a =
      let kept = runs_in ended before last entries in
      let first : List Run = record { event = e; count = entries + 1 - entries } ∷ [] in
      let more = HasRuns-other last e entries mark ne a in
      record {
        counted = sym (length-all last entries a.counted a.goes_on);
        goes_on = omega arith;
        runs =
            subst (λ es. HasRuns es (length (kept ++ first))) (sym (entries_of-first kept e entries))
            (subst (HasRuns (all last entries ++ e ∷ [])) (sym (length-append kept first)) more);
        marked = marked;
      }
