-- The printed text of a run: what each guest printed, how it ended, perhaps its sums, and which guests failures ended.
use Rattle.std.specs.Prelude.{ℕ, ◌+◌, List, [], ◌∷◌, ◌++◌, Bool, true, false, length, codes, decimal}
use Rattle.std.specs.List.{flat_map}
use Rattle.base_words.specs.declared.events.End.{End}
use Rattle.base_words.specs.declared.events.End.TheVariants.{Halted, Budget, CellFailed}
use Rattle.base_words.specs.declared.events.Event.{Event}
use Rattle.base_words.specs.declared.ids.GuestId.{GuestId}
use Rattle.guest_core.specs.declared.records.FailureRecord.{FailureRecord}
use Rattle.guest_core.specs.declared.records.GuestRecord.{GuestRecord}
use Rattle.guest_core.specs.declared.records.RunRecord.{RunRecord}
use Rattle.run_report.specs.declared.alone.Alone.{Alone}
use Rattle.run_report.specs.declared.sums.Sums.{Sums}
use Rattle.run_report.specs.Counted.{sums_of}

-- a line ends with a line feed
abbrev pub line_end : List ℕ
line_end = 10 ∷ []

abbrev pub end_text : End → List ℕ
end_text Halted = codes "halted"
end_text Budget = codes "budget"
end_text (CellFailed cell) = codes "cell " ++ decimal cell.0

-- the line before a guest's console: its number, and how many bytes it printed
abbrev pub console_line : ℕ → ℕ → List ℕ
console_line number count = codes "guest " ++ (decimal number ++ (codes " console " ++ (decimal count ++ line_end)))

-- what ends a guest's console, and how the guest ended
abbrev pub end_line : End → List ℕ
end_line end = line_end ++ (codes "end " ++ (end_text end ++ line_end))

abbrev pub guest_text : ℕ → List ℕ → End → List ℕ
guest_text number console end = console_line number (length console) ++ (console ++ end_line end)

-- the line of a guest's sums: of its steps and moves, and of what it shares and receives
abbrev pub step_sums : Sums → List ℕ
step_sums s =
    codes "sums steps " ++ (decimal s.steps
    ++ (codes " refills " ++ (decimal s.refills
    ++ (codes " moves " ++ (decimal s.moves
    ++ (codes " skips " ++ decimal s.skips))))))

abbrev pub share_sums : Sums → List ℕ
share_sums s =
    codes " breaks " ++ (decimal s.breaks
    ++ (codes " shared " ++ (decimal s.shared
    ++ (codes " received " ++ (decimal s.received
    ++ (codes " discarded " ++ (decimal s.discarded ++ line_end)))))))

abbrev pub sums_line : Sums → List ℕ
sums_line s = step_sums s ++ share_sums s

abbrev pub sums_text : Bool → List Event → List ℕ
sums_text true journal = sums_line (sums_of journal)
sums_text false journal = []

-- the texts of items one after the other, numbered on from a number
abbrev pub numbered : {A : Type 0} → (ℕ → A → List ℕ) → ℕ → List A → List ℕ
numbered text number [] = []
numbered text number (x ∷ xs) = text number x ++ numbered text (number + 1) xs

-- the texts of items one after the other
abbrev pub in_order : {A : Type 0} → (A → List ℕ) → List A → List ℕ
in_order text items = numbered (λ (number : ℕ). text) 0 items

-- a guest under the monitor, with its sums or without
abbrev pub record_text : Bool → ℕ → GuestRecord → List ℕ
record_text sums number guest = guest_text number guest.console guest.end ++ sums_text sums guest.journal.entries

-- a guest that ran alone
abbrev pub alone_text : ℕ → Alone → List ℕ
alone_text number guest = guest_text number guest.console guest.end

-- the guests that a failure ended
abbrev pub guests_text : List GuestId → List ℕ
guests_text guests = flat_map (λ guest. codes " " ++ decimal guest.0) guests

abbrev pub ended_text : List GuestId → List ℕ
ended_text [] = codes " none"
ended_text (guest ∷ guests) = guests_text (guest ∷ guests)

abbrev pub failure_text : FailureRecord → List ℕ
failure_text failure = codes "failure cell " ++ (decimal failure.cell.0 ++ (codes " ended" ++ (ended_text failure.ended ++ line_end)))

-- a run under the monitor, with the guests' sums or without: the guests in order, and then the failures in order
abbrev pub report_text : Bool → RunRecord → List ℕ
report_text sums kept = numbered (record_text sums) 0 kept.guests ++ in_order failure_text kept.failures

-- guests that ran alone
abbrev pub alone_report : List Alone → List ℕ
alone_report guests = numbered alone_text 0 guests
