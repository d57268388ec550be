-- What a text is assembled to.
use Rattle.std.specs.Prelude.{◌≡◌, ℕ, ◌-◌, ◌<◌, List, [], ◌∷◌, length, Option, Some, None, Result, Ok, Err}
use Rattle.std.specs.Global.{Vec}
use Rattle.std.specs.List.{flat_map, range_with_len}
use Rattle.guest_asm.specs.declared.fault.AsmCause.{AsmCause}
use Rattle.guest_asm.specs.declared.fault.AsmFault.{AsmFault}
use Rattle.guest_asm.specs.declared.fault.AsmFault.TheVariants as fault
use Rattle.guest_asm.specs.declared.assembled.Placed.{Placed}
use Rattle.guest_asm.specs.declared.assembled.Assembled.{Assembled}
use Rattle.guest_asm.specs.Lines.{lines_of}
use Rattle.guest_asm.specs.Addresses.{start, address_of, entry_of}
use Rattle.guest_asm.specs.Causes.{line_word, IsFirstFault}
use Rattle.guest_asm.specs.Image.{image_of, AreInOrder}

-- the word at an address, where a line puts one there
abbrev pub placed_at : ℕ → Result (Option ℕ) AsmCause → List Placed
placed_at address (Ok (Some word)) = record { address = address; word = word } ∷ []
placed_at address (Ok None) = []
placed_at address (Err cause) = []

abbrev pub placed_on : List (List ℕ) → ℕ → List Placed
placed_on lines i = placed_at (address_of lines i) (line_word lines i)

-- the words of the first lines, in order
abbrev pub words_below : List (List ℕ) → ℕ → List Placed
words_below lines count = flat_map (placed_on lines) (range_with_len 0 count)

-- no line is refused
abbrev pub IsAccepted : List (List ℕ) → Type 0
IsAccepted lines = (k : ℕ) → k < length lines → (refused : AsmCause) → ¬ (line_word lines k ≡ Err refused)

-- a text that is assembled: no line is refused, each word stands at its line's address, and the image has them
pub record IsAssembled (lines : List (List ℕ)) (assembled : Assembled) : Type 0 where
  pub accepted : IsAccepted lines
  pub words : assembled.words.items ≡ words_below lines (length lines)
  pub entry : assembled.entry ≡ entry_of lines
  pub image : assembled.image.items ≡ image_of (entry_of lines) (words_below lines (length lines))

-- a text is assembled where no line is refused; else the first line that is refused is told, counted from 1, with the first cause that
-- holds; want of memory may come at any time
abbrev pub Assembles : List ℕ → Result Assembled AsmFault → Type 0
Assembles text (Ok assembled) = IsAssembled (lines_of text) assembled
Assembles text (Err (fault.Line line cause)) = (0 < line) × IsFirstFault (lines_of text) (line - 1) cause
Assembles text (Err fault.Memory) = Unit {0}

-- the words of lines, or the first fault
abbrev pub WordsOf : List (List ℕ) → Result (Vec Placed) AsmFault → Type 0
WordsOf lines (Ok words) = IsAccepted lines × (words.items ≡ words_below lines (length lines)) × AreInOrder start words.items
WordsOf lines (Err (fault.Line line cause)) = (0 < line) × IsFirstFault lines (line - 1) cause
WordsOf lines (Err fault.Memory) = Unit {0}
