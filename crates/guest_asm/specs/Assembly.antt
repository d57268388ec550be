-- What a text is assembled to, or the line that is refused: as a function of the text.
use Rattle.std.specs.Prelude.{◌≡◌, ℕ, zero, suc, ◌+◌, List, length, Option, Some, None, Result, Ok, Err}
use Rattle.std.specs.Option.{option_or}
use Rattle.guest_asm.specs.declared.fault.AsmCause.{AsmCause}
use Rattle.guest_asm.specs.declared.fault.AsmFault.{AsmFault}
use Rattle.guest_asm.specs.declared.fault.AsmFault.TheVariants as fault
use Rattle.guest_asm.specs.declared.assembled.Placed.{Placed}
use Rattle.guest_asm.specs.declared.assembled.Assembled.{Assembled}
use Rattle.guest_asm.specs.Lines.{lines_of}
use Rattle.guest_asm.specs.Addresses.{entry_of}
use Rattle.guest_asm.specs.Causes.{line_word}
use Rattle.guest_asm.specs.Image.{image_of}
use Rattle.guest_asm.specs.Assembled.{words_below}

-- the words in order of their addresses, the address of the first instruction that runs, and the bytes of the image
pub record Assembly : Type 0 where
  pub words : List Placed
  pub entry : ℕ
  pub image : List ℕ

-- a line, counted from 1, and the first cause that holds on it
pub record RefusedLine : Type 0 where
  pub line : ℕ
  pub cause : AsmCause

-- a line by its number from 0, where it is refused
abbrev pub refused_at : ℕ → Result (Option ℕ) AsmCause → Option RefusedLine
refused_at i (Ok word) = None
refused_at i (Err cause) = Some (record { line = i + 1; cause = cause })

-- the first of so many lines that is refused
unfoldable pub first_refused : List (List ℕ) → ℕ → Option RefusedLine
first_refused lines zero = None
first_refused lines (suc i) = option_or (first_refused lines i) (refused_at i (line_word lines i))

-- what lines are assembled to, none of which is refused
abbrev pub assembly_in : List (List ℕ) → Assembly
assembly_in lines = record {
  words = words_below lines (length lines);
  entry = entry_of lines;
  image = image_of (entry_of lines) (words_below lines (length lines));
}

abbrev pub unless_refused : Option RefusedLine → Assembly → Result Assembly RefusedLine
unless_refused None assembly = Ok assembly
unless_refused (Some refused) assembly = Err refused

-- a text that is assembled, or the first line that is refused
unfoldable pub assembly_of : List ℕ → Result Assembly RefusedLine
assembly_of text = unless_refused (first_refused (lines_of text) (length (lines_of text))) (assembly_in (lines_of text))

-- what the code assembled
abbrev pub assembly_seen : Assembled → Assembly
assembly_seen assembled = record { words = assembled.words.items; entry = assembled.entry; image = assembled.image.items }

-- an answer is what the text is assembled to, or want of memory
abbrev pub IsAnswer : Result Assembly RefusedLine → Result Assembled AsmFault → Type 0
IsAnswer found (Ok assembled) = found ≡ Ok (assembly_seen assembled)
IsAnswer found (Err (fault.Line line cause)) = found ≡ Err (record { line = line; cause = cause })
IsAnswer found (Err fault.Memory) = Unit {0}
