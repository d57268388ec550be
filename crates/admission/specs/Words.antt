-- The command line's words: what the command accepts, and the forms that are made of it.
use Rattle.std.specs.Prelude.{ℕ, ◌≤◌, List, [], ◌∷◌, true, Option, Some, None, String, string_bytes, map, option_map, codes}
use Rattle.clap.specs.Words.{App, Row, Rule, Text, Kinds, first_of, matches_of, fault_of, new_rule}
use Rattle.clap.specs.Simple.{new_shape}
use Rattle.admission.specs.declared.words.Given.{Given as Held}
use Rattle.admission.specs.declared.words.Form.{Form as Read}
use Rattle.admission.specs.declared.words.Form.TheVariants as read
use Rattle.admission.specs.Numbers.{number_of}

-- the bytes of each word
abbrev pub texts : {A : Type 0} → List (String A) → List Text
texts words = map string_bytes words

-- an option that takes one value
abbrev pub option : Text → Rule
option name = record (new_rule name) { long = Some name }

-- the command: eight options, no help, no version, no positional, no group
abbrev pub command : App
command = record {
  top = record (new_shape (codes "disco")) {
    rules = option (codes "raw") ∷ option (codes "steps") ∷ option (codes "machine") ∷ option (codes "private") ∷ option (codes "make") ∷ option (codes "load") ∷ option (codes "litmus") ∷ option (codes "asm") ∷ [];
    no_binary_name = true;
    disable_help_flag = true;
    disable_version_flag = true;
  };
  subs = [];
}

-- what is to be done
pub data Form : Type 0 where
  -- one guest from a raw file, for so many steps
  Raw : Text → ℕ → Form
  -- what a description says, under the monitor
  Machine : Text → Form
  -- what a description says, each guest alone
  Private : Text → Form
  -- what is made from a number is printed
  Make : ℕ → Form
  -- what is made from a number runs, under the monitor
  Load : ℕ → Form
  -- what a litmus file says
  Litmus : Text → Form
  -- what the text of a program is assembled to
  Asm : Text → Form
  -- one guest from such a text, for so many steps
  AsmSteps : Text → ℕ → Form

-- the values of the options
pub record Given : Type 0 where
  pub raw : Option Text
  pub steps : Option Text
  pub machine : Option Text
  pub private : Option Text
  pub make : Option Text
  pub load : Option Text
  pub litmus : Option Text
  pub asm : Option Text

abbrev pub given_seen : Held → Given
given_seen g = record {
  raw = option_map (λ s. s.now) g.raw;
  steps = option_map (λ s. s.now) g.steps;
  machine = option_map (λ s. s.now) g.machine;
  private = option_map (λ s. s.now) g.private;
  make = option_map (λ s. s.now) g.make;
  load = option_map (λ s. s.now) g.load;
  litmus = option_map (λ s. s.now) g.litmus;
  asm = option_map (λ s. s.now) g.asm;
}

abbrev pub given_by : List Row → Given
given_by rows = record {
  raw = first_of (codes "raw") rows;
  steps = first_of (codes "steps") rows;
  machine = first_of (codes "machine") rows;
  private = first_of (codes "private") rows;
  make = first_of (codes "make") rows;
  load = first_of (codes "load") rows;
  litmus = first_of (codes "litmus") rows;
  asm = first_of (codes "asm") rows;
}

-- the most steps of a run
abbrev pub most_steps : ℕ
most_steps = 16000000

-- the greatest number from which something is made
abbrev pub most_seed : ℕ
most_seed = 4294967295

abbrev pub with_steps : (Text → ℕ → Form) → Text → Option ℕ → Option Form
with_steps form file None = None
with_steps form file (Some steps) = Some (form file steps)

-- the form of the options that are present, where they are one of the sets and the number is in range
abbrev pub chosen : Option Text → Option Text → Option Text → Option Text → Option Text → Option Text → Option Text → Option Text → Option Form
chosen (Some file) (Some steps) None None None None None None = with_steps Raw file (number_of most_steps steps)
chosen None None (Some file) None None None None None = Some (Machine file)
chosen None None None (Some file) None None None None = Some (Private file)
chosen None None None None (Some seed) None None None = option_map Make (number_of most_seed seed)
chosen None None None None None (Some seed) None None = option_map Load (number_of most_seed seed)
chosen None None None None None None (Some file) None = Some (Litmus file)
chosen None None None None None None None (Some file) = Some (Asm file)
chosen None (Some steps) None None None None None (Some file) = with_steps AsmSteps file (number_of most_steps steps)
chosen raw steps machine private make load litmus asm = None

abbrev pub form_given : Given → Option Form
form_given g = chosen g.raw g.steps g.machine g.private g.make g.load g.litmus g.asm

-- the command accepts the words where it finds no fault in them
abbrev pub accepted : Kinds → List Row → Option Form
accepted [] rows = form_given (given_by rows)
accepted (kind ∷ kinds) rows = None

-- the form that the words are, or none
unfoldable pub form_of : List Text → Option Form
form_of words = accepted (fault_of command words) (matches_of command words)

-- a form as it is read, and as it is defined
abbrev pub form_seen : Read → Form
form_seen (read.Raw file steps) = Raw file.now steps
form_seen (read.Machine file) = Machine file.now
form_seen (read.Private file) = Private file.now
form_seen (read.Make seed) = Make seed
form_seen (read.Load seed) = Load seed
form_seen (read.Litmus file) = Litmus file.now
form_seen (read.Asm file) = Asm file.now
form_seen (read.AsmSteps file steps) = AsmSteps file.now steps

-- a guest's steps on the command line are no more than the most
abbrev pub IsFew : Read → Type 0
IsFew (read.Raw file steps) = steps ≤ most_steps
IsFew (read.Machine file) = Unit {0}
IsFew (read.Private file) = Unit {0}
IsFew (read.Make seed) = Unit {0}
IsFew (read.Load seed) = Unit {0}
IsFew (read.Litmus file) = Unit {0}
IsFew (read.Asm file) = Unit {0}
IsFew (read.AsmSteps file steps) = steps ≤ most_steps
