-- When a line of a text is refused.
use Rattle.std.specs.Prelude.{◌≡◌, ◌≤◌, ℕ, List, length, Option, Some, None, Err}
use Rattle.guest_asm.specs.declared.fault.AsmCause.{AsmCause}
use Rattle.guest_asm.specs.Assembly.{assembly_of}
use Rattle.admission.specs.Chain.{Files, longest_text}
use Rattle.admission.specs.Words.{Form, Raw, Machine, Private, Make, Load, Litmus, Asm, AsmSteps, form_of}

-- a form names this text, to be printed or run
abbrev pub Names : List ℕ → Option Form → Type 0
Names name (Some (Asm file)) = file ≡ name
Names name (Some (AsmSteps file steps)) = file ≡ name
Names name (Some (Raw file steps)) = ⊥
Names name (Some (Machine file)) = ⊥
Names name (Some (Private file)) = ⊥
Names name (Some (Make seed)) = ⊥
Names name (Some (Load seed)) = ⊥
Names name (Some (Litmus file)) = ⊥
Names name None = ⊥

-- the words name a text that is there and no longer than its limit, and this is its first line that is refused, and why
pub record RefusesLine (words : List (List ℕ)) (files : Files) (line : ℕ) (cause : AsmCause) : Type 0 where
  pub name : List ℕ
  pub named : Names name (form_of words)
  pub text : List ℕ
  pub held : files name ≡ Some text
  pub short : length text ≤ longest_text
  pub refused : assembly_of text ≡ Err (record { line = line; cause = cause })
