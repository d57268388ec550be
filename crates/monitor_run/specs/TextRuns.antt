-- The run of a text: the claim for the image that the text is assembled to.
use Rattle.std.specs.Prelude.{◌≡◌, ℕ, List, [], ◌∷◌, false, Some, Ok}
use Rattle.outside_io.specs.Reading.{ShelfView}
use Rattle.guest_core.specs.declared.records.RunRecord.{RunRecord}
use Rattle.guest_asm.specs.Assembly.{Assembly, assembly_of}
use Rattle.guest_asm.specs.Loading.{HasWords}
use Rattle.admission.specs.Chain.{Files}
use Rattle.admission.specs.Jobs.{asm_image, single_described}
use Rattle.admission.specs.Ready.{AreGiven}
use Rattle.monitor_run.specs.Monitored.{IsRun}

-- the shelf gave the text, no line of it is refused, and its guest's run began with each word at its address, zeros elsewhere, at the entry
pub record RunsText (name : List ℕ) (steps : ℕ) (old new : ShelfView) (out : RunRecord) : Type 0 where
  pub files : Files
  pub given : AreGiven old new files
  pub text : List ℕ
  pub held : files name ≡ Some text
  pub assembly : Assembly
  pub assembled : assembly_of text ≡ Ok assembly
  pub words : HasWords assembly (asm_image assembly).entry (asm_image assembly).memory
  pub run : IsRun (single_described false steps) (record { image = asm_image assembly; disk = [] } ∷ []) out
