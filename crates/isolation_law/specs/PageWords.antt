-- What a step by itself writes on a register page.
use Rattle.std.specs.Prelude.{◌≡◌, true, Option, IsSome}
use Rattle.base_words.specs.declared.effect.Request.{Request}
use Rattle.base_words.specs.declared.effect.Request.TheVariants as asks
use Rattle.private_machine.specs.declared.register_page.RegBlock.{RegBlock}
use Rattle.private_machine.specs.RegisterPage.{is_stored}

-- there is a page, and it takes a store of this word
abbrev pub IsTaken : Option RegBlock → Request → Type 0
IsTaken block asks.Nothing = Unit {0}
IsTaken block (asks.Load kind address target) = Unit {0}
IsTaken block (asks.Store kind address value) = Unit {0}
IsTaken block (asks.LoadLinked address target) = Unit {0}
IsTaken block (asks.StoreConditional address value target) = Unit {0}
IsTaken block (asks.ReadCp0 number target) = Unit {0}
IsTaken block (asks.WriteCp0 number value) = IsSome block × (is_stored number ≡ true)
IsTaken block (asks.System op) = Unit {0}
