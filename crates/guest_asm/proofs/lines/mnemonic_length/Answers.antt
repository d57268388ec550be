use Rattle.std.proofs.Common.{◌∙◌, rules, tests}
use Rattle.std.specs.Char.{is_ascii_whitespace}
use Rattle.std.proofs.lemmas.Iterator.{YieldsList-from_slice}
use Rattle.std.proofs.lemmas.Iterator.Search.{position_from_yields_List}
use Rattle.guest_asm.proofs.Places.{place_or_length}
use Rattle.guest_asm.proofs.lines.mnemonic_length.Goals as goal

pub returns-clause-value : goal.returns-clause-value
returns-clause-value c =
    c.unwrap_or.ensures
    ∙ place_or_length is_ascii_whitespace c.args.statement.now c.position.result
    (position_from_yields_List is_ascii_whitespace _ _ c.position.result c.position.ensures.ran (YieldsList-from_slice c.args.statement.now cc) (λ x b q k. search (rules, tests)))
