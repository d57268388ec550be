use Rattle.std.proofs.Common.{ℕ, ◌<◌, sym, subst}
use Rattle.guest_core.proofs.parts.Parts.tells_loaded.Goals as goal

pub returns : goal.returns
returns c = λ p there. c.requires.kept.noted.loaded p (subst (λ (n : ℕ). p < n) (sym c.requires.kept.processors) there)
