use Rattle.std.proofs.Common.{List, sym, subst}
use Rattle.frame_words.specs.Splits.{HasHolds}
use Rattle.frame_words.specs.declared.view.Hold.{Hold}
use Rattle.frame_words.proofs.Parts.{splits}
use Rattle.frame_words.proofs.seats.cut.Goals as goal

pub split_seat-requires : goal.split_seat-requires
split_seat-requires g c = (c.requires.seat, c.requires.words, splits _ _ _ _ (subst (λ (l : List Hold). HasHolds c.args.seat.now.me.0 l) (sym c.requires.named) c.requires.has))
