use Rattle.std.proofs.Common.{sym, subst, arith}
use Rattle.frame_words.specs.Views.{OneGeneration}
use Rattle.frame_words.specs.Steps.{Own}
use Rattle.frame_words.proofs.Opened.{fits_table, nothing_within}
use Rattle.frame_words.proofs.Parts.{joins}
use Rattle.frame_words.proofs.seats.join.Goals as goal

pub join_seat-requires : goal.join_seat-requires
join_seat-requires c =
    let wide = c.table.invariant.wide in (
      fits_table c.table.inside c.holder.inside _ _ c.table.view_is c.holder.view_is c.requires.made.0,
      fits_table c.table.inside c.other.inside _ _ c.table.view_is c.other.view_is c.requires.made.1,
      c.other.invariant,
      omega arith,
      joins _ _ _ _ _ (nothing_within c.other.inside _ c.other.view_is c.requires.empty),
    )

pub invariant_of-holder-inside : goal.invariant_of-holder-inside
invariant_of-holder-inside c = (subst (λ (m : Own). OneGeneration m.0.holds) (sym c.join_seat.ensures.2) c.holder.inside.agrees, tt)
