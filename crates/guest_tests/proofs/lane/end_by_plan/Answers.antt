-- The guest is the same one once there is room, so what it shares is what it shared, and one that hasn't ended is ended by the plan.
use Rattle.std.proofs.Common.{◌≡◌, Option, Some, None, is_some, true, false, refl, sym, ap, ◌∙◌, subst}
use Rattle.base_words.specs.declared.events.End.{End}
use Rattle.isolation_law.specs.GuestState.{GuestState}
use Rattle.isolation_law.specs.Start.{Boot}
use Rattle.isolation_law.specs.Surroundings.{home_cell}
use Rattle.guest_core.specs.Blocks.{blocks_of, LieOnCell}
use Rattle.guest_core.specs.GuestView.{Monitored, IsSameGuest, AreOf, Shared, shared_by}
use Rattle.guest_core.specs.Holding.{FitsAround}
use Rattle.guest_tests.proofs.lane.end_by_plan.Goals as goal

are-of : (shared : Shared) (g h : Monitored) → IsSameGuest g h → AreOf shared g → AreOf shared h
are-of shared g h same are = record {
  table = record { made = same.table ∙ are.table.made; fits = subst (λ (b : Boot). FitsAround shared.table b.around) (sym same.start) are.table.fits };
  wires = same.wires ∙ are.wires;
  blocks = subst (λ (b : Boot). LieOnCell b.around (home_cell b.around) (blocks_of shared.indexes (home_cell b.around))) (sym same.start) are.blocks;
}

none-of : (end : Option End) → is_some end ≡ false → end ≡ None
none-of None is = refl
none-of (Some end) is = absurd cc

some-of : (end : Option End) → is_some end ≡ true → end ≡ None → ⊥
some-of None is none = absurd cc
some-of (Some end) is none = absurd cc

pub end_budget-requires-clause-shared : goal.end_budget-requires-clause-shared
end_budget-requires-clause-shared c = are-of (shared_by c.args.resources.now) c.args.guest.now c.make_room.new.self c.in_ok-make_room.ensures.same c.requires

pub end_budget-requires-clause-not_ended : goal.end_budget-requires-clause-not_ended
end_budget-requires-clause-not_ended c = ap (λ (s : GuestState). s.end) c.in_ok-make_room.ensures.stays.state ∙ sym c.end.ensures.end ∙ none-of c.end.result c.if-is_none.ensures

pub returns-else-is_none-clause-ended : goal.returns-else-is_none-clause-ended
returns-else-is_none-clause-ended c = λ none. some-of c.end.result c.if-is_none.ensures (c.end.ensures.end ∙ none)
