use Rattle.std.proofs.Common.{◌≡◌, true, false, map, string_bytes, arith}
use Rattle.machine_desc.specs.Unknown.{is_among, only}
use Rattle.machine_desc.proofs.Keys.{one_less, least_here, none_left, keys_in-members_view}
use Rattle.machine_desc.proofs.section.Section.only.Goals as goal

pub loop-name-preserved : goal.loop-name-preserved
loop-name-preserved c =
    let known : is_among (map (λ k. k.now) c.args.known.now) (string_bytes c.in-Some.name.now) ≡ true = grind arith in
    one_less _ _ _ _ _ c.loop-name.invariant c.in-Some.ensures.steps known

pub returns-then-not-is_among : goal.returns-then-not-is_among
unfolding only
returns-then-not-is_among c memory =
    let other : is_among (map (λ k. k.now) c.args.known.now) (string_bytes c.in-Some.name.now) ≡ false = grind arith in
    let here = least_here (map (λ k. k.now) c.args.known.now) _ _ _ _ c.loop-name.invariant c.in-Some.ensures.steps other in
    rw (keys_in-members_view c.args.self.table.now.entries, here, c.unknown.ensures memory, c.key.ensures.place, c.key.ensures.name, c.as_str-then-not-is_among.ensures.value)

pub returns : goal.returns
unfolding only
returns c =
    let none = none_left (map (λ k. k.now) c.args.known.now) _ _ c.loop-name.invariant c.in-None.ensures.steps.0 in
    rw (keys_in-members_view c.args.self.table.now.entries, none)
