use Rattle.std.proofs.Common.{◌≡◌, [], ◌∷◌, ◌++◌, map, arith}
use Rattle.std.proofs.lemmas.List.{map_push}
use Rattle.toml.specs.View.{table_view}
use Rattle.machine_desc.proofs.Each.{one_more}
use Rattle.machine_desc.proofs.value.tables_of.Goals as goal

pub loop-value-preserved : goal.loop-value-preserved
loop-value-preserved c =
    let table = c.in_ok-table_in.field-0 in
    let e : map (λ t. table_view t.now) c.push.new.self.items ≡ map (λ t. table_view t.now) c.loop-value.tables.items ++ table_view table.now ∷ [] = rw c.in_ok-push.ensures.items (map_push _ c.loop-value.tables.items table) in
    (rw e (one_more _ _ _ _ _ _ _ c.loop-value.invariant.0 c.loop-value-test.true c.value-item.is c.in_ok-table_in.ensures), grind arith)
