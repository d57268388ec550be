-- The table of queues while wires are made.
use Rattle.std.proofs.Common.{◌≡◌, ℕ, zero, suc, ◌+◌, List, [], ◌∷◌, ◌++◌, map, length, replicate, Option, None, Vec, refl, ap, ◌∙◌}
use Rattle.std.proofs.lemmas.List.{map_push, replicate_more, length-map}
use Rattle.std.specs.Option.{option_map}
use Rattle.std.specs.Global.{Global}
use Rattle.wire_queue.specs.QueueIds.{queue_id}
use Rattle.wire_queue.specs.WireParts.{ids_of}
use Rattle.wire_queue.specs.PassTables.{sends_of, takes_of}
use Rattle.wire_queue.specs.declared.lists.PassList.{PassList}
use Rattle.wire_queue.specs.declared.wire.WireQueue.{WireQueue}

no_ids : (n : ℕ) → map (option_map (λ (wire : WireQueue). queue_id wire.queue)) (replicate n None) ≡ replicate n None
no_ids zero = refl
no_ids (suc n) = ap (λ l. None ∷ l) (no_ids n)

pub rows_more : (rows : List (Vec (Option WireQueue) Global)) (row : Vec (Option WireQueue) Global) (k n : ℕ) → ids_of rows ≡ replicate k (replicate n None) → row.items ≡ replicate n None → ids_of (rows ++ row ∷ []) ≡ replicate (k + 1) (replicate n None)
rows_more rows row k n so_far empty =
    map_push (λ (row : Vec (Option WireQueue) Global). map (option_map (λ (wire : WireQueue). queue_id wire.queue)) row.items) rows row
    ∙ ap (λ l. l ++ map (option_map (λ (wire : WireQueue). queue_id wire.queue)) row.items ∷ []) so_far
    ∙ ap (λ r. replicate k (replicate n None) ++ r ∷ []) (ap (map (option_map (λ (wire : WireQueue). queue_id wire.queue))) empty ∙ no_ids n)
    ∙ replicate_more k (replicate n None)

-- each table has a row for each queue's row or list
pub count_ids : (rows : List (Vec (Option WireQueue) Global)) → length (ids_of rows) ≡ length rows
count_ids rows = length-map rows (λ (row : Vec (Option WireQueue) Global). map (option_map (λ (wire : WireQueue). queue_id wire.queue)) row.items)

pub count_sends : (lists : List PassList) → length (sends_of lists) ≡ length lists
count_sends lists = length-map lists (λ list. list.sends.items)

pub count_takes : (lists : List PassList) → length (takes_of lists) ≡ length lists
count_takes lists = length-map lists (λ list. list.takes.items)
