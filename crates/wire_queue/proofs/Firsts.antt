-- What was taken, as the first of what was accepted.
use Rattle.std.proofs.Common.{◌≡◌, ℕ, ◌==◌, ◌↔◌, true, List, ◌++◌, length, sym, ap, ◌∙◌, arith}
use Rattle.std.proofs.lemmas.Bool.{eqb-true, eq-eqb}
use Rattle.std.proofs.lemmas.List.{append-nil, nil_from_length, length-append}
use Rattle.wire_queue.specs.Packets.{Packet}

-- all was taken exactly where nothing is held
pub all_taken : (taken accepted held : List Packet) (n : ℕ) → length held ≡ n → accepted ≡ taken ++ held → ((n == 0) ≡ true) ↔ (taken ≡ accepted)
all_taken taken accepted held n count is = (
  (λ none. sym (append-nil taken) ∙ ap (λ l. taken ++ l) (sym (nil_from_length held (count ∙ eqb-true n 0 none))) ∙ sym is),
  (λ all. eq-eqb n 0 (omega (arith, length-append taken held, ap length (all ∙ is)))),
)
