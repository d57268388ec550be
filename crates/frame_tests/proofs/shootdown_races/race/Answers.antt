use Rattle.std.proofs.Common.{◌≡◌, ◌∙◌, sym, subst, List, All, length}
use Rattle.std.proofs.lemmas.List.{with_items_is}
use Rattle.shootdown.specs.Notes.{Token}
use Rattle.frame_tests.proofs.shootdown_races.race.Goals as goal

pub close_notes-requires : goal.close_notes-requires
close_notes-requires g c =
    let same : length c.all_work.new.tokens ≡ c.into_vec-tokens.result.len = c.all_work.ensures.all ∙ c.deref_mut.ensures.len in
    let all : c.from_vec.result ≡ c.all_work.new.tokens = c.from_vec.ensures ∙ with_items_is c.into_vec-tokens.result c.all_work.new.tokens same in
    let noted = c.all_work.ensures.noted in
    record {
      board = g.N.OnBoard.board;
      of_tokens = subst (λ (l : List Token). All (λ (t : Token). t.board ≡ g.N.OnBoard.board) l) (sym all) (λ k d within. (noted k d within).0);
      of_seats = c.in_ok-seats_of.ensures;
    }
