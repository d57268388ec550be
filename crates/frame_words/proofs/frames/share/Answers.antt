use Rattle.std.proofs.Common.{◌≡◌, ◌≢◌, ◌⊎◌, inl, inr, ap, subst, sym, ◌∙◌, arith}
use Rattle.frame_words.proofs.Opened.{fits_table, frame_within}
use Rattle.frame_words.specs.FrameWords.{count, generation, frame_word, IsShareable}
use Rattle.frame_words.specs.Sharing.{SharedBy}
use Rattle.frame_words.specs.declared.answers.Share.{Share}
use Rattle.atomic_table.specs.Table.{step}
use mathlib.Core.Option.{none}
use Rattle.frame_words.specs.Steps.{Loaded}
use Rattle.frame_words.specs.declared.holder.Holder.TheInside.{Inside}
use Rattle.frame_words.proofs.Told.{finds_gone, finds_many, shares_so, share_changed}
use Rattle.frame_words.proofs.Moves.{loads, shares}
use Rattle.frame_words.proofs.frames.share.Goals as goal
use Rattle.frame_words.proofs.frames.share.Goals.{then-found-seen, else-found-seen, then-count_of-eq0-via-then-count_of-eq0, then-count_of-eq0-via-else-count_of-eq0+then-generation_of-generation}

pub load-seen-requires : goal.load-seen-requires
load-seen-requires c =
    let w = frame_within c.table.inside _ _ c.table.view_is c.table.invariant c.requires.within in
    (fits_table c.table.inside c.holder.inside _ _ c.table.view_is c.holder.view_is c.requires.made, omega arith, loads _ _ _ _ _ (omega arith))

pub compare_exchange-found-requires : goal.compare_exchange-found-requires
compare_exchange-found-requires c =
    let w = frame_within c.table.inside _ _ c.table.view_is c.table.invariant c.requires.within in
    (c.load-seen.ensures.0 ∙ fits_table c.table.inside c.holder.inside _ _ c.table.view_is c.holder.view_is c.requires.made, omega arith, shares _ _ _ _ _ _ (omega arith) (omega arith) (omega arith))

pub returns-then-count_of-eq0-clause-answer : goal.returns-then-count_of-eq0-clause-answer
returns-then-count_of-eq0-clause-answer c =
    let full = c.if-count_of-eq-LIMIT.false in
    let n = c.load-seen.result in
    let room : count n ≢ 4294967295 = λ (e : count n ≡ 4294967295). full (c.count_of.ensures ∙ e) in
    let gone : (count n ≡ 0) ⊎ (generation n ≢ c.args.generation) = elim c.then-count_of-eq0.branch [
      | then-count_of-eq0-via-then-count_of-eq0 w ↦ inl (sym c.count_of-2.ensures ∙ w.if-count_of-eq0.true)
      | then-count_of-eq0-via-else-count_of-eq0+then-generation_of-generation w ↦ inr (λ e. w.if-generation_of-generation.true (w.generation_of.ensures ∙ e))
    ] in
    let now : c.then-count_of-eq0.holder-inside.seat.me ≡ c.load-seen.new.seat.me = elim c.then-count_of-eq0.branch [
      | then-count_of-eq0-via-then-count_of-eq0 w ↦ ap (λ (x : Inside). x.seat.me) w.holder-inside-is
      | then-count_of-eq0-via-else-count_of-eq0+then-generation_of-generation w ↦ ap (λ (x : Inside). x.seat.me) w.holder-inside-is
    ] in
    inl (finds_gone c.holder.inside _ c.table.inside.table.shared.table_id.slots _ _ _ n _ c.holder.view_is c.word_of_frame-word.ensures (subst (Loaded (step c.table.inside.table.shared.table_id.slots c.word_of_frame-word.result 0 0 none) c.holder.inside.seat.me n) (sym now) c.load-seen.ensures.2) room gone)

pub returns-then-count_of-eq-LIMIT-clause-answer : goal.returns-then-count_of-eq-LIMIT-clause-answer
returns-then-count_of-eq-LIMIT-clause-answer c = finds_many c.holder.inside _ c.table.inside.table.shared.table_id.slots _ _ _ _ c.holder.view_is c.word_of_frame-word.ensures c.load-seen.ensures.2 (omega arith)

pub returns-clause-answer : goal.returns-clause-answer
returns-clause-answer c =
    let n = c.load-seen.result in
    let full = c.if-count_of-eq-LIMIT.false in
    let none_held = c.if-count_of-eq0.false in
    let slots = c.table.inside.table.shared.table_id.slots in
    let ok : IsShareable n c.args.generation = record {
      held = let some : count n ≢ 0 = λ (e : count n ≡ 0). none_held (c.count_of-2.ensures ∙ e) in omega arith;
      room = let few : count n ≢ 4294967295 = λ (e : count n ≡ 4294967295). full (c.count_of.ensures ∙ e) in omega arith;
      same = sym c.generation_of.ensures ∙ c.if-generation_of-generation.false;
    } in
    elim c.if-found-seen.branch [
      | then-found-seen w ↦
          subst (λ (r : Share). SharedBy c.args.holder.now.view (frame_word c.args.frame.0) c.args.generation r c.compare_exchange-found.new.seat.me.0) (sym w.result-is)
          (shares_so c.holder.inside _ slots _ _ n c.args.generation c.compare_exchange-found.result _ _ c.holder.view_is c.word_of_frame-word.ensures c.load-seen.ensures.2 c.compare_exchange-found.ensures.2 ok w.if-found-seen.true)
      | else-found-seen w ↦
          subst (λ (r : Share). SharedBy c.args.holder.now.view (frame_word c.args.frame.0) c.args.generation r c.compare_exchange-found.new.seat.me.0) (sym w.result-is)
          (inr (n, ok, share_changed c.holder.inside _ slots _ _ n c.args.generation c.compare_exchange-found.result _ _ c.holder.view_is c.word_of_frame-word.ensures c.load-seen.ensures.2 c.compare_exchange-found.ensures.2 w.if-found-seen.false))
    ]
