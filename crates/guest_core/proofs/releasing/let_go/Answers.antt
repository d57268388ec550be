-- Each page that is being taken shared takes one of the places for which there is room.
use Rattle.std.proofs.Common.{◌≡◌, ℕ, ◌+◌, ◌<◌, ◌++◌, Bool, true, false, List, length, take, sym, ap, ◌∙◌, subst, arith}
use Rattle.std.proofs.lemmas.List.{append-nil, append_assoc, length-append}
use Rattle.base_words.specs.declared.events.Event.{Event}
use Rattle.guest_course.specs.EndCalls.{letting_go}
use Rattle.guest_core.proofs.LettingLemmas.{let-at, letting-next, letting-room, taking-told}
use Rattle.guest_core.proofs.releasing.let_go.Goals as goal
use Rattle.guest_core.proofs.releasing.let_go.Goals.{then-is_taking, else-is_taking}

pub push-requires : goal.push-requires
push-requires c =
    let m = c.args.course.now.pmap in
    let n = c.loop-number.number in
    let is = taking-told m n c.is_taking.result c.is_taking.ensures ∙ c.if-is_taking.true in
    let so-far = c.loop-number.invariant in
    omega (arith, letting-room n m.pages (subst (λ (k : ℕ). n < k) c.len-number-end.ensures c.loop-number-test.true) is, so-far.1, c.requires.room)

pub loop-number-preserved : goal.loop-number-preserved
loop-number-preserved c =
    let m = c.args.course.now.pmap in
    let n = c.loop-number.number in
    let lt = subst (λ (k : ℕ). c.loop-number.number < k) c.len-number-end.ensures c.loop-number-test.true in
    let start = c.args.journal.now.entries in
    let so-far = c.loop-number.invariant in
    let told = taking-told m n c.is_taking.result c.is_taking.ensures in
    let next : (b : Bool) → c.is_taking.result ≡ b → letting_go 0 (take (n + 1) m.pages) ≡ letting_go 0 (take n m.pages) ++ let-at b n = λ b is. letting-next n m.pages lt ∙ ap (λ (x : Bool). letting_go 0 (take n m.pages) ++ let-at x n) (told ∙ is) in
    elim c.if-is_taking.branch [
      | then-is_taking w ↦
          let more = next true w.if-is_taking.true in
          let one = ap length more in
          let split = length-append (letting_go 0 (take n m.pages)) (let-at true n) in (
            ap (λ j. j.entries) w.journal-is ∙ w.push.ensures.entries ∙ ap (λ (l : List Event). l ++ let-at true n) so-far.0 ∙ append_assoc start (letting_go 0 (take n m.pages)) (let-at true n) ∙ ap (λ (l : List Event). start ++ l) (sym more),
            omega (arith, so-far.1, one, split, w.push.ensures.room, ap (λ j. j.room) w.journal-is),
            omega (arith, lt),
          )
      | else-is_taking w ↦
          let more = next false w.if-is_taking.false ∙ append-nil (letting_go 0 (take n m.pages)) in
          let one = ap length more in (
            ap (λ j. j.entries) w.journal-is ∙ so-far.0 ∙ ap (λ (l : List Event). start ++ l) (sym more),
            omega (arith, so-far.1, one, ap (λ j. j.room) w.journal-is),
            omega (arith, lt),
          )
    ]
