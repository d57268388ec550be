-- One guest after another, for each number up to 8.
use Rattle.std.proofs.Common.{◌≡◌, length, Result, Ok, Err, OnErr, subst, arith}
use Rattle.std.specs.Prelude.{min}
use Rattle.guest_lock.specs.Fates.{FailsFirst}
use Rattle.guest_lock.proofs.FailLemmas.{fails-none, fails-next, fails-some}
use Rattle.guest_lock.proofs.cells.fail_all.Goals as goal

-- it is an error of any kind
some-err : {A : Type 0} {E : Type 0} {P : Type 0} (r : Result A E) → P → OnErr r P
some-err (Ok x) p = tt
some-err (Err e) p = p

pub returns-clause-fails : goal.returns-clause-fails
returns-clause-fails g c =
    let n = length g.N.Starts.starts in
    let cell = c.args.cell in
    let old = c.args.token.now in
    let f = fails-none cell n old c.new-ended.result c.new-ended.ensures in
    let f = fails-next cell n 0 old _ _ _ _ f c.in_ok-fail_one.ensures.fails in
    let f = fails-next cell n 1 old _ _ _ _ f c.in_ok-fail_one-2.ensures.fails in
    let f = fails-next cell n 2 old _ _ _ _ f c.in_ok-fail_one-3.ensures.fails in
    let f = fails-next cell n 3 old _ _ _ _ f c.in_ok-fail_one-4.ensures.fails in
    let f = fails-next cell n 4 old _ _ _ _ f c.in_ok-fail_one-5.ensures.fails in
    let f = fails-next cell n 5 old _ _ _ _ f c.in_ok-fail_one-6.ensures.fails in
    let f = fails-next cell n 6 old _ _ _ _ f c.in_ok-fail_one-7.ensures.fails in
    let f = fails-next cell n 7 old _ _ _ _ f c.in_ok-fail_one-8.ensures.fails in
    let few = c.requires.few in
    subst (λ k. FailsFirst cell k old c.fail_one-8.new.token c.fail_one-8.new.ended) (let e : min 8 n ≡ n = omega arith in e) f

pub returns-in_err-fail_one-clause-wants : goal.returns-in_err-fail_one-clause-wants
returns-in_err-fail_one-clause-wants g c =
    let n = length g.N.Starts.starts in
    let cell = c.args.cell in
    let old = c.args.token.now in
    let f = fails-none cell n old c.new-ended.result c.new-ended.ensures in
    some-err _ (fails-some cell n 0 old _ _ _ f c.in_err-fail_one.ensures.wants)

pub returns-in_err-fail_one-2-clause-wants : goal.returns-in_err-fail_one-2-clause-wants
returns-in_err-fail_one-2-clause-wants g c =
    let n = length g.N.Starts.starts in
    let cell = c.args.cell in
    let old = c.args.token.now in
    let f = fails-none cell n old c.new-ended.result c.new-ended.ensures in
    let f = fails-next cell n 0 old _ _ _ _ f c.in_ok-fail_one.ensures.fails in
    some-err _ (fails-some cell n 1 old _ _ _ f c.in_err-fail_one-2.ensures.wants)

pub returns-in_err-fail_one-3-clause-wants : goal.returns-in_err-fail_one-3-clause-wants
returns-in_err-fail_one-3-clause-wants g c =
    let n = length g.N.Starts.starts in
    let cell = c.args.cell in
    let old = c.args.token.now in
    let f = fails-none cell n old c.new-ended.result c.new-ended.ensures in
    let f = fails-next cell n 0 old _ _ _ _ f c.in_ok-fail_one.ensures.fails in
    let f = fails-next cell n 1 old _ _ _ _ f c.in_ok-fail_one-2.ensures.fails in
    some-err _ (fails-some cell n 2 old _ _ _ f c.in_err-fail_one-3.ensures.wants)

pub returns-in_err-fail_one-4-clause-wants : goal.returns-in_err-fail_one-4-clause-wants
returns-in_err-fail_one-4-clause-wants g c =
    let n = length g.N.Starts.starts in
    let cell = c.args.cell in
    let old = c.args.token.now in
    let f = fails-none cell n old c.new-ended.result c.new-ended.ensures in
    let f = fails-next cell n 0 old _ _ _ _ f c.in_ok-fail_one.ensures.fails in
    let f = fails-next cell n 1 old _ _ _ _ f c.in_ok-fail_one-2.ensures.fails in
    let f = fails-next cell n 2 old _ _ _ _ f c.in_ok-fail_one-3.ensures.fails in
    some-err _ (fails-some cell n 3 old _ _ _ f c.in_err-fail_one-4.ensures.wants)

pub returns-in_err-fail_one-5-clause-wants : goal.returns-in_err-fail_one-5-clause-wants
returns-in_err-fail_one-5-clause-wants g c =
    let n = length g.N.Starts.starts in
    let cell = c.args.cell in
    let old = c.args.token.now in
    let f = fails-none cell n old c.new-ended.result c.new-ended.ensures in
    let f = fails-next cell n 0 old _ _ _ _ f c.in_ok-fail_one.ensures.fails in
    let f = fails-next cell n 1 old _ _ _ _ f c.in_ok-fail_one-2.ensures.fails in
    let f = fails-next cell n 2 old _ _ _ _ f c.in_ok-fail_one-3.ensures.fails in
    let f = fails-next cell n 3 old _ _ _ _ f c.in_ok-fail_one-4.ensures.fails in
    some-err _ (fails-some cell n 4 old _ _ _ f c.in_err-fail_one-5.ensures.wants)

pub returns-in_err-fail_one-6-clause-wants : goal.returns-in_err-fail_one-6-clause-wants
returns-in_err-fail_one-6-clause-wants g c =
    let n = length g.N.Starts.starts in
    let cell = c.args.cell in
    let old = c.args.token.now in
    let f = fails-none cell n old c.new-ended.result c.new-ended.ensures in
    let f = fails-next cell n 0 old _ _ _ _ f c.in_ok-fail_one.ensures.fails in
    let f = fails-next cell n 1 old _ _ _ _ f c.in_ok-fail_one-2.ensures.fails in
    let f = fails-next cell n 2 old _ _ _ _ f c.in_ok-fail_one-3.ensures.fails in
    let f = fails-next cell n 3 old _ _ _ _ f c.in_ok-fail_one-4.ensures.fails in
    let f = fails-next cell n 4 old _ _ _ _ f c.in_ok-fail_one-5.ensures.fails in
    some-err _ (fails-some cell n 5 old _ _ _ f c.in_err-fail_one-6.ensures.wants)

pub returns-in_err-fail_one-7-clause-wants : goal.returns-in_err-fail_one-7-clause-wants
returns-in_err-fail_one-7-clause-wants g c =
    let n = length g.N.Starts.starts in
    let cell = c.args.cell in
    let old = c.args.token.now in
    let f = fails-none cell n old c.new-ended.result c.new-ended.ensures in
    let f = fails-next cell n 0 old _ _ _ _ f c.in_ok-fail_one.ensures.fails in
    let f = fails-next cell n 1 old _ _ _ _ f c.in_ok-fail_one-2.ensures.fails in
    let f = fails-next cell n 2 old _ _ _ _ f c.in_ok-fail_one-3.ensures.fails in
    let f = fails-next cell n 3 old _ _ _ _ f c.in_ok-fail_one-4.ensures.fails in
    let f = fails-next cell n 4 old _ _ _ _ f c.in_ok-fail_one-5.ensures.fails in
    let f = fails-next cell n 5 old _ _ _ _ f c.in_ok-fail_one-6.ensures.fails in
    some-err _ (fails-some cell n 6 old _ _ _ f c.in_err-fail_one-7.ensures.wants)

pub returns-in_err-fail_one-8-clause-wants : goal.returns-in_err-fail_one-8-clause-wants
returns-in_err-fail_one-8-clause-wants g c =
    let n = length g.N.Starts.starts in
    let cell = c.args.cell in
    let old = c.args.token.now in
    let f = fails-none cell n old c.new-ended.result c.new-ended.ensures in
    let f = fails-next cell n 0 old _ _ _ _ f c.in_ok-fail_one.ensures.fails in
    let f = fails-next cell n 1 old _ _ _ _ f c.in_ok-fail_one-2.ensures.fails in
    let f = fails-next cell n 2 old _ _ _ _ f c.in_ok-fail_one-3.ensures.fails in
    let f = fails-next cell n 3 old _ _ _ _ f c.in_ok-fail_one-4.ensures.fails in
    let f = fails-next cell n 4 old _ _ _ _ f c.in_ok-fail_one-5.ensures.fails in
    let f = fails-next cell n 5 old _ _ _ _ f c.in_ok-fail_one-6.ensures.fails in
    let f = fails-next cell n 6 old _ _ _ _ f c.in_ok-fail_one-7.ensures.fails in
    some-err _ (fails-some cell n 7 old _ _ _ f c.in_err-fail_one-8.ensures.wants)
