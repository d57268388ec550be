-- A load and a store are answered so.
use Rattle.std.proofs.Common.{◌≡◌, ℕ, ◌+◌, ◌%◌, map, ap, ◌∙◌, subst}
use Rattle.private_machine.specs.Links.{line_of}
use Rattle.private_machine.specs.Showing.{shown_by}
use Rattle.private_machine.specs.Vcpu.{space_of}
use Rattle.flat_machine.specs.Parts.{Parts}
use Rattle.flat_machine.proofs.SoundLemmas.{shown_by-all-unlinked}
use Rattle.flat_machine.proofs.TouchLemmas.{load-answers, store-answers}
use Rattle.flat_machine.proofs.quiet.touch.Goals as goal

pub returns-in-Some-clause-answers : goal.returns-in-Some-clause-answers
returns-in-Some-clause-answers c done =
    let p : Parts = record { before = c.args.before.now; registers = c.args.current.now.registers; behind = c.args.behind.now; memory = c.args.memory.now } in
    let aligned = subst (λ (n : ℕ). c.in-Load.address % n ≡ 0) c.load_unit-unit.ensures.value c.in-Some.ensures.aligned in
    rw c.in-Load.is (load-answers c.args.pages (space_of c.args.current.now) p c.in-Load.kind c.in-Load.address c.in-Load.target c.in-Some.start c.load_from.new.regs c.in-Some.ensures.page aligned c.load_from.ensures)

pub returns-in-Some-reached-clause-before_shows : goal.returns-in-Some-reached-clause-before_shows
returns-in-Some-reached-clause-before_shows c = ap (map shown_by) c.store_into.ensures.before ∙ shown_by-all-unlinked (line_of (c.in-Some-reached.start + c.in-Store.address % 4096)) c.args.before.now

pub returns-in-Some-reached-clause-behind_shows : goal.returns-in-Some-reached-clause-behind_shows
returns-in-Some-reached-clause-behind_shows c = ap (map shown_by) c.store_into.ensures.behind ∙ shown_by-all-unlinked (line_of (c.in-Some-reached.start + c.in-Store.address % 4096)) c.args.behind.now

pub returns-in-Some-reached-clause-answers : goal.returns-in-Some-reached-clause-answers
returns-in-Some-reached-clause-answers c done =
    let p : Parts = record { before = c.args.before.now; registers = c.args.current.now.registers; behind = c.args.behind.now; memory = c.args.memory.now } in
    let q : Parts = record { before = c.store_into.new.before; registers = c.advance.new.regs; behind = c.store_into.new.behind; memory = c.store_into.new.memory } in
    let aligned = subst (λ (n : ℕ). c.in-Store.address % n ≡ 0) c.store_unit-unit.ensures.value c.in-Some-reached.ensures.aligned in
    rw c.in-Store.is (store-answers c.args.pages (space_of c.args.current.now) p q c.in-Store.kind c.in-Store.address c.in-Store.value c.in-Some-reached.start c.in-Some-reached.ensures.page aligned c.advance.ensures c.store_into.ensures.before c.store_into.ensures.behind c.store_into.ensures.memory)
