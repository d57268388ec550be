use Rattle.std.proofs.Common.{◌≡◌, ℕ, ◌+◌, Some, ap, ◌∙◌, sym, subst, arith}
use Rattle.std.specs.Prelude.{slice_get}
use Rattle.node_frames.specs.Left.{cell_frames}
use Rattle.boot_frames.specs.Claims.{cache_claims, page_claims}
use Rattle.boot_frames.specs.declared.answers.Shortage.TheVariants.{Cell, Guest}
use Rattle.boot_frames.proofs.ChainLemmas.{chain-fewer}
use Rattle.boot_frames.proofs.NameLemmas.{CellFrom, GuestFrom, caches_enough, named_by}
use Rattle.boot_frames.proofs.law.the_first_short_is_one_of_them.Goals as goal

pub returns-clause-cell : goal.returns-clause-cell
returns-clause-cell c = λ layout cells cache needs left cell frames has is.
    named_by layout cells cache needs left (Cell cell frames has) _ is
    (λ (n : CellFrom layout cache 0 cells left (Cell cell frames has)).
    let same = n.is in
    let at : cell.0 ≡ 0 + n.place = cc in
    let all : frames ≡ cache = cc in
    let count : has ≡ n.frames = cc in
    let within = n.within in
    let few = n.few in
    record {
      within = omega arith;
      needs = all;
      free = count ∙ n.are ∙ ap (cell_frames layout left) (sym at);
      few = omega arith;
      lower = λ other below. n.lower other (omega arith) (omega arith);
    })
    (λ (n : GuestFrom 0 needs (Cell cell frames has)) none. let e = n.is in absurd (cc))

pub returns-clause-guest : goal.returns-clause-guest
returns-clause-guest c = λ layout cells cache needs left guest pages has is.
    named_by layout cells cache needs left (Guest guest pages has) _ is
    (λ (n : CellFrom layout cache 0 cells left (Guest guest pages has)). let e = n.is in absurd (cc))
    (λ (n : GuestFrom 0 needs (Guest guest pages has)) none.
    let same = n.is in
    let at : guest.0 ≡ 0 + n.place = cc in
    let all : n.need.pages ≡ pages = cc in
    let count : has ≡ n.has = cc in
    let place : n.place ≡ guest.0 = omega arith in
    let few = n.few in
    record {
      need = n.need;
      there = subst (λ (k : ℕ). slice_get needs k ≡ Some n.need) place n.there;
      needs_are = all;
      few = omega arith;
      caches = λ cell below. caches_enough layout cache 0 cells left none cell (omega arith) (omega arith);
    })

pub returns-clause-none : goal.returns-clause-none
returns-clause-none c = λ layout cells cache needs left none.
    let caches = caches_enough layout cache 0 cells left (chain-fewer layout (cache_claims cache 0 cells) (page_claims 0 needs) left none) in
    λ cell below. caches cell (omega arith) (omega arith)
