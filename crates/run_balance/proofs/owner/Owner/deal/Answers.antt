use Rattle.std.proofs.Common.{◌≡◌, ◌<◌, sym, ap, ◌∙◌, subst, refl, arith, ℕ, length, Some, slice_get}
use Rattle.std.proofs.lemmas.Grind.{common_steps}
use Rattle.run_balance.specs.Shares.{flat, whose_at, share_at}
use Rattle.run_balance.specs.Sides.{side_at, IsStretch}
use Rattle.run_balance.specs.Owners.{stretch_of}
use Rattle.run_balance.specs.declared.side.Side.TheVariants.{Own}
use Rattle.run_balance.proofs.Owning.{side_part}
use Rattle.run_balance.proofs.Steps.{own_side, own_there, deal_item, dealt_there}
use Rattle.run_balance.proofs.owner.Owner.deal.Goals as goal

pub unreachable-requires : goal.unreachable-requires
unreachable-requires c =
    let k = c.requires.kept in
    let o = c.args.self.now in
    let is = k.2 in
    let d = c.index-at.result.now in
    let now : d ≡ stretch_of o = grind (arith, common_steps, c.index-at.ensures, c.number.ensures, is.reached_all, is.number) in
    let less : d < length k.0 = (let a = k.3.inside in let b = is.many in omega arith) in
    let at : side_at o.sides.items d ≡ c.index_mut.result.now = grind (arith, common_steps, c.index_mut.ensures.value, is.sides_all, less) in
    let s = own_there k.0 (flat k.1) (length k.1) o d is less (ap (whose_at (flat k.1)) now ∙ k.3.own) in
    c.in_default.not-Own s.0 (sym at ∙ s.1)

pub deal-requires-clause-is : goal.deal-requires-clause-is
deal-requires-clause-is c =
    let k = c.requires.kept in
    let o = c.args.self.now in
    let is = k.2 in
    let d = c.index-at.result.now in
    let now : d ≡ stretch_of o = grind (arith, common_steps, c.index-at.ensures, c.number.ensures, is.reached_all, is.number) in
    let less : d < length k.0 = (let a = k.3.inside in let b = is.many in omega arith) in
    let s = c.in-Own.stretch in
    let at : side_at o.sides.items d ≡ Own s = grind (arith, common_steps, c.index_mut.ensures.value, c.in-Own.is, is.sides_all, less) in
    let own = own_side k.0 (flat k.1) (length k.1) o d s is less at in
    let owners : c.len-owners.result ≡ length k.1 = (let a = c.len-owners.ensures in let b = is.reached_all in omega arith) in (
      share_at (flat k.1) d,
      subst (λ (n : ℕ). IsStretch (share_at (flat k.1) d) n s) (sym owners) own.1,
      (λ i. slice_get (share_at (flat k.1) (now i)) (sym (dealt_there o d s at now) i)) ∙ k.4,
      (side_part k.0 (flat k.1) (length k.1) o d (Own s) is less at).share_is,
    )

pub returns-clause-kept : goal.returns-clause-kept
returns-clause-kept c deques shares is =
    let k = c.requires.kept in
    let o = c.args.self.now in
    let was = k.2 in
    let d = c.index-at.result.now in
    let now : d ≡ stretch_of o = grind (arith, common_steps, c.index-at.ensures, c.number.ensures, was.reached_all, was.number) in
    let less' : d < length k.0 = (let a = k.3.inside in let b = was.many in omega arith) in
    let less : d < length deques = (let a = was.sides_all in let b = is.sides_all in omega arith) in
    let s = c.in-Own.stretch in
    let at : side_at o.sides.items d ≡ Own s = grind (arith, common_steps, c.index_mut.ensures.value, c.in-Own.is, is.sides_all, less) in
    let own = own_side deques (flat shares) (length shares) o d s is less at in
    let owners : c.len-owners.result ≡ length shares = (let a = c.len-owners.ensures in let b = is.reached_all in omega arith) in
    let same : share_at (flat k.1) d ≡ share_at (flat shares) d = sym (side_part k.0 (flat k.1) (length k.1) o d (Own s) was less' at).share_is ∙ (side_part deques (flat shares) (length shares) o d (Own s) is less at).share_is in
    let item : slice_get (share_at (flat shares) d) s.dealt ≡ Some c.args.item = (λ i. slice_get (sym same i) s.dealt) ∙ (λ i. slice_get (share_at (flat k.1) (now i)) (sym (dealt_there o d s at now) i)) ∙ k.4 in
    deal_item deques (flat shares) (length shares) o d s c.deal.new.self (Rattle.std.specs.Vec.with_item o.sides d (Own c.deal.new.self)) c.deal.ensures.view.0 is less at now
    (subst (λ (n : ℕ). IsStretch (share_at (flat shares) d) n c.deal.new.self) owners (c.deal.ensures.is (share_at (flat shares) d) (subst (λ (n : ℕ). IsStretch (share_at (flat shares) d) n s) (sym owners) own.1) item))
    c.deal.ensures.deque c.deal.ensures.view.1 refl
