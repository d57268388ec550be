use Rattle.std.proofs.Common.{◌≡◌, ℕ, ◌-◌, ◌/◌, Ok, sym, ap, ◌∙◌, subst}
use Rattle.base_words.specs.declared.place.Place.TheVariants.{Memory}
use Rattle.base_words.specs.Place.{place}
use Rattle.private_machine.specs.Vcpu.{space_of}
use Rattle.flat_machine.specs.Windows.{IsPageOf}
use Rattle.flat_machine.proofs.PageLemmas.{page-of}
use Rattle.flat_machine.proofs.quiet.reach_far.Goals as goal

pub returns : goal.returns
returns c =
    let a = c.args.address in
    let space = space_of c.args.current.now in
    let offset = c.in-Ok-Memory.offset in
    let there : place space c.args.pages 1 c.args.purpose a ≡ Ok (Memory offset) = sym c.place.ensures.place ∙ c.in-Ok-Memory.is ∙ ap Ok c.in-Ok-Memory.field-0-is in
    subst (λ (n : ℕ). IsPageOf c.args.purpose space c.args.pages (record { number = a / 4096; start = offset - n })) (sym c.from.ensures) (page-of c.args.purpose space c.args.pages 1 a offset (rw c.in-Ok-Memory.field-0-is at c.in-Ok-Memory.ensures.physical) there)
