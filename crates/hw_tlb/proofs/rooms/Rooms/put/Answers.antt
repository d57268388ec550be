use Rattle.std.proofs.Common.{◌∙◌, ap, Option, List}
use Rattle.base_words.specs.Halves.{Half}
use Rattle.hw_tlb.specs.Tlb.{half_at}
use Rattle.hw_tlb.proofs.CountedLemmas.{counted-put, places-put}
use Rattle.hw_tlb.proofs.rooms.Rooms.put.Goals as goal

pub invariant_of-self : goal.invariant_of-self
invariant_of-self c =
    counted-put c.self.invariant c.args.place c.args.new.now c.number.result c.number_bucket-bucket.result c.key_bucket.result c.from.result c.from-2.result c.requires.place (ap (λ (ps : List (Option Half)). half_at ps c.args.place) c.self.view_is ∙ c.requires.free) c.requires.key c.number.ensures.number c.number_bucket-bucket.ensures.bucket c.number_bucket-bucket.ensures.small c.key_bucket.ensures.bucket c.key_bucket.ensures.small c.from.ensures c.from-2.ensures

pub returns : goal.returns
returns c = rw (← c.self.view_is) (places-put c.self.inside.rooms c.args.place c.args.new.now c.requires.key)
