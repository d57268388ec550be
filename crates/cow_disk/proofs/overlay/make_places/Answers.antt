use Rattle.std.proofs.Common.{rules}
use Rattle.std.proofs.lemmas.Result.{on_err_weaker}
use Rattle.cow_disk.proofs.Overlays.{nothing_more}
use Rattle.cow_disk.proofs.overlay.make_places.Goals as goal

pub returns-clause-same : goal.returns-clause-same
returns-clause-same c =
    nothing_more _ (λ f x g gives. search rules) c.resize_with.result c.args.count c.args.overlay.now.items c.resize_with.new.self.items _ c.requires.few c.resize_with.ensures.items
    (on_err_weaker c.resize_with.result (λ same. same.0) c.resize_with.ensures.err)
