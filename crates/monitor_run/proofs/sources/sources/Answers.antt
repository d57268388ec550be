use Rattle.std.proofs.Common.{◌≡◌, ◌∙◌, ◌≤◌, ℕ, List, Option, ap, length, sym, subst}
use Rattle.std.specs.Prelude.{All}
use Rattle.std.proofs.lemmas.Result.{IfOk-weaker}
use Rattle.admission.specs.Views.{disk_numbered, disks_seen}
use Rattle.monitor_run.specs.Sources.{shared_blocks, sources_of}
use Rattle.monitor_run.proofs.sources.sources.Goals as goal

pub with_disks-requires-clause-few : goal.with_disks-requires-clause-few
with_disks-requires-clause-few c =
    let blocks : shared_blocks c.as_slice.result.now ≡ disks_seen c.args.disks = ap shared_blocks c.as_slice.ensures ∙ ap disks_seen c.in_ok-bases.ensures in
    subst (λ (l : List (List (List ℕ))). All (λ (number : Option ℕ). length (disk_numbered l number) ≤ 1024) c.args.numbers.now) (sym blocks) c.requires.few

pub returns : goal.returns
returns c =
    let blocks : shared_blocks c.as_slice.result.now ≡ disks_seen c.args.disks = ap shared_blocks c.as_slice.ensures ∙ ap disks_seen c.in_ok-bases.ensures in
    IfOk-weaker c.with_disks.result _ _ (λ list is. is ∙ ap (λ (l : List (List (List ℕ))). sources_of l c.args.images c.args.numbers.now) blocks) c.with_disks.ensures
