use Rattle.std.proofs.Common.{◌∙◌, ◌<◌, ◌^◌, ap, sym, subst, length, List, ℕ, map}
use Rattle.std.proofs.lemmas.List.{length-map}
use Rattle.private_machine.specs.Disk.{as_given}
use Rattle.cow_disk.specs.DiskView.{base_pages}
use Rattle.monitor_run.proofs.sources.disk_of.Goals as goal

-- as many pages as blocks
pub new-requires : goal.new-requires
new-requires c = subst (λ (n : ℕ). n < 2 ^ 32) (sym (ap (λ (l : List (List ℕ)). length l) c.in_ok-base_of.ensures) ∙ length-map (base_pages c.in_ok-base_of.field-0) (λ page. page.value)) c.requires

pub returns : goal.returns
returns c = c.new.ensures ∙ ap (λ (l : List (List ℕ)). map as_given l) c.in_ok-base_of.ensures
