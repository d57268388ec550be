use Rattle.std.proofs.Common.{rules, ◌≡◌, ◌+◌, ◌<◌, ◌≤◌, ◌++◌, ℕ, List, [], ◌∷◌, length, get_or, Option, None, sym, ap, ◌∙◌, subst, arith, append_assoc, length-append}
use Rattle.elf_image.specs.declared.image.Image.{Image}
use Rattle.private_machine.specs.Disk.{Block}
use Rattle.admission.specs.Views.{disk_numbered}
use Rattle.guest_boot.specs.declared.source.Source.{Source}
use Rattle.monitor_run.specs.Sources.{shared_blocks, source_of}
use Rattle.monitor_run.proofs.SourceLemmas.{image-there, sources_of-next}
use Rattle.monitor_run.proofs.sources.with_disks.Goals as goal

pub loop-image-init : goal.loop-image-init
loop-image-init c = (
  tt,
  tt,
  c.new-sources.ensures,
  ap (λ (l : List Source). length l) c.new-sources.ensures,
  c.into_iter-image-iterator.ensures.into_iter_gives.0 ∙ c.into_vec-image-items.ensures,
)

-- there is a number for the image, of few blocks
pub disk_of-requires : goal.disk_of-requires
disk_of-requires c =
    let i = c.loop-image.invariant in
    let there = image-there c.args.images c.loop-image.yielded _ _ c.in-Some.image i.4 c.in-Some.ensures.steps.0 in
    let many = c.requires.many in
    let count = i.3 in
    let len : c.len.result ≡ length c.loop-image.sources = search rules in
    let f = disk_numbered (shared_blocks c.args.bases.now) in
    let few = c.requires.few c.len.result None (omega (arith, there, many, count, len)) in
    let bound : length (f c.number_at-number.result) ≤ 1024 = subst (λ (n : Option ℕ). length (f n) ≤ 1024) (sym c.number_at-number.ensures) few in
    omega (arith, bound)

pub loop-image-preserved : goal.loop-image-preserved
loop-image-preserved c =
    let i = c.loop-image.invariant in
    let numbers : List (Option ℕ) = c.args.numbers.now in
    let disks = shared_blocks c.args.bases.now in
    let yielded = c.loop-image.yielded in
    let image = c.in-Some.image in
    let number : Option ℕ = c.number_at-number.result in
    let next = c.in-Some.ensures.steps.0 in
    let there = image-there c.args.images yielded _ _ image i.4 next in
    let many = c.requires.many in
    let within : length yielded < length numbers = omega (arith, there, many) in
    let len : c.len.result ≡ length c.loop-image.sources = search rules in
    let place : c.len.result ≡ length yielded = len ∙ i.3 in
    let at : number ≡ get_or numbers (length yielded) None = c.number_at-number.ensures ∙ ap (λ (n : ℕ). get_or numbers n None) place in
    let source : Source = record { image = image; disk = c.in_ok-disk.disk; number = number } in
    let made : source ≡ source_of disks image number = ap (λ (d : List Block). let s : Source = record { image = image; disk = d; number = number } in s) c.in_ok-disk.ensures in
    let grown : c.push.new.self ≡ c.loop-image.sources ++ source ∷ [] = c.in_ok-push.ensures.ok in (
      tt,
      tt,
      grown ∙ ap (λ (s : Source). c.loop-image.sources ++ s ∷ []) made ∙ ap (λ (l : List Source). l ++ source_of disks image number ∷ []) i.2
          ∙ sym (sources_of-next disks yielded numbers image number within at),
      ap (λ (l : List Source). length l) grown ∙ length-append c.loop-image.sources (source ∷ []) ∙ ap (λ (n : ℕ). n + 1) i.3 ∙ sym (length-append yielded (image ∷ [])),
      append_assoc yielded (image ∷ []) _ ∙ ap (λ (l : List Image). yielded ++ l) (sym next) ∙ i.4,
    )
