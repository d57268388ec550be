use Rattle.std.proofs.Common.{◌≡◌, length, List, sym, ap, ◌∙◌, arith}
use Rattle.std.proofs.lemmas.List.{length-map}
use Rattle.base_words.specs.declared.ids.CellId.{CellId}
use Rattle.guest_boot.specs.declared.source.Source.{Source}
use Rattle.guest_boot.specs.Booting.{home_in}
use Rattle.guest_boot.proofs.BootLemmas.{sources-count}
use Rattle.guest_boot.proofs.booting.caches_of.Goals as goal

-- each source has its guest's home
pub disks_of-requires : goal.disks_of-requires
disks_of-requires c =
    let machine = c.args.machine.now in
    let homes : length c.args.homes.now ≡ length machine.guests = sym (length-map c.args.homes.now (λ (x : CellId). x.0)) ∙ ap length c.requires.homes ∙ length-map machine.guests (home_in machine) in
    ap (λ (l : List Source). length l) c.as_slice.ensures ∙ sources-count machine.guests c.args.sources.now c.requires.sources ∙ sym homes ∙ ap (λ (l : List CellId). length l) (sym c.as_slice-2.ensures)

pub fill_caches-requires : goal.fill_caches-requires
fill_caches-requires c =
    let machine = c.args.machine.now in
    let count = sources-count machine.guests c.args.sources.now c.requires.sources in
    omega (arith, c.len.ensures, count, c.requires.described.few_guests)
