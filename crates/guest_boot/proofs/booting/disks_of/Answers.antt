use Rattle.std.proofs.Common.{◌≡◌, ℕ, ◌<◌, ◌+◌, ◌++◌, ◌∷◌, [], List, Vec, Global, Some, get_or, length, refl, sym, ap, ◌∙◌, arith}
use Rattle.std.proofs.lemmas.List.{map-append}
use Rattle.base_words.specs.declared.ids.CellId.{CellId}
use Rattle.guest_course.specs.BootCalls.{given_blocks}
use Rattle.block_caches.specs.Filling.{disk_seen, disks_seen}
use Rattle.block_caches.specs.declared.filling.HomeDisk.{HomeDisk}
use Rattle.guest_boot.specs.declared.source.Source.{Source}
use Rattle.guest_boot.proofs.CacheLemmas.{first_disks, disk-more, no-disk-more, disks-all}
use Rattle.guest_boot.proofs.booting.disks_of.Goals.{in-Some+in_ok-push, in_default}
use Rattle.guest_boot.proofs.booting.disks_of.Goals as goal

-- a guest's disk was added to those of the guests before it
added : (homes : List CellId) (sources : List Source) (n : ℕ) (home : CellId) (source : Source) (number : ℕ) (old new : List HomeDisk) (disk : HomeDisk) → n < length homes → n < length sources → source ≡ get_or sources n source → source.number ≡ Some number
    → disks_seen old ≡ first_disks n homes sources → new ≡ old ++ disk ∷ [] → disk_seen disk ≡ record { cell = (get_or homes n home).0; number = number; blocks = given_blocks source.disk } → disks_seen new ≡ first_disks (n + 1) homes sources
added homes sources n home source number old new disk few many is has before grown seen =
    ap disks_seen grown ∙ map-append disk_seen old (disk ∷ []) ∙ (λ i. before i ++ seen i ∷ []) ∙ sym (disk-more homes sources n home source number few many is has)

pub loop-guest-init : goal.loop-guest-init
loop-guest-init c = ap disks_seen c.new-disks.ensures.items

pub loop-guest-preserved : goal.loop-guest-preserved
loop-guest-preserved c =
    let homes = c.args.homes.now in
    let sources = c.args.sources.now in
    let guest = c.loop-guest.guest in
    let source = c.index-sources-guest.result in
    let there : guest < length sources = c.loop-guest-test.true in
    let few : guest < length homes = omega (arith, there, c.requires) in
    elim c.match-source.branch [
      | in-Some+in_ok-push w ↦ ap (λ (v : Vec HomeDisk Global). disks_seen v.items) w.disks-is
          ∙ added homes sources guest (record { 0 = 0 }) source w.in-Some.number c.loop-guest.disks.items w.push.new.self.items _ few there c.index-sources-guest.is w.in-Some.is c.loop-guest.invariant w.in_ok-push.ensures.items refl
      | in_default w ↦ ap (λ (v : Vec HomeDisk Global). disks_seen v.items) w.disks-is ∙ c.loop-guest.invariant
          ∙ sym (no-disk-more homes sources guest source few there c.index-sources-guest.is w.in_default.is)
    ]

pub returns : goal.returns
returns c =
    let past : length c.args.sources.now ≡ c.loop-guest.guest = omega (arith, c.loop-guest-test.false, c.loop-guest.auto.guest-end) in
    c.loop-guest.invariant ∙ disks-all c.args.homes.now c.args.sources.now c.loop-guest.guest (sym c.requires ∙ past) past
