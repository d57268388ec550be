use Rattle.std.proofs.Common.{rules, ◌≡◌, ℕ, ◌∙◌, sym, ap, length, arith, Some, List, refl}
use Rattle.std.specs.Prelude.{slice_get, slice_index_or}
use Rattle.machine_desc.specs.declared.machine.GuestSpec.{GuestSpec}
use Rattle.base_words.specs.declared.input.InputEntry.{InputEntry}
use Rattle.machine_desc.specs.Bounds.{IsGuest}
use Rattle.guest_course.specs.CourseView.{surroundings}
use Rattle.guest_course.specs.declared.site.Around.{Around}
use Rattle.guest_course.specs.declared.site.Site.{Site}
use Rattle.guest_boot.proofs.ListLemmas.{get-index, get-there, all-get, on-ok}
use Rattle.node_frames.specs.Layout.{layout_of}
use Rattle.node_frames.specs.Places.{cell_of_node}
use Rattle.boot_frames.specs.Claims.{page_claim}
use Rattle.boot_frames.specs.Needs.{need_of}
use Rattle.guest_boot.proofs.BootLemmas.{may-start, started, wired}
use Rattle.guest_boot.proofs.CacheLemmas.{blocks-lie}
use Rattle.guest_boot.proofs.LotLemmas.{holds-for, is-around, fits-around, lot-placed}
use Rattle.guest_boot.specs.Booting.{left_behind}
use Rattle.guest_boot.proofs.booting.boot_one.Goals as goal

-- what the guest is told of the machine around it
abbrev around-of : ℕ → ℕ → GuestSpec → Site → Around
around-of number disk spec site = record { number = record { 0 = number }; disk = disk; profile = spec.profile; home = spec.node; site = site }

pub boot-requires-clause-may : goal.boot-requires-clause-may
boot-requires-clause-may c =
    let machine = c.args.machine.now in
    let spec = c.index-as_slice-number.result in
    let there = get-there machine.guests c.args.number c.requires.there in
    let is : slice_index_or c.as_slice.result.now c.args.number spec ≡ spec = search rules in
    let same : there.0 ≡ spec = sym (get-index machine.guests c.args.number there.0 spec there.1).1 ∙ ap (λ (l : List GuestSpec). slice_index_or l c.args.number spec) (sym c.as_slice.ensures) ∙ is in
    let at : slice_get machine.guests c.args.number ≡ Some spec = there.1 ∙ ap Some same in
    let guest : IsGuest machine.shape.nodes spec = all-get (IsGuest machine.shape.nodes) machine.guests c.args.number spec c.requires.described.guests at in
    let backed : length c.args.lot.frames ≡ length c.args.source.image.pages = (c.requires.lot spec at).taken.count ∙ sym (c.requires.source spec at).pages in
    may-start machine c.args.plan.now _ c.args.source spec spec.vcpus c.args.lot.frames c.requires.described c.in_ok-site_of.ensures guest (c.requires.source spec at) refl refl backed

-- its ends of the wires
pub boot-requires-clause-wired : goal.boot-requires-clause-wired
boot-requires-clause-wired c =
    let machine = c.args.machine.now in
    let spec = c.index-as_slice-number.result in
    let there = get-there machine.guests c.args.number c.requires.there in
    let is : slice_index_or c.as_slice.result.now c.args.number spec ≡ spec = search rules in
    let same : there.0 ≡ spec = sym (get-index machine.guests c.args.number there.0 spec there.1).1 ∙ ap (λ (l : List GuestSpec). slice_index_or l c.args.number spec) (sym c.as_slice.ensures) ∙ is in
    let at : slice_get machine.guests c.args.number ≡ Some spec = there.1 ∙ ap Some same in
    wired machine (around-of c.args.number c.unwrap_or-2.result spec c.in_ok-site_of.field-0) spec c.args.wires.now c.args.passes c.args.number c.in_ok-site_of.ensures refl refl at c.requires.wires c.requires.passes

-- the lot's holder is the guest's
pub boot-requires-clause-holds : goal.boot-requires-clause-holds
boot-requires-clause-holds c =
    let machine = c.args.machine.now in
    let table = c.args.table.now in
    let layout = layout_of machine.shape in
    let spec = c.index-as_slice-number.result in
    let there = get-there machine.guests c.args.number c.requires.there in
    let is : slice_index_or c.as_slice.result.now c.args.number spec ≡ spec = search rules in
    let same : there.0 ≡ spec = sym (get-index machine.guests c.args.number there.0 spec there.1).1 ∙ ap (λ (l : List GuestSpec). slice_index_or l c.args.number spec) (sym c.as_slice.ensures) ∙ is in
    let at : slice_get machine.guests c.args.number ≡ Some spec = there.1 ∙ ap Some same in
    let lot = c.requires.lot spec at in
    let left = left_behind machine c.args.number in
    let claim = page_claim c.args.number (need_of spec) in
    holds-for table layout (cell_of_node layout spec.node.0) c.args.lot _ c.requires.frames lot.taken.new
    (record {
      frames = c.a_lot_holds_its_frames.ensures.frames table layout left claim c.args.lot lot;
      under = c.a_lot_holds_its_frames.ensures.under table layout left claim c.args.lot lot;
      loans = c.a_lot_holds_its_frames.ensures.loans table layout left claim c.args.lot lot;
    })
    c.requires.once refl (is-around machine (around-of c.args.number c.unwrap_or-2.result spec c.in_ok-site_of.field-0) spec c.in_ok-site_of.ensures refl)

pub returns : goal.returns
returns c =
    let machine = c.args.machine.now in
    let plan = c.args.plan.now in
    let spec = c.index-as_slice-number.result in
    let input = c.index-as_slice-number-2.result in
    let there = get-there machine.guests c.args.number c.requires.there in
    let is : slice_index_or c.as_slice.result.now c.args.number spec ≡ spec = search rules in
    let same : there.0 ≡ spec = sym (get-index machine.guests c.args.number there.0 spec there.1).1 ∙ ap (λ (l : List GuestSpec). slice_index_or l c.args.number spec) (sym c.as_slice.ensures) ∙ is in
    let at : slice_get machine.guests c.args.number ≡ Some spec = there.1 ∙ ap Some same in
    let each = c.requires.described.each_input in
    let few = c.requires.there in
    let typed = get-there plan.input c.args.number (omega (arith, each, few)) in
    let is-input : slice_index_or c.as_slice-2.result.now c.args.number input ≡ input = search rules in
    let same-input : typed.0 ≡ input = sym (get-index plan.input c.args.number typed.0 input typed.1).1 ∙ ap (λ (l : List (List InputEntry)). slice_index_or l c.args.number input) (sym c.as_slice-2.ensures) ∙ is-input in
    let at-input : slice_get plan.input c.args.number ≡ Some input = typed.1 ∙ ap Some same-input in
    let lot = c.requires.lot spec at in
    let around = around-of c.args.number c.unwrap_or-2.result spec c.in_ok-site_of.field-0 in
    let placed = lot-placed machine plan c.args.table.now c.args.number spec c.args.lot c.requires.fresh lot in
    let fits = fits-around c.args.table.now machine plan around spec c.requires.described c.requires.frames c.requires.lends c.in_ok-site_of.ensures refl in
    let lie = blocks-lie c.args.table.now.terms (layout_of machine.shape) _ machine.cache _ _ _ c.args.indexes.now _ (surroundings around) c.requires.frames (is-around machine around spec c.in_ok-site_of.ensures refl) c.requires.cached.1 in
    on-ok _ _ c.boot.result (λ guest starts. started machine plan around c.args.source spec c.args.lot.frames input c.args.seat (record { table = c.args.table.now; wires = c.args.wires.now; indexes = c.args.indexes.now }) c.args.passes c.args.lot.holder.table c.args.number guest c.in_ok-site_of.ensures refl refl refl at at-input placed c.requires.seat.number_is starts lot.made fits lie c.requires.passes.guest_is) c.boot.ensures
