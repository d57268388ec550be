-- The map has opcode 0 at its first place alone.
use Rattle.std.proofs.Common.{◌≡◌, ◌<◌, ◌/◌, sym, ap, ◌∙◌, slice_index_or, arith}
use Rattle.base_words.specs.declared.instr.Primary.TheVariants as primary
use Rattle.base_words.specs.OpcodeMap.{primary_map}
use Rattle.mips_isa.specs.PlaceCodes.{primary_code}
use Rattle.mips_isa.proofs.Places.{primary_free, primary-at}
use Rattle.mips_isa.proofs.decoder.decode.Goals as goal

pub unreachable-requires : goal.unreachable-requires
unreachable-requires c =
    let k = c.args.word / 67108864 in
    let fits = c.ranges.word.fits in
    let few : k < 64 = omega (arith, fits) in
    let is : slice_index_or primary_map k primary.Reserved ≡ primary.Special = sym c.primary-place.ensures ∙ c.in-Special.is in
    let at = primary-at k few (ap primary_free is) in
    let code : primary_code (slice_index_or primary_map k primary.Reserved) ≡ 0 = ap primary_code is in
    c.if-word-eq0.false (sym at ∙ code)
