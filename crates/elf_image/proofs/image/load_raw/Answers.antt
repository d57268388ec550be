use Rattle.std.proofs.Common.{◌*◌, refl, sym, ◌∙◌, arith}
use Rattle.elf_image.proofs.Raw.{zeros_behind}
use Rattle.elf_image.proofs.Chain.{raw_fault_none}
use Rattle.elf_image.proofs.image.load_raw.Goals as goal

pub returns : goal.returns
returns c = record {
  sound = raw_fault_none c.args.bytes.now c.args.pages (omega arith) (omega arith);
  entry = refl;
  memory = c.in_ok-lay_out_raw.ensures.bytes ∙ sym (zeros_behind c.args.bytes.now (4096 * c.args.pages) (omega arith));
  whole = c.in_ok-lay_out_raw.ensures.whole;
  count = c.in_ok-lay_out_raw.ensures.count;
}
