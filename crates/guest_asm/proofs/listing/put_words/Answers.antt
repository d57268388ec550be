use Rattle.guest_asm.specs.Listing.{word_line}
use Rattle.guest_asm.proofs.WordRuns.{put_more}
use Rattle.guest_asm.proofs.listing.put_words.Goals as goal

pub loop-placed-preserved : goal.loop-placed-preserved
loop-placed-preserved c =
    put_more word_line c.args.text.now.items c.loop-placed.text.items c.put_word.new.text.items c.args.words.now c.loop-placed.placed-index _ c.loop-placed-test.true c.loop-placed.invariant c.in_ok-put_word.ensures
