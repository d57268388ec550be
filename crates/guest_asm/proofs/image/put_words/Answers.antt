use Rattle.std.proofs.Common.{refl}
use Rattle.guest_asm.proofs.WordRuns.{put_next}
use Rattle.guest_asm.proofs.image.put_words.Goals as goal

pub loop-word-preserved : goal.loop-word-preserved
loop-word-preserved c =
    put_next c.args.bytes.now.items c.loop-word.bytes.items c.put_word.new.bytes.items c.args.words.now c.loop-word.word-index _ c.loop-word-test.true refl c.loop-word.invariant c.in_ok-put_word.ensures
