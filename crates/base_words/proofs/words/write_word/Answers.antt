use Rattle.base_words.proofs.WordLemmas.{with_word-put_mid}
use Rattle.base_words.proofs.words.write_word.Goals as goal

pub returns : goal.returns
returns c = with_word-put_mid c.args.offset c.args.word _ _ c.requires c.write_u32.ensures
