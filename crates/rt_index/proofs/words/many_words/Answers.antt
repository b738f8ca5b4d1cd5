use Rattle.std.proofs.Common.{refl}
use Rattle.rt_index.proofs.KeptWords.{no_words}
use Rattle.rt_index.proofs.words.many_words.Goals as goal

pub returns : goal.returns
returns c = λ text. no_words text 256 _ refl
