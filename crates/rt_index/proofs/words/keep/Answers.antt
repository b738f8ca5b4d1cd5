use Rattle.rt_index.proofs.KeptWords.{set_words, turned_words}
use Rattle.std.proofs.Common.{◌-◌, length}
use Rattle.rt_index.proofs.words.keep.Goals as goal

pub returns-then-not-is_empty : goal.returns-then-not-is_empty
returns-then-not-is_empty c = λ text are is.
    set_words text 0 c.rotate_right.new.self c.args.word
    (turned_words text (length c.args.words.now - 1) c.args.words.now c.rotate_right.new.self are c.rotate_right.ensures.after) is
