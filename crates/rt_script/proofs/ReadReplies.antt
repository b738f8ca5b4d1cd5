-- The words of a reply, read back from its text.
use Rattle.std.proofs.Common.{inl, List, [], ◌∷◌, refl, codes}
use Rattle.rt_stamps.specs.Words.{Word}
use Rattle.rt_words.specs.Spelling.{Spells}
use Rattle.rt_words.proofs.WrittenWords.{spaced_words, lined, line_ends}
use Rattle.rt_script.specs.declared.answer.Answer.TheVariants.{Replied}
use Rattle.rt_script.specs.Replies.{text_of_answer}

pub read_back : (words : List Word) → Spells (text_of_answer (Replied words)) (codes "=" ∷ words)
read_back words = ([], 61 ∷ [], spaced_words words, refl, refl, inl ((refl, refl), refl), line_ends words, lined words)
