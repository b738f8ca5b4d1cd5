use Rattle.std.proofs.Common.{◌∷◌, codes}
use Rattle.rt_script.specs.declared.answer.Answer.TheVariants.{Replied}
use Rattle.rt_script.specs.Replies.{text_of_answer}
use Rattle.rt_script.proofs.ReadReplies.{read_back}
use Rattle.rt_words.proofs.Spelling.{line_spells_one}
use Rattle.rt_script.proofs.laws.reply_is_read_back.Goals as goal

pub returns-clause-spells : goal.returns-clause-spells
returns-clause-spells c = read_back

pub returns-clause-nothing_else : goal.returns-clause-nothing_else
returns-clause-nothing_else c words others h = line_spells_one (text_of_answer (Replied words)) others (codes "=" ∷ words) h (read_back words)
