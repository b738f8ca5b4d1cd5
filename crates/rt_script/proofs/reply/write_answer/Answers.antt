use Rattle.rt_script.proofs.ReplyWords.{reply_words}
use Rattle.rt_script.proofs.reply.write_answer.Goals as goal

pub returns-in-Replied : goal.returns-in-Replied
returns-in-Replied g c = rw (c.in-Replied.is, ← c.reply.view_is) (reply_words _ _ _ _ (rw c.deref.ensures.value at c.write_reply.ensures))
