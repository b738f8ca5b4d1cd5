use Rattle.rt_script.proofs.ReplyWords.{pushed_words}
use Rattle.rt_script.proofs.reply.push_bare.Goals as goal

pub returns-in-Replied : goal.returns-in-Replied
returns-in-Replied c = rw (c.in-Replied.is, ← c.reply.view_is) (pushed_words _ _ _ _ (rw c.deref.ensures.value at c.push_reply.ensures))
