use Rattle.std.proofs.Common.{◌==◌, refl}
use Rattle.rt_oplog.proofs.Sets.{split}
use Rattle.rt_oplog.proofs.SameEnds.{end_none}
use Rattle.rt_oplog.proofs.ends.Ends.new.Goals as goal

pub returns : goal.returns
returns c = λ s. split (0 == s) (λ e. rw e refl) (λ e. rw e (end_none c.new.result c.new.ensures.values s))
