use Rattle.std.proofs.Common.{◌∙◌, ap}
use Rattle.rt_stamps.specs.Words.{as_words}
use Rattle.rt_marks.specs.Marks.{without_all}
use Rattle.rt_marks.proofs.marks.Marks.unset_all.Goals as goal

pub returns : goal.returns
returns c = c.remove_all.ensures.marks ∙ ap (without_all (as_words c.args.names.now)) c.self.view_is
