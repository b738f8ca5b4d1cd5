use Rattle.std.proofs.Common.{◌∙◌, ap}
use Rattle.rt_marks.specs.Marks.{without_mark}
use Rattle.rt_marks.proofs.marks.Marks.unset.Goals as goal

pub returns : goal.returns
returns c = c.remove.ensures.marks ∙ ap (without_mark c.args.name.now) c.self.view_is
