use Rattle.std.proofs.Common.{◌∙◌, ap}
use Rattle.rt_marks.specs.Marks.{marks_removed}
use Rattle.rt_marks.proofs.marks.Marks.removed.Goals as goal

pub returns : goal.returns
returns c = c.removed.ensures.marks ∙ ap (marks_removed c.args.place c.args.n) c.self.view_is
