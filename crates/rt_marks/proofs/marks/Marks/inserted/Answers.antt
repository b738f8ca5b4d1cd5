use Rattle.std.proofs.Common.{◌∙◌, ◌+◌, ◌≤◌, ap, subst, sym}
use Rattle.std.specs.List.{AllByRecursion}
use Rattle.rt_marks.specs.Marks.{Mark, marks_inserted}
use Rattle.rt_marks.proofs.marks.Marks.inserted.Goals as goal

pub inserted-requires-clause-fits : goal.inserted-requires-clause-fits
inserted-requires-clause-fits c = subst (λ v. AllByRecursion (λ (m : Mark). m.place + c.args.n ≤ 18446744073709551615) v) (sym c.self.view_is) c.requires.fits

pub returns : goal.returns
returns c = c.inserted.ensures.marks ∙ ap (marks_inserted c.args.place c.args.n) c.self.view_is
