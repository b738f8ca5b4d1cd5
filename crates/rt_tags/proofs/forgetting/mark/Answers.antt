use Rattle.std.proofs.Common.{◌∙◌, ap, set, sym, true}
use Rattle.rt_tags.specs.Seen.{names_of}
use Rattle.rt_tags.proofs.Marked.{none_marked, one_marked}
use Rattle.rt_tags.proofs.forgetting.mark.Goals as goal

pub returns-in-Some-clause-marks : goal.returns-in-Some-clause-marks
returns-in-Some-clause-marks c = λ test e.
    ap (λ v. set v c.in-Some.place true) e
    ∙ one_marked c.args.name.now test (sym c.eq.ensures ∙ c.if-eq.false) (names_of c.args.names.now) c.in-Some.place c.requires.differ c.in-Some.ensures.index

pub returns-in-None-clause-marks : goal.returns-in-None-clause-marks
returns-in-None-clause-marks c = λ test e. e ∙ none_marked c.args.name.now test (names_of c.args.names.now) (sym c.in-None.ensures.found)
