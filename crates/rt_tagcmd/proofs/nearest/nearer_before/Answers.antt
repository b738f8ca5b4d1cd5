use Rattle.std.proofs.Common.{◌∙◌, Some, ap, option_map, sym}
use Rattle.rt_marks.specs.Seen.{spotted}
use Rattle.rt_tagcmd.proofs.About.{alone_before, found_before, kept_before, other_before}
use Rattle.rt_tagcmd.proofs.nearest.nearer_before.Goals as goal
use Rattle.rt_tagcmd.proofs.nearest.nearer_before.Goals.{then-comes_before, else-comes_before}

pub returns-then-not-comes_before : goal.returns-then-not-comes_before
returns-then-not-comes_before c = λ marks o e. kept_before (spotted c.args.here.now) (spotted c.args.own) marks (option_map spotted c.args.found) (sym c.comes_before.ensures ∙ c.if-not-comes_before.true) e

pub returns-after-comes_before : goal.returns-after-comes_before
returns-after-comes_before c = λ marks o e.
    let here = spotted c.args.here.now in
    let own = spotted c.args.own in
    let mark = spotted c.in-Some.mark in
    let found = option_map spotted c.args.found in
    let passes = sym c.comes_before.ensures ∙ c.if-not-comes_before.false in
    let some = ap (option_map spotted) c.in-Some.is in
    elim c.if-comes_before.branch [
      | then-comes_before w ↦ ap (λ v. Some (spotted v)) w.result-is ∙ found_before here own mark marks found some (sym c.comes_before-in-Some.ensures ∙ w.if-comes_before.true) e
      | else-comes_before w ↦ ap (λ v. Some (spotted v)) w.result-is ∙ other_before here own mark marks found o passes some (sym c.comes_before-in-Some.ensures ∙ w.if-comes_before.false) e
    ]

pub returns-in-None : goal.returns-in-None
returns-in-None c = λ marks o e. alone_before (spotted c.args.here.now) (spotted c.args.own) marks (option_map spotted c.args.found) (sym c.comes_before.ensures ∙ c.if-not-comes_before.false) (ap (option_map spotted) c.in-None.is) e
