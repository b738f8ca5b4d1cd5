use Rattle.std.proofs.Common.{◌≡◌, ◌∙◌, arith, length}
use Rattle.rt_stamps.specs.Words.{as_words}
use Rattle.rt_plans.proofs.InsertTexts.{one_stamp}
use Rattle.rt_plans.proofs.stamps.Stamps.of.Goals as goal

pub returns-then-text-eq1-clause-ok : goal.returns-then-text-eq1-clause-ok
returns-then-text-eq1-clause-ok c =
    let one : length c.args.text.now ≡ 1 = omega (arith, c.if-text-eq1.true) in
    c.of_one.ensures ∙ one_stamp c.args.site.number c.args.count (as_words c.args.names.now) c.args.text.now one
