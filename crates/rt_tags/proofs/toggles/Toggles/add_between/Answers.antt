use Rattle.std.proofs.Common.{◌∙◌, ap, arith, sym}
use Rattle.std.proofs.lemmas.Bool.Decides.{Decides-eqb}
use Rattle.rt_tags.specs.Borders.{is_tagged}
use Rattle.rt_tags.proofs.Beyond.{same_none}
use Rattle.rt_tags.proofs.toggles.Toggles.add_between.Goals as goal

pub returns-then-eq-clause-given : goal.returns-then-eq-clause-given
returns-then-eq-clause-given c tag given =
    let same = (Decides-eqb c.args.before c.args.after).0 (sym c.eq.ensures ∙ c.if-eq.true) in
    let z = same_none (is_tagged c.args.states.now tag c.args.before) (is_tagged c.args.states.now tag c.args.after) (ap (is_tagged c.args.states.now tag) same) in
    omega (arith, z)
