use Rattle.std.proofs.Common.{Some, None, ◌∷◌, [], sym, ◌∙◌, ap}
use Rattle.std.proofs.lemmas.Slice.Eq.{strip_suffix_is}
use Rattle.std.proofs.lemmas.Bool.Decides.{Decides-eqb}
use Rattle.rt_script.specs.Lines.{without_return}
use Rattle.rt_script.proofs.LinesLaws.{without_return_push, without_return_other}
use Rattle.rt_script.proofs.engine.without_return.Goals as goal

pub returns-in-Some : goal.returns-in-Some
returns-in-Some c = sym (ap without_return (strip_suffix_is Decides-eqb c.args.line.now (13 ∷ []) (Some c.in-Some.front) c.in-Some.ensures.cases) ∙ without_return_push c.in-Some.front.now)

pub returns-in-None : goal.returns-in-None
returns-in-None c = without_return_other c.args.line.now (strip_suffix_is Decides-eqb c.args.line.now (13 ∷ []) None c.in-None.ensures.cases)
