use Rattle.std.proofs.Common.{◌∙◌, sym}
use Rattle.rt_tree.proofs.Reaching.{told}
use Rattle.rt_tree.proofs.Skipping.{low_is}
use Rattle.rt_tree.proofs.summary.passes_nowhere.Goals as goal

pub returns-then-of-eq0 : goal.returns-then-of-eq0
returns-then-of-eq0 c shown is e =
    told c.args.states.now c.args.tag c.args.on shown c.args.summary.now c.requires.tag is (sym c.of.ensures ∙ c.if-of-eq0.true) (c.begins.ensures (low_is c.begins.result e))
