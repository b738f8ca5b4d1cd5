use Rattle.rt_tree.proofs.Kept.{cell_found}
use Rattle.rt_tree.proofs.find.cell_in.Goals as goal

pub returns : goal.returns
returns c = cell_found c.args.text.now c.args.run.now c.args.offset c.index-text-run.result c.requires.run c.requires.within c.index-text-run.is
