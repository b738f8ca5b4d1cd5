use Rattle.std.proofs.Common.{◌∙◌, sym}
use Rattle.rt_store.proofs.Finding.{found_nowhere, found_there}
use Rattle.rt_tree.proofs.tree.Tree.walked_cell.Goals as goal

pub returns-in_err-position : goal.returns-in_err-position
returns-in_err-position c = c.from_residual.ensures ∙ found_nowhere c.args.self.now.cells c.args.stamp (sym c.walk_to_stamp.ensures ∙ c.in_err-position.was)

pub returns : goal.returns
returns c = sym c.nth.ensures ∙ found_there c.args.self.now.cells c.args.stamp c.in_ok-position.position (sym c.walk_to_stamp.ensures ∙ c.in_ok-position.was)
