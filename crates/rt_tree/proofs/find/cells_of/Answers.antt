use Rattle.std.proofs.Common.{sym, ap, ◌∙◌, subst}
use Rattle.rt_tree.specs.declared.node.Counts.{Counts}
use Rattle.rt_tree.specs.Sums.{AreFew}
use Rattle.rt_tree.proofs.Down.{sum-node}
use Rattle.rt_tree.proofs.find.cells_of.Goals as goal

pub sum_of-requires-clause-few : goal.sum_of-requires-clause-few
sum_of-requires-clause-few c =
    let r = c.args.root.index in let t = c.requires.tree in
    subst AreFew (sym (sum-node c.args.mem.now r t r t.shape.root_is)) c.requires.few

pub returns : goal.returns
returns c =
    let r = c.args.root.index in let t = c.requires.tree in
    ap (λ (x : Counts). x.cells) (c.sum_of.ensures ∙ sum-node c.args.mem.now r t r t.shape.root_is)
