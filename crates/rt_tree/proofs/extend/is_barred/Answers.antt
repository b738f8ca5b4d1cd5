use Rattle.std.proofs.Common.{sym, ap, ◌∙◌}
use Rattle.std.specs.List.{list_any}
use Rattle.rt_tree.specs.declared.node.Run.{Run}
use Rattle.rt_tree.specs.Shape.{tree_runs}
use Rattle.rt_tree.specs.Sharing.{is_shared_by}
use Rattle.rt_tree.proofs.Housing.{longer_shares}
use Rattle.rt_tree.proofs.extend.is_barred.Goals as goal

pub returns-then-is_new : goal.returns-then-is_new
returns-then-is_new c =
    let r = c.requires in
    sym (longer_shares c.args.before c.args.run (tree_runs c.args.mem.now c.args.root.index) r.joint r.some r.among (r.once c.if-is_new.true) (r.new c.if-is_new.true))

pub returns : goal.returns
returns c = c.is_shared.ensures ∙ ap (λ (r : Run). list_any (is_shared_by r) (tree_runs c.args.mem.now c.args.root.index)) c.lengthened.ensures
