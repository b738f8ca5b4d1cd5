use Rattle.std.proofs.Common.{rules, ◌+◌, ◌≤◌, IfSome, subst}
use Rattle.rt_tree.specs.Shape.{level_of}
use Rattle.rt_tree.proofs.seeks.find_tagged.Goals as goal

pub returns-clause-looked : goal.returns-clause-looked
returns-clause-looked c text kept =
    subst (λ n. IfSome c.seek.result (λ _. c.args.steps.now + (level_of c.args.mem.now c.args.root.index + 1) ≤ n)) (search rules) (c.seek.ensures.looked text kept)
