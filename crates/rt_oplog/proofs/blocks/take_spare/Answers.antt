use Rattle.std.proofs.Common.{◌≡◌, ◌-◌, sym, subst, get_or, arith, vec_len}
use Rattle.std.proofs.lemmas.List.Elements.{All-from_recursion}
use Rattle.std.specs.List.{AllByRecursion}
use Rattle.rt_oplog.specs.Spares.{AreSpareRuns}
use Rattle.rt_oplog.proofs.Filling.{all_take}
use Rattle.rt_oplog.proofs.blocks.take_spare.Goals as goal

pub returns-clause-spare : goal.returns-clause-spare
returns-clause-spare c =
    let xs = c.args.spare.now.items in
    let i = vec_len c.args.spare.now - 1 in
    let value = c.pop.ensures.value c.unwrap.result c.requires.left in
    let last : c.unwrap.result ≡ get_or xs i c.unwrap.result = cc (c.unwrap.ensures, value) in
    subst AreSpareRuns (sym last) (All-from_recursion AreSpareRuns xs c.requires.spares i c.unwrap.result (omega (arith, c.requires.left, c.args.spare.now.ok.0)))

pub returns-clause-spares : goal.returns-clause-spares
returns-clause-spares c =
    subst (λ xs. AllByRecursion AreSpareRuns xs) (sym c.pop.ensures.rest) (all_take AreSpareRuns c.args.spare.now.items (vec_len c.args.spare.now - 1) c.requires.spares)
