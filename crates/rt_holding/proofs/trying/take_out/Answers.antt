use Rattle.std.proofs.Common.{◌≡◌, None, Some, refl, subst}
use Rattle.rt_ops.specs.Operations.{Operation}
use Rattle.rt_holding.specs.Kept.{IsHeldAt}
use Rattle.rt_holding.proofs.Standing.{updated}
use Rattle.rt_holding.proofs.Places.{was_there}
use Rattle.rt_holding.proofs.trying.take_out.Goals as goal

pub unwrap-requires : goal.unwrap-requires
unwrap-requires c =
    let is = was_there c.insert-was.result c.args.ops.now c.args.place c.requires.0 c.requires.1 c.insert-was.ensures.old c.insert-was.ensures.absent in
    rw is refl

pub unwrap-requires-2 : goal.unwrap-requires-2
unwrap-requires-2 c =
    let is = was_there c.insert-was.result c.args.ops.now c.args.place c.requires.0 c.requires.1 c.insert-was.ensures.old c.insert-was.ensures.absent in
    let some : c.unwrap.result ≡ Some (Some c.requires.0) = cc in
    rw some refl

pub unwrap-requires-3 : goal.unwrap-requires-3
unwrap-requires-3 c =
    let is = was_there c.insert-was.result c.args.ops.now c.args.place c.requires.0 c.requires.1 c.insert-was.ensures.old c.insert-was.ensures.absent in
    let some : c.unwrap-2.result ≡ Some c.requires.0 = cc in
    rw some refl

pub returns-clause-there : goal.returns-clause-there
returns-clause-there c =
    let is = was_there c.insert-was.result c.args.ops.now c.args.place c.requires.0 c.requires.1 c.insert-was.ensures.old c.insert-was.ensures.absent in
    let same : c.requires.0 ≡ c.unwrap-3.result = cc in
    subst (λ (op : Operation). IsHeldAt c.args.place op c.args.ops.now.entries) same c.requires.1

pub returns-clause-others : goal.returns-clause-others
returns-clause-others c =
    let is = was_there c.insert-was.result c.args.ops.now c.args.place c.requires.0 c.requires.1 c.insert-was.ensures.old c.insert-was.ensures.absent in
    updated c.insert-was.result (Some (Some c.requires.0)) c.args.ops.now c.insert-was.new.self c.args.place None c.insert-was.ensures.updates is
