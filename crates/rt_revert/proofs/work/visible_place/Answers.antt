use Rattle.std.proofs.Common.{◌<◌, length, subst, sym}
use Rattle.std.specs.Prelude.{IfSome}
use Rattle.rt_revert.proofs.WorkCells.{place_within}
use Rattle.rt_revert.proofs.work.visible_place.Goals as goal

pub returns-in-Some-clause-within : goal.returns-in-Some-clause-within
returns-in-Some-clause-within g c =
    let cells = g.S.TextStore.list c.args.store.now in
    subst (λ o. IfSome o (λ place. place < length cells)) (sym c.place_of.ensures) (place_within cells c.args.stamp)
