use Rattle.std.proofs.Common.{◌∙◌, ◌&&◌, ap, length}
use Rattle.std.specs.Prelude.{nat_lt}
use Rattle.std.proofs.lemmas.Result.{IfOk-weaker}
use Rattle.rt_ops.specs.Operations.{stamps_in}
use Rattle.rt_store.specs.Cells.{visible_of}
use Rattle.rt_plans.specs.Removals.{is_covered}
use Rattle.rt_revert.proofs.PlacesFound.{covered}
use Rattle.rt_revert.proofs.work.visible_ranges.Goals as goal

pub returns-clause-places : goal.returns-clause-places
returns-clause-places g c =
    let cells = g.S.TextStore.list c.args.store.now in
    IfOk-weaker c.ranges_within.result _ _
    (λ ranges h place. h place
    ∙ ap (λ b. nat_lt place (length (visible_of cells)) && b) (ap (λ l. is_covered l place) c.deref.ensures.value ∙ c.in_ok-ranges.ensures.ok place)
    ∙ covered cells (stamps_in c.args.spans.now) place c.requires.distinct)
    c.ranges_within.ensures.places
