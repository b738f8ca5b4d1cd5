use Rattle.std.proofs.Common.{◌∙◌, length}
use Rattle.rt_store.specs.Cells.{visible_of}
use Rattle.rt_plans.specs.Removals.{is_covered}
use Rattle.rt_plans.proofs.RestLaws.{visible_given}
use Rattle.rt_text.proofs.StayingPlaces.{all_fit_in, before_within, stays_at}
use Rattle.rt_text.proofs.staying.cell_after.Goals as goal

pub place_before-requires-clause-fits : goal.place_before-requires-clause-fits
place_before-requires-clause-fits g c =
    all_fit_in c.args.removed.now c.args.place (length (visible_of (g.S.TextStore.list c.args.store.now))) c.requires.place c.requires.within c.requires.few

pub cell_at-requires : goal.cell_at-requires
cell_at-requires g c =
    before_within (is_covered c.args.removed.now) c.place_before.result (length (visible_of (g.S.TextStore.list c.args.store.now))) c.args.place c.place_before.ensures.place c.requires.place

pub returns-clause-is : goal.returns-clause-is
returns-clause-is g c =
    stays_at (is_covered c.args.removed.now) (g.S.TextStore.list c.args.store.now) c.place_before.result c.args.place c.place_before.ensures.stays c.place_before.ensures.place ∙ c.cell_at.ensures

pub returns-clause-given : goal.returns-clause-given
returns-clause-given g c = λ table states. visible_given table (g.S.TextStore.list c.args.store.now) c.place_before.result c.cell_at.result states c.cell_at.ensures
