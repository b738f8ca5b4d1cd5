use Rattle.std.proofs.Common.{◌∙◌, ◌&&◌, ap, map, sym, List}
use Rattle.std.proofs.lemmas.Result.{IfOk-weaker}
use Rattle.rt_store.specs.Cells.{visible_of}
use Rattle.rt_store.specs.Shown.{shown}
use Rattle.rt_plans.specs.declared.range.Range.{Range}
use Rattle.rt_plans.specs.Removals.{is_covered}
use Rattle.rt_plans.specs.TagWrites.{is_changed, passes_at}
use Rattle.rt_plans.proofs.ChangedPlaces.{changes_as, put_everywhere, taken_nowhere}
use Rattle.rt_plans.proofs.changes.changed_ranges.Goals as goal

pub returns-in-Some-clause-places : goal.returns-in-Some-clause-places
returns-in-Some-clause-places g c =
    let cells = g.S.TextStore.list c.args.store.now in
    IfOk-weaker c.ranges_with.result _ _
    (λ changed h place. h place ∙ ap (λ b. is_covered c.args.ranges.now place && b) (changes_as c.args.states.now c.in-Some.tag c.args.name.now c.args.on cells place c.in-Some.ensures.tag))
    c.ranges_with.ensures.places

pub returns-in_ok-from_slice-in-None-clause-places : goal.returns-in_ok-from_slice-in-None-clause-places
returns-in_ok-from_slice-in-None-clause-places g c = λ place.
    let cells = g.S.TextStore.list c.args.store.now in
    let table = c.args.states.now in
    let name = c.args.name.now in
    let ranges = c.args.ranges.now in
    ap (λ (l : List Range). is_covered l place) c.in_ok-from_slice-in-None.ensures.items
    ∙ put_everywhere table name cells ranges place c.in-None.ensures.nowhere c.requires.within
    ∙ ap (λ on. is_covered ranges place && passes_at (is_changed name on) (visible_of (map (shown table) cells)) place) (sym c.if-on.true)

pub returns-in-None-2-clause-places : goal.returns-in-None-2-clause-places
returns-in-None-2-clause-places g c = λ place.
    let cells = g.S.TextStore.list c.args.store.now in
    let table = c.args.states.now in
    let name = c.args.name.now in
    let ranges = c.args.ranges.now in
    ap (λ (l : List Range). is_covered l place) c.new.ensures.items
    ∙ taken_nowhere table name cells ranges place c.in-None-2.ensures.nowhere
    ∙ ap (λ on. is_covered ranges place && passes_at (is_changed name on) (visible_of (map (shown table) cells)) place) (sym c.if-on.false)
