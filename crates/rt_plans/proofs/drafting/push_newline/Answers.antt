use Rattle.std.proofs.Common.{◌≡◌, ◌++◌, ◌∙◌, [], ap, append-nil, arith, map, sym, Some}
use Rattle.std.specs.Prelude.{option_map, slice_get, unwrap_or}
use Rattle.std.proofs.lemmas.List.{drop_all}
use Rattle.rt_ops.specs.Edits.{body_of}
use Rattle.rt_store.specs.Cells.{visible_of}
use Rattle.rt_store.specs.Shown.{TaggedCell, shown}
use Rattle.rt_store.proofs.Shown.{visible_at_shown}
use Rattle.rt_tags.specs.States.{name_at, names_on, state_at}
use Rattle.rt_plans.specs.TagDrafts.{newline_drafts}
use Rattle.rt_plans.proofs.RestLaws.{visible_given}
use Rattle.rt_plans.proofs.drafting.push_newline.Goals as goal

pub on-requires : goal.on-requires
on-requires g c = visible_given c.args.states.now (g.S.TextStore.list c.args.store.now) c.args.place c.cell_at-newline.result c.requires.states c.cell_at-newline.ensures

pub returns-clause-ok : goal.returns-clause-ok
returns-clause-ok g c =
    let kept = g.S.TextStore.list c.args.store.now in
    let table = c.args.states.now in
    let newline = c.cell_at-newline.result in
    let bodies = map body_of c.loop-tag.drafts.items in
    let before = map body_of c.args.drafts.now.items in
    let there : slice_get (visible_of (map (shown table) kept)) c.args.place ≡ Some (shown table newline) =
    visible_at_shown (state_at table) kept c.args.place ∙ ap (option_map (shown table)) c.cell_at-newline.ensures in
    sym (append-nil bodies) ∙ ap (λ l. bodies ++ newline_drafts newline.stamp (map (name_at table) l)) (sym (drop_all c.loop-tag.tag-index c.as_slice-tag-items.result.now (omega arith)))
    ∙ c.loop-tag.invariant ∙ ap (λ l. before ++ newline_drafts newline.stamp l) (ap (map (name_at table)) c.as_slice-tag-items.ensures.value ∙ c.in_ok-on.ensures.names)
    ∙ ap (λ o. before ++ unwrap_or (option_map (λ (cell : TaggedCell). newline_drafts cell.stamp (names_on cell.state)) o) []) (sym there)
