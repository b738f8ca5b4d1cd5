use Rattle.std.proofs.Common.{◌≡◌, ◌∙◌, ◌++◌, [], ◌∷◌, ℕ, List, ap, arith, drop, take}
use Rattle.std.specs.Prelude.{option_map, unwrap_or}
use Rattle.rt_store.specs.declared.cell.Cell.{Cell}
use Rattle.rt_store.specs.Cells.{position_of, visible_before}
use Rattle.rt_plans.specs.DocValue.{put_after}
use Rattle.rt_revert.proofs.CellsParted.{new_place}
use Rattle.rt_revert.proofs.returning.put_in.Goals as goal

pub returns-clause-place : goal.returns-clause-place
returns-clause-place g c =
    let old = g.S.TextStore.list c.args.copy.now in
    let new = g.S.TextStore.list c.splice.new.self in
    let cell = c.args.cell in
    let left = c.args.left in
    let same : new ≡ put_after old left (cell ∷ []) =
    c.splice.ensures.list ∙ (λ i. take ((c.after_skip-at.ensures ∙ c.requires.directly) i) (c.in_ok-reserve.ensures.same i) ++ (cell ∷ []) ++ drop ((c.after_skip-at.ensures ∙ c.requires.directly) i) (c.in_ok-reserve.ensures.same i)) in
    c.unwrap_or.ensures
    ∙ ap (λ o. unwrap_or o 0) (c.place_of.ensures ∙ ap (λ (l : List (Cell ℕ)). option_map (visible_before l) (position_of l cell.stamp)) same)
    ∙ new_place old left cell (omega (arith, c.requires.placed.stands.1)) c.requires.fresh

pub splice-requires-clause-states : goal.splice-requires-clause-states
splice-requires-clause-states g c = c.reserve.ensures.agrees c.args.kept.now c.requires.agrees
