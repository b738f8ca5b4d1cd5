use Rattle.std.proofs.Common.{◌≡◌, List, [], ◌∷◌, ◌∙◌, ap, cond, map, refl, sym}
use Rattle.rt_plans.specs.Selections.{unselected}
use Rattle.rt_text.specs.Owned.{widget_value}
use Rattle.rt_text.specs.Widgets.{WidgetValue, reselected}
use Rattle.rt_text.proofs.moving.unselect.Goals as goal

selected_still : (others : List WidgetValue) → map (reselected (λ sel. sel)) others ≡ others
selected_still [] = refl
selected_still (own ∷ others) = ap (λ l. own ∷ l) (selected_still others)

pub returns-else-held-clause-others : goal.returns-else-held-clause-others
returns-else-held-clause-others c =
    let others = map widget_value c.args.others.now in
    sym (selected_still others) ∙ ap (λ b. map (reselected (λ sel. cond b (unselected (c.args.last ∷ []) sel) sel)) others) (sym c.if-held.false)
