-- A widget's own marks after changes of the text, in the order of the changes, and its limits after newlines came back.
use Rattle.std.specs.Prelude.{List, [], ◌∷◌}
use Rattle.rt_plans.specs.Removals.{is_covered}
use Rattle.rt_revert.specs.declared.plan.Return.{Return}
use Rattle.rt_revert.specs.declared.plan.TextChange.{TextChange}
use Rattle.rt_revert.specs.declared.plan.TextChange.TheVariants.{Inserted, Removed as Gone}
use Rattle.rt_text.specs.Widgets.{WidgetValue, widget_inserted, widget_without}
use Rattle.rt_lines.specs.declared.limits.Limits.{Limits}
use Rattle.rt_lines.specs.Limits.{limits_renamed}

abbrev pub widget_changed : TextChange → WidgetValue → WidgetValue
widget_changed (Gone ranges) own = widget_without (is_covered ranges.items) own
widget_changed (Inserted place) own = widget_inserted place 1 own

abbrev pub widget_after : List TextChange → WidgetValue → WidgetValue
widget_after [] own = own
widget_after (change ∷ changes) own = widget_after changes (widget_changed change own)

-- limits follow each character that came back, one after the other, under a newer stamp than the one that it had
abbrev pub limits_after : List Return → Limits → Limits
limits_after [] limits = limits
limits_after (r ∷ returns) limits = limits_after returns (limits_renamed r.former r.newer limits)

abbrev pub widget_renamed : List Return → WidgetValue → WidgetValue
widget_renamed returns own = record own { limits = limits_after returns own.limits }
