-- What contracts see of widgets.
use Rattle.std.specs.Prelude.{true, length, ◌≡◌, ◌≤◌, ◌&&◌, List, All, Bool, Option, None, Some, codes, map}
use Rattle.rt_stamps.specs.declared.stamp.Stamp.{Stamp}
use Rattle.rt_store.specs.Spans.{is_among}
use Rattle.rt_plans.specs.declared.inserting.Between.{Between}
use Rattle.rt_plans.specs.DocValue.{DocValue}
use Rattle.rt_plans.specs.Selected.{room_in, selected_stamps}
use Rattle.rt_text.specs.declared.widget.Widget.{Widget}
use Rattle.rt_text.specs.Widgets.{ViewValue, WidgetValue}

-- a widget's own marks, the stamps of the characters that it has selected, and its limits
abbrev pub widget_value : Widget → WidgetValue
widget_value widget = record {
  insert = record { name = codes "insert"; place = widget.insert.place; gravity = widget.insert.gravity };
  current = record { name = codes "current"; place = widget.current.place; gravity = widget.current.gravity };
  sel = selected_stamps widget.selection;
  limits = widget.limits;
}

-- a document, the widget that commands, and each other one
abbrev pub view_of : DocValue → Widget → List Widget → ViewValue
view_of doc widget others = record { doc = doc; own = widget_value widget; others = map widget_value others }

-- both characters are selected
abbrev pub selects_both : Stamp → Stamp → Widget → Bool
selects_both left right widget = is_among (selected_stamps widget.selection) left && is_among (selected_stamps widget.selection) right

-- each widget that has both neighbours selected has room for the characters between them
abbrev pub HaveRoomFor : Option Between → List Widget → Type 0
HaveRoomFor None others = Unit {0}
HaveRoomFor (Some between) others =
    All (λ widget. selects_both between.left between.right widget ≡ true → length between.stamps ≤ room_in widget.selection) others
