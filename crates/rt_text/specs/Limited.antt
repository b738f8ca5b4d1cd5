-- Which lines a widget shows (Tk text manual, "Peer widgets"): the options -startline and -endline.
use Rattle.std.specs.Prelude.{◌++◌, [], ◌∷◌, Result, Ok, Err}
use Rattle.rt_plans.specs.DocValue.{DocValue}
use Rattle.rt_stamps.specs.declared.fault.Fault.{Fault}
use Rattle.rt_text.specs.Widgets.{WidgetValue, ViewValue, widget_at}
use Rattle.rt_lines.specs.declared.choice.Choice.{Choice}
use Rattle.rt_lines.specs.declared.limits.Limits.{Limits}
use Rattle.rt_lines.specs.Choices.{limits_chosen}
use Rattle.rt_lines.specs.Stretches.{stretch_of}

-- the widget that commands with other limits: its marks stay where they stand in the text
abbrev pub with_limits : ViewValue → Result Limits Fault → Result ViewValue Fault
with_limits view (Ok limits) = Ok (record view { own = record view.own { limits = limits } })
with_limits view (Err fault) = Err fault

-- it shows the lines that are asked for
abbrev pub view_limited : ViewValue → Choice → Choice → Result ViewValue Fault
view_limited view start end = with_limits view (limits_chosen view.doc.cells start end view.own.limits)

-- a new widget of a document, with limits
abbrev pub new_peer : DocValue → Limits → WidgetValue
new_peer doc limits = widget_at (stretch_of doc.cells limits).begin limits

abbrev pub with_new_peer : ViewValue → Result Limits Fault → Result ViewValue Fault
with_new_peer view (Ok limits) = Ok (record view { others = view.others ++ new_peer view.doc limits ∷ [] })
with_new_peer view (Err fault) = Err fault

-- one more widget, which shows the lines that are asked for, and else those of the one that commands
abbrev pub with_peer : ViewValue → Choice → Choice → Result ViewValue Fault
with_peer view start end = with_new_peer view (limits_chosen view.doc.cells start end view.own.limits)
