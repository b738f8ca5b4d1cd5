-- What the ground of an index expression is: words of private clauses. A command cites `widget_of`, which it comes to.
use Rattle.std.specs.Prelude.{List, map, option_map}
use Rattle.rt_index.specs.Widget.{IndexedWidget}
use Rattle.rt_marks.specs.Marks.{Mark}
use Rattle.rt_stamps.specs.Words.{Word}
use Rattle.rt_store.specs.Cells.{text_of, visible_of}
use Rattle.rt_store.specs.Shown.{TaggedCell}
use Rattle.rt_lines.specs.declared.stretch.Stretch.{Stretch}
use Rattle.rt_lines.specs.Stretches.{part}
use Rattle.rt_text.specs.Widgets.{WidgetValue, mark_among, mark_seen, widget_seen, tag_ends}

-- the characters of a stretch, the places of marks among them, and the tags of a widget
abbrev pub widget_over : Stretch → List TaggedCell → List Mark → List Word → WidgetValue → IndexedWidget
widget_over stretch cells marks tags own = record {
  text = part stretch (text_of cells);
  marks = λ name. option_map (λ m. m.place) (mark_among (widget_seen stretch own) (map (mark_seen stretch) marks) name);
  tags = tag_ends own (part stretch (visible_of cells)) tags;
}
