-- Operations that a document accepts, of whichever site.
use Rattle.std.specs.Prelude.{length}
use Rattle.rt_marks.specs.Marks.{marks_inserted, marks_left}
use Rattle.rt_oplog.specs.Logs.{with_operation}
use Rattle.rt_ops.specs.Operations.{Operation}
use Rattle.rt_rga.specs.Answers.{Answer, answer_within}
use Rattle.rt_rga.specs.Cells.{cells_of}
use Rattle.rt_rga.specs.Histories.{greatest_last_count, inserted}
use Rattle.rt_rga.specs.Taken.{lists_of, place_in, takes_away}
use Rattle.rt_plans.specs.DocValue.{DocValue}
use Rattle.rt_plans.specs.Insertions.{all_listed}
use Rattle.rt_text.specs.Widgets.{WidgetValue, ViewValue, each_widget, widget_inserted, widget_without}

-- A document with an operation that is new to it: the log gains it, and the cells are the log's. Marks move for the characters
-- that it puts in and for those that it takes away, as they do for the site's own edits; the tags that it lists are listed.
abbrev pub with_new : Operation → DocValue → DocValue
with_new op doc =
    let log = with_operation op doc.log in
    record doc {
      cells = cells_of log;
      log = log;
      count = greatest_last_count log;
      marks = marks_left (takes_away op.body doc.cells) (marks_inserted (place_in op doc.cells) (length (inserted op)) doc.marks);
      tags = all_listed (lists_of op.body) doc.tags;
    }

-- the own marks of each widget move likewise; what it has selected stays so, and no new character is selected
abbrev pub widget_with_new : Operation → DocValue → WidgetValue → WidgetValue
widget_with_new op doc own = widget_without (takes_away op.body doc.cells) (widget_inserted (place_in op doc.cells) (length (inserted op)) own)

-- and a view of it
abbrev pub view_with_new : Operation → ViewValue → ViewValue
view_with_new op view = each_widget (widget_with_new op view.doc) (record view { doc = with_new op view.doc })

-- what is answered to an operation that is offered to a document
abbrev pub answer_of : DocValue → Operation → Answer
answer_of doc op = answer_within doc.limit op doc.log
