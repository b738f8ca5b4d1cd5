-- What an operation that is new does to a widget's own marks.
use Rattle.std.proofs.Common.{◌≡◌, ◌+◌, ◌-◌, ◌^◌, ◌≤◌, false, length, sym, ◌∙◌, ap, subst, arith}
use Rattle.rt_marks.specs.Marks.{place_left}
use Rattle.rt_oplog.specs.Logs.{with_operation}
use Rattle.rt_ops.specs.Operations.{Operation}
use Rattle.rt_rga.specs.Answers.{New}
use Rattle.rt_rga.specs.Cells.{cells_of}
use Rattle.rt_rga.specs.Histories.{IsHistory, inserted}
use Rattle.rt_rga.specs.Taken.{IsChange, is_in_runs, place_in, takes_away}
use Rattle.rt_rga.specs.declared.taken.Change.{Change}
use Rattle.rt_stamps.specs.declared.limits.TheConstants.{MOST_CELLS}
use Rattle.rt_store.specs.Cells.{text_of, visible_of}
use Rattle.rt_plans.specs.DocValue.{DocValue}
use Rattle.rt_plans.proofs.PlaceLaws.{length_text, text_within}
use Rattle.rt_text.specs.Accepted.{answer_of, widget_with_new, with_new}
use Rattle.rt_text.specs.Widgets.{IsOwnOf, WidgetValue, widget_inserted, widget_without}
use Rattle.rt_text.proofs.AcceptedDocument.{accepted_length, accepted_room}
use Rattle.rt_text.proofs.FollowingLaws.{last_stays}
use Rattle.rt_text.proofs.MarkLaws.{own_of_inserted, own_of_left}

module _ (doc : DocValue) (op : Operation) (change : Change) (is_new : answer_of doc op ≡ New) (tells : IsChange op doc.cells change) where
  -- no place becomes too great
  pub view_fits : doc.cells ≡ cells_of doc.log → doc.limit ≤ MOST_CELLS → length (text_of doc.cells) + change.inserted ≤ 2 ^ 64 - 1
  view_fits known most =
      let room : length (cells_of doc.log) + length (inserted op) ≤ doc.limit = accepted_room doc.limit op doc.log is_new in
      let within : length (text_of doc.cells) ≤ length doc.cells = text_within doc.cells in
      let same : length doc.cells ≡ length (cells_of doc.log) = ap length known in
      let more : change.inserted ≡ length (inserted op) = tells.more in
      omega (arith, room, within, same, more, most)

  -- the marks that follow the change
  pub own_seen : (own : WidgetValue) → widget_without (is_in_runs change.removed.items) (widget_inserted change.place change.inserted own) ≡ widget_with_new op doc own
  own_seen own = λ i. widget_without (λ p. tells.removed p i) (widget_inserted (tells.first i) (tells.more i) own)

  -- the last newline stays
  last_kept : takes_away op.body doc.cells (length (text_of doc.cells) + length (inserted op) - 1) ≡ false
  last_kept =
      let p = length (text_of doc.cells) + length (inserted op) - 1 in
      let many = length_text doc.cells in
      sym (tells.removed p) ∙ last_stays (length (visible_of doc.cells)) change.removed.items p (omega (arith, many)) tells.runs

  -- they stand in the text that is left
  pub own_stands : (own : WidgetValue) → IsHistory doc.log → doc.cells ≡ cells_of doc.log → IsHistory (with_operation op doc.log) → IsOwnOf (length (text_of doc.cells)) own → IsOwnOf (length (text_of (with_new op doc).cells)) (widget_with_new op doc own)
  own_stands own h known more stands =
      let n = length (text_of doc.cells) in
      let k = length (inserted op) in
      let long : length (text_of (cells_of (with_operation op doc.log))) ≡ place_left (takes_away op.body doc.cells) (n + k) =
      accepted_length doc.log op h more ∙ ap (λ l. place_left (takes_away op.body l) (length (text_of l) + k)) (sym known) in
      subst (λ m. IsOwnOf m (widget_with_new op doc own)) (sym long)
      (own_of_left (n + k) (takes_away op.body doc.cells) (widget_inserted (place_in op doc.cells) k own) last_kept (own_of_inserted n (place_in op doc.cells) k own stands))
