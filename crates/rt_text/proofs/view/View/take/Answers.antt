use Rattle.rt_text.proofs.ViewLaws.{viewed}
use Rattle.std.specs.List.{AllByRecursion}
use Rattle.std.specs.Vec.{with_items}
use Rattle.std.proofs.lemmas.List.{with_items_is}
use Rattle.std.proofs.Common.{List, ◌≡◌, ◌+◌, ◌≤◌, ◌-◌, ◌^◌, ◌∙◌, ap, arith, length, map, subst, sym}
use Rattle.rt_oplog.specs.Logs.{with_operation}
use Rattle.rt_rga.specs.Answers.{New}
use Rattle.rt_rga.specs.Texts.{tagged_text}
use Rattle.rt_changes.specs.Replays.{replayed, told_by}
use Rattle.rt_rga.specs.Histories.{IsHistory}
use Rattle.rt_store.specs.Cells.{text_of, visible_of}
use Rattle.rt_plans.specs.DocValue.{DocValue}
use Rattle.rt_text.specs.Owned.{widget_value}
use Rattle.rt_text.specs.Accepted.{answer_of, widget_with_new, view_with_new, with_new}
use Rattle.rt_text.specs.declared.widget.Widget.{Widget}
use Rattle.rt_text.specs.Widgets.{AreWidgetsOf, IsOwnOf, WidgetValue, ViewValue}
use Rattle.rt_text.proofs.PeerLaws.{each_by, each_room}
use Rattle.rt_text.proofs.AcceptedView.{own_seen, own_stands, view_fits}
use Rattle.rt_text.proofs.Growing.{GrowsTo, grows_taken}
use Rattle.rt_text.proofs.KeptLimits.{limits_more}
use Rattle.rt_text.proofs.view.View.take.Goals as goal

pub take-requires : goal.take-requires
take-requires g c = ap (λ (v : ViewValue). answer_of v.doc c.args.op) c.self.view_is ∙ c.requires

pub returns-in-Err-clause-unchanged : goal.returns-in-Err-clause-unchanged
returns-in-Err-clause-unchanged g c = ap (λ (d : DocValue). viewed d (widget_value c.self.inside.widget) (map widget_value c.self.inside.others.items)) c.in-Err.ensures.unchanged ∙ c.self.view_is

pub follow-requires-clause-runs : goal.follow-requires-clause-runs
follow-requires-clause-runs g c = (length (visible_of c.self.inside.doc.cells), c.in-Ok.ensures.change.runs)

pub follow-requires-clause-insert : goal.follow-requires-clause-insert
follow-requires-clause-insert g c =
    let doc = c.self.inside.doc in
    let is_new : answer_of doc c.args.op ≡ New = ap (λ (v : ViewValue). answer_of v.doc c.args.op) c.self.view_is ∙ c.requires in
    let tells = c.in-Ok.ensures.change in
    let fits : length (text_of doc.cells) + c.in-Ok.change.inserted ≤ 2 ^ 64 - 1 =
    view_fits doc c.args.op c.in-Ok.change is_new tells c.log.ensures.cells c.kept.ensures.most in
    omega (arith, fits, c.self.invariant.own.insert)

pub follow-requires-clause-current : goal.follow-requires-clause-current
follow-requires-clause-current g c =
    let doc = c.self.inside.doc in
    let is_new : answer_of doc c.args.op ≡ New = ap (λ (v : ViewValue). answer_of v.doc c.args.op) c.self.view_is ∙ c.requires in
    let tells = c.in-Ok.ensures.change in
    let fits : length (text_of doc.cells) + c.in-Ok.change.inserted ≤ 2 ^ 64 - 1 =
    view_fits doc c.args.op c.in-Ok.change is_new tells c.log.ensures.cells c.kept.ensures.most in
    omega (arith, fits, c.self.invariant.own.current)

pub follow_each-requires-clause-runs : goal.follow_each-requires-clause-runs
follow_each-requires-clause-runs g c = (length (visible_of c.self.inside.doc.cells), c.in-Ok.ensures.change.runs)

pub follow_each-requires-clause-fits : goal.follow_each-requires-clause-fits
follow_each-requires-clause-fits g c =
    let doc = c.self.inside.doc in
    let is_new : answer_of doc c.args.op ≡ New = ap (λ (v : ViewValue). answer_of v.doc c.args.op) c.self.view_is ∙ c.requires in
    let tells = c.in-Ok.ensures.change in
    let n = length (text_of doc.cells) in
    each_room n c.in-Ok.change.inserted (2 ^ 64 - 1) c.deref_mut.result.now
    (view_fits doc c.args.op c.in-Ok.change is_new tells c.log.ensures.cells c.kept.ensures.most)
    (subst (λ (l : List Widget). AllByRecursion (IsOwnOf n) (map widget_value l)) (sym c.deref_mut.ensures.value) c.self.invariant.others)

pub invariant_of-self : goal.invariant_of-self
invariant_of-self g c =
    subst (λ (f : DocValue). AreWidgetsOf f.cells (widget_value c.self.inside.widget) (map widget_value c.self.inside.others.items))
    (sym c.in-Err.ensures.unchanged) c.self.invariant

pub invariant_of-self-in-Ok : goal.invariant_of-self-in-Ok
invariant_of-self-in-Ok g c =
    let doc = c.self.inside.doc in
    let op = c.args.op in
    let is_new : answer_of doc op ≡ New = ap (λ (v : ViewValue). answer_of v.doc op) c.self.view_is ∙ c.requires in
    let tells = c.in-Ok.ensures.change in
    let change = c.in-Ok.change in
    let seen : c.take.new.self ≡ with_new op doc = c.in-Ok.ensures.taken in
    let own : (widget_value c.follow.new.self) ≡ widget_with_new op doc (widget_value c.self.inside.widget) = c.follow.ensures ∙ own_seen doc op change is_new tells (widget_value c.self.inside.widget) in
    let more : IsHistory (with_operation op doc.log) = subst IsHistory (ap (λ (f : DocValue). f.log) seen) c.log-in-Ok.ensures.history in
    let stands : (o : WidgetValue) → IsOwnOf (length (text_of doc.cells)) o → IsOwnOf (length (text_of (with_new op doc).cells)) (widget_with_new op doc o) =
    λ o h. own_stands doc op change is_new tells o c.log.ensures.history c.log.ensures.cells more h in
    let n = length (text_of doc.cells) in
    let k = length (text_of (with_new op doc).cells) in
    let others = map widget_value c.self.inside.others.items in
    let back : (with_items c.self.inside.others c.follow_each.new.others).items ≡ c.follow_each.new.others =
    with_items_is c.self.inside.others c.follow_each.new.others (omega (arith, c.follow_each.auto.others, c.deref_mut.ensures.len)) in
    let moved : map widget_value (with_items c.self.inside.others c.follow_each.new.others).items ≡ map (widget_with_new op doc) others =
    ap (map widget_value) back ∙ c.follow_each.ensures ∙ (λ i. map (λ o. own_seen doc op change is_new tells o i) (map widget_value (c.deref_mut.ensures.value i))) in
    let old = viewed doc (widget_value c.self.inside.widget) others in
    let new = viewed c.take.new.self (widget_value c.follow.new.self) (map widget_value (with_items c.self.inside.others c.follow_each.new.others).items) in
    record {
      own = subst (λ (p : _). p) (λ i. IsOwnOf (length (text_of (sym seen i).cells)) (sym own i)) (stands (widget_value c.self.inside.widget) c.self.invariant.own);
      others = subst (λ (p : _). p) (λ i. AllByRecursion (IsOwnOf (length (text_of (sym seen i).cells))) (sym moved i))
          (each_by (IsOwnOf n) (IsOwnOf k) (widget_with_new op doc) stands others c.self.invariant.others);
      limits = limits_more old new c.log.ensures.history c.log.ensures.cells c.log-in-Ok.ensures.history c.log-in-Ok.ensures.cells
          (subst (GrowsTo old) (λ i. viewed (sym seen i) (sym own i) (sym moved i)) (grows_taken op old)) c.self.invariant.limits;
    }

pub returns-in-Ok-clause-taken : goal.returns-in-Ok-clause-taken
returns-in-Ok-clause-taken g c =
    let doc = c.self.inside.doc in
    let op = c.args.op in
    let is_new : answer_of doc op ≡ New = ap (λ (v : ViewValue). answer_of v.doc op) c.self.view_is ∙ c.requires in
    let tells = c.in-Ok.ensures.change in
    let change = c.in-Ok.change in
    let seen : c.take.new.self ≡ with_new op doc = c.in-Ok.ensures.taken in
    let own : (widget_value c.follow.new.self) ≡ widget_with_new op doc (widget_value c.self.inside.widget) = c.follow.ensures ∙ own_seen doc op change is_new tells (widget_value c.self.inside.widget) in
    let old : ViewValue = record { doc = doc; own = widget_value c.self.inside.widget; others = map widget_value c.self.inside.others.items } in
    let back : (with_items c.self.inside.others c.follow_each.new.others).items ≡ c.follow_each.new.others =
    with_items_is c.self.inside.others c.follow_each.new.others (omega (arith, c.follow_each.auto.others, c.deref_mut.ensures.len)) in
    let moved : map widget_value (with_items c.self.inside.others c.follow_each.new.others).items ≡ map (widget_with_new op doc) old.others =
    ap (map widget_value) back ∙ c.follow_each.ensures ∙ (λ i. map (λ o. own_seen doc op change is_new tells o i) (map widget_value (c.deref_mut.ensures.value i))) in
    (λ i. record { doc = seen i; own = own i; others = moved i })
    ∙ ap (λ (v : ViewValue). view_with_new op v) c.self.view_is

pub returns-in-Ok-clause-replays : goal.returns-in-Ok-clause-replays
returns-in-Ok-clause-replays g c =
    subst (λ (v : ViewValue). replayed (told_by c.args.op.body c.in-Ok.change) (tagged_text v.doc.cells) ≡ tagged_text c.take.new.self.cells) c.self.view_is c.in-Ok.ensures.replays
