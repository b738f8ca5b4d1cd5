use Rattle.std.proofs.Common.{◌≡◌, ◌∙◌, ◌-◌, ◌≤◌, arith, length, sym, ap, Ok, map, inl}
use Rattle.std.proofs.lemmas.Result.{IfOk-weaker, err_from_is_err_and, IfErr-weaker}
use Rattle.rt_store.specs.Cells.{text_of}
use Rattle.rt_text.specs.Distances.{distance_of, or_indices}
use Rattle.rt_text.specs.Owned.{widget_value}
use Rattle.rt_text.specs.Widgets.{text_shown, widget_of}
use Rattle.rt_text.proofs.Checks.{two_given, first_refused, second_refused}
use Rattle.rt_text.proofs.Differences.{distances_in_part}
use Rattle.rt_text.proofs.SeenLaws.{store_seen}
use Rattle.rt_plans.proofs.PlaceLaws.{text_within}
use Rattle.rt_lines.proofs.Parts.{part_length}
use Rattle.rt_lines.specs.Stretches.{part}
use Rattle.rt_text.proofs.view_ref.ViewRef.count.Goals as goal

pub returns-in_err-start : goal.returns-in_err-start
returns-in_err-start g c =
    let p = err_from_is_err_and c.from_residual.result c.from_residual.ensures.1 in
    rw (p.1, p.2) (record { ok = tt; err = first_refused (widget_of c.args.self.now) c.args.from.now c.args.to.now (λ a b. map (distance_of (text_shown c.args.self.now) a b) (or_indices c.args.measures.now)) c.in_err-start.field-0.0 c.in_err-start.ensures.err })

pub returns-in_err-end : goal.returns-in_err-end
returns-in_err-end g c =
    let p = err_from_is_err_and c.from_residual-in_err-end.result c.from_residual-in_err-end.ensures.1 in
    rw (p.1, p.2) (record { ok = tt; err = second_refused (widget_of c.args.self.now) c.args.from.now c.args.to.now (λ a b. map (distance_of (text_shown c.args.self.now) a b) (or_indices c.args.measures.now)) c.in_ok-start.start c.in_err-end.field-0.0 c.in_ok-start.ensures.ok c.in_err-end.ensures.err })

pub returns-clause-err : goal.returns-clause-err
returns-clause-err g c = IfErr-weaker c.distances_of.result _ _ (λ fault h. inl h) c.distances_of.ensures.err

pub overflow_add-begin : goal.overflow_add-begin
overflow_add-begin g c =
    let view = c.args.self.now in
    let store = g.S.TextStore.list c.between.result.0.now in
    let text : part c.between.result.1 (text_of store) ≡ text_shown view =
    store_seen view c.self.inside.doc.now (widget_value c.self.inside.widget.now) (map widget_value c.self.inside.others.now) c.limits.result c.between.result.1 (text_of store) c.self.view_is c.limits.ensures c.between.ensures.stretch c.between.ensures.text in
    let long = part_length c.between.result.1 (text_of store) c.between.ensures.lines.within in
    omega (arith, long, ap length text, c.in_ok-start.ensures.within, c.between.ensures.lines.within, c.between.ensures.lines.some, text_within store, c.between.ensures.few)

pub overflow_add-begin-2 : goal.overflow_add-begin-2
overflow_add-begin-2 g c =
    let view = c.args.self.now in
    let store = g.S.TextStore.list c.between.result.0.now in
    let text : part c.between.result.1 (text_of store) ≡ text_shown view =
    store_seen view c.self.inside.doc.now (widget_value c.self.inside.widget.now) (map widget_value c.self.inside.others.now) c.limits.result c.between.result.1 (text_of store) c.self.view_is c.limits.ensures c.between.ensures.stretch c.between.ensures.text in
    let long = part_length c.between.result.1 (text_of store) c.between.ensures.lines.within in
    omega (arith, long, ap length text, c.in_ok-end.ensures.within, c.between.ensures.lines.within, c.between.ensures.lines.some, text_within store, c.between.ensures.few)

pub distances_of-requires-clause-places : goal.distances_of-requires-clause-places
distances_of-requires-clause-places g c =
    let view = c.args.self.now in
    let store = g.S.TextStore.list c.between.result.0.now in
    let text : part c.between.result.1 (text_of store) ≡ text_shown view =
    store_seen view c.self.inside.doc.now (widget_value c.self.inside.widget.now) (map widget_value c.self.inside.others.now) c.limits.result c.between.result.1 (text_of store) c.self.view_is c.limits.ensures c.between.ensures.stretch c.between.ensures.text in
    let long = part_length c.between.result.1 (text_of store) c.between.ensures.lines.within in (
      omega (arith, long, ap length text, c.in_ok-start.ensures.within, c.between.ensures.lines.within, c.between.ensures.lines.some),
      omega (arith, long, ap length text, c.in_ok-end.ensures.within, c.between.ensures.lines.within, c.between.ensures.lines.some),
    )

pub returns-clause-ok : goal.returns-clause-ok
returns-clause-ok g c =
    let view = c.args.self.now in
    let measures = c.args.measures.now in
    let start = c.in_ok-start.start in
    let end = c.in_ok-end.end in
    let stretch = c.between.result.1 in
    let store = g.S.TextStore.list c.between.result.0.now in
    let text : part c.between.result.1 (text_of store) ≡ text_shown view =
    store_seen view c.self.inside.doc.now (widget_value c.self.inside.widget.now) (map widget_value c.self.inside.others.now) c.limits.result c.between.result.1 (text_of store) c.self.view_is c.limits.ensures c.between.ensures.stretch c.between.ensures.text in
    let long = part_length stretch (text_of store) c.between.ensures.lines.within in
    let one : start ≤ stretch.end - stretch.begin = omega (arith, long, ap length text, c.in_ok-start.ensures.within) in
    let two : end ≤ stretch.end - stretch.begin = omega (arith, long, ap length text, c.in_ok-end.ensures.within) in
    IfOk-weaker c.distances_of.result _ _
    (λ distances h. two_given (widget_of view) c.args.from.now c.args.to.now (λ a b. map (distance_of (text_shown view) a b) (or_indices measures)) start end c.in_ok-start.ensures.ok c.in_ok-end.ensures.ok
    ∙ (λ i. Ok (map (distance_of (sym text i) start end) (or_indices measures)))
    ∙ ap (λ v. Ok v) (sym (distances_in_part (text_of store) stretch c.between.ensures.lines start end one two (or_indices measures)) ∙ sym h)) c.distances_of.ensures.ok
