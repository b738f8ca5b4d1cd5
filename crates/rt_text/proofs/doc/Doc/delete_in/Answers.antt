use Rattle.rt_text.specs.Kept.{IsDoc}
use Rattle.std.proofs.Common.{◌≡◌, ◌≤◌, ◌∙◌, ◌⊎◌, ℕ, List, Bool, None, ap, arith, inl, inr, length, map, subst, sym, refl}
use Rattle.std.specs.Prelude.{is_some}
use Rattle.std.specs.List.{AllByRecursion}
use Rattle.std.proofs.lemmas.List.{length-map}
use Rattle.std.proofs.lemmas.Result.{err_from_is_err_and}
use Rattle.rt_stamps.specs.declared.limits.TheConstants.{MOST_SPANS}
use Rattle.rt_marks.specs.Marks.{Mark, marks_left}
use Rattle.rt_ops.specs.Edits.{body_of}
use Rattle.rt_store.specs.Cells.{text_of}
use Rattle.rt_store.specs.Shown.{TaggedCell, shown}
use Rattle.rt_rga.specs.Drafts.{with_drafts}
use Rattle.rt_rga.specs.Kept.{ReplicaValue}
use Rattle.rt_rga.specs.Made.{refusal_of}
use Rattle.rt_rga.specs.Requests.{MayBeMade}
use Rattle.rt_plans.specs.declared.range.Range.{Range}
use Rattle.rt_plans.specs.Deletions.{Loss, delete_drafts, loss_in, without_text}
use Rattle.rt_plans.specs.DocValue.{DocValue, logged}
use Rattle.rt_plans.specs.Listed.{AreListed}
use Rattle.rt_plans.specs.Removals.{is_covered, RangesFollow}
use Rattle.rt_text.specs.Commands.{clock_check}
use Rattle.rt_text.specs.Owned.{widget_value}
use Rattle.rt_stamps.specs.declared.stamp.Stamp.{Stamp}
use Rattle.rt_lines.specs.Stretches.{part, stretch_of}
use Rattle.rt_text.specs.Widgets.{AreSiteMarks, IsOwnOf, WidgetValue, last_newline, widget_without, reselected}
use Rattle.rt_text.proofs.LimitedDeletions.{deletion_edited, deletion_may, deletion_others, deletion_own, deletion_placed, deletion_refusal, deletion_seen, last_gone, last_kept, loss_kept, loss_of, widget_left}
use Rattle.rt_text.proofs.ViewLaws.{viewed}
use Rattle.rt_text.proofs.DeletionLaws.{deletion_listed}
use Rattle.rt_text.proofs.MadeDocument.{seen}
use Rattle.rt_text.proofs.MarkLaws.{own_of_selecting}
use Rattle.rt_text.proofs.PeerLaws.{leave_then}
use Rattle.rt_text.proofs.doc.Doc.delete_in.Given.{Over}
use Rattle.rt_text.proofs.doc.Doc.delete_in.Goals as goal

which : {F X : Type 0} {r checked : X} {fault memory : F} {some none : X} → (r ≡ some) ⊎ ((fault ≡ memory) × (r ≡ none)) → r ≡ checked → (fault ≡ memory) ⊎ (checked ≡ some)
which (inl e) s = inr (sym s ∙ e)
which (inr p) s = inl p.0

pub leave_all-requires : goal.leave_all-requires
leave_all-requires g c = subst (RangesFollow 0) (sym c.deref.ensures.value) c.in_ok-deletion.ensures.order

pub planned_deletion-requires-clause-distinct : goal.planned_deletion-requires-clause-distinct
planned_deletion-requires-clause-distinct g c = c.kept.ensures.distinct

pub planned_deletion-requires-clause-states : goal.planned_deletion-requires-clause-states
planned_deletion-requires-clause-states g c = c.kept.ensures.states

pub commit-requires : goal.commit-requires
commit-requires g c =
    let doc_value = c.args.self.now in
    let drafts : map body_of c.in_ok-deletion.deletion.drafts.items ≡ delete_drafts MOST_SPANS doc_value (loss_of doc_value c.args.widget.now.limits c.args.ranges.now) =
    c.in_ok-deletion.ensures.drafts doc_value (sym c.kept.ensures.cells)
    ∙ ap (delete_drafts MOST_SPANS doc_value)
    (loss_kept c.kept.result.1.now (g.S.TextStore.list c.kept.result.0.now) doc_value c.args.widget.now.limits c.stretch-stretch.result c.args.ranges.now c.kept.ensures.cells
    (c.stretch-stretch.ensures.value ∙ ap (stretch_of (g.S.TextStore.list c.kept.result.0.now)) c.limits.ensures)) in
    subst (λ (f : DocValue). MayBeMade f.site f.log (map body_of c.in_ok-deletion.deletion.drafts.items)) (sym c.self.view_is)
    (subst (MayBeMade doc_value.site doc_value.log) (sym drafts) (deletion_may doc_value c.args.widget.now.limits c.args.ranges.now c.kept.ensures.history c.kept.ensures.document))

pub returns-in_err-deletion : goal.returns-in_err-deletion
returns-in_err-deletion g c =
    let (y, is, gives) = err_from_is_err_and c.from_residual.result c.from_residual.ensures.1 in
    rw (is, gives) (record {
      ok = tt;
      checked = tt;
      err = inl c.in_err-deletion.ensures.err;
      unchanged = refl;
      own = c.requires.own;
      others = c.requires.others;
    })

pub invariant_of-self : goal.invariant_of-self
invariant_of-self g c = subst (λ (r : ReplicaValue). IsDoc r.cells c.self.inside.marks c.self.inside.tags.names) (sym c.in_err-commit.ensures.same) c.self.invariant

pub returns-in_err-commit : goal.returns-in_err-commit
returns-in_err-commit g c =
    let doc_value = c.args.self.now in
    let ranges = c.args.ranges.now in
    let limits = c.args.widget.now.limits in
    let drafts : map body_of c.in_ok-deletion.deletion.drafts.items ≡ delete_drafts MOST_SPANS doc_value (loss_of doc_value limits ranges) =
    c.in_ok-deletion.ensures.drafts doc_value (sym c.kept.ensures.cells)
    ∙ ap (delete_drafts MOST_SPANS doc_value)
    (loss_kept c.kept.result.1.now (g.S.TextStore.list c.kept.result.0.now) doc_value limits c.stretch-stretch.result ranges c.kept.ensures.cells
    (c.stretch-stretch.ensures.value ∙ ap (stretch_of (g.S.TextStore.list c.kept.result.0.now)) c.limits.ensures)) in
    let few : length doc_value.cells ≤ doc_value.limit = omega (arith, c.kept.ensures.few, ap length c.kept.ensures.cells, length-map (g.S.TextStore.list c.kept.result.0.now) (shown c.kept.result.1.now)) in
    let bodies = map body_of c.in_ok-deletion.deletion.drafts.items in
    let refusal : refusal_of c.self.inside.replica.limit bodies c.self.inside.replica.log ≡ clock_check (without_text doc_value (loss_of doc_value limits ranges)).count =
    ap (λ (f : DocValue). refusal_of f.limit bodies f.log) c.self.view_is ∙ ap (λ l. refusal_of doc_value.limit l doc_value.log) drafts ∙ deletion_refusal doc_value limits ranges c.kept.ensures.history c.kept.ensures.document few in
    let (y, is, gives) = err_from_is_err_and c.from_residual-in_err-commit.result c.from_residual-in_err-commit.ensures.1 in
    let doc : seen c.commit.new.self c.self.inside.marks c.self.inside.tags.names ≡ doc_value =
    (λ k. seen (c.in_err-commit.ensures.same k) c.self.inside.marks c.self.inside.tags.names) ∙ c.self.view_is in
    rw (is, gives) (record {
      ok = tt;
      checked = tt;
      err = which c.in_err-commit.ensures.refused refusal;
      unchanged = λ k. viewed (doc k) (widget_value c.args.widget.now) (map widget_value c.args.others.now);
      own = subst (λ (f : DocValue). IsOwnOf (length (text_of f.cells)) (widget_value c.args.widget.now)) (sym doc) c.requires.own;
      others = subst (λ (f : DocValue). AllByRecursion (IsOwnOf (length (text_of f.cells))) (map widget_value c.args.others.now)) (sym doc) c.requires.others;
    })

-- what the deletion has made, in the words of its laws
record Made (doc_value : DocValue) (own : WidgetValue) (others : List WidgetValue) (ranges : List Range) (new : ReplicaValue) (marks : List Mark) (removed : ℕ → Bool) (last : Stamp) (held : Bool) : Type 0 where
  doc : seen new marks doc_value.tags ≡ logged doc_value (delete_drafts MOST_SPANS doc_value (loss_of doc_value own.limits ranges)) (without_text doc_value (loss_of doc_value own.limits ranges))
  places : (p : ℕ) → removed p ≡ (loss_of doc_value own.limits ranges).places p
  moved : marks ≡ marks_left removed doc_value.marks
  newest : last ≡ last_newline (viewed doc_value own others)
  holds : held ≡ is_some (loss_of doc_value own.limits ranges).newline
  fits : clock_check (without_text doc_value (loss_of doc_value own.limits ranges)).count ≡ None

deletion_made : (g : Over) (c : goal.After-drop-deletion-2 g)
    → Made c.args.self.now (widget_value c.args.widget.now) (map widget_value c.args.others.now) c.args.ranges.now c.commit.new.self c.leave_all.new.marks (is_covered c.in_ok-deletion.deletion.removed.items) c.cell_at.result.stamp c.in_ok-deletion.deletion.held
deletion_made g c =
    let doc_value = c.args.self.now in
    let ranges = c.args.ranges.now in
    let limits = c.args.widget.now.limits in
    let d = c.in_ok-deletion.deletion in
    let kept = g.S.TextStore.list c.kept.result.0.now in
    let history = c.kept.ensures.history in
    let document = c.kept.ensures.document in
    let drafts : map body_of d.drafts.items ≡ delete_drafts MOST_SPANS doc_value (loss_of doc_value limits ranges) =
    c.in_ok-deletion.ensures.drafts doc_value (sym c.kept.ensures.cells)
    ∙ ap (delete_drafts MOST_SPANS doc_value)
    (loss_kept c.kept.result.1.now (g.S.TextStore.list c.kept.result.0.now) doc_value limits c.stretch-stretch.result ranges c.kept.ensures.cells
    (c.stretch-stretch.ensures.value ∙ ap (stretch_of (g.S.TextStore.list c.kept.result.0.now)) c.limits.ensures)) in
    let few : length doc_value.cells ≤ doc_value.limit = omega (arith, c.kept.ensures.few, ap length c.kept.ensures.cells, length-map kept (shown c.kept.result.1.now)) in
    let view = c.self.view_is in
    let bodies = map body_of d.drafts.items in
    let fits : refusal_of doc_value.limit (delete_drafts MOST_SPANS doc_value (loss_of doc_value limits ranges)) doc_value.log ≡ None =
    ap (λ l. refusal_of doc_value.limit l doc_value.log) (sym drafts) ∙ ap (λ (f : DocValue). refusal_of f.limit bodies f.log) (sym view) ∙ c.in_ok-commit.ensures.fits in
    let log : c.commit.new.self.log ≡ with_drafts doc_value.site (delete_drafts MOST_SPANS doc_value (loss_of doc_value limits ranges)) doc_value.log =
    c.in_ok-commit.ensures.log ∙ ap (λ (f : DocValue). with_drafts f.site bodies f.log) view ∙ ap (λ l. with_drafts doc_value.site l doc_value.log) drafts in
    let stretch : c.stretch-stretch.result ≡ stretch_of kept limits = c.stretch-stretch.ensures.value ∙ ap (stretch_of kept) c.limits.ensures in
    let loss : loss_in (part c.stretch-stretch.result (text_of kept)) c.stretch-stretch.result.begin ranges ≡ loss_of doc_value limits ranges =
    loss_kept c.kept.result.1.now kept doc_value limits c.stretch-stretch.result ranges c.kept.ensures.cells stretch in
    let places : (p : ℕ) → is_covered d.removed.items p ≡ (loss_of doc_value limits ranges).places p = λ p. c.in_ok-deletion.ensures.places p ∙ ap (λ (l : Loss). l.places p) loss in
    let moved : c.leave_all.new.marks ≡ marks_left (is_covered d.removed.items) doc_value.marks =
    c.leave_all.ensures.marks ∙ ap (λ l. marks_left (is_covered l) c.self.inside.marks) c.deref.ensures.value ∙ ap (λ (f : DocValue). marks_left (is_covered d.removed.items) f.marks) view in
    let site : c.commit.new.self.site ≡ doc_value.site = c.commit.ensures.site ∙ ap (λ (f : DocValue). f.site) view in
    let limit : c.commit.new.self.limit ≡ doc_value.limit = c.commit.ensures.limit ∙ ap (λ (f : DocValue). f.limit) view in
    record {
      doc = deletion_seen doc_value limits ranges history document c.kept.ensures.site c.commit.new.self c.leave_all.new.marks (is_covered d.removed.items) log c.in_ok-commit.ensures.cells site limit fits few places moved;
      places = places;
      moved = moved;
      holds = c.in_ok-deletion.ensures.held ∙ ap (λ (l : Loss). is_some l.newline) loss;
      newest = last_kept c.kept.result.1.now kept doc_value (widget_value c.args.widget.now) (map widget_value c.args.others.now) c.stretch-stretch.result c.cell_at.result c.kept.ensures.cells stretch c.cell_at.ensures;
      fits = sym (deletion_refusal doc_value limits ranges history document few) ∙ fits;
    }

pub invariant_of-self-2 : goal.invariant_of-self-2
invariant_of-self-2 g c =
    let doc_value = c.args.self.now in
    let ranges = c.args.ranges.now in
    let limits = c.args.widget.now.limits in
    let m = deletion_made g c in
    let cells : c.commit.new.self.cells ≡ (without_text doc_value (loss_of doc_value limits ranges)).cells = ap (λ (f : DocValue). f.cells) m.doc in record {
      placed = subst (λ (l : List TaggedCell). AreSiteMarks (length (text_of l)) c.leave_all.new.marks) (sym cells)
          (deletion_placed doc_value limits ranges c.leave_all.new.marks (is_covered c.in_ok-deletion.deletion.removed.items) m.places m.moved
          (subst (λ (f : DocValue). AreSiteMarks (length (text_of f.cells)) f.marks) c.self.view_is c.self.invariant.placed));
      listed = subst (λ (l : List TaggedCell). AreListed c.self.inside.tags.names l) (sym cells)
          (deletion_listed doc_value (loss_of doc_value limits ranges) c.self.inside.tags.names (subst (λ (f : DocValue). AreListed c.self.inside.tags.names f.cells) c.self.view_is c.self.invariant.listed));
    }

widget : (g : Over) (c : goal.After-drop-deletion-2 g) → (widget_value c.unselect_last.new.widget) ≡ widget_left (is_covered c.in_ok-deletion.deletion.removed.items) c.cell_at.result.stamp c.in_ok-deletion.deletion.held (widget_value c.args.widget.now)
widget g c =
    let held = c.in_ok-deletion.deletion.held in
    c.unselect_last.ensures.own ∙ ap (reselected (last_gone c.cell_at.result.stamp held)) (c.leave_all.ensures.own ∙ ap (λ l. widget_without (is_covered l) (widget_value c.args.widget.now)) c.deref.ensures.value)

others_left : (g : Over) (c : goal.After-drop-deletion-2 g)
    → map widget_value c.unselect_last.new.others ≡ map (widget_left (is_covered c.in_ok-deletion.deletion.removed.items) c.cell_at.result.stamp c.in_ok-deletion.deletion.held) (map widget_value c.args.others.now)
others_left g c =
    let held = c.in_ok-deletion.deletion.held in
    let removed = is_covered c.in_ok-deletion.deletion.removed.items in
    let others = map widget_value c.args.others.now in
    c.unselect_last.ensures.others ∙ ap (map (reselected (last_gone c.cell_at.result.stamp held))) (c.leave_all.ensures.others ∙ ap (λ l. map (widget_without (is_covered l)) others) c.deref.ensures.value) ∙ leave_then removed (last_gone c.cell_at.result.stamp held) others

pub returns : goal.returns
returns g c =
    let doc_value = c.args.self.now in
    let own = widget_value c.args.widget.now in
    let others = map widget_value c.args.others.now in
    let ranges = c.args.ranges.now in
    let limits = own.limits in
    let d = c.in_ok-deletion.deletion in
    let removed = is_covered d.removed.items in
    let m = deletion_made g c in
    let history = c.kept.ensures.history in
    let document = c.kept.ensures.document in
    let doc : DocValue = seen c.commit.new.self c.leave_all.new.marks c.self.inside.tags.names in
    let same : doc ≡ seen c.commit.new.self c.leave_all.new.marks doc_value.tags = ap (λ (f : DocValue). seen c.commit.new.self c.leave_all.new.marks f.tags) c.self.view_is in
    let left = without_text doc_value (loss_of doc_value limits ranges) in
    let cells : c.commit.new.self.cells ≡ left.cells = ap (λ (f : DocValue). f.cells) m.doc in
    record {
      ok = (λ i. record { doc = doc; own = widget g c i; others = others_left g c i })
          ∙ sym (deletion_edited doc_value own others ranges doc removed c.cell_at.result.stamp d.held (same ∙ m.doc) m.places m.newest m.holds);
      checked = ap (λ (f : DocValue). clock_check f.count) m.doc ∙ m.fits;
      err = tt;
      unchanged = tt;
      own = subst (λ (l : List TaggedCell). IsOwnOf (length (text_of l)) (widget_value c.unselect_last.new.widget)) (sym cells)
          (subst (IsOwnOf (length (text_of left.cells))) (sym (widget g c))
          (own_of_selecting _ _ _ (deletion_own doc_value limits ranges history document own removed m.places c.requires.own)));
      others = subst (λ (l : List TaggedCell). AllByRecursion (IsOwnOf (length (text_of l))) (map widget_value c.unselect_last.new.others)) (sym cells)
          (subst (AllByRecursion (IsOwnOf (length (text_of left.cells)))) (sym (others_left g c))
          (deletion_others doc_value limits ranges history document others removed c.cell_at.result.stamp d.held m.places c.requires.others));
    }
