use Rattle.rt_text.specs.declared.widget.Widget.{Widget}
use Rattle.rt_plans.specs.declared.inserting.Between.{Between}
use Rattle.rt_text.proofs.Room.{before_fits, mark_fits, text_fits}
use Rattle.rt_stamps.specs.declared.stamp.Stamp.{Stamp}
use Rattle.std.proofs.Common.{[], ◌∷◌, ◌<◌, Option, Some, ◌≡◌, ◌∙◌, ◌⊎◌, ◌≤◌, ◌+◌, ◌^◌, ◌-◌, ◌++◌, ℕ, All, List, None, ap, arith, inl, inr, length, map, string_bytes, subst, sym, refl, Bool, true, false}
use Rattle.std.specs.List.{AllByRecursion}
use Rattle.std.proofs.lemmas.List.{length-map}
use Rattle.std.proofs.lemmas.Result.{err_from_is_err_and}
use Rattle.rt_marks.specs.Marks.{Mark, marks_inserted, marks_left}
use Rattle.rt_ops.specs.Edits.{body_of}
use Rattle.rt_stamps.specs.declared.fault.Fault.{Fault}
use Rattle.rt_stamps.specs.declared.fault.Fault.TheVariants.{ClockSpent, NoMemory}
use Rattle.rt_stamps.specs.declared.limits.TheConstants.{GREATEST_COUNT, MOST_SPANS}
use Rattle.rt_stamps.specs.Outcomes.{first_of}
use Rattle.rt_stamps.specs.Words.{Word, as_words}
use Rattle.rt_store.specs.declared.cell.Cell.{Cell}
use Rattle.rt_store.specs.Cells.{text_of}
use Rattle.rt_store.specs.Shown.{shown}
use Rattle.rt_tags.specs.States.{TagStates}
use Rattle.rt_tags.specs.Tags.{IsName, is_ready}
use Rattle.rt_rga.specs.Drafts.{with_drafts}
use Rattle.rt_rga.specs.Kept.{ReplicaValue}
use Rattle.rt_rga.specs.Made.{refusal_of}
use Rattle.rt_rga.specs.Requests.{MayBeMade}
use Rattle.rt_plans.specs.declared.range.Range.{Range}
use Rattle.rt_plans.specs.Deletions.{delete_drafts}
use Rattle.rt_plans.specs.DocValue.{DocValue, logged}
use Rattle.rt_plans.specs.InsertionPlans.{selected_between}
use Rattle.rt_plans.specs.Insertions.{Piece, all_listed}
use Rattle.rt_plans.specs.Removals.{is_covered, RangesFollow}
use Rattle.rt_plans.specs.Selected.{selected_stamps, room_in}
use Rattle.rt_plans.specs.Selections.{with_stamps}
use Rattle.rt_plans.proofs.PlaceLaws.{text_within}
use Rattle.rt_lines.specs.declared.limits.Limits.{Limits}
use Rattle.rt_lines.specs.declared.stretch.Stretch.{Stretch}
use Rattle.rt_lines.specs.Stretches.{stretch_of}
use Rattle.rt_text.specs.Commands.{cell_check, with_range_replaced}
use Rattle.rt_text.specs.Kept.{IsDoc}
use Rattle.rt_text.specs.Replacements.{left_by, loss_at}
use Rattle.rt_text.specs.Owned.{widget_value, HaveRoomFor}
use Rattle.rt_text.specs.Widgets.{AreSiteMarks, IsOwnOf, WidgetValue, ViewValue, begin_of, last_newline, widget_inserted, widget_without, with_selections, reselected}
use Rattle.rt_text.proofs.KeptDocument.{clock_spent}
use Rattle.rt_text.proofs.LimitedDeletions.{last_gone, last_kept, stretch_kept, widget_left}
use Rattle.rt_text.proofs.MadeDocument.{seen}
use Rattle.rt_text.proofs.MarkLaws.{own_of_selecting, site_fits}
use Rattle.rt_text.proofs.PeerLaws.{each_by, each_room, leave_last, put_each, selecting}
use Rattle.rt_text.proofs.PutLaws.{late_checks}
use Rattle.rt_text.proofs.ReplacedDocument.{IsReplacement, all_may, all_refused, characters_fit, given_names, kept_after, marks_left_are, marks_left_in, more_drafts, more_flat, more_new, others_after, others_left_in, own_after, own_left_in, point, point_is, point_within, replaced_is, replacement_seen, tags_left_are}
use Rattle.rt_text.proofs.ViewLaws.{viewed}
use Rattle.rt_text.proofs.doc.Doc.replace_in.Given.{Over}
use Rattle.rt_text.proofs.doc.Doc.replace_in.Goals as goal

which : {X M : Type 0} {r checked some : X} → M ⊎ (r ≡ some) → r ≡ checked → M ⊎ (checked ≡ some)
which (inl e) s = inl e
which (inr e) s = inr (sym s ∙ e)

-- counts that are too great are refused first
spent : (document : DocValue) (edited : List WidgetValue → ViewValue) (others : List WidgetValue) (fault : Fault) → (fault ≡ NoMemory) ⊎ ((fault ≡ ClockSpent) × ((o : List WidgetValue) → GREATEST_COUNT < (edited o).doc.count))
    → (fault ≡ NoMemory) ⊎ (first_of (late_checks document (edited others)) ≡ Some fault)
spent document edited others fault (inl e) = inl e
spent document edited others fault (inr p) =
    let view = edited others in
    inr (ap (λ (o : Option Fault). first_of (o ∷ cell_check document.limit (length view.doc.cells) ∷ [])) (clock_spent view.doc.count (p.1 others)) ∙ ap (λ (x : Fault). Some x) (sym p.0))

pub returns-in_err-planned : goal.returns-in_err-planned
returns-in_err-planned g c =
    let (y, is, gives) = err_from_is_err_and c.from_residual.result c.from_residual.ensures.1 in
    rw (is, gives) (record {
      ok = tt;
      checked = tt;
      err = spent c.args.self.now (λ (o : List WidgetValue). with_range_replaced (record { doc = c.args.self.now; own = widget_value c.args.widget.now; others = o }) c.args.range c.args.pieces.now c.args.rest.now)
          (map widget_value c.args.others.now) c.in_err-planned.field-0.0 c.in_err-planned.ensures.err;
      unchanged = refl;
      own = c.requires.own;
      others = c.requires.others;
    })

-- the place in the text, as the code finds it
at_is : (table : TagStates) (kept : List (Cell ℕ)) (document : DocValue) (own : WidgetValue) (others : List WidgetValue) (place : ℕ) (limits : Limits) (stretch : Stretch) → map (shown table) kept ≡ document.cells → limits ≡ own.limits → stretch ≡ stretch_of kept limits
    → stretch.begin + place ≡ begin_of (viewed document own others) + place
at_is table kept document own others place limits stretch e l s = ap (λ (y : Stretch). y.begin + place) (s ∙ ap (stretch_of kept) l ∙ stretch_kept table kept document.cells own.limits e)

pub overflow_add-at : goal.overflow_add-at
overflow_add-at g c =
    let document = c.args.self.now in
    let own = widget_value c.args.widget.now in
    let others = map widget_value c.args.others.now in
    let pieces = c.args.pieces.now in
    let rest = c.args.rest.now in
    let r = c.in_ok-planned.planned in
    let plans = c.in_ok-planned.ensures.plans others in
    let i : IsReplacement document own others c.args.range r.place pieces rest = record {
      history = c.kept.ensures.history;
      document = c.kept.ensures.document;
      real = c.kept.ensures.site;
      fits = c.in_ok-planned.ensures.fits;
      at = plans.place;
      texts = c.requires.pieces;
      utf8 = c.utf8.rest;
    } in
    let kept = g.S.TextStore.list c.kept.result.0.now in
    let here : c.stretch-stretch.result.begin + r.place ≡ point document own others c.args.range r.place pieces rest i =
    at_is c.kept.result.1.now (g.S.TextStore.list c.kept.result.0.now) document own others r.place c.limits.result c.stretch-stretch.result c.kept.ensures.cells c.limits.ensures c.stretch-stretch.ensures.value
    ∙ point_is document own others c.args.range r.place pieces rest i in
    text_fits (c.stretch-stretch.result.begin + r.place) (point document own others c.args.range r.place pieces rest i) (length (text_of document.cells)) (length document.cells) (length (map (shown c.kept.result.1.now) kept)) (length kept) document.limit
    here (point_within document own others c.args.range r.place pieces rest i) (text_within document.cells) (ap length c.kept.ensures.cells) (length-map kept (shown c.kept.result.1.now)) c.kept.ensures.few c.kept.ensures.most

pub make_planned-requires-clause-names : goal.make_planned-requires-clause-names
make_planned-requires-clause-names g c =
    let document = c.args.self.now in
    let own = widget_value c.args.widget.now in
    let others = map widget_value c.args.others.now in
    let pieces = c.args.pieces.now in
    let rest = c.args.rest.now in
    let r = c.in_ok-planned.planned in
    let plans = c.in_ok-planned.ensures.plans others in
    let i : IsReplacement document own others c.args.range r.place pieces rest = record {
      history = c.kept.ensures.history;
      document = c.kept.ensures.document;
      real = c.kept.ensures.site;
      fits = c.in_ok-planned.ensures.fits;
      at = plans.place;
      texts = c.requires.pieces;
      utf8 = c.utf8.rest;
    } in
    let kept : IsDoc document.cells document.marks document.tags = subst (λ (f : DocValue). IsDoc f.cells f.marks f.tags) c.self.view_is c.self.invariant in
    given_names document own others c.args.range r.place pieces rest i r.plan plans.plan kept

pub make_planned-requires-clause-may : goal.make_planned-requires-clause-may
make_planned-requires-clause-may g c =
    let document = c.args.self.now in
    let own = widget_value c.args.widget.now in
    let others = map widget_value c.args.others.now in
    let pieces = c.args.pieces.now in
    let rest = c.args.rest.now in
    let r = c.in_ok-planned.planned in
    let plans = c.in_ok-planned.ensures.plans others in
    let drafts : map body_of c.replace-drafts.result.items ≡ map body_of r.drafts.items = ap (λ v. map body_of v.items) c.replace-drafts.ensures.value in
    let i : IsReplacement document own others c.args.range r.place pieces rest = record {
      history = c.kept.ensures.history;
      document = c.kept.ensures.document;
      real = c.kept.ensures.site;
      fits = c.in_ok-planned.ensures.fits;
      at = plans.place;
      texts = c.requires.pieces;
      utf8 = c.utf8.rest;
    } in
    subst (λ (p : _). p) (λ k. MayBeMade (sym c.self.view_is k).site (sym c.self.view_is k).log (sym (drafts ∙ plans.drafts) k)) (all_may document own others c.args.range r.place pieces rest i)

pub invariant_of-self : goal.invariant_of-self
invariant_of-self g c =
    subst (λ (p : _). p) (λ k. IsDoc (sym c.in_err-make_planned.ensures.same k).cells c.self.inside.marks (sym c.make_planned.ensures.tags k)) c.self.invariant

pub returns-in_err-make_planned : goal.returns-in_err-make_planned
returns-in_err-make_planned g c =
    let document = c.args.self.now in
    let own = widget_value c.args.widget.now in
    let others = map widget_value c.args.others.now in
    let pieces = c.args.pieces.now in
    let rest = c.args.rest.now in
    let r = c.in_ok-planned.planned in
    let plans = c.in_ok-planned.ensures.plans others in
    let drafts : map body_of c.replace-drafts.result.items ≡ map body_of r.drafts.items = ap (λ v. map body_of v.items) c.replace-drafts.ensures.value in
    let i : IsReplacement document own others c.args.range r.place pieces rest = record {
      history = c.kept.ensures.history;
      document = c.kept.ensures.document;
      real = c.kept.ensures.site;
      fits = c.in_ok-planned.ensures.fits;
      at = plans.place;
      texts = c.requires.pieces;
      utf8 = c.utf8.rest;
    } in
    let same : refusal_of c.self.inside.replica.limit (map body_of c.replace-drafts.result.items) c.self.inside.replica.log ≡ first_of (late_checks document (with_range_replaced (viewed document own others) c.args.range pieces rest)) =
    (λ k. refusal_of (c.self.view_is k).limit ((drafts ∙ plans.drafts) k) (c.self.view_is k).log) ∙ all_refused document own others c.args.range r.place pieces rest i in
    let (y, is, gives) = err_from_is_err_and c.from_residual-in_err-make_planned.result c.from_residual-in_err-make_planned.ensures.1 in
    let own_now : WidgetValue = widget_value c.args.widget.now in
    let doc : seen c.make_planned.new.replica c.self.inside.marks c.make_planned.new.tags.names ≡ c.args.self.now =
    (λ k. seen (c.in_err-make_planned.ensures.same k) c.self.inside.marks (c.make_planned.ensures.tags k)) ∙ c.self.view_is in
    let own_same : record own_now { sel = selected_stamps c.make_planned.new.selection } ≡ (widget_value c.args.widget.now) =
    ap (λ (s : List Stamp). record own_now { sel = s }) c.make_planned.ensures.selection in
    let others_same : map widget_value c.make_planned.new.others ≡ map widget_value c.args.others.now = c.make_planned.ensures.others in
    rw (is, gives) (record {
      ok = tt;
      checked = tt;
      err = which c.in_err-make_planned.ensures.refused same;
      unchanged = λ k. viewed (doc k) (own_same k) (others_same k);
      own = subst (λ (p : _). p) (λ k. IsOwnOf (length (text_of (sym doc k).cells)) (sym own_same k)) c.requires.own;
      others = subst (λ (p : _). p) (λ k. AllByRecursion (IsOwnOf (length (text_of (sym doc k).cells))) (sym others_same k)) c.requires.others;
    })

pub insert_all-requires : goal.insert_all-requires
insert_all-requires g c =
    let document = c.args.self.now in
    let own = widget_value c.args.widget.now in
    let others = map widget_value c.args.others.now in
    let pieces = c.args.pieces.now in
    let rest = c.args.rest.now in
    let r = c.in_ok-planned.planned in
    let plans = c.in_ok-planned.ensures.plans others in
    let drafts : map body_of c.replace-drafts.result.items ≡ map body_of r.drafts.items = ap (λ v. map body_of v.items) c.replace-drafts.ensures.value in
    let i : IsReplacement document own others c.args.range r.place pieces rest = record {
      history = c.kept.ensures.history;
      document = c.kept.ensures.document;
      real = c.kept.ensures.site;
      fits = c.in_ok-planned.ensures.fits;
      at = plans.place;
      texts = c.requires.pieces;
      utf8 = c.utf8.rest;
    } in
    let none = sym (λ k. refusal_of (c.self.view_is k).limit ((drafts ∙ plans.drafts) k) (c.self.view_is k).log) ∙ c.in_ok-make_planned.ensures.fits in
    let left = left_by (viewed document own others) c.args.range in
    let few : length (text_of left.doc.cells) + r.plan.characters ≤ 2 ^ 64 - 1 =
    subst (λ n. length (text_of left.doc.cells) + n ≤ 2 ^ 64 - 1) (sym plans.plan.characters) (characters_fit document own others c.args.range r.place pieces rest i none c.kept.ensures.most) in
    let newest : c.cell_at.result.stamp ≡ last_newline (viewed document own others) =
    last_kept c.kept.result.1.now (g.S.TextStore.list c.kept.result.0.now) document own others c.stretch-stretch.result c.cell_at.result c.kept.ensures.cells
    (c.stretch-stretch.ensures.value ∙ ap (stretch_of (g.S.TextStore.list c.kept.result.0.now)) c.limits.ensures) c.cell_at.ensures in
    let peers : map widget_value c.leave_all.new.others ≡ map (selecting r.plan.between) left.others =
    c.leave_all.ensures.others ∙ ap (λ rs. map (widget_without (is_covered rs)) (map widget_value c.select_all.new.others)) c.deref-2.ensures.value
    ∙ ap (map (widget_without (is_covered r.removed.items))) (c.select_all.ensures.others ∙ ap (map (selecting r.plan.between)) (c.unselect.ensures.others ∙ ap (map (reselected (last_gone c.cell_at.result.stamp r.held))) c.make_planned.ensures.others))
    ∙ leave_last (is_covered r.removed.items) (last_gone c.cell_at.result.stamp r.held) r.plan.between others
    ∙ (λ k. map (selecting r.plan.between) (map (widget_left (λ p. c.in_ok-planned.ensures.removed p k) (newest k) (c.in_ok-planned.ensures.held k)) others)) in
    let n = length (text_of left.doc.cells) in
    let kept : IsDoc document.cells document.marks document.tags = subst (λ (f : DocValue). IsDoc f.cells f.marks f.tags) c.self.view_is c.self.invariant in
    let moved : c.leave_all.new.marks ≡ left.doc.marks =
    c.leave_all.ensures.marks ∙ ap (λ l. marks_left (is_covered l) c.self.inside.marks) c.deref-2.ensures.value
    ∙ (λ k. marks_left (λ p. c.in_ok-planned.ensures.removed p k) (c.self.view_is k).marks) ∙ sym (marks_left_are document own others c.args.range r.place pieces rest i) in
    let own_now : WidgetValue = widget_value c.args.widget.now in
    let insert : c.leave_all.new.widget.insert.place ≡ left.own.insert.place =
    ap (λ (o : WidgetValue). o.insert.place) c.leave_all.ensures.own ∙ ap (λ rs. (widget_without (is_covered rs) own_now).insert.place) c.deref-2.ensures.value
    ∙ (λ k. (widget_without (λ p. c.in_ok-planned.ensures.removed p k) (widget_value c.args.widget.now)).insert.place) in
    let current : c.leave_all.new.widget.current.place ≡ left.own.current.place =
    ap (λ (o : WidgetValue). o.current.place) c.leave_all.ensures.own ∙ ap (λ rs. (widget_without (is_covered rs) own_now).current.place) c.deref-2.ensures.value
    ∙ (λ k. (widget_without (λ p. c.in_ok-planned.ensures.removed p k) (widget_value c.args.widget.now)).current.place) in
    record {
      marks = site_fits (length (text_of left.doc.cells)) r.plan.characters (2 ^ 64 - 1) c.leave_all.new.marks few
          (subst (AreSiteMarks (length (text_of left.doc.cells))) (sym moved) (marks_left_in document own others c.args.range r.place pieces rest i kept));
      insert = before_fits c.leave_all.new.widget.insert.place left.own.insert.place (length (text_of left.doc.cells)) r.plan.characters (2 ^ 64 - 1) insert (own_left_in document own others c.args.range r.place pieces rest i c.requires.own).insert few;
      current = mark_fits c.leave_all.new.widget.current.place left.own.current.place (length (text_of left.doc.cells)) r.plan.characters (2 ^ 64 - 1) current (own_left_in document own others c.args.range r.place pieces rest i c.requires.own).current few;
      others = each_room n r.plan.characters (2 ^ 64 - 1) c.leave_all.new.others few
          (subst (AllByRecursion (IsOwnOf n)) (sym peers)
          (each_by (IsOwnOf n) (IsOwnOf n) (selecting r.plan.between) (λ other stands. own_of_selecting n other _ stands) left.others (others_left_in document own others c.args.range r.place pieces rest i c.requires.others)));
    }

pub list_tags-requires-clause-names : goal.list_tags-requires-clause-names
list_tags-requires-clause-names g c =
    let document = c.args.self.now in
    let own = widget_value c.args.widget.now in
    let others = map widget_value c.args.others.now in
    let pieces = c.args.pieces.now in
    let rest = c.args.rest.now in
    let r = c.in_ok-planned.planned in
    let plans = c.in_ok-planned.ensures.plans others in
    let i : IsReplacement document own others c.args.range r.place pieces rest = record {
      history = c.kept.ensures.history;
      document = c.kept.ensures.document;
      real = c.kept.ensures.site;
      fits = c.in_ok-planned.ensures.fits;
      at = plans.place;
      texts = c.requires.pieces;
      utf8 = c.utf8.rest;
    } in
    let kept : IsDoc document.cells document.marks document.tags = subst (λ (f : DocValue). IsDoc f.cells f.marks f.tags) c.self.view_is c.self.invariant in
    subst (All (λ w. IsName (string_bytes w))) (sym c.deref-3.ensures.value) (given_names document own others c.args.range r.place pieces rest i r.plan plans.plan kept)

-- what the replacement has made, in the words of its laws
record Done (document : DocValue) (own : WidgetValue) (others : List WidgetValue) (range : Range) (place : ℕ) (pieces : List Piece) (rest : Word) (new : ReplicaValue) (marks : List Mark) (tags : List Word) (widget : WidgetValue)
    (peers : List WidgetValue) : Type 0 where
  is : IsReplacement document own others range place pieces rest
  kept : IsDoc document.cells document.marks document.tags
  none : refusal_of document.limit (delete_drafts MOST_SPANS document (loss_at (viewed document own others) range) ++ more_drafts document own others range place pieces rest is) document.log ≡ None
  marks_is : marks ≡ (more_flat document own others range place pieces rest is).marks
  tags_is : tags ≡ (more_flat document own others range place pieces rest is).tags
  doc : seen new (more_flat document own others range place pieces rest is).marks (more_flat document own others range place pieces rest is).tags
      ≡ logged (left_by (viewed document own others) range).doc (more_drafts document own others range place pieces rest is) (more_flat document own others range place pieces rest is)
  own_is : widget
      ≡ record (widget_inserted (point document own others range place pieces rest is) (length (more_new document own others range place pieces rest is).cells) (left_by (viewed document own others) range).own) { sel = (more_new document own others range place pieces rest is).sel }
  others_are : peers ≡ with_selections (more_new document own others range place pieces rest is).others
      (map (widget_inserted (point document own others range place pieces rest is) (length (more_new document own others range place pieces rest is).cells)) (left_by (viewed document own others) range).others)

done : (g : Over) (c : goal.After-drop-planned-2 g)
    → Done c.args.self.now (widget_value c.args.widget.now) (map widget_value c.args.others.now) c.args.range c.in_ok-planned.planned.place c.args.pieces.now c.args.rest.now c.make_planned.new.replica c.insert_all.new.marks c.list_tags.new.table.names
    (widget_value c.insert_all.new.widget) (map widget_value c.insert_all.new.others)
done g c =
    let document = c.args.self.now in
    let own = widget_value c.args.widget.now in
    let others = map widget_value c.args.others.now in
    let pieces = c.args.pieces.now in
    let rest = c.args.rest.now in
    let r = c.in_ok-planned.planned in
    let plans = c.in_ok-planned.ensures.plans others in
    let drafts : map body_of c.replace-drafts.result.items ≡ map body_of r.drafts.items = ap (λ v. map body_of v.items) c.replace-drafts.ensures.value in
    let i : IsReplacement document own others c.args.range r.place pieces rest = record {
      history = c.kept.ensures.history;
      document = c.kept.ensures.document;
      real = c.kept.ensures.site;
      fits = c.in_ok-planned.ensures.fits;
      at = plans.place;
      texts = c.requires.pieces;
      utf8 = c.utf8.rest;
    } in
    let kept : IsDoc document.cells document.marks document.tags = subst (λ (f : DocValue). IsDoc f.cells f.marks f.tags) c.self.view_is c.self.invariant in
    let none = sym (λ k. refusal_of (c.self.view_is k).limit ((drafts ∙ plans.drafts) k) (c.self.view_is k).log) ∙ c.in_ok-make_planned.ensures.fits in
    let left = left_by (viewed document own others) c.args.range in
    let moved : c.leave_all.new.marks ≡ left.doc.marks =
    c.leave_all.ensures.marks ∙ ap (λ l. marks_left (is_covered l) c.self.inside.marks) c.deref-2.ensures.value
    ∙ (λ k. marks_left (λ p. c.in_ok-planned.ensures.removed p k) (c.self.view_is k).marks) ∙ sym (marks_left_are document own others c.args.range r.place pieces rest i) in
    let at = c.stretch-stretch.result.begin + r.place in
    let place = point document own others c.args.range r.place pieces rest i in
    let own_now : WidgetValue = widget_value c.args.widget.now in
    let new = more_new document own others c.args.range r.place pieces rest i in
    let selected = r.plan.selected.items in
    let names = as_words r.plan.names.items in
    let newest : c.cell_at.result.stamp ≡ last_newline (viewed document own others) =
    last_kept c.kept.result.1.now (g.S.TextStore.list c.kept.result.0.now) document own others c.stretch-stretch.result c.cell_at.result c.kept.ensures.cells
    (c.stretch-stretch.ensures.value ∙ ap (stretch_of (g.S.TextStore.list c.kept.result.0.now)) c.limits.ensures) c.cell_at.ensures in
    let here : c.stretch-stretch.result.begin + r.place ≡ point document own others c.args.range r.place pieces rest i =
    at_is c.kept.result.1.now (g.S.TextStore.list c.kept.result.0.now) document own others r.place c.limits.result c.stretch-stretch.result c.kept.ensures.cells c.limits.ensures c.stretch-stretch.ensures.value
    ∙ point_is document own others c.args.range r.place pieces rest i in
    let held = c.in_ok-planned.ensures.held in
    let stamps : selected_stamps c.select_all.new.selection ≡ new.sel =
    c.select_all.ensures.selection ∙ (λ k. with_stamps (c.deref.ensures.value k) (c.unselect.ensures.sel k)) ∙ ap (λ s. with_stamps selected (last_gone c.cell_at.result.stamp r.held s)) c.make_planned.ensures.selection
    ∙ (λ k. with_stamps selected (last_gone (newest k) (held k) own.sel)) ∙ plans.plan.sel in
    let own_moved : (widget_value c.leave_all.new.widget) ≡ widget_without (loss_at (viewed document own others) c.args.range).places (record own { sel = new.sel }) =
    c.leave_all.ensures.own ∙ ap (λ rs. widget_without (is_covered rs) (record own_now { sel = selected_stamps c.select_all.new.selection })) c.deref-2.ensures.value
    ∙ (λ k. widget_without (λ p. c.in_ok-planned.ensures.removed p k) (record own { sel = stamps k })) in
    let peers : map widget_value c.leave_all.new.others ≡ map (selecting r.plan.between) left.others =
    c.leave_all.ensures.others ∙ ap (λ rs. map (widget_without (is_covered rs)) (map widget_value c.select_all.new.others)) c.deref-2.ensures.value
    ∙ ap (map (widget_without (is_covered r.removed.items))) (c.select_all.ensures.others ∙ ap (map (selecting r.plan.between)) (c.unselect.ensures.others ∙ ap (map (reselected (last_gone c.cell_at.result.stamp r.held))) c.make_planned.ensures.others))
    ∙ leave_last (is_covered r.removed.items) (last_gone c.cell_at.result.stamp r.held) r.plan.between others
    ∙ (λ k. map (selecting r.plan.between) (map (widget_left (λ p. c.in_ok-planned.ensures.removed p k) (newest k) (c.in_ok-planned.ensures.held k)) others)) in
    record {
      is = i;
      kept = kept;
      none = none;
      marks_is = c.insert_all.ensures.marks ∙ (λ k. marks_inserted (here k) (plans.plan.characters k) (moved k));
      tags_is = c.list_tags.ensures ∙ (λ k. all_listed (as_words (c.deref-3.ensures.value k)) (c.make_planned.ensures.tags k)) ∙ ap (λ (f : DocValue). all_listed names f.tags) c.self.view_is
          ∙ ap (all_listed names) (sym (tags_left_are document own others c.args.range r.place pieces rest i)) ∙ plans.plan.tags;
      doc = replacement_seen document own others c.args.range r.place pieces rest i c.make_planned.new.replica none
          (c.in_ok-make_planned.ensures.log ∙ (λ k. with_drafts (c.self.view_is k).site ((drafts ∙ plans.drafts) k) (c.self.view_is k).log)) c.in_ok-make_planned.ensures.cells
          (c.make_planned.ensures.site ∙ ap (λ (f : DocValue). f.site) c.self.view_is) (c.make_planned.ensures.limit ∙ ap (λ (f : DocValue). f.limit) c.self.view_is);
      own_is = c.insert_all.ensures.own ∙ (λ k. widget_inserted (here k) (plans.plan.characters k) (own_moved k));
      others_are = c.insert_all.ensures.others ∙ ap (map (widget_inserted at r.plan.characters)) peers
          ∙ (λ k. map (widget_inserted (here k) (plans.plan.characters k)) (map (selecting r.plan.between) left.others)) ∙ put_each place (length new.cells) (selected_between r.plan.between) left.others
          ∙ ap (λ l. with_selections l (map (widget_inserted place (length new.cells)) left.others)) plans.plan.others;
    }

pub invariant_of-self-2 : goal.invariant_of-self-2
invariant_of-self-2 g c =
    let document = c.args.self.now in
    let own = widget_value c.args.widget.now in
    let others = map widget_value c.args.others.now in
    let place = c.in_ok-planned.planned.place in
    let pieces = c.args.pieces.now in
    let rest = c.args.rest.now in
    let d = done g c in
    subst (λ (p : _). p) (λ k. IsDoc (sym d.doc k).cells (sym d.marks_is k) (sym d.tags_is k)) (kept_after document own others c.args.range place pieces rest d.is d.kept)

-- where the last newline is held nothing is selected between two, and else no selection has changed
room_kept : (held : Bool) (between : Option Between) (old new : List Widget) → (held ≡ true → between ≡ None) → (held ≡ false → new ≡ old) → HaveRoomFor between old → HaveRoomFor between new
room_kept true between old new none same room = subst (λ (b : Option Between). HaveRoomFor b new) (sym (none refl)) tt
room_kept false between old new none same room = subst (HaveRoomFor between) (sym (same refl)) room

more_room : (selected : List Stamp) (few old new : ℕ) → length selected ≡ few → few ≤ old → old ≤ new → length selected ≤ new
more_room selected few old new same fits more = omega arith

pub select_all-requires-clause-selected : goal.select_all-requires-clause-selected
select_all-requires-clause-selected g c =
    more_room c.deref.result.now (length c.in_ok-planned.planned.plan.selected.items) (room_in c.make_planned.new.selection) (room_in c.unselect.new.selection)
    (ap length c.deref.ensures.value) c.in_ok-make_planned.ensures.selects c.unselect.ensures.room

pub select_all-requires-clause-between : goal.select_all-requires-clause-between
select_all-requires-clause-between g c =
    room_kept c.in_ok-planned.planned.held c.in_ok-planned.planned.plan.between c.make_planned.new.others c.unselect.new.others c.in_ok-planned.ensures.alone c.unselect.ensures.kept c.in_ok-make_planned.ensures.between

pub leave_all-requires : goal.leave_all-requires
leave_all-requires g c = subst (RangesFollow 0) (sym c.deref-2.ensures.value) c.in_ok-planned.ensures.order

pub list_tags-requires-clause-ready : goal.list_tags-requires-clause-ready
list_tags-requires-clause-ready g c = subst (All (λ w. is_ready (string_bytes w) c.make_planned.new.tags ≡ true)) (sym c.deref-3.ensures.value) c.in_ok-make_planned.ensures.ready

pub returns : goal.returns
returns g c =
    let document = c.args.self.now in
    let own = widget_value c.args.widget.now in
    let others = map widget_value c.args.others.now in
    let place = c.in_ok-planned.planned.place in
    let pieces = c.args.pieces.now in
    let rest = c.args.rest.now in
    let d = done g c in
    let new = more_new document own others c.args.range place pieces rest d.is in
    record {
      ok = (λ k. record { doc = seen c.make_planned.new.replica (d.marks_is k) (d.tags_is k); own = d.own_is k; others = d.others_are k })
          ∙ ap (λ (f : DocValue). record {
            doc = f;
            own = record (widget_inserted (point document own others c.args.range place pieces rest d.is) (length new.cells) (left_by (viewed document own others) c.args.range).own) { sel = new.sel };
            others = with_selections new.others (map (widget_inserted (point document own others c.args.range place pieces rest d.is) (length new.cells)) (left_by (viewed document own others) c.args.range).others);
          }) d.doc
          ∙ sym (replaced_is document own others c.args.range place pieces rest d.is);
      checked = (λ k. first_of (late_checks document (record { doc = d.doc k; own = own; others = others }))) ∙ sym (ap (λ (v : ViewValue). first_of (late_checks document v)) (replaced_is document own others c.args.range place pieces rest d.is))
          ∙ sym (all_refused document own others c.args.range place pieces rest d.is) ∙ d.none;
      err = tt;
      unchanged = tt;
      own = subst (λ (p : _). p) (λ k. IsOwnOf (length (text_of (sym d.doc k).cells)) (sym d.own_is k)) (own_after document own others c.args.range place pieces rest d.is d.kept c.requires.own);
      others = subst (λ (p : _). p) (λ k. AllByRecursion (IsOwnOf (length (text_of (sym d.doc k).cells))) (sym d.others_are k)) (others_after document own others c.args.range place pieces rest d.is d.kept c.requires.others);
    }
