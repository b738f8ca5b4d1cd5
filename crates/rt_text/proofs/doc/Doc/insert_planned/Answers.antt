use Rattle.rt_text.proofs.Room.{before_fits, grown_fits, mark_fits, visible_fits}
use Rattle.rt_stamps.specs.declared.stamp.Stamp.{Stamp}
use Rattle.std.proofs.Common.{◌≡◌, ◌∙◌, ◌≤◌, ◌+◌, ◌^◌, ◌-◌, All, ◌⊎◌, ap, inl, inr, length, map, refl, string_bytes, subst, sym, List, true}
use Rattle.std.specs.List.{AllByRecursion}
use Rattle.std.proofs.lemmas.Result.{err_from_is_err_and}
use Rattle.std.proofs.lemmas.Str.{IsUtf8-from_is_utf8}
use Rattle.rt_marks.specs.Marks.{mark_inserted, marks_inserted}
use Rattle.rt_ops.specs.Edits.{body_of}
use Rattle.rt_stamps.specs.Outcomes.{first_of}
use Rattle.rt_stamps.specs.Words.{as_words}
use Rattle.rt_store.specs.Cells.{text_of, visible_of}
use Rattle.rt_tags.specs.Tags.{IsName, is_ready}
use Rattle.rt_rga.specs.Drafts.{with_drafts}
use Rattle.rt_rga.specs.Made.{refusal_of}
use Rattle.rt_rga.specs.Requests.{MayBeMade}
use Rattle.rt_rga.specs.OneOrMany.{items_in}
use Rattle.rt_plans.specs.DocValue.{DocValue, logged}
use Rattle.rt_plans.specs.InsertionPlans.{Plans, selected_between}
use Rattle.rt_plans.specs.Insertions.{all_listed}
use Rattle.rt_plans.specs.Listed.{AreListed}
use Rattle.rt_plans.specs.Selected.{selected_stamps, room_in}
use Rattle.rt_plans.specs.Selections.{with_stamps}
use Rattle.rt_plans.proofs.PlaceLaws.{length_text, text_within}
use Rattle.rt_lines.specs.declared.stretch.Stretch.{Stretch}
use Rattle.rt_text.specs.Commands.{with_pieces_at}
use Rattle.rt_text.specs.Kept.{IsDoc}
use Rattle.rt_text.specs.Owned.{widget_value}
use Rattle.rt_text.specs.Widgets.{IsOwnOf, WidgetValue, in_text, widget_inserted, selections_of, with_selections}
use Rattle.rt_text.proofs.InsertedDocument.{all_fit, kept_made, made_drafts, made_flat, made_is, made_new, may_make, names_given, others_made, own_made, put_made, refused_as, refused_made}
use Rattle.rt_text.proofs.InsertedSides.{at_visible, place_is}
use Rattle.rt_text.proofs.MadeDocument.{seen, seen_made}
use Rattle.rt_text.proofs.MarkLaws.{own_of_selecting, site_fits}
use Rattle.rt_text.proofs.PeerLaws.{each_by, each_room, put_each, selecting}
use Rattle.rt_text.proofs.PutLaws.{late_checks, visible_same}
use Rattle.rt_text.proofs.ViewLaws.{viewed}
use Rattle.rt_text.proofs.doc.Doc.insert_planned.Goals as goal

which : {X M : Type 0} {r checked some : X} → M ⊎ (r ≡ some) → r ≡ checked → M ⊎ (checked ≡ some)
which (inl e) s = inl e
which (inr e) s = inr (sym s ∙ e)

pub overflow_add-at : goal.overflow_add-at
overflow_add-at g c =
    let document = c.args.self.now in
    let own = widget_value c.args.widget.now in
    let others = map widget_value c.args.others.now in
    let place = c.args.text.place in
    let table = c.kept.result.1.now in
    let kept = g.S.TextStore.list c.kept.result.0.now in
    let is = place_is document own others place c.kept.ensures.history c.kept.ensures.document c.kept.ensures.site c.requires.place in
    visible_fits (c.args.text.stretch.begin + place) (in_text (viewed document own others) place) (length (visible_of document.cells)) (length (visible_of kept)) (length (text_of kept)) (length kept) document.limit
    (ap (λ (y : Stretch). y.begin + place) c.requires.stretch)
    (at_visible document own others place is) (visible_same table kept document.cells c.kept.ensures.cells) (length_text kept) (text_within kept) c.kept.ensures.few c.kept.ensures.most

pub make_planned-requires-clause-names : goal.make_planned-requires-clause-names
make_planned-requires-clause-names g c =
    let document = c.args.self.now in
    let own = widget_value c.args.widget.now in
    let others = map widget_value c.args.others.now in
    let pieces = c.args.text.pieces.now in
    let rest = c.args.text.rest.now in
    let place = c.args.text.place in
    let is = place_is document own others place c.kept.ensures.history c.kept.ensures.document c.kept.ensures.site c.requires.place in
    let plans : Plans c.args.plan own.sel (selections_of others) document.tags (made_new document own others place pieces rest) =
    c.requires.plans others in
    let listed : AreListed document.tags document.cells = subst (λ (f : DocValue). AreListed f.tags f.cells) c.self.view_is c.self.invariant.listed in
    names_given document own others place pieces rest is c.args.plan plans c.requires.pieces listed

pub make_planned-requires-clause-may : goal.make_planned-requires-clause-may
make_planned-requires-clause-may g c =
    let document = c.args.self.now in
    let own = widget_value c.args.widget.now in
    let others = map widget_value c.args.others.now in
    let pieces = c.args.text.pieces.now in
    let rest = c.args.text.rest.now in
    let place = c.args.text.place in
    let is = place_is document own others place c.kept.ensures.history c.kept.ensures.document c.kept.ensures.site c.requires.place in
    let drafts : map body_of (items_in c.replace-drafts.result) ≡ made_drafts document own others place pieces rest =
    ap (λ few. map body_of (items_in few)) c.replace-drafts.ensures.value ∙ c.requires.drafts others in
    let may : MayBeMade document.site document.log (made_drafts document own others place pieces rest) =
    may_make document own others place pieces rest is c.requires.pieces (IsUtf8-from_is_utf8 c.args.text.rest.now c.args.text.utf8) in
    subst (λ (p : _). p) (λ i. MayBeMade (sym c.self.view_is i).site (sym c.self.view_is i).log (sym drafts i)) may

pub invariant_of-self : goal.invariant_of-self
invariant_of-self g c =
    subst (λ (p : _). p) (λ k. IsDoc (sym c.in_err-make_planned.ensures.same k).cells c.self.inside.marks (sym c.make_planned.ensures.tags k)) c.self.invariant

pub returns-in_err-make_planned : goal.returns-in_err-make_planned
returns-in_err-make_planned g c =
    let document = c.args.self.now in
    let own = widget_value c.args.widget.now in
    let others = map widget_value c.args.others.now in
    let pieces = c.args.text.pieces.now in
    let rest = c.args.text.rest.now in
    let place = c.args.text.place in
    let is = place_is document own others place c.kept.ensures.history c.kept.ensures.document c.kept.ensures.site c.requires.place in
    let drafts : map body_of (items_in c.replace-drafts.result) ≡ made_drafts document own others place pieces rest =
    ap (λ few. map body_of (items_in few)) c.replace-drafts.ensures.value ∙ c.requires.drafts others in
    let same : refusal_of c.self.inside.replica.limit (map body_of (items_in c.replace-drafts.result)) c.self.inside.replica.log ≡ first_of (late_checks document (with_pieces_at (viewed document own others) place pieces rest)) =
    (λ i. refusal_of (c.self.view_is i).limit (drafts i) (c.self.view_is i).log) ∙ refused_as document own others place pieces rest is in
    let (y, is, gives) = err_from_is_err_and c.from_residual.result c.from_residual.ensures.1 in
    let own_now : WidgetValue = widget_value c.args.widget.now in
    let doc : seen c.make_planned.new.replica c.self.inside.marks c.make_planned.new.tags.names ≡ c.args.self.now =
    (λ k. seen (c.in_err-make_planned.ensures.same k) c.self.inside.marks (c.make_planned.ensures.tags k)) ∙ c.self.view_is in
    let own_same : record own_now { sel = selected_stamps c.make_planned.new.selection } ≡ (widget_value c.args.widget.now) =
    ap (λ (s : List Stamp). record own_now { sel = s }) c.make_planned.ensures.selection in
    let others_same : map widget_value c.make_planned.new.others ≡ map widget_value c.args.others.now = c.make_planned.ensures.others in
    rw (is, gives) (record {
      ok = tt;
      checked = tt;
      err = which c.in_err-make_planned.ensures.refused same;
      unchanged = λ k. viewed (doc k) (own_same k) (others_same k);
      own = subst (λ (p : _). p) (λ k. IsOwnOf (length (text_of (sym doc k).cells)) (sym own_same k)) c.requires.own;
      others = subst (λ (p : _). p) (λ k. AllByRecursion (IsOwnOf (length (text_of (sym doc k).cells))) (sym others_same k)) c.requires.others;
    })

pub insert_all-requires : goal.insert_all-requires
insert_all-requires g c =
    let document = c.args.self.now in
    let own = widget_value c.args.widget.now in
    let others = map widget_value c.args.others.now in
    let pieces = c.args.text.pieces.now in
    let rest = c.args.text.rest.now in
    let place = c.args.text.place in
    let is = place_is document own others place c.kept.ensures.history c.kept.ensures.document c.kept.ensures.site c.requires.place in
    let drafts : map body_of (items_in c.replace-drafts.result) ≡ made_drafts document own others place pieces rest =
    ap (λ few. map body_of (items_in few)) c.replace-drafts.ensures.value ∙ c.requires.drafts others in
    let plans : Plans c.args.plan own.sel (selections_of others) document.tags (made_new document own others place pieces rest) =
    c.requires.plans others in
    let fit = all_fit document own others place pieces rest is
    (sym (λ i. refusal_of (c.self.view_is i).limit (drafts i) (c.self.view_is i).log) ∙ c.in_ok-make_planned.ensures.fits) in
    let characters : c.args.plan.characters ≡ length (made_new document own others place pieces rest).cells = plans.characters in
    let many : length (text_of c.self.inside.replica.cells) ≡ length (text_of document.cells) = ap (λ (f : DocValue). length (text_of f.cells)) c.self.view_is in
    let few : length (text_of document.cells) + c.args.plan.characters ≤ 2 ^ 64 - 1 =
    grown_fits (length (text_of document.cells)) (length document.cells) (length (made_new document own others place pieces rest).cells) c.args.plan.characters document.limit fit.1 characters (text_within document.cells) c.kept.ensures.most in
    let between = c.args.plan.between in
    let now : map widget_value c.select_all.new.others ≡ map (selecting between) others = c.select_all.ensures.others ∙ ap (map (selecting between)) c.make_planned.ensures.others in
    let n = length (text_of document.cells) in
    record {
      marks = site_fits (length (text_of c.self.inside.replica.cells)) c.args.plan.characters (2 ^ 64 - 1) c.self.inside.marks (subst (λ n. n + c.args.plan.characters ≤ 2 ^ 64 - 1) (sym many) few) c.self.invariant.placed;
      insert = before_fits c.args.widget.now.insert.place own.insert.place (length (text_of document.cells)) c.args.plan.characters (2 ^ 64 - 1) refl c.requires.own.insert few;
      current = mark_fits c.args.widget.now.current.place own.current.place (length (text_of document.cells)) c.args.plan.characters (2 ^ 64 - 1) refl c.requires.own.current few;
      others = each_room n c.args.plan.characters (2 ^ 64 - 1) c.select_all.new.others few
          (subst (AllByRecursion (IsOwnOf n)) (sym now) (each_by (IsOwnOf n) (IsOwnOf n) (selecting between) (λ other stands. own_of_selecting n other _ stands) others c.requires.others));
    }

pub list_tags-requires-clause-names : goal.list_tags-requires-clause-names
list_tags-requires-clause-names g c =
    let document = c.args.self.now in
    let own = widget_value c.args.widget.now in
    let others = map widget_value c.args.others.now in
    let pieces = c.args.text.pieces.now in
    let rest = c.args.text.rest.now in
    let place = c.args.text.place in
    let is = place_is document own others place c.kept.ensures.history c.kept.ensures.document c.kept.ensures.site c.requires.place in
    let plans : Plans c.args.plan own.sel (selections_of others) document.tags (made_new document own others place pieces rest) =
    c.requires.plans others in
    let listed : AreListed document.tags document.cells = subst (λ (f : DocValue). AreListed f.tags f.cells) c.self.view_is c.self.invariant.listed in
    subst (All (λ w. IsName (string_bytes w))) (sym c.deref-2.ensures.value)
    (names_given document own others place pieces rest is c.args.plan plans c.requires.pieces listed)

pub invariant_of-self-2 : goal.invariant_of-self-2
invariant_of-self-2 g c =
    let document = c.args.self.now in
    let own = widget_value c.args.widget.now in
    let others = map widget_value c.args.others.now in
    let pieces = c.args.text.pieces.now in
    let rest = c.args.text.rest.now in
    let place = c.args.text.place in
    let at = c.args.text.stretch.begin + place in
    let point = in_text (viewed document own others) place in
    let here : at ≡ point =
    ap (λ (y : Stretch). y.begin + place) c.requires.stretch in
    let is = place_is document own others place c.kept.ensures.history c.kept.ensures.document c.kept.ensures.site c.requires.place in
    let drafts : map body_of (items_in c.replace-drafts.result) ≡ made_drafts document own others place pieces rest =
    ap (λ few. map body_of (items_in few)) c.replace-drafts.ensures.value ∙ c.requires.drafts others in
    let plans : Plans c.args.plan own.sel (selections_of others) document.tags (made_new document own others place pieces rest) =
    c.requires.plans others in
    let fit = all_fit document own others place pieces rest is
    (sym (λ i. refusal_of (c.self.view_is i).limit (drafts i) (c.self.view_is i).log) ∙ c.in_ok-make_planned.ensures.fits) in
    let new = made_new document own others place pieces rest in
    let edited = made_flat document own others place pieces rest in
    let bodies = made_drafts document own others place pieces rest in
    let log : c.make_planned.new.replica.log ≡ with_drafts document.site bodies document.log = c.in_ok-make_planned.ensures.log ∙ (λ i. with_drafts (c.self.view_is i).site (drafts i) (c.self.view_is i).log) in
    let made = made_is document own others place pieces rest is c.requires.pieces (IsUtf8-from_is_utf8 c.args.text.rest.now c.args.text.utf8) fit.0 in
    let doc : seen c.make_planned.new.replica edited.marks edited.tags ≡ logged document bodies edited =
    seen_made document edited bodies c.make_planned.new.replica log c.in_ok-make_planned.ensures.cells (c.make_planned.ensures.site ∙ ap (λ (f : DocValue). f.site) c.self.view_is) (c.make_planned.ensures.limit ∙ ap (λ (f : DocValue). f.limit) c.self.view_is) refl made in
    let marks : c.insert_all.new.marks ≡ edited.marks = c.insert_all.ensures.marks ∙ (λ i. marks_inserted (here i) (plans.characters i) (c.self.view_is i).marks) in
    let tags : c.list_tags.new.table.names ≡ edited.tags =
    c.list_tags.ensures ∙ (λ i. all_listed (as_words (c.deref-2.ensures.value i)) (c.make_planned.ensures.tags i)) ∙ ap (λ (f : DocValue). all_listed (as_words c.args.plan.names.items) f.tags) c.self.view_is ∙ plans.tags in
    let kept = kept_made document own others place pieces rest is c.requires.pieces (subst (λ (f : DocValue). IsDoc f.cells f.marks f.tags) c.self.view_is c.self.invariant) in
    subst (λ (p : _). p) (λ i. IsDoc (sym doc i).cells (sym marks i) (sym tags i)) kept

pub returns : goal.returns
returns g c =
    let document = c.args.self.now in
    let own = widget_value c.args.widget.now in
    let others = map widget_value c.args.others.now in
    let pieces = c.args.text.pieces.now in
    let rest = c.args.text.rest.now in
    let place = c.args.text.place in
    let at = c.args.text.stretch.begin + place in
    let point = in_text (viewed document own others) place in
    let here : at ≡ point =
    ap (λ (y : Stretch). y.begin + place) c.requires.stretch in
    let is = place_is document own others place c.kept.ensures.history c.kept.ensures.document c.kept.ensures.site c.requires.place in
    let drafts : map body_of (items_in c.replace-drafts.result) ≡ made_drafts document own others place pieces rest =
    ap (λ few. map body_of (items_in few)) c.replace-drafts.ensures.value ∙ c.requires.drafts others in
    let plans : Plans c.args.plan own.sel (selections_of others) document.tags (made_new document own others place pieces rest) =
    c.requires.plans others in
    let fit = all_fit document own others place pieces rest is
    (sym (λ i. refusal_of (c.self.view_is i).limit (drafts i) (c.self.view_is i).log) ∙ c.in_ok-make_planned.ensures.fits) in
    let listed : AreListed document.tags document.cells = subst (λ (f : DocValue). AreListed f.tags f.cells) c.self.view_is c.self.invariant.listed in
    let new = made_new document own others place pieces rest in
    let edited = made_flat document own others place pieces rest in
    let bodies = made_drafts document own others place pieces rest in
    let log : c.make_planned.new.replica.log ≡ with_drafts document.site bodies document.log = c.in_ok-make_planned.ensures.log ∙ (λ i. with_drafts (c.self.view_is i).site (drafts i) (c.self.view_is i).log) in
    let made = made_is document own others place pieces rest is c.requires.pieces (IsUtf8-from_is_utf8 c.args.text.rest.now c.args.text.utf8) fit.0 in
    let doc : seen c.make_planned.new.replica edited.marks edited.tags ≡ logged document bodies edited =
    seen_made document edited bodies c.make_planned.new.replica log c.in_ok-make_planned.ensures.cells (c.make_planned.ensures.site ∙ ap (λ (f : DocValue). f.site) c.self.view_is) (c.make_planned.ensures.limit ∙ ap (λ (f : DocValue). f.limit) c.self.view_is) refl made in
    let marks : c.insert_all.new.marks ≡ edited.marks = c.insert_all.ensures.marks ∙ (λ i. marks_inserted (here i) (plans.characters i) (c.self.view_is i).marks) in
    let tags : c.list_tags.new.table.names ≡ edited.tags =
    c.list_tags.ensures ∙ (λ i. all_listed (as_words (c.deref-2.ensures.value i)) (c.make_planned.ensures.tags i)) ∙ ap (λ (f : DocValue). all_listed (as_words c.args.plan.names.items) f.tags) c.self.view_is ∙ plans.tags in
    let own_now : WidgetValue = widget_value c.args.widget.now in
    let stamps : selected_stamps c.select_all.new.selection ≡ new.sel =
    c.select_all.ensures.selection ∙ (λ i. with_stamps (c.deref.ensures.value i) (c.make_planned.ensures.selection i)) ∙ plans.sel in
    let own_after : (widget_value c.insert_all.new.widget) ≡ record (widget_inserted point (length new.cells) own) { sel = new.sel } =
    c.insert_all.ensures.own
    ∙ (λ i. record { insert = mark_inserted (here i) (plans.characters i) own_now.insert; current = mark_inserted (here i) (plans.characters i) own_now.current; sel = stamps i; limits = own_now.limits }) in
    let others_after : map widget_value c.insert_all.new.others ≡ with_selections new.others (map (widget_inserted point (length new.cells)) others) =
    c.insert_all.ensures.others ∙ ap (map (widget_inserted at c.args.plan.characters)) (c.select_all.ensures.others ∙ ap (map (selecting c.args.plan.between)) c.make_planned.ensures.others)
    ∙ (λ i. map (widget_inserted (here i) (plans.characters i)) (map (selecting c.args.plan.between) others)) ∙ put_each point (length new.cells) (selected_between c.args.plan.between) others
    ∙ ap (λ l. with_selections l (map (widget_inserted point (length new.cells)) others)) plans.others in
    record {
      ok = (λ i. record { doc = seen c.make_planned.new.replica (marks i) (tags i); own = own_after i; others = others_after i })
          ∙ ap (λ (f : DocValue). record { doc = f; own = record (widget_inserted point (length new.cells) own) { sel = new.sel }; others = with_selections new.others (map (widget_inserted point (length new.cells)) others) }) doc
          ∙ sym (put_made document own others place pieces rest);
      checked = (λ i. first_of (late_checks document (record { doc = doc i; own = own; others = others })))
          ∙ sym (refused_made document own others place pieces rest is)
          ∙ sym (λ i. refusal_of (c.self.view_is i).limit (drafts i) (c.self.view_is i).log) ∙ c.in_ok-make_planned.ensures.fits;
      err = tt;
      unchanged = tt;
      own = subst (λ (p : _). p) (λ i. IsOwnOf (length (text_of (sym doc i).cells)) (sym own_after i)) (own_made document own others place pieces rest is c.requires.pieces listed c.requires.own);
      others = subst (λ (p : _). p) (λ i. AllByRecursion (IsOwnOf (length (text_of (sym doc i).cells))) (sym others_after i)) (others_made document own others place pieces rest is c.requires.pieces listed c.requires.others);
    }

pub select_all-requires-clause-selected : goal.select_all-requires-clause-selected
select_all-requires-clause-selected g c = subst (λ (l : List Stamp). length l ≤ room_in c.make_planned.new.selection) (sym c.deref.ensures.value) c.in_ok-make_planned.ensures.selects

pub select_all-requires-clause-between : goal.select_all-requires-clause-between
select_all-requires-clause-between g c = c.in_ok-make_planned.ensures.between

pub list_tags-requires-clause-ready : goal.list_tags-requires-clause-ready
list_tags-requires-clause-ready g c = subst (All (λ w. is_ready (string_bytes w) c.make_planned.new.tags ≡ true)) (sym c.deref-2.ensures.value) c.in_ok-make_planned.ensures.ready
