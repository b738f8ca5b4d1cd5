use Rattle.std.proofs.Common.{◌≡◌, ◌∙◌, ◌⊎◌, ◌≤◌, ◌^◌, ◌-◌, All, ap, arith, inl, inr, length, map, string_bytes, subst, sym, refl, true}
use Rattle.std.specs.List.{AllByRecursion}
use Rattle.std.proofs.lemmas.List.{length-map}
use Rattle.std.proofs.lemmas.Result.{err_from_is_err_and}
use Rattle.rt_ops.specs.Edits.{body_of}
use Rattle.rt_stamps.specs.declared.limits.TheConstants.{MOST_CELLS}
use Rattle.rt_stamps.specs.Words.{as_words}
use Rattle.rt_store.specs.Cells.{text_of}
use Rattle.rt_store.specs.Shown.{shown}
use Rattle.rt_tags.specs.Tags.{IsName, is_ready}
use Rattle.rt_rga.specs.Drafts.{with_drafts}
use Rattle.rt_rga.specs.Made.{refusal_of}
use Rattle.rt_rga.specs.Requests.{MayBeMade}
use Rattle.rt_rga.proofs.Requests.{greatest_bound}
use Rattle.rt_rga.specs.OneOrMany.{items_in}
use Rattle.rt_plans.specs.DocValue.{DocValue}
use Rattle.rt_plans.specs.Insertions.{all_listed}
use Rattle.rt_plans.proofs.PlaceLaws.{text_within}
use Rattle.rt_undo.specs.Actions.{group_of}
use Rattle.rt_revert.specs.Plans.{IsOf, IsTextChange, marks_after, named_group}
use Rattle.rt_revert.specs.Reverting.{reversion, reverted}
use Rattle.rt_revert.specs.ReversionLaws.{AllMayRevert}
use Rattle.rt_revert.proofs.Steps.{reversion_sound}
use Rattle.rt_text.specs.Changes.{widget_after, widget_renamed}
use Rattle.rt_text.specs.Kept.{IsDoc}
use Rattle.rt_text.specs.Reversions.{widget_reverted, reversion_check}
use Rattle.rt_text.specs.Owned.{widget_value}
use Rattle.rt_text.specs.Widgets.{IsOwnOf}
use Rattle.rt_text.proofs.MadeDocument.{seen}
use Rattle.rt_text.proofs.MarkLaws.{site_fits}
use Rattle.rt_text.proofs.PeerLaws.{each_by, each_room}
use Rattle.rt_text.proofs.PlannedReversion.{IsPlanned, names_planned, not_planned, own_left_in, own_moved, planned, reverts}
use Rattle.rt_text.proofs.RevertedDocument.{all_may, all_refused, left_kept, left_seen, store_older}
use Rattle.rt_text.proofs.doc.Doc.revert_in.Goals as goal

which : {F X : Type 0} {r checked : X} {fault memory : F} {some none : X} → (r ≡ some) ⊎ ((fault ≡ memory) × (r ≡ none)) → r ≡ checked → (fault ≡ memory) ⊎ (checked ≡ some)
which (inl e) s = inr (sym s ∙ e)
which (inr p) s = inl p.0

pub planned_reversion-requires-clause-older : goal.planned_reversion-requires-clause-older
planned_reversion-requires-clause-older g c =
    let document = c.args.self.now in
    let states = c.kept.result.1.now in
    let store = g.S.TextStore.list c.kept.result.0.now in
    let many = c.seen-count.result in
    let count : many ≡ document.count = c.seen-count.ensures.value ∙ c.clock.ensures ∙ ap (λ (f : DocValue). f.count) c.self.view_is in
    store_older states store document many c.kept.ensures.cells c.kept.ensures.history c.kept.ensures.document count

pub planned_reversion-requires-clause-count : goal.planned_reversion-requires-clause-count
planned_reversion-requires-clause-count g c =
    let document = c.args.self.now in
    let many = c.seen-count.result in
    let count : many ≡ document.count = c.seen-count.ensures.value ∙ c.clock.ensures ∙ ap (λ (f : DocValue). f.count) c.self.view_is in
    let most = greatest_bound document.log c.kept.ensures.history in
    omega (arith, count, c.kept.ensures.document.count, most)

pub returns-in_err-plan : goal.returns-in_err-plan
returns-in_err-plan g c =
    let document = c.args.self.now in
    let group = named_group c.args.kept.now (group_of c.args.group.now) in
    let states = c.kept.result.1.now in
    let store = g.S.TextStore.list c.kept.result.0.now in
    let number = c.site-site.result.number in
    let many = c.seen-count.result in
    let site : number ≡ document.site = c.site-site.ensures ∙ ap (λ (f : DocValue). f.site) c.self.view_is in
    let count : many ≡ document.count = c.seen-count.ensures.value ∙ c.clock.ensures ∙ ap (λ (f : DocValue). f.count) c.self.view_is in
    let is : IsOf states store number many document = record { cells = sym c.kept.ensures.cells; site = sym site; count = sym count } in
    let (y, same, gives) = err_from_is_err_and c.from_residual.result c.from_residual.ensures.1 in
    rw (same, gives) (record {
      doc = tt;
      widget = tt;
      peers = tt;
      checked = tt;
      returns = tt;
      actions = tt;
      given = tt;
      sound = tt;
      ids = c.planned_reversion.ensures.ids;
      err = not_planned states store number many document group c.in_err-plan.field-0.0 is c.in_err-plan.ensures.err;
      unchanged = (refl, refl, refl);
      own = c.requires.own;
      others = c.requires.others;
    })

pub prepare_tags-requires : goal.prepare_tags-requires
prepare_tags-requires g c =
    subst (All (λ w. IsName (string_bytes w))) (sym c.deref.ensures.value) (names_planned c.in_ok-plan.plan c.in_ok-plan.ensures.names)

pub commit-requires : goal.commit-requires
commit-requires g c =
    let document = c.args.self.now in
    let group = named_group c.args.kept.now (group_of c.args.group.now) in
    let states = c.kept.result.1.now in
    let store = g.S.TextStore.list c.kept.result.0.now in
    let number = c.site-site.result.number in
    let many = c.seen-count.result in
    let site : number ≡ document.site = c.site-site.ensures ∙ ap (λ (f : DocValue). f.site) c.self.view_is in
    let count : many ≡ document.count = c.seen-count.ensures.value ∙ c.clock.ensures ∙ ap (λ (f : DocValue). f.count) c.self.view_is in
    let is : IsOf states store number many document = record { cells = sym c.kept.ensures.cells; site = sym site; count = sym count } in
    let table = c.planned_reversion.new.kept in
    let plan = c.in_ok-plan.plan in
    let p : IsPlanned states table store number many document group plan = record {
      real = c.kept.ensures.site;
      history = c.kept.ensures.history;
      document = c.kept.ensures.document;
      sound = c.requires.sound;
      is = is;
      plans = c.in_ok-plan.ensures.plan;
      fits = c.in_ok-plan.ensures.fits;
    } in
    let plans = planned states table store number many document group plan p in
    let i = reverts states table store number many document group plan p in
    subst (λ (x : _). x) (λ k. MayBeMade (sym c.self.view_is k).site (sym c.self.view_is k).log (sym plans.drafts k)) (all_may document group i)

pub invariant_of-self : goal.invariant_of-self
invariant_of-self g c = subst (IsDoc c.self.inside.replica.cells c.self.inside.marks) (sym c.prepare_tags.ensures.names) c.self.invariant

pub returns-in_err-prepare_tags : goal.returns-in_err-prepare_tags
returns-in_err-prepare_tags g c =
    let document = c.args.self.now in
    let (y, is, gives) = err_from_is_err_and c.from_residual-in_err-prepare_tags.result c.from_residual-in_err-prepare_tags.ensures.1 in
    let doc : seen c.self.inside.replica c.self.inside.marks c.prepare_tags.new.table.names ≡ document =
    ap (seen c.self.inside.replica c.self.inside.marks) c.prepare_tags.ensures.names ∙ c.self.view_is in
    rw (is, gives) (record {
      doc = tt;
      widget = tt;
      peers = tt;
      checked = tt;
      returns = tt;
      actions = tt;
      given = tt;
      sound = tt;
      ids = c.planned_reversion.ensures.ids;
      err = inl c.in_err-prepare_tags.ensures.err;
      unchanged = (doc, refl, refl);
      own = subst (λ (f : DocValue). IsOwnOf (length (text_of f.cells)) (widget_value c.args.widget.now)) (sym doc) c.requires.own;
      others = subst (λ (f : DocValue). AllByRecursion (IsOwnOf (length (text_of f.cells))) (map widget_value c.args.others.now)) (sym doc) c.requires.others;
    })

pub invariant_of-self-in_err-commit : goal.invariant_of-self-in_err-commit
invariant_of-self-in_err-commit g c =
    subst (λ (p : _). p) (λ k. IsDoc (sym c.in_err-commit.ensures.same k).cells c.self.inside.marks (sym c.prepare_tags.ensures.names k)) c.self.invariant

pub returns-in_err-commit : goal.returns-in_err-commit
returns-in_err-commit g c =
    let document = c.args.self.now in
    let group = named_group c.args.kept.now (group_of c.args.group.now) in
    let states = c.kept.result.1.now in
    let store = g.S.TextStore.list c.kept.result.0.now in
    let number = c.site-site.result.number in
    let many = c.seen-count.result in
    let site : number ≡ document.site = c.site-site.ensures ∙ ap (λ (f : DocValue). f.site) c.self.view_is in
    let count : many ≡ document.count = c.seen-count.ensures.value ∙ c.clock.ensures ∙ ap (λ (f : DocValue). f.count) c.self.view_is in
    let is : IsOf states store number many document = record { cells = sym c.kept.ensures.cells; site = sym site; count = sym count } in
    let table = c.planned_reversion.new.kept in
    let plan = c.in_ok-plan.plan in
    let p : IsPlanned states table store number many document group plan = record {
      real = c.kept.ensures.site;
      history = c.kept.ensures.history;
      document = c.kept.ensures.document;
      sound = c.requires.sound;
      is = is;
      plans = c.in_ok-plan.ensures.plan;
      fits = c.in_ok-plan.ensures.fits;
    } in
    let plans = planned states table store number many document group plan p in
    let i = reverts states table store number many document group plan p in
    let same : refusal_of c.self.inside.replica.limit (map body_of (items_in plan.drafts)) c.self.inside.replica.log ≡ reversion_check document group =
    (λ k. refusal_of (c.self.view_is k).limit (plans.drafts k) (c.self.view_is k).log) ∙ all_refused document group i in
    let (y, is, gives) = err_from_is_err_and c.from_residual-in_err-commit.result c.from_residual-in_err-commit.ensures.1 in
    let doc : seen c.commit.new.self c.self.inside.marks c.prepare_tags.new.table.names ≡ document =
    (λ k. seen (c.in_err-commit.ensures.same k) c.self.inside.marks (c.prepare_tags.ensures.names k)) ∙ c.self.view_is in
    rw (is, gives) (record {
      doc = tt;
      widget = tt;
      peers = tt;
      checked = tt;
      returns = tt;
      actions = tt;
      given = tt;
      sound = tt;
      ids = c.planned_reversion.ensures.ids;
      err = which c.in_err-commit.ensures.refused same;
      unchanged = (doc, refl, refl);
      own = subst (λ (f : DocValue). IsOwnOf (length (text_of f.cells)) (widget_value c.args.widget.now)) (sym doc) c.requires.own;
      others = subst (λ (f : DocValue). AllByRecursion (IsOwnOf (length (text_of f.cells))) (map widget_value c.args.others.now)) (sym doc) c.requires.others;
    })

pub revert_all-requires : goal.revert_all-requires
revert_all-requires g c =
    let document = c.args.self.now in
    let states = c.kept.result.1.now in
    let store = g.S.TextStore.list c.kept.result.0.now in
    let plan = c.in_ok-plan.plan in
    let n = length (text_of c.self.inside.replica.cells) in
    let text : n ≡ length (text_of document.cells) = ap (λ (f : DocValue). length (text_of f.cells)) c.self.view_is in
    let cells : length document.cells ≡ length store = ap length (sym c.kept.ensures.cells) ∙ length-map store (shown states) in
    let within : n ≤ MOST_CELLS = omega (arith, text, cells, text_within document.cells, c.kept.ensures.few, c.kept.ensures.most) in
    let changes : c.deref-2.result.now ≡ plan.changes.items = c.deref-2.ensures.value in
    let few : length c.deref-2.result.now ≤ 2 ^ 63 = omega (arith, ap length changes, plan.changes.ok.0, plan.changes.ok.1, plan.changes.small) in
    record {
      changes = subst (AllByRecursion IsTextChange) (sym c.deref-2.ensures.value) c.in_ok-plan.ensures.changes;
      marks = site_fits n (length c.deref-2.result.now) (2 ^ 64 - 1) c.self.inside.marks (omega (arith, within, few)) c.self.invariant.placed;
      insert = omega (arith, text, within, few, c.requires.own.insert);
      current = omega (arith, text, within, few, c.requires.own.current);
      others = each_room (length (text_of document.cells)) (length c.deref-2.result.now) (2 ^ 64 - 1) c.args.others.now (omega (arith, text, within, few)) c.requires.others;
    }

pub list_tags-requires-clause-names : goal.list_tags-requires-clause-names
list_tags-requires-clause-names g c =
    subst (All (λ w. IsName (string_bytes w))) (sym c.deref-4.ensures.value) (names_planned c.in_ok-plan.plan c.in_ok-plan.ensures.names)

pub invariant_of-self-2 : goal.invariant_of-self-2
invariant_of-self-2 g c =
    let document = c.args.self.now in
    let group = named_group c.args.kept.now (group_of c.args.group.now) in
    let states = c.kept.result.1.now in
    let store = g.S.TextStore.list c.kept.result.0.now in
    let number = c.site-site.result.number in
    let many = c.seen-count.result in
    let site : number ≡ document.site = c.site-site.ensures ∙ ap (λ (f : DocValue). f.site) c.self.view_is in
    let count : many ≡ document.count = c.seen-count.ensures.value ∙ c.clock.ensures ∙ ap (λ (f : DocValue). f.count) c.self.view_is in
    let is : IsOf states store number many document = record { cells = sym c.kept.ensures.cells; site = sym site; count = sym count } in
    let table = c.planned_reversion.new.kept in
    let plan = c.in_ok-plan.plan in
    let p : IsPlanned states table store number many document group plan = record {
      real = c.kept.ensures.site;
      history = c.kept.ensures.history;
      document = c.kept.ensures.document;
      sound = c.requires.sound;
      is = is;
      plans = c.in_ok-plan.ensures.plan;
      fits = c.in_ok-plan.ensures.fits;
    } in
    let plans = planned states table store number many document group plan p in
    let i = reverts states table store number many document group plan p in
    let left = (reversion document group).doc in
    let doc : seen c.commit.new.self left.marks left.tags ≡ reverted document group =
    left_seen document group i c.commit.new.self (c.in_ok-commit.ensures.log ∙ (λ k. with_drafts (c.self.view_is k).site (plans.drafts k) (c.self.view_is k).log)) c.in_ok-commit.ensures.cells
    (c.commit.ensures.site ∙ ap (λ (f : DocValue). f.site) c.self.view_is) (c.commit.ensures.limit ∙ ap (λ (f : DocValue). f.limit) c.self.view_is) in
    let marks : c.revert_all.new.marks ≡ left.marks = c.revert_all.ensures.marks ∙ (λ k. marks_after (c.deref-2.ensures.value k) (c.self.view_is k).marks) ∙ plans.marks in
    let tags : c.list_tags.new.table.names ≡ left.tags =
    c.list_tags.ensures ∙ (λ k. all_listed (as_words (c.deref-4.ensures.value k)) (c.prepare_tags.ensures.names k)) ∙ ap (λ (f : DocValue). all_listed (as_words plan.names.items) f.tags) c.self.view_is ∙ plans.tags in
    let kept : IsDoc document.cells document.marks document.tags = subst (λ (f : DocValue). IsDoc f.cells f.marks f.tags) c.self.view_is c.self.invariant in
    subst (λ (x : _). x) (λ k. IsDoc (sym doc k).cells (sym marks k) (sym tags k)) (left_kept document group i kept)

pub returns : goal.returns
returns g c =
    let document = c.args.self.now in
    let group = named_group c.args.kept.now (group_of c.args.group.now) in
    let states = c.kept.result.1.now in
    let store = g.S.TextStore.list c.kept.result.0.now in
    let number = c.site-site.result.number in
    let many = c.seen-count.result in
    let site : number ≡ document.site = c.site-site.ensures ∙ ap (λ (f : DocValue). f.site) c.self.view_is in
    let count : many ≡ document.count = c.seen-count.ensures.value ∙ c.clock.ensures ∙ ap (λ (f : DocValue). f.count) c.self.view_is in
    let is : IsOf states store number many document = record { cells = sym c.kept.ensures.cells; site = sym site; count = sym count } in
    let table = c.planned_reversion.new.kept in
    let plan = c.in_ok-plan.plan in
    let p : IsPlanned states table store number many document group plan = record {
      real = c.kept.ensures.site;
      history = c.kept.ensures.history;
      document = c.kept.ensures.document;
      sound = c.requires.sound;
      is = is;
      plans = c.in_ok-plan.ensures.plan;
      fits = c.in_ok-plan.ensures.fits;
    } in
    let plans = planned states table store number many document group plan p in
    let i = reverts states table store number many document group plan p in
    let left = (reversion document group).doc in
    let doc : seen c.commit.new.self left.marks left.tags ≡ reverted document group =
    left_seen document group i c.commit.new.self (c.in_ok-commit.ensures.log ∙ (λ k. with_drafts (c.self.view_is k).site (plans.drafts k) (c.self.view_is k).log)) c.in_ok-commit.ensures.cells
    (c.commit.ensures.site ∙ ap (λ (f : DocValue). f.site) c.self.view_is) (c.commit.ensures.limit ∙ ap (λ (f : DocValue). f.limit) c.self.view_is) in
    let marks : c.revert_all.new.marks ≡ left.marks = c.revert_all.ensures.marks ∙ (λ k. marks_after (c.deref-2.ensures.value k) (c.self.view_is k).marks) ∙ plans.marks in
    let tags : c.list_tags.new.table.names ≡ left.tags =
    c.list_tags.ensures ∙ (λ k. all_listed (as_words (c.deref-4.ensures.value k)) (c.prepare_tags.ensures.names k)) ∙ ap (λ (f : DocValue). all_listed (as_words plan.names.items) f.tags) c.self.view_is ∙ plans.tags in
    let own = widget_value c.args.widget.now in
    let own_moved_is : (widget_value c.revert_all.new.widget) ≡ widget_reverted document group own =
    c.revert_all.ensures.own ∙ (λ k. widget_renamed (c.deref-3.ensures.value k) (widget_after (c.deref-2.ensures.value k) own)) ∙ own_moved states table store number many document group plan p own in
    let others = map widget_value c.args.others.now in
    let others_moved : map widget_value c.revert_all.new.others ≡ map (widget_reverted document group) others =
    c.revert_all.ensures.others ∙ (λ k. map (λ own. widget_renamed (c.deref-3.ensures.value k) (widget_after (c.deref-2.ensures.value k) own)) others) ∙ (λ k. map (λ own. own_moved states table store number many document group plan p own k) others) in
    record {
      doc = (λ k. seen c.commit.new.self (marks k) (tags k)) ∙ doc;
      widget = own_moved_is;
      peers = others_moved;
      checked = sym (all_refused document group i) ∙ sym (λ k. refusal_of (c.self.view_is k).limit (plans.drafts k) (c.self.view_is k).log) ∙ c.in_ok-commit.ensures.fits;
      returns = plans.returns;
      actions = plans.actions;
      given = c.in_ok-plan.ensures.given;
      sound = subst AllMayRevert (sym plans.actions) (reversion_sound document.site document.log document group i.real i.history i.document i.sound i.fits);
      ids = c.planned_reversion.ensures.ids;
      err = tt;
      unchanged = tt;
      own = subst (λ (x : _). x) (λ k. IsOwnOf (length (text_of (sym doc k).cells)) (sym own_moved_is k)) (own_left_in states table store number many document group plan p own c.requires.own);
      others = subst (λ (x : _). x) (λ k. AllByRecursion (IsOwnOf (length (text_of (sym doc k).cells))) (sym others_moved k))
          (each_by (IsOwnOf (length (text_of document.cells))) (IsOwnOf (length (text_of (reverted document group).cells))) (widget_reverted document group)
          (λ own stands. own_left_in states table store number many document group plan p own stands) others c.requires.others);
    }

pub list_tags-requires-clause-ready : goal.list_tags-requires-clause-ready
list_tags-requires-clause-ready g c =
    subst (All (λ w. is_ready (string_bytes w) c.prepare_tags.new.table ≡ true)) (c.deref.ensures.value ∙ sym c.deref-4.ensures.value) c.in_ok-prepare_tags.ensures.ready
