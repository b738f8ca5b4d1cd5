use Rattle.std.proofs.Common.{◌≡◌, ◌∙◌, ◌+◌, ◌-◌, ◌^◌, ◌≤◌, [], ◌∷◌, ◌⊎◌, ap, inl, inr, length, map, refl, subst, sym, List}
use Rattle.rt_text.proofs.Room.{before_fits, grown_fits, mark_fits, visible_fits}
use Rattle.rt_stamps.specs.declared.stamp.Stamp.{Stamp}
use Rattle.std.specs.List.{AllByRecursion}
use Rattle.std.proofs.lemmas.Result.{err_from_is_err_and}
use Rattle.std.proofs.lemmas.Str.{IsUtf8-from_is_utf8}
use Rattle.rt_marks.specs.Marks.{marks_inserted}
use Rattle.rt_stamps.specs.Outcomes.{first_of}
use Rattle.rt_store.specs.Cells.{text_of, visible_of}
use Rattle.rt_rga.specs.Made.{refusal_of}
use Rattle.rt_rga.specs.Requests.{MayBeMade}
use Rattle.rt_plans.specs.DocValue.{DocValue, logged}
use Rattle.rt_plans.specs.Listed.{AreListed}
use Rattle.rt_plans.proofs.PlaceLaws.{length_text, text_within}
use Rattle.rt_lines.specs.declared.stretch.Stretch.{Stretch}
use Rattle.rt_text.specs.Commands.{with_pieces_at}
use Rattle.rt_text.specs.Kept.{IsDoc}
use Rattle.rt_text.specs.Owned.{widget_value}
use Rattle.rt_text.specs.Widgets.{AreSiteMarks, IsOwnOf, in_text, widget_inserted, reselected, with_selections}
use Rattle.rt_text.proofs.InsertedDocument.{all_fit, kept_made, made_drafts, made_flat, made_is, made_new, may_make, others_made, own_made, put_made, refused_as, refused_made}
use Rattle.rt_text.proofs.InsertedSides.{at_visible, place_is}
use Rattle.rt_text.proofs.MadeDocument.{seen, seen_made}
use Rattle.rt_text.proofs.MarkLaws.{own_of_selecting, site_fits}
use Rattle.rt_text.proofs.PeerLaws.{each_by, each_room, put_each}
use Rattle.rt_text.proofs.PutLaws.{late_checks, visible_same}
use Rattle.rt_text.proofs.ViewLaws.{viewed}
use Rattle.rt_rga.specs.Drafts.{one_character, with_drafts}
use Rattle.rt_plans.specs.Insertions.{Insertion, selected_with}
use Rattle.rt_text.proofs.doc.Doc.insert_typed.Goals as goal

-- what a replica refuses is what the checks say
which : {X M N : Type 0} {r checked some : X} → (r ≡ some) ⊎ (M × N) → r ≡ checked → M ⊎ (checked ≡ some)
which (inl e) s = inr (sym s ∙ e)
which (inr p) s = inl p.0

pub overflow_add-at : goal.overflow_add-at
overflow_add-at g c =
    let document = c.args.self.now in
    let own = widget_value c.args.widget.now in
    let others = map widget_value c.args.others.now in
    let place = c.args.text.place in
    let table = c.kept.result.1.now in
    let kept = g.S.TextStore.list c.kept.result.0.now in
    let is = place_is document own others place c.kept.ensures.history c.kept.ensures.document c.kept.ensures.site c.requires.place in
    visible_fits (c.args.text.stretch.begin + place) (in_text (viewed document own others) place) (length (visible_of document.cells)) (length (visible_of kept)) (length (text_of kept)) (length kept) document.limit
    (ap (λ (y : Stretch). y.begin + place) c.requires.stretch)
    (at_visible document own others place is) (visible_same table kept document.cells c.kept.ensures.cells) (length_text kept) (text_within kept) c.kept.ensures.few c.kept.ensures.most

pub commit_character-requires : goal.commit_character-requires
commit_character-requires g c =
    let document = c.args.self.now in
    let own = widget_value c.args.widget.now in
    let others = map widget_value c.args.others.now in
    let pieces = c.args.text.pieces.now in
    let rest = c.args.text.rest.now in
    let place = c.args.text.place in
    let is = place_is document own others place c.kept.ensures.history c.kept.ensures.document c.kept.ensures.site c.requires.place in
    let may : MayBeMade document.site document.log (made_drafts document own others place pieces rest) = may_make document own others place pieces rest is c.requires.pieces (IsUtf8-from_is_utf8 c.args.text.rest.now c.args.text.utf8) in
    subst (λ (p : _). p) (λ i. MayBeMade (sym c.self.view_is i).site (sym c.self.view_is i).log (c.requires.drafts others i)) may

pub returns-in_err-commit_character : goal.returns-in_err-commit_character
returns-in_err-commit_character g c =
    let document = c.args.self.now in
    let own = widget_value c.args.widget.now in
    let others = map widget_value c.args.others.now in
    let pieces = c.args.text.pieces.now in
    let rest = c.args.text.rest.now in
    let place = c.args.text.place in
    let typed = c.args.typed in
    let is = place_is document own others place c.kept.ensures.history c.kept.ensures.document c.kept.ensures.site c.requires.place in
    let same : refusal_of c.self.inside.replica.limit (one_character typed.left typed.character) c.self.inside.replica.log ≡ first_of (late_checks document (with_pieces_at (viewed document own others) place pieces rest)) =
    (λ i. refusal_of (c.self.view_is i).limit (sym (c.requires.drafts others) i) (c.self.view_is i).log) ∙ refused_as document own others place pieces rest is in
    let (y, is, gives) = err_from_is_err_and c.from_residual-in_err-commit_character.result c.from_residual-in_err-commit_character.ensures.1 in
    let doc : seen c.commit_character.new.self c.self.inside.marks c.self.inside.tags.names ≡ c.args.self.now =
    ap (λ r. seen r c.self.inside.marks c.self.inside.tags.names) c.in_err-commit_character.ensures.makes.same ∙ c.self.view_is in
    rw (is, gives) (record {
      ok = tt;
      checked = tt;
      err = which c.in_err-commit_character.ensures.makes.refused same;
      unchanged = λ k. viewed (doc k) own (c.reserve_between.ensures.same k);
      own = subst (λ (f : DocValue). IsOwnOf (length (text_of f.cells)) own) (sym doc) c.requires.own;
      others = subst (λ (p : _). p) (λ k. AllByRecursion (IsOwnOf (length (text_of (sym doc k).cells))) (sym c.reserve_between.ensures.same k)) c.requires.others;
    })

pub insert_all-requires : goal.insert_all-requires
insert_all-requires g c =
    let document = c.args.self.now in
    let own = widget_value c.args.widget.now in
    let others = map widget_value c.args.others.now in
    let pieces = c.args.text.pieces.now in
    let rest = c.args.text.rest.now in
    let place = c.args.text.place in
    let typed = c.args.typed in
    let is = place_is document own others place c.kept.ensures.history c.kept.ensures.document c.kept.ensures.site c.requires.place in
    let one : 1 ≡ length (made_new document own others place pieces rest).cells = sym (ap (λ (new : Insertion). length new.cells) (c.requires.comes others)) in
    let fit = all_fit document own others place pieces rest is
    (sym (λ i. refusal_of (c.self.view_is i).limit (sym (c.requires.drafts others) i) (c.self.view_is i).log) ∙ c.in_ok-commit_character.ensures.makes.fits) in
    let n = length (text_of document.cells) in
    let few : n + 1 ≤ 2 ^ 64 - 1 = grown_fits n (length document.cells) (length (made_new document own others place pieces rest).cells) 1 document.limit fit.1 one (text_within document.cells) c.kept.ensures.most in
    let rule = selected_with typed.left typed.right c.from_ref.result.now in
    let now : map widget_value c.add_between.new.others ≡ map (reselected rule) others = c.add_between.ensures ∙ ap (map (reselected rule)) c.reserve_between.ensures.same in
    record {
      marks = site_fits n 1 (2 ^ 64 - 1) c.self.inside.marks few (subst (λ (f : DocValue). AreSiteMarks (length (text_of f.cells)) c.self.inside.marks) c.self.view_is c.self.invariant.placed);
      insert = before_fits own.insert.place own.insert.place n 1 (2 ^ 64 - 1) refl c.requires.own.insert few;
      current = mark_fits own.current.place own.current.place n 1 (2 ^ 64 - 1) refl c.requires.own.current few;
      others = each_room n 1 (2 ^ 64 - 1) c.add_between.new.others few
          (subst (AllByRecursion (IsOwnOf n)) (sym now) (each_by (IsOwnOf n) (IsOwnOf n) (reselected rule) (λ other stands. own_of_selecting n other _ stands) others c.requires.others));
    }

pub invariant_of-self-2 : goal.invariant_of-self-2
invariant_of-self-2 g c =
    let document = c.args.self.now in
    let own = widget_value c.args.widget.now in
    let others = map widget_value c.args.others.now in
    let pieces = c.args.text.pieces.now in
    let rest = c.args.text.rest.now in
    let place = c.args.text.place in
    let here : c.args.text.stretch.begin + place ≡ in_text (viewed document own others) place = ap (λ (y : Stretch). y.begin + place) c.requires.stretch in
    let is = place_is document own others place c.kept.ensures.history c.kept.ensures.document c.kept.ensures.site c.requires.place in
    let comes = c.requires.comes others in
    let fit = all_fit document own others place pieces rest is
    (sym (λ i. refusal_of (c.self.view_is i).limit (sym (c.requires.drafts others) i) (c.self.view_is i).log) ∙ c.in_ok-commit_character.ensures.makes.fits) in
    let edited = made_flat document own others place pieces rest in
    let bodies = made_drafts document own others place pieces rest in
    let log : c.commit_character.new.self.log ≡ with_drafts document.site bodies document.log =
    c.in_ok-commit_character.ensures.makes.log ∙ (λ i. with_drafts (c.self.view_is i).site (sym (c.requires.drafts others) i) (c.self.view_is i).log) in
    let made = made_is document own others place pieces rest is c.requires.pieces (IsUtf8-from_is_utf8 c.args.text.rest.now c.args.text.utf8) fit.0 in
    let doc : seen c.commit_character.new.self edited.marks edited.tags ≡ logged document bodies edited =
    seen_made document edited bodies c.commit_character.new.self log c.in_ok-commit_character.ensures.makes.cells (c.commit_character.ensures.makes.site ∙ ap (λ (f : DocValue). f.site) c.self.view_is) (c.commit_character.ensures.makes.limit ∙ ap (λ (f : DocValue). f.limit) c.self.view_is) refl made in
    let marks : c.insert_all.new.marks ≡ edited.marks = c.insert_all.ensures.marks ∙ (λ i. marks_inserted (here i) (length (sym comes i).cells) (c.self.view_is i).marks) in
    let tags : c.self.inside.tags.names ≡ edited.tags = ap (λ (f : DocValue). f.tags) c.self.view_is ∙ sym (ap (λ (new : Insertion). new.tags) comes) in
    let kept = kept_made document own others place pieces rest is c.requires.pieces (subst (λ (f : DocValue). IsDoc f.cells f.marks f.tags) c.self.view_is c.self.invariant) in
    subst (λ (p : _). p) (λ i. IsDoc (sym doc i).cells (sym marks i) (sym tags i)) kept

pub returns : goal.returns
returns g c =
    let document = c.args.self.now in
    let own = widget_value c.args.widget.now in
    let others = map widget_value c.args.others.now in
    let pieces = c.args.text.pieces.now in
    let rest = c.args.text.rest.now in
    let place = c.args.text.place in
    let typed = c.args.typed in
    let at = c.args.text.stretch.begin + place in
    let point = in_text (viewed document own others) place in
    let here : at ≡ point = ap (λ (y : Stretch). y.begin + place) c.requires.stretch in
    let is = place_is document own others place c.kept.ensures.history c.kept.ensures.document c.kept.ensures.site c.requires.place in
    let comes = c.requires.comes others in
    let refused : refusal_of c.self.inside.replica.limit (one_character typed.left typed.character) c.self.inside.replica.log ≡ refusal_of document.limit (made_drafts document own others place pieces rest) document.log =
    (λ i. refusal_of (c.self.view_is i).limit (sym (c.requires.drafts others) i) (c.self.view_is i).log) in
    let fit = all_fit document own others place pieces rest is (sym refused ∙ c.in_ok-commit_character.ensures.makes.fits) in
    let listed : AreListed document.tags document.cells = subst (λ (f : DocValue). AreListed f.tags f.cells) c.self.view_is c.self.invariant.listed in
    let new = made_new document own others place pieces rest in
    let edited = made_flat document own others place pieces rest in
    let bodies = made_drafts document own others place pieces rest in
    let log : c.commit_character.new.self.log ≡ with_drafts document.site bodies document.log =
    c.in_ok-commit_character.ensures.makes.log ∙ (λ i. with_drafts (c.self.view_is i).site (sym (c.requires.drafts others) i) (c.self.view_is i).log) in
    let made = made_is document own others place pieces rest is c.requires.pieces (IsUtf8-from_is_utf8 c.args.text.rest.now c.args.text.utf8) fit.0 in
    let doc : seen c.commit_character.new.self edited.marks edited.tags ≡ logged document bodies edited =
    seen_made document edited bodies c.commit_character.new.self log c.in_ok-commit_character.ensures.makes.cells (c.commit_character.ensures.makes.site ∙ ap (λ (f : DocValue). f.site) c.self.view_is) (c.commit_character.ensures.makes.limit ∙ ap (λ (f : DocValue). f.limit) c.self.view_is) refl made in
    let marks : c.insert_all.new.marks ≡ edited.marks = c.insert_all.ensures.marks ∙ (λ i. marks_inserted (here i) (length (sym comes i).cells) (c.self.view_is i).marks) in
    let tags : c.self.inside.tags.names ≡ edited.tags = ap (λ (f : DocValue). f.tags) c.self.view_is ∙ sym (ap (λ (new : Insertion). new.tags) comes) in
    let own_after : (widget_value c.insert_all.new.widget) ≡ record (widget_inserted point (length new.cells) own) { sel = new.sel } =
    c.insert_all.ensures.own ∙ (λ i. record (widget_inserted (here i) (length (sym comes i).cells) own) { sel = (sym comes i).sel }) in
    let rule : List Stamp → List Stamp = selected_with typed.left typed.right (record { count = document.count + 1; site = document.site } ∷ []) in
    let stamp : c.from_ref.result.now ≡ record { count = document.count + 1; site = document.site } ∷ [] =
    c.from_ref.ensures.value
    ∙ (λ i. record { count = (c.seen.ensures.value ∙ c.clock.ensures ∙ ap (λ (f : DocValue). f.count) c.self.view_is) i + 1; site = (c.number.ensures.value ∙ c.site.ensures ∙ ap (λ (f : DocValue). f.site) c.self.view_is) i } ∷ []) in
    let others_after : map widget_value c.insert_all.new.others ≡ with_selections new.others (map (widget_inserted point (length new.cells)) others) =
    c.insert_all.ensures.others
    ∙ ap (map (widget_inserted at 1)) (c.add_between.ensures ∙ (λ i. map (reselected (selected_with typed.left typed.right (stamp i))) (c.reserve_between.ensures.same i)))
    ∙ (λ i. map (widget_inserted (here i) (length (sym comes i).cells)) (map (reselected rule) others))
    ∙ put_each point (length new.cells) rule others
    ∙ ap (λ (x : Insertion). with_selections x.others (map (widget_inserted point (length new.cells)) others)) (sym comes) in
    record {
      ok = (λ i. record { doc = seen c.commit_character.new.self (marks i) (tags i); own = own_after i; others = others_after i })
          ∙ ap (λ (f : DocValue). record { doc = f; own = record (widget_inserted point (length new.cells) own) { sel = new.sel }; others = with_selections new.others (map (widget_inserted point (length new.cells)) others) }) doc
          ∙ sym (put_made document own others place pieces rest);
      checked = (λ i. first_of (late_checks document (record { doc = doc i; own = own; others = others })))
          ∙ sym (refused_made document own others place pieces rest is) ∙ sym refused ∙ c.in_ok-commit_character.ensures.makes.fits;
      err = tt;
      unchanged = tt;
      own = subst (λ (p : _). p) (λ i. IsOwnOf (length (text_of (sym doc i).cells)) (sym own_after i)) (own_made document own others place pieces rest is c.requires.pieces listed c.requires.own);
      others = subst (λ (p : _). p) (λ i. AllByRecursion (IsOwnOf (length (text_of (sym doc i).cells))) (sym others_after i)) (others_made document own others place pieces rest is c.requires.pieces listed c.requires.others);
    }
