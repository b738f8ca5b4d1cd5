use Rattle.rt_rga.specs.Kept.{ReplicaValue}
use Rattle.std.proofs.Common.{◌≡◌, ◌∙◌, ◌≤◌, ◌⊎◌, ℕ, List, None, Some, ap, length, map, subst, sym, refl, inl}
use Rattle.std.proofs.lemmas.Result.{err_from_is_err_and}
use Rattle.rt_stamps.specs.declared.fault.Fault.TheVariants.{NoMemory}
use Rattle.rt_stamps.specs.declared.limits.TheConstants.{GREATEST_COUNT, MOST_SPANS}
use Rattle.rt_stamps.specs.Words.{as_words}
use Rattle.rt_ops.specs.Edits.{body_of}
use Rattle.rt_ops.specs.Operations.{Body}
use Rattle.rt_rga.specs.Drafts.{with_drafts}
use Rattle.rt_rga.specs.Histories.{greatest_last_count}
use Rattle.rt_rga.specs.Made.{refusal_of}
use Rattle.rt_rga.specs.Requests.{MayBeMade}
use Rattle.rt_rga.proofs.Corollaries.{cells_written}
use Rattle.rt_store.specs.Cells.{text_of}
use Rattle.rt_store.specs.Shown.{TaggedCell}
use Rattle.rt_store.specs.Written.{AreWritten}
use Rattle.rt_plans.specs.DocValue.{DocValue, logged}
use Rattle.rt_plans.specs.Listed.{AreListed}
use Rattle.rt_plans.specs.TagDrafts.{tag_deletion_drafts}
use Rattle.rt_plans.specs.TagWrites.{without_tags}
use Rattle.rt_plans.proofs.ListedWrites.{StaysTagged, all_without_stays}
use Rattle.rt_text.specs.Kept.{IsDoc}
use Rattle.rt_text.specs.Widgets.{AreSiteMarks}
use Rattle.rt_text.proofs.KeptDocument.{clock_fine}
use Rattle.rt_text.proofs.MadeDocument.{document_written, seen}
use Rattle.rt_tags.specs.Tags.{all_forgotten}
use Rattle.rt_text.proofs.TaggedDocument.{deleted_makes, fits, kept_beside, left_of_deletion, makes_seen, of_site, refuses}
use Rattle.rt_text.proofs.doc.Doc.delete_tags.Goals as goal

pub returns-clause-err : goal.returns-clause-err
returns-clause-err g c = tt

pub returns-clause-unchanged : goal.returns-clause-unchanged
returns-clause-unchanged g c = tt

pub commit-requires : goal.commit-requires
commit-requires g c =
    let old = c.args.self.now in
    let names = as_words c.args.names.now in
    let drafts = tag_deletion_drafts MOST_SPANS old names in
    let bodies : map body_of c.in_ok-drafts.drafts.items ≡ drafts = c.in_ok-drafts.ensures.ok old (document_written old c.kept.ensures.history c.kept.ensures.document) (sym c.kept.ensures.cells) in
    let of = of_site c.kept.result.1.now (g.S.TextStore.list c.kept.result.0.now) old c.kept.ensures.history c.kept.ensures.document c.kept.ensures.site c.kept.ensures.cells c.kept.ensures.few in
    let makes = deleted_makes old names of in
    subst (λ (l : List Body). MayBeMade c.self.inside.replica.site c.self.inside.replica.log l) (sym bodies)
    (subst (λ (f : DocValue). MayBeMade f.site f.log drafts) (sym c.self.view_is) makes.may)

pub returns-in_err-drafts : goal.returns-in_err-drafts
returns-in_err-drafts g c =
    let (y, is, gives) = err_from_is_err_and c.from_residual.result c.from_residual.ensures.1 in
    rw (is, gives) (record { ok = tt; checked = tt; err = inl c.in_err-drafts.ensures.err; unchanged = refl; text = refl })

pub invariant_of-self : goal.invariant_of-self
invariant_of-self g c = subst (λ (r : ReplicaValue). IsDoc r.cells c.self.inside.marks c.self.inside.tags.names) (sym c.in_err-commit.ensures.same) c.self.invariant

pub returns-in_err-commit : goal.returns-in_err-commit
returns-in_err-commit g c =
    let old = c.args.self.now in
    let names = as_words c.args.names.now in
    let drafts = tag_deletion_drafts MOST_SPANS old names in
    let bodies : map body_of c.in_ok-drafts.drafts.items ≡ drafts = c.in_ok-drafts.ensures.ok old (document_written old c.kept.ensures.history c.kept.ensures.document) (sym c.kept.ensures.cells) in
    let of = of_site c.kept.result.1.now (g.S.TextStore.list c.kept.result.0.now) old c.kept.ensures.history c.kept.ensures.document c.kept.ensures.site c.kept.ensures.cells c.kept.ensures.few in
    let edited = without_tags old names in
    let makes = deleted_makes old names of in
    let same : refusal_of c.self.inside.replica.limit (map body_of c.in_ok-drafts.drafts.items) c.self.inside.replica.log ≡ refusal_of old.limit drafts old.log =
    (λ i. refusal_of (c.self.view_is i).limit (bodies i) (c.self.view_is i).log) in
    let (y, is, gives) = err_from_is_err_and c.from_residual-in_err-commit.result c.from_residual-in_err-commit.ensures.1 in
    let doc : seen c.commit.new.self c.self.inside.marks c.self.inside.tags.names ≡ old =
    (λ k. seen (c.in_err-commit.ensures.same k) c.self.inside.marks c.self.inside.tags.names) ∙ c.self.view_is in
    rw (is, gives) (record {
      ok = tt;
      checked = tt;
      err = refuses old edited drafts makes c.in_err-commit.field-0.0 (subst (λ o. (o ≡ Some c.in_err-commit.field-0.0) ⊎ ((c.in_err-commit.field-0.0 ≡ NoMemory) × (o ≡ None))) same c.in_err-commit.ensures.refused);
      unchanged = doc;
      text = ap (λ (f : DocValue). text_of f.cells) doc;
    })

pub invariant_of-self-2 : goal.invariant_of-self-2
invariant_of-self-2 g c =
    let old = c.args.self.now in
    let names = as_words c.args.names.now in
    let drafts = tag_deletion_drafts MOST_SPANS old names in
    let bodies : map body_of c.in_ok-drafts.drafts.items ≡ drafts = c.in_ok-drafts.ensures.ok old (document_written old c.kept.ensures.history c.kept.ensures.document) (sym c.kept.ensures.cells) in
    let of = of_site c.kept.result.1.now (g.S.TextStore.list c.kept.result.0.now) old c.kept.ensures.history c.kept.ensures.document c.kept.ensures.site c.kept.ensures.cells c.kept.ensures.few in
    let edited = without_tags old names in
    let makes = deleted_makes old names of in
    let left = left_of_deletion names old in
    let fit : refusal_of old.limit drafts old.log ≡ None = (λ i. refusal_of (sym c.self.view_is i).limit (sym bodies i) (sym c.self.view_is i).log) ∙ c.in_ok-commit.ensures.fits in
    let log : c.commit.new.self.log ≡ with_drafts old.site drafts old.log = c.in_ok-commit.ensures.log ∙ (λ i. with_drafts (c.self.view_is i).site (bodies i) (c.self.view_is i).log) in
    let tags : c.forget_all.new.tags.names ≡ edited.tags = c.forget_all.ensures.names ∙ ap (λ (f : DocValue). all_forgotten names f.tags) c.self.view_is ∙ sym left.tags in
    let made : seen c.commit.new.self c.self.inside.marks c.forget_all.new.tags.names ≡ logged old drafts edited =
    makes_seen old edited drafts makes c.commit.new.self c.self.inside.marks c.forget_all.new.tags.names fit log c.in_ok-commit.ensures.cells (c.commit.ensures.site ∙ ap (λ (f : DocValue). f.site) c.self.view_is)
    (c.commit.ensures.limit ∙ ap (λ (f : DocValue). f.limit) c.self.view_is) (ap (λ (f : DocValue). f.marks) c.self.view_is ∙ sym left.marks) tags left.limit in
    let written : AreWritten old.count old.cells =
    subst (λ (p : ℕ × List TaggedCell). AreWritten p.0 p.1) (λ i. (sym c.kept.ensures.document.count i, sym c.kept.ensures.document.cells i)) (cells_written old.log c.kept.ensures.history) in
    let stays : StaysTagged edited = all_without_stays names old (record { listed = subst (λ (f : DocValue). AreListed f.tags f.cells) c.self.view_is c.self.invariant.listed; known = written }) in
    subst (λ (f : DocValue). IsDoc f.cells c.self.inside.marks f.tags) (sym made)
    (kept_beside old edited c.self.inside.marks (subst (λ (f : DocValue). AreSiteMarks (length (text_of f.cells)) c.self.inside.marks) c.self.view_is c.self.invariant.placed) left.text stays.listed)

pub returns-clause-ok : goal.returns-clause-ok
returns-clause-ok g c =
    let old = c.args.self.now in
    let names = as_words c.args.names.now in
    let drafts = tag_deletion_drafts MOST_SPANS old names in
    let bodies : map body_of c.in_ok-drafts.drafts.items ≡ drafts = c.in_ok-drafts.ensures.ok old (document_written old c.kept.ensures.history c.kept.ensures.document) (sym c.kept.ensures.cells) in
    let of = of_site c.kept.result.1.now (g.S.TextStore.list c.kept.result.0.now) old c.kept.ensures.history c.kept.ensures.document c.kept.ensures.site c.kept.ensures.cells c.kept.ensures.few in
    let edited = without_tags old names in
    let makes = deleted_makes old names of in
    let left = left_of_deletion names old in
    let fit : refusal_of old.limit drafts old.log ≡ None = (λ i. refusal_of (sym c.self.view_is i).limit (sym bodies i) (sym c.self.view_is i).log) ∙ c.in_ok-commit.ensures.fits in
    let log : c.commit.new.self.log ≡ with_drafts old.site drafts old.log = c.in_ok-commit.ensures.log ∙ (λ i. with_drafts (c.self.view_is i).site (bodies i) (c.self.view_is i).log) in
    let tags : c.forget_all.new.tags.names ≡ edited.tags = c.forget_all.ensures.names ∙ ap (λ (f : DocValue). all_forgotten names f.tags) c.self.view_is ∙ sym left.tags in
    let made : seen c.commit.new.self c.self.inside.marks c.forget_all.new.tags.names ≡ logged old drafts edited =
    makes_seen old edited drafts makes c.commit.new.self c.self.inside.marks c.forget_all.new.tags.names fit log c.in_ok-commit.ensures.cells (c.commit.ensures.site ∙ ap (λ (f : DocValue). f.site) c.self.view_is)
    (c.commit.ensures.limit ∙ ap (λ (f : DocValue). f.limit) c.self.view_is) (ap (λ (f : DocValue). f.marks) c.self.view_is ∙ sym left.marks) tags left.limit in
    made

pub returns-clause-checked : goal.returns-clause-checked
returns-clause-checked g c =
    let old = c.args.self.now in
    let names = as_words c.args.names.now in
    let drafts = tag_deletion_drafts MOST_SPANS old names in
    let bodies : map body_of c.in_ok-drafts.drafts.items ≡ drafts = c.in_ok-drafts.ensures.ok old (document_written old c.kept.ensures.history c.kept.ensures.document) (sym c.kept.ensures.cells) in
    let of = of_site c.kept.result.1.now (g.S.TextStore.list c.kept.result.0.now) old c.kept.ensures.history c.kept.ensures.document c.kept.ensures.site c.kept.ensures.cells c.kept.ensures.few in
    let edited = without_tags old names in
    let makes = deleted_makes old names of in
    let left = left_of_deletion names old in
    let fit : refusal_of old.limit drafts old.log ≡ None = (λ i. refusal_of (sym c.self.view_is i).limit (sym bodies i) (sym c.self.view_is i).log) ∙ c.in_ok-commit.ensures.fits in
    let log : c.commit.new.self.log ≡ with_drafts old.site drafts old.log = c.in_ok-commit.ensures.log ∙ (λ i. with_drafts (c.self.view_is i).site (bodies i) (c.self.view_is i).log) in
    let tags : c.forget_all.new.tags.names ≡ edited.tags = c.forget_all.ensures.names ∙ ap (λ (f : DocValue). all_forgotten names f.tags) c.self.view_is ∙ sym left.tags in
    let made : seen c.commit.new.self c.self.inside.marks c.forget_all.new.tags.names ≡ logged old drafts edited =
    makes_seen old edited drafts makes c.commit.new.self c.self.inside.marks c.forget_all.new.tags.names fit log c.in_ok-commit.ensures.cells (c.commit.ensures.site ∙ ap (λ (f : DocValue). f.site) c.self.view_is)
    (c.commit.ensures.limit ∙ ap (λ (f : DocValue). f.limit) c.self.view_is) (ap (λ (f : DocValue). f.marks) c.self.view_is ∙ sym left.marks) tags left.limit in
    clock_fine (greatest_last_count c.commit.new.self.log) (subst (λ n. n ≤ GREATEST_COUNT) (sym (ap (λ (f : DocValue). f.count) made)) (fits old edited drafts makes fit))

pub returns-clause-text : goal.returns-clause-text
returns-clause-text g c =
    let old = c.args.self.now in
    let names = as_words c.args.names.now in
    let drafts = tag_deletion_drafts MOST_SPANS old names in
    let bodies : map body_of c.in_ok-drafts.drafts.items ≡ drafts = c.in_ok-drafts.ensures.ok old (document_written old c.kept.ensures.history c.kept.ensures.document) (sym c.kept.ensures.cells) in
    let of = of_site c.kept.result.1.now (g.S.TextStore.list c.kept.result.0.now) old c.kept.ensures.history c.kept.ensures.document c.kept.ensures.site c.kept.ensures.cells c.kept.ensures.few in
    let edited = without_tags old names in
    let makes = deleted_makes old names of in
    let left = left_of_deletion names old in
    let fit : refusal_of old.limit drafts old.log ≡ None = (λ i. refusal_of (sym c.self.view_is i).limit (sym bodies i) (sym c.self.view_is i).log) ∙ c.in_ok-commit.ensures.fits in
    let log : c.commit.new.self.log ≡ with_drafts old.site drafts old.log = c.in_ok-commit.ensures.log ∙ (λ i. with_drafts (c.self.view_is i).site (bodies i) (c.self.view_is i).log) in
    let tags : c.forget_all.new.tags.names ≡ edited.tags = c.forget_all.ensures.names ∙ ap (λ (f : DocValue). all_forgotten names f.tags) c.self.view_is ∙ sym left.tags in
    let made : seen c.commit.new.self c.self.inside.marks c.forget_all.new.tags.names ≡ logged old drafts edited =
    makes_seen old edited drafts makes c.commit.new.self c.self.inside.marks c.forget_all.new.tags.names fit log c.in_ok-commit.ensures.cells (c.commit.ensures.site ∙ ap (λ (f : DocValue). f.site) c.self.view_is)
    (c.commit.ensures.limit ∙ ap (λ (f : DocValue). f.limit) c.self.view_is) (ap (λ (f : DocValue). f.marks) c.self.view_is ∙ sym left.marks) tags left.limit in
    ap (λ (f : DocValue). text_of f.cells) made ∙ left.text
