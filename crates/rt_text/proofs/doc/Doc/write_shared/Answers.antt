use Rattle.std.proofs.Common.{◌≡◌, ◌∙◌, ◌≤◌, ◌⊎◌, All, List, None, Some, ap, inl, inr, cond, length, map, refl, subst, sym}
use Rattle.std.proofs.lemmas.Result.{err_from_is_err_and}
use Rattle.rt_stamps.specs.declared.fault.Fault.TheVariants.{NoMemory}
use Rattle.rt_stamps.specs.declared.limits.TheConstants.{GREATEST_COUNT, MOST_SPANS}
use Rattle.rt_ops.specs.Edits.{body_of}
use Rattle.rt_ops.specs.Operations.{Body}
use Rattle.rt_rga.specs.Drafts.{with_drafts}
use Rattle.rt_rga.specs.Made.{refusal_of}
use Rattle.rt_rga.specs.Requests.{MayBeMade}
use Rattle.rt_store.specs.Cells.{text_of}
use Rattle.rt_tags.specs.Tags.{with_name}
use Rattle.rt_plans.specs.Listed.{AreListed}
use Rattle.rt_text.specs.Kept.{IsDoc}
use Rattle.rt_text.specs.Widgets.{AreSiteMarks}
use Rattle.rt_plans.specs.DocValue.{DocValue, logged}
use Rattle.rt_plans.specs.Removals.{is_covered}
use Rattle.rt_plans.specs.TagDrafts.{tag_drafts_at}
use Rattle.rt_plans.specs.TagWrites.{listed_if, with_tag_at}
use Rattle.rt_plans.specs.declared.range.Range.{Range}
use Rattle.rt_plans.proofs.PremiseLaws.{name_is}
use Rattle.rt_plans.proofs.TagPlaces.{tag_text}
use Rattle.rt_text.proofs.KeptDocument.{as_visible, listed_as, written_stays}
use Rattle.rt_text.proofs.MadeDocument.{clock_passed, seen}
use Rattle.rt_text.proofs.TaggedDocument.{fits, kept_beside, makes_seen, of_site, refuses, tagged_at, tagged_makes}
use Rattle.rt_text.proofs.doc.Doc.write_shared.Goals as goal

pub returns-clause-err : goal.returns-clause-err
returns-clause-err g c = tt

pub returns-clause-unchanged : goal.returns-clause-unchanged
returns-clause-unchanged g c = tt

pub list_if-requires : goal.list_if-requires
list_if-requires g c = record { name = c.requires.name; ready = c.in_ok-prepare_if.ensures.ready }

pub planned_tag-requires-clause-within : goal.planned_tag-requires-clause-within
planned_tag-requires-clause-within g c =
    subst (λ n. All (λ (range : Range). range.to ≤ n) c.args.ranges.now) (as_visible c.kept.result.1.now (g.S.TextStore.list c.kept.result.0.now) c.args.self.now c.kept.ensures.cells) c.requires.within

pub commit-requires : goal.commit-requires
commit-requires g c =
    let old = c.args.self.now in
    let places = is_covered c.args.ranges.now in
    let drafts = tag_drafts_at MOST_SPANS places c.args.on c.args.name.now old.cells in
    let bodies : map body_of c.in_ok-drafts.drafts.items ≡ drafts = c.in_ok-drafts.ensures.ok ∙ ap (tag_drafts_at MOST_SPANS places c.args.on c.args.name.now) c.kept.ensures.cells in
    let of = of_site c.kept.result.1.now (g.S.TextStore.list c.kept.result.0.now) old c.kept.ensures.history c.kept.ensures.document c.kept.ensures.site c.kept.ensures.cells c.kept.ensures.few in
    let makes = tagged_makes old places c.args.on c.args.name.now of (name_is c.args.name.now c.utf8.name c.requires.name c.requires.shared) in
    subst (λ (l : List Body). MayBeMade c.self.inside.replica.site c.self.inside.replica.log l) (sym bodies)
    (subst (λ (f : DocValue). MayBeMade f.site f.log drafts) (sym c.self.view_is) makes.may)

pub returns-in_err-drafts : goal.returns-in_err-drafts
returns-in_err-drafts g c =
    let (y, is, gives) = err_from_is_err_and c.from_residual.result c.from_residual.ensures.1 in
    rw (is, gives) (record { ok = tt; within = tt; err = inl c.in_err-drafts.ensures.err; unchanged = refl })

pub invariant_of-self : goal.invariant_of-self
invariant_of-self g c = subst (IsDoc c.self.inside.replica.cells c.self.inside.marks) (sym c.prepare_if.ensures.names) c.self.invariant

pub returns-in_err-prepare_if : goal.returns-in_err-prepare_if
returns-in_err-prepare_if g c =
    let (y, is, gives) = err_from_is_err_and c.from_residual-in_err-prepare_if.result c.from_residual-in_err-prepare_if.ensures.1 in
    let doc = ap (seen c.self.inside.replica c.self.inside.marks) c.prepare_if.ensures.names ∙ c.self.view_is in
    rw (is, gives) (record { ok = tt; within = tt; err = inl c.in_err-prepare_if.ensures.err; unchanged = doc })

pub invariant_of-self-in_err-commit : goal.invariant_of-self-in_err-commit
invariant_of-self-in_err-commit g c =
    subst (λ (p : _). p) (λ k. IsDoc (sym c.in_err-commit.ensures.same k).cells c.self.inside.marks (sym c.prepare_if.ensures.names k)) c.self.invariant

pub returns-in_err-commit : goal.returns-in_err-commit
returns-in_err-commit g c =
    let old = c.args.self.now in
    let on = c.args.on in
    let name = c.args.name.now in
    let places = is_covered c.args.ranges.now in
    let drafts = tag_drafts_at MOST_SPANS places on name old.cells in
    let bodies : map body_of c.in_ok-drafts.drafts.items ≡ drafts = c.in_ok-drafts.ensures.ok ∙ ap (tag_drafts_at MOST_SPANS places on name) c.kept.ensures.cells in
    let of = of_site c.kept.result.1.now (g.S.TextStore.list c.kept.result.0.now) old c.kept.ensures.history c.kept.ensures.document c.kept.ensures.site c.kept.ensures.cells c.kept.ensures.few in
    let edited = tagged_at old places on name in
    let makes = tagged_makes old places on name of (name_is name c.utf8.name c.requires.name c.requires.shared) in
    let same : refusal_of c.self.inside.replica.limit (map body_of c.in_ok-drafts.drafts.items) c.self.inside.replica.log ≡ refusal_of old.limit drafts old.log =
    (λ i. refusal_of (c.self.view_is i).limit (bodies i) (c.self.view_is i).log) in
    let (y, is, gives) = err_from_is_err_and c.from_residual-in_err-commit.result c.from_residual-in_err-commit.ensures.1 in
    let doc : seen c.commit.new.self c.self.inside.marks c.prepare_if.new.tags.names ≡ old =
    (λ k. seen (c.in_err-commit.ensures.same k) c.self.inside.marks (c.prepare_if.ensures.names k)) ∙ c.self.view_is in
    rw (is, gives) (record {
      ok = tt;
      within = tt;
      err = elim (refuses old edited drafts makes c.in_err-commit.field-0.0 (subst (λ o. (o ≡ Some c.in_err-commit.field-0.0) ⊎ ((c.in_err-commit.field-0.0 ≡ NoMemory) × (o ≡ None))) same c.in_err-commit.ensures.refused)) [
        | inl e ↦ inl e
        | inr e ↦ inr (clock_passed edited.count c.in_err-commit.field-0.0 e)
      ];
      unchanged = doc;
    })

pub invariant_of-self-2 : goal.invariant_of-self-2
invariant_of-self-2 g c =
    let old = c.args.self.now in
    let on = c.args.on in
    let name = c.args.name.now in
    let places = is_covered c.args.ranges.now in
    let drafts = tag_drafts_at MOST_SPANS places on name old.cells in
    let bodies : map body_of c.in_ok-drafts.drafts.items ≡ drafts = c.in_ok-drafts.ensures.ok ∙ ap (tag_drafts_at MOST_SPANS places on name) c.kept.ensures.cells in
    let of = of_site c.kept.result.1.now (g.S.TextStore.list c.kept.result.0.now) old c.kept.ensures.history c.kept.ensures.document c.kept.ensures.site c.kept.ensures.cells c.kept.ensures.few in
    let edited = tagged_at old places on name in
    let makes = tagged_makes old places on name of (name_is name c.utf8.name c.requires.name c.requires.shared) in
    let fit : refusal_of old.limit drafts old.log ≡ None = (λ i. refusal_of (sym c.self.view_is i).limit (sym bodies i) (sym c.self.view_is i).log) ∙ c.in_ok-commit.ensures.fits in
    let log : c.commit.new.self.log ≡ with_drafts old.site drafts old.log = c.in_ok-commit.ensures.log ∙ (λ i. with_drafts (c.self.view_is i).site (bodies i) (c.self.view_is i).log) in
    let tags : c.list_if.new.tags.names ≡ edited.tags = c.list_if.ensures.names ∙ ap (λ l. cond on (with_name name l) l) (c.prepare_if.ensures.names ∙ ap (λ (f : DocValue). f.tags) c.self.view_is) in
    let made : seen c.commit.new.self c.self.inside.marks c.list_if.new.tags.names ≡ logged old drafts edited =
    makes_seen old edited drafts makes c.commit.new.self c.self.inside.marks c.list_if.new.tags.names fit log c.in_ok-commit.ensures.cells (c.commit.ensures.site ∙ ap (λ (f : DocValue). f.site) c.self.view_is)
    (c.commit.ensures.limit ∙ ap (λ (f : DocValue). f.limit) c.self.view_is) (ap (λ (f : DocValue). f.marks) c.self.view_is) tags refl in
    let final : listed_if on name (with_tag_at old places on name) ≡ edited = listed_as on name old edited.cells edited.count in
    let listed : AreListed edited.tags edited.cells = written_stays on name old edited places c.requires.name c.requires.shared (subst (λ (f : DocValue). AreListed f.tags f.cells) c.self.view_is c.self.invariant.listed) final in
    subst (λ (f : DocValue). IsDoc f.cells c.self.inside.marks f.tags) (sym made)
    (kept_beside old edited c.self.inside.marks (subst (λ (f : DocValue). AreSiteMarks (length (text_of f.cells)) c.self.inside.marks) c.self.view_is c.self.invariant.placed) (tag_text old places on name) listed)

pub returns-clause-ok : goal.returns-clause-ok
returns-clause-ok g c =
    let old = c.args.self.now in
    let on = c.args.on in
    let name = c.args.name.now in
    let places = is_covered c.args.ranges.now in
    let drafts = tag_drafts_at MOST_SPANS places on name old.cells in
    let bodies : map body_of c.in_ok-drafts.drafts.items ≡ drafts = c.in_ok-drafts.ensures.ok ∙ ap (tag_drafts_at MOST_SPANS places on name) c.kept.ensures.cells in
    let of = of_site c.kept.result.1.now (g.S.TextStore.list c.kept.result.0.now) old c.kept.ensures.history c.kept.ensures.document c.kept.ensures.site c.kept.ensures.cells c.kept.ensures.few in
    let edited = tagged_at old places on name in
    let makes = tagged_makes old places on name of (name_is name c.utf8.name c.requires.name c.requires.shared) in
    let fit : refusal_of old.limit drafts old.log ≡ None = (λ i. refusal_of (sym c.self.view_is i).limit (sym bodies i) (sym c.self.view_is i).log) ∙ c.in_ok-commit.ensures.fits in
    let log : c.commit.new.self.log ≡ with_drafts old.site drafts old.log = c.in_ok-commit.ensures.log ∙ (λ i. with_drafts (c.self.view_is i).site (bodies i) (c.self.view_is i).log) in
    let tags : c.list_if.new.tags.names ≡ edited.tags = c.list_if.ensures.names ∙ ap (λ l. cond on (with_name name l) l) (c.prepare_if.ensures.names ∙ ap (λ (f : DocValue). f.tags) c.self.view_is) in
    let made : seen c.commit.new.self c.self.inside.marks c.list_if.new.tags.names ≡ logged old drafts edited =
    makes_seen old edited drafts makes c.commit.new.self c.self.inside.marks c.list_if.new.tags.names fit log c.in_ok-commit.ensures.cells (c.commit.ensures.site ∙ ap (λ (f : DocValue). f.site) c.self.view_is)
    (c.commit.ensures.limit ∙ ap (λ (f : DocValue). f.limit) c.self.view_is) (ap (λ (f : DocValue). f.marks) c.self.view_is) tags refl in
    made ∙ ap (logged old drafts) (sym (listed_as on name old edited.cells edited.count))

pub returns-clause-within : goal.returns-clause-within
returns-clause-within g c =
    let old = c.args.self.now in
    let on = c.args.on in
    let name = c.args.name.now in
    let places = is_covered c.args.ranges.now in
    let drafts = tag_drafts_at MOST_SPANS places on name old.cells in
    let bodies : map body_of c.in_ok-drafts.drafts.items ≡ drafts = c.in_ok-drafts.ensures.ok ∙ ap (tag_drafts_at MOST_SPANS places on name) c.kept.ensures.cells in
    let of = of_site c.kept.result.1.now (g.S.TextStore.list c.kept.result.0.now) old c.kept.ensures.history c.kept.ensures.document c.kept.ensures.site c.kept.ensures.cells c.kept.ensures.few in
    let edited = tagged_at old places on name in
    let makes = tagged_makes old places on name of (name_is name c.utf8.name c.requires.name c.requires.shared) in
    let fit : refusal_of old.limit drafts old.log ≡ None = (λ i. refusal_of (sym c.self.view_is i).limit (sym bodies i) (sym c.self.view_is i).log) ∙ c.in_ok-commit.ensures.fits in
    let log : c.commit.new.self.log ≡ with_drafts old.site drafts old.log = c.in_ok-commit.ensures.log ∙ (λ i. with_drafts (c.self.view_is i).site (bodies i) (c.self.view_is i).log) in
    let tags : c.list_if.new.tags.names ≡ edited.tags = c.list_if.ensures.names ∙ ap (λ l. cond on (with_name name l) l) (c.prepare_if.ensures.names ∙ ap (λ (f : DocValue). f.tags) c.self.view_is) in
    let made : seen c.commit.new.self c.self.inside.marks c.list_if.new.tags.names ≡ logged old drafts edited =
    makes_seen old edited drafts makes c.commit.new.self c.self.inside.marks c.list_if.new.tags.names fit log c.in_ok-commit.ensures.cells (c.commit.ensures.site ∙ ap (λ (f : DocValue). f.site) c.self.view_is)
    (c.commit.ensures.limit ∙ ap (λ (f : DocValue). f.limit) c.self.view_is) (ap (λ (f : DocValue). f.marks) c.self.view_is) tags refl in
    subst (λ n. n ≤ GREATEST_COUNT) (sym (ap (λ (f : DocValue). f.count) made)) (fits old edited drafts makes fit)
