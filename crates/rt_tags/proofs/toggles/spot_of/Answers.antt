use Rattle.std.proofs.Common.{◌∙◌, ap, sym, eq-eqb, true≢false, arith}
use Rattle.std.proofs.lemmas.Bool.Decides.{Decides-eqb}
use Rattle.rt_tags.specs.Toggles.{count_in}
use Rattle.rt_tags.proofs.Counts.{tells, tells_none}
use Rattle.rt_tags.proofs.toggles.spot_of.Goals as goal
use Rattle.rt_tags.proofs.toggles.spot_of.Goals.{else-place-counts-via-then-place-counts+else-eq, else-place-counts-via-else-place-counts}

pub returns-then-eq-clause-count : goal.returns-then-eq-clause-count
returns-then-eq-clause-count c =
    tells 0 c.tags_below-place.result c.args.counts.now c.index-counts-place.result c.index-counts-place-then-eq.result c.requires c.if-place-counts.true
    ∙ ap (λ t. count_in t c.args.counts.now) ((Decides-eqb _ _).0 (sym c.eq.ensures ∙ c.if-eq.true))

pub returns-else-place-counts-clause-count : goal.returns-else-place-counts-clause-count
returns-else-place-counts-clause-count c =
    elim c.else-place-counts.branch [ else-place-counts-via-then-place-counts+else-eq w ↦ tells_none c.args.tag c.args.counts.now c.tags_below-place.result w.index-counts-place.result c.requires c.tags_below-place.ensures.place (λ l e. true≢false (sym (w.eq.ensures ∙ eq-eqb _ _ e) ∙ w.if-eq.false)) | else-place-counts-via-else-place-counts w ↦ tells_none c.args.tag c.args.counts.now c.tags_below-place.result (record { tag = 0; count = 0 }) c.requires c.tags_below-place.ensures.place (λ l e. let past = w.if-place-counts.false in omega (arith, l, past)) ]
