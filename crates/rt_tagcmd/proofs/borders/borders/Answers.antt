use Rattle.std.proofs.Common.{◌≡◌, ◌∙◌, ◌++◌, ap, sym, flat_map}
use Rattle.std.specs.Prelude.{string_bytes}
use Rattle.std.proofs.lemmas.List.{take_all}
use Rattle.rt_stamps.specs.Words.{as_words}
use Rattle.rt_plans.specs.DocValue.{DocValue}
use Rattle.rt_tagcmd.specs.Dumping.{tagoffs_of, tagons_of}
use Rattle.rt_tagcmd.specs.Stretches.{within}
use Rattle.rt_tagcmd.proofs.Pushing.{flat_over}
use Rattle.rt_tagcmd.proofs.borders.borders.Goals as goal

pub returns-clause-ok : goal.returns-clause-ok
returns-clause-ok g c =
    let view = c.args.view.now in
    let s = c.args.stretch in
    let names = c.in_ok-names.names.items in
    let all = take_all c.loop-name.name-index c.deref-name-items.result.now c.loop-name-test.false ∙ c.deref-name-items.ensures.value in
    let tags : as_words names ≡ view.doc.tags = c.in_ok-names.ensures.names ∙ c.tags.ensures.names ∙ ap (λ (d : DocValue). d.tags) c.doc.ensures in
    let ends = ap (λ v. within s (flat_map (λ w. tagoffs_of view (string_bytes w)) v)) all ∙ ap (within s) (sym (flat_over (tagoffs_of view) (λ w. string_bytes w) names) ∙ ap (flat_map (tagoffs_of view)) tags) in
    let starts = ap (λ v. within s (flat_map (λ w. tagons_of view (string_bytes w)) v)) all ∙ ap (within s) (sym (flat_over (tagons_of view) (λ w. string_bytes w) names) ∙ ap (flat_map (tagons_of view)) tags) in
    c.in_ok-append.ensures.items ∙ (λ i. (c.loop-name.invariant.ends ∙ ends) i ++ (c.loop-name.invariant.starts ∙ starts) i)
