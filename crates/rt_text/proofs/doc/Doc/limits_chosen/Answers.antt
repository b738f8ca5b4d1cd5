use Rattle.std.proofs.Common.{◌∙◌, ap, arith, sym}
use Rattle.rt_tags.specs.States.{state_at}
use Rattle.rt_lines.specs.Choices.{limits_chosen}
use Rattle.rt_lines.proofs.Shown.{chosen_shown}
use Rattle.rt_text.proofs.doc.Doc.limits_chosen.Goals as goal

pub with_lines-requires : goal.with_lines-requires
with_lines-requires g c = omega (arith, c.kept.ensures.few, c.kept.ensures.most)

pub returns : goal.returns
returns g c =
    let kept = g.S.TextStore.list c.kept.result.0.now in
    c.with_lines.ensures ∙ sym (chosen_shown (state_at c.kept.result.1.now) kept c.args.start c.args.end c.args.limits)
    ∙ ap (λ cells. limits_chosen cells c.args.start c.args.end c.args.limits) c.kept.ensures.cells
