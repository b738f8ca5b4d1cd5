use Rattle.std.proofs.Common.{◌+◌, ◌∙◌, ap, arith, sym}
use Rattle.std.specs.Prelude.{option_map}
use Rattle.rt_tags.specs.States.{state_at}
use Rattle.rt_lines.specs.Limits.{end_number}
use Rattle.rt_lines.proofs.Shown.{last_shown}
use Rattle.rt_text.proofs.doc.Doc.end_number.Goals as goal

pub end_number-requires : goal.end_number-requires
end_number-requires g c = omega (arith, c.kept.ensures.few, c.kept.ensures.most)

pub returns : goal.returns
returns g c =
    let kept = g.S.TextStore.list c.kept.result.0.now in
    let limits = c.args.limits in
    c.end_number.ensures ∙ ap (λ line. option_map (λ _. line + 1) limits.end) (sym (last_shown (state_at c.kept.result.1.now) kept limits))
    ∙ ap (λ cells. end_number cells limits) c.kept.ensures.cells
