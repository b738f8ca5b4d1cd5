use Rattle.std.proofs.Common.{◌≡◌, ◌∙◌, arith, length, ap}
use Rattle.rt_stamps.specs.Places.{position_at}
use Rattle.rt_store.specs.Cells.{text_of}
use Rattle.rt_lines.specs.Stretches.{part, stretch_of}
use Rattle.rt_text.proofs.doc.Doc.position.Goals as goal

pub position_within-requires-clause-place : goal.position_within-requires-clause-place
position_within-requires-clause-place g c =
    let text : part c.between.result.1 (text_of (g.S.TextStore.list c.between.result.0.now)) ≡ part (stretch_of c.args.self.now.cells c.args.limits) (text_of c.args.self.now.cells) =
    (λ i. part (c.between.ensures.stretch i) (c.between.ensures.text i)) in
    omega (arith, ap length text, c.requires)

pub returns : goal.returns
returns g c =
    let text : part c.between.result.1 (text_of (g.S.TextStore.list c.between.result.0.now)) ≡ part (stretch_of c.args.self.now.cells c.args.limits) (text_of c.args.self.now.cells) =
    (λ i. part (c.between.ensures.stretch i) (c.between.ensures.text i)) in
    c.position_within.ensures ∙ ap (λ t. position_at t c.args.place) text
