use Rattle.std.proofs.Common.{◌∙◌, ◌-◌, ◌^◌, List, ℕ, ap, arith, drop, map, sym, take}
use Rattle.std.proofs.lemmas.List.{length-take}
use Rattle.rt_store.specs.Cells.{text_of}
use Rattle.rt_store.specs.Shown.{shown}
use Rattle.rt_lines.specs.Stretches.{part}
use Rattle.rt_text.proofs.PartLines.{length_in_part}
use Rattle.rt_text.proofs.TextLaws.{read_in_part}
use Rattle.rt_text.proofs.ground.WidgetGroundGround.characters.Goals as goal

pub returns-clause-characters : goal.returns-clause-characters
returns-clause-characters g c =
    let ground = c.args.self.now in
    let kept : List ℕ = text_of (g.S.TextStore.list ground.store.now) in
    let t : List ℕ = text_of (map (shown ground.states.now) (g.S.TextStore.list ground.store.now)) in
    let long = length_in_part t ground.stretch ground.lines in
    let asked = length-take c.min-count.result c.args.buffer.now in
    let read = c.characters.result in
    read_in_part kept ground.stretch c.args.place c.saturating_add.result read (2 ^ 64 - 1) c.characters.new.buffer (drop c.min-count.result c.args.buffer.now) (omega arith) c.saturating_add.ensures
    (omega (arith, long, asked, c.characters.ensures.count, c.min-count.ensures, c.saturating_sub.ensures, c.len.ensures))
    (omega (arith, asked, c.characters.ensures.count, c.characters.auto.buffer)) c.characters.ensures.characters
    ∙ ap (λ t. take read (drop c.args.place (part ground.stretch t))) (sym ground.text)
