use Rattle.std.proofs.Common.{◌≡◌, ◌∙◌, ◌-◌, List, ℕ, ap, arith, map, subst, sym}
use Rattle.rt_stamps.specs.Places.{line_of}
use Rattle.rt_store.specs.Cells.{text_of}
use Rattle.rt_store.specs.Shown.{shown}
use Rattle.rt_text.specs.Lines.{AreLines}
use Rattle.rt_text.proofs.PartLines.{lines_counted, some_lines}
use Rattle.rt_text.proofs.ground.WidgetGroundGround.lines.Goals as goal

pub last_line-requires : goal.last_line-requires
last_line-requires g c =
    let ground = c.args.self.now in
    subst (λ (t : List ℕ). AreLines t ground.stretch) ground.text ground.lines

pub overflow_sub-result : goal.overflow_sub-result
overflow_sub-result g c =
    let ground = c.args.self.now in
    let t : List ℕ = text_of (map (shown ground.states.now) (g.S.TextStore.list ground.store.now)) in
    let line : c.last_line.result ≡ line_of t (ground.stretch.end - 1) = c.last_line.ensures ∙ ap (λ t. line_of t (ground.stretch.end - 1)) (sym ground.text) in
    omega (arith, line, ground.begins, some_lines t ground.stretch ground.lines)

pub returns : goal.returns
returns g c =
    let ground = c.args.self.now in
    let t : List ℕ = text_of (map (shown ground.states.now) (g.S.TextStore.list ground.store.now)) in
    let line : c.last_line.result ≡ line_of t (ground.stretch.end - 1) = c.last_line.ensures ∙ ap (λ t. line_of t (ground.stretch.end - 1)) (sym ground.text) in
    lines_counted t ground.stretch ground.lines c.last_line.result ground.first line ground.begins
