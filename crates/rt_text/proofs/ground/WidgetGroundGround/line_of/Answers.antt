use Rattle.std.proofs.Common.{◌≡◌, ◌∙◌, ◌+◌, List, ℕ, ap, arith, map, sym}
use Rattle.rt_stamps.specs.Places.{line_of}
use Rattle.rt_store.specs.Cells.{text_of}
use Rattle.rt_store.specs.Shown.{shown}
use Rattle.rt_text.proofs.PartLines.{length_in_part, line_counted}
use Rattle.rt_text.proofs.ground.WidgetGroundGround.line_of.Goals as goal

pub overflow_sub-result : goal.overflow_sub-result
overflow_sub-result g c =
    let ground = c.args.self.now in
    let t : List ℕ = text_of (map (shown ground.states.now) (g.S.TextStore.list ground.store.now)) in
    let line : c.line_of.result ≡ line_of t (ground.stretch.begin + c.args.place) = c.line_of.ensures ∙ ap (λ t. line_of t (ground.stretch.begin + c.args.place)) (sym ground.text) in
    (line_counted t ground.stretch ground.lines c.args.place c.line_of.result ground.first (omega (arith, c.requires, length_in_part t ground.stretch ground.lines)) line ground.begins).0

pub returns : goal.returns
returns g c =
    let ground = c.args.self.now in
    let t : List ℕ = text_of (map (shown ground.states.now) (g.S.TextStore.list ground.store.now)) in
    let line : c.line_of.result ≡ line_of t (ground.stretch.begin + c.args.place) = c.line_of.ensures ∙ ap (λ t. line_of t (ground.stretch.begin + c.args.place)) (sym ground.text) in
    (line_counted t ground.stretch ground.lines c.args.place c.line_of.result ground.first (omega (arith, c.requires, length_in_part t ground.stretch ground.lines)) line ground.begins).1
