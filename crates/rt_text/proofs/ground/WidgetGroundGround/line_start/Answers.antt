use Rattle.std.proofs.Common.{◌≡◌, ◌∙◌, ◌+◌, ◌-◌, List, ℕ, ap, arith, map, sym}
use Rattle.rt_stamps.specs.Places.{line_start, newlines}
use Rattle.rt_store.specs.Cells.{text_of}
use Rattle.rt_store.specs.Shown.{shown}
use Rattle.rt_plans.proofs.PlaceLaws.{newlines_within}
use Rattle.rt_text.proofs.PartLines.{line_there, start_counted}
use Rattle.rt_text.proofs.ground.WidgetGroundGround.line_start.Goals as goal

pub overflow_add-line : goal.overflow_add-line
overflow_add-line g c =
    let ground = c.args.self.now in
    let t : List ℕ = text_of (map (shown ground.states.now) (g.S.TextStore.list ground.store.now)) in
    omega (arith, line_there t ground.stretch ground.lines c.args.line ground.first ground.begins c.requires.last, newlines_within t, ground.few)

pub line_start-requires : goal.line_start-requires
line_start-requires g c =
    let ground = c.args.self.now in
    let t : List ℕ = text_of (map (shown ground.states.now) (g.S.TextStore.list ground.store.now)) in
    let same = ap newlines ground.text in
    (omega (arith, ground.begins, c.requires.first), omega (arith, same, line_there t ground.stretch ground.lines c.args.line ground.first ground.begins c.requires.last))

pub overflow_sub-result : goal.overflow_sub-result
overflow_sub-result g c =
    let ground = c.args.self.now in
    let t : List ℕ = text_of (map (shown ground.states.now) (g.S.TextStore.list ground.store.now)) in
    let start : c.line_start.result ≡ line_start t (c.args.line + ground.first - 1) = c.line_start.ensures ∙ ap (λ t. line_start t (c.args.line + ground.first - 1)) (sym ground.text) in
    (start_counted t ground.stretch ground.lines c.args.line ground.first c.line_start.result ground.begins c.requires.first c.requires.last start).0

pub returns : goal.returns
returns g c =
    let ground = c.args.self.now in
    let t : List ℕ = text_of (map (shown ground.states.now) (g.S.TextStore.list ground.store.now)) in
    let start : c.line_start.result ≡ line_start t (c.args.line + ground.first - 1) = c.line_start.ensures ∙ ap (λ t. line_start t (c.args.line + ground.first - 1)) (sym ground.text) in
    (start_counted t ground.stretch ground.lines c.args.line ground.first c.line_start.result ground.begins c.requires.first c.requires.last start).1
