use Rattle.std.proofs.Common.{List, ℕ, ap, arith, length, map}
use Rattle.rt_store.specs.Cells.{text_of}
use Rattle.rt_store.specs.Shown.{shown}
use Rattle.rt_plans.proofs.PlaceLaws.{length_text}
use Rattle.rt_text.proofs.PartLines.{length_in_part}
use Rattle.rt_text.proofs.ground.WidgetGroundGround.char_at.Goals as goal

pub overflow_add-self : goal.overflow_add-self
overflow_add-self g c =
    let ground = c.args.self.now in
    let t : List ℕ = text_of (map (shown ground.states.now) (g.S.TextStore.list ground.store.now)) in
    omega (arith, c.requires, length_in_part t ground.stretch ground.lines, ground.lines.within, ground.few)

pub char_at-requires : goal.char_at-requires
char_at-requires g c =
    let ground = c.args.self.now in
    let t : List ℕ = text_of (map (shown ground.states.now) (g.S.TextStore.list ground.store.now)) in
    omega (arith, c.requires, length_in_part t ground.stretch ground.lines, ground.lines.within, ap length ground.text, length_text (g.S.TextStore.list ground.store.now))
