use Rattle.std.proofs.Common.{◌≡◌, ◌∙◌, ◌-◌, List, ℕ, suc, ap, arith, length, sym, take}
use Rattle.std.proofs.lemmas.List.{take_all}
use Rattle.rt_stamps.specs.Places.{newlines}
use Rattle.rt_store.specs.Cells.{text_of}
use Rattle.rt_plans.proofs.PlaceLaws.{length_text}
use Rattle.rt_text.proofs.LeftLines.{next_newline}
use Rattle.rt_text.proofs.index.last_line.Goals as goal

pub returns-then-stretch-visible : goal.returns-then-stretch-visible
returns-then-stretch-visible g c =
    let cells = g.S.TextStore.list c.args.store.now in
    let t : List ℕ = text_of cells in
    let p = c.args.stretch.end - 1 in
    let whole : suc p ≡ length t = omega (arith, c.requires.some, c.visible.ensures, c.if-stretch-visible.true, length_text cells) in
    let counted = next_newline t p c.requires.newline in
    let all : newlines (take (suc p) t) ≡ newlines t = ap newlines (take_all (suc p) t (omega (arith, whole))) in
    c.lines.ensures ∙ sym all ∙ counted
