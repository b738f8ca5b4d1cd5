use Rattle.std.proofs.Common.{◌≡◌, ◌-◌, ◌&&◌, true, ◌∙◌, ap, arith, refl, sym}
use Rattle.std.specs.Prelude.{None, Option, Some, is_none, slice_get}
use Rattle.std.proofs.lemmas.List.{length-map}
use Rattle.rt_stamps.specs.Places.{newlines, line_end}
use Rattle.rt_store.specs.Cells.{text_of, visible_of}
use Rattle.rt_lines.proofs.Lines.{after_all, after_within, end_is, ends_with, lines_some, starts_below}
use Rattle.rt_lines.specs.declared.limits.Limits.{Limits}
use Rattle.rt_lines.specs.Limits.{no_limits}
use Rattle.rt_lines.specs.Stretches.{stretch_of}
use Rattle.rt_lines.proofs.Places.{ends_text}
use Rattle.rt_lines.proofs.Whole.{stretch_some, stretch_whole, stretch_within}
use Rattle.rt_lines.proofs.limits.Limits.stretch.Goals as goal

both_none : {A : Type 0} (start end : Option A) → (is_none start && is_none end) ≡ true → (start ≡ None) × (end ≡ None)
both_none None None h = (refl, refl)
both_none None (Some e) h = let bad : ⊥ = cc in absurd bad
both_none (Some s) end h = let bad : ⊥ = cc in absurd bad

none_are : (limits : Limits) → (is_none limits.start && is_none limits.end) ≡ true → limits ≡ no_limits
none_are limits h = let both = both_none limits.start limits.end h in λ i. record { start = both.0 i; end = both.1 i }

pub returns-then-are_none-clause-value : goal.returns-then-are_none-clause-value
returns-then-are_none-clause-value g c =
    let cells = g.S.TextStore.list c.args.store.now in
    let none : c.args.self ≡ no_limits = none_are c.args.self (sym c.are_none.ensures ∙ c.if-are_none.true) in
    (λ i. record { begin = 0; end = c.visible.ensures i }) ∙ sym (stretch_whole cells (g.met.S.TextStore.ends c.args.store.now)) ∙ ap (stretch_of cells) (sym none)

pub returns-then-are_none-clause-some : goal.returns-then-are_none-clause-some
returns-then-are_none-clause-some g c =
    let cells = g.S.TextStore.list c.args.store.now in
    omega (arith, c.visible.ensures, stretch_some cells no_limits (g.met.S.TextStore.ends c.args.store.now), stretch_within cells no_limits (g.met.S.TextStore.ends c.args.store.now))

pub returns-then-are_none-clause-newline : goal.returns-then-are_none-clause-newline
returns-then-are_none-clause-newline g c =
    let cells = g.S.TextStore.list c.args.store.now in
    let ends = ends_text cells (g.met.S.TextStore.ends c.args.store.now) in
    let few = lines_some (text_of cells) ends in
    let all = after_all (text_of cells) ends in
    let last = ends_with (newlines (text_of cells)) (text_of cells) few (omega arith) in
    let e : c.visible.result - 1 ≡ line_end (text_of cells) (newlines (text_of cells)) = omega (arith, c.visible.ensures, all, length-map (visible_of cells) (λ cell. cell.ch)) in
    ap (slice_get (text_of cells)) e ∙ last

pub returns-clause-some : goal.returns-clause-some
returns-clause-some g c =
    let text = text_of (g.S.TextStore.list c.args.store.now) in
    let below = starts_below text c.first_line-first.result c.last_line-last.result c.first_line-first.ensures.first c.first_line-first.ensures.last c.last_line-last.ensures.last in
    omega (arith, below, c.line_start.ensures, c.line_after.ensures)

pub returns-clause-within : goal.returns-clause-within
returns-clause-within g c =
    let cells = g.S.TextStore.list c.args.store.now in
    let end = end_is c.last_line-last.result (text_of cells) c.last_line-last.ensures.first c.last_line-last.ensures.last in
    omega (arith, end, c.line_after.ensures, after_within c.last_line-last.result (text_of cells), length-map (visible_of cells) (λ cell. cell.ch))

pub returns-clause-newline : goal.returns-clause-newline
returns-clause-newline g c =
    let text = text_of (g.S.TextStore.list c.args.store.now) in
    let ends = ends_with c.last_line-last.result text c.last_line-last.ensures.first c.last_line-last.ensures.last in
    let e : c.line_after.result - 1 ≡ line_end text c.last_line-last.result = omega (arith, c.line_after.ensures) in
    ap (slice_get text) e ∙ ends
