use Rattle.std.proofs.Common.{◌∙◌, ap, sym, true, false, cond, arith}
use Rattle.rt_store.specs.Cells.{visible_of}
use Rattle.rt_store.specs.Tagged.{next_place}
use Rattle.rt_text.proofs.TaggedLaws.{next_always, next_end, next_never}
use Rattle.rt_text.proofs.characters.next_without.Goals as goal

pub returns-then-on : goal.returns-then-on
returns-then-on g c =
    let cells = visible_of (g.S.TextStore.list c.args.store.now) in
    sym (ap (λ b. next_place (λ _. cond b false true) cells c.args.place) c.if-on.true ∙ next_never cells c.args.place)

pub returns-then-place-visible : goal.returns-then-place-visible
returns-then-place-visible g c =
    let cells = visible_of (g.S.TextStore.list c.args.store.now) in
    sym (ap (λ b. next_place (λ _. cond b false true) cells c.args.place) c.if-on.false ∙ next_always cells c.args.place (omega (arith, c.if-place-visible.true, c.visible.ensures)))

pub returns-else-place-visible : goal.returns-else-place-visible
returns-else-place-visible g c =
    let cells = visible_of (g.S.TextStore.list c.args.store.now) in
    sym (ap (λ b. next_place (λ _. cond b false true) cells c.args.place) c.if-on.false ∙ next_end (λ _. true) cells c.args.place (omega (arith, c.if-place-visible.false, c.visible.ensures)))
