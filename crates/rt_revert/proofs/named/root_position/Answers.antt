use Rattle.std.proofs.Common.{◌≡◌, ◌∙◌, ap, arith, false, sym, take, true}
use Rattle.rt_stamps.specs.declared.stamp.TheConstants.{ROOT}
use Rattle.rt_stamps.specs.Stamps.{is_same}
use Rattle.rt_stamps.proofs.Order.{same_from_true}
use Rattle.rt_store.specs.Cells.{position_of, stamps_of}
use Rattle.rt_store.specs.Spans.{is_among}
use Rattle.rt_revert.proofs.OffsetLaws.{take_past}
use Rattle.rt_revert.proofs.Positions.{found_here, found_none, none_more}
use Rattle.rt_revert.proofs.named.root_position.Goals as goal

pub returns-then-eq : goal.returns-then-eq
returns-then-eq g c =
    let cells = g.S.TextStore.list c.args.store.now in
    let p = c.loop-position.position in
    let cell = c.nth.result in
    let same : is_same cell.stamp ROOT ≡ true = sym c.eq.ensures ∙ c.if-eq.true in
    let one : cell.stamp ≡ ROOT = same_from_true cell.stamp ROOT same in
    sym (ap (position_of cells) (sym one) ∙ found_here cells p cell c.nth.ensures (ap (is_among (stamps_of (take p cells))) one ∙ c.loop-position.invariant.none))

pub loop-position-preserved : goal.loop-position-preserved
loop-position-preserved g c =
    let cells = g.S.TextStore.list c.args.store.now in
    let other : is_same c.nth.result.stamp ROOT ≡ false = sym c.eq.ensures ∙ c.if-eq.false in
    record {
      within = omega arith;
      none = none_more cells c.loop-position.position c.nth.result ROOT c.nth.ensures other c.loop-position.invariant.none;
    }

pub returns : goal.returns
returns g c =
    let cells = g.S.TextStore.list c.args.store.now in
    let p = c.loop-position.position in
    sym (found_none cells ROOT (ap (λ l. is_among (stamps_of l) ROOT) (sym (take_past p cells (omega (arith, c.cells-position-end.ensures)))) ∙ c.loop-position.invariant.none))
