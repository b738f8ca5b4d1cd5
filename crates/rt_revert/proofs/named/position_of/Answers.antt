use Rattle.std.proofs.Common.{◌≡◌, ◌∙◌, ◌-◌, Some, ap, inl, sym, true}
use Rattle.std.specs.Prelude.{is_some}
use Rattle.rt_stamps.specs.declared.stamp.TheConstants.{FINAL}
use Rattle.rt_stamps.specs.Stamps.{is_same}
use Rattle.rt_stamps.proofs.Order.{same_from_true}
use Rattle.rt_store.specs.Cells.{position_of}
use Rattle.rt_store.proofs.Finding.{stamp_held}
use Rattle.rt_store.proofs.Places.{placed}
use Rattle.rt_revert.proofs.Positions.{final_position, found_none, skipped}
use Rattle.rt_revert.proofs.named.position_of.Goals as goal

pub returns-then-eq : goal.returns-then-eq
returns-then-eq g c =
    let cells = g.S.TextStore.list c.args.store.now in
    let same : is_same c.args.stamp FINAL ≡ true = sym c.eq.ensures ∙ c.if-eq.true in
    ap (λ n. Some (n - 1)) c.cells.ensures ∙ sym (ap (position_of cells) (same_from_true c.args.stamp FINAL same) ∙ final_position cells c.requires.distinct (g.met.S.TextStore.ends c.args.store.now))

pub after_skip-requires-clause-left : goal.after_skip-requires-clause-left
after_skip-requires-clause-left g c =
    let cells = g.S.TextStore.list c.args.store.now in
    (placed cells c.args.stamp c.args.newest (g.met.S.TextStore.ends c.args.store.now) (inl (sym (stamp_held cells c.args.stamp) ∙ ap is_some (sym c.in-Some.ensures)))
    (sym c.eq.ensures ∙ c.if-eq.false) c.requires.newest.1).stands

pub returns-in-Some : goal.returns-in-Some
returns-in-Some g c =
    let cells = g.S.TextStore.list c.args.store.now in
    skipped cells c.args.stamp c.args.newest c.after_skip.result c.after_skip.ensures c.requires.older c.requires.newest.0
    (sym c.eq-2.ensures ∙ c.if-eq-2.false) (sym (stamp_held cells c.args.stamp) ∙ ap is_some (sym c.in-Some.ensures))

pub returns-in-None : goal.returns-in-None
returns-in-None g c =
    let cells = g.S.TextStore.list c.args.store.now in
    sym (found_none cells c.args.stamp (sym (stamp_held cells c.args.stamp) ∙ ap is_some (sym c.in-None.ensures)))
