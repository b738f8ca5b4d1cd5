use Rattle.std.proofs.Common.{◌<◌, ◌++◌, ◌∙◌, take, inl, inr, refl, sym, arith}
use Rattle.std.proofs.lemmas.List.{length-append, length-take}
use Rattle.std.proofs.lemmas.Result.{err_from_is_err_and}
use Rattle.rt_ops.proofs.Taken.{takes_then, finishes_in, stopped_in}
use Rattle.rt_ops.proofs.Unseen.{gave_then, unseen_after}
use Rattle.rt_ops.proofs.intake.gather.Goals as goal

pub returns-in_err-n-clause-gathers : goal.returns-in_err-n-clause-gathers
returns-in_err-n-clause-gathers g c =
    let p = err_from_is_err_and c.from_residual.result c.from_residual.ensures.1 in
    rw (p.1, p.2) (inr (c.in_err-n.ensures.gets.0, c.loop-piece.buffer.items, omega arith, stopped_in _ _ _ _ _ c.loop-piece.buffer.items c.loop-piece.invariant.takes c.in_err-n.ensures.gets.1))

pub returns-then-n-eq0-clause-gathers : goal.returns-then-n-eq0-clause-gathers
returns-then-n-eq0-clause-gathers g c =
    (c.loop-piece.invariant.within, λ all. absurd (omega (arith, all)), λ lt. finishes_in _ _ _ _ _ _ c.loop-piece.buffer.items c.loop-piece.invariant.takes (c.in_ok-n.ensures.gets.3 c.if-n-eq0.true))

pub returns-in_err-extend_from_slice-clause-gathers : goal.returns-in_err-extend_from_slice-clause-gathers
returns-in_err-extend_from_slice-clause-gathers g c =
    let p = err_from_is_err_and c.from_residual-in_err-extend_from_slice.result c.from_residual-in_err-extend_from_slice.ensures.1 in
    let taken = take c.in_ok-n.n c.read_some.new.buf in
    rw (p.1, p.2) (inl (refl, c.loop-piece.buffer.items ++ taken, takes_then _ _ _ _ _ _ c.loop-piece.buffer.items taken c.loop-piece.invariant.takes (c.in_ok-n.ensures.gets.2 (omega (arith, c.if-n-eq0.false)))))

pub returns-in_err-n-clause-unseen : goal.returns-in_err-n-clause-unseen
returns-in_err-n-clause-unseen g c =
    let p = err_from_is_err_and c.from_residual.result c.from_residual.ensures.1 in
    let taken = c.loop-piece.invariant.takes in
    rw (p.1, p.2) (λ is same. unseen_after g.R.Source.stream _ _ _ _ _ c.loop-piece.buffer.items taken.consumed c.loop-piece.invariant.last
    (c.in_err-n.ensures.unseen is (same ∙ sym taken.failures)))

pub loop-piece-preserved : goal.loop-piece-preserved
loop-piece-preserved g c =
    let e = c.in_ok-n.ensures in
    let n = c.in_ok-n.n in
    let buf = c.read_some.new.buf in
    let front = c.loop-piece.buffer.items in
    let before = c.loop-piece.invariant in
    let some : 0 < n = omega (arith, c.if-n-eq0.false) in
    rw c.in_ok-extend_from_slice.ensures.items (record {
      takes = takes_then _ _ _ _ _ _ front (take n buf) before.takes (e.gets.2 some);
      last = inr (gave_then g.R.Source.stream _ _ _ front before.takes.consumed (e.gave some));
      within = omega (arith, length-append front (take n buf), length-take n buf, e.gets.0, e.gets.1, before.within);
      piece = c.read_some.auto.buf ∙ before.piece;
    })
