use Rattle.std.proofs.Common.{◌≡◌, ◌∙◌, true, false, arith, refl}
use Rattle.rt_oplog.proofs.SameEnds.{end_set}
use Rattle.rt_oplog.proofs.ends.keep.Goals as goal

pub returns-then-not-repaint-clause-ends : goal.returns-then-not-repaint-clause-ends
returns-then-not-repaint-clause-ends c = λ s.
    let none : c.repaint.result ≡ false = grind (arith, c.if-not-repaint.true) in
    rw (c.repaint.ensures.unchanged none) at (end_set c.repaint.new.self c.set.new.self c.args.end.site c.args.end.last c.set.ensures.values s)

pub returns-else-not-repaint-clause-ends : goal.returns-else-not-repaint-clause-ends
returns-else-not-repaint-clause-ends c = λ s.
    let done : c.repaint.result ≡ true = grind (arith, c.if-not-repaint.false) in
    end_set c.args.ends.now c.repaint.new.self c.args.end.site c.args.end.last (λ stamp. c.repaint.ensures.values stamp ∙ rw done refl) s
