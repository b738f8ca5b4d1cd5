use Rattle.std.proofs.Common.{arith, inl, inr}
use Rattle.rt_spans.proofs.Thinning.{painted_within, some_entry, thins_keeps, thins_rising}
use Rattle.rt_spans.proofs.blocks.cover.Goals as goal

pub paint-requires-clause-rising : goal.paint-requires-clause-rising
paint-requires-clause-rising g c = thins_rising _ _ 0 _ _ c.thin_out.ensures.thinned c.requires.rising

pub paint-requires-clause-grounded : goal.paint-requires-clause-grounded
paint-requires-clause-grounded g c =
    thins_keeps _ _ 0 _ _ c.thin_out.ensures.thinned (inl (omega arith)) c.requires.grounded

pub paint-requires-clause-begins : goal.paint-requires-clause-begins
paint-requires-clause-begins g c = thins_keeps _ _ _ _ _ c.thin_out.ensures.thinned (inl (omega arith)) c.requires.begins

pub paint-requires-clause-ends : goal.paint-requires-clause-ends
paint-requires-clause-ends g c = thins_keeps _ _ _ _ _ c.thin_out.ensures.thinned (inr (omega arith)) c.requires.ends

pub returns-clause-painted : goal.returns-clause-painted
returns-clause-painted g c =
    painted_within _ _ c.args.value _ _ _ c.thin_out.ensures.thinned c.requires.rising c.requires.ends c.paint.ensures.painted

pub returns-clause-begun : goal.returns-clause-begun
returns-clause-begun g c =
    omega (arith, some_entry _ c.paint.new.blocks.items (c.paint.ensures.painted.keeps 0 (inl (omega arith)) (thins_keeps _ _ 0 _ _ c.thin_out.ensures.thinned (inl (omega arith)) c.requires.grounded)))

pub returns-clause-begins : goal.returns-clause-begins
returns-clause-begins g c =
    c.paint.ensures.painted.keeps _ (inl (omega arith)) (thins_keeps _ _ _ _ _ c.thin_out.ensures.thinned (inl (omega arith)) c.requires.begins)

pub returns-clause-ends : goal.returns-clause-ends
returns-clause-ends g c =
    c.paint.ensures.painted.keeps _ (inr (omega arith)) (thins_keeps _ _ _ _ _ c.thin_out.ensures.thinned (inr (omega arith)) c.requires.ends)
