use Rattle.std.proofs.Common.{arith, refl}
use Rattle.rt_spans.proofs.Ranks.{rank_same_less}
use Rattle.rt_spans.proofs.blocks.repaint.Goals as goal

pub cover-requires-clause-later : goal.cover-requires-clause-later
cover-requires-clause-later g c = rank_same_less _ _ _ _ refl (omega (arith, c.requires.order))
