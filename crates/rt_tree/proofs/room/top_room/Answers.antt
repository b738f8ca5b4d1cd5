use Rattle.std.proofs.Common.{inr, arith, refl}
use Rattle.rt_tree.proofs.room.top_room.Goals as goal

pub returns-then-len-lt16 : goal.returns-then-len-lt16
returns-then-len-lt16 c = record {
  tree = c.requires.tree;
  exact = c.requires.exact;
  filled = c.requires.filled;
  runs = refl;
  roomy = omega (arith, c.len.ensures.value, c.if-len-lt16.true);
  height = omega arith;
  stay = λ leaf run s. inr s;
  longer = omega arith;
  still = λ _. (refl, refl);
  room = refl;
  told = c.requires.told;
  tags = refl;
}
