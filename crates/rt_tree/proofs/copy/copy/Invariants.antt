use Rattle.std.proofs.Common.{◌≡◌, ◌+◌, ◌++◌, drop, take}
use Rattle.rt_tree.proofs.copy.copy.Given as goal

abbrev pub invariant-loop-i : goal.invariant-loop-i
invariant-loop-i l = record {
  characters : take (l.at + l.i) l.buffer ≡ take l.at l.initial.buffer ++ take l.i (drop l.from l.text);
  rest : drop (l.at + l.i) l.buffer ≡ drop (l.at + l.i) l.initial.buffer;
}
