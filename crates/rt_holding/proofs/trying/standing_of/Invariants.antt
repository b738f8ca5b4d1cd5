use Rattle.std.proofs.Common.{◌≡◌, ◌++◌, List}
use Rattle.rt_oplog.specs.Logs.{holds}
use Rattle.rt_holding.specs.Kept.{HeldEntry, ops_in}
use Rattle.rt_holding.proofs.trying.standing_of.Given as goal

abbrev pub invariant-loop-place : goal.invariant-loop-place
invariant-loop-place l = record {
  front : List HeldEntry;
  behind : List HeldEntry;
  is : l.ops.entries ≡ front ++ (l.place-iterator ++ behind);
  left : holds (ops_in l.ops.entries) l.op ≡ holds (ops_in l.place-iterator) l.op;
}
