use Rattle.std.proofs.Common.{◌≡◌, ◌++◌, length}
use Rattle.std.specs.List.{flat_map, AllByRecursion}
use Rattle.rt_stamps.specs.Words.{as_words}
use Rattle.rt_ops.specs.File.{name_bytes}
use Rattle.rt_ops.specs.Decoding.{NameFits}
use Rattle.rt_ops.proofs.fields.names_in.Given as goal

abbrev pub invariant-loop : goal.invariant-loop
invariant-loop l = record {
  bytes : l.bytes ≡ flat_map name_bytes (as_words l.tags.items) ++ l.left;
  count : length l.tags.items ≡ l.counter;
  fits : AllByRecursion NameFits (as_words l.tags.items);
}
