use Rattle.std.proofs.Common.{◌≡◌, ◌<◌, length}
use Rattle.rt_search.specs.Borders.{AreBorders, IsBorder, pattern_read}
use Rattle.rt_search.proofs.borders.borders_of.Given as goal

abbrev pub invariant-loop-index : goal.invariant-loop-index
invariant-loop-index l = record {
  many : length l.borders.items ≡ l.index;
  borders : AreBorders (pattern_read l.search l.pattern) l.borders.items;
  none : l.index ≡ 0 → l.agreed ≡ 0;
  border : 0 < l.index → IsBorder (pattern_read l.search l.pattern) l.index l.agreed;
}
