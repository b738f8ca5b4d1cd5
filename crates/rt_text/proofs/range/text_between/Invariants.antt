use Rattle.std.proofs.Common.{◌≡◌, ◌-◌, ◌≤◌}
use Rattle.std.specs.Prelude.{string_bytes, encode_utf8_all}
use Rattle.rt_store.specs.Cells.{text_of}
use Rattle.rt_text.specs.Ranges.{text_between}
use Rattle.rt_text.proofs.range.text_between.Given as goal

abbrev pub invariant-loop-place : goal.invariant-loop-place
invariant-loop-place g l = record {
  from : l.from ≤ l.place;
  to : l.place ≤ l.end;
  same : string_bytes l.text ≡ encode_utf8_all (text_between (text_of (g.S.TextStore.list l.store)) l.from l.place);
}

abbrev pub decreases-loop-place : goal.decreases-loop-place
decreases-loop-place g l = l.end - l.place
