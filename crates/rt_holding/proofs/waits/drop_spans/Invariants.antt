use Rattle.std.proofs.Common.{◌≡◌, ◌≤◌, ◌&&◌, drop, false}
use Rattle.std.specs.List.{list_any}
use Rattle.rt_rga.specs.Kept.{goes_past}
use Rattle.rt_holding.specs.declared.waits.Keys.{Keys}
use Rattle.rt_holding.specs.Waits.{HasLess, KeepsOtherPlaces, is_keyed, key_count}
use Rattle.rt_holding.proofs.waits.drop_spans.Given as goal

abbrev pub invariant-loop-span : goal.invariant-loop-span
invariant-loop-span g l = record {
  gone : (keys : Keys) → HasLess l.keys keys
      → list_any (λ span. goes_past (g.T.Taking.log l.site) span && is_keyed keys (g.T.Taking.log l.site) l.place span) (drop l.span-index l.spans) ≡ false
      → list_any (λ span. goes_past (g.T.Taking.log l.site) span && is_keyed keys (g.T.Taking.log l.site) l.place span) l.spans ≡ false;
  less : HasLess l.initial.keys l.keys;
  others : KeepsOtherPlaces l.place l.initial.keys l.keys;
  fewer : key_count l.keys ≤ key_count l.initial.keys;
}
