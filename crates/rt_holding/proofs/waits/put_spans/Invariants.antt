use Rattle.std.proofs.Common.{◌≡◌, drop, true}
use Rattle.std.specs.List.{list_all}
use Rattle.rt_holding.specs.declared.waits.Keys.{Keys}
use Rattle.rt_holding.specs.Waits.{HasMore, IsKeyedMore, IsReady, is_waited_for}
use Rattle.rt_holding.proofs.waits.put_spans.Given as goal

abbrev pub invariant-loop-span : goal.invariant-loop-span
invariant-loop-span g l = record {
  ready : IsReady 1 l.waits;
  keyed : IsKeyedMore l.place l.initial.waits l.waits;
  kept : (keys : Keys) → HasMore l.waits.keys keys
      → list_all (is_waited_for keys (g.T.Taking.log l.site) l.place) (drop l.span-index l.spans) ≡ true
      → list_all (is_waited_for keys (g.T.Taking.log l.site) l.place) l.spans ≡ true;
}
