use Rattle.std.proofs.Common.{◌≡◌, ℕ, ◌+◌, ◌++◌, drop}
use Rattle.rt_store.specs.Cells.{cells_from, stamps_of}
use Rattle.rt_plans.proofs.stamps.push_run.Given as goal

abbrev pub invariant-loop-ch : goal.invariant-loop-ch
invariant-loop-ch l = record {
  stamps : l.stamps.items ++ stamps_of {T = ℕ} (cells_from l.count l.site.number 0 (drop l._ch-index l.characters)) ≡ l.initial.stamps.items ++ stamps_of {T = ℕ} (cells_from l.first l.site.number 0 l.characters);
  count : l.count ≡ l.first + l._ch-index;
}
