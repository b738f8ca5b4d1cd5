use Rattle.std.proofs.Common.{◌≡◌, ◌+◌, ◌≤◌, ℕ}
use Rattle.rt_search.specs.Borders.{CharactersAgree, as_compared, pattern_read}
use Rattle.rt_search.proofs.Falling.{Falls}
use Rattle.rt_search.proofs.borders.further.Given as goal

abbrev pub invariant-loop-search : goal.invariant-loop-search
invariant-loop-search l = record {
  few : l.agreed ≤ l.before;
  falls : (text : ℕ → ℕ) (start : ℕ) → CharactersAgree (pattern_read l.search l.pattern) text start l.before
      → text (start + l.before) ≡ as_compared l.search.case l.character → Falls (pattern_read l.search l.pattern) text start l.before l.agreed;
}

abbrev pub decreases-loop-search : goal.decreases-loop-search
decreases-loop-search l = l.agreed
