use Rattle.std.proofs.Common.{◌≡◌, ◌≤◌, ◌-◌, ◌++◌, ℕ, List, [], take, length}
use Rattle.rt_script.specs.Lines.{split_lines, complete_of, rest_of}
use Rattle.rt_script.specs.declared.engine.TheConstants.{MOST_KEPT_BYTES}
use Rattle.rt_script.specs.Pieces.{kept_bytes}
use Rattle.rt_script.specs.Run.{Ran, point}
use Rattle.rt_script.proofs.engine.feed.Given as goal

abbrev pub invariant-loop-start : goal.invariant-loop-start
invariant-loop-start g l = record {
  ran : (rest : List ℕ) → split_lines rest ≡ ([], rest) → l.initial.pending.items ≡ kept_bytes rest → Ran g.C.Commands.gives (point (g.C.Commands.state l.initial.site) (g.W.Sink.stream l.initial.out)) (point (g.C.Commands.state l.site) (g.W.Sink.stream l.out)) (complete_of (rest ++ take l.start l.piece));
  rest : (rest : List ℕ) → split_lines rest ≡ ([], rest) → l.initial.pending.items ≡ kept_bytes rest → l.pending.items ≡ kept_bytes (rest_of (rest ++ take l.start l.piece));
  short : length l.pending.items ≤ MOST_KEPT_BYTES;
  failures : (g.W.Sink.stream l.out).failures ≡ (g.W.Sink.stream l.initial.out).failures;
}

abbrev pub decreases-loop-start : goal.decreases-loop-start
decreases-loop-start g l = length l.piece - l.start
