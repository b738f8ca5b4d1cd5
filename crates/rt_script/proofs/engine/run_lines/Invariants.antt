use Rattle.std.proofs.Common.{◌≡◌, ◌⊎◌, length}
use Rattle.rt_stamps.specs.declared.limits.TheConstants.{PIECE_BYTES}
use Rattle.rt_ops.specs.Intake.{GaveSome}
use Rattle.rt_script.specs.Run.{point}
use Rattle.rt_script.proofs.EndsLaws.{Goes}
use Rattle.rt_script.proofs.engine.run_lines.Given as goal

abbrev pub invariant-loop : goal.invariant-loop
invariant-loop g l = record {
  goes : Goes g.C.Commands.gives l.fn.bounds (point (g.C.Commands.state l.fn.site) (g.W.Sink.stream l.fn.out)) (point (g.C.Commands.state l.site) (g.W.Sink.stream l.out))
      (g.R.Source.stream l.fn.script)
      (g.R.Source.stream l.script)
      l.pending.items l.room l.counter;
  gave : ((l.counter ≡ 0) × (l.script ≡ l.fn.script)) ⊎ GaveSome g.R.Source.stream l.fn.script l.script;
  buffer : length l.buf ≡ PIECE_BYTES;
}
