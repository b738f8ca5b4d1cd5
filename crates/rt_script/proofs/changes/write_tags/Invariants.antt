use Rattle.std.proofs.Common.{take, flat_map}
use Rattle.std.specs.Io.KnownBytes.{Appends}
use Rattle.rt_changes.specs.Replays.{Tagged}
use Rattle.rt_script.specs.Changes.{change_line}
use Rattle.rt_script.proofs.changes.write_tags.Given as goal

abbrev pub invariant-loop-run : goal.invariant-loop-run
invariant-loop-run g l = Appends (g.W.Sink.stream l.fn.out).bytes (g.W.Sink.stream l.out).bytes (flat_map (λ run. change_line (Tagged l.fn.on l.fn.name run.from run.to)) (take l.run-index l.runs))
