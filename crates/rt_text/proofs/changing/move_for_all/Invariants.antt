use Rattle.std.proofs.Common.{◌≡◌, ◌^◌, ◌-◌, length, drop}
use Rattle.rt_revert.specs.Plans.{marks_after}
use Rattle.rt_text.proofs.ChangedMarks.{HaveRoom}
use Rattle.rt_text.proofs.changing.move_for_all.Given as goal

abbrev pub invariant-loop-change : goal.invariant-loop-change
invariant-loop-change l = record {
  marks : marks_after (drop l.change-index l.changes) l.marks ≡ marks_after l.changes l.fn.marks;
  fits : HaveRoom (length (drop l.change-index l.changes)) (2 ^ 64 - 1) l.marks;
}
