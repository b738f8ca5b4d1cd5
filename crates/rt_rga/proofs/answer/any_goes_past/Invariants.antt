use Rattle.std.proofs.Common.{◌≡◌, drop}
use Rattle.std.specs.List.{list_any}
use Rattle.rt_rga.specs.Kept.{goes_past}
use Rattle.rt_rga.proofs.answer.any_goes_past.Given as goal

abbrev pub invariant-loop-span : goal.invariant-loop-span
invariant-loop-span l = list_any (goes_past l.log.operations) (drop l.span-index l.spans) ≡ list_any (goes_past l.log.operations) l.spans
