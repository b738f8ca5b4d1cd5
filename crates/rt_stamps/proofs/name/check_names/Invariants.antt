use Rattle.std.proofs.Common.{◌≡◌, drop}
use Rattle.rt_stamps.proofs.Names.{checks}
use Rattle.rt_stamps.proofs.name.check_names.Given as goal

abbrev pub invariant-loop-name : goal.invariant-loop-name
invariant-loop-name l = checks (drop l.name-index l.names) ≡ checks l.names
