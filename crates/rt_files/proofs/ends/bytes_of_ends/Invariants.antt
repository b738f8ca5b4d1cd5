use Rattle.std.proofs.Common.{◌≡◌, ◌++◌}
use Rattle.rt_files.specs.Ends.{ends_bytes}
use Rattle.rt_files.proofs.ends.bytes_of_ends.Given as goal

abbrev pub invariant-loop-site : goal.invariant-loop-site
invariant-loop-site l = l.bytes.items ++ ends_bytes l.site-iterator ≡ ends_bytes l.fn.ends.entries
