use Rattle.std.proofs.Common.{◌≡◌, ◌++◌, List, length}
use Rattle.rt_script.specs.Indexed.{Finds}
use Rattle.rt_script.specs.Site.{GivenFile}
use Rattle.rt_script.proofs.site_lines.index_of.Given as goal

abbrev pub decreases-loop-file : goal.decreases-loop-file
decreases-loop-file l = length l.left

-- the index has the files behind those that are left
abbrev pub invariant-loop-file : goal.invariant-loop-file
invariant-loop-file l = record {
  behind : List GivenFile;
  whole : l.fn.files ≡ l.left ++ behind;
  finds : Finds l.index behind;
}
