use Rattle.std.proofs.Common.{◌≡◌, ◌≤◌, All, length, map, string_bytes}
use Rattle.rt_stamps.specs.declared.limits.TheConstants.{MOST_BYTES}
use Rattle.rt_script.specs.Site.{file_named}
use Rattle.rt_script.proofs.site_lines.file_named.Given as goal

abbrev pub decreases-loop-file : goal.decreases-loop-file
decreases-loop-file l = length l.left

abbrev pub invariant-loop-file : goal.invariant-loop-file
invariant-loop-file l = record {
  within : All (λ f. length f.1.items ≤ MOST_BYTES) l.left;
  rest : file_named l.fn.name (map (λ f. (string_bytes f.0, f.1.items)) l.left) ≡ file_named l.fn.name (map (λ f. (string_bytes f.0, f.1.items)) l.fn.files);
}
