use Rattle.std.proofs.Common.{◌≡◌, take, flat_map}
use Rattle.std.specs.Prelude.{string_bytes}
use Rattle.rt_tagcmd.specs.Dumping.{tagoffs_of, tagons_of}
use Rattle.rt_tagcmd.specs.Stretches.{within}
use Rattle.rt_tagcmd.proofs.borders.borders.Given as goal

abbrev pub invariant-loop-name : goal.invariant-loop-name
invariant-loop-name g l = record {
  ends : l.ends.items ≡ within l.stretch (flat_map (λ w. tagoffs_of l.view (string_bytes w)) (take l.name-index l.name-items));
  starts : l.starts.items ≡ within l.stretch (flat_map (λ w. tagons_of l.view (string_bytes w)) (take l.name-index l.name-items));
}
