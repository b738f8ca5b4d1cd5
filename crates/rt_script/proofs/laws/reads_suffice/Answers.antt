use Rattle.std.proofs.Common.{◌≤◌, length, inl, inr, arith}
use Rattle.rt_stamps.specs.declared.limits.TheConstants.{MOST_BYTES, MOST_READS}
use Rattle.rt_script.proofs.laws.reads_suffice.Goals as goal

pub returns : goal.returns
returns c = λ old new script left fault ends is. elim (ends.why_unread is) [
  | inl failed ↦ inl failed
  | inr other ↦ elim other [
    | inl over ↦ inr over
    | inr up ↦
        let few : length ends.read ≤ MOST_BYTES = ends.bounded in
        let many : MOST_READS ≤ length ends.read = up.some in
        absurd (omega (arith, few, many))
  ]
]
