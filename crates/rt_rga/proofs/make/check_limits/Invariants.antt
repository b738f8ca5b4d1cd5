use Rattle.std.proofs.Common.{◌≡◌, ◌+◌, ◌≤◌, map, drop}
use Rattle.rt_stamps.specs.declared.limits.TheConstants.{GREATEST_COUNT}
use Rattle.rt_ops.specs.Edits.{body_of}
use Rattle.rt_rga.specs.Requests.{characters_in_all, last_count_after}
use Rattle.rt_rga.proofs.make.check_limits.Given as goal

abbrev pub invariant-loop-draft : goal.invariant-loop-draft
invariant-loop-draft l = record {
  counts : last_count_after l.count (map body_of (drop l.draft-index l.drafts)) ≡ last_count_after l.last (map body_of l.drafts);
  characters : l.characters + characters_in_all (map body_of (drop l.draft-index l.drafts)) ≡ characters_in_all (map body_of l.drafts);
  few : l.characters + l.last ≤ l.count;
  bound : l.count ≤ GREATEST_COUNT;
}
