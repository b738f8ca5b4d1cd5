use Rattle.std.proofs.Common.{◌≡◌, All, drop, string_bytes, true}
use Rattle.rt_stamps.specs.Words.{as_words}
use Rattle.rt_tags.specs.Tags.{is_ready}
use Rattle.rt_plans.specs.Insertions.{all_listed}
use Rattle.rt_text.proofs.preparing.list_tags.Given as goal

abbrev pub invariant-loop-name : goal.invariant-loop-name
invariant-loop-name l = record {
  names : all_listed (as_words (drop l.name-index l.names)) l.table.names ≡ all_listed (as_words l.names) l.initial.table.names;
  ready : All (λ w. is_ready (string_bytes w) l.table ≡ true) l.names;
}
