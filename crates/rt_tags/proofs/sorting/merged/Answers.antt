use Rattle.std.proofs.Common.{arith}
use Rattle.std.proofs.lemmas.Grind.{common_steps}
use Rattle.rt_stamps.specs.Words.{as_words}
use Rattle.rt_tags.specs.Kept.{all_seen}
use Rattle.rt_tags.specs.Writers.{state_after}
use Rattle.rt_tags.proofs.Merging.{all_merged, merged_sorted}
use Rattle.rt_tags.proofs.sorting.merged.Goals as goal

pub returns-clause-sorted : goal.returns-clause-sorted
returns-clause-sorted c =
    let names = as_words c.args.names.now in
    let kept = c.loop-entry.invariant in
    merged_sorted names c.args.old.now c.args.new.now c.loop-entry.out.items c.requires.old kept.named
    (all_merged names c.loop-entry.rest_of_old.now c.loop-entry.rest_of_new.now c.loop-entry.out.items (state_after (all_seen names c.args.old.now) (all_seen names c.args.new.now)) c.in_default.ensures.none kept.entries)

pub loop-entry-preserved : goal.loop-entry-preserved
loop-entry-preserved c = grind (arith, common_steps)
