use Rattle.std.proofs.Common.{◌≡◌, ◌+◌, ◌++◌, ◌≤◌, length, map}
use Rattle.rt_stamps.specs.declared.limits.TheConstants.{GREATEST_COUNT, MOST_CHARACTERS}
use Rattle.rt_stamps.specs.Words.{as_words}
use Rattle.rt_ops.specs.Edits.{body_of}
use Rattle.rt_rga.specs.OneOrMany.{items_in}
use Rattle.rt_plans.specs.InsertionDrafts.{last_element, text_drafts}
use Rattle.rt_plans.specs.Insertions.{counts_for, tagged_cells}
use Rattle.rt_plans.proofs.inserts.Inserts.of_text.Given as goal

abbrev pub invariant-loop-rest : goal.invariant-loop-rest
invariant-loop-rest l =
    let names = as_words l.names in
    let now = l.texts in
    let site = l.site.number in
    record {
      drafts : map body_of (items_in now.drafts) ++ text_drafts MOST_CHARACTERS site now.count now.behind names l.rest
          ≡ text_drafts MOST_CHARACTERS site l.count l.fn.after names l.text;
      count : now.count + counts_for names l.rest ≡ l.count + counts_for names l.text;
      within : l.count + counts_for names l.text ≤ GREATEST_COUNT;
      behind : last_element now.behind (tagged_cells site now.count names l.rest) ≡ last_element l.fn.after (tagged_cells site l.count names l.text);
    }

abbrev pub decreases-loop-rest : goal.decreases-loop-rest
decreases-loop-rest l = length l.rest
