use Rattle.std.proofs.Common.{◌≡◌, ℕ, List, length}
use Rattle.std.proofs.lemmas.Result.{IfOk-weaker}
use Rattle.rt_tags.specs.Kept.{HaveNames, all_seen, state_of}
use Rattle.rt_tags.specs.ManyWrites.{setting_after}
use Rattle.rt_tags.specs.SharedStates.{AreBelow, at_id, setting_of}
use Rattle.rt_tags.specs.Tags.{HaveNoRepeats}
use Rattle.rt_tags.specs.Writers.{state_after}
use Rattle.rt_tags.proofs.Entries.{named}
use Rattle.rt_tags.proofs.Keeping.{full_at}
use Rattle.rt_tags.proofs.WritesSeen.{seen_after}
use Rattle.rt_tags.proofs.writing.write_all.Goals as goal

pub returns-clause-states : goal.returns-clause-states
returns-clause-states c =
    let old = c.args.nodes.now.keys in
    let new = c.write_in.new.nodes.keys in
    let id = c.args.id in
    let entries = c.args.entries.now in
    IfOk-weaker c.write_in.result (λ r. (t : ℕ) → setting_of (at_id new r) t ≡ setting_after entries t (setting_of (at_id old id) t))
    (λ r. (names : List (List ℕ)) → HaveNoRepeats names → AreBelow (length names) old → HaveNames (length names) entries → state_of names (at_id new r) ≡ state_after (state_of names (at_id old id)) (all_seen names entries))
    (λ r h. λ names own below k. seen_after names own (at_id old id) (at_id new r) (full_at old id c.requires.kept) (below id) (full_at new r c.write_in.ensures.kept) (c.write_in.ensures.below (length names) below k r) entries (named (length names) entries k) h)
    c.write_in.ensures.settings
