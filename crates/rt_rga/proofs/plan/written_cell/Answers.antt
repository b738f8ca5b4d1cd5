use Rattle.std.proofs.Common.{◌≡◌, ◌∙◌, ◌++◌, ◌-◌, ◌==◌, ◌||◌, not, true, All, List, Some, ap, get_or, sym, subst, rules}
use Rattle.rt_stamps.specs.Stamps.{is_same}
use Rattle.rt_tags.specs.declared.states.TagEntry.{TagEntry}
use Rattle.rt_tags.specs.States.{IsTag, state_at, writes_at}
use Rattle.rt_tags.specs.Writers.{state_after}
use Rattle.rt_rga.specs.Batches.{entries_in_front}
use Rattle.rt_rga.proofs.PlannedEntries.{tags_on}
use Rattle.rt_rga.proofs.PlannedStates.{all_from_first, first_apart, found_given}
use Rattle.rt_rga.proofs.plan.written_cell.Goals as goal

pub new_state-requires-clause-before : goal.new_state-requires-clause-before
new_state-requires-clause-before g c =
    found_given c.args.states.now (c.args.new.now ++ g.S.TextStore.list c.args.store.now) (get_or c.args.named.now c.args.at c.index-named-at.result).stamp c.in-Some.cell c.requires.states (sym c.cell_in.ensures ∙ c.in-Some.is)

pub new_state-requires-clause-tags : goal.new_state-requires-clause-tags
new_state-requires-clause-tags g c =
    let named = c.args.named.now in
    let at = c.args.at in
    let n = c.index-named-at.result in
    let s = (get_or named at n).stamp in
    let first : ((at == 0) || not (is_same (get_or named (at - 1) n).stamp (get_or named at n).stamp)) ≡ true = sym (c.is_first.ensures n) ∙ search rules in
    subst (λ (es : List TagEntry). All (λ e. IsTag c.args.states.now e.tag) es)
    (sym (ap (λ rest. entries_in_front rest s) c.split_at.ensures.back ∙ all_from_first named at n c.requires.order c.requires.at (first_apart named at n first)))
    (tags_on c.args.states.now named (get_or named at n).stamp c.requires.tags)

pub returns-clause-written : goal.returns-clause-written
returns-clause-written g c =
    let named = c.args.named.now in
    let at = c.args.at in
    let n = c.index-named-at.result in
    let s = (get_or named at n).stamp in
    let first : ((at == 0) || not (is_same (get_or named (at - 1) n).stamp (get_or named at n).stamp)) ≡ true = sym (c.is_first.ensures n) ∙ search rules in
    record {
      given = c.in_ok-state.ensures.given;
      written = λ cell e.
          let same : Some c.in-Some.cell ≡ Some cell = sym c.in-Some.is ∙ c.cell_in.ensures ∙ e in
          let it : c.in-Some.cell ≡ cell = cc in
          c.in_ok-state.ensures.state
          ∙ (λ i. state_after (state_at c.args.states.now (it i).state) (writes_at c.args.states.now ((ap (λ rest. entries_in_front rest s) c.split_at.ensures.back ∙ all_from_first named at n c.requires.order c.requires.at (first_apart named at n first)) i)));
    }
