use Rattle.std.proofs.Common.{◌≡◌, ◌∙◌, All, List, sym, subst, arith}
use Rattle.rt_tags.specs.declared.states.TagEntry.{TagEntry}
use Rattle.rt_tags.specs.States.{IsTag, state_at, writes_at}
use Rattle.rt_tags.specs.Writers.{state_after}
use Rattle.rt_rga.specs.Batches.{entries_in_front}
use Rattle.std.proofs.lemmas.Bool.Decides.{nat_tests}
use Rattle.rt_rga.proofs.plan.new_state.Goals as goal

-- the last one's state and entries are the same
pub returns-then-are_in_front-clause-state : goal.returns-then-are_in_front-clause-state
returns-then-are_in_front-clause-state c =
    let same : c.args.last.now.before ≡ c.args.before = grind (arith, nat_tests, c.eq.ensures, c.if-eq.true) in
    let front : entries_in_front c.args.named.now c.args.stamp ≡ c.args.last.now.entries.items = c.are_in_front.ensures.0 c.if-are_in_front.true ∙ c.deref.ensures.value in
    c.requires.last.written ∙ (λ i. state_after (state_at c.args.states.now (same i)) (writes_at c.args.states.now (sym front i)))

pub with_all-requires-clause-tags : goal.with_all-requires-clause-tags
with_all-requires-clause-tags c =
    subst (λ (es : List TagEntry). All (λ e. IsTag c.args.states.now e.tag) es) (sym (c.deref-2.ensures.value ∙ c.in_ok-entries.ensures.entries)) c.requires.tags
