use Rattle.std.proofs.Common.{◌≡◌, ◌∙◌, sym, ap, rules, arith, Some, None, true, false, [], drop, length, slice_get, subst, Option, not, Bool}
use Rattle.std.proofs.lemmas.List.{drop_all}
use Rattle.rt_tags.specs.declared.states.TagEntry.{TagEntry}
use Rattle.rt_rga.specs.Batches.{entry_if}
use Rattle.rt_rga.proofs.LastWritten.{first_left, front_none, less_left, more_left, none_left, option_other, option_same, AreLeft}
use Rattle.std.specs.Option.{is_some}
use Rattle.rt_rga.proofs.plan.are_in_front.Goals as goal

is_none_of : (o p : Option TagEntry) (r : Bool) → o ≡ p → is_some o ≡ not r → r ≡ true → p ≡ None
is_none_of None p r e k l = sym e
is_none_of (Some x) p r e k l = absurd (let m : true ≡ false = k ∙ ap not l in cc m)

none_is : (o p : Option TagEntry) (r : Bool) → o ≡ p → is_some o ≡ not r → p ≡ None → r ≡ true
none_is o p r e k l = let m : false ≡ not r = sym (ap is_some (e ∙ l)) ∙ k in grind (arith, m)

pub loop-at-init : goal.loop-at-init
loop-at-init c = record { left = λ h. h; all = λ h. h }

pub returns-then-ne : goal.returns-then-ne
returns-then-ne c = (
  λ h. absurd (cc h),
  λ h.
      let f = first_left c.args.named.now c.args.stamp c.args.entries.now c.loop-at.at c.index-entries-at.result c.loop-at-test.true c.index-entries-at.is (c.loop-at.invariant.left h) in
      absurd (option_other _ (λ a. search rules) c.entry_at.result c.index-entries-at.result c.ne.result c.ne.ensures c.if-ne.true (c.entry_at.ensures ∙ f)),
)

pub loop-at-preserved : goal.loop-at-preserved
loop-at-preserved c =
    let f : entry_if c.args.stamp (slice_get c.args.named.now c.loop-at.at) ≡ Some c.index-entries-at.result =
    sym c.entry_at.ensures ∙ option_same _ (λ a b h. search rules) c.entry_at.result c.index-entries-at.result c.ne.result c.ne.ensures c.if-ne.false in
    record {
      left = λ h. less_left c.args.named.now c.args.stamp c.args.entries.now c.loop-at.at c.index-entries-at.result c.loop-at-test.true c.index-entries-at.is f (c.loop-at.invariant.left h);
      all = λ h. c.loop-at.invariant.all (more_left c.args.named.now c.args.stamp c.args.entries.now c.loop-at.at c.index-entries-at.result c.loop-at-test.true c.index-entries-at.is f h);
    }

pub returns : goal.returns
returns c =
    let named = c.args.named.now in
    let stamp = c.args.stamp in
    let entries = c.args.entries.now in
    let end : c.loop-at.at ≡ length entries = omega arith in
    let none : drop (length entries) entries ≡ [] = drop_all (length entries) entries (omega arith) in (
      λ h. c.loop-at.invariant.all (rw end (front_none named stamp (length entries) (is_none_of _ _ c.is_none.result c.entry_at-2.ensures c.is_none.ensures h) ∙ sym none)),
      λ h. none_is _ _ c.is_none.result c.entry_at-2.ensures c.is_none.ensures (none_left named stamp (length entries) (subst (λ i. AreLeft named stamp entries i) end (c.loop-at.invariant.left h) ∙ none)),
    )
