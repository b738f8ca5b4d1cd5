-- No more characters come back than a group took away.
use Rattle.std.proofs.Common.{◌≡◌, ◌∙◌, ℕ, zero, suc, ◌+◌, ◌-◌, ◌<◌, ◌≤◌, List, [], ◌∷◌, ◌++◌, Option, Some, None, length, map, ap, refl, sym, arith, add-one, drop, drop-cons, get_or, length-append}
use Rattle.std.specs.Prelude.{option_map, reverse, unwrap_or}
use Rattle.std.proofs.lemmas.List.{length-map}
use mathlib.Core.List.{reverse-cons}
use Rattle.rt_stamps.specs.declared.stamp.Span.{Span}
use Rattle.rt_stamps.specs.declared.stamp.Stamp.{Stamp}
use Rattle.rt_stamps.specs.Words.{Word}
use Rattle.rt_ops.specs.Operations.{stamps_from, stamps_of_span}
use Rattle.rt_store.specs.Shown.{TaggedCell}
use Rattle.rt_tags.specs.States.{TagStates}
use Rattle.rt_plans.specs.DocValue.{DocValue}
use Rattle.rt_undo.specs.declared.action.Action.{Action as KeptAction}
use Rattle.rt_undo.specs.declared.action.RemovedSpan.{RemovedSpan}
use Rattle.rt_undo.specs.Actions.{Action, Removed, group_of, removed_in, removed_of, removed_with}
use Rattle.rt_revert.specs.Reverting.{Reversion, as_it_is, gone_cell_of, next_in, reversion, with_each_reverted, with_insertion, with_removal, with_return, with_returns, with_reverted}
use Rattle.rt_recording.specs.Naming.{named_group, named_removed}
use Rattle.rt_recording.specs.Returns.{removed_count, stamp_after}

return_few : (removed : Removed (List Word)) (r : Reversion) → length (with_return removed r).returns ≤ length r.returns + 1
return_few removed r = by (gone_cell_of r.doc.cells stamp)
  where
    stamp : Stamp
    stamp = stamp_after r.returns removed.stamp

    by : (o : Option TaggedCell) → length (unwrap_or (option_map (λ (cell : TaggedCell). with_insertion stamp removed.tags cell.ch r) o) r).returns ≤ length r.returns + 1
    by None = omega arith
    by (Some cell) = omega (arith, length-append r.returns (record { former = stamp; newer = next_in r.doc } ∷ []))

returns_few : (removed : List (Removed (List Word))) (r : Reversion) → length (with_returns removed r).returns ≤ length r.returns + length removed
returns_few [] r = omega arith
returns_few (x ∷ more) r = omega (arith, return_few x r, returns_few more (with_return x r))

all_few : (actions : List (Action (List Word))) (r : Reversion) → length (with_each_reverted actions r).returns ≤ length r.returns + removed_count actions
all_few [] r = omega arith
all_few (action ∷ actions) r =
    let next = with_reverted action r in
    let one : length next.returns ≤ length r.returns + length action.removed = returns_few action.removed (with_removal (map (stamp_after r.returns) action.inserted) r) in
    omega (arith, one, all_few actions next)

count_append : (xs ys : List (Action (List Word))) → removed_count (xs ++ ys) ≡ removed_count xs + removed_count ys
count_append [] ys = omega arith
count_append (x ∷ xs) ys = omega (arith, count_append xs ys)

count_reverse : (group : List (Action (List Word))) → removed_count (reverse group) ≡ removed_count group
count_reverse [] = refl
count_reverse (a ∷ group) =
    let whole : removed_count (reverse (a ∷ group)) ≡ removed_count (reverse group ++ a ∷ []) = ap (λ (l : List (Action (List Word))). removed_count l) (reverse-cons a group) in
    let one : removed_count (a ∷ []) ≡ length a.removed = omega arith in
    omega (arith, whole, count_append (reverse group) (a ∷ []), one, count_reverse group)

pub reversion_few : (doc : DocValue) (group : List (Action (List Word))) → length (reversion doc group).returns ≤ removed_count group
reversion_few doc group = omega (arith, all_few (reverse group) (as_it_is doc), count_reverse group)

pub count_named : (t : TagStates) (group : List (Action ℕ)) → removed_count (named_group t group) ≡ removed_count group
count_named t [] = refl
count_named t (a ∷ group) = λ i. length-map a.removed (named_removed t) i + count_named t group i

-- COUNTS OF SPANS

from_length : (site first n : ℕ) → length (stamps_from site first n) ≡ n
from_length site first zero = refl
from_length site first (suc n) = ap suc (from_length site (first + 1) n)

pub span_length : (span : Span) → length (stamps_of_span span) ≡ span.last + 1 - span.first
span_length span = from_length span.site span.first (span.last + 1 - span.first)

-- one part more
pub part_step : (removed : List RemovedSpan) (i : ℕ) (part : RemovedSpan) → i < length removed → part ≡ get_or removed i part
    → length (removed_in (drop i removed)) ≡ length (stamps_of_span part.span) + length (removed_in (drop (i + 1) removed))
part_step removed i part l is =
    let here : drop i removed ≡ part ∷ drop (i + 1) removed = drop-cons removed i part l ∙ (λ j. sym is j ∷ drop (sym (add-one i) j) removed) in
    ap (λ l. length (removed_in l)) here
    ∙ length-append (removed_of part) (removed_in (drop (i + 1) removed))
    ∙ ap (λ n. n + length (removed_in (drop (i + 1) removed))) (length-map (stamps_of_span part.span) (removed_with part.state))

pub none_left : {X : Type 0} (xs : List X) (i : ℕ) → length xs ≤ i → drop i xs ≡ []
none_left [] zero l = refl
none_left [] (suc i) l = refl
none_left (x ∷ xs) zero l = absurd (omega arith)
none_left (x ∷ xs) (suc i) l = none_left xs i (omega arith)

-- one action more
pub action_step : (group : List KeptAction) (i : ℕ) (action : KeptAction) → i < length group → action ≡ get_or group i action
    → removed_count (group_of (drop i group)) ≡ length (removed_in action.removed.items) + removed_count (group_of (drop (i + 1) group))
action_step group i action l is =
    let here : drop i group ≡ action ∷ drop (i + 1) group = drop-cons group i action l ∙ (λ j. sym is j ∷ drop (sym (add-one i) j) group) in
    ap (λ l. removed_count (group_of l)) here
