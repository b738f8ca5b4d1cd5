-- The stamps that a working copy has.
use Rattle.std.proofs.Common.{◌≡◌, ℕ, zero, suc, ◌+◌, ◌-◌, ◌<◌, ◌≤◌, ◌==◌, ◌∙◌, ◌||◌, true, false, List, [], ◌∷◌, cond, get_or, length, map, subst, sym, ap, arith}
use Rattle.std.specs.List.{AllByRecursion}
use Rattle.std.proofs.lemmas.Bool.Decides.{nat_tests}
use Rattle.rt_stamps.specs.declared.stamp.Stamp.{Stamp}
use Rattle.rt_stamps.specs.Stamps.{is_same}
use Rattle.rt_stamps.proofs.Order.{same_from_true}
use Rattle.rt_ops.specs.Operations.{stamps_from}
use Rattle.rt_store.specs.Spans.{is_among}
use Rattle.rt_store.proofs.Distinct.{split}
use Rattle.rt_undo.specs.declared.action.Action.{Action as KeptAction}
use Rattle.rt_undo.specs.declared.action.RemovedSpan.{RemovedSpan}
use Rattle.rt_undo.specs.Actions.{Removed, action_of, group_of, removed_in, removed_of, removed_with}
use Rattle.rt_revert.specs.declared.plan.Return.{Return}
use Rattle.rt_revert.specs.Portions.{HasAction, HasEach, HasGroup, HasRemoved, Portion}
use Rattle.rt_revert.specs.Reverting.{stamp_after}
use Rattle.rt_revert.proofs.PortionGone.{AreHad}
use Rattle.rt_revert.proofs.Reaching.{every_parts}

pub had_all : (part : Portion) (stamps : List Stamp) → HasEach part stamps → AreHad part.has stamps
had_all part [] h s e = absurd (cc e)
had_all part (x ∷ xs) h s e = split (is_same x s)
    (λ k. subst (λ t. part.has t ≡ true) (same_from_true x s k) h.0)
    (λ k. had_all part xs h.1 s (sym (ap (λ b. b || is_among xs s) k) ∙ e))

-- after some came back
pub after_had : (part : Portion) (returns : List Return) (s : Stamp) → AllByRecursion (λ (x : Return). part.has x.newer ≡ true) returns → part.has s ≡ true → part.has (stamp_after returns s) ≡ true
after_had part [] s h e = e
after_had part (r ∷ returns) s h e =
    after_had part returns (cond (is_same s r.former) r.newer s) h.1 (elim (is_same s r.former) as (λ b. part.has (cond b r.newer s) ≡ true) [ true ↦ h.0 | false ↦ e ])

pub all_after_had : (part : Portion) (returns : List Return) (ss : List Stamp) → AllByRecursion (λ (x : Return). part.has x.newer ≡ true) returns → HasEach part ss → HasEach part (map (stamp_after returns) ss)
all_after_had part returns [] h k = tt
all_after_had part returns (s ∷ ss) h k = (after_had part returns s h k.0, all_after_had part returns ss h k.1)

-- ONE OF MANY

pub part_had : (part : Portion) (removed : List RemovedSpan) (i : ℕ) (span : RemovedSpan) → i < length removed → span ≡ get_or removed i span → HasRemoved part (removed_in removed) → HasRemoved part (removed_of span)
part_had part [] i span lt e h = absurd (omega arith)
part_had part (r ∷ removed) zero span lt e h =
    subst (λ (x : RemovedSpan). HasRemoved part (removed_of x)) (sym e) (every_parts (λ (x : Removed ℕ). part.has x.stamp ≡ true) (removed_of r) (removed_in removed) h).0
part_had part (r ∷ removed) (suc i) span lt e h =
    part_had part removed i span (omega arith) e (every_parts (λ (x : Removed ℕ). part.has x.stamp ≡ true) (removed_of r) (removed_in removed) h).1

from_had : (part : Portion) (state site first n count : ℕ) → first ≤ count → count < first + n → HasRemoved part (map (removed_with state) (stamps_from site first n)) → part.has (record { count = count; site = site }) ≡ true
from_had part state site first zero count le lt h = absurd (omega arith)
from_had part state site first (suc n) count le lt h = split (first == count)
    (λ e. let same : first ≡ count = grind (arith, nat_tests) in subst (λ m. part.has (record { count = m; site = site }) ≡ true) same h.0)
    (λ e. let more : first + 1 ≤ count = grind (arith, nat_tests) in from_had part state site (first + 1) n count more (omega arith) h.1)

pub count_had : (part : Portion) (span : RemovedSpan) (count : ℕ) → span.span.first ≤ count → count ≤ span.span.last → HasRemoved part (removed_of span) → part.has (record { count = count; site = span.span.site }) ≡ true
count_had part span count le lt h = from_had part span.state span.span.site span.span.first (span.span.last + 1 - span.span.first) count le (omega arith) h

pub action_had : (part : Portion) (group : List KeptAction) (i : ℕ) (a : KeptAction) → i < length group → a ≡ get_or group i a → HasGroup part (group_of group) → HasAction part (action_of a)
action_had part [] i a lt e h = absurd (omega arith)
action_had part (x ∷ group) zero a lt e h = subst (λ (b : KeptAction). HasAction part (action_of b)) (sym e) h.0
action_had part (x ∷ group) (suc i) a lt e h = action_had part group i a (omega arith) e h.1
