-- What is left to do leads to the end.
use Rattle.std.proofs.Common.{◌≡◌, ◌∙◌, ℕ, zero, suc, ◌+◌, ◌-◌, ◌<◌, ◌≤◌, List, [], ◌∷◌, ◌++◌, drop, get_or, length, map, refl, sym, ap, subst, arith}
use Rattle.std.proofs.lemmas.List.{map-append}
use Rattle.std.specs.List.{AllByRecursion}
use Rattle.rt_stamps.specs.declared.limits.TheConstants.{GREATEST_COUNT}
use Rattle.rt_stamps.specs.Words.{Word}
use Rattle.rt_ops.specs.Operations.{stamps_from}
use Rattle.rt_store.specs.declared.cell.Cell.{Cell}
use Rattle.rt_tags.specs.States.{TagStates}
use Rattle.rt_undo.specs.declared.action.RemovedSpan.{RemovedSpan}
use Rattle.rt_undo.specs.Actions.{Action, Removed, removed_in, removed_of, removed_with}
use Rattle.rt_revert.specs.declared.progress.Progress.{Progress}
use Rattle.rt_revert.specs.Plans.{named_removed}
use Rattle.rt_revert.specs.Portions.{Portion}
use Rattle.rt_revert.specs.Progress.{IsSoFar, Reaches}
use Rattle.rt_revert.specs.Reverting.{Reversion, with_each_reverted, with_return, with_returns, with_reverted}
use Rattle.rt_revert.proofs.Rest.{next_left, none_left}
use Rattle.rt_revert.proofs.Steps.{all_grow, returns_grow}

-- LISTS

pub every_parts : {X : Type 0} (P : X → Type 0) (xs ys : List X) → AllByRecursion P (xs ++ ys) → AllByRecursion P xs × AllByRecursion P ys
every_parts P [] ys h = (tt, h)
every_parts P (x ∷ xs) ys h = let p = every_parts P xs ys h.1 in ((h.0, p.0), p.1)

-- the removed characters of a span from a count on
abbrev pub rest_of : TagStates → ℕ → ℕ → ℕ → ℕ → List (Removed (List Word))
rest_of table state site last count = map (named_removed table) (map (removed_with state) (stamps_from site count (last + 1 - count)))

pub rest_step : (table : TagStates) (state site last count : ℕ) → count < last + 1
    → rest_of table state site last count ≡ named_removed table (removed_with state (record { count = count; site = site })) ∷ rest_of table state site last (count + 1)
rest_step table state site last count lt =
    let e : last + 1 - count ≡ suc (last + 1 - (count + 1)) = omega arith in
    ap (λ n. map (named_removed table) (map (removed_with state) (stamps_from site count n))) e

pub rest_none : (table : TagStates) (state site last count : ℕ) → last + 1 ≤ count → rest_of table state site last count ≡ []
rest_none table state site last count le =
    let e : last + 1 - count ≡ zero = omega arith in
    ap (λ n. map (named_removed table) (map (removed_with state) (stamps_from site count n))) e

pub spans_left : (removed : List RemovedSpan) (i : ℕ) (part : RemovedSpan) → i < length removed → part ≡ get_or removed i part
    → removed_in (drop i removed) ≡ removed_of part ++ removed_in (drop (i + 1) removed)
spans_left removed i part lt e = ap removed_in (next_left removed i part lt e)

pub named_left : (table : TagStates) (removed : List RemovedSpan) (i : ℕ) (part : RemovedSpan) → i < length removed → part ≡ get_or removed i part
    → map (named_removed table) (removed_in (drop i removed)) ≡ map (named_removed table) (removed_of part) ++ map (named_removed table) (removed_in (drop (i + 1) removed))
named_left table removed i part lt e =
    ap (map (named_removed table)) (spans_left removed i part lt e) ∙ map-append (named_removed table) (removed_of part) (removed_in (drop (i + 1) removed))

pub nothing_left : (table : TagStates) (removed : List RemovedSpan) (i : ℕ) → length removed ≤ i → map (named_removed table) (removed_in (drop i removed)) ≡ []
nothing_left table removed i le = ap (λ l. map (named_removed table) (removed_in l)) (none_left removed i le)

-- CHARACTERS THAT COME BACK

returns_append : (xs ys : List (Removed (List Word))) (r : Reversion) → with_returns (xs ++ ys) r ≡ with_returns ys (with_returns xs r)
returns_append [] ys r = refl
returns_append (x ∷ xs) ys r = returns_append xs ys (with_return x r)

module _ (table : TagStates) (number : ℕ) (old : List (Cell ℕ)) (before : Progress) (part : Portion) (rest xs more : List (Removed (List Word))) (end : Reversion) where
  pub reach_step : (new : List (Cell ℕ)) (after : Progress) → rest ≡ xs ++ more → Reaches table number old before part (with_returns rest) end
      → ((r : Reversion) → IsSoFar table number old before part r → IsSoFar table number new after part (with_returns xs r)) → Reaches table number new after part (with_returns more) end
  reach_step new after e h f = record {
    so_far = with_returns xs h.so_far;
    stands = f h.so_far h.stands;
    leads = sym (returns_append xs more h.so_far) ∙ ap (λ l. with_returns l h.so_far) (sym e) ∙ h.leads;
  }

  pub reach_early : rest ≡ xs ++ more → Reaches table number old before part (with_returns rest) end
      → ((r : Reversion) → IsSoFar table number old before part r → GREATEST_COUNT < (with_returns xs r).doc.count) → GREATEST_COUNT < end.doc.count
  reach_early e h f =
      let last : with_returns more (with_returns xs h.so_far) ≡ end = sym (returns_append xs more h.so_far) ∙ ap (λ l. with_returns l h.so_far) (sym e) ∙ h.leads in
      let over : GREATEST_COUNT < (with_returns more (with_returns xs h.so_far)).doc.count = omega (arith, f h.so_far h.stands, returns_grow more (with_returns xs h.so_far)) in
      subst (λ (r : Reversion). GREATEST_COUNT < r.doc.count) last over

pub reach_end : (table : TagStates) (number : ℕ) (old : List (Cell ℕ)) (before : Progress) (part : Portion) (rest : List (Removed (List Word))) (end : Reversion) → rest ≡ []
    → Reaches table number old before part (with_returns rest) end → IsSoFar table number old before part end
reach_end table number old before part rest end e h = subst (IsSoFar table number old before part) (sym (ap (λ l. with_returns l h.so_far) e) ∙ h.leads) h.stands

-- ACTIONS

module _ (table : TagStates) (number : ℕ) (old : List (Cell ℕ)) (before : Progress) (part : Portion) (rest more : List (Action (List Word))) (action : Action (List Word)) (end : Reversion) where
  pub group_step : (new : List (Cell ℕ)) (after : Progress) → rest ≡ action ∷ more → Reaches table number old before part (with_each_reverted rest) end
      → ((r : Reversion) → IsSoFar table number old before part r → IsSoFar table number new after part (with_reverted action r)) → Reaches table number new after part (with_each_reverted more) end
  group_step new after e h f = record {
    so_far = with_reverted action h.so_far;
    stands = f h.so_far h.stands;
    leads = ap (λ l. with_each_reverted l h.so_far) (sym e) ∙ h.leads;
  }

  pub group_early : rest ≡ action ∷ more → Reaches table number old before part (with_each_reverted rest) end
      → ((r : Reversion) → IsSoFar table number old before part r → GREATEST_COUNT < (with_reverted action r).doc.count) → GREATEST_COUNT < end.doc.count
  group_early e h f =
      let last : with_each_reverted more (with_reverted action h.so_far) ≡ end = ap (λ l. with_each_reverted l h.so_far) (sym e) ∙ h.leads in
      let over : GREATEST_COUNT < (with_each_reverted more (with_reverted action h.so_far)).doc.count = omega (arith, f h.so_far h.stands, all_grow more (with_reverted action h.so_far)) in
      subst (λ (r : Reversion). GREATEST_COUNT < r.doc.count) last over

pub group_end : (table : TagStates) (number : ℕ) (old : List (Cell ℕ)) (before : Progress) (part : Portion) (rest : List (Action (List Word))) (end : Reversion) → rest ≡ []
    → Reaches table number old before part (with_each_reverted rest) end → IsSoFar table number old before part end
group_end table number old before part rest end e h = subst (IsSoFar table number old before part) (sym (ap (λ l. with_each_reverted l h.so_far) e) ∙ h.leads) h.stands
