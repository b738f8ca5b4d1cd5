-- What is asked of a group holds of the reverted one.
use Rattle.std.proofs.Common.{◌≡◌, ℕ, zero, suc, Bool, true, false, not, List, [], ◌∷◌, cond, drop, filter, map, refl, sym, ◌∙◌, subst}
use Rattle.std.proofs.lemmas.Bool.{or_from}
use Rattle.std.proofs.lemmas.List.Elements.{recursion_from_All}
use Rattle.std.specs.List.{AllByRecursion}
use Rattle.rt_stamps.specs.declared.stamp.Stamp.{Stamp}
use Rattle.rt_stamps.specs.declared.stamp.TheConstants.{FINAL}
use Rattle.rt_stamps.specs.Stamps.{is_same}
use Rattle.rt_stamps.specs.Words.{Word}
use Rattle.rt_stamps.proofs.Order.{same_sym}
use Rattle.rt_tags.specs.States.{names_on}
use Rattle.rt_ops.specs.Operations.{Operation}
use Rattle.rt_store.specs.Cells.{visible_of}
use Rattle.rt_store.specs.Shown.{TaggedCell}
use Rattle.rt_store.specs.Spans.{is_among}
use Rattle.rt_store.proofs.Distinct.{differs}
use Rattle.rt_rga.specs.Cells.{cells_of}
use Rattle.rt_rga.specs.Histories.{IsHistory}
use Rattle.rt_plans.specs.DraftLaws.{AreTagNames}
use Rattle.rt_plans.proofs.TagNames.{cells_have_names}
use Rattle.rt_undo.specs.Actions.{Action, Removed, restamped_one}
use Rattle.rt_undo.specs.Undo.{with_stamps_in}
use Rattle.rt_revert.specs.Reverting.{Return, as_removed, stamp_after, still_visible}
use Rattle.rt_revert.specs.ReversionLaws.{AllMayRevert, MayReturn}
use Rattle.rt_revert.proofs.Stamps.{IsApart, after_apart, all_apart}

-- WHAT CAME BACK

every_drop : {X : Type 0} (P : X → Type 0) (n : ℕ) (xs : List X) → AllByRecursion P xs → AllByRecursion P (drop n xs)
every_drop P zero xs h = h
every_drop P (suc n) [] h = tt
every_drop P (suc n) (x ∷ xs) h = every_drop P n xs h.1

newer_apart : (returns : List Return) → AllByRecursion IsApart returns → is_among (map (λ (r : Return). r.newer) returns) FINAL ≡ false
newer_apart [] h = refl
newer_apart (r ∷ returns) h = or_from (is_same r.newer FINAL) _ h.0 (newer_apart returns h.1)

pub since_apart : (n : ℕ) (returns : List Return) → AllByRecursion IsApart returns → is_among (map (λ (r : Return). r.newer) (drop n returns)) FINAL ≡ false
since_apart n returns h = newer_apart (drop n returns) (every_drop IsApart n returns h)

-- WHAT WENT

abbrev HasNames : TaggedCell → Type 0
HasNames cell = AreTagNames (names_on cell.state)

went_step : (stamps : List Stamp) (c : TaggedCell) (rest : List TaggedCell) → is_among stamps FINAL ≡ false → HasNames c
    → AllByRecursion MayReturn (map as_removed (filter (λ (cell : TaggedCell). is_among stamps cell.stamp) rest))
    → AllByRecursion MayReturn (map as_removed (filter (λ (cell : TaggedCell). is_among stamps cell.stamp) (c ∷ rest)))
went_step stamps c rest n h more = by (is_among stamps c.stamp) refl
  where
    by : (b : Bool) → is_among stamps c.stamp ≡ b
        → AllByRecursion MayReturn (map as_removed (cond b (c ∷ filter (λ (cell : TaggedCell). is_among stamps cell.stamp) rest) (filter (λ (cell : TaggedCell). is_among stamps cell.stamp) rest)))
    by true e = (record { stamp = same_sym c.stamp FINAL ∙ differs FINAL c.stamp stamps n e; tags = h }, more)
    by false e = more

pub went_sound : (stamps : List Stamp) (cells : List TaggedCell) → is_among stamps FINAL ≡ false → AllByRecursion HasNames cells → AllByRecursion MayReturn (still_visible stamps cells)
went_sound stamps [] n h = tt
went_sound stamps (c ∷ cs) n h = by c.gone (went_sound stamps cs n h.1)
  where
    by : (b : Bool) → AllByRecursion MayReturn (still_visible stamps cs)
        → AllByRecursion MayReturn (map as_removed (filter (λ (cell : TaggedCell). is_among stamps cell.stamp) (cond (not b) (c ∷ visible_of cs) (visible_of cs))))
    by true more = more
    by false more = went_step stamps c (visible_of cs) n h.0 more

pub names_of_cells : (log : List Operation) (cells : List TaggedCell) → IsHistory log → cells ≡ cells_of log → AllByRecursion HasNames cells
names_of_cells log cells h e = subst (AllByRecursion HasNames) (sym e) (recursion_from_All HasNames (cells_of log) (cells_have_names log h))

-- UNDER THE STAMPS OF NOW

removed_renamed : (returns : List Return) (removed : List (Removed (List Word))) → AllByRecursion IsApart returns → AllByRecursion MayReturn removed
    → AllByRecursion MayReturn (map (restamped_one (stamp_after returns)) removed)
removed_renamed returns [] h k = tt
removed_renamed returns (r ∷ removed) h k = (record { stamp = after_apart returns r.stamp h k.0.stamp; tags = k.0.tags }, removed_renamed returns removed h k.1)

pub group_renamed : (returns : List Return) (group : List (Action (List Word))) → AllByRecursion IsApart returns → AllMayRevert group → AllMayRevert (with_stamps_in (stamp_after returns) group)
group_renamed returns [] h k = tt
group_renamed returns (action ∷ group) h k = (
  record { inserted = all_apart returns action.inserted h k.0.inserted; removed = removed_renamed returns action.removed h k.0.removed },
  group_renamed returns group h k.1,
)
