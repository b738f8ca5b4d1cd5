-- The limits of a site's widgets stay in their order, whatever becomes of the text.
use Rattle.std.proofs.Common.{◌≡◌, ◌∙◌, ℕ, zero, suc, ◌+◌, ◌≤◌, ◌<◌, ◌∷◌, ◌++◌, Bool, true, false, List, [], Option, Some, None, Ok, Err, Result, append_assoc, drop, length, map, ap, arith, refl, set, subst, sym, take}
use Rattle.std.specs.Prelude.{OnErr, OnOk, if◌then◌else◌, is_some, nat_lt, option_map, reverse, slice_get, unwrap_or}
use Rattle.std.specs.List.{AllByRecursion, position_or_len, remove}
use Rattle.std.proofs.lemmas.Bool.{both_ways, lt-ltb, ltb-false}
use Rattle.rt_stamps.specs.declared.fault.Fault.TheVariants.{ClockSpent}
use Rattle.rt_stamps.specs.declared.limits.TheConstants.{GREATEST_COUNT, MOST_SPANS}
use Rattle.rt_stamps.specs.declared.stamp.Stamp.{Stamp}
use Rattle.rt_stamps.specs.declared.stamp.TheConstants.{ROOT}
use Rattle.rt_stamps.specs.Outcomes.{first_of}
use Rattle.rt_stamps.specs.Stamps.{is_same}
use Rattle.rt_stamps.specs.Words.{Word}
use Rattle.rt_stamps.proofs.Order.{same_from_true}
use Rattle.rt_marks.specs.declared.gravity.Gravity.{Gravity}
use Rattle.rt_ops.specs.Operations.{Operation}
use Rattle.rt_store.specs.Cells.{AreDistinct, EndsFinal, after_element, cell_of, position_of, put_at, stamps_of}
use Rattle.rt_store.specs.Shown.{TaggedCell}
use Rattle.rt_store.specs.Spans.{is_among}
use Rattle.rt_store.specs.Written.{AreBelowNext}
use Rattle.rt_store.proofs.Distinct.{new_apart, split}
use Rattle.rt_store.proofs.Finding.{stamp_held}
use Rattle.rt_store.proofs.Places.{found_within}
use Rattle.rt_rga.specs.Cells.{cells_of}
use Rattle.rt_rga.specs.Drafts.{with_drafts}
use Rattle.rt_rga.specs.Histories.{IsHistory, greatest_last_count}
use Rattle.rt_rga.proofs.Appending.{drafts_append}
use Rattle.rt_rga.proofs.Corollaries.{cells_distinct, cells_older, root_absent}
use Rattle.rt_rga.proofs.Final.{ends_final}
use Rattle.rt_plans.specs.DraftLaws.{IsDocument}
use Rattle.rt_plans.specs.DocValue.{DocValue, put_after}
use Rattle.rt_plans.specs.Insertions.{new_state}
use Rattle.rt_plans.specs.RemovalDrafts.{removal_drafts}
use Rattle.rt_undo.specs.Actions.{Action, Removed}
use Rattle.rt_revert.specs.declared.plan.Return.{Return}
use Rattle.rt_revert.specs.Reverting.{Reversion, are_at, as_it_is, gone_cell_of, next_in, reversion, reverted, stamp_after, with_each_reverted, with_insertion, with_removal, with_return, with_returns, with_reverted}
use Rattle.rt_revert.specs.ReversionLaws.{AllMayRevert, MayReturn, MayRevert}
use Rattle.rt_revert.proofs.Stamps.{all_apart, gone_found}
use Rattle.rt_revert.proofs.Steps.{IsOnWay, action_step, all_grow, all_reversed, gone_step, return_step, returns_grow}
use Rattle.rt_text.specs.declared.own_mark.OwnMark.{OwnMark}
use Rattle.rt_text.specs.declared.own_mark.OwnMark.TheVariants.{Current, Insert}
use Rattle.rt_text.specs.Changes.{limits_after}
use Rattle.rt_text.specs.Commands.{cell_check}
use Rattle.rt_text.specs.Reversions.{widget_reverted, reversion_check, view_reverted}
use Rattle.rt_text.specs.Widgets.{AreWidgetsOf, WidgetValue, ViewValue, limits_of, widget_with_place, widget_with_gravity}
use Rattle.rt_lines.specs.declared.choice.Choice.{Choice}
use Rattle.rt_lines.specs.declared.limits.Limits.{Limits}
use Rattle.rt_lines.specs.Choices.{limits_chosen}
use Rattle.rt_lines.specs.Limits.{limits_renamed}
use Rattle.rt_lines.specs.Ordered.{LimitsAreInOrder}
use Rattle.rt_lines.proofs.ChosenOrder.{order_chosen}
use Rattle.rt_lines.proofs.InOrder.{order_grown, order_renamed, position_is}
use Rattle.rt_text.proofs.Among.{cells_among}
use Rattle.rt_text.proofs.Growing.{Grows, GrowsTo, grows_drafts}
use Rattle.rt_text.proofs.MarkLaws.{own_of_selecting}

-- the limits of some widgets are in their order
abbrev pub InOrder : List TaggedCell → List WidgetValue → Type 0
InOrder cells widgets = AllByRecursion (LimitsAreInOrder cells) (map (λ (own : WidgetValue). own.limits) widgets)

-- those of all widgets of a view
abbrev pub HaveOrder : ViewValue → Type 0
HaveOrder view = AllByRecursion (LimitsAreInOrder view.doc.cells) (limits_of view)

-- WHILE A LOG GROWS

pub order_more : (old new : List Operation) (limits : Limits) → IsHistory old → IsHistory new → Grows old new → LimitsAreInOrder (cells_of old) limits → LimitsAreInOrder (cells_of new) limits
order_more old new limits h k grows o =
    order_grown (cells_of old) (cells_of new) limits (cells_distinct old h) (ends_final old h) (cells_distinct new k) (cells_among old new h k grows) o

all_more : (old new : List Operation) (limits : List Limits) → IsHistory old → IsHistory new → Grows old new → AllByRecursion (LimitsAreInOrder (cells_of old)) limits
    → AllByRecursion (LimitsAreInOrder (cells_of new)) limits
all_more old new [] h k grows o = tt
all_more old new (l ∷ limits) h k grows o = (order_more old new l h k grows o.0, all_more old new limits h k grows o.1)

-- of a view that is that of its log
pub limits_more : (view new : ViewValue) → IsHistory view.doc.log → view.doc.cells ≡ cells_of view.doc.log → IsHistory new.doc.log → new.doc.cells ≡ cells_of new.doc.log → GrowsTo view new
    → HaveOrder view → HaveOrder new
limits_more view new h cells k more grows o =
    subst (λ (limits : List Limits). AllByRecursion (LimitsAreInOrder new.doc.cells) limits) (sym grows.limits)
    (subst (λ (l : List TaggedCell). AllByRecursion (LimitsAreInOrder l) (limits_of view)) (sym more)
    (all_more view.doc.log new.doc.log (limits_of view) h k grows.log
    (subst (λ (l : List TaggedCell). AllByRecursion (LimitsAreInOrder l) (limits_of view)) cells o)))

pub order_same : (view new : ViewValue) → new ≡ view → HaveOrder view → HaveOrder new
order_same view new e o = subst (λ (v : ViewValue). HaveOrder v) (sym e) o

-- of one that is made, or left as it is
pub order_made : {T E : Type 0} (r : Result T E) (view made new : ViewValue) → IsHistory view.doc.log → view.doc.cells ≡ cells_of view.doc.log → IsHistory new.doc.log → new.doc.cells ≡ cells_of new.doc.log
    → GrowsTo view made → OnOk r (new ≡ made) → OnErr r (new ≡ view) → HaveOrder view → HaveOrder new
order_made (Ok x) view made new h cells k more grows is same o = limits_more view new h cells k more (subst (GrowsTo view) (sym is) grows) o
order_made (Err e) view made new h cells k more grows is same o = order_same view new same o

-- WHILE A GROUP IS REVERTED

-- limits are in their order, by the stamps of then
abbrev HasOrder : Reversion → Limits → Type 0
HasOrder r limits = LimitsAreInOrder r.doc.cells (limits_after r.returns limits)

gone_order : (site : ℕ) (log : List Operation) (stamps : List Stamp) (r : Reversion) (limits : Limits) → IsOnWay site log r → IsOnWay site log (with_removal stamps r) → HasOrder r limits
    → HasOrder (with_removal stamps r) limits
gone_order site log stamps r limits h k o =
    let old = with_drafts site r.drafts log in
    let new = with_drafts site (with_removal stamps r).drafts log in
    let now = limits_after r.returns limits in
    let drafts = removal_drafts MOST_SPANS (are_at stamps r.doc.cells) r.doc.cells in
    let grows : Grows old new = subst (Grows old) (sym (drafts_append site r.drafts drafts log)) (grows_drafts site drafts old) in
    subst (λ (cells : List TaggedCell). LimitsAreInOrder cells now) (sym k.document.cells)
    (order_more old new now h.history k.history grows (subst (λ (cells : List TaggedCell). LimitsAreInOrder cells now) h.document.cells o))

after_one_more : (returns : List Return) (r : Return) (limits : Limits) → limits_after (returns ++ r ∷ []) limits ≡ limits_renamed r.former r.newer (limits_after returns limits)
after_one_more [] r limits = refl
after_one_more (x ∷ returns) r limits = after_one_more returns r (limits_renamed x.former x.newer limits)

-- where a cell stands
stands : (cells : List TaggedCell) (s : Stamp) → is_among (stamps_of cells) s ≡ true → (p : ℕ) × (position_of cells s ≡ Some p)
stands cells s h = (position_or_len (λ (c : TaggedCell). is_same c.stamp s) cells, rw (lt-ltb _ _ (found_within s cells h)) refl)

not_root : (log : List Operation) (cells : List TaggedCell) (s : Stamp) → IsHistory log → cells ≡ cells_of log → is_among (stamps_of cells) s ≡ true → is_same s ROOT ≡ false
not_root log cells s h e m = split (is_same s ROOT)
    (λ same. absurd (let root = root_absent log h in
    let there : is_among (stamps_of (cells_of log)) ROOT ≡ true = ap (is_among (stamps_of (cells_of log))) (sym (same_from_true s ROOT same)) ∙ ap (λ (l : List TaggedCell). is_among (stamps_of l) s) (sym e) ∙ m in
    both_ways (is_among (stamps_of (cells_of log)) ROOT) root there))
    (λ other. other)

behind_it : (cells : List TaggedCell) (s : Stamp) (p : ℕ) → is_same s ROOT ≡ false → position_of cells s ≡ Some p → after_element cells s ≡ p + 1
behind_it cells s p n f = rw n (ap (λ (o : Option ℕ). unwrap_or o 0 + 1) f)

-- on the way no cell has a count to come, and the site is a site
pub real_on_way : (site : ℕ) (log : List Operation) (r : Reversion) → 0 < site → IsOnWay site log r → 0 < r.doc.site
real_on_way site log r p h = omega (arith, h.document.site, p)

pub below_on_way : (site : ℕ) (log : List Operation) (r : Reversion) → IsOnWay site log r → AreBelowNext r.doc.count r.doc.cells
below_on_way site log r h =
    let more = with_drafts site r.drafts log in
    subst (λ n. AreBelowNext n r.doc.cells) (sym h.document.count) (subst (AreBelowNext (greatest_last_count more)) (sym h.document.cells) (cells_older more h.history))

-- a newline that comes back takes the place of its old cell as a limit
character_order : (site : ℕ) (log : List Operation) (stamp : Stamp) (tags : List Word) (cell : TaggedCell) (r : Reversion) (limits : Limits) → 0 < site → IsOnWay site log r
    → gone_cell_of r.doc.cells stamp ≡ Some cell → HasOrder r limits → HasOrder (with_insertion stamp tags cell.ch r) limits
character_order site log stamp tags cell r limits p h e o =
    let cells = r.doc.cells in
    let this : TaggedCell = record { stamp = next_in r.doc; ch = cell.ch; gone = false; state = new_state r.doc.site (r.doc.count + 1) tags } in
    let held : cell_of cells stamp ≡ Some cell = (gone_found cells stamp cell e).0 in
    let among : is_among (stamps_of cells) stamp ≡ true = sym (stamp_held cells stamp) ∙ ap (λ (o : Option TaggedCell). is_some o) held in
    let (position, there) = stands cells stamp among in
    let fresh : is_among (stamps_of cells) (next_in r.doc) ≡ false =
    new_apart r.doc.count (r.doc.count + 1) r.doc.site cells (below_on_way site log r h) (omega arith) (real_on_way site log r p h) in
    let at : after_element cells stamp ≡ position + 1 = behind_it cells stamp position (not_root (with_drafts site r.drafts log) cells stamp h.history h.document.cells among) there in
    let alike : option_map (λ (c : TaggedCell). c.ch) (cell_of cells stamp) ≡ Some cell.ch = ap (option_map (λ (c : TaggedCell). c.ch)) held in
    let renamed = order_renamed cells (limits_after r.returns limits) stamp position this (sym (position_is cells stamp) ∙ there) alike fresh o in
    let limits_are = after_one_more r.returns (record { former = stamp; newer = next_in r.doc }) limits in
    let put : put_after cells stamp (this ∷ []) ≡ put_at (after_element cells stamp) (this ∷ []) cells =
    append_assoc (take (after_element cells stamp) cells) (this ∷ []) (drop (after_element cells stamp) cells) in
    subst (λ (x : _). x) (λ i. LimitsAreInOrder (sym put i) (sym limits_are i))
    (subst (λ n. LimitsAreInOrder (put_at n (this ∷ []) cells) (limits_renamed stamp (next_in r.doc) (limits_after r.returns limits))) (sym at) renamed)

return_order : (site : ℕ) (log : List Operation) (removed : Removed (List Word)) (r : Reversion) (limits : Limits) → 0 < site → IsOnWay site log r → HasOrder r limits
    → HasOrder (with_return removed r) limits
return_order site log removed r limits p h o = by (gone_cell_of r.doc.cells (stamp_after r.returns removed.stamp)) refl
  where
    by : (found : Option TaggedCell) → gone_cell_of r.doc.cells (stamp_after r.returns removed.stamp) ≡ found
        → HasOrder (unwrap_or (option_map (λ (cell : TaggedCell). with_insertion (stamp_after r.returns removed.stamp) removed.tags cell.ch r) found) r) limits
    by None e = o
    by (Some cell) e = character_order site log (stamp_after r.returns removed.stamp) removed.tags cell r limits p h e o

returns_order : (site : ℕ) (log : List Operation) (removed : List (Removed (List Word))) (r : Reversion) (limits : Limits) → 0 < site → IsOnWay site log r
    → AllByRecursion MayReturn removed → (with_returns removed r).doc.count ≤ GREATEST_COUNT → HasOrder r limits → HasOrder (with_returns removed r) limits
returns_order site log [] r limits p h m l o = o
returns_order site log (x ∷ more) r limits p h m l o =
    let next = with_return x r in
    let few : next.doc.count ≤ GREATEST_COUNT = omega (arith, returns_grow more next, l) in
    returns_order site log more next limits p (return_step site log x r p h m.0 few) m.1 l (return_order site log x r limits p h o)

action_order : (site : ℕ) (log : List Operation) (action : Action (List Word)) (r : Reversion) (limits : Limits) → 0 < site → IsOnWay site log r → MayRevert action
    → (with_reverted action r).doc.count ≤ GREATEST_COUNT → HasOrder r limits → HasOrder (with_reverted action r) limits
action_order site log action r limits p h c l o =
    let stamps = map (stamp_after r.returns) action.inserted in
    let left = with_removal stamps r in
    let few : left.doc.count ≤ GREATEST_COUNT = omega (arith, returns_grow action.removed left, l) in
    let way = gone_step site log stamps r p h (all_apart r.returns action.inserted h.apart c.inserted) few in
    returns_order site log action.removed left limits p way c.removed l (gone_order site log stamps r limits h way o)

all_order : (site : ℕ) (log : List Operation) (actions : List (Action (List Word))) (r : Reversion) (limits : Limits) → 0 < site → IsOnWay site log r → AllMayRevert actions
    → (with_each_reverted actions r).doc.count ≤ GREATEST_COUNT → HasOrder r limits → HasOrder (with_each_reverted actions r) limits
all_order site log [] r limits p h c l o = o
all_order site log (action ∷ actions) r limits p h c l o =
    let next = with_reverted action r in
    let few : next.doc.count ≤ GREATEST_COUNT = omega (arith, all_grow actions next, l) in
    all_order site log actions next limits p (action_step site log action r p h c.0 few) c.1 l (action_order site log action r limits p h c.0 few o)

reversion_order : (site : ℕ) (log : List Operation) (document : DocValue) (group : List (Action (List Word))) (limits : Limits) → 0 < site → IsHistory log → IsDocument site log document
    → AllMayRevert group → (reversion document group).doc.count ≤ GREATEST_COUNT → LimitsAreInOrder document.cells limits
    → LimitsAreInOrder (reversion document group).doc.cells (limits_after (reversion document group).returns limits)
reversion_order site log document group limits p h doc c l o =
    all_order site log (reverse group) (as_it_is document) limits p (record { may = tt; history = h; document = doc; apart = tt; sound = tt }) (all_reversed MayRevert group c) l o

-- each widget's limits, in the view after a group was reverted
reverted_order : (site : ℕ) (log : List Operation) (view : ViewValue) (group : List (Action (List Word))) → 0 < site → IsHistory log → IsDocument site log view.doc
    → AllMayRevert group → (reversion view.doc group).doc.count ≤ GREATEST_COUNT → HaveOrder view → HaveOrder (view_reverted view group)
reverted_order site log view group p h doc c l o = each (view.own ∷ view.others) o
  where
    each : (widgets : List WidgetValue) → AllByRecursion (LimitsAreInOrder view.doc.cells) (map (λ (own : WidgetValue). own.limits) widgets)
        → AllByRecursion (LimitsAreInOrder (reversion view.doc group).doc.cells) (map (λ (own : WidgetValue). own.limits) (map (widget_reverted view.doc group) widgets))
    each [] k = tt
    each (own ∷ widgets) k = (reversion_order site log view.doc group own.limits p h doc c l k.0, each widgets k.1)

-- where the counts fit
pub fits : (document : DocValue) (group : List (Action (List Word))) → reversion_check document group ≡ None → (reversion document group).doc.count ≤ GREATEST_COUNT
fits document group e = by (nat_lt GREATEST_COUNT count) refl e
  where
    count : ℕ
    count = (reversion document group).doc.count

    by : (b : Bool) → nat_lt GREATEST_COUNT count ≡ b
        → first_of ((if b then Some ClockSpent else None) ∷ cell_check document.limit (length (reverted document group).cells) ∷ []) ≡ None → count ≤ GREATEST_COUNT
    by true lt f = absurd (cc f)
    by false lt f = ltb-false GREATEST_COUNT count lt

pub order_reverted : {T E : Type 0} (r : Result T E) (view new : ViewValue) (group : List (Action (List Word))) → 0 < view.doc.site → IsHistory view.doc.log → IsDocument view.doc.site view.doc.log view.doc
    → AllMayRevert group → OnOk r (new ≡ view_reverted view group) → OnOk r (reversion_check view.doc group ≡ None) → OnErr r (new ≡ view) → HaveOrder view → HaveOrder new
order_reverted (Ok x) view new group p h doc sound is checked same o =
    order_same (view_reverted view group) new is (reverted_order view.doc.site view.doc.log view group p h doc sound (fits view.doc group checked) o)
order_reverted (Err e) view new group p h doc sound is checked same o = order_same view new same o

-- LIMITS THAT ARE ASKED FOR

pub order_asked : (document : DocValue) (start end : Choice) (limits chosen : Limits) → IsHistory document.log → IsDocument document.site document.log document → LimitsAreInOrder document.cells limits
    → limits_chosen document.cells start end limits ≡ Ok chosen → LimitsAreInOrder document.cells chosen
order_asked document start end limits chosen h doc o e =
    order_chosen document.cells start end limits chosen (subst (λ (cells : List TaggedCell). AreDistinct cells) (sym doc.cells) (cells_distinct document.log h))
    (subst (λ (cells : List TaggedCell). EndsFinal cells) (sym doc.cells) (ends_final document.log h)) o e

-- WIDGETS

pub order_append : (cells : List TaggedCell) (xs ys : List WidgetValue) → InOrder cells xs → InOrder cells ys → InOrder cells (xs ++ ys)
order_append cells [] ys h k = k
order_append cells (x ∷ xs) ys h k = (h.0, order_append cells xs ys h.1 k)

pub order_at : (cells : List TaggedCell) (xs : List WidgetValue) (k : ℕ) (own : WidgetValue) → slice_get xs k ≡ Some own → InOrder cells xs → LimitsAreInOrder cells own.limits
order_at cells [] k own e h = absurd (cc e)
order_at cells (x ∷ xs) zero own e h =
    let same : x ≡ own = cc e in
    subst (λ (w : WidgetValue). LimitsAreInOrder cells w.limits) same h.0
order_at cells (x ∷ xs) (suc k) own e h = order_at cells xs k own e h.1

pub order_set : (cells : List TaggedCell) (xs : List WidgetValue) (k : ℕ) (own : WidgetValue) → InOrder cells xs → LimitsAreInOrder cells own.limits → InOrder cells (set xs k own)
order_set cells [] k own h o = tt
order_set cells (x ∷ xs) zero own h o = (o, h.1)
order_set cells (x ∷ xs) (suc k) own h o = (h.0, order_set cells xs k own h.1 o)

pub order_removed : (cells : List TaggedCell) (xs : List WidgetValue) (k : ℕ) → InOrder cells xs → InOrder cells (remove xs k)
order_removed cells [] zero h = tt
order_removed cells [] (suc k) h = tt
order_removed cells (x ∷ xs) zero h = h.1
order_removed cells (x ∷ xs) (suc k) h = (h.0, order_removed cells xs k h.1)

pub set_limits : (which : OwnMark) (place : ℕ) (own : WidgetValue) → (widget_with_place which place own).limits ≡ own.limits
set_limits Insert place own = refl
set_limits Current place own = refl

pub gravity_limits : (which : OwnMark) (gravity : Gravity) (own : WidgetValue) → (widget_with_gravity which gravity own).limits ≡ own.limits
gravity_limits Insert gravity own = refl
gravity_limits Current gravity own = refl

-- a widget that has selected other characters
pub widgets_selecting : (cells : List TaggedCell) (own : WidgetValue) (others : List WidgetValue) (sel : List Stamp) → AreWidgetsOf cells own others → AreWidgetsOf cells (record own { sel = sel }) others
widgets_selecting cells own others sel h = record { own = own_of_selecting _ own sel h.own; others = h.others; limits = h.limits }
