-- A group is reverted in a history: step by step, the operations so far make it larger, and the document is that of its cells.
use Rattle.std.proofs.Common.{◌≡◌, ℕ, ◌+◌, ◌<◌, ◌≤◌, Bool, true, false, List, [], ◌∷◌, ◌||◌, length, map, refl, sym, ◌∙◌, ap, subst, arith, Option, Some, None}
use Rattle.std.specs.Prelude.{option_map, reverse, unwrap_or}
use Rattle.std.proofs.lemmas.Bool.{or_left}
use mathlib.Core.List.{reverse-cons}
use Rattle.std.specs.List.{AllByRecursion}
use Rattle.std.specs.Str.{all_scalars}
use Rattle.rt_stamps.specs.declared.limits.TheConstants.{GREATEST_COUNT, MOST_CHARACTERS, MOST_SPANS}
use Rattle.rt_stamps.specs.declared.stamp.Stamp.{Stamp}
use Rattle.rt_stamps.specs.declared.stamp.TheConstants.{FINAL}
use Rattle.rt_stamps.specs.Stamps.{is_same}
use Rattle.rt_stamps.specs.Words.{Word}
use Rattle.rt_stamps.proofs.Order.{same_sym}
use Rattle.rt_ops.specs.Operations.{Operation}
use Rattle.rt_tags.proofs.Sorted.{every_append}
use Rattle.rt_store.specs.Cells.{cell_of, stamps_of}
use Rattle.rt_store.specs.Shown.{TaggedCell}
use Rattle.rt_store.specs.Spans.{is_among}
use Rattle.rt_rga.specs.Cells.{cells_of}
use Rattle.rt_rga.specs.Drafts.{with_drafts}
use Rattle.rt_rga.specs.Histories.{IsHistory, greatest_last_count, has_character}
use Rattle.rt_rga.specs.Requests.{MayBeMade}
use Rattle.rt_rga.proofs.Appending.{drafts_append, may_append}
use Rattle.rt_rga.proofs.Corollaries.{cells_have}
use Rattle.rt_plans.specs.Deletions.{without_places}
use Rattle.rt_plans.specs.DraftLaws.{AreTagNames, IsDocument, IsElement}
use Rattle.rt_plans.specs.DocValue.{DocValue, put_after}
use Rattle.rt_plans.specs.InsertionDrafts.{text_drafts}
use Rattle.rt_plans.specs.Insertions.{counts_for, tagged_cells}
use Rattle.rt_plans.specs.RemovalDrafts.{removal_drafts}
use Rattle.rt_plans.proofs.InsertRules.{text_is_counted, text_is_made, text_may}
use Rattle.rt_plans.proofs.RemovalDraftLaws.{removal_made, removal_may}
use Rattle.rt_undo.specs.Actions.{Action, Removed}
use Rattle.rt_revert.specs.Reverting.{Reversion, are_at, as_it_is, gone_cell_of, next_in, reversion, reverted_group, since, stamp_after, still_visible, with_copy, with_each_reverted, with_insertion, with_removal, with_return, with_returns, with_reverted}
use Rattle.rt_revert.specs.ReversionLaws.{AllMayRevert, MayReturn, MayRevert}
use Rattle.rt_revert.proofs.Endings.{spares_final}
use Rattle.rt_revert.proofs.Scalars.{HasScalar, cells_have_scalars}
use Rattle.rt_revert.proofs.Soundness.{group_renamed, names_of_cells, since_apart, went_sound}
use Rattle.rt_revert.proofs.Stamps.{IsApart, after_apart, all_apart, found, gone_found, site_apart}

-- what holds of a reversion on its way
pub record IsOnWay (site : ℕ) (log : List Operation) (r : Reversion) : Type 0 where
  pub may : MayBeMade site log r.drafts
  pub history : IsHistory (with_drafts site r.drafts log)
  pub document : IsDocument site (with_drafts site r.drafts log) r.doc
  pub apart : AllByRecursion IsApart r.returns
  pub sound : AllMayRevert r.actions

-- CHARACTERS THAT GO

pub gone_step : (site : ℕ) (log : List Operation) (stamps : List Stamp) (r : Reversion) → 0 < site → IsOnWay site log r → is_among stamps FINAL ≡ false
    → (with_removal stamps r).doc.count ≤ GREATEST_COUNT → IsOnWay site log (with_removal stamps r)
gone_step site log stamps r p h n l =
    let places = are_at stamps r.doc.cells in
    let more = with_drafts site r.drafts log in
    let new = removal_drafts MOST_SPANS places r.doc.cells in
    let spared = spares_final site more r.doc stamps h.history h.document n in
    let larger = removal_made site more r.doc places p h.history h.document spared l in
    let all = sym (drafts_append site r.drafts new log) in
    record {
      may = may_append site r.drafts new log h.may (removal_may site more r.doc places h.history h.document spared);
      history = subst IsHistory all larger.history;
      document = subst (λ ops. IsDocument site ops (without_places r.doc places)) all larger.document;
      apart = h.apart;
      sound = h.sound;
    }

-- CHARACTERS THAT COME BACK

-- a document after a text was put in behind an element
record IsPut (site : ℕ) (log : List Operation) (doc_value : DocValue) (stamp : Stamp) (tags : List Word) (text : List ℕ) (larger : List Operation) : Type 0 where
  pub history : IsHistory larger
  pub cells : put_after doc_value.cells stamp (tagged_cells doc_value.site doc_value.count tags text) ≡ cells_of larger
  pub count : doc_value.count + counts_for tags text ≡ greatest_last_count larger

text_step : (site : ℕ) (log : List Operation) (doc_value : DocValue) (stamp : Stamp) (tags : List Word) (text : List ℕ) → 0 < site → IsHistory log → IsDocument site log doc_value
    → AreTagNames tags → all_scalars text ≡ true → IsElement log stamp → doc_value.count + counts_for tags text ≤ GREATEST_COUNT
    → IsPut site log doc_value stamp tags text (with_drafts site (text_drafts MOST_CHARACTERS doc_value.site doc_value.count stamp tags text) log)
text_step site log doc_value stamp tags text p h doc n t e l =
    let last = greatest_last_count log in
    let fits : last + counts_for tags text ≤ GREATEST_COUNT = omega (arith, doc.count, l) in
    let drafts : text_drafts MOST_CHARACTERS site last stamp tags text ≡ text_drafts MOST_CHARACTERS doc_value.site doc_value.count stamp tags text =
    sym (λ i. text_drafts MOST_CHARACTERS (doc.site i) (doc.count i) stamp tags text) in
    let made = text_is_made site log stamp tags text p h n t e fits in
    let put : put_after doc_value.cells stamp (tagged_cells doc_value.site doc_value.count tags text) ≡ put_after (cells_of log) stamp (tagged_cells site last tags text) =
    (λ i. put_after (doc.cells i) stamp (tagged_cells (doc.site i) (doc.count i) tags text)) in
    let counted : doc_value.count + counts_for tags text ≡ last + counts_for tags text = ap (λ k. k + counts_for tags text) doc.count in
    subst (λ drafts. IsPut site log doc_value stamp tags text (with_drafts site drafts log)) drafts
    (record { history = made.history; cells = put ∙ sym made.cells; count = counted ∙ sym (text_is_counted site log stamp tags text) })

character_step : (site : ℕ) (log : List Operation) (stamp : Stamp) (tags : List Word) (cell : TaggedCell) (r : Reversion) → 0 < site → IsOnWay site log r
    → is_same stamp FINAL ≡ false → AreTagNames tags → cell_of r.doc.cells stamp ≡ Some cell → (with_insertion stamp tags cell.ch r).doc.count ≤ GREATEST_COUNT
    → IsOnWay site log (with_insertion stamp tags cell.ch r)
character_step site log stamp tags cell r p h n t e l =
    let more = with_drafts site r.drafts log in
    let text = cell.ch ∷ [] in
    let doc = h.document in
    let there = found HasScalar r.doc.cells stamp cell (subst (AllByRecursion HasScalar) (sym doc.cells) (cells_have_scalars more h.history)) e in
    let element : IsElement more stamp = or_left (has_character more stamp) _ (character_of more r.doc.cells h.history doc.cells there.1) in
    let new = text_drafts MOST_CHARACTERS r.doc.site r.doc.count stamp tags text in
    let put = text_step site more r.doc stamp tags text p h.history doc t there.0 element l in
    let all = sym (drafts_append site r.drafts new log) in
    let may : MayBeMade site more new =
    subst (MayBeMade site more) (sym (λ i. text_drafts MOST_CHARACTERS (doc.site i) (doc.count i) stamp tags text)) (text_may site more stamp tags text t there.0 element) in
    let document : IsDocument site (with_drafts site new more) (with_copy r.doc stamp tags cell.ch) = record { cells = put.cells; site = doc.site; count = put.count } in
    record {
      may = may_append site r.drafts new log h.may may;
      history = subst IsHistory all put.history;
      document = subst (λ ops. IsDocument site ops (with_copy r.doc stamp tags cell.ch)) all document;
      apart = every_append IsApart r.returns (record { former = stamp; newer = next_in r.doc } ∷ []) h.apart (site_apart (next_in r.doc) (omega (arith, doc.site, p)), tt);
      sound = h.sound;
    }
  where
    other : (a b : Bool) → b ≡ false → (a || b) ≡ true → a ≡ true
    other true b e f = refl
    other false b e f = absurd (cc (e, f))

    character_of : (more : List Operation) (cells : List TaggedCell) → IsHistory more → cells ≡ cells_of more → is_among (stamps_of cells) stamp ≡ true → has_character more stamp ≡ true
    character_of more cells k same m =
        other (has_character more stamp) (is_same FINAL stamp) (same_sym FINAL stamp ∙ n) (sym (cells_have more k stamp) ∙ ap (λ (l : List TaggedCell). is_among (stamps_of l) stamp) (sym same) ∙ m)

-- a character that comes back, if there is one
abbrev brought : Stamp → List Word → Option TaggedCell → Reversion → Reversion
brought stamp tags o r = unwrap_or (option_map (λ (cell : TaggedCell). with_insertion stamp tags cell.ch r) o) r

pub return_step : (site : ℕ) (log : List Operation) (removed : Removed (List Word)) (r : Reversion) → 0 < site → IsOnWay site log r → MayReturn removed
    → (with_return removed r).doc.count ≤ GREATEST_COUNT → IsOnWay site log (with_return removed r)
return_step site log removed r p h c l = by (gone_cell_of r.doc.cells stamp) refl l
  where
    stamp : Stamp
    stamp = stamp_after r.returns removed.stamp

    by : (o : Option TaggedCell) → gone_cell_of r.doc.cells stamp ≡ o → (brought stamp removed.tags o r).doc.count ≤ GREATEST_COUNT → IsOnWay site log (brought stamp removed.tags o r)
    by None e f = h
    by (Some cell) e f = character_step site log stamp removed.tags cell r p h (after_apart r.returns removed.stamp h.apart c.stamp) c.tags (gone_found r.doc.cells stamp cell e).0 f

-- COUNTS RISE

return_grows : (removed : Removed (List Word)) (r : Reversion) → r.doc.count ≤ (with_return removed r).doc.count
return_grows removed r = by (gone_cell_of r.doc.cells (stamp_after r.returns removed.stamp))
  where
    by : (o : Option TaggedCell) → r.doc.count ≤ (brought (stamp_after r.returns removed.stamp) removed.tags o r).doc.count
    by None = omega arith
    by (Some cell) = omega arith

pub returns_grow : (removed : List (Removed (List Word))) (r : Reversion) → r.doc.count ≤ (with_returns removed r).doc.count
returns_grow [] r = omega arith
returns_grow (x ∷ more) r = omega (arith, return_grows x r, returns_grow more (with_return x r))

gone_grows : (stamps : List Stamp) (r : Reversion) → r.doc.count ≤ (with_removal stamps r).doc.count
gone_grows stamps r = omega arith

pub action_grows : (action : Action (List Word)) (r : Reversion) → r.doc.count ≤ (with_reverted action r).doc.count
action_grows action r =
    let stamps = map (stamp_after r.returns) action.inserted in
    omega (arith, gone_grows stamps r, returns_grow action.removed (with_removal stamps r))

pub all_grow : (actions : List (Action (List Word))) (r : Reversion) → r.doc.count ≤ (with_each_reverted actions r).doc.count
all_grow [] r = omega arith
all_grow (action ∷ actions) r = omega (arith, action_grows action r, all_grow actions (with_reverted action r))

-- ACTIONS

returns_step : (site : ℕ) (log : List Operation) (removed : List (Removed (List Word))) (r : Reversion) → 0 < site → IsOnWay site log r → AllByRecursion MayReturn removed
    → (with_returns removed r).doc.count ≤ GREATEST_COUNT → IsOnWay site log (with_returns removed r)
returns_step site log [] r p h c l = h
returns_step site log (x ∷ more) r p h c l =
    let next = with_return x r in
    let few : next.doc.count ≤ GREATEST_COUNT = omega (arith, returns_grow more next, l) in
    returns_step site log more next p (return_step site log x r p h c.0 few) c.1 l

pub action_step : (site : ℕ) (log : List Operation) (action : Action (List Word)) (r : Reversion) → 0 < site → IsOnWay site log r → MayRevert action
    → (with_reverted action r).doc.count ≤ GREATEST_COUNT → IsOnWay site log (with_reverted action r)
action_step site log action r p h c l =
    let stamps = map (stamp_after r.returns) action.inserted in
    let left = with_removal stamps r in
    let few : left.doc.count ≤ GREATEST_COUNT = omega (arith, returns_grow action.removed left, l) in
    let apart = all_apart r.returns action.inserted h.apart c.inserted in
    let gone = gone_step site log stamps r p h apart few in
    let back = returns_step site log action.removed left p gone c.removed l in
    let all = with_returns action.removed left in
    let names = names_of_cells (with_drafts site r.drafts log) r.doc.cells h.history h.document.cells in
    let new : Action (List Word) = record { number = action.number; kind = action.kind; inserted = since r all; removed = still_visible stamps r.doc.cells } in
    let fine : MayRevert new = record { inserted = since_apart (length r.returns) all.returns back.apart; removed = went_sound stamps r.doc.cells apart names } in
    record { may = back.may; history = back.history; document = back.document; apart = back.apart; sound = every_append MayRevert r.actions (new ∷ []) h.sound (fine, tt) }

all_steps : (site : ℕ) (log : List Operation) (actions : List (Action (List Word))) (r : Reversion) → 0 < site → IsOnWay site log r → AllMayRevert actions
    → (with_each_reverted actions r).doc.count ≤ GREATEST_COUNT → IsOnWay site log (with_each_reverted actions r)
all_steps site log [] r p h c l = h
all_steps site log (action ∷ actions) r p h c l =
    let next = with_reverted action r in
    let few : next.doc.count ≤ GREATEST_COUNT = omega (arith, all_grow actions next, l) in
    all_steps site log actions next p (action_step site log action r p h c.0 few) c.1 l

-- GROUPS

pub all_reversed : {X : Type 0} (P : X → Type 0) (xs : List X) → AllByRecursion P xs → AllByRecursion P (reverse xs)
all_reversed P [] h = tt
all_reversed P (x ∷ xs) h = subst (AllByRecursion P) (sym (reverse-cons x xs)) (every_append P (reverse xs) (x ∷ []) (all_reversed P xs h.1) (h.0, tt))

pub on_way : (site : ℕ) (log : List Operation) (doc_value : DocValue) (group : List (Action (List Word))) → 0 < site → IsHistory log → IsDocument site log doc_value → AllMayRevert group
    → (reversion doc_value group).doc.count ≤ GREATEST_COUNT → IsOnWay site log (reversion doc_value group)
on_way site log doc_value group p h doc s l =
    all_steps site log (reverse group) (as_it_is doc_value) p (record { may = tt; history = h; document = doc; apart = tt; sound = tt }) (all_reversed MayRevert group s) l

pub reversion_may : (site : ℕ) (log : List Operation) (doc_value : DocValue) (group : List (Action (List Word))) → 0 < site → IsHistory log → IsDocument site log doc_value → AllMayRevert group
    → (reversion doc_value group).doc.count ≤ GREATEST_COUNT → MayBeMade site log (reversion doc_value group).drafts
reversion_may site log doc_value group p h doc s l = (on_way site log doc_value group p h doc s l).may

pub reversion_made : (site : ℕ) (log : List Operation) (doc_value : DocValue) (group : List (Action (List Word))) → 0 < site → IsHistory log → IsDocument site log doc_value → AllMayRevert group
    → (reversion doc_value group).doc.count ≤ GREATEST_COUNT → IsDocument site (with_drafts site (reversion doc_value group).drafts log) (reversion doc_value group).doc
reversion_made site log doc_value group p h doc s l = (on_way site log doc_value group p h doc s l).document

pub reversion_sound : (site : ℕ) (log : List Operation) (doc_value : DocValue) (group : List (Action (List Word))) → 0 < site → IsHistory log → IsDocument site log doc_value → AllMayRevert group
    → (reversion doc_value group).doc.count ≤ GREATEST_COUNT → AllMayRevert (reverted_group doc_value group)
reversion_sound site log doc_value group p h doc s l =
    let w = on_way site log doc_value group p h doc s l in
    group_renamed (reversion doc_value group).returns (reversion doc_value group).actions w.apart w.sound
